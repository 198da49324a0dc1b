-- What a path finds.
use Rattle.beldi_gateway.proofs.Names.{Bool, Endpoint, IsUtf8, IsUtf8-from_is_utf8, List, None, Option, RouteOf, Routes, Some, ap, false, first, found_in, if◌then◌else◌, is_utf8, is_utf8-from_IsUtf8, option_map, refl, subst, sym, true, ℕ, ◌∙◌, ◌≡◌}

none_by : (u : Bool) (path : List ℕ) (found : Option Endpoint) → is_utf8 path ≡ u → ¬ (IsUtf8 path) → None ≡ (if u then found else None)
none_by true path found e f = absurd (f (IsUtf8-from_is_utf8 path e))
none_by false path found e f = refl

pub no_text : (rs : Routes) (path : List ℕ) → ¬ (IsUtf8 path) → None ≡ found_in rs path
no_text rs path f = none_by (is_utf8 path) path (option_map (λ r. r.value) (first rs path)) refl f

pub found_value : (rs : Routes) (path text : List ℕ) (r : RouteOf Endpoint) → text ≡ path → IsUtf8 path → first rs text ≡ Some r → Some r.value ≡ found_in rs path
found_value rs path text r e u f =
    let g : first rs path ≡ Some r = subst (λ p. first rs p ≡ Some r) e f in
    sym (ap (λ b. if b then option_map (λ x. x.value) (first rs path) else None) (is_utf8-from_IsUtf8 path u) ∙ ap (option_map (λ x. x.value)) g)
