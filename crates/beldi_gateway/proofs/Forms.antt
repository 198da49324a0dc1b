-- The forms of paths, by the routes.
use Rattle.std.proofs.Common.{Bool, List, None, Option, Some, [], ap, ap₂, arith, codes, cond, eqb-true, false, if◌then◌else◌, inl, inr, nat_lt, not, option_map, refl, subst, sym, true, ℕ, ◌++◌, ◌==◌, ◌∙◌, ◌∷◌, ◌≡◌, ◌⊎◌}
use Rattle.std.{proofs.lemmas.Bool.Decides.nat_tests, proofs.lemmas.Bool.and_parts, proofs.lemmas.Option.same_Some, specs.List.list_all, specs.Str.is_utf8}
use Rattle.matchit.proofs.OnLiterals.{matchit_on_literals}
use Rattle.matchit.specs.{Rows.RowsOf, Rows.param_token, Router.RouteOf, Seek.first, Seek.has_slash, Seek.seek, Seek.step}
use Rattle.beldi_gateway.specs.{declared.route.Endpoint.Endpoint, declared.route.Endpoint.TheVariants.Tickets, declared.route.Endpoint.TheVariants.Call, declared.route.Endpoint.TheVariants.Reply, GatewayLaws.AreBytes, GatewayLaws.HasForm, GatewayLaws.IsJustForm, GatewayLaws.is_part, Route.endpoint_at, Route.routes}
use Rattle.beldi_gateway.proofs.Seeks.{begins_so, behind_bytes, by_byte, first_part, last_part, no_slash, not_empty, not_one, nothing}

-- a path without a slash, or one cut at its first slash
abbrev Cut : List ℕ → Type 0
Cut p = (has_slash p ≡ false) ⊎ ((f : List ℕ) × (t : List ℕ) × (has_slash f ≡ false) × (p ≡ f ++ 47 ∷ t))

cut : (p : List ℕ) → Cut p
cut [] = inl refl
cut (b ∷ p) = by (cut p) (b == 47) refl
  where
    by : Cut p → (v : Bool) → (b == 47) ≡ v → Cut (b ∷ p)
    by h true e = inr ([], p, refl, ap (λ c. c ∷ p) (eqb-true b 47 e))
    by (inl h) false e = inl (ap (λ v. cond v true (has_slash p)) e ∙ h)
    by (inr h) false e = inr (b ∷ h.0, h.1, ap (λ v. cond v true (has_slash h.0)) e ∙ h.2, ap (λ r. b ∷ r) h.3)

bytes_after : (w y : List ℕ) → AreBytes (w ++ y) → AreBytes y
bytes_after [] y a = a
bytes_after (b ∷ w) y a = bytes_after w y a.1

-- a part has no slash
part_whole : (p : List ℕ) → is_part p ≡ true → has_slash p ≡ false
part_whole [] e = refl
part_whole (b ∷ p) e = by (has_slash (b ∷ p)) (sym (no_slash (b ∷ p)) ∙ e)
  where
    by : (v : Bool) → not v ≡ true → v ≡ false
    by true f = cc
    by false f = refl

a_part : (b : ℕ) (p : List ℕ) → has_slash (b ∷ p) ≡ false → is_part (b ∷ p) ≡ true
a_part b p e = no_slash (b ∷ p) ∙ ap not e

-- two parts with a slash between
abbrev TwoParts : List ℕ → Type 0
TwoParts p = (f : List ℕ) × (t : List ℕ) × (is_part f ≡ true) × (is_part t ≡ true) × (p ≡ f ++ 47 ∷ t)

are_bytes : (w : List ℕ) → list_all (λ b. nat_lt b 256) w ≡ true → AreBytes w
are_bytes [] e = tt
are_bytes (b ∷ w) e = (grind (arith, nat_tests, and_parts (nat_lt b 256) (list_all (λ c. nat_lt c 256) w) e), are_bytes w (and_parts (nat_lt b 256) (list_all (λ c. nat_lt c 256) w) e).1)

module _ {K : Type 0} where
  -- a last part, and two parts with a slash between
  abbrev one : K → RowsOf K
  one k = (param_token ∷ [], k) ∷ []

  abbrev two : K → RowsOf K
  two k = (param_token ∷ 47 ∷ param_token ∷ [], k) ∷ []

  one_from : (k q : K) (p : List ℕ) → AreBytes p → first (one k) p ≡ Some q → (is_part p ≡ true) × (q ≡ k)
  one_from k q p a e = by (is_part p) (sym (last_part k p a) ∙ e)
    where
      by : (v : Bool) → cond v (Some k) None ≡ Some q → (v ≡ true) × (q ≡ k)
      by true f = (refl, sym (same_Some k q f))
      by false f = cc

  -- a row that is over ends a path
  ends_there : (k : K) (p : List ℕ) (q : K) → first (([], k) ∷ []) p ≡ Some q → (p ≡ []) × (q ≡ k)
  unfolding seek
  ends_there k [] q e = (refl, sym (same_Some k q e))
  ends_there k (b ∷ p) q e = let clash = sym (by_byte (([], k) ∷ []) b p refl refl ∙ nothing 0 p) ∙ e in cc

  one_to : (k : K) (p : List ℕ) → AreBytes p → is_part p ≡ true → first (one k) p ≡ Some k
  one_to k p a e = last_part k p a ∙ ap (λ v. cond v (Some k) None) e

  parts_from : (k q : K) (f t : List ℕ) → AreBytes (f ++ 47 ∷ t) → has_slash f ≡ false → first (two k) (f ++ 47 ∷ t) ≡ Some q → TwoParts (f ++ 47 ∷ t) × (q ≡ k)
  parts_from k q [] t a h e = let clash = sym (not_empty k t) ∙ e in cc
  parts_from k q (b ∷ f) t a h e =
      let l = one_from k q t (bytes_after (b ∷ f) (47 ∷ t) a).1 (sym (first_part k b f t a.0 h) ∙ e) in
      ((b ∷ f, t, a_part b f h, l.0, refl), l.1)

  two_from : (k q : K) (p : List ℕ) → AreBytes p → first (two k) p ≡ Some q → TwoParts p × (q ≡ k)
  two_from k q p a e = by (cut p)
    where
      by : Cut p → TwoParts p × (q ≡ k)
      by (inl h) = let clash = sym (not_one k p a h) ∙ e in cc
      by (inr h) = subst (λ y. AreBytes y → first (two k) y ≡ Some q → TwoParts y × (q ≡ k)) (sym h.3) (λ b f. parts_from k q h.0 h.1 b h.2 f) a e

  two_to : (k : K) (f t : List ℕ) → AreBytes (f ++ 47 ∷ t) → is_part f ≡ true → is_part t ≡ true → first (two k) (f ++ 47 ∷ t) ≡ Some k
  two_to k [] t a e g = cc
  two_to k (b ∷ f) t a e g = first_part k b f t a.0 (part_whole (b ∷ f) e) ∙ one_to k t (bytes_after (b ∷ f) (47 ∷ t) a).1 g

  -- all routes, and those behind the first slash
  abbrev behind_slash : K → K → K → RowsOf K
  behind_slash c r t = (codes "call/" ++ param_token ∷ 47 ∷ param_token ∷ [], c) ∷ (codes "reply/" ++ param_token ∷ [], r) ∷ (codes "tickets", t) ∷ []

  abbrev three : K → K → K → RowsOf K
  three c r t = (codes "/call/" ++ param_token ∷ 47 ∷ param_token ∷ [], c) ∷ (codes "/reply/" ++ param_token ∷ [], r) ∷ (codes "/tickets", t) ∷ []

-- the routes as rows
pub record AreRoutes (c r t : RouteOf Endpoint) : Type 0 where
  pub rows : routes ≡ three c r t
  pub call : c.value ≡ Call
  pub reply : r.value ≡ Reply
  pub tickets : t.value ≡ Tickets

routes_are : (c : RouteOf Endpoint) × (r : RouteOf Endpoint) × (t : RouteOf Endpoint) × AreRoutes c r t
unfolding matchit_on_literals
routes_are = (_, _, _, record { rows = refl; call = refl; reply = refl; tickets = refl })

module _ (c r t : RouteOf Endpoint) where
  -- behind the first slash, the next byte is that of one route, or of none
  abbrev Next : ℕ → Type 0
  Next b =
      ((b ≡ 99) × (step b (behind_slash c r t) ≡ (codes "all/" ++ param_token ∷ 47 ∷ param_token ∷ [], c) ∷ []))
      ⊎ (((b ≡ 114) × (step b (behind_slash c r t) ≡ (codes "eply/" ++ param_token ∷ [], r) ∷ []))
      ⊎ (((b ≡ 116) × (step b (behind_slash c r t) ≡ (codes "ickets", t) ∷ [])) ⊎ (step b (behind_slash c r t) ≡ [])))

  next_is : (b : ℕ) → Next b
  next_is b = by_call (99 == b) refl
    where
      by_tickets : (v : Bool) → (99 == b) ≡ false → (114 == b) ≡ false → (116 == b) ≡ v → Next b
      by_tickets true d f e = subst Next (eqb-true 116 b e) (inr (inr (inl (refl, refl))))
      by_tickets false d f e = inr (inr (inr (rw (d, f, e) refl)))

      by_reply : (v : Bool) → (99 == b) ≡ false → (114 == b) ≡ v → Next b
      by_reply true d e = subst Next (eqb-true 114 b e) (inr (inl (refl, refl)))
      by_reply false d e = by_tickets (116 == b) d e refl

      by_call : (v : Bool) → (99 == b) ≡ v → Next b
      by_call true e = subst Next (eqb-true 99 b e) (inl (refl, refl))
      by_call false e = by_reply (114 == b) e refl

  -- what is found at a path
  abbrev Finds : List ℕ → RouteOf Endpoint → Type 0
  Finds path q = ((q ≡ c) × HasForm Call path) ⊎ (((q ≡ r) × HasForm Reply path) ⊎ ((q ≡ t) × HasForm Tickets path))

  rest_bytes : (w y p : List ℕ) → p ≡ w ++ y → AreBytes p → AreBytes y
  rest_bytes w y p e a = bytes_after w y (subst AreBytes e a)

  found_behind : (p : List ℕ) (q : RouteOf Endpoint) → AreBytes p → first (behind_slash c r t) p ≡ Some q → Finds (47 ∷ p) q
  unfolding seek
  found_behind [] q a e = cc
  found_behind (b ∷ p) q a e = by (next_is b) (sym (by_byte (behind_slash c r t) b p refl refl) ∙ e)
    where
      by : Next b → first (step b (behind_slash c r t)) p ≡ Some q → Finds (47 ∷ b ∷ p) q
      by (inl h) f =
          let l = begins_so (codes "all/") (param_token ∷ 47 ∷ param_token ∷ []) c p q (are_bytes (codes "all/") refl) (subst (λ rs. first rs p ≡ Some q) h.1 f) in
          let m = two_from c q l.0 (rest_bytes (codes "all/") l.0 p l.1 a.1) l.2 in
          inl (m.1, (m.0.0, m.0.1, m.0.2, m.0.3, ap₂ (λ x y. 47 ∷ x ∷ y) h.0 (l.1 ∙ ap (λ y. codes "all/" ++ y) m.0.4)))
      by (inr (inl h)) f =
          let l = begins_so (codes "eply/") (param_token ∷ []) r p q (are_bytes (codes "eply/") refl) (subst (λ rs. first rs p ≡ Some q) h.1 f) in
          let m = one_from r q l.0 (rest_bytes (codes "eply/") l.0 p l.1 a.1) l.2 in
          inr (inl (m.1, (l.0, m.0, ap₂ (λ x y. 47 ∷ x ∷ y) h.0 l.1)))
      by (inr (inr (inl h))) f =
          let l = begins_so (codes "ickets") [] t p q (are_bytes (codes "ickets") refl) (subst (λ rs. first rs p ≡ Some q) h.1 f) in
          let m = ends_there t l.0 q l.2 in
          inr (inr (m.1, ap₂ (λ x y. 47 ∷ x ∷ y) h.0 (l.1 ∙ ap (λ y. codes "ickets" ++ y) m.0)))
      by (inr (inr (inr h))) f = let clash = sym (nothing 0 p) ∙ subst (λ rs. first rs p ≡ Some q) h f in cc

  found : (p : List ℕ) (q : RouteOf Endpoint) → AreBytes p → first (three c r t) p ≡ Some q → Finds p q
  unfolding seek
  found [] q a e = cc
  found (b ∷ p) q a e = by (47 == b) refl (sym (by_byte (three c r t) b p refl refl) ∙ e)
    where
      by : (v : Bool) → (47 == b) ≡ v → first (step b (three c r t)) p ≡ Some q → Finds (b ∷ p) q
      by true is f = subst (λ x. first (step x (three c r t)) p ≡ Some q → Finds (x ∷ p) q) (eqb-true 47 b is) (found_behind p q a.1) f
      by false is f =
          let none : step b (three c r t) ≡ [] = rw is refl in
          let clash = sym (nothing 0 p) ∙ subst (λ rs. first rs p ≡ Some q) none f in
          cc

  call_found : (f y : List ℕ) → AreBytes (f ++ 47 ∷ y) → is_part f ≡ true → is_part y ≡ true → first (three c r t) (codes "/call/" ++ (f ++ 47 ∷ y)) ≡ Some c
  call_found f y a g h =
      by_byte (three c r t) 47 (codes "call/" ++ (f ++ 47 ∷ y)) refl refl ∙ by_byte (behind_slash c r t) 99 (codes "all/" ++ (f ++ 47 ∷ y)) refl refl
      ∙ behind_bytes (codes "all/") (param_token ∷ 47 ∷ param_token ∷ []) c (f ++ 47 ∷ y) (are_bytes (codes "all/") refl) ∙ two_to c f y a g h

  reply_found : (y : List ℕ) → AreBytes y → is_part y ≡ true → first (three c r t) (codes "/reply/" ++ y) ≡ Some r
  reply_found y a h =
      by_byte (three c r t) 47 (codes "reply/" ++ y) refl refl ∙ by_byte (behind_slash c r t) 114 (codes "eply/" ++ y) refl refl
      ∙ behind_bytes (codes "eply/") (param_token ∷ []) r y (are_bytes (codes "eply/") refl) ∙ one_to r y a h

  tickets_found : first (three c r t) (codes "/tickets") ≡ Some t
  unfolding seek
  tickets_found =
      by_byte (three c r t) 47 (codes "tickets") refl refl ∙ by_byte (behind_slash c r t) 116 (codes "ickets") refl refl
      ∙ behind_bytes (codes "ickets") [] t [] (are_bytes (codes "ickets") refl)

-- what a path is for, by what it finds
module _ (c r t : RouteOf Endpoint) (h : AreRoutes c r t) (path : List ℕ) (a : AreBytes path) where
  formed : (e : Endpoint) (q : RouteOf Endpoint) → q.value ≡ e → Finds c r t path q → HasForm e path
  formed e q is (inl f) = subst (λ x. HasForm x path) (sym h.call ∙ ap (λ x. x.value) (sym f.0) ∙ is) f.1
  formed e q is (inr (inl f)) = subst (λ x. HasForm x path) (sym h.reply ∙ ap (λ x. x.value) (sym f.0) ∙ is) f.1
  formed e q is (inr (inr f)) = subst (λ x. HasForm x path) (sym h.tickets ∙ ap (λ x. x.value) (sym f.0) ∙ is) f.1

  by_route : (e : Endpoint) (o : Option (RouteOf Endpoint)) → first routes path ≡ o → option_map (λ x. x.value) o ≡ Some e → HasForm e path
  by_route e None is f = cc
  by_route e (Some q) is f = formed e q (same_Some q.value e f) (found c r t path q a (subst (λ rs. first rs path ≡ Some q) h.rows is))

  by_text : (e : Endpoint) (u : Bool) → is_utf8 path ≡ u → (if u then option_map (λ x. x.value) (first routes path) else None) ≡ Some e → (is_utf8 path ≡ true) × HasForm e path
  by_text e true text f = (text, by_route e (first routes path) refl f)
  by_text e false text f = cc

  at_route : (p : List ℕ) (q : RouteOf Endpoint) → path ≡ p → first (three c r t) p ≡ Some q → is_utf8 path ≡ true → endpoint_at path ≡ Some q.value
  at_route p q is f text =
      ap (λ u. if u then option_map (λ x. x.value) (first routes path) else None) text ∙ ap (option_map (λ x. x.value)) (ap (λ rs. first rs path) h.rows ∙ ap (first (three c r t)) is ∙ f)

  found_at : (e : Endpoint) → is_utf8 path ≡ true → HasForm e path → endpoint_at path ≡ Some e
  found_at Tickets text f = at_route (codes "/tickets") t f (tickets_found c r t) text ∙ ap Some h.tickets
  found_at Call text f = at_route (codes "/call/" ++ (f.0 ++ 47 ∷ f.1)) c f.4 (call_found c r t f.0 f.1 (bytes_after (codes "/call/") (f.0 ++ 47 ∷ f.1) (subst AreBytes f.4 a)) f.2 f.3) text ∙ ap Some h.call
  found_at Reply text f = at_route (codes "/reply/" ++ f.0) r f.2 (reply_found c r t f.0 (bytes_after (codes "/reply/") f.0 (subst AreBytes f.2 a)) f.1) text ∙ ap Some h.reply

pub paths_have_forms : (path : List ℕ) (e : Endpoint) → AreBytes path → IsJustForm path e
paths_have_forms path e a =
    let h = routes_are in
    record { formed = by_text h.0 h.1 h.2 h.3 path a e (is_utf8 path) refl; found = found_at h.0 h.1 h.2 h.3 path a e }
