-- The text of requests, one after another.
use Rattle.std.specs.Prelude.{OnOk}
use Rattle.std.proofs.Common.{◌≡◌, ◌+◌, ◌-◌, ◌<◌, ◌++◌, ◌∙◌, ℕ, suc, List, Result, Ok, Err, ap, sym, append_assoc, arith}
use Rattle.beldi_generator.specs.Generated.{fifth, request_of, requests_from}

-- three texts after one
pub three : {X E : Type 0} (r : Result X E) (a b c d x y z : List ℕ) → b ≡ a ++ x → c ≡ b ++ y → OnOk r (d ≡ c ++ z) → OnOk r (d ≡ a ++ (x ++ (y ++ z)))
three (Ok v) a b c d x y z p q h = h ∙ ap (λ t. t ++ z) (q ∙ ap (λ t. t ++ y) p) ∙ ap (λ t. t ++ z) (append_assoc a x y) ∙ append_assoc a (x ++ y) z ∙ ap (λ t. a ++ t) (append_assoc x y z)
three (Err e) a b c d x y z p q h = h

-- the next request, of those that are left
one_more : (k n x : ℕ) → k < n → requests_from (n - k) (k + 1) x ≡ request_of (k + 1) x ++ requests_from (n - (k + 1)) (k + 1 + 1) (fifth x)
one_more k n x l = ap (λ m. requests_from m (k + 1) x) {x = n - k} {y = suc (n - (k + 1))} (omega arith)

pub moved_on : (out more all : List ℕ) (k n x y : ℕ) → k < n → more ≡ out ++ request_of (k + 1) x → y ≡ fifth x → out ++ requests_from (n - k) (k + 1) x ≡ all → more ++ requests_from (n - (k + 1)) (k + 1 + 1) y ≡ all
moved_on out more all k n x y l text next is =
    ap (λ t. t ++ requests_from (n - (k + 1)) (k + 1 + 1) y) text ∙ append_assoc out (request_of (k + 1) x) (requests_from (n - (k + 1)) (k + 1 + 1) y)
    ∙ ap (λ z. out ++ (request_of (k + 1) x ++ requests_from (n - (k + 1)) (k + 1 + 1) z)) next ∙ ap (λ t. out ++ t) (sym (one_more k n x l)) ∙ is
