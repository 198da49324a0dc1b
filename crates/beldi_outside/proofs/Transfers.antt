-- A piece more was read, and lost.
use Rattle.std.proofs.Common.{arith, ◌≡◌, ◌≤◌, ◌+◌, ◌++◌, ℕ, List, length, take, Option, Ok, sym, ap, ◌∙◌, append_assoc}
use Rattle.std.proofs.lemmas.List.{length-append, length-take, take-append-drop}
use Rattle.beldi_outside.{specs.Outside.Observed, specs.Outside.ReadOn, specs.Outside.TookPrefix, proofs.Observed.told_then}

piece_more : (most n : ℕ) (bytes buf x y z : List ℕ) → length bytes + n ≤ most → x ≡ bytes ++ y → ReadOn buf (Ok n) y z → TookPrefix most x z
piece_more most n bytes buf x y z short p q = (
  bytes ++ take n y,
  append_assoc bytes (take n y) z ∙ ap (λ r. bytes ++ (take n y ++ r)) q.1 ∙ ap (λ r. bytes ++ r) (take-append-drop n y) ∙ sym p,
  grind (arith, length-append bytes (take n y), length-take n y),
)

pub lost : (most n : ℕ) (bytes buf : List ℕ) (a b c : Option (List ℕ)) → length bytes + n ≤ most → Observed a b (λ x y. x ≡ bytes ++ y) → Observed b c (ReadOn buf (Ok n)) → Observed a c (TookPrefix most)
lost most n bytes buf a b c short =
    told_then {P = λ x y. x ≡ bytes ++ y} {Q = ReadOn buf (Ok n)} {R = TookPrefix most} a b c (λ x y z. piece_more most n bytes buf x y z short)
