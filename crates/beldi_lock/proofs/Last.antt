-- A list that is taken apart at its last.
use Rattle.beldi_lock.proofs.Names.{List, Some, [], ap, onto_front, refl, split_last, ◌++◌, ◌∷◌, ◌≡◌}

pub split_front : {A : Type 0} (front : List A) (last : A) → split_last (front ++ last ∷ []) ≡ Some (front, last)
split_front [] last = refl
split_front (x ∷ xs) last = ap (λ s. Some (onto_front x s)) (split_front xs last)
