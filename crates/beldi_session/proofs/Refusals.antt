-- The text of a refusal, put together.
use Rattle.beldi_session.proofs.Names.{AllocError, Err, List, Ok, OnOk, Result, ap, append_assoc, ℕ, ◌++◌, ◌∙◌, ◌≡◌}

pub three_parts : (r : Result (Unit {0}) AllocError) (o a b c j k n : List ℕ) → OnOk r (n ≡ k ++ c) → k ≡ j ++ b → j ≡ o ++ a → OnOk r (n ≡ o ++ (a ++ (b ++ c)))
three_parts (Ok u) o a b c j k n h p q = h ∙ ap (λ z. z ++ c) (p ∙ ap (λ z. z ++ b) q) ∙ append_assoc (o ++ a) b c ∙ append_assoc o a (b ++ c)
three_parts (Err e) o a b c j k n h p q = tt
