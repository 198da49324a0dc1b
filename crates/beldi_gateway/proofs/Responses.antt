-- The bytes of a response, one part after another.
use Rattle.beldi_gateway.specs.HttpResponse.{composed}
use Rattle.beldi_gateway.proofs.Names.{IfOk, List, Result, ap, codes, length, length_text, phrase_of, status_text, subst, ℕ, ◌++◌, ◌∙◌, ◌≡◌}

pub compose_parts : (n : ℕ) (allow body first phrase size a b c d e : List ℕ) → first ≡ status_text n → phrase ≡ phrase_of n → size ≡ length_text (length body)
    → a ≡ first ++ phrase → b ≡ a ++ codes "\r\nContent-Type: application/json\r\n" → c ≡ b ++ allow → d ≡ c ++ size → e ≡ d ++ body → e ≡ composed n allow body
unfolding composed
compose_parts n allow body first phrase size a b c d e is_first is_phrase is_size pa pb pc pd pe =
    let front : first ++ phrase ≡ status_text n ++ phrase_of n = ap (λ z. z ++ phrase) is_first ∙ ap (λ z. status_text n ++ z) is_phrase in
    let head = pc ∙ ap (λ z. z ++ allow) (pb ∙ ap (λ z. z ++ codes "\r\nContent-Type: application/json\r\n") (pa ∙ front)) in
    pe ∙ ap (λ z. z ++ body) (pd ∙ ap (λ z. z ++ size) head ∙ ap (λ z. (((status_text n ++ phrase_of n) ++ codes "\r\nContent-Type: application/json\r\n") ++ allow) ++ z) is_size)

-- the same of equal parts
pub composed_same : {E : Type 0} (r : Result (List ℕ) E) (n m : ℕ) (allow other body text : List ℕ) → n ≡ m → allow ≡ other → body ≡ text → IfOk r (λ s. s ≡ composed n allow body) → IfOk r (λ s. s ≡ composed m other text)
composed_same r n m allow other body text p q e h =
    subst (λ z. IfOk r (λ s. s ≡ composed m other z)) e (subst (λ z. IfOk r (λ s. s ≡ composed m z body)) q (subst (λ z. IfOk r (λ s. s ≡ composed z allow body)) p h))
