-- A text that is read line by line.
use Rattle.beldi_book.proofs.Names.{AllByRecursion, Deployment, Entry, IsLineOf, IsProper, IsTextOf, List, None, Some, [], after, ap, append-nil, append_assoc, ap₂, before, book_text, entry_text, sym, ℕ, ◌++◌, ◌∙◌, ◌∷◌, ◌≡◌}
use Rattle.beldi_book.proofs.Cuts.{joined, clear_before}

-- the front of the text that was read so far
abbrev pub SoFar : Deployment → List ℕ → List ℕ → List Entry → Type 0
SoFar code text rest es = (front : List ℕ) × (text ≡ front ++ rest) × IsTextOf code front es

book_more : (code : Deployment) (es : List Entry) (e : Entry) → book_text code (es ++ e ∷ []) ≡ book_text code es ++ (entry_text code e ++ 10 ∷ [])
book_more code [] e = append-nil (entry_text code e ++ 10 ∷ [])
book_more code (f ∷ es) e = ap (λ t. (entry_text code f ++ 10 ∷ []) ++ t) (book_more code es e) ∙ sym (append_assoc (entry_text code f ++ 10 ∷ []) (book_text code es) (entry_text code e ++ 10 ∷ []))

abbrev IsOne : Deployment → Entry → Type 0
IsOne code e = IsProper e × (after 10 (entry_text code e) ≡ None)

all_more : (code : Deployment) (es : List Entry) (e : Entry) → AllByRecursion (IsOne code) es → IsOne code e → AllByRecursion (IsOne code) (es ++ e ∷ [])
all_more code [] e h one = (one, tt)
all_more code (f ∷ es) e h one = (h.0, all_more code es e h.1 one)

pub line_read : (code : Deployment) (text rest more : List ℕ) (es : List Entry) (e : Entry) → SoFar code text rest es → after 10 rest ≡ Some more → IsLineOf code (before 10 rest) e → SoFar code text more (es ++ e ∷ [])
line_read code text rest more es e h next line =
    let text_is = sym line.text in (
      h.0 ++ (before 10 rest ++ 10 ∷ []),
      h.1 ∙ ap (λ r. h.0 ++ r) (joined 10 rest more next ∙ sym (append_assoc (before 10 rest) (10 ∷ []) more)) ∙ sym (append_assoc h.0 (before 10 rest ++ 10 ∷ []) more),
      record {
        all = ap₂ (λ f l. f ++ (l ++ 10 ∷ [])) h.2.all line.text ∙ sym (book_more code es e);
        lines = all_more code es e h.2.lines (line.proper, ap (after 10) text_is ∙ clear_before 10 rest);
      },
    )
