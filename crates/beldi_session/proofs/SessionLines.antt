-- The lines of a script, one after another.
use Rattle.beldi_session.proofs.Names.{Action, Deployment, Err, Line, List, Numbered, Ok, Refusal, Result, [], actions_in, actions_of, and_then, ap, append-nil, append_assoc, false, is_ok, is_whole, refl, said_at, sym, true, ◌&&◌, ◌++◌, ◌∙◌, ◌∷◌, ◌≡◌}

-- ---- a line and what follows it
at_line : (o : Result Line Refusal) (es : List Action) → is_ok o ≡ true → and_then o [] ++ es ≡ and_then o es
at_line (Ok l) es h = ap (λ z. z ++ es) (append-nil (actions_of l))
at_line (Err x) es h = cc

at_refused : (o : Result Line Refusal) (es : List Action) → is_ok o ≡ false → and_then o [] ≡ and_then o es
at_refused (Ok l) es h = cc
at_refused (Err x) es h = refl

-- what a line that stops keeps from being done
abbrev pub after_line : Result Line Refusal → List Action → List Action
after_line (Ok l) es = es
after_line (Err x) es = []

at_stop : (o : Result Line Refusal) (es : List Action) → and_then o [] ++ after_line o es ≡ and_then o es
at_stop (Ok l) es = ap (λ z. z ++ es) (append-nil (actions_of l))
at_stop (Err x) es = refl

-- ---- in a script: some actions were done before these lines
module _ (d : Deployment) (line : Numbered) (lines rest more : List Numbered) (cut : rest ≡ line ∷ more) (done : List Action) (all : done ++ actions_in d rest ≡ actions_in d lines) where
  cut_all : done ++ and_then (said_at d line) (actions_in d more) ≡ actions_in d lines
  cut_all = ap (λ z. done ++ actions_in d z) (sym cut) ∙ all

  pub goes_on : is_ok (said_at d line) ≡ true → (done ++ and_then (said_at d line) []) ++ actions_in d more ≡ actions_in d lines
  goes_on h = append_assoc done (and_then (said_at d line) []) (actions_in d more) ∙ ap (λ z. done ++ z) (at_line (said_at d line) (actions_in d more) h) ∙ cut_all

  pub is_refused : is_ok (said_at d line) ≡ false → done ++ and_then (said_at d line) [] ≡ actions_in d lines
  is_refused h = ap (λ z. done ++ z) (at_refused (said_at d line) (actions_in d more) h) ∙ cut_all

  pub stops : (done ++ and_then (said_at d line) []) ++ after_line (said_at d line) (actions_in d more) ≡ actions_in d lines
  stops = append_assoc done (and_then (said_at d line) []) (after_line (said_at d line) (actions_in d more)) ∙ ap (λ z. done ++ z) (at_stop (said_at d line) (actions_in d more)) ∙ cut_all

  pub whole_on : is_ok (said_at d line) ≡ true → is_whole d rest ≡ is_whole d lines → is_whole d more ≡ is_whole d lines
  whole_on h w = ap (λ z. z && is_whole d more) (sym h) ∙ ap (is_whole d) (sym cut) ∙ w

  pub not_whole : is_ok (said_at d line) ≡ false → is_whole d rest ≡ is_whole d lines → is_whole d lines ≡ false
  not_whole h w = sym w ∙ ap (is_whole d) cut ∙ ap (λ z. z && is_whole d more) h
