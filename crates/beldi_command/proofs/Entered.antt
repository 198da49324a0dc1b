-- A walk that met a subcommand keeps the words that follow for it.
use Rattle.clap.specs.Walk.{Names, Text, Walk, walked}
use Rattle.std.proofs.Common.{◌≡◌, List, [], ◌∷◌, ◌++◌, Some, fold, ap, sym, ◌∙◌, append-nil, append_assoc}

pub entered : (names : Names) (w : Walk) (p : Text × List Text) (rest : List Text) → fold (walked [] names) (record w { stopped = Some p }) rest ≡ record w { stopped = Some (p.0, p.1 ++ rest) }
unfolding walked
entered names w p [] = ap (λ (l : List Text). record w { stopped = Some (p.0, l) }) (sym (append-nil p.1))
entered names w p (v ∷ rest) = entered names w (p.0, p.1 ++ v ∷ []) rest ∙ ap (λ (l : List Text). record w { stopped = Some (p.0, l) }) (append_assoc p.1 (v ∷ []) rest)
