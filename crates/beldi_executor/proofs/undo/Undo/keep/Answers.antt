use Rattle.beldi_executor.proofs.Names.{[], all_swept, ap, option_to_list, sym, ◌++◌, ◌∙◌, ◌∷◌, ◌≡◌}
use Rattle.beldi_executor.proofs.InPlace.{swept_last}
use Rattle.beldi_executor.proofs.undo.Undo.keep.Goals as goal

pub loop-was-preserved : goal.loop-was-preserved
loop-was-preserved c =
    let rest = c.pop.new.self.items in
    let all : c.loop-was.entries.items ≡ rest ++ c.in-Some.was ∷ [] = c.pop.ensures.items ∙ ap (λ r. rest ++ option_to_list r) c.in-Some.is in
    ap (λ n. all_swept n rest) c.sweep.ensures ∙ sym (swept_last c.loop-was.items rest c.in-Some.was) ∙ ap (all_swept c.loop-was.items) (sym all) ∙ c.loop-was.invariant
