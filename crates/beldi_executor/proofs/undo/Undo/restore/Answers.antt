use Rattle.beldi_executor.proofs.Names.{AllHaveRoom, [], all_back, ap, option_to_list, subst, sym, ◌++◌, ◌∙◌, ◌∷◌, ◌≡◌}
use Rattle.beldi_executor.proofs.InPlace.{back_last, room_parts}
use Rattle.beldi_executor.proofs.undo.Undo.restore.Goals as goal

pub put_back-requires : goal.put_back-requires
put_back-requires c =
    let rest = c.pop.new.self.items in
    let all : c.loop-was.entries.items ≡ rest ++ c.in-Some.was ∷ [] = c.pop.ensures.items ∙ ap (λ r. rest ++ option_to_list r) c.in-Some.is in
    (room_parts c.loop-was.items rest c.in-Some.was (subst (AllHaveRoom c.loop-was.items) all c.loop-was.invariant.0)).0

pub loop-was-preserved : goal.loop-was-preserved
loop-was-preserved c =
    let rest = c.pop.new.self.items in
    let all : c.loop-was.entries.items ≡ rest ++ c.in-Some.was ∷ [] = c.pop.ensures.items ∙ ap (λ r. rest ++ option_to_list r) c.in-Some.is in (
      subst (λ n. AllHaveRoom n rest) (sym c.put_back.ensures) (room_parts c.loop-was.items rest c.in-Some.was (subst (AllHaveRoom c.loop-was.items) all c.loop-was.invariant.0)).1,
      ap (λ n. all_back n rest) c.put_back.ensures ∙ sym (back_last c.loop-was.items rest c.in-Some.was) ∙ ap (all_back c.loop-was.items) (sym all) ∙ c.loop-was.invariant.1,
    )
