use Rattle.beldi_executor.proofs.Names.{[], all_gone, ap, option_to_list, sym, ◌++◌, ◌∙◌, ◌∷◌, ◌≡◌}
use Rattle.beldi_executor.proofs.Drafts.{gone_last}
use Rattle.beldi_executor.proofs.draft.Members.forget.Goals as goal

pub loop-id-preserved : goal.loop-id-preserved
loop-id-preserved c =
    let rest = c.pop.new.self.items in
    let all : c.loop-id.ids.items ≡ rest ++ c.in-Some.id ∷ [] = c.pop.ensures.items ∙ ap (λ r. rest ++ option_to_list r) c.in-Some.is in
    ap (λ n. all_gone n rest) c.forget.ensures ∙ sym (gone_last c.loop-id.made rest c.in-Some.id) ∙ ap (all_gone c.loop-id.made) (sym all) ∙ c.loop-id.invariant
