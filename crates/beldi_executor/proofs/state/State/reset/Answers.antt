use Rattle.beldi_executor.proofs.Names.{IsDraft, PlainState, TxId, ap, at_one, cut_to, subst, sym, ◌∙◌}
use Rattle.beldi_executor.proofs.Drafts.{reset_so}
use Rattle.beldi_executor.proofs.Names.map
use Rattle.beldi_executor.proofs.state.State.reset.Goals as goal

pub returns : goal.returns
returns c = λ t p q g few.
    let h = c.args.draft in
    let s : PlainState = record { items = c.self.inside.items; made = c.cut.new.self } in
    let now = c.self.view_is ∙ c.undo.ensures in
    reset_so h.tx p q c.args.self.now h (subst (λ t. IsDraft t p q c.args.self.now h) (sym g.tx) g) s h.tx.begin (ap (λ (t : TxId). t.begin) g.tx ∙ few)
    (ap (λ (n : PlainState). n.items) now)
    (c.cut.ensures ∙ ap (λ (n : PlainState). at_one n.made h.tx.intent (cut_to h.tx.begin) (map.get n.made h.tx.intent)) now)
