use Rattle.beldi_executor.proofs.Names.{Made, Ok, PlainState, Return, Tells, ap, option_copied, subst, sym, ◌∙◌}
use Rattle.beldi_executor.proofs.Made.{tells_so}
use Rattle.beldi_executor.proofs.Names.map
use Rattle.beldi_executor.proofs.state.State.end.Goals as goal

pub returns-in-Ok : goal.returns-in-Ok
returns-in-Ok c = λ q here.
    let p : PlainState = record { items = c.self.inside.items; made = c.self.inside.made } in
    let r : PlainState = record { items = c.self.inside.items; made = c.end-in-Ok.new.self } in
    let o = c.args.outcome.now in
    subst (λ (p : PlainState). Made p r c.args.id.now q (Return o) (Ok (Tells c.in-Ok-Some.waiter c.in-Ok.answer))) c.self.view_is
    (tells_so p c.args.id.now c.in-Ok-Some.waiter q c.in-Some.found.now c.in-Ok-Some.field-0 o c.in_ok-ended.ended c.in-Ok.answer c.in-Ok.answer c.tell.new.self c.end-in-Ok.new.self
    (sym c.get.ensures ∙ ap option_copied c.in-Some.is) c.in-Ok-Some.ensures c.in-Ok-Some.field-0-is c.in_ok-ended.ensures
    c.in-Ok.ensures.ok.0 c.in-Ok.ensures.ok.0
    c.in-Ok.ensures.ok.1 c.end-in-Ok.ensures
    (ap (λ (p : PlainState). map.get p.made c.args.id.now) c.self.view_is ∙ here))
