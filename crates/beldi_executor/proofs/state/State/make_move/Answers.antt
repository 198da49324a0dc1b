use Rattle.beldi_executor.proofs.Names.{Answer, Draft, Effect, GoesOn, IsDraft, Items, List, MadeIn, Moved, Ok, Option, PlainState, Some, TxId, Was, ap, can_move, is_some, subst, sym, touched, ◌∙◌}
use Rattle.beldi_executor.proofs.{Entered.call_room, Entered.entered_result, Returned.popped_goes, Returned.popped_callee, Returned.left_moved, Returned.awaited, Touched.touched_goes, Touched.touched_wants, Touched.touched_moved, Touched.can_touch}
use Rattle.beldi_executor.proofs.state.State.make_move.Goals as goal

pub enter-requires : goal.enter-requires
enter-requires c = call_room c.args.draft.now.tx c.args.self.now.made c.args.active.id c.args.active.machine.steps c.in-Call.func c.in-Call.args c.args.active.machine.effect (sym c.wants.ensures.effect ∙ c.in-Call.is) c.requires

-- the callee is made, and its caller waits
pub returns-in-Ok : goal.returns-in-Ok
returns-in-Ok c = λ t p q g.
    let a = c.args.active in
    let can = ap (λ (t : TxId). can_move t c.args.self.now.made a.id a.machine.steps a.machine.effect) (sym g.draft.tx) ∙ c.requires in
    entered_result c.args.code.now t p q c.args.self.now c.args.draft.now a c.in-Call.func c.in-Call.args g (sym c.wants.ensures.effect ∙ c.in-Call.is) can c.enter.new.self c.enter.new.draft c.wait.new.draft c.in-Ok.callee c.wait.result
    c.in-Ok.ensures.ok.0 c.in-Ok.ensures.ok.1 c.in-Ok.ensures.ok.2 c.wait.ensures.ok c.wait.ensures.err

-- the callee ends, and its caller goes on
pub returns-in-Some : goal.returns-in-Some
returns-in-Some c = λ t p q g.
    let d = c.args.code.now in
    let r = c.args.self.now in
    let h = c.args.draft.now in
    let a = c.args.active in
    let w = c.in-Some.caller in
    let ws = c.pop.new.self in
    let o = c.in-Return.outcome in
    let returns = sym c.wants.ensures.effect ∙ c.in-Return.is in
    let can = ap (λ (t : TxId). can_move t r.made a.id a.machine.steps a.machine.effect) (sym g.draft.tx) ∙ c.requires in
    left_moved d t p q r h a w ws o g returns c.in-Some.ensures can c.leave-left.new.self c.leave-left.result
    (c.leave-left.ensures t p q g.acts.instance (record h { waiting = ws })
    (popped_goes d t p q r h a w ws o g returns c.in-Some.ensures)
    (popped_callee d t p q r h a w ws o g returns c.in-Some.ensures))

pub returns-in-None : goal.returns-in-None
returns-in-None c = λ t p q g.
    let a = c.args.active in
    let can = ap (λ (t : TxId). can_move t c.args.self.now.made a.id a.machine.steps a.machine.effect) (sym g.draft.tx) ∙ c.requires in
    absurd (awaited c.args.code.now t p q c.args.self.now c.args.draft.now a c.in-Return.outcome g (sym c.wants.ensures.effect ∙ c.in-Return.is) c.in-None.ensures can)

-- the effect is made in place, and answered
pub returns-in-Ok-Some : goal.returns-in-Ok-Some
returns-in-Ok-Some c = λ t p q g.
    let d = c.args.code.now in
    let r : PlainState = record { items = c.self.inside.items; made = c.self.inside.made } in
    let h = c.args.draft.now in
    let a = c.args.active in
    let y = c.in-Ok-Some.answer in
    let k : Draft = record h { undo = c.make.new.self } in
    let from = subst (λ (r : PlainState). GoesOn d t p q r h a) (sym c.self.view_is) g in
    let x = from.acts.instance in
    let made =
    subst (λ (e : Effect). MadeIn r.items c.make.new.items h.undo c.make.new.self x e (Ok (Some y))) c.wants.ensures.effect
    (subst (λ (o : Option Answer). MadeIn r.items c.make.new.items h.undo c.make.new.self x c.wants.result.now (Ok o)) c.in-Ok-Some.field-0-is (c.in-Ok-Some.ensures x from.acts.func)) in
    subst (λ (r : PlainState). Moved d t p q r h a c.give.new.self k c.give.result) c.self.view_is
    (touched_moved d t p q r h a c.make.new.items c.make.new.self y from made c.give.new.self c.give.result
    (c.give.ensures t p q k (touched_goes d t p q r h a c.make.new.items c.make.new.self y from made) (touched_wants a.machine.effect made.0)))

pub returns-in-Ok-None : goal.returns-in-Ok-None
returns-in-Ok-None c = λ t p q g.
    let a = c.args.active in
    let x = g.acts.instance in
    let made = subst (λ (o : Option Answer). MadeIn c.self.inside.items c.make.new.items c.args.draft.now.undo c.make.new.self x c.wants.result.now (Ok o)) c.in-Ok-None.field-0-is (c.in-Ok-None.ensures x g.acts.func) in
    let some = can_touch c.args.draft.now.tx c.args.self.now.made a.id a.machine.steps a.machine.effect c.requires (λ f v e. c.in_default.not-Call f v (c.wants.ensures.effect ∙ e)) (λ o e. c.in_default.not-Return o (c.wants.ensures.effect ∙ e)) in
    let clash = sym made.0 ∙ ap (λ e. is_some (touched e)) c.wants.ensures.effect ∙ some in
    cc

pub returns-in-Err-make : goal.returns-in-Err-make
returns-in-Err-make c = λ t p q g.
    let h = c.args.draft.now in
    let r : PlainState = record { items = c.self.inside.items; made = c.self.inside.made } in
    let from = subst (λ (r : PlainState). IsDraft t p q r h) (sym c.self.view_is) g.draft in
    let same = c.in-Err-make.ensures g.acts.instance g.acts.func in
    subst (λ (n : Items). IsDraft t p q (record { items = n; made = r.made }) (record h { undo = c.make.new.self })) (sym same.0)
    (subst (λ (us : List Was). IsDraft t p q r (record h { undo = us })) (sym same.1) from)
