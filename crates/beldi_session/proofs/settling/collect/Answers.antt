use Rattle.beldi_session.proofs.Names.{Collect, Core, Event, Working, Ok, EventReply, Settle, [], ap, append-nil, core_of, on_ic_reply, most_events, next_of, next_run, refl, sight, subst, sym, was_taken, ◌+◌, ◌<◌, ◌∙◌, ◌∷◌, ◌≡◌}
use Rattle.beldi_session.proofs.{SessionCalls.does_on, Led.collected_so, SettleEvents.collects_so, SettleEvents.ic_taken, SettleEvents.settling_answered, SettleEvents.settling_broke, SettleEvents.went_on}
use Rattle.beldi_session.proofs.settling.collect.Goals as goal

pub returns-in-Ok-clause-does : goal.returns-in-Ok-clause-does
returns-in-Ok-clause-does g c = λ s text held faults is.
    let t = g.T.Table in
    let skip = c.ic_skip.ensures in
    let e = c.in-Ok.ensures in
    let old = c.args.host.now in
    let on = c.ic_skip.new.self in
    let a = sight on text held faults in
    let b = sight c.event.new.self text held faults in
    let at = c.args.at in
    does_on {gs = Settle c.args.budget (Working at) ∷ []}
    (went_on c.args.budget (sight old text held faults) a refl refl skip.code (ap t.state skip.table) refl s at (core_of on).cursor is skip.core skip.passes)
    (settling_answered c.args.budget a b refl refl e.code Event.Ic at (Collect at) (subst (λ z. next_of z at ≡ Collect at) (sym skip.core) (collects_so (core_of old) s at (core_of on).cursor is)) (on_ic_reply c.args.budget (next_run b.core 0) at c.in-Ok.seen) c.in-Ok.seen (Ok c.on_ic_reply-next.result) (refl, refl) e.step
    (c.on_ic_reply-next.ensures.heard ∙ ap (λ z. on_ic_reply c.args.budget z at c.in-Ok.seen) c.next_run.ensures.first, sym (append-nil text)) (λ x. cc))

pub returns-in-Ok-clause-taken : goal.returns-in-Ok-clause-taken
returns-in-Ok-clause-taken g c =
    let t = g.T.Table in
    let old = c.ic_skip.new.self in
    let new = c.event.new.self in
    ic_taken (core_of c.args.host.now) (core_of new) c.args.budget c.args.at c.in-Ok.seen c.on_ic_reply-next.result (c.on_ic_reply-next.ensures.heard ∙ ap (λ z. on_ic_reply c.args.budget z c.args.at c.in-Ok.seen) c.next_run.ensures.first)
    (subst (λ (k : Core). (c.in-Ok.seen ≡ EventReply.Spent → ⊥) → (k.taken < most_events) × ((core_of new).taken ≡ k.taken + 1)) c.ic_skip.ensures.core (was_taken old.code Event.Ic (core_of old) (core_of new) (t.state old.table) (t.state new.table) c.in-Ok.seen c.in-Ok.ensures.step))

pub returns-in-Err-clause-does : goal.returns-in-Err-clause-does
returns-in-Err-clause-does g c = λ s text held faults is.
    let t = g.T.Table in
    let skip = c.ic_skip.ensures in
    let e = c.in-Err.ensures in
    let old = c.args.host.now in
    let on = c.ic_skip.new.self in
    let a = sight on text held faults in
    let at = c.args.at in
    does_on {gs = Settle c.args.budget (Working at) ∷ []}
    (went_on c.args.budget (sight old text held faults) a refl refl skip.code (ap t.state skip.table) refl s at (core_of on).cursor is skip.core skip.passes)
    (settling_broke c.args.budget a (sight c.event.new.self text held faults) refl refl e.code Event.Ic at (Collect at) (subst (λ z. next_of z at ≡ Collect at) (sym skip.core) (collects_so (core_of old) s at (core_of on).cursor is)) c.in-Err.field-0 (Settle c.args.budget (Working at) ∷ []) (refl, refl) e.step)

pub returns-in-Ok-clause-collected : goal.returns-in-Ok-clause-collected
returns-in-Ok-clause-collected g c =
    let t = g.T.Table in
    let skip = c.ic_skip.ensures in
    let old = c.args.host.now in
    let on = c.ic_skip.new.self in
    let new = c.event.new.self in
    collected_so old.code on.code c.args.budget c.args.at (core_of old) (core_of on) (core_of new) (t.state old.table) (t.state on.table) (t.state new.table) c.on_ic_reply-next.result (core_of on).cursor c.in-Ok.seen
    skip.code skip.core (ap t.state skip.table) skip.passes c.in-Ok.ensures.step (c.on_ic_reply-next.ensures.heard ∙ ap (λ z. on_ic_reply c.args.budget z c.args.at c.in-Ok.seen) c.next_run.ensures.first)
