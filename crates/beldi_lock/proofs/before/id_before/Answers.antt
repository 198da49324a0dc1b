use Rattle.std.specs.Prelude.{IfOk}
use Rattle.beldi_lock.proofs.{Names.ap, Names.filled, Names.rules, Names.subst, Names.sym, Names.◌≡◌, Names.◌∙◌, IdBefore.before_zero, IdBefore.before_more}
use Rattle.beldi_lock.proofs.before.id_before.Goals as goal

pub returns-in-Some-eq0 : goal.returns-in-Some-eq0
returns-in-Some-eq0 c =
    let zero = before_zero c.args.id.now _ (sym c.as_slice.ensures.items ∙ sym c.in_ok-steps.ensures.items ∙ search rules) in
    subst (λ x. IfOk c.with_steps.result (λ a. a ≡ x)) zero c.with_steps.ensures

pub returns-in_ok-fill-in-Some : goal.returns-in_ok-fill-in-Some
returns-in_ok-fill-in-Some c =
    let more = ap (λ hs. record { ticket = c.args.id.now.ticket; hops = hs }) (c.in_ok-fill-in-Some.ensures.ok ∙ ap (filled 63) c.in_ok-push-in-Some.ensures.items)
    ∙ before_more c.args.id.now _ c.in-Some.last (sym c.as_slice.ensures.items ∙ sym c.in_ok-steps.ensures.items ∙ search rules) c.in-Some.last-test.1 in
    subst (λ x. IfOk c.with_steps-in-Some.result (λ a. a ≡ x)) more c.with_steps-in-Some.ensures
