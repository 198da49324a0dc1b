use Rattle.beldi_plain.specs.Transaction.{enough}
use Rattle.beldi_executor.proofs.Names.{Comes, Some, ap, false, is_stop, no_end, option_copied, refl, rules, subst, sym, true, wants_answer, ◌≡◌}
use Rattle.beldi_executor.proofs.Leads.{enough_first, left_enough, falls_so, no_place}
use Rattle.beldi_executor.proofs.state.State.abort.Goals as goal

pub returns-in-Err : goal.returns-in-Err
returns-in-Err c = λ t p q x g begins here. c.in-Err.ensures t p q x enough enough_first g (ap wants_answer begins) here

pub returns-then-not-is_stop : goal.returns-then-not-is_stop
returns-then-not-is_stop c = λ t p q x g begins here.
    let w = c.in-Ok.ensures t p q x enough enough_first g (ap wants_answer begins) here in
    let goes : is_stop (Some c.args.place.now) c.in-Ok.active ≡ false = search rules in (
      w.goes.draft,
      no_place c.args.code.now t p q _ enough c.go_on.new.self c.go_on.new.draft c.in-Ok.active w.goes.acts.instance w.goes.acts.made c.args.place.now (option_copied c.args.holder) w goes,
      refl,
    )

pub returns : goal.returns
returns c = λ t p q x g begins here.
    let d = c.args.code.now in
    let w = c.in-Ok.ensures t p q x enough enough_first g (ap wants_answer begins) here in
    let y = w.goes.acts.instance in
    let stops : is_stop (Some c.args.place.now) c.in-Ok.active ≡ true = search rules in
    let is = falls_so d t p q _ enough c.go_on.new.self c.go_on.new.draft c.in-Ok.active y w.goes.acts.made c.args.place.now (option_copied c.args.holder) w stops in
    subst (λ o. Comes d t p q c.fall.new.draft o (no_end false) c.fall.new.self c.fall.result) (sym is)
    (c.fall.ensures t p q y w.left (left_enough w.left w.fuel) w.goes w.goes.acts.made)
