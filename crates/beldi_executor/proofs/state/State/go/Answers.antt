use Rattle.beldi_executor.proofs.Names.{ap, arith, can_move, false, going, inl, inr, is_stop, most, option_copied, rules, sym, true, ◌<◌, ◌∙◌, ◌≡◌}
use Rattle.beldi_executor.proofs.Leads.{first_turn, turned, halted}
use Rattle.beldi_executor.proofs.state.State.go.Goals as goal

pub loop-turn-init : goal.loop-turn-init
loop-turn-init c = λ t p q start enough g.
    first_turn c.args.code.now t p q (option_copied c.args.stop) (going c.args.self.now c.args.draft.now c.args.active) start c.args.self.now c.args.draft.now c.args.active g

pub returns-then-is_stop : goal.returns-then-is_stop
returns-then-is_stop c = λ t p q start enough g.
    let few : c.loop-turn.turn < most = omega arith in
    halted c.args.code.now t p q (option_copied c.args.stop) (going c.args.self.now c.args.draft.now c.args.active) start c.loop-turn.self c.loop-turn.draft c.loop-turn.active c.loop-turn.turn
    enough few (c.loop-turn.invariant t p q start enough g) (inl (search rules))

pub returns-in-Err : goal.returns-in-Err
returns-in-Err c = λ t p q start enough g. (c.loop-turn.invariant t p q start enough g).goes.draft

pub returns-then-not-moves : goal.returns-then-not-moves
returns-then-not-moves c = λ t p q start enough g.
    let a = c.loop-turn.active in
    let u = c.loop-turn.invariant t p q start enough g in
    let few : c.loop-turn.turn < most = omega arith in
    let none : c.in-Ok.moves ≡ false = search rules in
    halted c.args.code.now t p q (option_copied c.args.stop) (going c.args.self.now c.args.draft.now c.args.active) start c.loop-turn.self c.loop-turn.draft a c.loop-turn.turn
    enough few u (inr (ap (λ t. can_move t c.loop-turn.self.made a.id a.machine.steps a.machine.effect) (sym u.goes.draft.tx) ∙ sym c.in-Ok.ensures ∙ none))

pub make_move-requires : goal.make_move-requires
make_move-requires c =
    let some : c.in-Ok.moves ≡ true = search rules in
    sym c.in-Ok.ensures ∙ some

pub returns-in-Err-make_move : goal.returns-in-Err-make_move
returns-in-Err-make_move c = λ t p q start enough g.
    let u = c.loop-turn.invariant t p q start enough g in
    c.in-Err-make_move.ensures t p q u.goes

pub loop-turn-preserved : goal.loop-turn-preserved
loop-turn-preserved c = λ t p q start enough g.
    let a = c.loop-turn.active in
    let u = c.loop-turn.invariant t p q start enough g in
    let few : c.loop-turn.turn < most = omega arith in
    let goes : is_stop (option_copied c.args.stop) a ≡ false = search rules in
    turned c.args.code.now t p q (option_copied c.args.stop) (going c.args.self.now c.args.draft.now c.args.active) start c.loop-turn.self c.loop-turn.draft a
    c.make_move.new.self c.make_move.new.draft c.in-Ok-make_move.next c.loop-turn.turn enough few u goes
    (c.in-Ok-make_move.ensures t p q u.goes)

pub returns : goal.returns
returns c = λ t p q start enough g. (c.loop-turn.invariant t p q start enough g).goes.draft
