use Rattle.beldi_lang.{specs.BodyRuns.transact, proofs.Blocks.from_there, proofs.Blocks.leaves_there, proofs.Blocks.next_there, proofs.Blocks.past_end}
use Rattle.beldi_lang.proofs.Names.{Afresh, Command, Form, Frame, From, IfOk, In, List, Option, Part, Some, State, BodyWent, Went, [], ap, arith, block_size, command_at, commands_of, head, inner, left_at, option_map, run, run_block, statement_falls, statements_view, subst, sym, told, inside_part, ◌+◌, ◌∙◌, ◌∷◌, ◌≡◌}
use Rattle.beldi_lang.proofs.scope.Scope.+resume.Goals as goal

pub resume-returns-in-Transaction : goal.resume-returns-in-Transaction
resume-returns-in-Transaction t c = subst (λ (f : Form). IfOk c.resume_transaction.result (λ w. told w c.resume_transaction.new.state ≡ run c.args.self.code.now c.args.self.tables.now (command_at c.args.stmt.now.line f) (From c.args.place c.args.answer) c.args.state.now [])) (sym c.in-Transaction.is) c.resume_transaction.ensures

pub resume-returns-in-Repeat : goal.resume-returns-in-Repeat
resume-returns-in-Repeat t c = subst (λ (f : Form). IfOk c.resume_loop.result (λ w. told w c.resume_loop.new.state ≡ run c.args.self.code.now c.args.self.tables.now (command_at c.args.stmt.now.line f) (From c.args.place c.args.answer) c.args.state.now [])) (sym c.in-Repeat.is) c.resume_loop.ensures

pub resume_block-resume-requires : goal.resume_block-resume-requires
resume_block-resume-requires t c =
    let falls = statement_falls c.as_slice-stmts.result.now c.args.index c.index-stmts-index.result c.if-index-stmts.true c.index-stmts-index.is in
    let same : block_size (statements_view c.as_slice-stmts.result.now) ≡ block_size c.args.block.now = ap block_size c.as_slice-stmts.ensures in
    (omega arith, tt)

pub resume_block-returns-in-Some : goal.resume_block-returns-in-Some
resume_block-returns-in-Some t c =
    leaves_there c.args.self.code.now c.args.self.tables.now c.args.part c.as_slice-stmts.result.now c.args.index c.index-stmts-index.result (From c.args.place c.args.answer) c.args.state.now c.resume.new.state c.in_ok-went.went c.in-Some.went
    (run_block c.args.self.code.now c.args.self.tables.now (commands_of c.args.block.now) c.args.index (From c.args.place c.args.answer) c.args.state.now [])
    c.if-index-stmts.true c.index-stmts-index.is c.in_ok-went.ensures
    (from_there c.args.self.code.now c.args.self.tables.now (statements_view c.as_slice-stmts.result.now) c.args.index (From c.args.place c.args.answer) c.args.state.now []
    ∙ ap (λ (cs : List Command). run_block c.args.self.code.now c.args.self.tables.now (commands_of cs) c.args.index (From c.args.place c.args.answer) c.args.state.now []) c.as_slice-stmts.ensures)
    (subst (λ (o : Option BodyWent). (s : State) → option_map (λ v. told v s) o ≡ left_at c.args.part c.args.index (told c.in_ok-went.went s)) c.in-Some.is c.in_ok-went-2.ensures)

pub resume_block-returns-then-index-stmts : goal.resume_block-returns-then-index-stmts
resume_block-returns-then-index-stmts t c =
    let next = next_there c.args.self.code.now c.args.self.tables.now c.args.part c.as_slice-stmts.result.now c.args.index c.index-stmts-index.result (From c.args.place c.args.answer) c.args.state.now c.resume.new.state c.in_ok-went.went
    c.if-index-stmts.true c.index-stmts-index.is c.in_ok-went.ensures
    (subst (λ (o : Option BodyWent). (s : State) → option_map (λ v. told v s) o ≡ left_at c.args.part c.args.index (told c.in_ok-went.went s)) c.in_default.is c.in_ok-went-2.ensures) in
    let same = ap (λ (cs : List Command). inside_part c.args.part (run_block c.args.self.code.now c.args.self.tables.now (commands_of cs) (c.args.index + 1) Afresh c.resume.new.state [])) (sym c.as_slice-stmts.ensures)
    ∙ ap (inside_part c.args.part) next
    ∙ ap (λ (cs : List Command). inside_part c.args.part (run_block c.args.self.code.now c.args.self.tables.now (commands_of cs) c.args.index (From c.args.place c.args.answer) c.args.state.now [])) c.as_slice-stmts.ensures in
    subst (λ (v : Went (List Frame)). IfOk c.run_block.result (λ w. told w c.run_block.new.state ≡ v)) same c.run_block.ensures

pub resume_block-returns : goal.resume_block-returns
resume_block-returns t c =
    ap (inside_part c.args.part) (sym (past_end c.args.self.code.now c.args.self.tables.now c.args.part c.as_slice-stmts.result.now c.args.index (From c.args.place c.args.answer) c.args.state.now c.if-index-stmts.false))
    ∙ ap (λ (cs : List Command). inside_part c.args.part (run_block c.args.self.code.now c.args.self.tables.now (commands_of cs) c.args.index (From c.args.place c.args.answer) c.args.state.now [])) c.as_slice-stmts.ensures

pub resume_transaction-returns-in-Turn : goal.resume_transaction-returns-in-Turn
resume_transaction-returns-in-Turn t c =
    let f = run_block c.args.self.code.now c.args.self.tables.now (commands_of c.args.first.now) in
    let g = run_block c.args.self.code.now c.args.self.tables.now (commands_of c.args.second.now) in
    let at : c.args.place ≡ In c.in-Some-In.part c.in-Some-In.index ∷ c.pop-frame.new.self = c.in-Some-In.ensures ∙ ap (λ (x : Frame). x ∷ c.pop-frame.new.self) c.in-Some-In.field-0-is in
    subst (λ (p : List Frame). IfOk c.enter.result (λ w. told w c.enter.new.state ≡ transact f g (head (From p c.args.answer)) (inner (From p c.args.answer)) c.args.state.now [])) (sym at)
    (subst (λ (p : Part). IfOk c.enter.result (λ w. told w c.enter.new.state ≡ transact f g (Some (In p c.in-Some-In.index)) (From c.pop-frame.new.self c.args.answer) c.args.state.now [])) (sym c.in-Turn.is) (c.enter.ensures g))
