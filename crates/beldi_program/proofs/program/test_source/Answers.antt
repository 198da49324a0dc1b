use Rattle.beldi_program.proofs.Names.{CheckEnds, Err, List, Refusal, Result, check_at, subst, sym, ℕ, ◌≡◌}
use Rattle.beldi_program.proofs.Ends.{untold}
use Rattle.beldi_program.proofs.program.test_source.Goals as goal

pub returns-in-Ok : goal.returns-in-Ok
returns-in-Ok g c = let k = g.K.Sink in subst (λ (o : Result (List ℕ) Refusal). CheckEnds k.held k.faults o c.args.sink.now c.tell_tested-ended.new.sink c.tell_tested-ended.result) (sym c.in-Ok.ensures) c.tell_tested-ended.ensures

pub returns-in-Err-Refused : goal.returns-in-Err-Refused
returns-in-Err-Refused g c =
    let k = g.K.Sink in
    let refused : check_at c.args.bytes.now ≡ Err c.in-Err-Refused.refusal = rw c.in-Err-Refused.field-0-is at c.in-Err-Refused.ensures in
    subst (λ (o : Result (List ℕ) Refusal). CheckEnds k.held k.faults o c.args.sink.now c.refuse_source-ended.new.sink c.refuse_source-ended.result) (sym refused) c.refuse_source-ended.ensures

pub returns-in-Err-OutOfMemory : goal.returns-in-Err-OutOfMemory
returns-in-Err-OutOfMemory g c = let k = g.K.Sink in untold k.held k.faults (check_at c.args.bytes.now) c.args.sink.now
