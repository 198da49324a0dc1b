use Rattle.beldi_executor.proofs.Names.{IsAt, take}
use Rattle.beldi_executor.proofs.instance.machine_after.Given as goal

-- the machine stands where the answers so far have led
abbrev pub invariant-loop-answer : goal.invariant-loop-answer
invariant-loop-answer l = IsAt l.code l.func l.args l.inherited l.machine (take l.answer-index l.answers)
