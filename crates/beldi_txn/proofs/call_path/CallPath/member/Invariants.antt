use Rattle.beldi_txn.proofs.Names.{drop, member_at, ◌≡◌}
use Rattle.beldi_txn.proofs.call_path.CallPath.member.Given as goal

-- the calls that are left lead from who was reached to where all of them lead
abbrev pub invariant-loop-call : goal.invariant-loop-call
invariant-loop-call l = member_at (l.id, l.func) (drop l.call-index l.call-items) ≡ member_at (l.tx.intent, l.tx.func) l.call-items
