-- A run that is set to one row and then to another.
use Rattle.std.proofs.Common.{◌≡◌, ℕ, refl, ap}
use Rattle.beldi_daal.specs.declared.cell.WriteAt.{WriteAt}
use Rattle.beldi_lock.specs.declared.lock.LockAt.{LockAt}
use Rattle.beldi_txn.specs.declared.{end.EndAt.EndAt, tx.TxAt.TxAt}
use Rattle.beldi_step.specs.RunStride.{end_to, lock_to, run_to, stage_to, tx_to, write_to}
use Rattle.beldi_step.specs.declared.run.{RunAt.RunAt, Stage.Stage}

write_twice : (a b : ℕ) (w : WriteAt) → write_to b (write_to a w) ≡ write_to b w
write_twice a b (WriteAt.Try r) = refl
write_twice a b w = refl

lock_twice : (a b : ℕ) (w : LockAt) → lock_to b (lock_to a w) ≡ lock_to b w
lock_twice a b (LockAt.Lockset begin) = refl
lock_twice a b (LockAt.Item w) = ap LockAt.Item (write_twice a b w)

tx_twice : (a b : ℕ) (w : TxAt) → tx_to b (tx_to a w) ≡ tx_to b w
tx_twice a b (TxAt.Lock w) = ap TxAt.Lock (lock_twice a b w)
tx_twice a b (TxAt.Item r) = refl
tx_twice a b w = refl

end_twice : (a b : ℕ) (w : EndAt) → end_to b (end_to a w) ≡ end_to b w
end_twice a b (EndAt.Free w) = ap EndAt.Free (write_twice a b w)
end_twice a b w = refl

stage_twice : (a b : ℕ) (s : Stage) → stage_to b (stage_to a s) ≡ stage_to b s
stage_twice a b (Stage.Walk row) = refl
stage_twice a b (Stage.Write w) = ap Stage.Write (write_twice a b w)
stage_twice a b (Stage.Tx w) = ap Stage.Tx (tx_twice a b w)
stage_twice a b (Stage.End v) = ap (λ w. Stage.End (record v { at = w })) (end_twice a b v.at)
stage_twice a b s = refl

pub run_twice : (a b : ℕ) (r : RunAt) → run_to b (run_to a r) ≡ run_to b r
run_twice a b (RunAt.Begins g) = ap (λ s. RunAt.Begins (record g { stage = s })) (stage_twice a b g.stage)
run_twice a b RunAt.Looks = refl
run_twice a b (RunAt.Registers x) = refl
