-- Two tables with the same rows and room answer alike.
use Rattle.std.specs.FinMap as fin
use Rattle.std.proofs.Common.{◌≡◌, ℕ, ◌<◌, ◌≤◌, Result, Ok, Err, IsErrOf, refl, subst, ap, sym, ◌∙◌, arith}
use Rattle.beldi_row.specs.{Key.RowKey, Table.Rows, Table.ActedOn, Table.Rose, declared.act.Act.Act, declared.act.ActReplyRef.ActReplyRef, declared.table.TableErr.TableErr, declared.table.TableErr.TheVariants.OutOfMemory, declared.table.TableErr.TheVariants.Failed, declared.table.TableErr.TheVariants.Full}
use Rattle.beldi_region.specs.{RegionTable.answer_of, RegionTable.ActsAlike, RegionTable.rows_of}

clash : (a b : ℕ) → a < b → b ≤ a → ⊥
clash a b h g = omega (arith, h, g)

answers : (a : Act) (now : ℕ) (k : RowKey) (room : ℕ) (m n p : Rows) (x y : Result ActReplyRef TableErr) → (IsErrOf x OutOfMemory → ⊥) → (IsErrOf x Failed → ⊥) → (IsErrOf y OutOfMemory → ⊥) → (IsErrOf y Failed → ⊥)
    → ActedOn a now k room m n x → ActedOn a now k room m p y → (answer_of x ≡ answer_of y) × (n ≡ p)
answers a now k room m n p (Err OutOfMemory) y nx fx ny fy h g = absurd (nx refl)
answers a now k room m n p (Err Failed) y nx fx ny fy h g = absurd (fx refl)
answers a now k room m n p (Ok s) (Err OutOfMemory) nx fx ny fy h g = absurd (ny refl)
answers a now k room m n p (Ok s) (Err Failed) nx fx ny fy h g = absurd (fy refl)
answers a now k room m n p (Err (Full l w)) (Err OutOfMemory) nx fx ny fy h g = absurd (ny refl)
answers a now k room m n p (Err (Full l w)) (Err Failed) nx fx ny fy h g = absurd (fy refl)
answers a now k room m n p (Ok s) (Ok t) nx fx ny fy h g = (ap (λ e. Ok e) (h.1 ∙ sym g.1), h.0 ∙ sym g.0)
answers a now k room m n p (Ok s) (Err (Full l w)) nx fx ny fy h g = absurd (clash (fin.len m) room (h.2 g.1.more) g.1.filled)
answers a now k room m n p (Err (Full l w)) (Ok t) nx fx ny fy h g = absurd (clash (fin.len m) room (g.2 h.1.more) h.1.filled)
answers a now k room m n p (Err (Full l w)) (Err (Full i o)) nx fx ny fy h g = ((λ j. Err (Full ((h.1.count ∙ sym g.1.count) j) ((h.1.limit ∙ sym g.1.limit) j))), h.0 ∙ sym g.0)

none_rose : Rose 0 0 → ⊥
none_rose h = omega (arith, h)

pub acts_alike : ActsAlike
acts_alike a now k s t u v x y rows room h g =
    answers a now k s.room (rows_of s) (rows_of u) (rows_of v) x y h.never (λ e. none_rose (h.acts.cause.failed e)) g.never (λ e. none_rose (g.acts.cause.failed e)) h.acts.rows
    (subst (λ w. ActedOn a now k w (rows_of s) (rows_of v) y) (sym room) (subst (λ m. ActedOn a now k t.room m (rows_of v) y) (sym rows) g.acts.rows))
