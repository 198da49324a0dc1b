-- A chain of rows, with one more at its end.
use Rattle.std.proofs.Common.{◌≡◌, ℕ, zero, suc, ◌+◌, Option, refl, subst, arith}
use Rattle.beldi_value.specs.declared.place.Place.{Place}
use Rattle.beldi_row.specs.{Key.RowKey, Key.at_row, Table.Rows, Table.LeadsOn, Table.Along}

pub along_one : (m : Rows) (k : RowKey) (p : Option Place) (a c : ℕ) → LeadsOn m (at_row k a) p c → Along m k p 1 a c
along_one m k p a c l = (c, l, refl)

along_suc : (m : Rows) (k : RowKey) (p : Option Place) (n a b c : ℕ) → Along m k p n a b → LeadsOn m (at_row k b) p c → Along m k p (suc n) a c
along_suc m k p zero a b c h l = (c, subst (λ x. LeadsOn m (at_row k x) p c) h l, refl)
along_suc m k p (suc n) a b c h l = (h.0, h.1, along_suc m k p n h.0 b c h.2 l)

pub along_more : (m : Rows) (k : RowKey) (p : Option Place) (n a b c : ℕ) → Along m k p n a b → LeadsOn m (at_row k b) p c → Along m k p (n + 1) a c
along_more m k p n a b c h l = subst (λ i. Along m k p i a c) {x = suc n} {y = n + 1} (omega arith) (along_suc m k p n a b c h l)
