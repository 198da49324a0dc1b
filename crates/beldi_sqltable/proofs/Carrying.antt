-- What an act leaves of rows that may be told.
use Rattle.std.specs.FinMap as map
use Rattle.std.specs.Prelude.{IfSome}
use Rattle.std.proofs.Common.{◌≡◌, ℕ, ◌<◌, ◌≤◌, Bool, true, false, not, ◌&&◌, Option, None, Some, Ok, refl, subst, ap, sym, ◌∙◌, is_some, IsTrue}
use Rattle.beldi_row.{specs.KeyOrder.key_total, specs.KeyOrder.key_exact, specs.Act.Changes, specs.Act.off, specs.Act.act, specs.Act.change_reply, specs.Act.stays, specs.Act.drops, specs.Act.removes, specs.Act.here_reply, specs.Act.act_reply_of, specs.Table.Rows, specs.Table.adds, specs.Table.set_row, specs.Table.Tells, specs.Table.ActedOn, specs.Table.HasCause, specs.Key.RowKey, specs.declared.row.Row.Row, specs.declared.act.Act.Act, specs.declared.act.Act.TheVariants.Look, specs.declared.act.Change.Change, specs.declared.act.ActReplyRef.ActReplyRef, specs.declared.table.TableErr.TableErr, proofs.TableRows.none_removed, proofs.Unchanged.looked, proofs.Tells.tells_map}
use Rattle.beldi_table.proofs.Changes.{removed, unremoved}
use Rattle.beldi_row.proofs.Removed.{act_stays}
use Rattle.beldi_sqltable.specs.{RowTable.ChangedOn, Store.without, Store.written}

not_both : (b : Bool) → IsTrue b → b ≡ false → ⊥
not_both b h e = cc

adds_none : (b : Bool) → IsTrue (b && false) → ⊥
adds_none true h = cc
adds_none false h = cc

-- ---- over rows that are told
pub changed : (a : Act) (now : ℕ) (k : RowKey) (room : ℕ) (m : Rows) (r s : Row) (c : Change) → drops a ≡ false → map.get m k ≡ Some r → Changes a now r s c → ChangedOn a now k room (Some s) (Ok c) m (map.insert m k s)
changed a now k room m r s c keeps here done =
    let acted : (Some s, change_reply c (Some s)) ≡ act a now (map.get m k) = ap stays done ∙ sym (act_stays a now r keeps) ∙ ap (act a now) (sym here) in (
      ap (λ p. set_row m k p.0) acted,
      ap (λ p. p.1) acted,
      λ h. absurd (not_both (adds a now k m) h (ap (λ p. not (is_some p) && is_some (off a now).0) here)),
    )

none_added : (a : Act) (now : ℕ) (k : RowKey) (room : ℕ) (m : Rows) (r : Option Row) (c : Change) → map.get m k ≡ None → (off a now).0 ≡ None → ((v : Option Row) → change_reply c v ≡ (off a now).1) → ChangedOn a now k room r (Ok c) m m
none_added a now k room m r c here none tells = (
  sym (none_removed key_total key_exact m k here) ∙ ap (set_row m k) (sym none ∙ ap (λ p. (act a now p).0) (sym here)),
  tells r ∙ ap (λ p. (act a now p).1) (sym here),
  λ h. absurd (not_both (adds a now k m) h (ap (λ p. not (is_some p) && is_some (off a now).0) here ∙ ap is_some none)),
)

one_added : (a : Act) (now : ℕ) (k : RowKey) (room : ℕ) (m : Rows) (r : Option Row) (s : Row) (c : Change) → map.get m k ≡ None → (off a now).0 ≡ Some s → ((v : Option Row) → change_reply c v ≡ (off a now).1) → map.len m < room → ChangedOn a now k room r (Ok c) m (map.insert m k s)
one_added a now k room m r s c here some tells fits = (
  ap (set_row m k) (sym some ∙ ap (λ p. (act a now p).0) (sym here)),
  tells r ∙ ap (λ p. (act a now p).1) (sym here),
  λ h. fits,
)

look_reply : (now : ℕ) (r : Option Row) → here_reply r ≡ (act Look now r).1
look_reply now None = refl
look_reply now (Some r) = refl

looks : (now : ℕ) (k : RowKey) (room : ℕ) (m : Rows) (r : Option Row) → r ≡ map.get m k → ChangedOn Look now k room r (Ok Change.Row) m m
looks now k room m r is = (sym (looked now k m), ap here_reply is ∙ look_reply now (map.get m k), λ h. absurd (adds_none _ h))

-- ---- over rows that may be told
pub told_changed : (a : Act) (now : ℕ) (k : RowKey) (room : ℕ) (told after : Option Rows) (r s : Row) (c : Change) → drops a ≡ false → IfSome told (λ m. map.get m k ≡ Some r) → after ≡ written {E = TableErr} k s (Ok tt) told → Changes a now r s c
    → Tells told after (ChangedOn a now k room (Some s) (Ok c))
told_changed a now k room None after r s c keeps here is done = is
told_changed a now k room (Some m) after r s c keeps here is done =
    subst (λ o. Tells (Some m) o (ChangedOn a now k room (Some s) (Ok c))) (sym is) (changed a now k room m r s c keeps here done)

-- the row is there, and the act removes it, or it does not
pub told_removed : (a : Act) (now : ℕ) (k : RowKey) (room : ℕ) (told after : Option Rows) (o : Option Row) (r : Row) → drops a ≡ true → true ≡ removes a now r → IfSome told (λ m. map.get m k ≡ Some r) → after ≡ without {E = TableErr} k (Ok tt) told
    → Tells told after (ChangedOn a now k room o (Ok Change.Did))
told_removed a now k room None after o r may goes here is = is
told_removed a now k room (Some m) after o r may goes here is = subst (λ z. Tells (Some m) z (ChangedOn a now k room o (Ok Change.Did))) (sym is) (removed a now k room m (map.remove m k) r may here goes refl)

pub told_unremoved : (a : Act) (now : ℕ) (k : RowKey) (room : ℕ) (told : Option Rows) (o : Option Row) (r : Row) → drops a ≡ true → false ≡ removes a now r → IfSome told (λ m. map.get m k ≡ Some r) → Tells told told (ChangedOn a now k room o (Ok Change.NotSo))
told_unremoved a now k room None o r may stay here = refl
told_unremoved a now k room (Some m) o r may stay here = unremoved a now k room m m r may here stay refl

pub told_none : (a : Act) (now : ℕ) (k : RowKey) (room : ℕ) (told : Option Rows) (r : Option Row) (c : Change) → IfSome told (λ m. map.get m k ≡ None) → (off a now).0 ≡ None → ((v : Option Row) → change_reply c v ≡ (off a now).1)
    → Tells told told (ChangedOn a now k room r (Ok c))
told_none a now k room None r c here none tells = refl
told_none a now k room (Some m) r c here none tells = none_added a now k room m r c here none tells

pub told_added : (a : Act) (now : ℕ) (k : RowKey) (room : ℕ) (told after : Option Rows) (r : Option Row) (s : Row) (c : Change) → IfSome told (λ m. map.get m k ≡ None) → after ≡ written {E = TableErr} k s (Ok tt) told
    → (off a now).0 ≡ Some s → ((v : Option Row) → change_reply c v ≡ (off a now).1) → IfSome told (λ m. map.len m < room) → Tells told after (ChangedOn a now k room r (Ok c))
told_added a now k room None after r s c here is some tells fits = is
told_added a now k room (Some m) after r s c here is some tells fits =
    subst (λ o. Tells (Some m) o (ChangedOn a now k room r (Ok c))) (sym is) (one_added a now k room m r s c here some tells fits)

pub told_look : (a : Act) (now : ℕ) (k : RowKey) (room : ℕ) (told after : Option Rows) (r : Option Row) → a ≡ Look → after ≡ told → IfSome told (λ m. r ≡ map.get m k) → Tells told after (ChangedOn a now k room r (Ok Change.Row))
told_look a now k room None after r look same is = same
told_look a now k room (Some m) after r look same is =
    subst (λ o. Tells (Some m) o (ChangedOn a now k room r (Ok Change.Row))) (sym same)
    (subst (λ (b : Act). ChangedOn b now k room r (Ok Change.Row) m m) (sym look) (looks now k room m r is))

-- ---- what the answers of the trait say
pub acted_told : (a : Act) (now : ℕ) (k : RowKey) (room : ℕ) (told after : Option Rows) (r : Option Row) (c : Change) (s : ActReplyRef) → act_reply_of s ≡ change_reply c r → Tells told after (ChangedOn a now k room r (Ok c))
    → Tells told after (λ m n. ActedOn a now k room m n (Ok s))
acted_told a now k room told after r c s is h =
    tells_map {P = ChangedOn a now k room r (Ok c)} {Q = λ m n. ActedOn a now k room m n (Ok s)} told after (λ m n p. (p.0, is ∙ p.1, p.2)) h

-- ---- failures
pub cause_of_ok : {T : Type 0} (old new : ℕ) (x : T) → old ≤ new → HasCause old new (Ok x)
cause_of_ok old new x later = record { later = later; failed = λ h. cc }
