-- The intent collector goes on past rows that are of no open intent.
use Rattle.beldi_host.proofs.Names.{Equal, Greater, Less, None, Option, Ordering, RowKey, Rows, Some, ap, is_lt, key_cmp, key_exact, key_total, less, ordering_reverse, refl, subst, true, ◌∙◌, ◌≡◌}
use denote.Bor.{Bor}
use Rattle.beldi_row.specs.{Table.NoneOpen, Table.NoneOpenTo, Table.OpensTold, declared.table.Opens.Opens}
use Rattle.beldi_step.specs.Next.{PassesNoOpen}
use Rattle.beldi_host.specs.Survey.{PassesToldOpen}

-- none is open past a cursor
pub none_past : (m : Rows) (k q : RowKey) → NoneOpen m k → PassesNoOpen m k q
none_past m k q h = record { none = λ e r past upto there. h e r past there }

-- what is not past a key is before what that key is before
before_it : (e q end : RowKey) → (key_cmp q e ≡ Less → ⊥) → key_cmp q end ≡ Less → key_cmp e end ≡ Less
before_it e q end upto less_than = by_order (key_cmp q e) refl
  where
    by_order : (o : Ordering) → key_cmp q e ≡ o → key_cmp e end ≡ Less
    by_order Less is = absurd (upto is)
    by_order Equal is = subst (λ (z : RowKey). key_cmp z end ≡ Less) (key_exact q e is) less_than
    by_order Greater is = key_total.trans e q end (key_total.antisymm e q ∙ ap ordering_reverse is) less_than

-- none is open before one
pub none_before : (m : Rows) (k q end : RowKey) → NoneOpenTo m k end → is_lt (key_cmp q end) ≡ true → PassesNoOpen m k q
none_before m k q end h t = record { none = λ e r past upto there. h e r past (before_it e q end upto (less _ t)) there }

-- .. where the table tells it
pub told_none : (o : Option Rows) (k q : RowKey) → OpensTold k Opens.None o → PassesToldOpen o k q
told_none None k q h = tt
told_none (Some m) k q h = none_past m k q h

pub told_first : (o : Option Rows) (k q : RowKey) (end : Bor RowKey) → OpensTold k (Opens.First end) o → is_lt (key_cmp q end.now) ≡ true → PassesToldOpen o k q
told_first None k q end h t = tt
told_first (Some m) k q end h t = none_before m k q end.now h t
