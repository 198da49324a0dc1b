-- What a host is asked for between two events: its least live run past a number, and that the intent collector begins anew, or goes on past
-- rows that are of no open intent.
use Rattle.std.specs.Prelude.{◌≡◌, ℕ, nat_lt, false, List, [], ◌∷◌, Option, Some, None, if◌then◌else◌}
use Rattle.std.specs.FinMap as map
use Rattle.std.specs.declared.cmp.Ordering.TheVariants.{Less}
use Rattle.beldi_row.specs.{Key.RowKey, Key.key_cmp, Key.least_key, declared.row.Row.Row, Table.Rows, Table.is_open}
use Rattle.beldi_step.specs.HostStep.{Core}
use Rattle.beldi_step.specs.declared.run.Run.{Run}

-- the first of these runs, which are in order, past a number
abbrev pub first_past : ℕ → List (ℕ × Run) → Option ℕ
first_past i [] = None
first_past i (r ∷ rs) = if nat_lt i r.0 then Some r.0 else first_past i rs

-- the least live run past a number
abbrev pub next_run : Core → ℕ → Option ℕ
next_run c i = first_past i (map.entries c.runs)

-- the intent collector stands before all rows
abbrev pub reset : Core → Core
reset c = record c { cursor = least_key }

-- .. or at a key
abbrev pub at_key : RowKey → Core → Core
at_key k c = record c { cursor = k }

-- no open intent has a key past one of these, up to the other
pub record PassesNoOpen (m : Rows) (k q : RowKey) : Type 0 where
  pub none : (e : RowKey) (r : Row) → key_cmp k e ≡ Less → (key_cmp q e ≡ Less → ⊥) → map.get m e ≡ Some r → is_open e.kind r ≡ false
