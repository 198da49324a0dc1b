-- What is so of a row of an item, by what is to be done with it.
use Rattle.std.specs.Prelude.{nat_lt, not, is_some, ◌&&◌}
use Rattle.std.proofs.Common.{◌≡◌, ℕ, Bool, true, false, List, Option, None, Some, if◌then◌else◌, refl}
use Rattle.beldi_value.specs.declared.id.IntentId.{IntentId}
use Rattle.beldi_row.specs.{Act.is_old_row, Act.is_past, declared.key.Kind.Kind, declared.row.Cell.Cell, declared.row.Row.Row}
use Rattle.beldi_prune.specs.{CellEntries.intents_of, PruneLaws.is_behind, Prune.is_newest, Prune.todo_of}
use Rattle.beldi_prune.specs.Unlink.{adrift_todo, cell_todo, item_todo, linked_todo, next_todo}
use Rattle.beldi_prune.specs.declared.found.Todo.{Todo, TheVariants.Pass, TheVariants.DropIt, TheVariants.LookAt, TheVariants.DropAdrift, TheVariants.LeadPast, TheVariants.Prove}

-- a cell that has a next and is not adrift, of a row that is not its item's first
pub record IsLinked (kind : Kind) (r : Row) (cell : Cell) (to : ℕ) (marked : Bool) : Type 0 where
  pub is : r ≡ Row.Cell cell
  pub behind : is_behind kind ≡ true
  pub next : cell.next ≡ Some to
  pub so : cell.marked ≡ marked
  pub fresh : cell.dangled ≡ None

pub record IsUnmarked (kind : Kind) (r : Row) (is : List IntentId) : Type 0 where
  pub cell : Cell
  pub to : ℕ
  pub linked : IsLinked kind r cell to false
  pub intents : intents_of cell.log ≡ is

pub record IsMarked (kind : Kind) (r : Row) (to : ℕ) : Type 0 where
  pub cell : Cell
  pub linked : IsLinked kind r cell to true

abbrev pub Judged : Kind → Row → Todo → Type 0
Judged kind r Pass = Unit {0}
Judged kind r DropIt = Unit {0}
Judged kind r LookAt = Unit {0}
Judged kind r DropAdrift = Unit {0}
Judged kind r (LeadPast to) = IsMarked kind r to
Judged kind r (Prove is) = IsUnmarked kind r is

none_there : (o : Option ℕ) → is_some o ≡ false → o ≡ None
none_there None h = refl
none_there (Some n) h = cc

module _ (life now : ℕ) (kind : Kind) (behind : is_behind kind ≡ true) where
  judged_adrift : (r : Row) (b : Bool) → Judged kind r (adrift_todo b)
  judged_adrift r true = tt
  judged_adrift r false = tt

  module _ (x : Cell) (to : ℕ) (next : x.next ≡ Some to) where
    judged_linked : x.dangled ≡ None → (b : Bool) → x.marked ≡ b → Judged kind (Row.Cell x) (linked_todo to x b)
    judged_linked fresh true so = record { cell = x; linked = record { is = refl; behind = behind; next = next; so = so; fresh = fresh } }
    judged_linked fresh false so = record { cell = x; to = to; linked = record { is = refl; behind = behind; next = next; so = so; fresh = fresh }; intents = refl }

    judged_next : (b : Bool) → is_some x.dangled ≡ b → Judged kind (Row.Cell x) (next_todo to life now x b)
    judged_next true h = judged_adrift (Row.Cell x) (is_past life now x.dangled)
    judged_next false h = judged_linked (none_there x.dangled h) x.marked refl

  judged_cell : (x : Cell) (o : Option ℕ) → x.next ≡ o → Judged kind (Row.Cell x) (cell_todo life now x o)
  judged_cell x None h = tt
  judged_cell x (Some to) h = judged_next x to h (is_some x.dangled) refl

  judged_item : (r : Row) → Judged kind r (item_todo life now r)
  judged_item (Row.Cell x) = judged_cell x x.next refl
  judged_item r = tt

module _ (newest life now : ℕ) (r : Row) where
  judged_intent : (i : IntentId) (b : Bool) → Judged (Kind.Intent i) r (if b then DropIt else Pass)
  judged_intent i true = tt
  judged_intent i false = tt

  judged_row : (t n : ℕ) (q : List ℕ) (b : Bool) → nat_lt 0 n ≡ b → Judged (Kind.Data t q n) r (if b then item_todo life now r else Pass)
  judged_row t n q true up = judged_item life now (Kind.Data t q n) up r
  judged_row t n q false up = tt

  pub judged : (kind : Kind) → Judged kind r (todo_of newest life now kind r)
  judged (Kind.Intent i) = judged_intent i (not (is_newest newest i) && is_old_row life now r)
  judged (Kind.ReadLog a) = tt
  judged (Kind.Invoke a) = tt
  judged (Kind.Data t q n) = judged_row t n q (nat_lt 0 n) refl
  judged (Kind.Shadow s t q n) = tt
  judged (Kind.Lockset i b t q) = tt
