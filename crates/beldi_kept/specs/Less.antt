-- Rows that were kept, and the table's rows, which are those less some of intents that are gone, and less rows of items whose every entry is
-- of these.
use Rattle.std.specs.Prelude.{◌≡◌, ◌⊎◌, Bool, true, false, Option, Some, None, is_some, if◌then◌else◌}
use Rattle.std.specs.FinMap as map
use Rattle.std.specs.Ordering.{is_eq}
use Rattle.beldi_value.specs.{Id.id_cmp, declared.id.IntentId.IntentId}
use Rattle.beldi_plain.specs.Item.{Item}
use Rattle.beldi_row.specs.{Key.RowKey, Table.Rows, declared.key.Kind.Kind}
use Rattle.beldi_chain.specs.Chain.{chain}
use Rattle.beldi_splice.specs.Splice.{IsThreaded, LessChain}
use Rattle.beldi_histories.specs.Contents.{head_key}
use Rattle.beldi_upkeep.specs.Callees.{belongs_to}

-- a row of an item is nobody's, and so of nobody who is gone
abbrev pub IsGone : (IntentId → Bool) → Option IntentId → Type 0
IsGone gone None = ⊥
IsGone gone (Some i) = gone i ≡ true

abbrev pub is_item : Kind → Bool
is_item (Kind.Data t k n) = true
is_item k = false

pub record Less (gone : IntentId → Bool) (m kept : Rows) : Type 0 where
  -- at each key but those of items the two agree, or the table has nothing and the key is of who is gone
  pub rows : (k : RowKey) → is_item k.kind ≡ false → (map.get m k ≡ map.get kept k) ⊎ ((map.get m k ≡ None) × IsGone gone (belongs_to k.kind))
  -- the rows of an item are as log collectors leave them
  pub cells : (x : Item) → LessChain gone (chain m (head_key x)) (chain kept (head_key x))
  pub threads : (x : Item) → is_some (map.get m (head_key x)) ≡ true → IsThreaded (chain m (head_key x))

-- .. and this one
abbrev pub and_gone : (IntentId → Bool) → IntentId → IntentId → Bool
and_gone gone i j = if is_eq (id_cmp j i) then true else gone j
