-- An effect that is one operation on an item: what it makes of the value, and what it is answered. A new operation is a line in
-- each table.
use Rattle.std.specs.Prelude.{ℕ, List, Option, Some, None, if◌then◌else◌}
use Rattle.std.specs.FinMap.{FinMap}
use Rattle.std.specs.FinMap as map
use Rattle.beldi_value.specs.{Passes.passes, declared.rel.Rel.Rel, declared.value.Value.Value}
use Rattle.beldi_lang.specs.declared.effect.{Answer.Answer, Effect.Effect}
use Rattle.beldi_plain.specs.Item.{Item, item_cmp}

pub data Operation : Type 0 where
  write : Value → Operation
  cond : Rel → Value → Value → Operation
  lock : Operation
  free : Operation

-- an operation on the item of a table and a key
pub record OnItem : Type 0 where
  pub table : ℕ
  pub key : List ℕ
  pub does : Operation

abbrev pub op_of : Effect → Option OnItem
op_of (Effect.Write t k v) = Some (record { table = t; key = k; does = write v })
op_of (Effect.CondWrite t k r o v) = Some (record { table = t; key = k; does = cond r o v })
op_of (Effect.Lock t k) = Some (record { table = t; key = k; does = lock })
op_of (Effect.Unlock t k) = Some (record { table = t; key = k; does = free })
op_of e = None

-- the table and key of an operation that a transaction may do
abbrev pub touched : Effect → Option (ℕ × List ℕ)
touched (Effect.Read t k) = Some (t, k)
touched (Effect.Write t k v) = Some (t, k)
touched (Effect.CondWrite t k r o v) = Some (t, k)
touched e = None

-- the item, of a function
abbrev pub item_in : ℕ → OnItem → Item
item_in func o = record { func = func; table = o.table; key = o.key }

-- ---- the value, and the answer
-- the value that it sets, if any, by the one that is there
abbrev pub sets : Operation → Value → Option Value
sets (write v) w = Some v
sets (cond r o v) w = if passes w r o then Some v else None
sets lock w = None
sets free w = None

abbrev pub or_old : Option Value → Value → Value
or_old None w = w
or_old (Some v) w = v

-- an item is set; one that is null is absent
abbrev pub set_item : FinMap item_cmp Value → Item → Value → FinMap item_cmp Value
set_item m x Value.Null = map.remove m x
set_item m x v = map.insert m x v

-- the items after it
abbrev pub set_if : FinMap item_cmp Value → Item → Option Value → FinMap item_cmp Value
set_if m x None = m
set_if m x (Some v) = set_item m x v

abbrev pub answer_after : Operation → Value → Answer
answer_after (write v) w = Answer.Done
answer_after (cond r o v) w = Answer.Value (Value.Bool (passes w r o))
answer_after lock w = Answer.Done
answer_after free w = Answer.Done
