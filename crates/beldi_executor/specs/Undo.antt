-- What a transaction does to the items in place: what it sets is there at once, null as a value too, and what was there is kept.
use Rattle.std.specs.Prelude.{◌≡◌, ℕ, true, false, List, [], ◌∷◌, ◌++◌, Option, Some, None, is_some, Result, Ok, Err}
use Rattle.std.specs.{FinMap.FinMap, declared.alloc.AllocError.AllocError}
use Rattle.std.specs.FinMap as map
use Rattle.beldi_value.specs.declared.value.Value.{Value}
use Rattle.beldi_tree.specs.Bindings.{or_null}
use Rattle.beldi_lang.specs.declared.effect.{Answer.Answer, Effect.Effect}
use Rattle.beldi_plain.specs.{Item.Item, Item.item_cmp, Operation.OnItem, Operation.op_of, Operation.item_in, Operation.sets, Operation.touched, Plain.Instance}
use Rattle.beldi_executor.specs.{Executor.answer_by, declared.undo.Was.Was}

-- the values as they are in place
abbrev pub Items : Type 0
Items = FinMap item_cmp Value

abbrev pub item_was : Was → Item
item_was w = record { func = w.func; table = w.table; key = w.key }

abbrev pub was : Item → Option Value → Was
was x v = record { func = x.func; table = x.table; key = x.key; value = v }

-- an item is set, and what it was is kept
abbrev pub put_in : Items → Item → Option Value → Items
put_in m x None = m
put_in m x (Some v) = map.insert m x v

abbrev pub kept_in : Items → List Was → Item → Option Value → List Was
kept_in m ws x None = ws
kept_in m ws x (Some v) = ws ++ was x (map.get m x) ∷ []

-- .. as an operation does
abbrev pub puts : Items → ℕ → Option OnItem → Items
puts m func None = m
puts m func (Some o) = put_in m (item_in func o) (sets o.does (or_null (map.get m (item_in func o))))

abbrev pub keeps : Items → List Was → ℕ → Option OnItem → List Was
keeps m ws func None = ws
keeps m ws func (Some o) = kept_in m ws (item_in func o) (sets o.does (or_null (map.get m (item_in func o))))

-- an effect inside a transaction, with the answer to it; none is made of any other
abbrev pub MadeIn : Items → Items → List Was → List Was → Instance → Effect → Result (Option Answer) AllocError → Type 0
MadeIn m n ws us q e (Ok (Some a)) = (is_some (touched e) ≡ true) × (n ≡ puts m q.func (op_of e)) × (us ≡ keeps m ws q.func (op_of e)) × (answer_by m q e ≡ Some a)
MadeIn m n ws us q e (Ok None) = (is_some (touched e) ≡ false) × (n ≡ m) × (us ≡ ws)
MadeIn m n ws us q e (Err w) = (n ≡ m) × (us ≡ ws)

-- ---- put back
-- an item is as it was
abbrev pub back : Items → Item → Option Value → Items
back m x None = map.remove m x
back m x (Some v) = map.insert m x v

-- all are, the last that was set first
abbrev pub all_back : Items → List Was → Items
all_back m [] = m
all_back m (w ∷ ws) = back (all_back m ws) (item_was w) w.value

-- .. with no memory: what had a value has one still
abbrev pub HasRoom : Items → Item → Option Value → Type 0
HasRoom m x None = Unit {0}
HasRoom m x (Some v) = is_some (map.get m x) ≡ true

abbrev pub AllHaveRoom : Items → List Was → Type 0
AllHaveRoom m [] = Unit {0}
AllHaveRoom m (w ∷ ws) = AllHaveRoom m ws × HasRoom (all_back m ws) (item_was w) w.value

-- these were the items before
pub record IsUndone (before m : Items) (ws : List Was) : Type 0 where
  pub back : all_back m ws ≡ before
  pub room : AllHaveRoom m ws

-- ---- kept
-- null is absent
abbrev pub swept_if : Items → Item → Option Value → Items
swept_if m x (Some Value.Null) = map.remove m x
swept_if m x o = m

abbrev pub swept : Items → Item → Items
swept m x = swept_if m x (map.get m x)

-- the items as the transaction leaves them
abbrev pub all_swept : Items → List Was → Items
all_swept m [] = m
all_swept m (w ∷ ws) = swept (all_swept m ws) (item_was w)
