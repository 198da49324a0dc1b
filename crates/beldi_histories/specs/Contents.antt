-- What the rows hold of an item, and of a transaction's shadow of it.
use Rattle.std.specs.Prelude.{◌≡◌, ℕ, Bool, false, Option, Some, None}
use Rattle.beldi_value.specs.declared.{id.IntentId.IntentId, place.Owner.Owner, place.TxId.TxId}
use Rattle.beldi_plain.specs.Item.{Item}
use Rattle.beldi_row.specs.{Key.RowKey, Key.head_key as first_row, Log.owner_eq, Table.Rows, declared.key.Kind.Kind, declared.row.Row.Row}
use Rattle.beldi_chain.specs.{Chain.Chain, Chain.chain, Chain.content, Chain.tail, Content.Content}
use Rattle.beldi_links.specs.Links.{IsLinked}

-- the key of an item's first row
abbrev pub head_key : Item → RowKey
head_key x = first_row x.func x.table x.key

-- what its chain holds
abbrev pub content_of : Rows → Item → Content
content_of m x = content (chain m (head_key x))

-- its rows are linked
abbrev pub IsLinkedItem : Rows → Item → Type 0
IsLinkedItem m x = IsLinked (chain m (head_key x))

-- the owner, if any, is this one
abbrev pub is_owner : Option Owner → Owner → Bool
is_owner None o = false
is_owner (Some w) o = owner_eq w o

-- ---- transactions
-- the first row of a transaction's shadow of an item
abbrev pub shadow_key : TxId → Item → RowKey
shadow_key t x = record { home = x.func; kind = Kind.Shadow t x.table x.key 0 }

-- its chain, what that holds, and its last row, if any
abbrev pub shadow_chain : Rows → TxId → Item → Chain
shadow_chain m t x = chain m (shadow_key t x)

abbrev pub shadow_of : Rows → TxId → Item → Content
shadow_of m t x = content (shadow_chain m t x)

abbrev pub shadow_row : Rows → TxId → Item → Option Row
shadow_row m t x = tail (shadow_chain m t x)

-- its rows are linked, and nobody owns it
pub record IsAside (f : Chain) : Type 0 where
  pub linked : IsLinked f
  pub unowned : (content f).owner ≡ None

-- the shadows have the same rows
abbrev pub SameShadows : Rows → Rows → Type 0
SameShadows m n = (t : TxId) (x : Item) → shadow_chain n t x ≡ shadow_chain m t x

-- the row that says that the transaction which an intent began at a step asked for an item
abbrev pub lockset_key : IntentId → ℕ → Item → RowKey
lockset_key id b x = record { home = x.func; kind = Kind.Lockset id b x.table x.key }
