-- A death is noted and told only where another has the lock.
use Rattle.std.specs.Prelude.{◌≡◌, ℕ, false, Option, Some, None}
use Rattle.beldi_value.specs.{Id.age_of, Id.is_older, declared.id.IntentId.IntentId, declared.place.Owner.Owner, declared.place.Owner.TheVariants.Tx, declared.place.Place.Place, declared.place.TxId.TxId}
use Rattle.beldi_row.specs.{declared.act.Act.Act, declared.act.Act.TheVariants.LockCell, declared.notes.Note.TheVariants.Died, declared.row.Cell.Cell, declared.row.Row.Row, Act.act, Act.died, Log.note_at, Log.owner_eq}
use Rattle.beldi_chain.specs.Content.{content_in}

-- a transaction asks for the lock of an item for a place; another owns the item, the age is that owner's, and who asks is not older
pub record HasHolder (a : Act) (r : Option Row) (p : Place) (age : IntentId) : Type 0 where
  pub asker : TxId
  pub spare : IntentId
  pub asks : a ≡ LockCell p (Tx asker) spare
  pub cell : Cell
  pub item : r ≡ Some (Row.Cell cell)
  pub holder : Owner
  pub owns : cell.owner ≡ Some holder
  pub other : owner_eq holder (Tx asker) ≡ false
  pub age_is : age ≡ age_of holder
  pub not_older : is_older asker.intent (age_of holder) ≡ false

-- whatever act on whatever row: a death that it notes, and one that it tells
pub record DiesOfHolder (a : Act) (now : ℕ) (r : Option Row) : Type 0 where
  pub noted : (p : Place) (age : IntentId) → note_at (content_in r).notes p ≡ None → note_at (content_in (act a now r).0).notes p ≡ Some (Died age) → HasHolder a r p age
  pub told : (age : IntentId) → (act a now r).1 ≡ died age → (p : Place) × HasHolder a r p age

abbrev pub DeathsHaveHolders : Type 0
DeathsHaveHolders = (a : Act) (now : ℕ) (r : Option Row) → DiesOfHolder a now r
