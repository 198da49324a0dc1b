-- What the table's rows tell of a plain state where rows of some intents are gone: as rows that stand for it, but that nothing is said of a
-- transaction whose decision is absent, nor of its shadows, unless its owner's row is there and its finish is not old.
use Rattle.std.specs.Prelude.{◌≡◌, ◌⊎◌, ◌≤◌, ℕ, true, false, slice_get, is_some, Option, Some, None}
use Rattle.std.specs.FinMap as map
use Rattle.beldi_value.specs.{Id.root_of, declared.id.IntentId.IntentId, declared.place.Owner.TheVariants.Intent, declared.place.Owner.TheVariants.Tx, declared.place.TxId.TxId}
use Rattle.beldi_tree.specs.declared.deployment.Deployment.{Deployment}
use Rattle.beldi_lang.specs.declared.effect.Answer.{Answer}
use Rattle.beldi_plain.specs.{Holds.holds, Item.Item, Legal.run_of, Listing.listing_of, Plain.Instance, Plain.PlainState, Plain.effect_before, Plain.value_at}
use Rattle.beldi_plain_laws.specs.Txs.{tx_at}
use Rattle.beldi_row.specs.{Key.RowKey, Table.Rows, declared.row.Body.Body, declared.row.IntentRow.IntentRow, declared.row.Row.Row}
use Rattle.beldi_chain.specs.Chain.{chain}
use Rattle.beldi_links.specs.Links.{IsLinked}
use Rattle.beldi_splice.specs.Splice.{IsThreaded}
use Rattle.beldi_intent.specs.Intent.{intent_key, is_ended, root_key}
use Rattle.beldi_step.specs.{HostStep.Core, Tables.decision_key, Tables.tables_text}
use Rattle.beldi_step.specs.declared.run.{Begun.Begun, Run.Run}
use Rattle.beldi_histories.specs.{Extends.Extends, Histories.Histories, Contents.content_of, Contents.head_key, Contents.is_owner, Contents.shadow_chain, Listed.listed, Stands.HasNotEnded, Stands.IsGivingBack, Stands.IsMade, Stands.IsUndecided, Stands.has_place, Stands.held_answer, Stands.key_in}
use Rattle.beldi_invariant.specs.OneAnswer.{HasAnswers, IsBegun, WasGiven}
use Rattle.beldi_kept.specs.KeptRows.{HasKept, IsOld}

-- a row of an intent that is there, and has no finish that was old at a moment
pub record IsFresh (life latest : ℕ) (m : Rows) (k : RowKey) : Type 0 where
  pub row : IntentRow
  pub there : map.get m k ≡ Some (Row.Intent row)
  pub fresh : IsOld life latest row.finish → ⊥

-- the rows tell whether a transaction was decided
abbrev pub TellsDecision : ℕ → ℕ → Rows → TxId → Type 0
TellsDecision life latest m t = (is_some (map.get m (decision_key t)) ≡ true) ⊎ IsFresh life latest m (intent_key t.intent t.func)

pub record StandsLess (d : Deployment) (latest : ℕ) (m : Rows) (p : PlainState) : Type 0 where
  -- each item is listed with its plain value
  pub items : (x : Item) → listed m x ≡ value_at p x
  -- each intent row with a body was made so, with the plain outcome, where it was called in no transaction, or in one that the rows tell as committed ..
  pub made : (home : ℕ) (id : IntentId) (i : IntentRow) (b : Body) → map.get m (key_in home id) ≡ Some (Row.Intent i) → i.body ≡ Some b → has_place m b.tx ≡ true → IsMade p id i b
  -- .. and was not made where they tell that it is not
  pub unmade : (home : ℕ) (id : IntentId) (i : IntentRow) (b : Body) (t : TxId) → map.get m (key_in home id) ≡ Some (Row.Intent i) → i.body ≡ Some b → b.tx ≡ Some t → TellsDecision d.life latest m t → has_place m (Some t) ≡ false → map.get p.made id ≡ None
  -- where such an intent has not ended, each answer of its instance is held by the rows
  pub held : (home : ℕ) (id : IntentId) (i : IntentRow) (b : Body) → map.get m (key_in home id) ≡ Some (Row.Intent i) → i.body ≡ Some b → has_place m b.tx ≡ true → is_ended i ≡ false
      → (q : Instance) → map.get p.made id ≡ Some q → (n : ℕ) (a : Answer) → slice_get q.answers n ≡ Some a → held_answer m id q.func n (tx_at d id q n) (effect_before d q n) ≡ Some a
  -- each root without outcome has its row, which has not ended
  pub open_roots : (t : ℕ) (q : Instance) → map.get p.made (root_of t) ≡ Some q → q.outcome ≡ None → HasNotEnded m (root_key t)
  -- items are owned as in rows that are all there, and the rows of an item lead to its last one; those of the shadows of which the rows tell
  -- are linked
  pub locks : (x : Item) (j : IntentId) → is_owner (content_of m x).owner (Intent j) ≡ holds d x (map.get p.made j)
  pub owned : (x : Item) (t : TxId) → (content_of m x).owner ≡ Some (Tx t) → IsUndecided d m p t ⊎ IsGivingBack m t
  pub threads : (x : Item) → is_some (map.get m (head_key x)) ≡ true → IsThreaded (chain m (head_key x))
  pub shadows : (t : TxId) (x : Item) → IsFresh d.life latest m (intent_key t.intent t.func) → IsLinked (shadow_chain m t x)

-- where the moment is later, they tell no more
abbrev pub StandsLater : Type 0
StandsLater = (d : Deployment) (early late : ℕ) (m : Rows) (p : PlainState) → early ≤ late → StandsLess d early m p → StandsLess d late m p

-- so the table's rows tell of the run of the book ..
abbrev pub KeptStand : Type 0
KeptStand = (d : Deployment) (c : Core) (m : Rows) (p : PlainState) (h : HasKept d c m) → run_of d c.book ≡ Some p → StandsLess d h.latest m p

-- .. and their listing is that of it
abbrev pub KeptListing : Type 0
KeptListing = (d : Deployment) (c : Core) (m : Rows) (p : PlainState) → HasKept d c m → run_of d c.book ≡ Some p → tables_text d m ≡ listing_of d p

-- ---- one answer per step
-- of an intent whose row is there, and whose finish is not old, each answer is the one that the table's rows hold; of one that was called in a
-- transaction, where this is so of the owner too. Each run was given the first of its answers.
abbrev pub AnswersLess : Deployment → Core → ℕ → Rows → IntentId → Option Instance → Type 0
AnswersLess d c latest m id None = (r : Run) (g : Begun) → IsBegun c id r g → ⊥
AnswersLess d c latest m id (Some q) = ((home : ℕ) → IsFresh d.life latest m (key_in home id) → ((u : TxId) → q.enclosing ≡ Some u → IsFresh d.life latest m (intent_key u.intent u.func)) → HasAnswers d c m id q)
    × ((r : Run) (g : Begun) → IsBegun c id r g → WasGiven d q r g)

pub record OneAnswerLess (d : Deployment) (c : Core) (latest : ℕ) (m : Rows) (p : PlainState) : Type 0 where
  pub histories : Histories
  pub extends : Extends d p histories
  pub each : (id : IntentId) → AnswersLess d c latest m id (map.get histories id)

abbrev pub KeptAnswers : Type 0
KeptAnswers = (d : Deployment) (c : Core) (m : Rows) (p : PlainState) (h : HasKept d c m) → run_of d c.book ≡ Some p → OneAnswerLess d c h.latest m p
