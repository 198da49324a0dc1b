-- What every run keeps, and how a legal book grows.
use Rattle.std.specs.Prelude.{◌≡◌, ◌==◌, ℕ, zero, suc, ◌≤◌, ◌<◌, min, Bool, false, List, [], ◌∷◌, ◌++◌, filter, Option, Some, None}
use Rattle.std.specs.FinMap as map
use Rattle.beldi_value.specs.declared.{id.IntentId.IntentId, value.Value.Value, value.Value.TheVariants.Null}
use Rattle.beldi_tree.specs.declared.deployment.Deployment.{Deployment}
use Rattle.beldi_lang.specs.declared.effect.{Answer.Answer, Effect.Effect}
use Rattle.beldi_book.specs.LinearOrder.{version_of, changes_of, count_changes, by_change, prefix, linear, VersionsBounded}
use Rattle.beldi_book.specs.declared.entry.Entry.{Entry, TheVariants.Read}
use Rattle.beldi_plain.specs.Plain.{Instance, PlainState, nothing, with_instance, answered, effect_of, item_of, value_at}
use Rattle.beldi_plain.specs.{Guard.IsFree, Guard.IsGuarded, Holds.holds, Item.Item, PlainEntries.after, Legal.run_from, Legal.run_of}

-- ---- the linear order, in its own words
-- the reads that stand behind n changes and before the next one
abbrev pub reads_after : ℕ → List Entry → List Entry
reads_after n [] = []
reads_after zero (e ∷ es) = by_change (version_of e) [] (e ∷ reads_after zero es)
reads_after (suc n) (e ∷ es) = by_change (version_of e) (reads_after n es) (reads_after (suc n) es)

-- whether an entry of a book of c changes is a read that belongs behind n of them: as many as it had seen, or all where
-- there are fewer
abbrev pub belongs : ℕ → ℕ → Option ℕ → Bool
belongs n c None = false
belongs n c (Some s) = min s c == n

-- the changes are those of the book, in its order; and behind each number of changes stand the reads of the book that belong
-- there, in its order
pub record IsInOrder (book order : List Entry) : Type 0 where
  pub changes : changes_of order ≡ changes_of book
  pub reads : (n : ℕ) → reads_after n order ≡ filter (λ e. belongs n (count_changes book) (version_of e)) book

abbrev pub LinearIsInOrder : Type 0
LinearIsInOrder = (book : List Entry) → IsInOrder book (linear book)

-- ---- the items
-- no item is kept as null: one that is null is absent
abbrev pub KeepsNoNull : PlainState → Type 0
KeepsNoNull p = (x : Item) → map.get p.items x ≡ Some Null → ⊥

-- so it is at the end of a legal book
abbrev pub NullIsAbsent : Type 0
NullIsAbsent = (d : Deployment) (book : List Entry) (p : PlainState) → run_of d book ≡ Some p → KeepsNoNull p

-- ---- how a book grows
-- this is the state before the change that comes after the first s changes
abbrev pub IsStateAt : Deployment → List Entry → ℕ → PlainState → Type 0
IsStateAt d book s q = run_from d nothing (prefix s (linear book)) ≡ Some q

-- a change that is enabled at the end of a legal book, and whose item nobody else has locked
pub record EndsWith (d : Deployment) (book : List Entry) (p : PlainState) (e : Entry) (q : PlainState) : Type 0 where
  pub bounded : VersionsBounded 0 book
  pub legal : run_of d book ≡ Some p
  pub guarded : IsGuarded d nothing (linear book)
  pub change : version_of e ≡ None
  pub enabled : after d p e ≡ Some q
  pub free : IsFree d p e

-- it is the last: the book with it is legal and leads to the state after it, and what came before stands where it stood
pub record IsLast (d : Deployment) (book : List Entry) (e : Entry) (q : PlainState) : Type 0 where
  pub bounded : VersionsBounded 0 (book ++ e ∷ [])
  pub legal : run_of d (book ++ e ∷ []) ≡ Some q
  pub guarded : IsGuarded d nothing (linear (book ++ e ∷ []))
  pub earlier : (s : ℕ) (r : PlainState) → s ≤ count_changes book → IsStateAt d book s r → IsStateAt d (book ++ e ∷ []) s r

abbrev pub ChangesComeLast : Type 0
ChangesComeLast = (d : Deployment) (book : List Entry) (p : PlainState) (e : Entry) (q : PlainState) → EndsWith d book p e q → IsLast d book e q

-- a read that belongs after the first s changes of a legal book: there its instance stood at it, and the item had the value and
-- was not locked by another; and the instance has not moved since
pub record BelongsEarlier (d : Deployment) (book : List Entry) (p : PlainState) (id : IntentId) (s : ℕ) (a : Instance) (v : Value) : Type 0 where
  pub bounded : VersionsBounded 0 book
  pub legal : run_of d book ≡ Some p
  pub guarded : IsGuarded d nothing (linear book)
  pub few : s ≤ count_changes book
  pub state : PlainState
  pub is_state : IsStateAt d book s state
  pub was_made : map.get state.made id ≡ Some a
  pub open_still : a.outcome ≡ None
  pub table : ℕ
  pub key : List ℕ
  pub stands : effect_of d a ≡ Effect.Read table key
  pub value : value_at state (item_of a table key) ≡ v
  pub free : IsFree d state (Read id s)
  pub has_not_moved : map.get p.made id ≡ Some a

abbrev pub with_answer : PlainState → IntentId → Instance → Value → PlainState
with_answer p id a v = with_instance p id (answered a (Answer.Value v))

-- the book with it is legal and leads to the state with its answer. So do the states from its place on; those before it are
-- as they were.
pub record IsKeptLate (d : Deployment) (book : List Entry) (p : PlainState) (id : IntentId) (s : ℕ) (a : Instance) (v : Value) : Type 0 where
  pub bounded : VersionsBounded 0 (book ++ Read id s ∷ [])
  pub legal : run_of d (book ++ Read id s ∷ []) ≡ Some (with_answer p id a v)
  pub guarded : IsGuarded d nothing (linear (book ++ Read id s ∷ []))
  pub before : (t : ℕ) (r : PlainState) → t < s → IsStateAt d book t r → IsStateAt d (book ++ Read id s ∷ []) t r
  pub since : (t : ℕ) (r : PlainState) → s ≤ t → IsStateAt d book t r → IsStateAt d (book ++ Read id s ∷ []) t (with_answer r id a v)
  -- and no lock moved by it
  pub locks : (t : ℕ) (r : PlainState) → s ≤ t → IsStateAt d book t r → (x : Item) (j : IntentId) → holds d x (map.get (with_answer r id a v).made j) ≡ holds d x (map.get r.made j)

abbrev pub LateReadsBelong : Type 0
LateReadsBelong = (d : Deployment) (book : List Entry) (p : PlainState) (id : IntentId) (s : ℕ) (a : Instance) (v : Value) → BelongsEarlier d book p id s a v → IsKeptLate d book p id s a v
