-- Rows that match what is expected of them, by their kind.
use Rattle.std.specs.Prelude.{◌≡◌, ℕ, ◌==◌, Bool, true, false, Option, Some, None, is_some}
use Rattle.beldi_value.specs.declared.{outcome.Outcome.Outcome, place.TxId.TxId, value.Value.Value}
use Rattle.beldi_plain.specs.Plain.{Instance}
use Rattle.beldi_row.specs.declared.row.{Body.Body, IntentRow.IntentRow, Row.Row}
use Rattle.beldi_step.specs.Run.{is_waited}
use Rattle.beldi_histories.specs.Stands.{body_of}

-- ---- bodies
-- the body is the one that the instance was made with
pub record IsBodyOf (b : Body) (i : Option Instance) : Type 0 where
  pub instance : Instance
  pub made : i ≡ Some instance
  pub body : b ≡ body_of instance

-- the body and the outcome of a root's row, and the root's instance
abbrev pub BodyMatches : Option Body → Option Outcome → Option Instance → Type 0
BodyMatches None o i = i ≡ None
BodyMatches (Some b) o i = (w : IsBodyOf b i) × (w.instance.outcome ≡ o)

-- the outcome of a callee's row is the instance's; one that its caller waits for may have it before
abbrev pub OutcomeMatches : Bool → Option Outcome → Option Outcome → Type 0
OutcomeMatches true o u = (v : Outcome) → o ≡ Some v → u ≡ Some v
OutcomeMatches false o u = u ≡ o

-- .. of a callee's
abbrev pub CalleeBodyMatches : ℕ → Option Body → Option Outcome → Option Instance → Type 0
CalleeBodyMatches home None o i = ⊥
CalleeBodyMatches home (Some b) o i = (w : IsBodyOf b i) × (b.func ≡ home) × OutcomeMatches (is_waited b.parent) o w.instance.outcome

-- ---- intents
-- the row of a root
pub record IsRootRow (r : IntentRow) (i : Option Instance) : Type 0 where
  -- one without body has no outcome
  pub bare : r.body ≡ None → r.outcome ≡ None
  -- there is a finish exactly where there is an outcome
  pub finishes : is_some r.finish ≡ is_some r.outcome
  -- the root was made exactly where there is a body
  pub body : BodyMatches r.body r.outcome i

-- a finish is there exactly where an outcome is; that of who was called in a transaction only where the transaction has ended
abbrev pub FinishMatches : (TxId → Bool) → Option TxId → Option ℕ → Option Outcome → Type 0
FinishMatches ended None f o = is_some f ≡ is_some o
FinishMatches ended (Some t) f o = is_some f ≡ true → ended t ≡ true

abbrev pub tx_in : Option Body → Option TxId
tx_in None = None
tx_in (Some b) = b.tx

-- the row of a callee, in the home of its function
pub record IsCalleeRow (ended : TxId → Bool) (home : ℕ) (r : IntentRow) (i : Option Instance) : Type 0 where
  pub finishes : FinishMatches ended (tx_in r.body) r.finish r.outcome
  -- the callee was made with its body
  pub body : CalleeBodyMatches home r.body r.outcome i

-- the rows of a root, by whether it is the host's home: it has its row there alone
abbrev pub RootMatches : Bool → Option Row → Option Instance → Type 0
RootMatches true None i = i ≡ None
RootMatches true (Some (Row.Intent r)) i = IsRootRow r i
RootMatches true (Some r) i = ⊥
RootMatches false r i = r ≡ None

-- a callee may have no row yet: then one of this home that nobody waits for has not ended
pub record HasNoRow (home : ℕ) (i : Option Instance) : Type 0 where
  pub open_still : (q : Instance) → i ≡ Some q → q.func ≡ home → is_waited q.parent ≡ false → q.outcome ≡ None

abbrev pub CalleeMatches : (TxId → Bool) → ℕ → Option Row → Option Instance → Type 0
CalleeMatches ended home None i = HasNoRow home i
CalleeMatches ended home (Some (Row.Intent r)) i = IsCalleeRow ended home r i
CalleeMatches ended home (Some r) i = ⊥

-- the row of an intent in a home, by which transactions have ended, and whether the intent is a root
abbrev pub IntentMatches : (TxId → Bool) → Bool → ℕ → Option Row → Option Instance → Type 0
IntentMatches ended true home r i = RootMatches (home == 0) r i
IntentMatches ended false home r i = CalleeMatches ended home r i

-- the row of an intent that ends: the one before, and the one now
pub record EndsRow (r s : IntentRow) (o : Outcome) : Type 0 where
  pub body : s.body ≡ r.body
  pub outcome : s.outcome ≡ Some o
  pub finish : is_some s.finish ≡ true

-- ---- calls and reads
-- the row of a call, by the call that is expected there
abbrev pub CallMatches : Option Row → Option (ℕ × Option Outcome) → Type 0
CallMatches None o = o ≡ None
CallMatches (Some (Row.Invoke r)) o = o ≡ Some (r.func, r.result)
CallMatches (Some r) o = ⊥

-- the row of a read, by the value that is expected there
abbrev pub LogMatches : Option Row → Option Value → Type 0
LogMatches None o = o ≡ None
LogMatches (Some (Row.ReadLog v)) o = o ≡ Some v
LogMatches (Some r) o = ⊥
