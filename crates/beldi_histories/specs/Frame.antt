-- What an instance expects once an answer more is known: it changes at the place of that answer alone.
use Rattle.std.specs.Prelude.{◌≡◌, ℕ, ◌==◌, ◌&&◌, ◌||◌, not, Bool, true, false, length, Option, Some, None, if◌then◌else◌}
use Rattle.std.specs.Ordering.{is_eq}
use Rattle.beldi_value.specs.{Id.id_cmp, declared.id.IntentId.IntentId, declared.outcome.Outcome.Outcome, declared.place.TxId.TxId, declared.value.Value.Value}
use Rattle.beldi_tree.specs.declared.deployment.Deployment.{Deployment}
use Rattle.beldi_lang.specs.declared.effect.{Answer.Answer, Effect.Effect}
use Rattle.beldi_plain.specs.{Holds.held_if, Holds.holds, Item.Item, Operation.op_of, Plain.Instance, Plain.effect_of, Transaction.is_aborted}
use Rattle.beldi_plain_laws.specs.Txs.{txs_by, txs_after, end_of, tx_now}
use Rattle.beldi_row.specs.declared.{notes.Note.Note, row.Body.Body}
use Rattle.beldi_histories.specs.Histories.{row_at, note_by, answered_note, shadow_by, shadow_at, asks_lock, lockset_of, is_on, got_before, commit_in, ended_at}
use Rattle.beldi_histories.specs.Stands.{body_of}

-- the row that an answer adds, if any: of a read at its own step, of an End at the step of the Begin that is open
abbrev pub row_added : ℕ → Option ℕ → Effect → Answer → Option (ℕ × Value)
row_added n o (Effect.Read t k) (Answer.Value v) = Some (n, v)
row_added n (Some b) (Effect.End c) a = Some (b, Value.Bool c)
row_added n o e a = None

abbrev pub put : Option (ℕ × Value) → ℕ → Option Value → Option Value
put None m o = o
put (Some r) m o = if m == r.0 then Some r.1 else o

-- an instance has these and expects these, as functions of places, items and transactions
pub record ExpectsAlso (d : Deployment) (id : IntentId) (r : Instance) (f : ℕ) (t : Option TxId) (o : Option Outcome) (b : Body) (row : ℕ → Option Value) (note : Item → ℕ → Option Note) (shadow : TxId → Item → ℕ → Option Note) (lockset : ℕ → Item → Bool) (has : TxId → Item → Bool) (hold : Item → Bool) (ended : ℕ → Option (ℕ × Bool)) (mark : ℕ → Option Bool) : Type 0 where
  pub func : r.func ≡ f
  pub enclosing : r.enclosing ≡ t
  pub outcome : r.outcome ≡ o
  pub body : b ≡ body_of r
  pub rows : (m : ℕ) → row_at d r m ≡ row m
  pub notes : (x : Item) (m : ℕ) → answered_note d x id m r ≡ note x m
  pub shadows : (t : TxId) (x : Item) (m : ℕ) → shadow_at d t x id m r ≡ shadow t x m
  pub locksets : (b : ℕ) (x : Item) → lockset_of d b x id r ≡ lockset b x
  pub got : (t : TxId) (x : Item) → got_before d t x id r ≡ has t x
  pub held : (x : Item) → holds d x (Some r) ≡ hold x
  pub ends : (b : ℕ) → end_of d r b ≡ ended b
  pub marks : (m : ℕ) → ended_at d r m ≡ mark m

-- what an instance expects once it has this answer more
abbrev pub AnswersOne : Deployment → IntentId → Instance → Answer → Instance → Type 0
AnswersOne d id q a r = ExpectsAlso d id r q.func q.enclosing q.outcome (body_of q) (λ m. put (row_added (length q.answers) (txs_after d q q.answers).begun (effect_of d q) a) m (row_at d q m))
    (λ x m. if m == length q.answers then note_by x q.func (tx_now d id q) (effect_of d q) a else answered_note d x id m q)
    (λ t x m. if m == length q.answers then shadow_by t x q.func (tx_now d id q) (effect_of d q) a else shadow_at d t x id m q)
    (λ b x. lockset_of d b x id q || asks_lock b x q.func (tx_now d id q) (effect_of d q))
    (λ t x. got_before d t x id q || (is_on t x q.func (tx_now d id q) (effect_of d q) && not (is_aborted a)))
    (λ x. held_if x q.func (op_of (effect_of d q)) (holds d x (Some q)))
    (λ b. (txs_by (length q.answers) (effect_of d q) (txs_after d q q.answers)).ends b)
    (λ m. if m == length q.answers then commit_in (effect_of d q) else ended_at d q m)

-- .. and what takes no turn expects nothing
abbrev pub ExpectsSame : Deployment → IntentId → Instance → Instance → Type 0
ExpectsSame d id q r = ExpectsAlso d id r q.func q.enclosing q.outcome (body_of q) (row_at d q) (λ x m. answered_note d x id m q) (λ t x m. shadow_at d t x id m q) (λ b x. lockset_of d b x id q) (λ t x. got_before d t x id q) (λ x. holds d x (Some q)) (end_of d q) (ended_at d q)

-- a lock that was ahead of its answer is so no more
pub record LockedOut (lock_ahead after : IntentId → Bool) (id : IntentId) : Type 0 where
  pub out : after id ≡ false
  pub others : (j : IntentId) → is_eq (id_cmp j id) ≡ false → after j ≡ lock_ahead j

-- the lock of an instance is ahead from now on
abbrev pub lock_in : (IntentId → Bool) → IntentId → IntentId → Bool
lock_in lock_ahead id j = if is_eq (id_cmp j id) then true else lock_ahead j
