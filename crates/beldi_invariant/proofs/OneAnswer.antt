-- Where the invariant holds of the host and its rows, each step of an instance has one answer; and it stays, whatever comes.
use Rattle.beldi_histories.specs.Stands.{answer_by_note}
use Rattle.beldi_invariant.proofs.Names.{prunes, false, Abort, Act, Answer, AnswersOf, AnswersStay, Async, Begin, Begins, Begun, Call, CallGoesOn, CondWrite, Core, Deployment, Died, Done, Effect, End, GoesOn, Got, HeldAnswersStay, Instance, IntentId, InvokeRow, Item, Knows, KnowsAt, None, Note, OnItem, OneAnswerPerStep, OneRowChanged, Option, Outcome, Place, Read, Invariant, InvariantImpliesOneAnswer, Row, RowKey, Rows, Run, RunAt, Some, TxId, Value, WasGiven, Write, act, after_act, answer_aside, answer_of, ap, arith, at_each, call_in, calls_stay, chain, content, decides, given, given_in, head_key, held_answer, held_inside, held_note, held_outside, inl, inr, invoke_key, item_in, log_key, note_at, note_of_lock, noted_answer, notes_stay, on, op_of, option_and_then, option_map, refl, result_in, shadow_key, subst, sym, ℕ, ◌∙◌, ◌≡◌, Query}
use Rattle.beldi_row.proofs.Removed.{act_stays, spares}
use Rattle.beldi_invariant.proofs.{OneEvent.one_row, Standing.held_here, Standing.same_run}
use Rattle.beldi_invariant.proofs.Names.map

-- ---- one answer
module _ (d : Deployment) (c : Core) (m : Rows) (h : Invariant d c m) (id : IntentId) where
  -- what a begun run knows
  recorded : (i : ℕ) (r : Run) (g : Begun) → map.get c.runs i ≡ Some r → r.at ≡ Begins g → Knows d h.histories r g
  recorded i r g live at = (subst (λ o. KnowsAt d m h.plain c.book h.histories r o) at (subst (RunAt d m h.plain c.book h.histories) live (h.runs.runs i))).0

  given_of : (q : Instance) (r : Run) (g : Begun) → map.get h.histories id ≡ Some q → r.id ≡ id → Knows d h.histories r g → WasGiven d q r g
  given_of q r g made same k = grind arith

  pub answers_of : (o : Option Instance) → map.get h.histories id ≡ o → AnswersOf d c m id o
  answers_of None none = λ r g b. let k = recorded b.number r g b.live b.begun in let clash : Some k.instance ≡ None = sym k.made ∙ ap (map.get h.histories) b.same_id ∙ none in cc
  answers_of (Some q) made = record {
    held = λ n a at. held_here d m h.histories h.lock_ahead h.rows h.well_formed id q made n a at;
    runs = λ r g b. given_of q r g made b.same_id (recorded b.number r g b.live b.begun);
  }

pub one_answer : InvariantImpliesOneAnswer
one_answer d c m p h is = subst (OneAnswerPerStep d c m) (same_run d c m p h is) (record { histories = h.histories; extends = h.extends; each = λ id. answers_of d c m h id (map.get h.histories id) refl })

-- ---- it stays: no act takes away what a read was given, what a call gave back, nor a note
given_stays : (r : Row) (a : Act) (now : ℕ) → given_in (on a now r).0 ≡ given_in r
given_stays r a now = grind arith

of_note : (o : Option Note) (x : Answer) → option_and_then noted_answer o ≡ Some x → (n : Note) × (o ≡ Some n)
of_note o x is = grind arith

value_stays : (f : Option Value → Option Answer) → f None ≡ None → (a : Act) (now : ℕ) (x : Answer) (o : Option Row) → prunes a ≡ false → f (option_map given_in o) ≡ Some x → f (option_map given_in (act a now o).0) ≡ Some x
value_stays f none a now x None keeps is = let clash = sym none ∙ is in grind arith
value_stays f none a now x (Some r) keeps is = ap (λ z. f (option_map given_in z.0)) (act_stays a now r (spares a keeps)) ∙ ap (λ v. f (Some v)) (given_stays r a now) ∙ is

-- what a call gave back
back_stays : (x : Answer) (o u : Option Row) → CallGoesOn o u → option_map answer_of (result_in (call_in o)) ≡ Some x → option_map answer_of (result_in (call_in u)) ≡ Some x
back_stays x o u goes held = by_call (call_in o) refl held
  where
    by_result : (i j : InvokeRow) (r : Option Outcome) → GoesOn i j → i.result ≡ r → option_map answer_of r ≡ Some x → option_map answer_of j.result ≡ Some x
    by_result i j r goes is held = grind arith

    by_call : (c : Option InvokeRow) → call_in o ≡ c → option_map answer_of (result_in c) ≡ Some x → option_map answer_of (result_in (call_in u)) ≡ Some x
    by_call c is held = grind arith

-- that a call was opened
call_stays : (x : Answer) (o u : Option Row) → CallGoesOn o u → option_map (λ i. Done) (call_in o) ≡ Some x → option_map (λ i. Done) (call_in u) ≡ Some x
call_stays x o u goes held = grind arith

module _ (a : Act) (keeps : prunes a ≡ false) (now : ℕ) (k : RowKey) (m : Rows) where
  -- what every act that removes none keeps of a row
  at_key : (P : Option Row → Type 0) → ((b : Act) (t : ℕ) (o : Option Row) → prunes b ≡ false → P o → P (act b t o).0) → (l : RowKey) → P (map.get m l) → P (map.get (after_act a now k m) l)
  at_key P stays l = at_each (λ o u. P o → P u) (λ o held. held) stays (Query.Act k a) keeps now m l

  -- a note that is there stays, and so does what is told by one
  note_keeps : (at : Place) (l : RowKey) (w : Note) → note_at (content (chain m l)).notes at ≡ Some w → note_at (content (chain (after_act a now k m) l)).notes at ≡ Some w
  note_keeps at l w there = notes_stay a keeps now k l m at w there

  answer_keeps : (at : Place) (l : RowKey) (x : Answer) → option_and_then noted_answer (note_at (content (chain m l)).notes at) ≡ Some x → option_and_then noted_answer (note_at (content (chain (after_act a now k m) l)).notes at) ≡ Some x
  answer_keeps at l x held = let w = of_note (note_at (content (chain m l)).notes at) x held in ap (option_and_then noted_answer) (note_keeps at l w.0 w.1 ∙ sym w.1) ∙ held

  notes_keep : (at : Place) (func : ℕ) (o : Option OnItem) (x : Answer) → held_note m at func o ≡ Some x → held_note (after_act a now k m) at func o ≡ Some x
  notes_keep at func None x held = cc
  notes_keep at func (Some o) x held = answer_keeps at (head_key (item_in func o)) x held

  value_keeps : (l : RowKey) (f : Option Value → Option Answer) → f None ≡ None → (x : Answer) → f (given m l) ≡ Some x → f (given (after_act a now k m) l) ≡ Some x
  value_keeps l f none x held = at_key (λ o. f (option_map given_in o) ≡ Some x) (λ b t o. value_stays f none b t x o) l held

  outside_keeps : (p : Place) (func : ℕ) (e : Effect) (x : Answer) → held_outside m p func e ≡ Some x → held_outside (after_act a now k m) p func e ≡ Some x
  outside_keeps p func (Read t key) x held = value_keeps (log_key func p) (option_map Answer.Value) refl x held
  outside_keeps p func (Call f v) x held = let l = invoke_key func p in back_stays x (map.get m l) (map.get (after_act a now k m) l) (calls_stay (Query.Act k a) keeps now m l) held
  outside_keeps p func (Async f v) x held = let l = invoke_key func p in call_stays x (map.get m l) (map.get (after_act a now k m) l) (calls_stay (Query.Act k a) keeps now m l) held
  outside_keeps p func e x held = notes_keep p func (op_of e) x held

  told_keeps : (p : Place) (i : Item) (v w : Option Answer) (x : Answer) → (v ≡ Some x → w ≡ Some x) → answer_by_note p (note_of_lock m p i) v ≡ Some x → answer_by_note p (note_of_lock (after_act a now k m) p i) w ≡ Some x
  told_keeps p i v w x rest held = by_note (note_of_lock m p i) refl held
    where
      by_note : (o : Option Note) → note_of_lock m p i ≡ o → answer_by_note p o v ≡ Some x → answer_by_note p (note_of_lock (after_act a now k m) p i) w ≡ Some x
      by_note None is held = cc
      by_note (Some Got) is held = ap (λ o. answer_by_note p o w) (note_keeps p (head_key i) Got is) ∙ rest held
      by_note (Some (Died z)) is held = ap (λ o. answer_by_note p o w) (note_keeps p (head_key i) (Died z) is) ∙ held
      by_note (Some z) is held = cc

  shadow_keeps : (s : TxId) (p : Place) (i : Item) (x : Answer) → answer_aside m s p i ≡ Some x → answer_aside (after_act a now k m) s p i ≡ Some x
  shadow_keeps s p i x held = answer_keeps p (shadow_key s i) x held

  inside_keeps : (s : TxId) (p : Place) (func : ℕ) (e : Effect) (x : Answer) → held_inside m s p func e ≡ Some x → held_inside (after_act a now k m) s p func e ≡ Some x
  inside_keeps s p func Begin x held = held
  inside_keeps s p func Abort x held = held
  inside_keeps s p func (End c) x held = value_keeps (log_key s.func (record { intent = s.intent; step = s.begin })) (option_and_then (decides c)) refl x held
  inside_keeps s p func (Read t key) x held = told_keeps p (record { func = func; table = t; key = key }) (option_map Answer.Value (given m (log_key func p))) (option_map Answer.Value (given (after_act a now k m) (log_key func p))) x (value_keeps (log_key func p) (option_map Answer.Value) refl x) held
  inside_keeps s p func (Write t key v) x held = let i : Item = record { func = func; table = t; key = key } in told_keeps p i (answer_aside m s p i) (answer_aside (after_act a now k m) s p i) x (shadow_keeps s p i x) held
  inside_keeps s p func (CondWrite t key r u v) x held = let i : Item = record { func = func; table = t; key = key } in told_keeps p i (answer_aside m s p i) (answer_aside (after_act a now k m) s p i) x (shadow_keeps s p i x) held
  inside_keeps s p func e x held = outside_keeps p func e x held

  pub act_keeps : AnswersStay m (after_act a now k m)
  act_keeps id func step None e x held = outside_keeps (record { intent = id; step = step }) func e x held
  act_keeps id func step (Some s) e x held = inside_keeps s (record { intent = id; step = step }) func e x held

one_keeps : (c : Core) (m n : Rows) → OneRowChanged c m n → AnswersStay m n
one_keeps c m n o = elim o.rows [
  | inl same ↦ λ id func step s e x held. subst (λ l. held_answer l id func step s e ≡ Some x) (sym same) held
  | inr s ↦ subst (AnswersStay m) (sym s.2) (act_keeps s.0 s.1 c.now o.key m)
]

pub answers_stay : HeldAnswersStay
answers_stay d room old new e c b m n r s = one_keeps c m n (one_row d room old new e c b m n r s)
