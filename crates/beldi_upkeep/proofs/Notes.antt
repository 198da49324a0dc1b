-- What a live run finds at its place: the note, the decision and the lock of its own effect, and no other.
use Rattle.std.specs.Ordering.{is_eq}
use Rattle.std.proofs.lemmas.Cmp.{tied_itself}
use Rattle.std.specs.FinMap as map
use Rattle.std.proofs.Common.{Bool, List, None, Option, Some, [], ap, append-nil, arith, false, if◌then◌else◌, inl, inr, is_some, length, refl, subst, sym, true, ℕ, ◌++◌, ◌<◌, ◌∙◌, ◌∷◌, ◌≡◌, ◌⊎◌, IsTrue}
use Rattle.beldi_value.specs.declared.{place.Owner.Owner, place.Place.Place, place.TxId.TxId, rel.Rel.Rel, value.Value.Value}
use Rattle.beldi_tree.specs.declared.deployment.Deployment.{Deployment}
use Rattle.beldi_lang.{proofs.Resumes.at_effect, proofs.Spends.few_answers, specs.Wants.wants, specs.Wants.wants_answer, specs.declared.effect.Answer.Answer, specs.declared.effect.Effect.Effect}
use Rattle.beldi_plain.specs.{Holds.holds, Item.Item, Item.item_cmp, Item.item_total, Operation.cond, Operation.op_of, Operation.write, Plain.Instance, Plain.item_of}
use Rattle.beldi_plain_laws.proofs.Maps.{same_some}
use Rattle.beldi_plain_laws.specs.{WellFormedState.IsAnswer, Txs.effect_after, Txs.tx_after, Txs.txs_after}
use Rattle.beldi_row.specs.{Log.note_at, Table.Rows, declared.notes.Note.Note, declared.row.Row.Row}
use Rattle.beldi_readlog.specs.ReadLog.{log_key}
use Rattle.beldi_step.specs.{declared.run.Begun.Begun, declared.run.Run.Run, declared.run.RunTx.RunTx, HostStep.Core, Run.answer_noted, Run.place_of, Run.tx_at, Run.tx_of}
use Rattle.beldi_histories.specs.{Extends.is_begin, Contents.content_of, Contents.is_owner, Contents.shadow_of, Histories.ahead_by, Histories.commit_in, Histories.is_tx, Histories.last_step, Histories.note_by, Histories.expected_note, Histories.expected_shadow, Histories.shadow_by, Histories.write_op, Expected.note_of, Expected.noted, WellFormedHistories.WellFormedHistory}
use Rattle.beldi_histories.proofs.{AtPending.no_decision, AtPending.no_shadow_note, AtPending.note_is_ahead, Behind.behind_decided, Behind.front, Behind.note_there, Behind.shadow_there, Behind.stepped, Behind.there as answer_there, FrameAt.no_mark_at}
use Rattle.beldi_invariant.specs.{OneAnswer.IsBegun, Invariant.Inside, Invariant.Knows, Invariant.KnowsAt, Invariant.Invariant, Invariant.RunAt, Invariant.open_of}
use Rattle.beldi_upkeep.specs.Checked.{DecisionsAreOwn, NotesAreOwn, ShadowNotesAreOwn, ShadowsAreFree, UnlocksAreOwned, is_of_lock, is_own_note, is_shadow_note, works_on}
use Rattle.beldi_upkeep.proofs.{Frees.frees_what_it_holds, Open.agrees, Open.begun_own, Open.tx_open}

-- ---- nobody owns a shadow
pub shadows_are_free : ShadowsAreFree
shadows_are_free d c m t x h = (h.rows.asides t x).unowned

-- ---- a live run
pub knows : (d : Deployment) (c : Core) (m : Rows) (h : Invariant d c m) (r : Run) (g : Begun) → IsBegun c r.id r g → (k : Knows d h.histories r g) × Inside m h.plain c.book k g.stage
knows d c m h r g b = subst (KnowsAt d m h.plain c.book h.histories r) b.begun (subst (RunAt d m h.plain c.book h.histories) b.live (h.runs.runs b.number))

module _ (d : Deployment) (c : Core) (m : Rows) (r : Run) (g : Begun) (h : Invariant d c m) (k : Knows d h.histories r g) where
  abbrev pub q : Instance
  q = k.instance

  abbrev pub e : Effect
  e = effect_after d q k.answers

  -- its effect and its step
  pub effect_is : e ≡ g.machine.effect
  effect_is = ap (λ f. wants d f q.args (is_some q.enclosing) k.answers) k.func ∙ sym (at_effect d r.func q.args (is_some q.enclosing) g.machine k.answers k.machine).0

  pub step_is : g.machine.steps ≡ length k.answers
  step_is = (at_effect d r.func q.args (is_some q.enclosing) g.machine k.answers k.machine).1

  pub at_place : place_of r.id g.machine.steps ≡ place_of r.id (length k.answers)
  at_place = ap (place_of r.id) step_is

  pub well_formed : WellFormedHistory d r.id q
  well_formed = h.well_formed.each r.id q k.made

  pub short : IsTrue (wants_answer e) → length k.answers < last_step
  short wants_it = let n = few_answers d q.func q.args (is_some q.enclosing) k.answers wants_it in omega (arith, n)

  -- at the front all answers are its own
  pub all_here : k.later ≡ [] → k.answers ≡ q.answers
  all_here left = sym (append-nil k.answers) ∙ ap (λ ys. k.answers ++ ys) (sym left) ∙ k.run_answers

  abbrev pub tx : Option TxId
  tx = tx_after d r.id q k.answers

  pub tx_is : is_begin e ≡ false → tx ≡ tx_at r.id r.func g.tx
  tx_is apart = tx_open d r.id q k.answers apart ∙ ap (tx_at r.id q.func) (sym k.run_open) ∙ ap (λ f. tx_at r.id f g.tx) k.func

  module _ (a : Answer) (rest : List Answer) (left : k.later ≡ a ∷ rest) where
    pub recorded_answers : k.answers ++ a ∷ rest ≡ q.answers
    recorded_answers = ap (λ ys. k.answers ++ ys) (sym left) ∙ k.run_answers

    pub answers_so : IsAnswer (place_of r.id (length k.answers)) tx e a
    answers_so = subst (λ ts. IsAnswer (place_of r.id (length k.answers)) (tx_after d r.id q ts) (effect_after d q ts) a) (front d r.id q k.answers a rest recorded_answers) (well_formed.past (length k.answers) a (answer_there d r.id q k.answers a rest recorded_answers))

  -- ---- the note that an item has at its place
  -- that of its answer, or of a lock that is ahead
  record NoteIs (x : Item) (w : Note) (a : Answer) : Type 0 where
    so : IsAnswer (place_of r.id (length k.answers)) tx e a
    is : note_by x q.func tx e a ≡ Some w

  abbrev Noted : Item → Note → Type 0
  Noted x w = ((a : Answer) × NoteIs x w a) ⊎ (ahead_by x q.func tx e (h.lock_ahead r.id) ≡ Some w)

  noted_by : (x : Item) (w : Note) → IsTrue (wants_answer e) → commit_in e ≡ None → note_at (content_of m x).notes (place_of r.id (length k.answers)) ≡ Some w → (later : List Answer) → k.later ≡ later → Noted x w
  noted_by x w wants_it apart there [] left =
      let all = all_here left in
      let few = short wants_it in
      inr (ap (λ ts. ahead_by x q.func (tx_after d r.id q ts) (effect_after d q ts) (h.lock_ahead r.id)) all
      ∙ sym (note_is_ahead d m h.histories h.lock_ahead h.rows r.id q k.made (subst (λ (ts : List Answer). length ts < last_step) all few) x) ∙ ap (λ (ts : List Answer). note_at (content_of m x).notes (place_of r.id (length ts))) (sym all) ∙ there)
  noted_by x w wants_it apart there (a ∷ rest) left =
      let histories = recorded_answers a rest left in
      let none = no_mark_at d h.histories r.id q (length k.answers) k.made (short wants_it) (stepped d r.id q k.answers a rest histories (λ ts b. commit_in (effect_after d q ts)) ∙ apart) in
      inl (
        a,
        record {
          so = answers_so a rest left;
          is = sym (note_there d r.id q k.answers a rest histories x (h.lock_ahead r.id)) ∙ ap (expected_note d x r.id (h.lock_ahead r.id) (length k.answers)) (sym k.made)
              ∙ sym ((h.rows.items x).notes (place_of r.id (length k.answers)) none) ∙ there;
        },
      )

-- ---- by the effect
works_wants : (e : Effect) → works_on e ≡ true → IsTrue (wants_answer e) × (commit_in e ≡ None) × (is_begin e ≡ false)
works_wants e h = grind arith

-- outside a transaction
outside_note : (x : Item) (func : ℕ) (p : Place) (e : Effect) (a : Answer) (w : Note) → IsAnswer p None e a → note_of x func (op_of e) a ≡ Some w → is_some (answer_noted e w) ≡ true
outside_note x func p e a w so is = grind arith

none_ahead : (x : Item) (func : ℕ) (e : Effect) (b : Bool) (w : Note) → ahead_by x func None e b ≡ Some w → ⊥
none_ahead x func e b w h = grind arith

-- inside one
inside_note : (x : Item) (func : ℕ) (t : TxId) (e : Effect) (a : Answer) (w : Note) → note_by x func (Some t) e a ≡ Some w → is_of_lock w ≡ true
inside_note x func t e a w is = grind arith

inside_ahead : (x : Item) (func : ℕ) (t : TxId) (e : Effect) (b : Bool) (w : Note) → ahead_by x func (Some t) e b ≡ Some w → is_of_lock w ≡ true
inside_ahead x func t e b w is = grind arith

pub notes_are_own : NotesAreOwn
notes_are_own d c m r g x w h b works there = by_tx g.tx refl
  where
    k : Knows d h.histories r g
    k = (knows d c m h r g b).0

    e : Effect
    e = effect_after d k.instance k.answers

    facts : IsTrue (wants_answer e) × (commit_in e ≡ None) × (is_begin e ≡ false)
    facts = works_wants e (ap works_on (effect_is d c m r g h k) ∙ works)

    found : Noted d c m r g h k x w
    found = noted_by d c m r g h k x w facts.0 facts.1 (ap (λ p. note_at (content_of m x).notes p) (sym (at_place d c m r g h k)) ∙ there) k.later refl

    by_tx : (o : Option RunTx) → g.tx ≡ o → is_own_note g.tx g.machine.effect w ≡ true
    by_tx None out =
        let none : tx_after d r.id k.instance k.answers ≡ None = tx_is d c m r g h k facts.2 ∙ ap (tx_at r.id r.func) out in
        ap (λ o. is_own_note o g.machine.effect w) out ∙ ap (λ z. is_some (answer_noted z w)) (sym (effect_is d c m r g h k)) ∙ elim found [
          | inl a ↦ outside_note x k.instance.func (place_of r.id (length k.answers)) e a.0 w (subst (λ o. IsAnswer (place_of r.id (length k.answers)) o e a.0) none a.1.so) (ap (λ o. note_by x k.instance.func o e a.0) (sym none) ∙ a.1.is)
          | inr a ↦ absurd (none_ahead x k.instance.func e (h.lock_ahead r.id) w (ap (λ o. ahead_by x k.instance.func o e (h.lock_ahead r.id)) (sym none) ∙ a))
        ]
    by_tx (Some o) in_it =
        let own = tx_of r.id r.func o in
        let some : tx_after d r.id k.instance k.answers ≡ Some own = tx_is d c m r g h k facts.2 ∙ ap (tx_at r.id r.func) in_it in
        ap (λ z. is_own_note z g.machine.effect w) in_it ∙ elim found [
          | inl a ↦ inside_note x k.instance.func own e a.0 w (ap (λ z. note_by x k.instance.func z e a.0) (sym some) ∙ a.1.is)
          | inr a ↦ inside_ahead x k.instance.func own e (h.lock_ahead r.id) w (ap (λ z. ahead_by x k.instance.func z e (h.lock_ahead r.id)) (sym some) ∙ a)
        ]

-- ---- shadows
if_some : (b : Bool) (o : Option Note) (w : Note) → (if b then o else None) ≡ Some w → o ≡ Some w
if_some true o w h = h
if_some false o w h = cc

write_note : (t : ℕ) (k : List ℕ) (v : Value) (a : Answer) (w : Note) → noted (write v) a ≡ Some w → is_shadow_note (Effect.Write t k v) w ≡ true
write_note t k v a w is = grind arith

test_note : (t : ℕ) (k : List ℕ) (r : Rel) (o v : Value) (a : Answer) (w : Note) → noted (cond r o v) a ≡ Some w → is_shadow_note (Effect.CondWrite t k r o v) w ≡ true
test_note t k r o v a w is = grind arith

aside_note : (x : Item) (func : ℕ) (z : Effect) (a : Answer) (w : Note) → note_of x func (write_op z) a ≡ Some w → is_shadow_note z w ≡ true
aside_note x func (Effect.Write t k v) a w is = write_note t k v a w (if_some (is_eq (item_cmp (record { func = func; table = t; key = k }) x)) (noted (write v) a) w is)
aside_note x func (Effect.CondWrite t k r o v) a w is = test_note t k r o v a w (if_some (is_eq (item_cmp (record { func = func; table = t; key = k }) x)) (noted (cond r o v) a) w is)
aside_note x func z a w is = cc

shadow_note : (t : TxId) (x : Item) (func : ℕ) (s : Option TxId) (z : Effect) (a : Answer) (w : Note) → shadow_by t x func s z a ≡ Some w → is_shadow_note z w ≡ true
shadow_note t x func s z a w is = aside_note x func z a w (if_some (is_tx t s) (note_of x func (write_op z) a) w is)

pub shadow_notes_are_own : ShadowNotesAreOwn
shadow_notes_are_own d c m r g t x w h b there = ap (λ z. is_shadow_note z w) (sym (effect_is d c m r g h k)) ∙ by_later k.later refl
  where
    k : Knows d h.histories r g
    k = (knows d c m h r g b).0

    here : note_at (shadow_of m t x).notes (place_of r.id (length k.answers)) ≡ Some w
    here = ap (λ p. note_at (shadow_of m t x).notes p) (sym (at_place d c m r g h k)) ∙ there

    by_later : (later : List Answer) → k.later ≡ later → is_shadow_note (effect_after d k.instance k.answers) w ≡ true
    by_later [] left =
        let clash = sym here ∙ ap (λ (ts : List Answer). note_at (shadow_of m t x).notes (place_of r.id (length ts))) (all_here d c m r g h k left) ∙ no_shadow_note d m h.histories h.lock_ahead h.rows r.id k.instance k.made t x in cc
    by_later (a ∷ rest) left =
        shadow_note t x k.instance.func (tx_after d r.id k.instance k.answers) (effect_after d k.instance k.answers) a w
        (sym (shadow_there d r.id k.instance k.answers a rest (recorded_answers d c m r g h k a rest left) t x) ∙ ap (expected_shadow d t x r.id (length k.answers)) (sym k.made) ∙ sym (h.rows.shadows t x (place_of r.id (length k.answers))) ∙ here)

-- ---- decisions
pub decisions_are_own : DecisionsAreOwn
decisions_are_own d c m r g o commit w h b in_it ends there = by_later k.later refl
  where
    k : Knows d h.histories r g
    k = (knows d c m h r g b).0

    q : Instance
    q = k.instance

    open_is : open_of d q k.answers ≡ Some (RunTx.Own o)
    open_is = sym k.run_open ∙ in_it

    begun : (txs_after d q k.answers).begun ≡ Some o.begin
    begun = begun_own q.enclosing (txs_after d q k.answers).begun (open_of d q k.answers) o (agrees d q k.answers) open_is

    ends_here : effect_after d q k.answers ≡ Effect.End commit
    ends_here = effect_is d c m r g h k ∙ ends

    here : map.get m (log_key q.func (place_of r.id o.begin)) ≡ Some w
    here = ap (λ f. map.get m (log_key f (place_of r.id o.begin))) k.func ∙ there

    by_later : (later : List Answer) → k.later ≡ later → w ≡ Row.ReadLog (Value.Bool commit)
    by_later [] left =
        let clash = sym here ∙ no_decision d m h.histories h.lock_ahead h.rows r.id q k.made o.begin (ap (λ ts. (txs_after d q ts).begun) (sym (all_here d c m r g h k left)) ∙ begun) in cc
    by_later (a ∷ rest) left =
        same_some (sym here ∙ behind_decided d m h.histories h.lock_ahead h.rows r.id q k.made (well_formed d c m r g h k) k.answers a rest (recorded_answers d c m r g h k a rest left)
        (short d c m r g h k (subst (λ z. IsTrue (wants_answer z)) (sym ends_here) refl)) o.begin commit ends_here begun)

-- ---- locks
-- an answer to an Unlock is outside of transactions
unlock_answer : (p : Place) (o : Option TxId) (x : Item) (func t : ℕ) (k : List ℕ) (a : Answer) → IsAnswer p o (Effect.Unlock t k) a → is_eq (item_cmp (record { func = func; table = t; key = k }) x) ≡ true → note_by x func o (Effect.Unlock t k) a ≡ Some Note.Freed
unlock_answer p None x func t k Answer.Done so same = ap (λ b. if b then Some Note.Freed else None) same
unlock_answer p None x func t k a so same = absurd so
unlock_answer p (Some s) x func t k a so same = absurd so

pub unlocks_are_owned : UnlocksAreOwned
unlocks_are_owned d c m r g t key h b frees none = by_later k.later refl
  where
    k : Knows d h.histories r g
    k = (knows d c m h r g b).0

    q : Instance
    q = k.instance

    x : Item
    x = record { func = r.func; table = t; key = key }

    same : item_of q t key ≡ x
    same = λ i. record { func = k.func i; table = t; key = key }

    frees_here : effect_after d q k.answers ≡ Effect.Unlock t key
    frees_here = effect_is d c m r g h k ∙ frees

    by_later : (later : List Answer) → k.later ≡ later → is_owner (content_of m x).owner (Owner.Intent r.id) ≡ true
    by_later [] left =
        (h.rows.items x).owner r.id ∙ ap (holds d x) k.made ∙ ap (λ z. holds d z (Some q)) (sym same)
        ∙ frees_what_it_holds d q t key (ap (effect_after d q) (sym (all_here d c m r g h k left)) ∙ frees_here)
    by_later (a ∷ rest) left =
        let histories = recorded_answers d c m r g h k a rest left in
        let mark = no_mark_at d h.histories r.id q (length k.answers) k.made (short d c m r g h k (subst (λ z. IsTrue (wants_answer z)) (sym frees_here) refl)) (stepped d r.id q k.answers a rest histories (λ ts b. commit_in (effect_after d q ts)) ∙ ap commit_in frees_here) in
        let there = (h.rows.items x).notes (place_of r.id (length k.answers)) mark ∙ ap (expected_note d x r.id (h.lock_ahead r.id) (length k.answers)) k.made ∙ note_there d r.id q k.answers a rest histories x (h.lock_ahead r.id) in
        let noted = ap (λ z. note_by x q.func (tx_after d r.id q k.answers) z a) frees_here
        ∙ unlock_answer (place_of r.id (length k.answers)) (tx_after d r.id q k.answers) x q.func t key a (subst (λ z. IsAnswer (place_of r.id (length k.answers)) (tx_after d r.id q k.answers) z a) frees_here (answers_so d c m r g h k a rest left))
        (ap (λ z. is_eq (item_cmp z x)) same ∙ ap is_eq (tied_itself item_total x)) in
        let clash = sym none ∙ ap (λ p. note_at (content_of m x).notes p) (at_place d c m r g h k) ∙ there ∙ noted in cc
