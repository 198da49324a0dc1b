-- A run whose answers are not all that are known finds what is expected: nothing changes, and it gets the recorded answer.
use Rattle.beldi_histories.{specs.Acts.noted, proofs.Answers.take_front, proofs.Answers.get_next, proofs.Answers.true_false, proofs.Frame.begins, proofs.FrameAt.or_none, proofs.FrameAt.no_mark_at, proofs.LockRows.tx_self}
use Rattle.beldi_histories.proofs.Names.{Answer, Bool, Cause, Content, Deployment, Effect, Instance, IntentId, IsAnswer, IsDeath, Item, Histories, List, LocksetMatches, LogMatches, Matches, None, Note, OnItem, Option, Place, Rel, Row, Rows, WellFormedHistory, Some, ContentReply, Tx, TxId, Value, [], ahead_by, along, along_append, answered_note, ap, append_assoc, arith, asks_lock, at_step, begins_at, commit_in, content_of, decision_by, effect_after, effect_before, effect_of, end_of, ended_stays, eq-eqb, eqb-true, false, false_from_ne_true, if◌then◌else◌, is_at, is_eq, is_item, is_mark, is_some, is_tx, item_in, item_total, last_step, length, length-append, lock_answer, lock_note, lock_on, lock_or, lockset_ahead, lockset_key, log_key, none_by, note_at, note_by, note_of, note_or, noted_by, noted_or, or_left, or_right, other_owner, expected_lockset, expected_note, expected_shadow, expected_value, place_of, put_lockset, read_at, refl, row_at, same_some, shadow_by, shadow_of, slice_get, subst, sym, take, tied_itself, touched, true, tx_after, tx_now, txs_after, txs_by, txs_pushed, value_for, value_or, write, write_op, ℕ, ◌&&◌, ◌++◌, ◌<◌, ◌==◌, ◌||◌, ◌∙◌, ◌∷◌, ◌≡◌}
use Rattle.beldi_histories.proofs.Names.map
use Rattle.beldi_histories.proofs.Names.operation

-- ---- what is known of the step of a run that is behind
-- a fold that only gathers has what was so at a step
pub gathers : (g : List Answer → Answer → Bool) (given : List Answer) (a : Answer) (rest : List Answer) → g given a ≡ true → along (λ ts c r. r || g ts c) [] (given ++ a ∷ rest) false ≡ true
gathers g given a rest h = along_append (λ ts c r. r || g ts c) [] given (a ∷ rest) false ∙ stays (given ++ a ∷ []) rest (along (λ ts c r. r || g ts c) [] given false || g given a) (or_right (along (λ ts c r. r || g ts c) [] given false) (g given a) h)
  where
    stays : (before later : List Answer) (b : Bool) → b ≡ true → along (λ ts c r. r || g ts c) before later b ≡ true
    stays before [] b k = k
    stays before (c ∷ later) b k = stays (before ++ c ∷ []) later (b || g before c) (or_left b (g before c) k)

module _ (d : Deployment) (id : IntentId) (q : Instance) (given : List Answer) (a : Answer) (rest : List Answer) (run_answers : given ++ a ∷ rest ≡ q.answers) where
  abbrev n : ℕ
  n = length given

  abbrev e : Effect
  e = effect_after d q given

  abbrev t : Option TxId
  t = tx_after d id q given

  pub front : take n q.answers ≡ given
  front = ap (take n) (sym run_answers) ∙ take_front given (a ∷ rest)

  pub there : slice_get q.answers n ≡ Some a
  there = ap (λ xs. slice_get xs n) (sym run_answers) ∙ get_next given rest a

  -- a table by steps has there what the answer expects
  pub stepped : {X : Type 0} (f : List Answer → Answer → Option X) → at_step f (take n q.answers) (slice_get q.answers n) ≡ f given a
  stepped f = ap (at_step f (take n q.answers)) there ∙ ap (λ ts. f ts a) front

  no_end : (n == length q.answers) ≡ false
  no_end = false_from_ne_true (n == length q.answers) (λ g. let l = length-append given (a ∷ rest) in let k = eqb-true n (length q.answers) g in let m = ap length run_answers in omega (arith, l, k, m))

  -- the note of an item is that of the answer, and none is ahead
  pub note_there : (x : Item) (b : Bool) → expected_note d x id b n (Some q) ≡ note_by x q.func t e a
  note_there x b = ap (λ c. note_or (answered_note d x id n q) (if c then ahead_by x q.func (tx_now d id q) (effect_of d q) b else None)) no_end ∙ or_none (answered_note d x id n q)
      ∙ stepped (λ ts c. note_by x q.func (tx_after d id q ts) (effect_after d q ts) c)

  pub shadow_there : (s : TxId) (x : Item) → expected_shadow d s x id n (Some q) ≡ shadow_by s x q.func t e a
  shadow_there s x = stepped (λ ts c. shadow_by s x q.func (tx_after d id q ts) (effect_after d q ts) c)

  pub lockset_there : (b : ℕ) (x : Item) → asks_lock b x q.func t e ≡ true → expected_lockset d b x id (Some q) ≡ true
  lockset_there b x h = ap (λ ts. along (λ us c r. r || asks_lock b x q.func (tx_after d id q us) (effect_after d q us)) [] ts false) (sym run_answers) ∙ gathers (λ ts c. asks_lock b x q.func (tx_after d id q ts) (effect_after d q ts)) given a rest h

  -- at a read no Begin ended, so the row is the value's
  not_begun : (m : ℕ) → (effect_before d q m ≡ Effect.Begin → ⊥) → end_of d q m ≡ None
  not_begun m apart = none_by (end_of d q m) (λ z h. apart ((begins d q q.answers).ended m z h))

  pub row_there : (b : ℕ) (k : List ℕ) → e ≡ Effect.Read b k → row_at d q n ≡ value_for e a
  row_there b k is = ap (λ o. value_or (decision_by o) (read_at d q n)) (not_begun n (λ g. let h = sym is ∙ ap (effect_after d q) (sym front) ∙ g in cc)) ∙ stepped (λ ts c. value_for (effect_after d q ts) c)

  -- at an End the decision is there, at the step of its Begin
  pub decision_there : (b : ℕ) (c : Bool) → e ≡ Effect.End c → (txs_after d q given).begun ≡ Some b → row_at d q b ≡ Some (Value.Bool c)
  decision_there b c is begun = ap (λ o. value_or (decision_by o) (read_at d q b)) (ended_stays d q (given ++ a ∷ []) rest b (n, c) (append_assoc given (a ∷ []) rest ∙ run_answers) (
      ap (λ s. s.ends b) (txs_pushed d q given a) ∙ ap (λ z. (txs_by n z (txs_after d q given)).ends b) is ∙ ap (λ o. if is_at b o then Some (n, c) else (txs_after d q given).ends b) begun ∙ ap (λ z. if z then Some (n, c) else (txs_after d q given).ends b) (eq-eqb b b refl)))

-- ---- small facts
item_self : (x : Item) → is_item x x.func (Some (x.table, x.key)) ≡ true
item_self x = ap is_eq (tied_itself item_total x)

pub log_there : (r : Option Row) (w : Value) → LogMatches r (Some w) → r ≡ Some (Row.ReadLog w)
log_there None w h = cc
log_there (Some (Row.ReadLog v)) w h = let k : w ≡ v = cc in ap (λ z. Some (Row.ReadLog z)) (sym k)
log_there (Some r) w h = absurd h

pub no_log : (r : Option Row) → LogMatches r None → r ≡ None
no_log None h = refl
no_log (Some (Row.ReadLog v)) h = cc
no_log (Some r) h = absurd h

pub lockset_present : (r : Option Row) (ahead : Bool) → LocksetMatches r true ahead → put_lockset r ≡ (r, false)
lockset_present None ahead h = absurd (true_false h)
lockset_present (Some r) ahead h = refl

pub noted_there : (c : Content) (p : Place) (w : Note) (r : Content × ContentReply) → note_at c.notes p ≡ Some w → noted_or c (note_at c.notes p) r ≡ (c, noted w)
noted_there c p w r h = ap (λ o. noted_or c o r) h

-- ---- the answer to an operation inside, and the note of its lock
abbrev pub death_in : Answer → Option Answer
death_in (Answer.Aborted c) = Some (Answer.Aborted c)
death_in a = None

pub record LockTold (p : Place) (a : Answer) : Type 0 where
  pub note : Note
  pub is : lock_note a ≡ Some note
  pub output : lock_answer p (noted note) ≡ death_in a

-- an operation inside is aborted by a death at its place
pub death_of : (p : Place) (s : TxId) (e : Effect) (c : Cause) → is_some (touched e) ≡ true → IsAnswer p (Some s) e (Answer.Aborted c) → IsDeath p s c
death_of p s (Effect.Read b k) c touch h = h
death_of p s (Effect.Write b k v) c touch h = h
death_of p s (Effect.CondWrite b k r u v) c touch h = h
death_of p s e c touch h = cc

lock_told : (p : Place) (s : TxId) (e : Effect) (a : Answer) → is_some (touched e) ≡ true → IsAnswer p (Some s) e a → LockTold p a
lock_told p s e (Answer.Aborted c) touch h =
    let g = death_of p s e c touch h in
    record { note = Note.Died g.holder; is = ap (λ z. lock_note (Answer.Aborted z)) g.cause; output = ap (λ z. Some (Answer.Aborted z)) (sym g.cause) }
lock_told p s e a touch h = record { note = Note.Got; is = refl; output = refl }

-- ---- the acts of a run that is behind
module _ (d : Deployment) (m : Rows) (histories : Histories) (lock_ahead : IntentId → Bool) (h : Matches d m histories lock_ahead) (id : IntentId) (q : Instance) (is : map.get histories id ≡ Some q) (well_formed : WellFormedHistory d id q)
    (given : List Answer) (a : Answer) (rest : List Answer) (run_answers : given ++ a ∷ rest ≡ q.answers) (short : length given < last_step) where
  abbrev p : Place
  p = place_of id (length given)

  abbrev wanted : Effect
  wanted = effect_after d q given

  abbrev stood : Option TxId
  stood = tx_after d id q given

  answers : IsAnswer p stood wanted a
  answers = subst (λ ts. IsAnswer p (tx_after d id q ts) (effect_after d q ts) a) (front d id q given a rest run_answers) (well_formed.past (length given) a (there d id q given a rest run_answers))

  -- an operation's place is no mark
  no_mark : commit_in wanted ≡ None → is_mark d histories (length given) (map.get histories id) ≡ false
  no_mark apart = no_mark_at d histories id q (length given) is short (stepped d id q given a rest run_answers (λ ts c. commit_in (effect_after d q ts)) ∙ apart)

  -- a read, outside and inside: its row has the recorded answer
  log_match : LogMatches (map.get m (log_key q.func p)) (row_at d q (length given))
  log_match = subst (LogMatches (map.get m (log_key q.func p))) (ap (λ o. expected_value d q.func (length given) o) is ∙ ap (λ b. if b then row_at d q (length given) else None) (eq-eqb q.func q.func refl)) (h.keys (log_key q.func p))

  pub behind_looks : (b : ℕ) (k : List ℕ) (w : Value) → wanted ≡ Effect.Read b k → a ≡ Answer.Value w → map.get m (log_key q.func p) ≡ Some (Row.ReadLog w)
  behind_looks b k w wants same = log_there (map.get m (log_key q.func p)) w (subst (LogMatches (map.get m (log_key q.func p))) (row_there d id q given a rest run_answers b k wants ∙ ap (λ z. value_for z a) wants ∙ ap (value_for (Effect.Read b k)) same) log_match)

  -- .. none where it died
  pub behind_looks_dead : (b : ℕ) (k : List ℕ) (c : Cause) → wanted ≡ Effect.Read b k → a ≡ Answer.Aborted c → map.get m (log_key q.func p) ≡ None
  behind_looks_dead b k c wants same = no_log (map.get m (log_key q.func p)) (subst (LogMatches (map.get m (log_key q.func p))) (row_there d id q given a rest run_answers b k wants ∙ ap (λ z. value_for z a) wants ∙ ap (value_for (Effect.Read b k)) same) log_match)

  -- an End: the decision row is there with its commit
  pub behind_decided : (b : ℕ) (c : Bool) → wanted ≡ Effect.End c → (txs_after d q given).begun ≡ Some b → map.get m (log_key q.func (place_of id b)) ≡ Some (Row.ReadLog (Value.Bool c))
  behind_decided b c wants begun = log_there (map.get m (log_key q.func (place_of id b))) (Value.Bool c)
      (subst (LogMatches (map.get m (log_key q.func (place_of id b)))) (ap (λ o. expected_value d q.func b o) is ∙ ap (λ z. if z then row_at d q b else None) (eq-eqb q.func q.func refl) ∙ decision_there d id q given a rest run_answers b c wants begun) (h.keys (log_key q.func (place_of id b))))

  -- an item has the note of the answer
  note_match : (x : Item) → commit_in wanted ≡ None → note_at (content_of m x).notes p ≡ note_by x q.func stood wanted a
  note_match x apart = (h.items x).notes p (no_mark apart) ∙ ap (λ o. expected_note d x id (lock_ahead id) (length given) o) is ∙ note_there d id q given a rest run_answers x (lock_ahead id)

  -- inside, an operation on an item
  module _ (s : TxId) (inside : stood ≡ Some s) (o : ℕ × List ℕ) (touch : touched wanted ≡ Some o) where
    abbrev x : Item
    x = record { func = q.func; table = o.0; key = o.1 }

    on_it : is_item x q.func (touched wanted) ≡ true
    on_it = ap (is_item x q.func) touch ∙ item_self x

    no_end_here : commit_in wanted ≡ None
    no_end_here = by_effect wanted touch
      where
        by_effect : (e : Effect) → touched e ≡ Some o → commit_in e ≡ None
        by_effect (Effect.End c) g = cc
        by_effect e g = refl

    -- its lockset row is there
    pub behind_asks : put_lockset (map.get m (lockset_key id s.begin x)) ≡ (map.get m (lockset_key id s.begin x), false)
    behind_asks = lockset_present (map.get m (lockset_key id s.begin x)) (lockset_ahead d histories s.begin x id (map.get histories id)) (subst (λ z. LocksetMatches (map.get m (lockset_key id s.begin x)) z (lockset_ahead d histories s.begin x id (map.get histories id))) (ap (expected_lockset d s.begin x id) is ∙ lockset_there d id q given a rest run_answers s.begin x asks) (h.keys (lockset_key id s.begin x)))
      where
        asks : asks_lock s.begin x q.func stood wanted ≡ true
        asks = ap (λ z. begins_at s.begin z && is_item x q.func (touched wanted)) inside ∙ ap (λ b. b && is_item x q.func (touched wanted)) (eq-eqb s.begin s.begin refl) ∙ on_it

    pub told : LockTold p a
    told = lock_told p s wanted a (ap is_some touch) (subst (λ z. IsAnswer p z wanted a) inside answers)

    -- the walk of its lock is told the note that is there: a death is the recorded answer, else it goes on
    pub behind_locks : (lock_on p s (content_of m x) ≡ (content_of m x, noted told.note)) × (lock_answer p (noted told.note) ≡ death_in a)
    behind_locks = (
      noted_there (content_of m x) p told.note (lock_or p s (content_of m x) (other_owner (Tx s) (content_of m x).owner))
          (note_match x no_end_here ∙ ap (λ z. note_by x q.func z wanted a) inside ∙ ap (λ b. if b then lock_note a else None) on_it ∙ told.is),
      told.output,
    )

    shadow_match : note_at (shadow_of m s x).notes p ≡ note_of x q.func (write_op wanted) a
    shadow_match = h.shadows s x p ∙ ap (expected_shadow d s x id (length given)) is ∙ shadow_there d id q given a rest run_answers s x
        ∙ ap (λ z. if is_tx s z then note_of x q.func (write_op wanted) a else None) inside ∙ ap (λ b. if b then note_of x q.func (write_op wanted) a else None) (tx_self s)

    -- the note of an operation that writes is that of its answer
    own_note : (w : OnItem) → write_op wanted ≡ Some w → Some (w.table, w.key) ≡ Some o → note_of x q.func (write_op wanted) a ≡ noted_by w.does a
    own_note w op g = ap (λ z. note_of x q.func z a) op ∙ ap (λ (z : ℕ × List ℕ). note_of (record { func = q.func; table = z.0; key = z.1 }) q.func (Some w) a) (sym (same_some g))
        ∙ ap (λ z. if is_eq z then noted_by w.does a else None) (tied_itself item_total (item_in q.func w))

    -- the walk of its shadow is told the note of the recorded answer
    pub behind_writes : (b : ℕ) (k : List ℕ) (v : Value) (r : Content × ContentReply) → wanted ≡ Effect.Write b k v → a ≡ Answer.Done → noted_or (shadow_of m s x) (note_at (shadow_of m s x).notes p) r ≡ (shadow_of m s x, noted Note.Wrote)
    behind_writes b k v r wants same = noted_there (shadow_of m s x) p Note.Wrote r (shadow_match ∙ own_note (record { table = b; key = k; does = write v }) (ap write_op wants) (ap touched (sym wants) ∙ touch) ∙ ap (noted_by (write v)) same)

    pub behind_tests : (b : ℕ) (k : List ℕ) (u : Rel) (y v : Value) (t : Bool) (r : Content × ContentReply) → wanted ≡ Effect.CondWrite b k u y v → a ≡ Answer.Value (Value.Bool t)
        → noted_or (shadow_of m s x) (note_at (shadow_of m s x).notes p) r ≡ (shadow_of m s x, noted (Note.Cond t))
    behind_tests b k u y v t r wants same = noted_there (shadow_of m s x) p (Note.Cond t) r (shadow_match ∙ own_note (record { table = b; key = k; does = operation.cond u y v }) (ap write_op wants) (ap touched (sym wants) ∙ touch) ∙ ap (noted_by (operation.cond u y v)) same)
