-- The turns of an operation of a transaction up to its lock: a read looks whether a value was kept for it, the row is put that says that
-- the lock is asked for, and the lock of the item is tried.
use Rattle.beldi_daal.specs.{WriteWalk.walk_at, declared.cell.WriteAt.TheVariants.Try}
use Rattle.beldi_lock.specs.Locked.{SeesItem}
use Rattle.beldi_histories.{specs.Acts.ContentReply, proofs.HistoryLists.elsewhere}
use Rattle.beldi_invariant.proofs.Names.{rows_there, write_spares, AllGrow, Answer, AtItem, Begun, Bool, ByTx, Cause, ChangedAlone, Content, Core, Deployment, DidAs, DidOnce, Effect, Fits, Found, Frame, IsConsistent, HasLock, InOperation, Inside, IntentId, IsAnswer, IsDeath, IsFreePlace, IsPending, IsLinkedItem, Item, Kind, Histories, Knows, List, Lock, LockAt, LockTold, Lockset, Logs, Look, Matches, None, Note, OfBegin, Option, Owner, Place, Plain, PutLockset, Query, Released, Invariant, Row, RowKey, Rows, RowsStay, Run, RunTx, WellFormedHistories, StageOutput, SeesAt, SeesBoth, Some, Stage, TxAt, TxId, Value, Wait, WriteAt, WriteGoes, WriteWalk, [], act, age_of, ahead_by, ahead_front, ahead_set, ap, arith, aside_apart, asks_of, begin_of, behind_asks, behind_locks, behind_looks, behind_looks_dead, by_op, cell_at, chain, content_apart, content_of, death_answer, death_in, death_is_older, deaths_go, decision_key, did_lists, died, died_at, died_lists, dies, dies_inside, done_to, effect_after, effect_of, end_place, ended_by, false, given_goes, given_in, given_of, grows_self, has_asked, head_key, held, id_cmp, if◌then◌else◌, inl, inr, inserted, is_data, is_eq, is_item, is_shadow, is_some, item_asks, item_goes, item_of, kind_off, last_step, length, listed, lists_same, lock_answer, lock_did, lock_in, lock_is_there, lock_leads, lock_on, lock_or, locked_goes, lockset_ahead, lockset_key, lockset_put, log_key, looked, advanced, no_row, none_out, note_at, note_goes, note_here, note_is_ahead, note_pushed, noted, noted_or, other_key, other_owner, other_shadows, expected_lockset, place_eq, place_of, place_same, put_goes, put_lockset, reads_begin, refl, root_key, rows_after, rows_go, replied, same_data, same_shadow, same_some, well_formed_died, set_here, set_others, set_row, shadow_chain, shadow_key, shadow_row, subst, sym, told, query_reply, touched, true, true_false, turn_next, turned_by, tx_after, tx_end, tx_here_asks, tx_here_output, tx_now, tx_of, tx_output, unchanged, undecided, value_at, walk_so, walks_begin, with_note, write_asks, write_goes, ℕ, ◌++◌, ◌<◌, ◌∙◌, ◌∷◌, ◌≡◌}
use Rattle.beldi_invariant.proofs.Frames.{NoFinish, frame_held, frame_item, frame_lockset, is_entry, items_stay, no_finish, nobody_new, nobody_set, none_finish, query_notes}
use Rattle.beldi_invariant.proofs.{Ages.Holder, Ages.dies_so, Ages.free_of, Ages.holder_made, Ages.only_one, Settling.settled_operated, Grown.grown_moved, Grown.grows_moved, Grown.moved_more, Keeping.as_it_was, Keeping.set_shadows, Keeping.stays_by, Moves.AfterQuery, Moves.Kept, Moves.SameRoots, Moves.Stays, Others.kept_moving, ExpectedOutside.content_kept, ExpectedOutside.contents_kept, ExpectedOutside.others_list, Ended.ended_at, Shown.holds_here, Shown.settled, StageTurns.Freed, StageTurns.Leaves, Cases.false_by}
use Rattle.beldi_invariant.proofs.Names.map
use Rattle.beldi_invariant.proofs.InTx as in_tx
use Rattle.beldi_invariant.proofs.StageTurns as turns

-- ---- where an operation may stand
fits_lock : (e : Effect) (l j : LockAt) → Fits e (TxAt.Lock l) → Fits e (TxAt.Lock j)
fits_lock e l j h = grind arith

-- a read alone looks for a kept value
looks_lock : (e : Effect) (l : LockAt) → Fits e TxAt.Log → Fits e (TxAt.Lock l)
looks_lock e l h = grind arith

-- its item, as its stage asks for it
item_touched : (e : Effect) → item_of e ≡ touched e
item_touched e = grind arith

looks_read : (e : Effect) (x : ℕ × List ℕ) → Fits e TxAt.Log → touched e ≡ Some x → e ≡ Effect.Read x.0 x.1
looks_read e x h on = grind arith

-- before its lock it found nothing
none_found : (e : Effect) (l : LockAt) (r : Option Row) (v : Value) → Found e (TxAt.Lock l) r v
none_found e l r v = grind arith

-- ---- a note that was told was there
told_note : (p : Place) (t : TxId) (c x : Content) (w : Note) → lock_on p t c ≡ (x, noted w) → note_at c.notes p ≡ Some w
told_note p t c x w h = by_note (note_at c.notes p) h
  where
    by_age : (o : Owner) (b : Bool) → ◌≡◌ {A = Content × ContentReply} (if b then (c, held o) else (with_note c p (Note.Died (age_of o)), died (age_of o))) (x, noted w) → ⊥
    by_age o b g = grind arith

    by_owner : (o : Option Owner) → lock_or p t c o ≡ (x, noted w) → ⊥
    by_owner o g = grind arith

    by_note : (n : Option Note) → noted_or c n (lock_or p t c (other_owner (ByTx t) c.owner)) ≡ (x, noted w) → n ≡ Some w
    by_note n g = grind arith

-- a new note is that of the lock, or of the death
abbrev IsNew : Option IntentId → Note → Type 0
IsNew None u = u ≡ Note.Got
IsNew (Some j) u = u ≡ Note.Died j

new_note : (p : Place) (who : Owner) (c b : Content) (j : Option IntentId) (u : Note) → DidAs p who Lock j c b → note_at c.notes p ≡ None → note_at b.notes p ≡ Some u → IsNew j u
new_note p who c b None u did none there = same_some (sym there ∙ ap (λ (z : Content). note_at z.notes p) did.1 ∙ note_here c.notes p Note.Got none)
new_note p who c b (Some j) u did none there = same_some (sym there ∙ ap (λ (z : Content). note_at z.notes p) did ∙ note_here c.notes p (Note.Died j) none)

-- .. and no other
abbrev is_locks : Note → Bool
is_locks Note.Got = true
is_locks (Note.Died j) = true
is_locks u = false

not_new : (j : Option IntentId) (u : Note) → is_locks u ≡ false → IsNew j u → ⊥
not_new j u off new = grind arith

one_death : {i j : IntentId} → Note.Died j ≡ Note.Died i → i ≡ j
one_death same = cc

one_cause : {b c : Cause} → Answer.Aborted b ≡ Answer.Aborted c → b ≡ c
one_cause same = cc

-- a lock that is ahead is no death
none_dead : (y : Item) (f : ℕ) (t : Option TxId) (e : Effect) (b : Bool) (j : IntentId) → ahead_by y f t e b ≡ Some (Note.Died j) → ⊥
none_dead y f None e b j same = cc
none_dead y f (Some t) e false j same = cc
none_dead y f (Some t) e true j same = grind (arith, same)

-- a death that was noted is the answer
noted_death : (p : Place) (a : Answer) (j : IntentId) → Some (Answer.Aborted (record { place = p; holder = Some j })) ≡ death_in a → Answer.Aborted (record { place = p; holder = Some j }) ≡ a
noted_death p a j h = grind arith

-- ---- the turns
module _ (d : Deployment) (c : Core) (m : Rows) (i : ℕ) (r : Run) (g : Begun) (h : Invariant d c m) (live : map.get c.runs i ≡ Some r) (k : Knows d h.histories r g) (finds : Inside m h.plain c.book k g.stage)
    (o : RunTx) (tx : g.tx ≡ Some o) (here : tx_after d r.id k.instance k.answers ≡ Some (tx_of r.id r.func o)) (e : Effect) (is : g.machine.effect ≡ e) (x : ℕ × List ℕ) (touch : touched e ≡ Some x) where
  abbrev own : TxId
  own = tx_of r.id r.func o

  abbrev item : Item
  item = record { func = r.func; table = x.0; key = x.1 }

  abbrev place : Place
  place = place_of r.id g.machine.steps

  -- what it says leaves what it has to: not unfolded, as a run after an answer is large
  Comes : StageOutput → Rows → Type 0
  Comes s n = Leaves d c m i r g h live k s n

  -- its turn at a stage
  abbrev Turns : TxAt → Type 0
  Turns a = AfterQuery d h.plain c.now m (λ u. turn_next c i r (turned_by d r g (tx_here_output r.id g.machine.steps e a (Some o) u))) (tx_here_asks r.id r.func g.machine.steps e a (Some o))

  -- .. by what it asks of its item
  asks_it : (a : TxAt) → AfterQuery d h.plain c.now m (λ u. turn_next c i r (turned_by d r g (tx_here_output r.id g.machine.steps e a (Some o) u))) (item_asks r.func place own e x.0 x.1 a) → Turns a
  asks_it a z = subst (λ y. AfterQuery d h.plain c.now m (λ u. turn_next c i r (turned_by d r g (tx_here_output r.id g.machine.steps e a (Some o) u))) (asks_of r.func place own e a y)) (sym (item_touched e ∙ touch)) z

  -- what it finds where it asks for its lock
  in_lock : (n : Rows) (l : LockAt) → OfBegin (begin_of o) (TxAt.Lock l) → (has_asked (TxAt.Lock l) ≡ true → is_some (map.get n (lockset_key r.id (begin_of o) item)) ≡ true) → SeesItem l place (chain n (head_key item)) → InOperation d n h.plain h.histories r.id r.func o g.machine.steps e (TxAt.Lock l) x
  in_lock n l begin asked sees = record { begin = begin; asked = asked; locked = tt; sees = sees; found = λ q made same. none_found e l (shadow_row n own item) (value_at h.plain item) }

  -- it goes on in its operation, or has the answer that is recorded
  goes_at : (b : TxAt) (n : Rows) (after : IntentId → Bool) → SameRoots m n → Kept h n h.plain h.histories after → Fits e b → InOperation d n h.plain h.histories r.id r.func o g.machine.steps e b x → Comes (StageOutput.On (Stage.Tx b) None) n
  unfolding Comes
  goes_at = in_tx.goes_at d c m i r g h live k finds o tx here e is x touch

  replays : (n : Rows) (a : Answer) (rest : List Answer) → k.later ≡ a ∷ rest → SameRoots m n → Stays h n → Comes (StageOutput.Answers a None) n
  unfolding Comes
  replays = in_tx.replays d c m i r g h live k finds o tx here e is x touch

  -- ---- its instance
  few : length k.answers < last_step
  few = in_tx.short d c m r g h k o here e is x touch

  touch_here : touched (effect_after d k.instance k.answers) ≡ Some x
  touch_here = ap touched (in_tx.effect_so d c m r g h k o here e is x touch) ∙ touch

  abbrev its_item : Item
  its_item = record { func = k.instance.func; table = x.0; key = x.1 }

  same_item : its_item ≡ item
  same_item = in_tx.same_item d c m r g h k o here e is x touch

  -- ---- behind: the item's note is that of the recorded answer
  module _ (a : Answer) (rest : List Answer) (left : k.later ≡ a ∷ rest) where
    all : k.answers ++ a ∷ rest ≡ k.instance.answers
    all = in_tx.recorded_answers d c m r g h k o here e is x touch a rest left

    told_here : LockTold (place_of r.id (length k.answers)) a
    told_here = told d m h.histories h.lock_ahead h.rows r.id k.instance k.made (turns.well_formed_instance h k) k.answers a rest all few own here x touch_here

    note_here_is : note_at (content_of m item).notes place ≡ Some told_here.note
    unfolding told_here
    note_here_is =
        let locks = behind_locks d m h.histories h.lock_ahead h.rows r.id k.instance k.made (turns.well_formed_instance h k) k.answers a rest all few own here x touch_here in
        (λ i. note_at (content_of m (sym same_item i)).notes (place_of r.id ((turns.at_steps k) i))) ∙ told_note (place_of r.id (length k.answers)) own (content_of m its_item) (content_of m its_item) told_here.note locks.0

    lockset_there : map.get m (lockset_key r.id (begin_of o) item) ≡ None → ⊥
    lockset_there none =
        let asks = behind_asks d m h.histories h.lock_ahead h.rows r.id k.instance k.made (turns.well_formed_instance h k) k.answers a rest all few own here x touch_here in
        let absent : map.get m (lockset_key r.id own.begin its_item) ≡ None = (λ j. map.get m (lockset_key r.id ((in_tx.begin_is r.id r.func o) j) (same_item j))) ∙ none in
        true_false (ap (λ z. z.1) (sym (ap put_lockset absent) ∙ asks))

  -- ---- at the front
  module _ (left : k.later ≡ []) where
    abbrev place_now : Place
    place_now = place_of r.id (length k.instance.answers)

    at_place : place_now ≡ place
    at_place = ap (place_of r.id) (sym (turns.step_here k left))

    -- what is said of the instance's item and next step is said of the run's
    as_run : (P : Item → Place → Type 0) → P its_item place_now → P item place
    as_run P z = subst (P item) at_place (subst (λ y. P y place_now) same_item z)

    tx_is : tx_now d r.id k.instance ≡ Some own
    tx_is = in_tx.tx_is d c m r g h k o here e is x touch left

    front : IsPending d h.histories r.id k.instance own x.0 x.1
    front = in_tx.front d c m r g h k o here e is x touch left

    not_ended : tx_end d h.histories own ≡ None
    not_ended = in_tx.not_ended d c m r g h k o here e is x touch left

    few_now : length k.instance.answers < last_step
    few_now = subst (λ (ts : List Answer). length ts < last_step) (turns.all_here k left) few

    no_decision_yet : map.get m (decision_key own) ≡ None
    no_decision_yet = undecided d h.histories h.well_formed m h.lock_ahead h.rows r.id k.instance own k.made (in_tx.open_still d c m r g h k o here e is x touch left) (in_tx.apart d c m r g h k o here e is x touch left) tx_is

    -- without a note the lock is not ahead
    not_locked : note_at (content_of m item).notes place ≡ None → h.lock_ahead r.id ≡ false
    not_locked none = false_by (h.lock_ahead r.id) (λ z.
        let got = as_run (λ y q. note_at (content_of m y).notes q ≡ Some Note.Got) (lock_is_there d m h.histories h.lock_ahead h.rows r.id k.instance k.made few_now its_item own tx_is (ap (is_item its_item k.instance.func) front.touch ∙ in_tx.item_self k.instance.func x.0 x.1) z) in
        let clash = sym none ∙ got in cc)

  -- ---- what was kept for a read
  module _ (fits : Fits e TxAt.Log) where
    abbrev log_row : RowKey
    log_row = log_key r.func place

    is_read : effect_after d k.instance k.answers ≡ Effect.Read x.0 x.1
    is_read = in_tx.effect_so d c m r g h k o here e is x touch ∙ looks_read e x fits touch

    -- its row, as its instance has it
    its_row : (n : ℕ) → g.machine.steps ≡ n → map.get m (log_key k.instance.func (place_of r.id n)) ≡ map.get m log_row
    its_row n same = ap (map.get m) (λ j. log_key (k.func j) (place_of r.id (sym same j)))

    behind_row : (a : Answer) (rest : List Answer) → k.later ≡ a ∷ rest → (w : Row) → map.get m log_row ≡ Some w → Answer.Value (given_in w) ≡ a
    behind_row a rest left w there = by_answer a left (subst (λ z. IsAnswer place (Some own) z a) (looks_read e x fits touch) (in_tx.answers_so d c m r g h k o here e is x touch a rest left))
      where
        by_answer : (b : Answer) → k.later ≡ b ∷ rest → IsAnswer place (Some own) (Effect.Read x.0 x.1) b → Answer.Value (given_in w) ≡ b
        by_answer (Answer.Value v) left ok =
            let row = behind_looks d m h.histories h.lock_ahead h.rows r.id k.instance k.made (turns.well_formed_instance h k) k.answers (Answer.Value v) rest (all (Answer.Value v) rest left)
            few x.0 x.1 v is_read refl in
            ap (λ z. Answer.Value (given_in z)) (same_some (sym there ∙ sym (its_row (length k.answers) (turns.at_steps k)) ∙ row))
        by_answer (Answer.Aborted z) left ok =
            let row = behind_looks_dead d m h.histories h.lock_ahead h.rows r.id k.instance k.made (turns.well_formed_instance h k) k.answers (Answer.Aborted z) rest (all (Answer.Aborted z) rest left)
            few x.0 x.1 z is_read refl in
            let clash = sym there ∙ sym (its_row (length k.answers) (turns.at_steps k)) ∙ row in cc
        by_answer b left ok = absurd ok

    by_row : (v : Option Row) → map.get m log_row ≡ v → Comes (tx_output TxAt.Log (given_goes (begin_of o) (given_of (replied (act Look c.now v).1)))) m
    by_row None there = goes_at (TxAt.Lock (Lockset (begin_of o))) m h.lock_ahead (λ t. refl) (as_it_was h) (looks_lock e (Lockset (begin_of o)) fits) (in_lock m (Lockset (begin_of o)) refl (λ asked. cc) tt)
    by_row (Some w) there = turns.by_answer k
        (λ left. let clash = sym there ∙ sym (its_row (length k.instance.answers) (turns.step_here k left)) ∙ no_row d m h.histories h.lock_ahead h.rows r.id k.instance k.made in cc)
        (λ a rest left. subst (λ z. Comes (StageOutput.Answers z None) m) (sym (behind_row a rest left w there)) (replays m a rest left (λ t. refl) (as_it_was h)))

    pub log_turn : Turns TxAt.Log
    unfolding Comes
    log_turn = asks_it TxAt.Log (subst (λ n. Comes (tx_output TxAt.Log (given_goes (begin_of o) (given_of (replied (act Look c.now (map.get m log_row)).1)))) n) (sym (looked c.now log_row m)) (by_row (map.get m log_row) refl))

  -- ---- the row that says that the lock is asked for
  abbrev lock_row : RowKey
  lock_row = lockset_key r.id (begin_of o) item

  module _ (left : k.later ≡ []) where
    abbrev asked_now : Rows
    asked_now = set_row m lock_row (Some Row.Lockset)

    asked_matches : Matches d asked_now h.histories h.lock_ahead
    asked_matches = subst (λ l. Matches d (set_row m l (Some Row.Lockset)) h.histories h.lock_ahead) (λ j. lockset_key r.id ((in_tx.begin_is r.id r.func o) j) (same_item j))
        (lockset_put d h.histories h.lock_ahead m h.rows r.id k.instance own x k.made (in_tx.open_still d c m r g h k o here e is x touch left) (tx_is left) (not_ended left) (front left).touch)

    asked_lists : (y : Item) → listed asked_now y ≡ listed m y
    asked_lists y = lists_same m asked_now y (content_apart m lock_row (Some Row.Lockset) y (kind_off is_data same_data (head_key y) lock_row refl refl))
        (λ t. elsewhere m lock_row (Some Row.Lockset) is_entry (decision_key t) refl refl) (λ t. aside_apart m lock_row (Some Row.Lockset) t y (kind_off is_shadow same_shadow (shadow_key t y) lock_row refl refl))

    asked_kept : Stays h asked_now
    asked_kept = stays_by h asked_now (set_shadows m lock_row (Some Row.Lockset) refl) asked_matches (λ y. asked_lists y ∙ h.values y) (frame_lockset d m h.plain h.plain h.histories h.histories (items_stay d m h.plain h.plain h.histories refl) (nobody_new d h.histories) r.id (begin_of o) item (in_tx.asks_alone d c m r g h k o here e is x touch left))
        (no_finish m asked_now lock_row (set_others m lock_row (Some Row.Lockset)) d h.histories refl)

  module _ (fits : Fits e (TxAt.Lock (Lockset (begin_of o)))) where
    by_lockset : (v : Option Row) → map.get m lock_row ≡ v → Comes (tx_output (TxAt.Lock (Lockset (begin_of o))) (lock_leads place e (put_goes (replied (act PutLockset c.now v).1)))) (set_row m lock_row (act PutLockset c.now v).0)
    by_lockset None there = turns.by_answer k
        (λ left. goes_at (TxAt.Lock (AtItem (Try 0))) (set_row m lock_row (Some Row.Lockset)) h.lock_ahead (in_tx.set_roots m r.func (Kind.Lockset r.id (begin_of o) x.0 x.1) (Some Row.Lockset) refl) (asked_kept left)
        (fits_lock e (Lockset (begin_of o)) (AtItem (Try 0)) fits) (in_lock (set_row m lock_row (Some Row.Lockset)) (AtItem (Try 0)) tt (λ asked. ap is_some (set_here m lock_row (Some Row.Lockset))) (walks_begin (chain (set_row m lock_row (Some Row.Lockset)) (head_key item)) place)))
        (λ a rest left. absurd (lockset_there a rest left there))
    by_lockset (Some w) there = subst (λ n. Comes (StageOutput.On (Stage.Tx (TxAt.Lock (AtItem (Try 0)))) None) n) (sym (unchanged m lock_row (Some w) (sym there)))
        (goes_at (TxAt.Lock (AtItem (Try 0))) m h.lock_ahead (λ t. refl) (as_it_was h) (fits_lock e (Lockset (begin_of o)) (AtItem (Try 0)) fits) (in_lock m (AtItem (Try 0)) tt (λ asked. ap is_some there) (walks_begin (chain m (head_key item)) place)))

  pub lockset_turn : (b : ℕ) → OfBegin (begin_of o) (TxAt.Lock (Lockset b)) → Fits e (TxAt.Lock (Lockset b)) → Turns (TxAt.Lock (Lockset b))
  unfolding Comes
  lockset_turn b same fits = subst (λ z. Turns (TxAt.Lock (Lockset z))) (sym same) (asks_it (TxAt.Lock (Lockset (begin_of o))) (by_lockset (fits_lock e (Lockset b) (Lockset (begin_of o)) fits) (map.get m lock_row) refl))

  -- ---- the lock of the item, by rows of which its own changed
  module _ (w : WriteAt) (fits : Fits e (TxAt.Lock (AtItem w))) (asked : is_some (map.get m lock_row) ≡ true) (n : Rows) (alone : ChangedAlone (head_key item) m n) (linked : IsLinkedItem n item) (rows_grow : AllGrow m n) (stay : RowsStay m n)
      (notes_on : (p : Place) (u : Note) → note_at (content_of m item).notes p ≡ Some u → note_at (content_of n item).notes p ≡ Some u) where
    roots : SameRoots m n
    roots t = ap is_some (other_key m n item alone (root_key t) refl)

    asked_still : is_some (map.get n lock_row) ≡ true
    asked_still = ap is_some (other_key m n item alone lock_row refl) ∙ asked

    -- no finish is put
    unfinished : (next : Histories) → NoFinish d m n next
    unfinished next = none_finish m n (head_key item) alone d next refl

    -- what it finds past its lock
    in_past : (b : TxAt) → OfBegin (begin_of o) b → HasLock b place (content_of n item) → SeesBoth n place own item b → ((y : Option Row) (u : Value) → Found e b y u) → InOperation d n h.plain h.histories r.id r.func o g.machine.steps e b x
    in_past b begin has sees found = record { begin = begin; asked = λ past. asked_still; locked = has; sees = sees; found = λ q made now. found (shadow_row n own item) (value_at h.plain item) }

    -- the item holds what it held
    as_held : content_of n item ≡ content_of m item → Stays h n
    as_held whole = stays_by h n (other_shadows m n item alone) (content_kept d m n item alone h.histories h.lock_ahead linked whole h.rows) (λ y. others_list m n item alone y (contents_kept d m n item alone whole y) ∙ h.values y)
        (frame_held d m h.plain h.plain h.histories h.histories (items_stay d m h.plain h.plain h.histories refl) (nobody_new d h.histories) n item alone rows_grow stay whole) (unfinished h.histories)

    tries : (u : WriteAt) → content_of n item ≡ content_of m item → SeesAt (chain n (head_key item)) place (cell_at u) → Comes (StageOutput.On (Stage.Tx (TxAt.Lock (AtItem u))) None) n
    tries u whole version = goes_at (TxAt.Lock (AtItem u)) n h.lock_ahead roots (as_held whole) (fits_lock e (AtItem w) (AtItem u) fits) (in_lock n (AtItem u) tt (λ past. asked_still) version)

    -- it stays where it is, or waits: for an owner, or where no row can follow the last one
    stays_here : Stays h n → Comes StageOutput.Stays n
    unfolding Comes
    stays_here kept = turns.stays_on d c m i r g h live k finds n roots kept

    waits : (u : Owner) → Stays h n → Comes (StageOutput.Waits (Wait.Held u)) n
    unfolding Comes
    waits u kept = turns.held d c m i r g h live k u n roots kept

    worn : Stays h n → Comes (StageOutput.Waits Wait.Worn) n
    unfolding Comes
    worn kept = turns.worn d c m i r g h live k n roots kept

    -- a note of another kind is not of the lock: it stays where it is
    other_note : (u : Note) (first : Bool) → is_locks u ≡ false → note_at (content_of n item).notes place ≡ Some u → DidOnce place (ByTx own) Lock first (content_of m item) (content_of n item) → Comes StageOutput.Stays n
    other_note u true off there l = absurd (not_new (dies (ByTx own) Lock (content_of m item).owner) u off (new_note place (ByTx own) (content_of m item) (content_of n item) (dies (ByTx own) Lock (content_of m item).owner) u l.1 l.0 there))
    other_note u false off there whole = stays_here (as_held whole)

    -- with its lock it goes on
    goes_past : (after : IntentId → Bool) → Kept h n h.plain h.histories after → note_at (content_of n item).notes place ≡ Some Note.Got → Comes (tx_output (TxAt.Lock (AtItem w)) (locked_goes e)) n
    goes_past after kept got = by_effect e refl
      where
        by_effect : (f : Effect) → f ≡ e → Comes (tx_output (TxAt.Lock (AtItem w)) (locked_goes f)) n
        by_effect (Effect.Read t y) f = goes_at (TxAt.Shadow 0) n after roots kept (subst (λ z. Fits z (TxAt.Shadow 0)) f tt) (in_past (TxAt.Shadow 0) tt got (reads_begin (shadow_chain n own item)) (λ z u. subst (λ q. Found q (TxAt.Shadow 0) z u) f tt))
        by_effect (Effect.Write t y u) f = goes_at (TxAt.Write (Try 0)) n after roots kept (subst (λ z. Fits z (TxAt.Write (Try 0))) f tt) (in_past (TxAt.Write (Try 0)) tt got (walks_begin (shadow_chain n own item) place) (λ z u. subst (λ q. Found q (TxAt.Write (Try 0)) z u) f tt))
        by_effect (Effect.CondWrite t y l p u) f = goes_at TxAt.Seek n after roots kept (subst (λ z. Fits z TxAt.Seek) f tt) (in_past TxAt.Seek tt got tt (λ z u. subst (λ q. Found q TxAt.Seek z u) f tt))
        by_effect f same = let clash = ap touched same ∙ touch in cc

    -- ---- at the front, where the place had no note
    module _ (left : k.later ≡ []) (none : note_at (content_of m item).notes place ≡ None) where
      unlocked : h.lock_ahead r.id ≡ false
      unlocked = not_locked left none

      -- the lock is taken
      module _ (free : other_owner (ByTx own) (content_of m item).owner ≡ None) (did : content_of n item ≡ done_to place (ByTx own) Lock (content_of m item)) where
        abbrev taken : IntentId → Bool
        taken = lock_in h.lock_ahead r.id

        taken_more : (j : IntentId) → h.lock_ahead j ≡ true → taken j ≡ true
        taken_more j was = by_test (is_eq (id_cmp j r.id))
          where
            by_test : (b : Bool) → (if b then true else h.lock_ahead j) ≡ true
            by_test b = grind arith

        taken_matches : Matches d n h.histories taken
        taken_matches = as_run left (λ y p. ChangedAlone (head_key y) m n → IsLinkedItem n y → note_at (content_of m y).notes p ≡ None → other_owner (ByTx own) (content_of m y).owner ≡ None
            → content_of n y ≡ record { value = (content_of m y).value; owner = Some (ByTx own); notes = (content_of m y).notes ++ (p, Note.Got) ∷ [] } → Matches d n h.histories taken)
            (λ alone linked none free did. lock_did d h.histories h.lock_ahead r.id k.instance k.made unlocked own (tx_is left) x (front left).touch m n alone linked none free did h.rows) alone linked none free did

        taken_frame : Frame d m n h.plain h.plain h.histories h.histories
        taken_frame = frame_item d m h.plain h.plain h.histories h.histories (items_stay d m h.plain h.plain h.histories refl) (nobody_new d h.histories) n item alone rows_grow stay notes_on
            (λ t z ended owned. let mine : own ≡ t = same_owner (sym (ap (λ (z : Content). z.owner) did) ∙ owned) in let clash = sym (not_ended left) ∙ ap (tx_end d h.histories) mine ∙ ended in cc)
          where
            same_owner : {s t : TxId} → Some (ByTx s) ≡ Some (ByTx t) → s ≡ t
            same_owner same = cc

        taken_kept : Kept h n h.plain h.histories taken
        taken_kept = kept_moving h n h.plain h.histories taken (record { extends = h.extends; shadows = rows_go d m n h.plain h.histories h.lock_ahead taken taken_more (other_shadows m n item alone) h.shadows })
            (ahead_front d h.histories h.lock_ahead h.ahead_at_ends r.id k.instance own x.0 x.1 (front left) (turns.well_formed_instance h k)) h.well_formed taken_matches
            (λ y. did_lists m own (no_decision_yet left) item n alone free (ap (λ (z : Content). z.value) did) (ap (λ (z : Content). z.owner) did) y ∙ h.values y) (settled h) (grows_self h.histories) taken_frame (unfinished h.histories)

      -- it dies: it has that answer from now on
      module _ (j : IntentId) (dead : dies (ByTx own) Lock (content_of m item).owner ≡ Some j) (did : content_of n item ≡ died_at place j (content_of m item)) where
        holder : Holder (content_of m item).owner j
        holder = (dies_so place own (content_of m item) j none dead).1

        abbrev cause : Cause
        cause = record { place = place_now left; holder = Some j }

        abbrev a : Answer
        a = Answer.Aborted cause

        abbrev next : Histories
        next = map.insert h.histories r.id (advanced d r.id k.instance a)

        released_now : Released d m h.histories r.id (length k.instance.answers)
        released_now = subst (Released d m h.histories r.id) (turns.step_here k left) finds.released

        is_death : IsDeath (place_now left) own cause
        is_death = death_is_older d h.histories h.well_formed h.lock_ahead r.id k.instance own x.0 x.1 (front left) item (content_of m item) (h.rows.items item)
            (only_one d m h.histories h.lock_ahead h.rows h.well_formed r.id k.instance k.made (in_tx.open_still d c m r g h k o here e is x touch left) own (tx_is left) (in_tx.apart d c m r g h k o here e is x touch left) released_now h.latest item)
            (place_now left) (died_at (place_now left) j (content_of m item)) j (dies_so (place_now left) own (content_of m item) j (subst (λ p. note_at (content_of m item).notes p ≡ None) (sym (at_place left)) none) dead).0

        back : (P : Item → Place → Type 0) → P item place → P its_item (place_now left)
        back P z = subst (λ y. P y (place_now left)) (sym same_item) (subst (P item) (sym (at_place left)) z)

        its_alone : ChangedAlone (head_key its_item) m n
        its_alone = back (λ y p. ChangedAlone (head_key y) m n) alone

        died_goes : IsConsistent d n h.plain next h.lock_ahead
        died_goes = deaths_go d m h.plain h.histories h.lock_ahead h.lock_ahead r.id k.instance own x.0 x.1 n cause (in_tx.opened d c m r g h k o here e is x touch left) (front left) (none_out h.lock_ahead r.id unlocked) its_alone unlocked
            (death_answer (place_now left) own (effect_of d k.instance) x cause (front left).touch is_death)

        died_matches : Matches d n next h.lock_ahead
        died_matches = dies_inside d h.histories h.lock_ahead h.lock_ahead r.id k.instance k.made (none_out h.lock_ahead r.id unlocked) own (tx_is left) m h.rows x.0 x.1 j n (front left).touch
            (subst (λ l. map.get m l ≡ Some Row.Lockset) (λ j. lockset_key r.id (sym (in_tx.begin_is r.id r.func o) j) (sym same_item j)) (in_tx.lockset_is (map.get m lock_row) (expected_lockset d (begin_of o) item r.id (map.get h.histories r.id)) (lockset_ahead d h.histories (begin_of o) item r.id (map.get h.histories r.id)) (h.rows.keys lock_row) asked))
            unlocked its_alone (back (λ y p. IsLinkedItem n y) linked) (back (λ y p. note_at (content_of m y).notes p ≡ None) none) (back (λ y p. content_of n y ≡ with_note (content_of m y) p (Note.Died j)) did)

        -- no transaction of the instance ended there
        not_there : (t : TxId) (z : ℕ × Bool) → tx_end d next t ≡ Some z → place ≡ end_place t z.0 → ⊥
        not_there t z ended at_end =
            let mine : r.id ≡ t.intent = ap (λ (p : Place). p.intent) at_end in
            let was = sym (ap (ended_by d t.begin) (ap (map.get h.histories) (sym mine) ∙ k.made)) ∙ in_tx.ends_before d c m r g h k o here e is x touch left a t z ended in
            let less = (ended_at d k.instance t.begin z was).before in
            let step : g.machine.steps ≡ z.0 = ap (λ (p : Place). p.step) at_end in
            let last = turns.step_here k left in
            omega (arith, less, step, last)

        -- so its place is none where items are given back
        not_free : (t : TxId) (z : ℕ × Bool) (p : Place) → tx_end d next t ≡ Some z → IsFreePlace next t z.0 p → place ≡ p → ⊥
        not_free t z p ended (inl at_end) same = not_there t z ended (same ∙ at_end)
        not_free t z p ended (inr last) same = let l = few_now left in let w = turns.step_here k left in let step : g.machine.steps ≡ p.step = ap (λ (y : Place). y.step) same in let is_last = last.0 in omega (arith, l, w, step, is_last)

        died_frame : Frame d m n h.plain h.plain h.histories next
        died_frame = frame_item d m h.plain h.plain h.histories next (items_stay d m h.plain h.plain next refl) (nobody_set d h.histories r.id (advanced d r.id k.instance a) (ap is_some k.made)) n item alone rows_grow stay notes_on
            (λ t z ended owned. record {
              owner = ap (λ (y : Content). y.owner) (sym did) ∙ owned;
              notes = λ p free. ap (λ (y : Content). note_at y.notes p) did ∙ note_pushed (content_of m item).notes place p (Note.Died j) none ∙ off t z p ended free (place_eq place p) refl;
            })
          where
            off : (t : TxId) (z : ℕ × Bool) (p : Place) → tx_end d next t ≡ Some z → IsFreePlace next t z.0 p → (b : Bool) → place_eq place p ≡ b → (if b then Some (Note.Died j) else note_at (content_of m item).notes p) ≡ note_at (content_of m item).notes p
            off t z p ended free true here = absurd (not_free t z p ended free (place_same place p here))
            off t z p ended free false other = refl

        died_well_formed : WellFormedHistories d next
        died_well_formed = well_formed_died d h.histories h.well_formed r.id k.instance k.made own x cause (tx_is left) (front left).touch is_death

        died_kept : Kept h n h.plain next h.lock_ahead
        died_kept = kept_moving h n h.plain next h.lock_ahead died_goes (ahead_set d h.histories h.lock_ahead h.ahead_at_ends h.lock_ahead r.id (advanced d r.id k.instance a) (none_out h.lock_ahead r.id unlocked)) died_well_formed died_matches
            (λ y. died_lists m own (no_decision_yet left) item n alone (ap (λ (z : Content). z.value) did) (ap (λ (z : Content). z.owner) did) y ∙ h.values y)
            (settled_operated d m h.plain h.histories r.id k.instance k.made a x (front left).touch
            (λ z u same by. subst (λ y. is_some (map.get h.plain.made y) ≡ true) (same_some (ap (λ (y : Cause). y.holder) (one_cause same) ∙ by)) (holder_made d m h.histories h.lock_ahead h.rows h.well_formed h.plain h.extends item j (holds_here h item j) holder)) (settled h))
            (grows_moved d h.histories r.id k.instance a k.made) died_frame (unfinished next)

        dies_now : Comes (StageOutput.Answers (Answer.Aborted (record { place = place; holder = Some j })) None) n
        unfolding Comes
        dies_now = let more = moved_more d r.id k.instance a in
            subst (λ p. Comes (StageOutput.Answers (Answer.Aborted (record { place = p; holder = Some j })) None) n) (at_place left)
            (turns.answers_on d c m i r g h live k finds a more.more n next h.lock_ahead (advanced d r.id k.instance a) roots died_kept (inserted h.histories r.id (advanced d r.id k.instance a)) (grown_moved d r.id k.instance a)
            (ap (λ ts. (ts ++ a ∷ []) ++ more.more) (turns.all_here k left) ∙ more.same) (in_tx.wants_here d c m r g h k o here e is x touch) (in_tx.frees_none d c m i r g h live k finds o tx here e is x touch n))

    -- ---- what the lock told
    -- where the place had no note, it is at the front
    at_front : note_at (content_of m item).notes place ≡ None → k.later ≡ []
    at_front none = turns.by_answer k (λ left. left) (λ a rest left. let clash = sym none ∙ note_here_is a rest left in cc)

    taken_now : note_at (content_of m item).notes place ≡ None → (j : Option IntentId) → dies (ByTx own) Lock (content_of m item).owner ≡ j → DidAs place (ByTx own) Lock j (content_of m item) (content_of n item)
        → note_at (content_of n item).notes place ≡ Some Note.Got → Comes (tx_output (TxAt.Lock (AtItem w)) (locked_goes e)) n
    taken_now none None alive did got = let left = at_front none in goes_past (lock_in h.lock_ahead r.id) (taken_kept left none (free_of own (content_of m item).owner did.0 alive) did.1) got
    taken_now none (Some j) dead did got = let clash : Note.Got ≡ Note.Died j = new_note place (ByTx own) (content_of m item) (content_of n item) (Some j) Note.Got did none got in cc

    died_now : note_at (content_of m item).notes place ≡ None → (j : IntentId) (b : Option IntentId) → dies (ByTx own) Lock (content_of m item).owner ≡ b → DidAs place (ByTx own) Lock b (content_of m item) (content_of n item)
        → note_at (content_of n item).notes place ≡ Some (Note.Died j) → Comes (StageOutput.Answers (Answer.Aborted (record { place = place; holder = Some j })) None) n
    died_now none j None alive did there = let clash : Note.Died j ≡ Note.Got = new_note place (ByTx own) (content_of m item) (content_of n item) None (Note.Died j) did none there in cc
    died_now none j (Some i) dead did there = subst (λ z. Comes (StageOutput.Answers (Answer.Aborted (record { place = place; holder = Some z })) None) n)
        (one_death (new_note place (ByTx own) (content_of m item) (content_of n item) (Some i) (Note.Died j) did none there)) (dies_now (at_front none) none i dead did)

    -- a death that was there is the recorded answer
    died_before : (j : IntentId) → content_of n item ≡ content_of m item → note_at (content_of m item).notes place ≡ Some (Note.Died j) → Comes (StageOutput.Answers (Answer.Aborted (record { place = place; holder = Some j })) None) n
    died_before j whole there = turns.by_answer k
        (λ left. absurd (none_dead its_item k.instance.func (tx_now d r.id k.instance) (effect_of d k.instance) (h.lock_ahead r.id) j
        (sym (note_is_ahead d m h.histories h.lock_ahead h.rows r.id k.instance k.made (few_now left) its_item) ∙ (λ i. note_at (content_of m (same_item i)).notes (at_place left i)) ∙ there)))
        (λ a rest left.
        let noted_so : (told_here a rest left).note ≡ Note.Died j = same_some (sym (note_here_is a rest left) ∙ there) in
        let same : Answer.Aborted (record { place = place_of r.id (length k.answers); holder = Some j }) ≡ a = noted_death (place_of r.id (length k.answers)) a j (ap (λ u. lock_answer (place_of r.id (length k.answers)) (noted u)) (sym noted_so) ∙ (told_here a rest left).output) in
        subst (λ z. Comes (StageOutput.Answers z None) n) (sym same ∙ ap (λ q. Answer.Aborted (record { place = place_of r.id q; holder = Some j })) (sym (turns.at_steps k))) (replays n a rest left roots (as_held whole)))

    by_note : (u : Note) (first : Bool) → note_at (content_of n item).notes place ≡ Some u → DidOnce place (ByTx own) Lock first (content_of m item) (content_of n item) → Comes (tx_output (TxAt.Lock (AtItem w)) (lock_leads place e (note_goes u first))) n
    by_note Note.Got true got l = taken_now l.0 (dies (ByTx own) Lock (content_of m item).owner) refl l.1 got
    by_note Note.Got false got whole = goes_past h.lock_ahead (as_held whole) got
    by_note (Note.Died j) true there l = died_now l.0 j (dies (ByTx own) Lock (content_of m item).owner) refl l.1 there
    by_note (Note.Died j) false there whole = died_before j whole (ap (λ (z : Content). note_at z.notes place) (sym whole) ∙ there)
    by_note Note.Wrote first there l = other_note Note.Wrote first refl there l
    by_note (Note.Cond b) first there l = other_note (Note.Cond b) first refl there l
    by_note Note.Freed first there l = other_note Note.Freed first refl there l

    abbrev walk : WriteWalk
    walk = record { home = r.func; item = Plain x.0 x.1; place = place; who = ByTx own; op = Lock; at = w }

    by_goes : (z : WriteGoes) → Logs place (ByTx own) Lock (walk_so z) (content_of m item) (content_of n item) → SeesAt (chain n (head_key item)) place (cell_at (walk_at walk z).at) → Comes (tx_output (TxAt.Lock (AtItem w)) (lock_leads place e (item_goes z))) n
    by_goes (WriteGoes.On u) whole version = tries u whole version
    by_goes WriteGoes.Stays whole version = stays_here (as_held whole)
    by_goes (WriteGoes.Done u first) l version = by_note u first l.0 l.1
    by_goes WriteGoes.NotOwner l version = stays_here (as_held l.2)
    by_goes (WriteGoes.Held u) l version = waits u (as_held l.2)
    by_goes WriteGoes.Worn l version = worn (as_held l.1)

  -- .. by the act of its walk
  module _ (w : WriteAt) (fits : Fits e (TxAt.Lock (AtItem w))) (asked : is_some (map.get m lock_row) ≡ true) (sees : SeesAt (chain m (head_key item)) place (cell_at w)) where
    abbrev own_walk : WriteWalk
    own_walk = record { home = r.func; item = Plain x.0 x.1; place = place; who = ByTx own; op = Lock; at = w }

    by_walk : let q = write_asks (head_key item) place (ByTx own) Lock w in Comes (tx_output (TxAt.Lock (AtItem w)) (lock_leads place e (item_goes (write_goes Note.Got w (query_reply q c.now m))))) (rows_after q c.now m)
    by_walk =
        let q : Query = write_asks (head_key item) place (ByTx own) Lock w in
        let logged = by_op own_walk m (rows_after q c.now m) c.now (h.rows.chains item) sees refl in
        let keeps = write_spares (head_key item) place (ByTx own) Lock w in
        by_goes w fits asked (rows_after q c.now m) logged.others logged.linked logged.grows (rows_there q keeps c.now m) (query_notes q keeps c.now m item) (write_goes Note.Got w (query_reply q c.now m)) logged.logs logged.sees

  pub lock_turn : (l : LockAt) → Fits e (TxAt.Lock l) → InOperation d m h.plain h.histories r.id r.func o g.machine.steps e (TxAt.Lock l) x → Turns (TxAt.Lock l)
  unfolding Comes
  lock_turn (Lockset b) fits found = lockset_turn b found.begin fits
  lock_turn (AtItem w) fits found = asks_it (TxAt.Lock (AtItem w)) (by_walk w fits (found.asked refl) found.sees)
