-- What the runs of others have found in the rows stays, through an event that keeps its frame.
use Rattle.beldi_txn.specs.Tx.{op_of}
use Rattle.beldi_step.specs.Run.{OnCell}
use Rattle.beldi_invariant.proofs.Names.{AllGrow, Answer, Async, AtItem, AtStage, Begun, Extends, Bool, ByTx, Call, Chain, CondWrite, Content, Core, DecidedAt, Deployment, Effect, End, EndAt, EndWalk, Entry, Found, Frame, IsConsistent, Grown, Grows, HasLock, InItem, InOperation, Inside, Instance, IntentId, IsDecided, IsWriting, Item, Histories, Knows, List, LocksAreAheadAtEnds, Lockset, Matches, None, Note, OpenTx, Option, Outcome, Own, Place, PlainState, Read, Released, Return, Invariant, Row, Rows, RowsGrow, Run, RunTx, WellFormedHistories, Sees, SeesPut, Some, Stage, TxAt, TxId, Txs, Value, EndState, Visited, WriteAt, [], ahead_by, along, along_append, ap, append-nil, append_assoc, arith, aside_head, begin_of, cell_at, cell_op, chain, child_of, content_of, effect_after, effect_of, end_of, end_walk, ended_by, ended_stays, eq-eqb, false, few_answers, front_is, got_before, got_by, head_key, if◌then◌else◌, in_tx, is_at, is_begin, is_eq, is_item, is_on, is_opened, is_past, is_sent, is_some, item_head, item_total, key_in, last_step, length, length-append, listed, lockset_key, log_key, no_decision, none_begun, note_at, note_is_ahead, now_open, others_keep, place_of, plain_owner, readers_keep, refl, same_some, shadow_chain, shadow_key, shadow_row, subst, sym, tail, tied_itself, touched, true, true_false, tx_after, tx_end, tx_now, tx_of, tx_self, txs_after, txs_by, txs_pushed, value_at, value_in, ℕ, ◌&&◌, ◌++◌, ◌<◌, ◌||◌, ◌∙◌, ◌∷◌, ◌≡◌}
use Rattle.beldi_invariant.proofs.{Closing.settled_after, Frames.NoFinish, Frames.aside_stays, Grown.tx_stays, InTx.no_begin, InTx.wants_one, Lives.PlacesOn, Lives.keeps_still, Lives.made_stays, Lives.no_more, Lives.outcome_stays, Lives.stands_still, OpenOf.open_begun, OpenOf.own_begin, OpenOf.tx_open, Moves.Kept, Shown.Settled, Shown.Shows, Shown.legal_well_formed, StageTurns.all_here, StageTurns.at_steps, StageTurns.by_answer, StageTurns.effect_next, StageTurns.step_here, StageTurns.wanted_here, Visits.visit_stays}
use Rattle.beldi_invariant.proofs.Names.map
use Rattle.beldi_invariant.proofs.Names.plain

-- ---- small facts
none_later : (xs ys : List Answer) → length (xs ++ ys) ≡ length xs → ys ≡ []
none_later xs [] h = refl
none_later xs (y ∷ ys) h = let l = length-append xs (y ∷ ys) in absurd (omega (arith, l, h))

pub or_true : (b : Bool) → (b || true) ≡ true
or_true b = grind arith

-- ---- how a transaction ended
-- by its End, where that was answered
pub end_here : (d : Deployment) (q : Instance) (given : List Answer) (a : Answer) (rest : List Answer) (b : ℕ) (c : Bool) → given ++ a ∷ rest ≡ q.answers → effect_after d q given ≡ End c → (txs_after d q given).begun ≡ Some b → end_of d q b ≡ Some (length given, c)
end_here d q given a rest b c all is begun = ended_stays d q (given ++ a ∷ []) rest b (length given, c) (append_assoc given (a ∷ []) rest ∙ all)
    (ap (λ (s : Txs). s.ends b) (txs_pushed d q given a) ∙ ap (λ e. (txs_by (length given) e (txs_after d q given)).ends b) is ∙ ap (λ o. if is_at b o then Some (length given, c) else (txs_after d q given).ends b) begun
    ∙ ap (λ z. if z then Some (length given, c) else (txs_after d q given).ends b) (eq-eqb b b refl))

-- an end before these answers is one after them
pub end_before : (d : Deployment) (q : Instance) (given rest : List Answer) (b : ℕ) (z : ℕ × Bool) → given ++ rest ≡ q.answers → end_of d q b ≡ Some z → z.0 < length given → (txs_after d q given).ends b ≡ Some z
end_before d q given rest b z all is less = go given rest (txs_after d q given) less
    (sym (ap (λ (s : Txs). s.ends b) (along_append (λ ts a s. txs_by (length ts) (effect_after d q ts) s) [] given rest none_begun)) ∙ ap (λ ts. (txs_after d q ts).ends b) all ∙ is)
  where
    by_test : (n : ℕ) (c t : Bool) (o : Option (ℕ × Bool)) → z.0 < n → (if t then Some (n, c) else o) ≡ Some z → o ≡ Some z
    by_test n c t o less e = grind arith

    by_effect : (n : ℕ) (e : Effect) (s : Txs) → z.0 < n → (txs_by n e s).ends b ≡ Some z → s.ends b ≡ Some z
    by_effect n e s less h = grind arith

    go : (ts rest : List Answer) (s : Txs) → z.0 < length ts → (along (λ ts a s. txs_by (length ts) (effect_after d q ts) s) ts rest s).ends b ≡ Some z → s.ends b ≡ Some z
    go ts [] s less h = h
    go ts (a ∷ rest) s less h = by_effect (length ts) (effect_after d q ts) s less (go (ts ++ a ∷ []) rest (txs_by (length ts) (effect_after d q ts) s) (let l = length-append ts (a ∷ []) in omega (arith, l, less)) h)

-- an instance that has grown wants what it did, and began what it did
pub txs_stay : (d : Deployment) (i j : Instance) (given : List Answer) → Grown i j → txs_after d i given ≡ txs_after d j given
txs_stay d i j given w = λ k. txs_after d (record i { func = sym w.func k; args = sym w.args k; enclosing = sym w.enclosing k }) given

pub effects_stay : (d : Deployment) (i j : Instance) (given : List Answer) → Grown i j → effect_after d i given ≡ effect_after d j given
effects_stay d i j given w = λ k. effect_after d (record i { func = sym w.func k; args = sym w.args k; enclosing = sym w.enclosing k }) given

-- ---- an operation
-- what stands past the lock
abbrev past_lock : TxAt → Bool
past_lock TxAt.Log = false
past_lock (TxAt.Lock l) = false
past_lock a = true

lock_noted : (a : TxAt) (p : Place) (c : Content) → past_lock a ≡ true → HasLock a p c → note_at c.notes p ≡ Some Note.Got
lock_noted a p c h g = grind arith

lock_stays : (a : TxAt) (p : Place) (c e : Content) → ((w : Note) → note_at c.notes p ≡ Some w → note_at e.notes p ≡ Some w) → HasLock a p c → HasLock a p e
lock_stays a p c e stay h = grind arith

-- what it sees of the rows stays, where those of the item and of the shadow grow
sees_stay : (a : TxAt) (p : Place) (f g u v : Chain) → RowsGrow f u → RowsGrow g v → Sees a p f g → Sees a p u v
sees_stay TxAt.Log p f g u v item aside h = tt
sees_stay (TxAt.Lock (Lockset b)) p f g u v item aside h = tt
sees_stay (TxAt.Lock (AtItem w)) p f g u v item aside h = others_keep f u p (cell_at w) item h
sees_stay TxAt.Seek p f g u v item aside h = tt
sees_stay (TxAt.Shadow r) p f g u v item aside h = readers_keep g v r aside h
sees_stay (TxAt.Item r) p f g u v item aside h = readers_keep f u r item h
sees_stay (TxAt.Keep w) p f g u v item aside h = tt
sees_stay (TxAt.Head w) p f g u v item aside h = tt
sees_stay (TxAt.Write w) p f g u v item aside h = others_keep g v p (cell_at w) aside h

-- .. outside a transaction, too
puts_stay : (m n : Rows) (func : ℕ) (p : Place) (at : WriteAt) (o : Option OnCell) → AllGrow m n → SeesPut m func p at o → SeesPut n func p at o
puts_stay m n func p at None grows h = tt
puts_stay m n func p at (Some o) grows h = let x : Item = record { func = func; table = o.table; key = o.key } in others_keep (chain m (head_key x)) (chain n (head_key x)) p (cell_at at) (grows (head_key x) (item_head x)) h

-- what it found stays, where the shadow does, but of a write, and the plain value does, past the lock
found_stays : (e : Effect) (a : TxAt) (s u : Option Row) (v w : Value) → (is_some (op_of e) ≡ false → u ≡ s) → (is_some s ≡ true → is_some u ≡ true) → (past_lock a ≡ true → w ≡ v) → Found e a s v → Found e a u w
found_stays (Read t k) (TxAt.Item z) s u v w same there keeps h = same refl ∙ h
found_stays (Read t k) (TxAt.Keep x) s u v w same there keeps h = (λ i. value_in (same refl i) (keeps refl i)) ∙ h
found_stays (CondWrite t k r o y) (TxAt.Head x) s u v w same there keeps h = λ none. keeps refl ∙ h (grind (arith, none, there))
found_stays (CondWrite t k r o y) (TxAt.Write x) s u v w same there keeps h = there h
found_stays e a s u v w same there keeps h = tt

-- who writes touches one
writes_touch : (e : Effect) → is_some (op_of e) ≡ true → is_some (touched e) ≡ true
writes_touch e h = grind arith

-- an effect that gives back the outcome touches no item, and ends none
no_outcome : (e : Effect) (o : Option Outcome) → (is_some (touched e) ≡ true) → ((u : Outcome) → o ≡ Some u → e ≡ Effect.Return u) → o ≡ None
no_outcome e o h over = grind arith

-- ---- the step of an instance that is to be answered
-- a lock that is ahead by this is one
pub is_ahead : (x : Item) (f : ℕ) (t : Option TxId) (e : Effect) (b : Bool) (w : Note) → ahead_by x f t e b ≡ Some w → b ≡ true
is_ahead x f t e b w h = grind arith

-- ---- of who can step in an open transaction there is one
one_steps : (d : Deployment) (p : PlainState) (histories : Histories) → plain.WellFormed d p → WellFormedHistories d histories → Extends d p histories → (s : TxId) (i j : IntentId) (y z : Instance) → map.get histories i ≡ Some y → map.get histories j ≡ Some z → y.outcome ≡ None → z.outcome ≡ None → is_some (touched (effect_of d y)) ≡ true
    → is_some (touched (effect_of d z)) ≡ true → tx_now d i y ≡ Some s → tx_now d j z ≡ Some s → i ≡ j
one_steps d p histories legal well_formed beside s i j y z is there on over touch touches now after =
    let o = plain_owner d p histories legal well_formed beside s i y is on now in
    let tx = beside.begun s.intent o.owner o.made o.begun in
    let front = λ (k : IntentId) (w : Instance) (known_so : map.get histories k ≡ Some w) (none : w.outcome ≡ None) (touched_so : is_some (touched (effect_of d w)) ≡ true) (inside : tx_now d k w ≡ Some s).
    front_is d p histories legal s.intent o.owner o.made o.begun tx k w (in_tx d p histories legal s.intent o.owner o.made o.begun tx well_formed k w known_so (inside ∙ ap Some o.is)) known_so none (λ f v call. absurd (no_call f v call touched_so)) in
    sym (front i y is on touch now) ∙ front j z there over touches after
  where
    no_call : {e : Effect} (f : ℕ) (v : Value) → e ≡ Effect.Call f v → is_some (touched e) ≡ true → ⊥
    no_call f v call touched_so = let clash = sym (ap (λ e. is_some (touched e)) call) ∙ touched_so in cc

-- past its decision an end is decided
pub decided_past : (a : EndAt) (w : EndWalk) (m : Rows) → is_past a ≡ true → DecidedAt a w m → IsDecided w m
decided_past a w m past h = grind arith

-- ---- a run, before and after the event
module _ (d : Deployment) (c : Core) (m n : Rows) (h : Invariant d c m) (q : PlainState) (next : Histories) (after : IntentId → Bool) (shows : Shows d n q next after) (grows : Grows h.histories next) (frame : Frame d m n h.plain q h.histories next)
    (r : Run) (g : Begun) (k : Knows d h.histories r g) (j : Instance) (made : map.get next r.id ≡ Some j) (w : Grown k.instance j) where
  all_then : k.answers ++ (k.later ++ w.later) ≡ j.answers
  all_then = (stands_still k j made w).run_answers

  -- an end that is known, too
  ends_then : (b : ℕ) (z : ℕ × Bool) → end_of d k.instance b ≡ Some z → end_of d j b ≡ Some z
  ends_then b z e = ended_stays d j k.instance.answers w.later b z w.more (ap (λ (s : Txs). s.ends b) (sym (txs_stay d k.instance j k.instance.answers w)) ∙ e)

  -- one that is before its step was known
  ended_recorded : (t : TxId) (z : ℕ × Bool) → t.intent ≡ r.id → tx_end d next t ≡ Some z → z.0 < g.machine.steps → tx_end d h.histories t ≡ Some z
  ended_recorded t z mine e less = ap (ended_by d t.begin) (ap (map.get h.histories) mine ∙ k.made) ∙ ended_stays d k.instance k.answers k.later t.begin z k.run_answers
      (ap (λ (s : Txs). s.ends t.begin) (txs_stay d k.instance j k.answers w)
      ∙ end_before d j k.answers (k.later ++ w.later) t.begin z all_then (sym (ap (ended_by d t.begin) (ap (map.get next) mine ∙ made)) ∙ e) (subst (λ x. z.0 < x) (at_steps k) less))

  released : Released d m h.histories r.id g.machine.steps → Released d n next r.id g.machine.steps
  released was t z mine e less x own = was t z mine (ended_recorded t z mine e less) less x (frame.owners t z x e own).owner

  -- where it was not answered since
  module _ (left : k.answers ≡ j.answers) where
    left_before : k.later ≡ []
    left_before = (no_more k.later w.later (none_later k.answers (k.later ++ w.later) (ap length (all_then ∙ sym left)))).0

    now : effect_of d k.instance ≡ g.machine.effect
    now = effect_next k left_before

    now_then : effect_of d j ≡ g.machine.effect
    now_then = ap (effect_after d j) (sym left) ∙ sym (effects_stay d k.instance j k.answers w) ∙ wanted_here k

  -- ---- in an open transaction
  module _ (o : RunTx) (is_open : g.tx ≡ Some o) where
    abbrev tx : TxId
    tx = tx_of r.id r.func o

    inside : is_begin g.machine.effect ≡ false → tx_after d r.id k.instance k.answers ≡ Some tx
    inside apart = tx_open d r.id k.instance k.answers o (sym k.run_open ∙ is_open) (ap is_begin (wanted_here k) ∙ apart) ∙ ap (λ f. Some (tx_of r.id f o)) k.func

    inside_then : is_begin g.machine.effect ≡ false → tx_after d r.id j k.answers ≡ Some tx
    inside_then apart = sym (tx_stays d r.id k.instance j k.answers w) ∙ inside apart

    -- ---- an operation on an item
    module _ (e : Effect) (is : g.machine.effect ≡ e) (i : ℕ × List ℕ) (touch : touched e ≡ Some i) where
      abbrev item : Item
      item = record { func = r.func; table = i.0; key = i.1 }

      apart : is_begin g.machine.effect ≡ false
      apart = ap is_begin is ∙ no_begin e i touch

      module _ (left : k.answers ≡ j.answers) where
        now_in : tx_now d r.id k.instance ≡ Some tx
        now_in = ap (tx_after d r.id k.instance) (sym (all_here k (left_before left))) ∙ inside apart

        then_in : tx_now d r.id j ≡ Some tx
        then_in = ap (tx_after d r.id j) (sym left) ∙ inside_then apart

        going : k.instance.outcome ≡ None
        going = no_outcome (effect_of d k.instance) k.instance.outcome (ap is_some (ap touched (now left ∙ is) ∙ touch)) (h.well_formed.each r.id k.instance k.made).over

        -- its transaction has not ended, afterwards too
        open_after : tx_end d next tx ≡ None
        open_after = now_open d next shows.well_formed r.id j tx made (no_outcome (effect_of d j) j.outcome (ap is_some (ap touched (now_then left ∙ is) ∙ touch)) (shows.well_formed.each r.id j made).over) then_in

        -- where its place has the lock, it owns the item
        owned : note_at (content_of m item).notes (place_of r.id g.machine.steps) ≡ Some Note.Got → (content_of m item).owner ≡ Some (ByTx tx)
        owned noted = (h.rows.txs item).got_is_owned tx (record {
          member = r.id;
          got = ap (got_by d tx item r.id (h.lock_ahead r.id)) k.made ∙ (λ z. got_before d tx item r.id k.instance || (ahead z && is_on tx item k.instance.func (now_in z) (effect_of d k.instance)))
              ∙ (λ z. got_before d tx item r.id k.instance || (tx_self tx z && is_item item (k.func z) (ap touched (now left ∙ is) z))) ∙ (λ z. got_before d tx item r.id k.instance || is_item item r.func (touch z)) ∙ (λ z. got_before d tx item r.id k.instance || is_eq (tied_itself item_total item z)) ∙ or_true (got_before d tx item r.id k.instance);
        }) (now_open d h.histories h.well_formed r.id k.instance tx k.made going now_in)
          where
            here : note_at (content_of m item).notes (place_of r.id (length k.instance.answers)) ≡ Some Note.Got
            here = ap (λ z. note_at (content_of m item).notes (place_of r.id z)) (sym (step_here k (left_before left))) ∙ noted

            few : length k.instance.answers < last_step
            few = let n = few_answers d k.instance.func k.instance.args (is_some k.instance.enclosing) k.instance.answers (wants_one (effect_of d k.instance) i (ap touched (now left ∙ is) ∙ touch)) in omega (arith, n)

            ahead : h.lock_ahead r.id ≡ true
            ahead = is_ahead item k.instance.func (tx_now d r.id k.instance) (effect_of d k.instance) (h.lock_ahead r.id) Note.Got (sym (note_is_ahead d m h.histories h.lock_ahead h.rows r.id k.instance k.made few item) ∙ here)

        -- it stands at no write
        unwritten : is_some (op_of e) ≡ false → IsWriting d h.histories tx → ⊥
        unwritten none wr =
            let over = no_outcome (effect_of d wr.instance) wr.instance.outcome (writes_touch (effect_of d wr.instance) wr.writes) (h.well_formed.each wr.writer wr.instance wr.made).over in
            let one = one_steps d h.plain h.histories (legal_well_formed h) h.well_formed h.extends tx wr.writer r.id wr.instance k.instance wr.made k.made over going (writes_touch (effect_of d wr.instance) wr.writes) (ap is_some (ap touched (now left ∙ is) ∙ touch)) wr.now now_in in
            let same : wr.instance ≡ k.instance = same_some (sym wr.made ∙ ap (map.get h.histories) one ∙ k.made) in
            true_false (sym wr.writes ∙ ap (λ y. is_some (op_of (effect_of d y))) same ∙ ap (λ y. is_some (op_of y)) (now left ∙ is) ∙ none)

      operation : (a : TxAt) → InOperation d m h.plain h.histories r.id r.func o g.machine.steps e a i → InOperation d n q next r.id r.func o g.machine.steps e a i
      operation a s = record {
        begin = s.begin;
        asked = λ b. frame.rows (lockset_key r.id (begin_of o) item) (s.asked b);
        locked = lock_stays a (place_of r.id g.machine.steps) (content_of m item) (content_of n item) (λ b. frame.notes item (place_of r.id g.machine.steps) b) s.locked;
        sees = sees_stay a (place_of r.id g.machine.steps) (chain m (head_key item)) (shadow_chain m tx item) (chain n (head_key item)) (shadow_chain n tx item)
            (frame.grows (head_key item) (item_head item)) (frame.grows (shadow_key tx item) (aside_head tx item)) s.sees;
        found = λ y there short.
            let left = front y there short in
            found_stays e a (shadow_row m tx item) (shadow_row n tx item) (value_at h.plain item) (value_at q item)
            (λ none. ap tail (frame.shadows tx item (unwritten left none))) there_still
            (λ past. frame.values tx item (open_after left) (owned left (lock_noted a (place_of r.id g.machine.steps) (content_of m item) past s.locked)))
            (s.found k.instance k.made (sym (step_here k (left_before left))));
      }
        where
          -- a shadow that is there stays
          there_still : is_some (shadow_row m tx item) ≡ true → is_some (shadow_row n tx item) ≡ true
          there_still = aside_stays m n tx item (h.rows.asides tx item).linked (shows.rows.asides tx item).linked frame.rows

          front : (y : Instance) → map.get next r.id ≡ Some y → length y.answers ≡ g.machine.steps → k.answers ≡ j.answers
          front y there short =
              let one : j ≡ y = same_some (sym made ∙ there) in
              let none = none_later k.answers (k.later ++ w.later) (ap length all_then ∙ ap (λ (z : Instance). length z.answers) one ∙ short ∙ at_steps k) in
              sym (append-nil k.answers) ∙ ap (λ ys. k.answers ++ ys) (sym none) ∙ all_then

  -- ---- the end of its own
  module _ (o : OpenTx) (is_open : g.tx ≡ Some (Own o)) (commit : Bool) (is : g.machine.effect ≡ End commit) (v : EndState) (past : is_past v.at ≡ true) where
    abbrev walk : EndWalk
    walk = end_walk r.id r.func o g.machine.steps commit v

    begun : (txs_after d k.instance k.answers).begun ≡ Some o.begin
    begun = open_begun d k.instance k.answers ∙ ap own_begin (sym k.run_open ∙ is_open)

    -- where its step has no answer it is to decide
    undecided : k.later ≡ [] → IsDecided walk m → ⊥
    undecided left decided =
        let none = no_decision d m h.histories h.lock_ahead h.rows r.id k.instance k.made o.begin (ap (λ ts. (txs_after d k.instance ts).begun) (sym (all_here k left)) ∙ begun) in
        let clash = sym (ap (λ f. map.get m (log_key f (place_of r.id o.begin))) (sym k.func) ∙ none) ∙ decided in cc

    -- so it has ended
    visited : Visited walk m → Visited walk n
    visited was = by_answer k (λ left. absurd (undecided left (decided_past v.at walk m past was.decided))) (λ a rest left.
        let ends : end_of d k.instance o.begin ≡ Some (g.machine.steps, commit) = end_here d k.instance k.answers a rest o.begin commit (ap (λ xs. k.answers ++ xs) (sym left) ∙ k.run_answers) (wanted_here k ∙ is) begun ∙ ap (λ z. Some (z, commit)) (sym (at_steps k)) in
        visit_stays d c m n h q next after shows grows frame walk (ap (ended_by d o.begin) k.made ∙ ends) (ap (ended_by d o.begin) made ∙ ends_then o.begin (g.machine.steps, commit) ends) j made (w.func ∙ k.func) was)

  -- ---- where it stands
  in_item : (o : RunTx) → g.tx ≡ Some o → (e : Effect) → g.machine.effect ≡ e → (a : TxAt) (i : Option (ℕ × List ℕ)) → touched e ≡ i → InItem d m h.plain h.histories r.id r.func o g.machine.steps e a i → InItem d n q next r.id r.func o g.machine.steps e a i
  in_item o is_open e is a None touch s = tt
  in_item o is_open e is a (Some i) touch s = operation o is_open e is i touch a s

  -- what it calls is known still
  callee_stays : (step : ℕ) (b : Bool) → (b ≡ true → is_some (map.get h.histories (child_of r.id step)) ≡ true) → b ≡ true → is_some (map.get next (child_of r.id step)) ≡ true
  callee_stays step b was e = made_stays (map.get h.histories (child_of r.id step)) (map.get next (child_of r.id step)) (grows (child_of r.id step)) (was e)

  at_stage : (more : List Entry) → PlacesOn d c.book more h.histories next → (s : Stage) (e : Effect) (o : Option RunTx) → g.machine.effect ≡ e → g.tx ≡ o → AtStage m h.plain c.book k s e o → AtStage n q more (stands_still k j made w) s e o
  at_stage more on Stage.Ask (Read t x) None is open_now s = s
  at_stage more on (Stage.Walk row) (Read t x) None is open_now s =
      let y : Item = record { func = r.func; table = t; key = x } in readers_keep (chain m (head_key y)) (chain n (head_key y)) row (frame.grows (head_key y) (item_head y)) s
  at_stage more on (Stage.Keep v version) (Read t x) None is open_now s = keeps_still next k j made w c.book more on (record { func = r.func; table = t; key = x }) v version s
  at_stage more on (Stage.Write at) e None is open_now s = (s.0, puts_stay m n r.func (place_of r.id g.machine.steps) at (cell_op e) frame.grows s.1)
  at_stage more on (Stage.Call at) (Call f a) o is open_now s = (s.0, callee_stays g.machine.steps (is_opened at) s.1)
  at_stage more on (Stage.Async at) (Async f a) None is open_now s = (s.0, callee_stays g.machine.steps (is_sent at) s.1)
  at_stage more on Stage.Back (Return u) o is open_now s = s
  at_stage more on Stage.Notify (Return u) None is open_now s = s
  at_stage more on Stage.Close (Return u) o is open_now s = (s.0, λ waited. outcome_stays k.instance j w (s.1 waited))
  at_stage more on (Stage.Tx a) e (Some o) is open_now s = (s.0, in_item o open_now e is a (touched e) refl s.1)
  at_stage more on (Stage.Decide b) (End commit) (Some (Own o)) is open_now s = s
  at_stage more on (Stage.End v) (End commit) (Some (Own o)) is open_now s = (s.0, visited o open_now commit is v s.0 s.1)
  at_stage more on z e o is open_now s = absurd s

  found : (more : List Entry) → PlacesOn d c.book more h.histories next → Inside m h.plain c.book k g.stage → Inside n q more (stands_still k j made w) g.stage
  found more on s = record { here = at_stage more on g.stage g.machine.effect g.tx refl refl s.here; released = released s.released; row = λ callee. frame.rows (key_in r.func r.id) (s.row callee) }

-- what others have found stays
pub kept_by : (d : Deployment) (c : Core) (m n : Rows) (h : Invariant d c m) (q : PlainState) (next : Histories) (after : IntentId → Bool) → Shows d n q next after → Grows h.histories next → Frame d m n h.plain q h.histories next → Kept h n q next after
kept_by d c m n h q next after shows grows frame = record { shows = shows; grows = grows; frame = frame; others = λ more on r g k s j made w. found d c m n h q next after shows grows frame r g k j made w more on s }

-- .. over rows that show what is known then
pub kept_moving : {d : Deployment} {c : Core} {m : Rows} (h : Invariant d c m) (n : Rows) (q : PlainState) (next : Histories) (after : IntentId → Bool) → IsConsistent d n q next after → LocksAreAheadAtEnds d next after → WellFormedHistories d next → Matches d n next after → ((x : Item) → listed n x ≡ value_at q x) → Settled d m q next
    → Grows h.histories next → Frame d m n h.plain q h.histories next → NoFinish d m n next → Kept h n q next after
kept_moving {d} {c} {m} h n q next after goes ends well_formed rows values settled grows frame none = kept_by d c m n h q next after
    (record { goes = goes; ahead_at_ends = ends; well_formed = well_formed; rows = rows; values = values; settled = settled_after d c m h n q next after rows well_formed grows frame none settled }) grows frame
