-- Every event keeps the invariant of the host and its rows.
use borrow.Author.Tests.{lt-ltb}
use Rattle.beldi_collect.specs.declared.cursor.Found.{Found}
use Rattle.beldi_step.proofs.StepRuns.{of_plan}
use Rattle.beldi_step.specs.HostStep.{immediate}
use Rattle.beldi_invariant.proofs.Names.{AllocError, Async, AtStage, Begins, Begun, Bind, Body, BodyMatches, Bool, Call, Caller, CameOn, CondWrite, Content, Core, Crash, Deployment, Effect, End, Err, Event, EventBy, EventOn, Fits, Followed, Full, Halt, Ic, IfOk, InItem, Inside, Instance, IntentId, IntentMatches, IntentRow, IsBelow, IsRootRow, Issue, KeepsInvariant, Histories, Knows, KnowsAt, Looks, Lost, None, Ok, OnItem, Option, OutOfMemory, Outcome, Own, PlainState, Plan, Query, Read, Registers, RepliesAreOutcomes, Request, Restart, Result, Return, Invariant, InvariantImpliesLegal, Row, RowKey, Rows, Run, RunAt, RunTx, EventReply, SeesPut, Some, Stage, Start, TableErr, ActReply, Tick, Ticket, QueryReply, Turn, TxAt, TxId, Value, Write, WriteAt, [], act, after_act, ahead_nothing, ahead_set, and-false, ap, arith, asks, asks_at, local_steps_same, back_of, back_output, back_to_asks, bind_asks, bind_to, binding_of, bound_next, cell_op, chain, collect_asks, collect_next, collect_output, cond, count_changes, counted, crash_plan, ended_by, ended_run, false, first_core, func_called, get-empty, got, grows_new, grows_self, halt_next, halted, has_ended, has_finish, has_run, head_key, on_reply, id_cmp, id_same, id_total, if◌then◌else◌, is_added, is_begin, is_crowded, is_eq, is_gone, is_some, is_waited, item_cmp, key_cmp, last_moment, launched, le-leb, least_key, leb-false, lends, length, length-append, listed_under, lt-leb, most_runs, nat_le, nat_lt, nat_tests, new_instance, newest_of, new_run, no_content, no_memory, none_out, none_show, nothing, nothing_matches, op_of, option_map, or_null, or_parts, other, outcome_of, outcome_reply, passed, place_of, plan, plan_of, reads_all, refl, refused, refused_by, refused_stand, reply_of, request_next, root_apart, root_bound, root_key, root_of, row_put, rows_after, rows_stand, run_asks, run_next, run_plan, run_told, run_tx, same_some, same_value, well_formed_nothing, set_row, stage_asks, stage_output, start, subst, sym, ticket_next, tied_itself, told_at, query_reply, reply_outcome, touched, touched_by, true, true_false, turn_next, turned_by, tx_after, tx_of, unchanged, unheard_next, unlocked_absent, with_instance, with_once, with_run, ℕ, ◌&&◌, ◌++◌, ◌+◌, ◌-◌, ◌==◌, ◌^◌, ◌||◌, ◌∙◌, ◌∷◌, ◌≡◌}
use Rattle.beldi_invariant.proofs.Moves.{if_plan, seen_by, After, AfterQuery, AfterAct, replaced, change_entered, unheard, with_runs, invariant_by, Kept, Stays}
use Rattle.beldi_invariant.proofs.{Lives.places_same, Lives.runs_on, Lives.runs_more, Lives.runs_less, Lives.runs_none, NewestTicket.newest_named, OneEvent.lent_only, Beginnings.look_turn, Beginnings.register_turn, Callings.call_turn, Asyncs.async_turn, Endings.close_turn, GivingBack.back_turn, GivingBack.tell_turn, OperationTurns.is_operation, OperationTurns.operation_turn, Readings.ask_turn, Readings.walk_turn, Readings.keep_turn, KeptWellFormed.root_kept, Shown.log_values, Shown.settled, Frames.frame_row, Frames.items_stay, Frames.nobody_made, Settling.settled_grown, Settling.settled_new, Keeping.goes_made, Keeping.set_shadows, Deciding.decide_turn, InTx.no_begin, Locking.lock_turn, Locking.log_turn, Passing.tx_is, Visiting.visit_turn, Working.operates, Working.working_turn, Outside.plain_none, Outside.outcome_recorded, Others.kept_moving, Registered.log_stays, Registered.no_more, Registered.stays_new, CallsHere.childless}
use Rattle.beldi_invariant.proofs.Names.map
use Rattle.beldi_invariant.proofs.Names.standing

-- it tells no outcome, nor that a row is absent
abbrev TellsNothing : EventReply → Type 0
TellsNothing x = (reply_outcome x ≡ None) × (is_gone x ≡ false)

-- such an answer, of a host that is as before
as_before : (d : Deployment) (c : Core) (m : Rows) (x : EventReply) → TellsNothing x → (h : Invariant d c m) → After d h.plain c m x
as_before d c m x nothing h = record { invariant = h; goes_on = grows_self h.plain.made; there = nothing.1; reply = λ t o e. let g = sym nothing.0 ∙ e in cc }

-- ---- a run that ends
abbrev without : (d : Deployment) (c : Core) (m : Rows) (i : ℕ) → Invariant d c m → Invariant d (ended_run c i) m
without d c m i h = with_runs h (ended_run c i) refl refl (runs_less d m h.plain c.book h.histories c.runs c.last_run i h.runs)

-- ---- a turn
module _ (d : Deployment) (c : Core) (m : Rows) (i : ℕ) (h : Invariant d c m) (r : Run) (live : map.get c.runs i ≡ Some r) where
  module _ (g : Begun) (at_is : r.at ≡ Begins g) (k : Knows d h.histories r g) (finds : Inside m h.plain c.book k g.stage) where
    abbrev AfterStage : Stage → Effect → Option RunTx → Type 0
    AfterStage s e o = AfterQuery d h.plain c.now m (λ t. turn_next c i r (turned_by d r g (stage_output r.id r.func g.caller o (count_changes c.book) g.machine.steps e s t))) (stage_asks r.id r.func g.caller o g.machine.steps e s)

    -- what a caller waits for is given back to it
    back_at : (b : Option Caller) (u : Outcome) → g.caller ≡ b → g.machine.effect ≡ Return u → is_waited b ≡ true → AfterQuery d h.plain c.now m (λ t. turn_next c i r (turned_by d r g (back_output g.tx (back_of t)))) (back_to_asks r.id r.func b (Return u))
    back_at None u from is waited = cc
    back_at (Some b) u from is waited = back_turn d c m i r g h live k finds u is b from waited

    -- its step is in the transaction that the run is in
    in_it : {e : Effect} {o : Option RunTx} → g.machine.effect ≡ e → g.tx ≡ o → is_begin e ≡ false → tx_after d r.id k.instance k.answers ≡ run_tx r.id r.func o
    in_it is tx apart = tx_is k (ap is_begin is ∙ apart) ∙ ap (run_tx r.id r.func) tx

    write_turn : (w : WriteAt) (e : Effect) (o : Option OnItem) → op_of e ≡ o → is_some o ≡ true → SeesPut m r.func (place_of r.id g.machine.steps) w (cell_op e) → g.machine.effect ≡ e → g.tx ≡ None → AfterStage (Stage.Write w) e g.tx
    write_turn w e None so some sees is tx = cc
    write_turn w e (Some o) so some sees is tx = operation_turn d c m i r g h live k finds (in_it is tx (is_operation e o so).2) e so is w sees

    tx_turn : (a : TxAt) (e : Effect) (o : RunTx) → g.machine.effect ≡ e → g.tx ≡ Some o → tx_after d r.id k.instance k.answers ≡ Some (tx_of r.id r.func o) → Fits e a → InItem d m h.plain h.histories r.id r.func o g.machine.steps e a (touched e) → AfterStage (Stage.Tx a) e (Some o)
    tx_turn TxAt.Log (Read b y) o is tx here fits f = log_turn d c m i r g h live k finds o tx here (Read b y) is (b, y) refl fits
    tx_turn (TxAt.Lock l) (Read b y) o is tx here fits f = lock_turn d c m i r g h live k finds o tx here (Read b y) is (b, y) refl l fits f
    tx_turn (TxAt.Lock l) (Write b y v) o is tx here fits f = lock_turn d c m i r g h live k finds o tx here (Write b y v) is (b, y) refl l fits f
    tx_turn (TxAt.Lock l) (CondWrite b y u w v) o is tx here fits f = lock_turn d c m i r g h live k finds o tx here (CondWrite b y u w v) is (b, y) refl l fits f
    tx_turn TxAt.Log e o is tx here fits f = absurd fits
    tx_turn (TxAt.Lock l) e o is tx here fits f = absurd fits
    tx_turn a e o is tx here fits f = working_turn d c m i r g h live k finds o tx here e a is refl fits f

    -- what its stage leaves
    stage_turn : (s : Stage) (e : Effect) (o : Option RunTx) → g.machine.effect ≡ e → g.tx ≡ o → AtStage m h.plain c.book k s e o → AfterStage s e g.tx
    stage_turn Stage.Ask (Read t key) None is tx at = ask_turn d c m i r g h live k finds (in_it is tx refl) t key is
    stage_turn (Stage.Walk row) (Read t key) None is tx at = walk_turn d c m i r g h live k finds (in_it is tx refl) t key is row at
    stage_turn (Stage.Keep v version) (Read t key) None is tx at = keep_turn d c m i r g h live k finds (in_it is tx refl) t key is v version at
    stage_turn (Stage.Write w) e None is tx at = write_turn w e (op_of e) refl at.0 at.1 is tx
    stage_turn (Stage.Call w) (Call f v) o is tx at = call_turn d c m i r g h live at_is k finds f v is at.0 w at.1
    stage_turn (Stage.Async w) (Async f v) None is tx at = async_turn d c m i r g h live at_is k finds (in_it is tx refl) f v is at.0 w at.1
    stage_turn Stage.Back (Return u) o is tx at = back_at g.caller u refl is at
    stage_turn Stage.Notify (Return u) None is tx at = tell_turn d c m i r g h live k finds u is (in_it is tx refl) g.caller at
    stage_turn Stage.Close (Return u) o is tx at = close_turn d c m i r g h live k finds u is at.1
    stage_turn (Stage.Tx a) e (Some o) is tx at = let x = operates e a at.0 in subst (AfterStage (Stage.Tx a) e) (sym tx) (tx_turn a e o is tx (in_it is tx (no_begin e x.0 x.1)) at.0 at.1)
    stage_turn (Stage.Decide w) (End commit) (Some (Own o)) is tx at = subst (AfterStage (Stage.Decide w) (End commit)) (sym tx) (decide_turn d c m i r g h live k finds o tx (in_it is tx refl) (sym k.run_open ∙ tx) commit is w at)
    stage_turn (Stage.End v) (End commit) (Some (Own o)) is tx at = subst (AfterStage (Stage.End v) (End commit)) (sym tx) (visit_turn d c m i r g h live k finds o tx (in_it is tx refl) commit is v at.0 at.1)
    stage_turn s e o is tx at = absurd at

  at_turn : (at : standing.RunAt) → r.at ≡ at → KnowsAt d m h.plain c.book h.histories r at → AfterQuery d h.plain c.now m (λ t. turn_next c i r (told_at d (count_changes c.book) r at t)) (asks_at r at)
  at_turn Looks is k = look_turn d c m i r h live
  at_turn (Registers b) is k = register_turn d c m i r h live b k
  at_turn (Begins g) is k = stage_turn g is k.0 k.1 g.stage g.machine.effect g.tx refl refl k.1.here

  turn_made : AfterQuery d h.plain c.now m (λ t. run_next d c i t (Some r)) (run_asks r)
  turn_made = at_turn r.at refl (subst (RunAt d m h.plain c.book h.histories) live (h.runs.runs i))

  -- nobody hears what it told: it leaves what the turn leaves, without the run and without one that it started
  turn_unheard : AfterQuery d h.plain c.now m (λ t. (unheard_next d c i t (Some r), EventReply.Dropped)) (run_asks r)
  turn_unheard = unheard d c m (rows_after (run_asks r) c.now m) i r h live (run_told d (count_changes c.book) r (query_reply (run_asks r) c.now m)) turn_made

-- ---- a run more
abbrev with_new : (d : Deployment) (c : Core) (m : Rows) (id : IntentId) (f : ℕ) → is_crowded c ≡ false → Invariant d c m → Invariant d (with_run c (new_run d c id f)) m
with_new d c m id f few h = with_runs h (with_run c (new_run d c id f)) refl refl (runs_more d m h.plain c.book h.histories c.runs c.last_run (new_run d c id f) (leb-false most_runs (map.len c.runs) few) tt h.runs)

-- ---- a ticket
roots_apart : (t u : ℕ) → is_eq (id_cmp (root_of t) (root_of u)) ≡ false → t ≡ u → ⊥
roots_apart t u e same = let g : is_eq (id_cmp (root_of t) (root_of u)) ≡ true = ap (λ n. is_eq (id_cmp (root_of t) (root_of n))) (sym same) ∙ ap is_eq (tied_itself id_total (root_of t)) in cc

next_ticket : (b : Bool) (t n : ℕ) → is_eq (id_cmp (root_of t) (root_of (n + 1))) ≡ b → (x : Bool) → x ≡ (nat_lt 0 t && nat_le t n) → cond b true x ≡ (nat_lt 0 t && nat_le t (n + 1))
next_ticket true t n e x is =
    let same : t ≡ n + 1 = ap (λ id. id.ticket) (id_same (root_of t) (root_of (n + 1)) e) in
    sym (ap (λ a. a && nat_le t (n + 1)) (lt-ltb 0 t (omega arith)) ∙ le-leb t (n + 1) (omega arith))
next_ticket false t n e x is = grind arith

not_issued : (n : ℕ) → (nat_lt 0 (n + 1) && nat_le (n + 1) n) ≡ false
not_issued n = ap (λ b. nat_lt 0 (n + 1) && b) (lt-leb (n + 1) n (omega arith)) ∙ and-false (nat_lt 0 (n + 1))

is_issued : (t n : ℕ) → ((t == 0) || nat_lt n t) ≡ false → (nat_lt 0 t && nat_le t n) ≡ true
is_issued t n h = grind (arith, nat_tests)

module _ (d : Deployment) (c : Core) (m : Rows) (h : Invariant d c m) where
  -- the row of a new ticket, where it is absent
  issued : map.get m (root_key (c.newest + 1)) ≡ None → After d h.plain (record c { newest = c.newest + 1 }) (after_act Issue c.now (root_key (c.newest + 1)) m) (EventReply.Issued (c.newest + 1))
  issued is =
      let t = c.newest + 1 in
      let i : IntentRow = record { issued = c.now; body = None; outcome = None; finish = None } in
      let n = set_row m (root_key t) (Some (Row.Intent i)) in
      let not_made : map.get h.histories (root_of t) ≡ None = subst (λ r. IntentMatches (has_ended d h.histories) true 0 r (map.get h.histories (root_of t))) is (h.rows.keys (root_key t)) in
      let kept : Stays h n = log_stays d m (root_key t) (Some (Row.Intent i)) refl c h (stays_new (map.get m (root_key t)) (Some (Row.Intent i)) is) (no_more d m (root_key t) (Some (Row.Intent i)) h.histories (λ e. cc))
      (row_put d h.histories h.lock_ahead m (root_key t) (Some (Row.Intent i)) refl (record { bare = λ e. refl; finishes = refl; body = not_made }) h.rows) in
      subst (λ (w : Option Row × ActReply). After d h.plain (record c { newest = c.newest + 1 }) (set_row m (root_key t) w.0) (EventReply.Issued t)) (ap (act Issue c.now) (sym is)) (record {
        invariant = invariant_by {q = h.plain} {next = h.histories} {lock_ahead = h.lock_ahead} h.bounded h.legal h.guarded kept.shows
            (λ u. ap is_some (got m (root_key t) (root_key u) (Some (Row.Intent i))) ∙ (grind arith) ∙ next_ticket (is_eq (id_cmp (root_of u) (root_of t))) u c.newest refl (is_some (map.get m (root_key u))) (h.tickets u))
            (runs_on d m n h.plain h.plain c.book c.book h.histories h.histories kept.grows (places_same d c.book h.histories h.histories) kept.others c.runs c.last_run h.runs);
        goes_on = grows_self h.plain.made;
        there = refl;
        reply = λ u o e. cc;
      })

  ticket_by : (r : Option Row) → map.get m (root_key (c.newest + 1)) ≡ r → AfterAct d h.plain m (root_key (c.newest + 1)) (λ t. ticket_next c (is_added t)) (act Issue c.now r)
  ticket_by None is = subst (λ (r : Option Row). After d h.plain (record c { newest = c.newest + 1 }) (set_row m (root_key (c.newest + 1)) (act Issue c.now r).0) (EventReply.Issued (c.newest + 1))) is (issued is)
  ticket_by (Some r) is = absurd (true_false (sym (ap is_some is) ∙ h.tickets (c.newest + 1) ∙ not_issued c.newest))

-- ---- a request
start_is : (p : PlainState) (t f : ℕ) (a : Value) (o : Option Instance) → (t == 0) ≡ false → o ≡ None → start p t f a o ≡ Some (with_instance p (root_of t) (new_instance f a None))
start_is p t f a o z e = grind arith

module _ (d : Deployment) (c : Core) (m : Rows) (h : Invariant d c m) (t f : ℕ) (a : Value) (issued : ((t == 0) || nat_lt c.newest t) ≡ false) (room : is_crowded c ≡ false) where
  abbrev bound_row : IntentRow → IntentRow
  bound_row i = record i { body = Some (record { func = f; args = a; tx = None; parent = None }) }

  abbrev own_id : IntentId
  own_id = root_of t

  abbrev new : Instance
  new = new_instance f a None

  abbrev state : PlainState
  state = with_instance h.plain own_id new

  abbrev next : Histories
  next = map.insert h.histories own_id (with_once d own_id new)

  request_bound : (i : IntentRow) → map.get m (root_key t) ≡ Some (Row.Intent i) → IsRootRow i (map.get h.histories own_id) → i.body ≡ None → map.get h.histories own_id ≡ None
      → After d h.plain (bound_next d c t f a).0 (set_row m (root_key t) (Some (Row.Intent (bound_row i)))) (bound_next d c t f a).1
  request_bound i is fits bare not_known =
      let not_made = plain_none d h.plain h.histories h.extends own_id not_known in
      let n = set_row m (root_key t) (Some (Row.Intent (bound_row i))) in
      let leads = change_entered d c m h (Start t f a) state next refl (start_is h.plain t f a (map.get h.plain.made own_id) (or_parts (t == 0) (nat_lt c.newest t) issued).0 not_made)
      (λ x touched. let none = sym (ap (touched_by d) not_made) ∙ touched in cc) in
      let unlocked = unlocked_absent d h.histories h.lock_ahead h.ahead_at_ends own_id not_known in
      let k = root_key t in
      let v : Option Row = Some (Row.Intent (bound_row i)) in
      let members = nobody_made d h.histories own_id (with_once d own_id new) (λ u within. let clash = sym (local_steps_same d own_id new).enclosing ∙ within in cc) in
      let frame = frame_row d m h.plain state h.histories next (items_stay d m h.plain state next refl) members k v refl refl (λ e. sym (ap has_finish is) ∙ e) (λ g e. sym (ap (option_map func_called) is) ∙ e) in
      let kept : Kept h n state next h.lock_ahead = kept_moving h n state next h.lock_ahead (goes_made h n (set_shadows m k v refl) own_id new not_known refl (refl, refl) (root_apart d h.plain t))
      (ahead_set d h.histories h.lock_ahead h.ahead_at_ends h.lock_ahead own_id (with_once d own_id new) (none_out h.lock_ahead own_id unlocked))
      (root_kept d h.histories h.well_formed t f a not_known)
      (root_bound d h.histories h.lock_ahead own_id f a not_known refl (childless d h.histories h.well_formed own_id not_known) unlocked m (bound_row i) refl (fits.bare bare) (no_finish i.finish (fits.finishes ∙ ap is_some (fits.bare bare))) h.rows)
      (log_values h k v refl)
      (settled_grown d m h.plain state next leads.grows (settled_new d m h.plain h.histories own_id new refl refl (omega arith) not_known (λ u within. cc) (λ u z x e own below. below_none (record { intent = u.intent; begin = z.0; func = u.func }) below) (settled h)))
      (grows_new h.histories own_id (with_once d own_id new) not_known) frame (no_more d m k v next (λ e. ap has_finish is ∙ e)) in
      record {
        invariant = invariant_by {q = state} {next = next} {lock_ahead = h.lock_ahead} leads.bounded leads.legal leads.guarded kept.shows
            (λ u. replaced m (root_key t) (Some (Row.Intent (bound_row i))) (ap is_some (sym is)) u ∙ h.tickets u)
            (runs_more d n state (c.book ++ Start t f a ∷ []) next c.runs c.last_run (new_run d c own_id f) (leb-false most_runs (map.len c.runs) room) tt
            (runs_on d m n h.plain state c.book (c.book ++ Start t f a ∷ []) h.histories next kept.grows leads.places kept.others c.runs c.last_run h.runs));
        goes_on = leads.grows;
        there = refl;
        reply = λ u o e. cc;
      }
    where
      -- a root is below nobody
      below_none : (u : TxId) → IsBelow u (root_of t) → ⊥
      below_none u below = let n = length-append u.intent.hops (below.step ∷ below.hops) in let k = ap (λ (i : IntentId). length i.hops) below.is in omega (arith, n, k)

      no_finish : (o : Option ℕ) → is_some o ≡ false → o ≡ None
      no_finish o e = grind arith

  -- an answer that changes no row
  answer_kept : (v : Option Row) (x : EventReply) → v ≡ map.get m (root_key t) → is_gone x ≡ false → ((u : ℕ) (o : Outcome) → reply_outcome x ≡ Some (u, o) → reply_of h.plain u ≡ Some o) → After d h.plain c (set_row m (root_key t) v) x
  answer_kept v x e there told = subst (λ n. After d h.plain c n x) (sym (unchanged m (root_key t) v e)) (record { invariant = h; goes_on = grows_self h.plain.made; there = there; reply = told })

  told_running : (o : Option Outcome) → reply_of h.plain t ≡ o → (v : Option Row) → v ≡ map.get m (root_key t) → AfterAct d h.plain m (root_key t) (λ u. request_next d c t f a (binding_of u)) (v, outcome_reply o)
  told_running None is v e = answer_kept v (EventReply.Running t) e refl (λ u o told. cc)
  told_running (Some u) is v e = answer_kept v (EventReply.Replied t u) e refl (λ w o told. let both = same_some told in ap (reply_of h.plain) (sym (ap (λ z. z.0) both)) ∙ is ∙ ap (λ z. Some z.1) both)

  told_same : (b : Body) (o : Option Outcome) (s : Bool) → reply_of h.plain t ≡ o → (v : Option Row) → v ≡ map.get m (root_key t)
      → AfterAct d h.plain m (root_key t) (λ u. request_next d c t f a (binding_of u)) (v, (if s then outcome_reply o else other b))
  told_same b o true is v e = told_running o is v e
  told_same b o false is v e = answer_kept v (EventReply.Other t b.func b.args) e refl (λ u o told. cc)

  request_by : (i : IntentRow) (b : Option Body) → i.body ≡ b → map.get m (root_key t) ≡ Some (Row.Intent i) → IsRootRow i (map.get h.histories (root_of t)) → BodyMatches b i.outcome (map.get h.histories (root_of t))
      → AfterAct d h.plain m (root_key t) (λ u. request_next d c t f a (binding_of u)) (Some (Row.Intent (bind_to f a i b).0), (bind_to f a i b).1)
  request_by i None bare is fits root = request_bound i is fits bare root
  request_by i (Some b) has is fits root = told_same b i.outcome ((b.func == f) && same_value b.args a) (sym (outcome_recorded d h.plain h.histories h.extends (root_of t) (λ k is. (h.well_formed.roots t k is).1)) ∙ ap outcome_of root.0.made ∙ root.1) (Some (Row.Intent i)) (sym is)

  request_row : (r : Option Row) → map.get m (root_key t) ≡ r → IntentMatches (has_ended d h.histories) true 0 r (map.get h.histories (root_of t)) → AfterAct d h.plain m (root_key t) (λ u. request_next d c t f a (binding_of u)) (act (Bind f a) c.now r)
  request_row None is root = absurd (true_false (sym (sym (ap is_some is) ∙ h.tickets t ∙ is_issued t c.newest issued)))
  request_row (Some (Row.Intent i)) is root = request_by i i.body refl is root root.body
  request_row (Some r) is root = absurd root

-- ---- every event
-- the host that took the event is as before
abbrev taken : (d : Deployment) (c : Core) (m : Rows) → Invariant d c m → Invariant d (counted c) m
taken d c m h = with_runs h (counted c) refl refl h.runs

-- the host after an event that was counted, if it is answered at once; and if it asks: what was told was heard, or it was out
-- of memory then
abbrev InvariantPlan : (d : Deployment) (m : Rows) (p : PlainState) (e : Event) (c : Core) → Plan → Type 0
InvariantPlan d m p e c (immediate b y) = After d p b m y
InvariantPlan d m p e c reads_all = Unit {0}
InvariantPlan d m p e c (asks q) = AfterQuery d p c.now m (on_reply d e c) q × ((b : Core) → no_memory d e c (query_reply q c.now m) ≡ Some b → After d p b (rows_after q c.now m) EventReply.Dropped)

so_left : (d : Deployment) (p : PlainState) (c b : Core) (m n : Rows) (x : EventReply) → n ≡ m → b ≡ c → After d p c m x → After d p b n x
so_left d p c b m n x rows core h = subst (λ k. After d p b k x) (sym rows) (subst (λ k. After d p k m x) (sym core) h)

invariant_no_run : (d : Deployment) (c : Core) (m : Rows) (h : Invariant d c m) (b : Bool) → After d h.plain c m (if b then EventReply.NoRun else EventReply.RunOver)
invariant_no_run d c m h true = as_before d c m EventReply.NoRun (refl, refl) h
invariant_no_run d c m h false = as_before d c m EventReply.RunOver (refl, refl) h

-- the intent collector changes no row, and starts a run that registers nothing
abbrev at_cursor : (d : Deployment) (c : Core) (m : Rows) (k : RowKey) → Invariant d c m → Invariant d (record c { cursor = k }) m
at_cursor d c m k h = with_runs h (record c { cursor = k }) refl refl h.runs

collect : (d : Deployment) (c : Core) (m : Rows) (h : Invariant d c m) (t : QueryReply) → After d h.plain (collect_next d c (collect_output t)).0 m (collect_next d c (collect_output t)).1
collect d c m h t = by_found (collect_output t)
  where
    passes : (k : RowKey) (x : EventReply) → TellsNothing x → After d h.plain (record c { cursor = k }) m x
    passes k x silent = as_before d (record c { cursor = k }) m x silent (at_cursor d c m k h)

    by_place : (k : RowKey) (id : IntentId) (f : ℕ) (b : Bool) → is_crowded c ≡ b → let z : Core × EventReply = if b then (c, EventReply.Crowded) else launched d (record c { cursor = k }) id f in After d h.plain z.0 m z.1
    by_place k id f true e = as_before d c m EventReply.Crowded (refl, refl) h
    by_place k id f false e = as_before d (launched d (record c { cursor = k }) id f).0 m (EventReply.Launched (c.last_run + 1) id) (refl, refl) (with_new d (record c { cursor = k }) m id f e (at_cursor d c m k h))

    by_live : (k : RowKey) (id : IntentId) (f : ℕ) (b : Bool) → let z : Core × EventReply = if b then passed c k else if is_crowded c then (c, EventReply.Crowded) else launched d (record c { cursor = k }) id f in After d h.plain z.0 m z.1
    by_live k id f true = passes k EventReply.Passed (refl, refl)
    by_live k id f false = by_place k id f (is_crowded c) refl

    by_found : (x : Found) → After d h.plain (collect_next d c x).0 m (collect_next d c x).1
    by_found Found.Round = passes least_key EventReply.Round (refl, refl)
    by_found (Found.Passed k) = passes k EventReply.Passed (refl, refl)
    by_found (Found.Unended k id f) = by_live k id f (has_run c.runs id)

-- a run that is past its deadline is over
invariant_expired : (d : Deployment) (c : Core) (m : Rows) (i : ℕ) (h : Invariant d c m) → After d h.plain (ended_run c i) m EventReply.Expired
invariant_expired d c m i h = as_before d (ended_run c i) m EventReply.Expired (refl, refl) (without d c m i h)

invariant_of : (d : Deployment) (e : Event) (c : Core) (m : Rows) (h : Invariant d c m) → InvariantPlan d m h.plain e c (plan_of d e c)
invariant_of d Ticket c m h = if_plan (InvariantPlan d m h.plain Ticket c) (c.newest == 2 ^ 32 - 1) _ _ (λ t. as_before d c m EventReply.NoTicket (refl, refl) h) (λ t. (ticket_by d c m h (map.get m (root_key (c.newest + 1))) refl, λ b w. cc))
invariant_of d (Request t f a) c m h =
    if_plan (InvariantPlan d m h.plain (Request t f a) c) ((t == 0) || nat_lt c.newest t) _ _ (λ u. as_before d c m (EventReply.Unknown t) (refl, refl) h) (λ histories.
    if_plan (InvariantPlan d m h.plain (Request t f a) c) (is_crowded c) _ _ (λ u. as_before d c m EventReply.Crowded (refl, refl) h) (λ few. (
      request_row d c m h t f a histories few (map.get m (root_key t)) refl (h.rows.keys (root_key t)),
      λ b w.
          let q = bind_asks t f a in
          let z = lent_only (lends (query_reply q c.now m)) c b w in
          so_left d h.plain c b m (rows_after q c.now m) EventReply.Dropped (rows_stand q c.now m refl z.1) z.0 (as_before d c m EventReply.Dropped (refl, refl) h),
    )))
invariant_of d (Turn i) c m h = by_run (map.get c.runs i) refl
  where
    by_run : (o : Option Run) → map.get c.runs i ≡ o → InvariantPlan d m h.plain (Turn i) c (run_plan c i o)
    by_run None gone = invariant_no_run d c m h ((i == 0) || nat_lt c.last_run i)
    by_run (Some r) live = if_plan (InvariantPlan d m h.plain (Turn i) c) (nat_lt r.deadline c.now) _ _ (λ late. invariant_expired d c m i h)
        (λ alive. subst (λ o. AfterQuery d h.plain c.now m (λ t. run_next d c i t o) (run_asks r) × ((b : Core) → Some (unheard_next d c i (query_reply (run_asks r) c.now m) o) ≡ Some b → After d h.plain b (rows_after (run_asks r) c.now m) EventReply.Dropped)) (sym live)
        (turn_made d c m i h r live, λ b w. subst (λ z. After d h.plain z (rows_after (run_asks r) c.now m) EventReply.Dropped) (same_some w) (turn_unheard d c m i h r live)))
invariant_of d (Lost i) c m h = by_run (map.get c.runs i) refl
  where
    by_run : (o : Option Run) → map.get c.runs i ≡ o → InvariantPlan d m h.plain (Lost i) c (run_plan c i o)
    by_run None gone = invariant_no_run d c m h ((i == 0) || nat_lt c.last_run i)
    by_run (Some r) live = if_plan (InvariantPlan d m h.plain (Lost i) c) (nat_lt r.deadline c.now) _ _ (λ late. invariant_expired d c m i h)
        (λ alive. (subst (λ o. AfterQuery d h.plain c.now m (λ t. (unheard_next d c i t o, EventReply.Dropped)) (run_asks r)) (sym live) (turn_unheard d c m i h r live), λ b w. cc))
invariant_of d (Crash i) c m h = by_run (map.get c.runs i)
  where
    by_run : (o : Option Run) → InvariantPlan d m h.plain (Crash i) c (crash_plan c i o)
    by_run None = invariant_no_run d c m h ((i == 0) || nat_lt c.last_run i)
    by_run (Some r) = if_plan (InvariantPlan d m h.plain (Crash i) c) (nat_lt r.deadline c.now) _ _ (λ late. invariant_expired d c m i h) (λ alive. as_before d (ended_run c i) m EventReply.Crashed (refl, refl) (without d c m i h))
invariant_of d (Restart id f) c m h = if_plan (InvariantPlan d m h.plain (Restart id f) c) (is_crowded c) _ _ (λ u. as_before d c m EventReply.Crowded (refl, refl) h)
    (λ few. as_before d (with_run c (new_run d c id f)) m (EventReply.Started (c.last_run + 1)) (refl, refl) (with_new d c m id f few h))
invariant_of d Ic c m h = (collect d c m h (query_reply (collect_asks c.cursor) c.now m), λ b w. let z = lent_only (lends (query_reply (collect_asks c.cursor) c.now m)) c b w in subst (λ y. After d h.plain y m EventReply.Dropped) (sym z.0) (as_before d c m EventReply.Dropped (refl, refl) h))
invariant_of d (Tick n) c m h = if_plan (InvariantPlan d m h.plain (Tick n) c) (nat_lt last_moment (c.now + n)) _ _ (λ u. as_before d c m EventReply.ClockEnd (refl, refl) h)
    (λ u. as_before d (record c { now = c.now + n }) m (EventReply.Now (c.now + n)) (refl, refl) (with_runs h (record c { now = c.now + n }) refl refl h.runs))
invariant_of d Halt c m h = tt

invariant_plan : (d : Deployment) (e : Event) (c : Core) (m : Rows) (h : Invariant d c m) → InvariantPlan d m h.plain e (counted c) (plan d e c)
invariant_plan d e c m h = of_plan d e c (InvariantPlan d m h.plain e (counted c)) (λ few. invariant_of d e (counted c) m (taken d c m h)) (λ shut. as_before d (counted c) m EventReply.Shut (refl, refl) (taken d c m h)) (as_before d c m EventReply.Spent (refl, refl) h)

-- the query was not made, so no more than a run is over
refusal_tells : (v : TableErr) → TellsNothing (seen_by (refused_by v))
refusal_tells v = grind arith

after_refused : (d : Deployment) (e : Event) (c : Core) (m : Rows) (h : Invariant d c m) (v : TableErr) → After d h.plain (refused e c v).0 m (seen_by (refused e c v).1)
after_refused d (Turn i) c m h (Full live most) = as_before d c m (EventReply.Full live most) (refl, refl) h
after_refused d (Turn i) c m h v = as_before d (ended_run c i) m (seen_by (refused_by v)) (refusal_tells v) (without d c m i h)
after_refused d (Lost i) c m h OutOfMemory = as_before d (ended_run c i) m EventReply.Dropped (refl, refl) (without d c m i h)
after_refused d (Lost i) c m h v = as_before d (ended_run c i) m EventReply.Dropped (refl, refl) (without d c m i h)
after_refused d e c m h v = as_before d c m (seen_by (refused_by v)) (refusal_tells v) h

-- a halt: no run is live, and the newest ticket is the one that the rows name
after_halt : (d : Deployment) (c : Core) (m : Rows) (h : Invariant d c m) (w : Result ℕ TableErr) → IfOk w (λ t. t ≡ newest_of m) → After d h.plain (halt_next c w).0 m (seen_by (halt_next c w).1)
after_halt d c m h w read = by_reading w read
  where
    idle : (t : ℕ) (shut : Bool) → c.newest ≡ t → Invariant d (halted t shut c) m
    idle t shut same = with_runs h (halted t shut c) refl same (runs_none d m h.plain c.book h.histories c.last_run)

    by_reading : (w : Result ℕ TableErr) → IfOk w (λ t. t ≡ newest_of m) → After d h.plain (halt_next c w).0 m (seen_by (halt_next c w).1)
    by_reading (Ok t) is = as_before d (halted t false c) m EventReply.Halted (refl, refl) (idle t false (sym (newest_named d c m h) ∙ sym is))
    by_reading (Err OutOfMemory) is = as_before d (halted c.newest c.shut c) m EventReply.Dropped (refl, refl) (idle c.newest c.shut refl)
    by_reading (Err v) is = as_before d (halted c.newest true c) m EventReply.Dropped (refl, refl) (idle c.newest true refl)

module _ (d : Deployment) (room old new : ℕ) (e : Event) (c b : Core) (m n : Rows) (h : Invariant d c m) where
  after_came : (q : Query) (w : Result QueryReply TableErr) (r : Result EventReply AllocError) → InvariantPlan d m h.plain e c (asks q) → Followed d e c w b r → CameOn q c.now room w m n → After d h.plain b n (seen_by r)
  after_came q (Ok t) (Ok x) g s p = subst (λ l. After d h.plain b l x) (sym p.0) (subst (λ (z : Core × EventReply). After d h.plain z.0 (rows_after q c.now m) z.1) (sym (s ∙ ap (on_reply d e c) p.1)) g.0)
  after_came q (Ok t) (Err w) g s p = subst (λ l. After d h.plain b l EventReply.Dropped) (sym p.0) (g.1 b (ap (no_memory d e c) (sym p.1) ∙ s))
  after_came q (Err v) r g s p =
      subst (λ l. After d h.plain b l (seen_by r)) (sym (refused_stand q c.now room v m n p)) (subst (λ (z : Core × Result EventReply AllocError). After d h.plain z.0 m (seen_by z.1)) (sym s) (after_refused d e c m h v))

  after_by : (p : Plan) (r : Result EventReply AllocError) → InvariantPlan d m h.plain e c p → EventBy d room old new e c p m b n r → After d h.plain b n (seen_by r)
  after_by (immediate k y) (Ok x) g s = so_left d h.plain k b m n x s.1 s.0.0 (subst (λ z. After d h.plain k m z) (sym s.0.1) g)
  after_by (immediate k y) (Err w) g s = so_left d h.plain c b m n EventReply.Dropped s.1 s.0.0 (as_before d c m EventReply.Dropped (refl, refl) h)
  after_by (asks q) r g s = after_came q s.0 r g s.1 s.2
  after_by reads_all r g s = subst (λ l. After d h.plain b l (seen_by r)) (sym s.2.0) (subst (λ (z : Core × Result EventReply AllocError). After d h.plain z.0 m (seen_by z.1)) (sym s.1) (after_halt d c m h s.0 s.2.1))

pub after_event : (d : Deployment) (room old new : ℕ) (e : Event) (c b : Core) (m n : Rows) (r : Result EventReply AllocError) (h : Invariant d c m) → EventOn d room old new e c m b n r → After d h.plain b n (seen_by r)
after_event d room old new e c b m n r h s = after_by d room old new e (counted c) b m n (taken d c m h) (plan d e c) r (invariant_plan d e c m h) s

-- ---- a host that nothing has happened to
no_ticket : (t : ℕ) → (nat_lt 0 t && nat_le t 0) ≡ false
no_ticket t = grind arith

-- nothing is known then, and no row is there
none_recorded : (id : IntentId) → map.get (map.empty {X = Instance} {R = id_cmp}) id ≡ None
none_recorded id = get-empty id_cmp id

pub begins : (d : Deployment) (now : ℕ) → Invariant d (first_core 0 now) map.empty
begins d now = invariant_by {q = nothing} {next = map.empty} {lock_ahead = λ id. false} tt refl tt
    (record {
      goes = record {
        extends = record { same = λ id q is. let clash = sym (none_recorded id) ∙ is in cc; begun = λ id q is. let clash = sym (none_recorded id) ∙ is in cc; kept = λ id k none is. let clash = sym (none_recorded id) ∙ is in cc };
        shadows = none_show d map.empty nothing map.empty (λ id. false) (λ k. get-empty key_cmp k) none_recorded;
      };
      ahead_at_ends = ahead_nothing d;
      well_formed = well_formed_nothing d;
      rows = nothing_matches d;
      values = λ x. ap (λ (y : Content). listed_under map.empty x y.owner y.value) (no_content (chain map.empty (head_key x)) (get-empty key_cmp (head_key x))) ∙ sym (ap or_null (get-empty item_cmp x));
      settled = record {
        marks = λ t z x a w is. let clash = sym (ap (ended_by d t.begin) (none_recorded t.intent)) ∙ is in cc;
        latest = λ t z x i is owned below. none_recorded i;
        unended = λ t z x is. let clash = sym (ap (ended_by d t.begin) (none_recorded t.intent)) ∙ is in cc;
        holders = λ id q n c u is. let clash = sym (none_recorded id) ∙ is in cc;
        seated = λ id q t is. let clash = sym (none_recorded id) ∙ is in cc;
        released = λ t z is. let clash = sym (ap (ended_by d t.begin) (none_recorded t.intent)) ∙ is in cc;
        short = λ id there. let clash = sym (ap is_some (none_recorded id)) ∙ there in cc;
      };
    })
    (λ t. ap is_some (get-empty key_cmp (root_key t)) ∙ sym (no_ticket t))
    (runs_none d map.empty nothing [] map.empty 0)

-- ---- what has the invariant
pub invariant_legal : InvariantImpliesLegal
invariant_legal d c m h = record { bounded = h.bounded; run = h.plain; legal = h.legal; guarded = h.guarded }

pub keeps_invariant : KeepsInvariant
keeps_invariant d room old new e c b m n r h s = (after_event d room old new e c b m n r h s).invariant

-- ---- what is told
pub replies : RepliesAreOutcomes
replies d room old new e c b m n x h s t o told = let a = after_event d room old new e c b m n (Ok x) h s in record { run = a.invariant.plain; legal = a.invariant.legal; reply = a.reply t o told }
