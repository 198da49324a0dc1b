-- The turns of a call that nobody waits for: it is opened once, its callee's row is put, and then it is marked as registered.
use Rattle.beldi_value.proofs.Callees.{no_root}
use Rattle.beldi_invariant.proofs.Names.{Absent, AlreadySet, Answer, Async, AsyncAt, Begins, Begun, Body, Bool, CallMatches, Core, Deployment, Done, Ends, Inside, Instance, IntentId, InvokeRow, IsBodyOf, Histories, Knows, KnowsAt, List, Matches, None, NoteRegistered, On, OpenInvoke, Option, Place, PlainState, Register, Invariant, Row, RowKey, Rows, Run, StageOutput, Set, Some, Step, ActReply, Value, [], act, after_act, ahead_set, ap, arith, async_answer, async_asks, async_here_asks, async_here_output, async_output, local_steps, back_of, call_answered, callee_body, callee_of, calls_at, child_of, commit_in, effect_before, effect_of, elsewhere, false, grows_through, has_callees, here, if◌then◌else◌, inl, intent_key, invoke_key, is_sent, is_some, issued_at, recorded_set, length, look_asks, advanced, moved_one, new_instance, no_own_callee, no_root_key, none_out, note_output, op_of, open_output, opened, origin_stays, expected_call, place_of, refl, registered_asks, root_key, row_added, run_called, replied, same_some, set_others, set_row, step_by, subst, sym, true, turn_next, turned_by, tx_after, tx_now, txs_after, ℕ, ◌∙◌, ◌∷◌, ◌≡◌, Kind, Mark, Stage}
use Rattle.beldi_invariant.proofs.CallsHere.{made_with, not_made, made_by, next_here, given_first, first_given, call_now, absent_here, callee_there, caller_there, call_entered, callee_goes, callee_row, callee_ahead, callee_settled, callee_grows, goes_answered_then}
use Rattle.beldi_invariant.proofs.Moves.{AfterTurn, AfterQuery, Entered, SameRoots, Kept, Stays, AfterAct, still}
use Rattle.beldi_invariant.proofs.StageTurns.{effect_here, enters_on, goes_on, none_open, replays, starts_one, tx_step, tx_next, outside_after, unlocked_there}
use Rattle.beldi_invariant.proofs.Registered.{callee_registered, log_frame, log_shadows, log_stays, marked_registered, no_intent, no_more, stays_marked, stays_new}
use Rattle.beldi_invariant.proofs.{Beginnings.same_roots, Frames.NobodyJoins, Settling.settled_outside, Keeping.as_it_was, KeptWellFormed.sent_kept, Shown.log_values, Grown.grows_moved, Grown.grown_moved, Others.kept_moving}
use Rattle.beldi_invariant.proofs.Names.back
use Rattle.beldi_invariant.proofs.Names.map

module _ (d : Deployment) (c : Core) (m : Rows) (i : ℕ) (r : Run) (g : Begun) (h : Invariant d c m) (live : map.get c.runs i ≡ Some r) (at_is : r.at ≡ Begins g) (k : Knows d h.histories r g) (finds : Inside m h.plain c.book k g.stage) (out : tx_after d r.id k.instance k.answers ≡ None)
    (f : ℕ) (v : Value) (is : g.machine.effect ≡ Async f v) (hops : has_callees r.id ≡ true) where
  abbrev place : Place
  place = place_of r.id g.machine.steps

  abbrev callee : IntentId
  callee = child_of r.id g.machine.steps

  abbrev key : RowKey
  key = invoke_key r.func place

  abbrev Left : StageOutput → Rows → Type 0
  Left s n = AfterTurn d h.plain c i r (turned_by d r g s) n

  call_here : effect_before d k.instance g.machine.steps ≡ Async f v
  call_here = effect_here k ∙ is

  -- a callee that was made is the answer that the step was given
  answered_so : is_some (map.get h.histories callee) ≡ true → (rest : List Answer) × (k.later ≡ Done ∷ rest)
  answered_so there = by_callee (map.get h.histories callee) refl there
    where
      by_callee : (o : Option Instance) → map.get h.histories callee ≡ o → is_some o ≡ true → (rest : List Answer) × (k.later ≡ Done ∷ rest)
      by_callee None at there = cc
      by_callee (Some j) at there = given_first Done k.later (first_given d c m r g h k false f v call_here j at k.later refl)

  goes_to_stage : (at : AsyncAt) (n : Rows) → SameRoots m n → Stays h n → (is_sent at ≡ true → is_some (map.get h.histories callee) ≡ true) → Left (On (Stage.Async at) None) n
  goes_to_stage at n roots rows done = goes_on d c m i r g h live k finds out (Async f v) is n (Stage.Async at) roots rows (hops, done)

  -- ---- it is opened now: it is the instance's next step
  module _ (none : map.get m key ≡ None) (new : map.get h.histories callee ≡ None) (left : k.later ≡ []) where
    abbrev made_id : IntentId
    made_id = callee_of r.id k.instance

    abbrev callee_made : Instance
    callee_made = new_instance f v (Some (calls_at r.id k.instance false))

    -- what is known with the callee, before its caller is answered
    abbrev given : Histories
    given = map.insert h.histories made_id (local_steps d made_id callee_made)

    abbrev next : Histories
    next = map.insert given r.id (advanced d r.id k.instance Done)

    abbrev state : PlainState
    state = step_by h.plain r.id k.instance (Async f v)

    abbrev row : Option Row
    row = Some (Row.Invoke (opened f))

    abbrev rows_now : Rows
    rows_now = set_row m key row

    now : effect_of d k.instance ≡ Async f v
    now = call_now d c m r g h k false f v is new left

    outside : tx_now d r.id k.instance ≡ None
    outside = tx_next k out left

    unlocked : h.lock_ahead r.id ≡ false
    unlocked = unlocked_there d c m i r g h live k finds out (Async f v) is left

    caller_given : map.get given r.id ≡ Some k.instance
    caller_given = caller_there d c m r g h k finds false f v is hops new left None refl

    leads : Entered d c h.plain h.histories (Step r.id) state next
    leads = call_entered d c m i r g h live k finds false f v is hops new left out next

    rows_opened : Matches d rows_now next h.lock_ahead
    rows_opened = call_answered d given h.lock_ahead r.id k.instance (advanced d r.id k.instance Done) Done caller_given unlocked (inl outside) (ap commit_in now) (moved_one d r.id k.instance Done)
        (ap op_of now) (ap (λ e. row_added (length k.instance.answers) (txs_after d k.instance k.instance.answers).begun e Done) now ∙ (grind arith)) rows_now
        (callee_row d c m r g h k finds false f v is hops new left None refl)

    -- its callee is in no transaction
    joins : NobodyJoins d h.histories next
    joins t z j ended part = recorded_set given r.id (advanced d r.id k.instance Done) (λ j o. o ≡ Some part.instance → is_some (map.get h.histories j) ≡ true) (λ e. ap is_some k.made)
        (λ j other. recorded_set h.histories made_id (local_steps d made_id callee_made) (λ j o. o ≡ Some part.instance → is_some (map.get h.histories j) ≡ true)
        (λ e. let clash = sym (origin_stays d made_id callee_made).1 ∙ ap (λ (y : Instance). y.enclosing) (same_some e) ∙ part.enclosing in cc) (λ j apart e. ap is_some e) j) j part.made

    kept_opened : Kept h rows_now state next h.lock_ahead
    kept_opened = kept_moving h rows_now state next h.lock_ahead
        (goes_answered_then h rows_now (log_shadows d m key row refl) r.id k.instance Done k.made unlocked (λ e. let clash = sym now ∙ e in cc) (outside_after k out left Done) made_id refl
        callee_made (local_steps d made_id callee_made) caller_given (callee_goes d c m i r g h live k finds false f v is hops new left out))
        (ahead_set d given h.lock_ahead (callee_ahead d c m r g h k finds false f v is hops new left None refl) h.lock_ahead r.id (advanced d r.id k.instance Done) (none_out h.lock_ahead r.id unlocked))
        (sent_kept d h.histories h.well_formed r.id k.instance f v k.made outside now (absent_here d c m r g h k false f v is new left))
        rows_opened (log_values h key row refl)
        (settled_outside d m state given r.id k.instance caller_given Done outside (callee_settled d c m r g h k finds false f v is hops new left None refl state leads.grows))
        (grows_through h.histories given next (callee_grows d c m r g h k finds false f v is hops new left None refl) (grows_moved d given r.id k.instance Done caller_given))
        (log_frame d m key row refl (stays_new (map.get m key) row none) h.plain state h.histories next refl joins)
        (no_intent d m key row next refl)

    callee_stays : is_some (map.get next callee) ≡ true
    callee_stays = ap is_some (elsewhere given r.id callee (advanced d r.id k.instance Done) (λ e. no_own_callee r.id g.machine.steps (sym e))) ∙ callee_there d c m r g h k finds false f v is hops new left None refl

    pub opens_now : Left (On (Stage.Async AsyncAt.Register) (Some Mark.Step)) rows_now
    opens_now = enters_on d c m i r g h live k finds is (none_open k out) (Stage.Async AsyncAt.Register) Mark.Step rows_now state next (advanced d r.id k.instance Done) (here given r.id (advanced d r.id k.instance Done)) (grown_moved d r.id k.instance Done)
        (λ u. ap is_some (set_others m key row (root_key u) (no_root_key u r.func (Kind.Invoke place) refl))) leads kept_opened (hops, λ e. callee_stays)

  -- ---- its turns
  abbrev AfterAsync : RowKey → AsyncAt → Option Row × ActReply → Type 0
  AfterAsync q at z = AfterAct d h.plain m q (λ t. turn_next c i r (turned_by d r g (async_answer at (async_output f at t)))) z

  open_by : (x : InvokeRow) (b : Bool) → x.registered ≡ b → is_some (map.get h.histories callee) ≡ true → Left (async_answer AsyncAt.Open (open_output false b)) m
  open_by x false e there = goes_to_stage AsyncAt.Register m (λ t. refl) (as_it_was h) (λ e. there)
  open_by x true e there = let a = answered_so there in replays d c m i r g h live k finds out (Async f v) is m Done a.0 (λ t. refl) (as_it_was h) a.1

  open_at : (w : Option Row) → map.get m key ≡ w → CallMatches w (expected_call h.histories r.func place) → AfterAsync key AsyncAt.Open (act (OpenInvoke f) c.now w)
  open_at None at owed = let new = not_made d c m r g h k false f v call_here owed in opens_now at new (next_here d c m r g h k false f v call_here new k.later refl)
  open_at (Some (Row.Invoke x)) at owed = still d h.plain m key (Some (Row.Invoke x)) (sym at) (open_by x x.registered refl (made_by d c m r g h k false f v call_here x owed))
  open_at (Some w) at owed = absurd owed

  module _ (there : is_some (map.get h.histories callee) ≡ true) where
    body_is : (o : Option Instance) → map.get h.histories callee ≡ o → is_some o ≡ true → IsBodyOf (callee_body r.id r.func g.machine.steps f v None false) (map.get h.histories callee)
    body_is None at there = cc
    body_is (Some j) at there = made_with d h.histories h.well_formed r.id r.func g.machine.steps false f v k.instance j None k.made k.func (tx_step k out) call_here at

    abbrev body : Body
    body = callee_body r.id r.func g.machine.steps f v None false

    abbrev row_key : RowKey
    row_key = record { home = f; kind = Kind.Intent callee }

    register_at : (w : Option Row) → map.get m row_key ≡ w → AfterAsync row_key AsyncAt.Register (act (Register body) c.now w)
    register_at None at =
        let new = Some (Row.Intent (issued_at c.now (Some body))) in
        goes_to_stage AsyncAt.Note (set_row m row_key new) (same_roots m f callee new (no_root r.id g.machine.steps))
        (log_stays d m row_key new refl c h (stays_new (map.get m row_key) new at) (no_more d m row_key new h.histories (λ e. cc)) (callee_registered d m h.histories h.lock_ahead callee body c.now (no_root r.id g.machine.steps) (body_is (map.get h.histories callee) refl there) h.rows at)) (λ e. there)
    register_at (Some w) at = still d h.plain m row_key (Some w) (sym at) (goes_to_stage AsyncAt.Note m (λ t. refl) (as_it_was h) (λ e. there))

    register_turn : AfterQuery d h.plain c.now m (λ t. turn_next c i r (turned_by d r g (async_answer AsyncAt.Register (async_output f AsyncAt.Register t)))) (async_asks r.func place body AsyncAt.Register)
    register_turn = subst (λ z. AfterAsync z AsyncAt.Register (act (Register body) c.now (map.get m z))) own (register_at (map.get m row_key) refl)
      where
        own : row_key ≡ intent_key callee f
        own = λ j. record { home = sym (ap (λ t. if t then 0 else f) (no_root r.id g.machine.steps)) j; kind = Kind.Intent callee }

    looks_later : (n : Rows) (o : Run) → run_called r ≡ Some o → KnowsAt d n h.plain c.book h.histories o o.at
    looks_later n o started = grind arith

    note_output_so : (n : Rows) → SameRoots m n → Stays h n → (b : back.Back) → Left (async_answer AsyncAt.Note (note_output b)) n
    note_output_so n roots rows Set = let a = answered_so there in starts_one d c m i r g h live k finds out (Async f v) is n Done a.0 roots rows a.1 (looks_later n)
    note_output_so n roots rows AlreadySet = let a = answered_so there in starts_one d c m i r g h live k finds out (Async f v) is n Done a.0 roots rows a.1 (looks_later n)
    note_output_so n roots rows Absent = goes_to_stage AsyncAt.Note n roots rows (λ e. there)

    note_turn : AfterQuery d h.plain c.now m (λ t. turn_next c i r (turned_by d r g (async_answer AsyncAt.Note (async_output f AsyncAt.Note t)))) (registered_asks r.func place)
    note_turn = note_output_so (after_act NoteRegistered c.now key m) (λ u. ap is_some (set_others m key (act NoteRegistered c.now (map.get m key)).0 (root_key u) (no_root_key u r.func (Kind.Invoke place) refl)))
        (log_stays d m key (act NoteRegistered c.now (map.get m key)).0 refl c h (stays_marked c.now (map.get m key)) (no_intent d m key (act NoteRegistered c.now (map.get m key)).0 h.histories refl) (marked_registered d m h.histories h.lock_ahead r.func place c.now h.rows)) (back_of (replied (act NoteRegistered c.now (map.get m key)).1))

  by_at : (at : AsyncAt) → (is_sent at ≡ true → is_some (map.get h.histories callee) ≡ true)
      → AfterQuery d h.plain c.now m (λ t. turn_next c i r (turned_by d r g (async_answer at (async_output f at t)))) (async_asks r.func place (callee_body r.id r.func g.machine.steps f v None false) at)
  by_at AsyncAt.Open version = open_at (map.get m key) refl (h.rows.keys key)
  by_at AsyncAt.Register version = register_turn (version refl)
  by_at AsyncAt.Note version = note_turn (version refl)

  pub async_turn : (at : AsyncAt) → (is_sent at ≡ true → is_some (map.get h.histories callee) ≡ true)
      → AfterQuery d h.plain c.now m (λ t. turn_next c i r (turned_by d r g (async_here_output r.id (Async f v) at t))) (async_here_asks r.id r.func g.machine.steps (Async f v) at)
  async_turn at version = subst (λ b. AfterQuery d h.plain c.now m (λ t. turn_next c i r (turned_by d r g (if b then async_answer at (async_output f at t) else Ends None None)))
      (if b then async_asks r.func place (callee_body r.id r.func g.machine.steps f v None false) at else look_asks r.id r.func)) (sym hops) (by_at at version)
