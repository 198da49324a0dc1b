-- The turns at which a run that returns tells its caller: the outcome, where the caller waits for it, and else that it is registered.
use Rattle.std.specs.Prelude.{take}
use Rattle.beldi_invokelog.specs.declared.invoke_log.Back.{Back}
use Rattle.beldi_invariant.proofs.Names.{Answer, Begins, Begun, Call, CallBack, CallMatches, Caller, Cause, Core, Deployment, Entry, IsConsistent, Grows, Inside, Instance, IntentId, InvokeRow, IsCalled, Item, Histories, Knows, List, Matches, None, NoteRegistered, On, Option, Outcome, PlainState, Return, Invariant, Row, RowKey, Rows, Run, RunAt, SameShadows, WellFormedHistories, Some, Step, ActReply, TxId, Waited, [], act, after_act, ahead_set, answer_of, answered, answers_waiter, ap, arith, at_stage, back_asks, back_of, back_output, call_answered, call_back_to, called_by, callee_of, child_of, commit_in, effect_after, effect_of, elsewhere, eq-eqb, false, given_back, grown_end, grows_self, grows_through, here, if◌then◌else◌, inr, intent_key, invoke_key, is_begin, is_some, is_waited, recorded_set, last, length, listed, looked, advanced, moved_one, no_own_callee, no_root_key, none_by, none_out, op_of, opens_are_open, or_own, outside_parts, expected_call, place_of, refl, result_of, returned_cause, returns_go, root_key, row_added, same_some, set_others, set_row, stands_at_call, subst, sym, notify_asks, touched, true, turn_next, turned_by, tx_after, tx_at, tx_by, tx_here, tx_now, txs_after, unlocked_elsewhere, value_at, with_instance, inherited_tx, enclosing_by, ℕ, ◌++◌, ◌∙◌, ◌∷◌, ◌≡◌, Kind, Mark, Stage}
use Rattle.beldi_invariant.proofs.Moves.{AfterQuery, SameRoots, Kept, Stays, entered, quiet, AfterAct, still}
use Rattle.beldi_invariant.proofs.Registered.{log_frame, log_shadows, log_stays, marked_registered, no_intent, stays_call, stays_marked}
use Rattle.beldi_invariant.proofs.Returns.{HasCaller, Left, ahead_over, aborted_by, done, goes_over, grows_over, has_caller, leads, over, returns_now, settled_over, state, tx, unlocked}
use Rattle.beldi_invariant.proofs.{CallsHere.goes_answered_then, Frames.NobodyJoins, Frames.nobody_set, Frames.nobody_then, Settling.settled_moved, Grown.grows_moved, Keeping.as_it_was, KeptWellFormed.returned_kept, Outside.outside_more, Outside.plain_here, Others.kept_moving, Shown.Settled, Shown.log_values, Shown.legal_well_formed, Shown.sound, StageTurns.at_other, StageTurns.goes_on, StageTurns.stands_on}
use Rattle.beldi_invariant.proofs.Names.map

module _ (d : Deployment) (c : Core) (m : Rows) (i : ℕ) (r : Run) (g : Begun) (h : Invariant d c m) (live : map.get c.runs i ≡ Some r) (k : Knows d h.histories r g) (finds : Inside m h.plain c.book k g.stage) (o : Outcome) (is : g.machine.effect ≡ Return o) where
  returning : effect_of d k.instance ≡ Return o
  returning = returns_now d c m i r g h live k finds o is

  -- ---- it gives its outcome back
  module _ (b : Caller) (from : g.caller ≡ Some b) (waits : b.waits ≡ true) where
    called : HasCaller d h.histories r.id k.instance b
    called = has_caller d h.histories r.id k.instance b h.well_formed k.made (sym k.caller ∙ from)

    abbrev back_key : RowKey
    back_key = invoke_key b.func b.place

    waited_here : is_waited k.instance.parent ≡ true
    waited_here = ap is_waited (sym k.caller ∙ from) ∙ waits

    -- the row of the call has the outcome that is known
    expected_there : expected_call h.histories b.func b.place ≡ Some (k.instance.func, k.instance.outcome)
    expected_there =
        ap (λ z. called_by b.func z (map.get h.histories (child_of b.place.intent b.place.step))) called.made
        ∙ ap (called_by b.func (Some called.caller)) (ap (map.get h.histories) (sym called.is_callee) ∙ k.made)
        ∙ ap (λ t. if t then Some (k.instance.func, result_of k.instance) else None) (eq-eqb called.caller.func b.func called.func)
        ∙ ap (λ z. Some (k.instance.func, (if z then k.instance.outcome else None))) waited_here

    closes_on : is_some k.instance.outcome ≡ true → Left h i r g (On Stage.Close None) m
    closes_on there = stands_on d c m i r g h live k finds is refl Stage.Close m h.lock_ahead (λ t. refl) (as_it_was h) (λ inner. ap is_waited from ∙ waits, λ w. there)

    -- it was given back now: its caller stands at the call
    module _ (x : InvokeRow) (at : map.get m back_key ≡ Some (Row.Invoke x)) (open_still : k.instance.outcome ≡ None) where
      abbrev caller : IntentId
      caller = b.place.intent

      abbrev waiter : Instance
      waiter = called.caller

      abbrev answer : Answer
      answer = answer_of o

      abbrev caller_on : Instance
      caller_on = advanced d caller waiter answer

      abbrev next : Histories
      next = map.insert (over k o) caller caller_on

      abbrev new : Option Row
      new = Some (Row.Invoke (record x { result = Some o }))

      abbrev rows_now : Rows
      rows_now = set_row m back_key new

      callee_here : map.get h.histories (child_of caller b.place.step) ≡ Some k.instance
      callee_here = ap (map.get h.histories) (sym called.is_callee) ∙ k.made

      at_call : b.place.step ≡ length waiter.answers
      at_call = last d h.histories h.well_formed caller waiter k.instance b.place.step called.made callee_here open_still waited_here

      stands : effect_of d waiter ≡ Call k.instance.func k.instance.args
      stands = stands_at_call d h.histories h.well_formed caller waiter k.instance b.place.step called.made callee_here open_still waited_here

      is_callee : r.id ≡ callee_of caller waiter
      is_callee = called.is_callee ∙ ap (child_of caller) at_call

      waits_open : waiter.outcome ≡ None
      waits_open = none_by waiter.outcome (λ u e. let clash = sym stands ∙ (h.well_formed.each caller waiter called.made).over u e in cc)

      -- its caller is in the transaction that it was called in
      same_tx : k.instance.enclosing ≡ tx_now d caller waiter
      same_tx = called.called.enclosing ∙ ap (λ u. enclosing_by u (tx_at d caller waiter b.place.step)) (ap is_waited (sym called.called.parent) ∙ waited_here) ∙ ap (tx_at d caller waiter) at_call ∙ tx_here d caller waiter

      caller_unlocked : h.lock_ahead caller ≡ false
      caller_unlocked = unlocked_elsewhere d h.histories h.lock_ahead h.ahead_at_ends caller waiter called.made (ap touched stands)

      apart : r.id ≡ caller → ⊥
      apart e = no_own_callee caller b.place.step (sym called.is_callee ∙ e)

      caller_still : map.get (over k o) caller ≡ Some waiter
      caller_still = elsewhere h.histories r.id caller (done k o) apart ∙ called.made

      itself : map.get next r.id ≡ Some (done k o)
      itself = elsewhere (over k o) caller r.id caller_on (λ e. apart (sym e)) ∙ here h.histories r.id (done k o)

      row_key_is : invoke_key waiter.func (place_of caller b.place.step) ≡ back_key
      row_key_is = λ i. invoke_key (called.func i) b.place

      rows_given : Matches d rows_now next h.lock_ahead
      rows_given = call_answered d (over k o) h.lock_ahead caller waiter caller_on answer caller_still caller_unlocked (inr (ap touched stands)) (ap commit_in stands) (moved_one d caller waiter answer)
          (ap op_of stands) (ap (λ e. row_added (length waiter.answers) (txs_after d waiter waiter.answers).begun e answer) stands ∙ (grind arith)) rows_now
          (subst (λ z. Matches d rows_now (map.insert h.histories z (done k o)) h.lock_ahead) (sym called.is_callee)
          (subst (λ z. Matches d (set_row m z new) (map.insert h.histories (child_of caller b.place.step) (done k o)) h.lock_ahead) row_key_is
          (given_back d h.histories h.lock_ahead caller waiter k.instance b.place.step o o called.made callee_here open_still waited_here returning (ap h.lock_ahead (sym called.is_callee) ∙ unlocked d c m i r g h live k finds o is) m x (ap (map.get m) row_key_is ∙ at) h.rows)))

      well_formed_given : WellFormedHistories d next
      well_formed_given = subst (λ z. WellFormedHistories d (map.insert (map.insert h.histories z (done k o)) caller caller_on)) (sym called.is_callee) (returned_kept d h.histories h.well_formed caller waiter k.instance b.place.step o called.made callee_here open_still waited_here returning)

      nobody_given : NobodyJoins d h.histories next
      nobody_given = nobody_then d h.histories (over k o) next (λ j. recorded_set h.histories r.id (done k o) (λ j u. is_some u ≡ true → is_some (map.get h.histories j) ≡ true) (λ e. ap is_some k.made) (λ j other e. e) j) (nobody_set d (over k o) caller caller_on (ap is_some caller_still))

      -- an abort that is passed on was told to it: so its holder was made
      passed : (q : PlainState) → Settled d m q (over k o) → (u : Cause) (j : IntentId) → is_some (tx_now d caller waiter) ≡ true → answer ≡ Answer.Aborted u → u.holder ≡ Some j → is_some (map.get q.made j) ≡ true
      passed q s u j inside told holder = by_within k.instance.enclosing refl
        where
          by_within : (w : Option TxId) → k.instance.enclosing ≡ w → is_some (map.get q.made j) ≡ true
          by_within None e = let clash = sym inside ∙ ap is_some (sym same_tx ∙ e) in cc
          by_within (Some t) e = returned_cause (λ c. (j : IntentId) → c.holder ≡ Some j → is_some (map.get q.made j) ≡ true) d k.instance t e
              (λ n c dead j holds. s.holders r.id (done k o) n c j (here h.histories r.id (done k o)) (ap (λ z. is_some (or_own z (own_at n))) e) dead holds) u (returning ∙ ap Return (aborted_by o u told)) j holder
            where
              own_at : ℕ → Option TxId
              own_at n = let given = take n k.instance.answers in tx_by r.id k.instance.func (length given) (effect_after d k.instance given) (txs_after d k.instance given).begun

      kept_given : (q : PlainState) → Grows h.plain.made q.made → q.items ≡ h.plain.items → ((x : Item) → listed rows_now x ≡ value_at q x) → IsConsistent d rows_now q next h.lock_ahead → Kept h rows_now q next h.lock_ahead
      kept_given q grows items values goes = kept_moving h rows_now q next h.lock_ahead goes (ahead_set d (over k o) h.lock_ahead (ahead_over d c m i r g h live k finds o is) h.lock_ahead caller caller_on (none_out h.lock_ahead caller caller_unlocked)) well_formed_given rows_given values
          (settled_moved d m q (over k o) caller waiter caller_still answer (record { no_end = λ c e. let clash = sym stands ∙ e in cc; holder = passed q (settled_over d c m i r g h live k finds o is open_still q grows) }) (settled_over d c m i r g h live k finds o is open_still q grows))
          (grows_through h.histories (over k o) next (grows_over d c m i r g h live k finds o is open_still) (grows_moved d (over k o) caller waiter answer caller_still))
          (log_frame d m back_key new refl (stays_call (map.get m back_key) x (record x { result = Some o }) at refl) h.plain q h.histories next items nobody_given)
          (no_intent d m back_key new next refl)

      roots : SameRoots m rows_now
      roots u = ap is_some (set_others m back_key new (root_key u) (no_root_key u b.func (Kind.Invoke b.place) refl))

      then_closes : (more : List Entry) (q : PlainState) → Kept h rows_now q next h.lock_ahead → RunAt d rows_now q more next (Some (record r { at = Begins (at_stage g Stage.Close) }))
      then_closes more q kept = at_other d c m i r g h live k finds is refl Stage.Close more rows_now q next h.lock_ahead (done k o) itself (grown_end k.instance o open_still) kept (λ inner. ap is_waited from ∙ waits, λ w. refl)

      same_shadows : SameShadows m rows_now
      same_shadows = log_shadows d m back_key new refl

      -- outside, by an entry
      given_outside : k.instance.enclosing ≡ None → Left h i r g (On Stage.Close (Some Mark.Step)) rows_now
      given_outside own =
          let caller_out : tx_now d caller waiter ≡ None = sym same_tx ∙ own in
          let parts = outside_parts d caller waiter waiter.answers caller_out in
          let w : Waited d h.plain.made r.id k.instance = record {
            caller = caller;
            waiter = waiter;
            is_callee = is_callee;
            made = plain_here d h.plain h.histories h.extends caller waiter called.made parts.0.0 (legal_well_formed h) parts.0.1;
            open_still = waits_open;
            stands = stands;
            called = subst (λ n. IsCalled d caller waiter n k.instance) at_call called.called;
            parent = sym k.caller ∙ from ∙ (λ i. Some (record { place = place_of caller (at_call i); func = sym called.func i; waits = waits i }));
            enclosing = same_tx;
          } in
          let two = with_instance (with_instance h.plain r.id (done k o)) caller (answered waiter answer) in
          let comes_to : two ≡ state k o h.plain = sym (answers_waiter d h.plain r.id k.instance w (done k o) o) in
          let steps = leads d c m i r g h live k finds o is own open_still next in
          let goes = subst (λ z. IsConsistent d rows_now z next h.lock_ahead) comes_to (goes_answered_then h rows_now same_shadows caller waiter answer called.made caller_unlocked (λ e. let clash = sym stands ∙ e in cc)
          (outside_more d caller waiter waiter.answers parts.0 (ap is_begin stands) answer) r.id is_callee (done k o) (done k o) caller_still (goes_over d c m i r g h live k finds o is own rows_now same_shadows)) in
          let kept = kept_given (state k o h.plain) steps.grows (ap (λ (z : PlainState). z.items) (sym comes_to)) (subst (λ z. (x : Item) → listed rows_now x ≡ value_at z x) comes_to (log_values h back_key new refl)) goes in
          entered d c m rows_now i r h live roots (turned_by d r g (On Stage.Close (Some Mark.Step))) Mark.Step (state k o h.plain) next h.lock_ahead refl steps (λ u told. cc) (then_closes (c.book ++ Step r.id ∷ []) (state k o h.plain) kept) (λ e. cc) kept

      -- inside, by none
      given_inside : (t : TxId) → k.instance.enclosing ≡ Some t → Left h i r g (On Stage.Close None) rows_now
      given_inside t in_it =
          let now : tx_now d r.id k.instance ≡ Some t = ap (λ z. or_own z (tx_by r.id k.instance.func (length k.instance.answers) (effect_of d k.instance) (txs_after d k.instance k.instance.answers).begun)) in_it in
          let goes = subst (λ z. IsConsistent d rows_now h.plain (map.insert (map.insert h.histories z (done k o)) caller caller_on) h.lock_ahead) (sym called.is_callee)
          (returns_go d m rows_now h.plain h.histories h.lock_ahead caller waiter k.instance b.place.step t o (opens_are_open d m h.plain h.histories h.lock_ahead r.id k.instance t (sound h) k.made open_still now) called.made callee_here in_it open_still returning same_shadows) in
          let kept = kept_given h.plain (grows_self h.plain.made) refl (log_values h back_key new refl) goes in
          quiet d c m rows_now i r h live roots (turned_by d r g (On Stage.Close None)) next h.lock_ahead refl refl (then_closes c.book h.plain kept) (λ e. cc) kept

      given_now : Left h i r g (back_output (inherited_tx k.instance.enclosing) Back.Set) rows_now
      given_now = by_within k.instance.enclosing refl
        where
          by_within : (w : Option TxId) → k.instance.enclosing ≡ w → Left h i r g (back_output (inherited_tx w) Back.Set) rows_now
          by_within None own = given_outside own
          by_within (Some t) in_it = given_inside t in_it

    AfterBack : Option Row × ActReply → Type 0
    AfterBack z = AfterAct d h.plain m back_key (λ t. turn_next c i r (turned_by d r g (back_output (inherited_tx k.instance.enclosing) (back_of t)))) z

    back_open : (x : InvokeRow) → x.result ≡ None → map.get m back_key ≡ Some (Row.Invoke x) → CallMatches (Some (Row.Invoke x)) (expected_call h.histories b.func b.place) → AfterBack (Some (Row.Invoke (call_back_to o x None).0), (call_back_to o x None).1)
    unfolding AfterBack
    back_open x none at matches = given_now x at (let both = same_some (sym expected_there ∙ matches) in ap (λ z. z.1) both ∙ none)

    back_closed : (x : InvokeRow) (u : Outcome) → x.result ≡ Some u → map.get m back_key ≡ Some (Row.Invoke x) → CallMatches (Some (Row.Invoke x)) (expected_call h.histories b.func b.place) → AfterBack (Some (Row.Invoke (call_back_to o x (Some u)).0), (call_back_to o x (Some u)).1)
    unfolding AfterBack
    back_closed x u some at matches = still d h.plain m back_key (Some (Row.Invoke x)) (sym at) (closes_on (let both = same_some (sym expected_there ∙ matches) in ap (λ z. is_some z.1) both ∙ ap is_some some))

    back_by : (x : InvokeRow) (u : Option Outcome) → x.result ≡ u → map.get m back_key ≡ Some (Row.Invoke x) → CallMatches (Some (Row.Invoke x)) (expected_call h.histories b.func b.place) → AfterBack (Some (Row.Invoke (call_back_to o x u).0), (call_back_to o x u).1)
    back_by x None result at matches = back_open x result at matches
    back_by x (Some u) result at matches = back_closed x u result at matches

    back_at : (w : Option Row) → map.get m back_key ≡ w → CallMatches w (expected_call h.histories b.func b.place) → AfterBack (act (CallBack o) c.now w)
    back_at None at matches = let clash = sym expected_there ∙ matches in cc
    back_at (Some (Row.Invoke x)) at matches = back_by x x.result refl at matches
    back_at (Some w) at matches = absurd matches

    back_here : AfterQuery d h.plain c.now m (λ t. turn_next c i r (turned_by d r g (back_output (inherited_tx k.instance.enclosing) (back_of t)))) (back_asks b.func b.place o)
    unfolding AfterBack
    back_here = back_at (map.get m back_key) refl (h.rows.keys back_key)

    pub back_turn : AfterQuery d h.plain c.now m (λ t. turn_next c i r (turned_by d r g (back_output g.tx (back_of t)))) (back_asks b.func b.place o)
    back_turn = subst (λ z. AfterQuery d h.plain c.now m (λ t. turn_next c i r (turned_by d r g (back_output z (back_of t)))) (back_asks b.func b.place o)) (sym (tx d c m i r g h live k finds o is)) back_here

  -- ---- it tells its caller, which does not wait, that it is registered
  module _ (out : tx_after d r.id k.instance k.answers ≡ None) where
    tells_on : (n : Rows) → SameRoots m n → Stays h n → is_waited g.caller ≡ false → Left h i r g (On Stage.Close None) n
    tells_on n roots rows idle = goes_on d c m i r g h live k finds out (Return o) is n Stage.Close roots rows (λ inner. cc, λ w. let clash = sym idle ∙ w in cc)

    pub tell_turn : (b : Option Caller) → is_waited g.caller ≡ false → AfterQuery d h.plain c.now m (λ t. turn_next c i r (turned_by d r g (On Stage.Close None))) (notify_asks r.id r.func b)
    tell_turn None idle = subst (Left h i r g (On Stage.Close None)) (sym (looked c.now (intent_key r.id r.func) m)) (tells_on m (λ t. refl) (as_it_was h) idle)
    tell_turn (Some b) idle =
        let at = invoke_key b.func b.place in
        let row = (act NoteRegistered c.now (map.get m at)).0 in
        tells_on (after_act NoteRegistered c.now at m) (λ u. ap is_some (set_others m at row (root_key u) (no_root_key u b.func (Kind.Invoke b.place) refl)))
        (log_stays d m at row refl c h (stays_marked c.now (map.get m at)) (no_intent d m at row h.histories refl) (marked_registered d m h.histories h.lock_ahead b.func b.place c.now h.rows)) idle
