-- The last turn of a run: its instance is ended.
use Rattle.beldi_row.specs.declared.act.Act.TheVariants.{End}
use Rattle.beldi_invariant.proofs.Names.{Begun, Body, BodyMatches, Bool, CalleeBodyMatches, Caller, Core, Deployment, Ends, FinishMatches, Inside, Instance, IntentMatches, IntentRow, IsCalleeRow, Histories, Knows, Matches, None, Option, Outcome, OutcomeMatches, PlainState, Return, Invariant, Row, RowKey, Rows, Run, Some, Step, ActReply, TxId, act, answer_caller, ap, arith, callee_put, close_output, effect_of, end_asks, end_with, false, finish_at, func_called, has_ended, has_finish, has_no_hops, here, intent_ended, intent_key, is_did, is_inherited, is_some, is_waited, mark_if, not, option_map, outcome_of, refl, reply_if, root_of, same_some, set_others, set_row, subst, sym, true, turn_next, turned_by, tx_in, with_instance, inherited_tx, ℕ, ◌∙◌, ◌≡◌, Mark}
use Rattle.beldi_invariant.proofs.Moves.{AfterQuery, SameRoots, Kept, Stays, Entered, entered, AfterAct, still, replaced}
use Rattle.beldi_invariant.proofs.Returns.{Left, ahead_over, done, goes_over, grows_over, idle_outside, leads, nobody_over, over, returns_now, root_is, root_outside, same_outcome, settled_over, tx, unlocked}
use Rattle.beldi_invariant.proofs.{Beginnings.same_roots, Frames.NoFinish, Frames.no_member_finish, Keeping.as_it_was, KeptWellFormed.ended_kept, Others.kept_moving, Registered.StaysRow, Registered.log_frame, Registered.log_shadows, Registered.log_stays, Registered.no_more, Shown.log_values, StageTurns.ends, Cases.false_by}
use Rattle.beldi_invariant.proofs.Names.map

module _ (d : Deployment) (c : Core) (m : Rows) (i : ℕ) (r : Run) (g : Begun) (h : Invariant d c m) (live : map.get c.runs i ≡ Some r) (k : Knows d h.histories r g) (finds : Inside m h.plain c.book k g.stage) (o : Outcome) (is : g.machine.effect ≡ Return o) where
  returning : effect_of d k.instance ≡ Return o
  returning = returns_now d c m i r g h live k finds o is

  -- ---- it is ended; what was called in a transaction has its stamp from the owner's end
  abbrev key : RowKey
  key = intent_key r.id r.func

  abbrev stamped : Option TxId → Bool
  stamped w = not (is_inherited (inherited_tx w))

  abbrev ended_in : Option TxId → IntentRow → IntentRow
  ended_in w j = record j { outcome = Some o; finish = finish_at (stamped w) c.now j.finish }

  abbrev end_row : IntentRow → IntentRow
  end_row j = ended_in k.instance.enclosing j

  abbrev row_in : Option TxId → IntentRow → Option Row
  row_in w j = Some (Row.Intent (ended_in w j))

  finished : (f : Option ℕ) → is_some (finish_at true c.now f) ≡ true
  finished f = grind arith

  close_ends : (n : Rows) → SameRoots m n → Stays h n → Left h i r g (Ends None None) n
  close_ends n roots rows = ends d c m i r g h live k n roots rows

  abbrev AfterClose : Option Row × ActReply → Type 0
  AfterClose z = AfterAct d h.plain m key (λ t. turn_next c i r (turned_by d r g (close_output r.id g.caller (Return o) (is_did t)))) z

  AfterEnd : Type 0
  AfterEnd = (j : IntentRow) → map.get m key ≡ Some (Row.Intent j) → j.outcome ≡ None → Left h i r g (close_output r.id g.caller (Return o) true) (set_row m key (Some (Row.Intent (end_row j))))

  row_here : (j : IntentRow) → map.get m key ≡ Some (Row.Intent j) → IntentMatches (has_ended d h.histories) (has_no_hops r.id.hops) key.home (Some (Row.Intent j)) (Some k.instance)
  row_here j at = subst (λ w. IntentMatches (has_ended d h.histories) (has_no_hops r.id.hops) key.home w (Some k.instance)) at (subst (IntentMatches (has_ended d h.histories) (has_no_hops r.id.hops) key.home (map.get m key)) k.made (h.rows.keys key))

  -- its row keeps a finish that it has
  end_stays : (j : IntentRow) → map.get m key ≡ Some (Row.Intent j) → StaysRow (map.get m key) (Some (Row.Intent (end_row j)))
  end_stays j at = record { there = λ e. refl; finish = λ e. (grind (arith, sym (ap has_finish at) ∙ e)); calls = λ f e. sym (ap (option_map func_called) at) ∙ e }

  -- .. and gets one only where it was called in no transaction
  ends_none : (next : Histories) (q : Instance) → map.get next r.id ≡ Some q → q.enclosing ≡ k.instance.enclosing → (j : IntentRow) → map.get m key ≡ Some (Row.Intent j) → NoFinish d m (set_row m key (Some (Row.Intent (end_row j)))) next
  ends_none next q made same j at = by_within k.instance.enclosing refl
    where
      by_within : (w : Option TxId) → k.instance.enclosing ≡ w → NoFinish d m (set_row m key (row_in w j)) next
      by_within None own = no_member_finish d m (set_row m key (row_in None j)) key.home r.id next (set_others m key (row_in None j)) (λ t z e part. let clash = sym (sym same ∙ ap (λ (y : Instance). y.enclosing) (same_some (sym made ∙ part.made)) ∙ part.enclosing) ∙ own in cc)
      by_within (Some t) in_it = no_more d m key (row_in (Some t) j) next (λ e. ap has_finish at ∙ e)

  -- one that its caller waits for: its step was made
  module _ (waits : is_waited g.caller ≡ true) (version : is_some k.instance.outcome ≡ true) where
    hops : has_no_hops r.id.hops ≡ false
    hops = false_by (has_no_hops r.id.hops) (λ e. let clash = sym waits ∙ ap is_waited (k.caller ∙ (root_outside d h.histories r.id k.instance h.well_formed k.made e).0) in cc)

    outcome_there : (u : Option Outcome) → k.instance.outcome ≡ u → is_some u ≡ true → k.instance.outcome ≡ Some o
    outcome_there None has there = cc
    outcome_there (Some u) has there = has ∙ ap Some (same_outcome d c m i r g h live k finds o is u has)

    matches_now : (t : Bool) (u : Option Outcome) → u ≡ Some o → OutcomeMatches t (Some o) u
    matches_now t u has = grind arith

    body_ended : (home : ℕ) (b : Option Body) (u : Option Outcome) → CalleeBodyMatches home b u (Some k.instance) → CalleeBodyMatches home b (Some o) (Some k.instance)
    body_ended home None u f = absurd f
    body_ended home (Some b) u f = (f.0, f.1, matches_now (is_waited b.parent) f.0.instance.outcome (sym (ap (λ z. z.outcome) (same_some f.0.made)) ∙ outcome_there k.instance.outcome refl version))

    -- its row has its finish with its outcome where it was called in no transaction, and else keeps what it has
    finishes_now : (w : Option TxId) (f : Option ℕ) (u : Option Outcome) → FinishMatches (has_ended d h.histories) w f u → FinishMatches (has_ended d h.histories) w (finish_at (stamped w) c.now f) (Some o)
    finishes_now w f u was = grind arith

    tx_there : (home : ℕ) (b : Option Body) (u : Option Outcome) → CalleeBodyMatches home b u (Some k.instance) → tx_in b ≡ k.instance.enclosing
    tx_there home b u f = grind arith

    put_now : AfterEnd
    unfolding AfterEnd
    put_now j at none =
        let new = Some (Row.Intent (end_row j)) in
        let f : IsCalleeRow (has_ended d h.histories) key.home j (Some k.instance) = subst (λ b. IntentMatches (has_ended d h.histories) b key.home (Some (Row.Intent j)) (Some k.instance)) hops (row_here j at) in
        let same = tx_there key.home j.body j.outcome f.body in
        let finishes = subst (λ w. FinishMatches (has_ended d h.histories) w (end_row j).finish (Some o)) (sym same)
        (finishes_now k.instance.enclosing j.finish j.outcome (subst (λ w. FinishMatches (has_ended d h.histories) w j.finish j.outcome) same f.finishes)) in
        let fits : IsCalleeRow (has_ended d h.histories) key.home (end_row j) (map.get h.histories r.id) = subst (IsCalleeRow (has_ended d h.histories) key.home (end_row j)) (sym k.made) (record { finishes = finishes; body = body_ended key.home j.body j.outcome f.body }) in
        subst (λ z. Left h i r g z (set_row m key new)) (sym (ap (λ b. Ends (mark_if (not b) Mark.Step) (reply_if (has_no_hops r.id.hops) o)) waits ∙ ap (λ b. Ends None (reply_if b o)) hops))
        (close_ends (set_row m key new) (same_roots m key.home r.id new hops) (log_stays d m key new refl c h (end_stays j at) (ends_none h.histories k.instance k.made refl j at) (callee_put d h.histories h.lock_ahead m r.id key.home (end_row j) hops fits h.rows)))

  -- one that nobody waits for: its step is its end, which gives a root's reply
  module _ (idle : is_waited g.caller ≡ false) where
    own_here : k.instance.enclosing ≡ None
    own_here = idle_outside d c m i r g h live k finds o is idle

    idle_here : is_waited k.instance.parent ≡ false
    idle_here = ap is_waited (sym k.caller) ∙ idle

    abbrev left_state : PlainState
    left_state = with_instance h.plain r.id (done k o)

    no_answer_given : (b : Option Caller) → is_waited b ≡ false → answer_caller left_state b o ≡ left_state
    no_answer_given b e = grind arith

    -- its row says that it has not ended
    open_root : (b : Option Body) (u : Option Outcome) → BodyMatches b u (Some k.instance) → k.instance.outcome ≡ u
    open_root b u f = grind arith

    open_callee : (home : ℕ) (b : Option Body) (u : Option Outcome) → CalleeBodyMatches home b u (Some k.instance) → k.instance.outcome ≡ u
    open_callee home b u f = grind arith

    open_by : (t : Bool) (home : ℕ) (j : IntentRow) → IntentMatches (has_ended d h.histories) t home (Some (Row.Intent j)) (Some k.instance) → k.instance.outcome ≡ j.outcome
    open_by false home j f = open_callee home j.body j.outcome f.body
    open_by true home j f = grind (arith, f)

    replies : (t : Bool) → has_no_hops r.id.hops ≡ t → (v : Outcome) → reply_if t o ≡ Some v → outcome_of (map.get left_state.made (root_of r.id.ticket)) ≡ Some v
    replies true root v told = ap (λ z. outcome_of (map.get left_state.made z)) (sym (root_is r.id root)) ∙ ap outcome_of (here h.plain.made r.id (done k o)) ∙ told
    replies false root v told = cc

    step_now : AfterEnd
    unfolding AfterEnd
    step_now j at none =
        let new = Some (Row.Intent (end_row j)) in
        let n = set_row m key new in
        let open_still = open_by (has_no_hops r.id.hops) key.home j (row_here j at) ∙ none in
        let steps = subst (λ z. Entered d c h.plain h.histories (Step r.id) z (over k o)) (no_answer_given k.instance.parent idle_here) (leads d c m i r g h live k finds o is own_here open_still (over k o)) in
        let own : RowKey = intent_key r.id k.instance.func in
        let own_is : own ≡ key = ap (intent_key r.id) k.func in
        let rows_ended : Matches d n (over k o) h.lock_ahead = subst (λ z. Matches d (set_row m z new) (over k o) h.lock_ahead) own_is
        (intent_ended d h.histories h.lock_ahead r.id k.instance o k.made (unlocked d c m i r g h live k finds o is) returning idle_here own_here m j (end_row j) (record { body = refl; outcome = refl; finish = ap (λ w. is_some (finish_at (stamped w) c.now j.finish)) own_here ∙ finished j.finish }) (ap (map.get m) own_is ∙ at) h.rows) in
        let kept : Kept h n left_state (over k o) h.lock_ahead = kept_moving h n left_state (over k o) h.lock_ahead (goes_over d c m i r g h live k finds o is own_here n (log_shadows d m key new refl)) (ahead_over d c m i r g h live k finds o is) (ended_kept d h.histories h.well_formed r.id k.instance o k.made returning idle_here) rows_ended (log_values h key new refl)
        (settled_over d c m i r g h live k finds o is open_still left_state steps.grows) (grows_over d c m i r g h live k finds o is open_still) (log_frame d m key new refl (end_stays j at) h.plain left_state h.histories (over k o) refl (nobody_over d c m i r g h live k finds o is)) (ends_none (over k o) (done k o) (here h.histories r.id (done k o)) refl j at) in
        subst (λ z. Left h i r g z n) (sym (ap (λ b. Ends (mark_if (not b) Mark.Step) (reply_if (has_no_hops r.id.hops) o)) idle))
        (entered d c m n i r h live (replaced m key new (ap is_some (sym at))) (turned_by d r g (Ends (Some Mark.Step) (reply_if (has_no_hops r.id.hops) o))) Mark.Step left_state (over k o) h.lock_ahead refl steps
        (replies (has_no_hops r.id.hops) refl) tt (λ e. cc) kept)

  close_by : AfterEnd → (j : IntentRow) (u : Option Outcome) → j.outcome ≡ u → map.get m key ≡ Some (Row.Intent j) → AfterClose (Some (Row.Intent (end_with o (stamped k.instance.enclosing) c.now j u).0), (end_with o (stamped k.instance.enclosing) c.now j u).1)
  unfolding AfterEnd
  close_by on_end j None none at = on_end j at none
  close_by on_end j (Some u) some at = still d h.plain m key (Some (Row.Intent j)) (sym at) (close_ends m (λ t. refl) (as_it_was h))

  close_at : AfterEnd → (w : Option Row) → map.get m key ≡ w → AfterClose (act (End o (stamped k.instance.enclosing)) c.now w)
  close_at on_end None at = still d h.plain m key None (sym at) (close_ends m (λ t. refl) (as_it_was h))
  close_at on_end (Some (Row.Intent j)) at = close_by on_end j j.outcome refl at
  close_at on_end (Some w) at = still d h.plain m key (Some w) (sym at) (close_ends m (λ t. refl) (as_it_was h))

  pub close_turn : (is_waited g.caller ≡ true → is_some k.instance.outcome ≡ true) → AfterQuery d h.plain c.now m (λ t. turn_next c i r (turned_by d r g (close_output r.id g.caller (Return o) (is_did t)))) (end_asks r.id r.func o (not (is_inherited g.tx)))
  close_turn version = subst (λ z. AfterQuery d h.plain c.now m (λ t. turn_next c i r (turned_by d r g (close_output r.id g.caller (Return o) (is_did t)))) (end_asks r.id r.func o (not (is_inherited z)))) (sym (tx d c m i r g h live k finds o is))
      (close_at (elim (is_waited g.caller) as (λ t. is_waited g.caller ≡ t → AfterEnd) [
        | true ↦ λ waits. put_now waits (version waits)
        | false ↦ λ idle. step_now idle
      ] refl) (map.get m key) refl)
