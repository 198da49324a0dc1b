-- The turns of a read.
use Rattle.beldi_daal.specs.ReadWalk.{read_at}
use Rattle.beldi_invariant.proofs.Names.{Answer, Answers, Begun, BelongsEarlier, Core, Deployment, Frame, Grows, Inside, IsAnswer, IsKeptLate, IsStateAt, Item, Keeps, Histories, Knows, List, LogMatches, Look, Matches, None, On, Option, Place, Plain, PlainState, PutRead, Read, ReadGoes, ReadTurn, ReadWalk, ReadsAt, Invariant, Row, RowKey, Rows, Run, WellFormedHistories, StageOutput, Some, Stage, ActReply, TxId, Value, WasThere, [], act, ahead_set, answered, ap, arith, ask_output, at_row, suffix, begun_lists, by_read, chain, commit_in, content_of, count_changes, effect_of, false, prefix, front_all, front_back, given_in, given_of, got_begun, grown_answer, grows_at, head_key, holds, in_the_way, inl, is_some, item_touched, keep_output, kept_late, kept_of, length, linear, linear_changes, listed, log_key, looked, advanced, moved_one, no_root, no_tx, nobody_else, none_out, not_moved, nothing, op_of, option_map, or_null, expected_read, place_of, read_added, read_goes, read_so, reads_begin, refl, root_key, row_added, run_from, run_grows, runs_on, replied, same_some, set_others, set_row, slice_get, stage_output, subst, sym, touched_by, turn_next, turned_by, tx_after, tx_now, txs_after, unchanged, unowned, value_at, walk_output, wants_answer, with_answer, ℕ, ◌∙◌, ◌∷◌, ◌≡◌, ◌≤◌, Entry, Kind, Mark, Owner}
use Rattle.beldi_invariant.proofs.StageTurns.{effect_here, answer_here, all_here, step_here, effect_next, fits, not_over, goes_on, held, stays_on, replays, steps_on, tx_next, plain_there, unlocked_there}
use Rattle.beldi_invariant.proofs.{Lives.places_late, Moves.AfterAct, Moves.AfterTurn, Moves.Entered, Moves.Kept, Frames.frame_log, Frames.items_stay, Frames.no_finish, Frames.nobody_set, Settling.settled_grown, Settling.settled_outside, Others.kept_moving, Grown.grows_moved, Keeping.as_it_was, Keeping.goes_answered, Keeping.set_shadows, Shown.value_here, Shown.holds_here, Shown.settled, ExpectedOutside.value_if, ExpectedOutside.read_there, KeptWellFormed.answered_kept, Outside.is_call}
use Rattle.beldi_invariant.proofs.Names.map

-- what a log gives is what is expected of it
pub given_expected : (w : Option Row) (o : Option Value) → LogMatches w o → option_map given_in w ≡ o
given_expected w o h = grind arith

module _ (d : Deployment) (c : Core) (m : Rows) (i : ℕ) (r : Run) (g : Begun) (h : Invariant d c m) (live : map.get c.runs i ≡ Some r) (k : Knows d h.histories r g) (finds : Inside m h.plain c.book k g.stage) (out : tx_after d r.id k.instance k.answers ≡ None)
    (t : ℕ) (key : List ℕ) (is : g.machine.effect ≡ Read t key) where
  abbrev item : Item
  item = record { func = r.func; table = t; key = key }

  abbrev place : Place
  place = place_of r.id g.machine.steps

  abbrev AfterRead : Stage → RowKey → Option Row × ActReply → Type 0
  AfterRead s at z = AfterAct d h.plain m at (λ u. turn_next c i r (turned_by d r g (stage_output r.id r.func g.caller g.tx (count_changes c.book) g.machine.steps (Read t key) s u))) z

  -- the log has the value that the step was answered
  given_here : (later : List Answer) → k.later ≡ later → (w : Option Row) → map.get m (log_key r.func place) ≡ w → option_map given_in w ≡ value_if (Read t key) (slice_get later 0)
  given_here later left w at =
      given_expected w (value_if (Read t key) (slice_get k.instance.answers g.machine.steps)) (subst (λ o. LogMatches o (value_if (Read t key) (slice_get k.instance.answers g.machine.steps))) (ap (λ f. map.get m (log_key f place)) k.func ∙ at)
      (read_there d m h.histories h.lock_ahead h.rows r.id k.instance k.made g.machine.steps t key (effect_here k ∙ is)))
      ∙ ap (value_if (Read t key)) (answer_here k later left)

  -- what the turn leaves where it says this
  Left : StageOutput → Rows → Type 0
  Left s n = AfterTurn d h.plain c i r (turned_by d r g s) n

  -- .. and where a row is put that is there
  left_still : (s : StageOutput) (l : RowKey) (v : Option Row) → map.get m l ≡ v → Left s m → Left s (set_row m l v)
  left_still s l v at a = subst (Left s) (sym (unchanged m l v (sym at))) a

  -- a value that is there is the answer
  replays_it : (u v : Value) (rest : List Answer) → k.later ≡ Answer.Value u ∷ rest → Some v ≡ Some u → Left (Answers (Answer.Value v) None) m
  unfolding Left
  replays_it u v rest left same = replays d c m i r g h live k finds out (Read t key) is m (Answer.Value v) rest (λ u. refl) (as_it_was h) (left ∙ ap (λ w. Answer.Value w ∷ rest) (sym (same_some same)))

  -- ---- it asks for what was given
  walks : (row : ℕ) → ReadsAt (chain m (head_key item)) row → Left (On (Stage.Walk row) None) m
  unfolding Left
  walks row sees = goes_on d c m i r g h live k finds out (Read t key) is m (Stage.Walk row) (λ u. refl) (as_it_was h) sees

  abbrev asked : Option Row → Type 0
  asked w = let z = act Look c.now w in Left (ask_output (given_of (replied z.1))) (set_row m (log_key r.func place) z.0)

  ask_by : (later : List Answer) → k.later ≡ later → (w : Option Row) → map.get m (log_key r.func place) ≡ w → asked w
  ask_by [] left None at = left_still (On (Stage.Walk 0) None) (log_key r.func place) None at (walks 0 (reads_begin (chain m (head_key item))))
  ask_by [] left (Some w) at = let clash = given_here [] left (Some w) at in cc
  ask_by (Answer.Value u ∷ rest) left None at = let clash = given_here (Answer.Value u ∷ rest) left None at in cc
  ask_by (Answer.Value u ∷ rest) left (Some w) at =
      left_still (Answers (Answer.Value (given_in w)) None) (log_key r.func place) (Some w) at (replays_it u (given_in w) rest left (given_here (Answer.Value u ∷ rest) left (Some w) at))
  ask_by (a ∷ rest) left w at = absurd (fits d c m i r g h live k finds out (Read t key) is a rest left)

  pub ask_turn : AfterRead Stage.Ask (log_key r.func place) (act Look c.now (map.get m (log_key r.func place)))
  unfolding Left
  ask_turn = ask_by k.later refl (map.get m (log_key r.func place)) refl

  -- ---- it reads the item
  state_now : IsStateAt d c.book (count_changes c.book) h.plain
  state_now = ap (run_from d nothing) (front_all (count_changes c.book) (linear c.book) few) ∙ h.legal
    where
      few : count_changes (linear c.book) ≤ count_changes c.book
      few = let n = ap length (linear_changes c.book) in omega (arith, n)

  found : (o : Option Value) → value_at h.plain item ≡ or_null o → in_the_way (Some (Owner.Intent r.id)) (content_of m item).owner ≡ None → AfterTurn d h.plain c i r (turned_by d r g (walk_output (count_changes c.book) (ReadGoes.Got o))) m
  found o same free = goes_on d c m i r g h live k finds out (Read t key) is m (Stage.Keep (or_null o) (count_changes c.book)) (λ u. refl) (as_it_was h) (record {
    few = omega arith;
    was_there = λ none. record {
      state = h.plain;
      is_state = state_now;
      instance = k.instance;
      made = plain_there d c m i r g h live k finds out (Read t key) is none;
      same = sym (all_here k none);
      value = same;
      unlocked = λ j held. nobody_else r.id (content_of m item).owner (unowned r.id (content_of m item).owner free) j ((h.rows.items item).owner j ∙ holds_here h item j ∙ held);
    };
  })

  none_owns : in_the_way (Some (Owner.Intent r.id)) (content_of m item).owner ≡ None → (t : TxId) → (content_of m item).owner ≡ Some (Owner.Tx t) → ⊥
  none_owns free = no_tx r.id (content_of m item).owner (unowned r.id (content_of m item).owner free)

  -- .. at this row
  module _ (row : ℕ) (sees : ReadsAt (chain m (head_key item)) row) where
    abbrev walk : ReadWalk
    walk = record { home = r.func; item = Plain t key; who = Some (Owner.Intent r.id); row = row }

    walked : (z : ReadGoes) → ReadTurn walk (read_at walk z) m (read_so z) → AfterTurn d h.plain c i r (turned_by d r g (walk_output (count_changes c.book) z)) m
    unfolding Left
    walked (ReadGoes.On to) turn = walks to turn.sees
    walked ReadGoes.Stays turn = stays_on d c m i r g h live k finds m (λ u. refl) (as_it_was h)
    walked (ReadGoes.Got None) turn = found None (sym (value_here h item (none_owns (ap (λ x. in_the_way (Some (Owner.Intent r.id)) x.owner) turn.reads))) ∙ ap (λ x. x.value) turn.reads) (ap (λ x. in_the_way (Some (Owner.Intent r.id)) x.owner) turn.reads)
    walked (ReadGoes.Got (Some v)) turn = found (Some v) (sym (value_here h item (none_owns turn.reads.0)) ∙ sym turn.reads.1) turn.reads.0
    walked (ReadGoes.Held o) turn = held d c m i r g h live k o m (λ u. refl) (as_it_was h)

    pub walk_turn : let k = at_row (head_key item) row in AfterRead (Stage.Walk row) k (act Look c.now (map.get m k))
    walk_turn =
        let z = read_goes walk.who (replied (act Look c.now (map.get m (at_row (head_key item) row))).1) in
        subst (AfterTurn d h.plain c i r (turned_by d r g (walk_output (count_changes c.book) z))) (sym (looked c.now (at_row (head_key item) row) m)) (walked z (by_read walk m c.now (h.rows.chains item) sees))

  -- ---- it keeps what it found
  module _ (v : Value) (version : ℕ) (at : Keeps d c.book r.id k.answers k.later item v version) where
    -- where the instance is still at the read, it has not moved since its place
    module _ (left : k.later ≡ []) where
      abbrev there : WasThere d c.book r.id k.answers item v version
      there = at.was_there left

      now : effect_of d k.instance ≡ Read t key
      now = effect_next k left ∙ is

      open_still : k.instance.outcome ≡ None
      open_still = not_over h k left (ap (λ e. wants_answer e) is)

      made : map.get h.plain.made r.id ≡ Some k.instance
      made = plain_there d c m i r g h live k finds out (Read t key) is left

      behind : run_from d there.state (suffix version (linear c.book)) ≡ Some h.plain
      behind = sym (runs_on d nothing there.state (prefix version (linear c.book)) (suffix version (linear c.book)) there.is_state) ∙ ap (run_from d nothing) (front_back version (linear c.book)) ∙ h.legal

      same : there.instance ≡ k.instance
      same = not_moved (map.get there.state.made r.id) (map.get h.plain.made r.id) there.instance k.instance there.made made (run_grows d there.state (suffix version (linear c.book)) h.plain behind r.id)
          (there.same ∙ all_here k left) open_still

      belongs : BelongsEarlier d c.book h.plain r.id version k.instance v
      belongs = record {
        bounded = h.bounded;
        legal = h.legal;
        guarded = h.guarded;
        few = at.few;
        state = there.state;
        is_state = there.is_state;
        was_made = there.made ∙ ap (λ z. Some z) same;
        open_still = open_still;
        table = t;
        key = key;
        stands = now;
        value = ap (λ f. value_at there.state (record { func = f; table = t; key = key })) k.func ∙ there.value;
        free = λ x touched j held. there.unlocked j (ap (λ z. holds d z (map.get there.state.made j)) (same_some (sym (ap (touched_by d) (there.made ∙ ap Some same) ∙ ap (item_touched k.instance) now ∙ ap (λ f. Some (record { func = f; table = t; key = key })) k.func) ∙ touched)) ∙ held);
        has_not_moved = made;
      }

      abbrev state : PlainState
      state = with_answer h.plain r.id k.instance v

      abbrev next : Histories
      next = map.insert h.histories r.id (advanced d r.id k.instance (Answer.Value v))

      late : IsKeptLate d c.book h.plain r.id version k.instance v
      late = kept_late d c.book h.plain r.id version k.instance v belongs

      read_entered : Entered d c h.plain h.histories (Entry.Read r.id version) state next
      read_entered = record { grows = grows_at h.plain.made r.id k.instance (answered k.instance (Answer.Value v)) made (grown_answer k.instance (Answer.Value v)); bounded = late.bounded; legal = late.legal; guarded = late.guarded; places = places_late d c.book h.plain r.id version k.instance v h.histories k.made late }

      outside : tx_now d r.id k.instance ≡ None
      outside = tx_next k out left

      abbrev n : Rows
      n = set_row m (log_key r.func place) (Some (Row.ReadLog v))

      unlocked : h.lock_ahead r.id ≡ false
      unlocked = unlocked_there d c m i r g h live k finds out (Read t key) is left

      own_key : log_key k.instance.func (place_of r.id (length k.instance.answers)) ≡ log_key r.func place
      own_key = λ i. log_key (k.func i) (place_of r.id (sym (step_here k left) i))

      frame : Frame d m n h.plain state h.histories next
      frame = frame_log d m h.plain state h.histories next (items_stay d m h.plain state next refl) (nobody_set d h.histories r.id (advanced d r.id k.instance (Answer.Value v)) (ap is_some k.made)) r.func place (Some (Row.ReadLog v)) refl

      well_formed_now : WellFormedHistories d next
      well_formed_now = answered_kept d h.histories h.well_formed r.id k.instance (Answer.Value v) k.made open_still outside (ap is_call now) (subst (λ e. IsAnswer (place_of r.id (length k.instance.answers)) None e (Answer.Value v)) (sym now) tt)

      rows_now : Matches d n next h.lock_ahead
      rows_now = subst (λ z. Matches d (set_row m z (Some (Row.ReadLog v))) next h.lock_ahead) own_key
          (read_added d h.histories h.lock_ahead r.id k.instance (advanced d r.id k.instance (Answer.Value v)) (Answer.Value v) k.made unlocked (inl outside) (ap commit_in now) (moved_one d r.id k.instance (Answer.Value v))
          m v (ap op_of now) (ap (λ e. row_added (length k.instance.answers) (txs_after d k.instance k.instance.answers).begun e (Answer.Value v)) now) h.rows)

      grows : Grows h.histories next
      grows = grows_moved d h.histories r.id k.instance (Answer.Value v) k.made

      kept_rows : Kept h n state next h.lock_ahead
      kept_rows = kept_moving h n state next h.lock_ahead (goes_answered h n (set_shadows m (log_key r.func place) (Some (Row.ReadLog v)) refl) r.id k.instance (Answer.Value v) k.made unlocked outside h.plain.items (λ j z other x owned. refl))
          (ahead_set d h.histories h.lock_ahead h.ahead_at_ends h.lock_ahead r.id (advanced d r.id k.instance (Answer.Value v)) (none_out h.lock_ahead r.id unlocked)) well_formed_now rows_now
          (λ x. subst (λ z. listed (set_row m z (Some (Row.ReadLog v))) x ≡ value_at h.plain x) own_key (begun_lists d m h.histories h.lock_ahead h.rows.txs (λ u y got. got_begun d h.histories h.well_formed h.lock_ahead u y got) r.id k.instance k.made (Some (Row.ReadLog v)) x ∙ h.values x))
          (settled_grown d m h.plain state next read_entered.grows (settled_outside d m h.plain h.histories r.id k.instance k.made (Answer.Value v) outside (settled h))) grows frame
          (no_finish m n (log_key r.func place) (set_others m (log_key r.func place) (Some (Row.ReadLog v))) d next refl)

    keeps : k.later ≡ [] → Left (Answers (Answer.Value v) (Some (Mark.Read version))) (set_row m (log_key r.func place) (Some (Row.ReadLog v)))
    unfolding Left
    keeps left = steps_on d c m i r g h live k finds out (Read t key) is (Answer.Value v) (Mark.Read version) (state left) (set_row m (log_key r.func place) (Some (Row.ReadLog v))) left tt (read_entered left)
        (λ u. ap is_some (set_others m (log_key r.func place) (Some (Row.ReadLog v)) (root_key u) (no_root u r.func (Kind.ReadLog place) refl))) (kept_rows left)

    abbrev kept_as : Option Row → Type 0
    kept_as w = let z = act (PutRead v) c.now w in Left (keep_output version (kept_of v (replied z.1))) (set_row m (log_key r.func place) z.0)

    keep_by : (later : List Answer) → k.later ≡ later → (w : Option Row) → map.get m (log_key r.func place) ≡ w → LogMatches w (expected_read d h.histories r.func place) → kept_as w
    keep_by [] left None is_there f = keeps left
    keep_by [] left (Some (Row.ReadLog u)) is_there f = let clash = given_here [] left (Some (Row.ReadLog u)) is_there in cc
    keep_by (Answer.Value u ∷ rest) left None is_there f = let clash = given_here (Answer.Value u ∷ rest) left None is_there in cc
    keep_by (Answer.Value u ∷ rest) left (Some (Row.ReadLog w)) is_there f =
        left_still (Answers (Answer.Value w) None) (log_key r.func place) (Some (Row.ReadLog w)) is_there (replays_it u w rest left (given_here (Answer.Value u ∷ rest) left (Some (Row.ReadLog w)) is_there))
    keep_by (Answer.Value u ∷ rest) left (Some w) is_there f = absurd f
    keep_by [] left (Some w) is_there f = absurd f
    keep_by (a ∷ rest) left w is_there f = absurd (fits d c m i r g h live k finds out (Read t key) is a rest left)

    pub keep_turn : AfterRead (Stage.Keep v version) (log_key r.func place) (act (PutRead v) c.now (map.get m (log_key r.func place)))
    unfolding Left
    keep_turn = keep_by k.later refl (map.get m (log_key r.func place)) refl (h.rows.keys (log_key r.func place))
