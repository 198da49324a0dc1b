-- Where the invariant holds of the host and its rows, the rows stand for the run of the book.
use Rattle.std.specs.Prelude.{zero, suc, take}
use Rattle.beldi_histories.specs.{Stands.answer_by_note, Expected.noted}
use Rattle.beldi_invariant.proofs.Names.{Answer, Async, Body, Bool, Call, CallMatches, CalledBy, Cause, Cond, CondWrite, Core, Deployment, Died, Done, Effect, End, Got, Instance, IntentId, IntentMatches, IntentRow, IsAnswer, IsBodyOf, IsCalled, IsDeath, IsMade, IsOutside, IsRowOf, Item, Histories, List, LogMatches, Matches, None, Note, OnItem, Option, Outcome, Place, PlainState, Read, Invariant, RootMatches, Row, Rows, WellFormedHistories, Some, Stands, TxId, Value, Write, Wrote, [], ahead_note, answer_aside, answer_given, answer_of, answered_note, ap, arith, at_step, call_in, call_of, child_of, commit_in, decides, decision_there, effect_after, effect_before, ended_at, eq-eqb, eqb-true, false, given, has_ended, has_no_hops, has_place, held_answer, held_inside, held_note, held_outside, if◌then◌else◌, invoke_key, is_begin, is_decided, is_eq, is_item, is_mark, is_some, item_in, item_total, key_in, last_step, length, lock_expected, log_key, note_at, note_by, note_of, note_of_lock, note_or, noted_answer, op_of, option_and_then, option_map, or_own, outside_parts, expected_call, expected_note, expected_shadow, expected_value, place_of, refl, result_in, root_key, root_of, row_at, row_of, run_of, same_some, shadow_by, shadow_of, slice_get, slice_get_within, subst, sym, tied_itself, touched, true, tx_after, tx_at, tx_by, tx_self, txs_after, value_for, wants, write_op, ℕ, ◌&&◌, ◌++◌, ◌==◌, ◌||◌, ◌∙◌, ◌∷◌, ◌≡◌}
use Rattle.beldi_invariant.proofs.{Readings.given_expected, OperationTurns.noted_back, CallsHere.same_call, Outside.is_of_tx, Outside.recorded_of, ExpectedOutside.note_if, ExpectedOutside.value_if, ExpectedOutside.note_there, ExpectedOutside.read_there, ExpectedOutside.no_end, Owning.holder_owns, Owning.owned_so, Owning.root_open, Grown.tx_stays, Shown.Shows, Shown.legal_well_formed, Shown.shown, Committed.placed, Committed.unplaced, Ended.ends_outside, Widths.answered_small, KeptWellFormed.outside_effect, Cases.false_by}
use Rattle.beldi_invariant.proofs.Names.map
use Rattle.beldi_invariant.proofs.Names.plain

-- an answer to a read is its value
read_back : (p : Place) (t : ℕ) (k : List ℕ) (a : Answer) → IsAnswer p None (Read t k) a → option_map Answer.Value (value_for (Read t k) a) ≡ Some a
read_back p t k a ok = grind arith

-- what a call gave back is what is expected
abbrev gave : Option (ℕ × Option Outcome) → Option Outcome
gave None = None
gave (Some c) = c.1

gave_expected : (w : Option Row) (o : Option (ℕ × Option Outcome)) → CallMatches w o → result_in (call_in w) ≡ gave o
gave_expected w o h = grind arith

-- the first of a list
front_get : (xs ys : List Answer) (n : ℕ) (a : Answer) → slice_get xs n ≡ Some a → (slice_get (xs ++ ys) n ≡ Some a) × (take n (xs ++ ys) ≡ take n xs)
front_get [] ys n a h = cc
front_get (x ∷ xs) ys zero a h = (h, refl)
front_get (x ∷ xs) ys (suc n) a h = let k = front_get xs ys n a h in (k.0, ap (λ zs. x ∷ zs) k.1)

-- .. and what follows an element of it
cut_at : (xs : List Answer) (n : ℕ) (a : Answer) → slice_get xs n ≡ Some a → (ys : List Answer) × ((take n xs ++ a ∷ ys ≡ xs) × (length (take n xs) ≡ n))
cut_at [] n a h = cc
cut_at (x ∷ xs) zero a h = (xs, (ap (λ z. z ∷ xs) (sym (same_some h)), refl))
cut_at (x ∷ xs) (suc n) a h = let k = cut_at xs n a h in (k.0, (ap (λ zs. x ∷ zs) k.1.0, ap suc k.1.1))

-- a decision is its own
decided_so : (c : Bool) → decides c (Value.Bool c) ≡ Some Done
decided_so c = grind arith

module _ (d : Deployment) (m : Rows) (histories : Histories) (lock_ahead : IntentId → Bool) (h : Matches d m histories lock_ahead) (well_formed : WellFormedHistories d histories) where
  -- ---- the answers of an instance
  module _ (id : IntentId) (q : Instance) (made : map.get histories id ≡ Some q) (n : ℕ) (a : Answer) (at : slice_get q.answers n ≡ Some a) where
    abbrev place : Place
    place = record { intent = id; step = n }

    abbrev e : Effect
    e = effect_before d q n

    went : IsAnswer place (tx_at d id q n) e a
    went = (well_formed.each id q made).past n a at

    -- a read's row
    given_here : (t : ℕ) (k : List ℕ) → e ≡ Read t k → given m (log_key q.func place) ≡ value_for (Read t k) a
    given_here t k is = given_expected (map.get m (log_key q.func place)) (value_if (Read t k) (slice_get q.answers n)) (read_there d m histories lock_ahead h id q made n t k is) ∙ ap (value_if (Read t k)) at

    -- ---- outside transactions
    held_op : tx_at d id q n ≡ None → is_of_tx e ≡ false → (o : OnItem) → op_of e ≡ Some o → IsAnswer place None e a → held_note m place q.func (Some o) ≡ Some a
    held_op outside not_of_tx o is ok =
        let x : Item = item_in q.func o in
        ap (option_and_then noted_answer) (note_there d m histories lock_ahead h id q made n (outside_parts d id q (take n q.answers) outside).0.0 outside (no_end e not_of_tx) x ∙ ap (note_if x q.func e) at ∙ ap (λ z. note_of x q.func z a) is
        ∙ ap (λ t. if is_eq t then noted o.does a else None) (tied_itself item_total x)) ∙ (noted_back place e o a is ok).0

    -- a call, by its callee
    was_called : (j : Instance) → map.get histories (child_of id n) ≡ Some j → IsCalled d id q n j
    was_called j on = subst (λ o. CalledBy d id o n j) made (well_formed.called id n j on)

    expected_so : (j : Instance) (on : map.get histories (child_of id n) ≡ Some j) → expected_call histories q.func place ≡ Some (j.func, if (was_called j on).waits then j.outcome else None)
    expected_so j on = grind arith

    -- what its row holds
    held_call : (w : Bool) (f : ℕ) (v : Value) → e ≡ call_of w f v → held_outside m place q.func (call_of w f v) ≡ Some a
    held_call w f v call = by_callee (map.get histories (child_of id n)) refl
      where
        by_wait : (j : Instance) (b : Bool) → Some a ≡ answer_given b j.outcome → CallMatches (map.get m (invoke_key q.func place)) (Some (j.func, if b then j.outcome else None)) → held_outside m place q.func (call_of b f v) ≡ Some a
        by_wait j true answered row = ap (option_map answer_of) (gave_expected (map.get m (invoke_key q.func place)) (Some (j.func, j.outcome)) row) ∙ sym answered
        by_wait j false answered row = (grind (arith, row)) ∙ sym answered

        by_callee : (o : Option Instance) → map.get histories (child_of id n) ≡ o → held_outside m place q.func (call_of w f v) ≡ Some a
        by_callee None none = let clash = sym (well_formed.callees id q n w f v made (slice_get_within q.answers n a at) call) ∙ ap is_some none in cc
        by_callee (Some j) on =
            let c = was_called j on in
            let same = (same_call w c.waits f j.func v j.args (sym call ∙ c.call)).0 in
            subst (λ b. held_outside m place q.func (call_of b f v) ≡ Some a) (sym same)
            (by_wait j c.waits (sym at ∙ c.answered) (subst (CallMatches (map.get m (invoke_key q.func place))) (expected_so j on) (h.keys (invoke_key q.func place))))

    outside_here : tx_at d id q n ≡ None → held_outside m place q.func e ≡ Some a
    outside_here outside = by_effect e refl not_of_tx (subst (λ t. IsAnswer place t e a) outside went)
      where
        out : IsOutside d q (take n q.answers) × (is_begin e ≡ false)
        out = outside_parts d id q (take n q.answers) outside

        not_of_tx : is_of_tx e ≡ false
        not_of_tx = outside_effect d q (take n q.answers) out.0 out.1

        operated : (z : Effect) → e ≡ z → (o : OnItem) → op_of z ≡ Some o → IsAnswer place None z a → held_note m place q.func (op_of z) ≡ Some a
        operated z is o on ok = ap (held_note m place q.func) on ∙ held_op outside not_of_tx o (ap op_of is ∙ on) (subst (λ y. IsAnswer place None y a) (sym is) ok)

        by_effect : (z : Effect) → e ≡ z → is_of_tx z ≡ false → IsAnswer place None z a → held_outside m place q.func z ≡ Some a
        by_effect (Read t k) is apart ok = ap (option_map Answer.Value) (given_here t k is) ∙ read_back place t k a ok
        by_effect (Call f v) is apart ok = held_call true f v is
        by_effect (Async f v) is apart ok = held_call false f v is
        by_effect Effect.Begin is apart ok = cc
        by_effect (End b) is apart ok = cc
        by_effect Effect.Abort is apart ok = cc
        by_effect (Effect.Return o) is apart ok = absurd ok
        by_effect z is apart ok = operated z is _ refl ok

    -- ---- inside one
    module _ (x : TxId) (inside : tx_at d id q n ≡ Some x) where
      -- the note of an operation's lock
      lock_here : (z : Effect) (t : ℕ) (k : List ℕ) → e ≡ z → touched z ≡ Some (t, k) → commit_in z ≡ None → (w : Note) → lock_expected a ≡ Some w → note_of_lock m place (record { func = q.func; table = t; key = k }) ≡ Some w
      lock_here z t k is touch apart w owes = let i : Item = record { func = q.func; table = t; key = k } in
          (h.items i).notes place (ap (is_mark d histories n) made ∙ (λ j. is_some (no_mark j) || (is_decided d histories q.enclosing && early j)) ∙ never (is_decided d histories q.enclosing))
          ∙ ap (expected_note d i id (lock_ahead id) n) made ∙ ap (λ o. note_or o (ahead_note d i id (lock_ahead id) n q)) expected
        where
          -- it is not so late a step
          early : (n == last_step) ≡ false
          early = false_by (n == last_step) (λ e.
              let last = eqb-true n last_step e in
              let small = answered_small d id q n (well_formed.each id q made) (slice_get_within q.answers n a at) in
              absurd (omega (arith, last, small)))

          never : (b : Bool) → (b && false) ≡ false
          never b = grind arith

          no_mark : ended_at d q n ≡ None
          no_mark = ap (at_step (λ given b. commit_in (effect_after d q given)) (take n q.answers)) at ∙ ap commit_in is ∙ apart

          expected : answered_note d (record { func = q.func; table = t; key = k }) id n q ≡ Some w
          expected = let i : Item = record { func = q.func; table = t; key = k } in ap (at_step (λ given b. note_by i q.func (tx_after d id q given) (effect_after d q given) b) (take n q.answers)) at
              ∙ ap (λ o. note_by i q.func o e a) inside ∙ ap (λ y. if is_item i q.func (touched y) then lock_expected a else None) is ∙ ap (λ o. if is_item i q.func o then lock_expected a else None) touch
              ∙ ap (λ b. if is_eq b then lock_expected a else None) (tied_itself item_total i) ∙ owes

      -- what a write left on the shadow
      shadow_here : (z : Effect) (i : Item) (w : Note) → e ≡ z → note_of i q.func (write_op z) a ≡ Some w → note_at (shadow_of m x i).notes place ≡ Some w
      shadow_here z i w is note = h.shadows x i place ∙ ap (expected_shadow d x i id n) made ∙ ap (at_step (λ given b. shadow_by x i q.func (tx_after d id q given) (effect_after d q given) b) (take n q.answers)) at
          ∙ ap (λ o. shadow_by x i q.func o e a) inside ∙ ap (λ b. if b then note_of i q.func (write_op e) a else None) (tx_self x) ∙ ap (λ y. note_of i q.func (write_op y) a) is ∙ note

      -- a death
      died_here : (z : Effect) (t : ℕ) (k : List ℕ) (c : Cause) (rest : Option Answer) → e ≡ z → touched z ≡ Some (t, k) → commit_in z ≡ None → a ≡ Answer.Aborted c → IsDeath place x c
          → answer_by_note place (note_of_lock m place (record { func = q.func; table = t; key = k })) rest ≡ Some a
      died_here z t k c rest is touch apart died death =
          ap (λ o. answer_by_note place o rest) (lock_here z t k is touch apart (Died death.holder) (ap lock_expected died ∙ ap (λ (y : Cause). option_map Died y.holder) death.cause))
          ∙ ap (λ y. Some (Answer.Aborted y)) (sym death.cause) ∙ ap Some (sym died)

      -- or it got the lock
      got_here : (z : Effect) (t : ℕ) (k : List ℕ) (rest : Option Answer) → e ≡ z → touched z ≡ Some (t, k) → commit_in z ≡ None → lock_expected a ≡ Some Got → rest ≡ Some a
          → answer_by_note place (note_of_lock m place (record { func = q.func; table = t; key = k })) rest ≡ Some a
      got_here z t k rest is touch apart got same = ap (λ o. answer_by_note place o rest) (lock_here z t k is touch apart Got got) ∙ same

      -- an end's row is that of its begin
      end_here : (commit : Bool) → e ≡ End commit → given m (log_key x.func (place_of x.intent x.begin)) ≡ Some (Value.Bool commit)
      end_here commit is = by_begun (txs_after d q (take n q.answers)).begun refl (ap (λ o. or_own o (tx_by id q.func (length (take n q.answers)) e (txs_after d q (take n q.answers)).begun)) (sym own)
          ∙ inside)
        where
          -- who was called in a transaction has no End
          own : q.enclosing ≡ None
          own = ends_outside d q (take n q.answers) commit is

          in_tx : (y : Effect) (o : Option ℕ) → e ≡ y → (txs_after d q (take n q.answers)).begun ≡ o → tx_by id q.func (length (take n q.answers)) y o ≡ Some x
          in_tx y o same begun = sym (λ j. or_own (own j) (tx_by id q.func (length (take n q.answers)) (same j) (begun j))) ∙ inside

          by_begun : (o : Option ℕ) → (txs_after d q (take n q.answers)).begun ≡ o → or_own None (tx_by id q.func (length (take n q.answers)) e (txs_after d q (take n q.answers)).begun) ≡ Some x → given m (log_key x.func (place_of x.intent x.begin)) ≡ Some (Value.Bool commit)
          by_begun None begun g = let clash = in_tx (End commit) None is begun in cc
          by_begun (Some b) begun g =
              let same : record { intent = id; begin = b; func = q.func } ≡ x = same_some (in_tx (End commit) (Some b) is begun) in
              let cut = cut_at q.answers n a at in
              let row = decision_there d id q (take n q.answers) a cut.0 cut.1.0 b commit is begun in
              subst (λ (y : TxId). given m (log_key y.func (place_of y.intent y.begin)) ≡ Some (Value.Bool commit)) same
              (given_expected (map.get m (log_key q.func (place_of id b))) (Some (Value.Bool commit))
              (subst (LogMatches (map.get m (log_key q.func (place_of id b)))) (ap (expected_value d q.func b) made ∙ ap (λ c. if c then row_at d q b else None) (eq-eqb q.func q.func refl) ∙ row) (h.keys (log_key q.func (place_of id b)))))

      inside_here : (z : Effect) (y : Answer) → e ≡ z → a ≡ y → IsAnswer place (Some x) z y → held_inside m x place q.func z ≡ Some y
      inside_here (Read t k) (Answer.Value v) is got ok = subst (λ o. answer_by_note place (note_of_lock m place (record { func = q.func; table = t; key = k })) (option_map Answer.Value (given m (log_key q.func place))) ≡ Some o) got
          (got_here (Read t k) t k (option_map Answer.Value (given m (log_key q.func place))) is refl refl (ap lock_expected got) (ap (option_map Answer.Value) (given_here t k is ∙ ap (value_for (Read t k)) got) ∙ ap Some (sym got)))
      inside_here (Read t k) (Answer.Aborted c) is died ok = subst (λ o. answer_by_note place (note_of_lock m place (record { func = q.func; table = t; key = k })) (option_map Answer.Value (given m (log_key q.func place))) ≡ Some o) died
          (died_here (Read t k) t k c (option_map Answer.Value (given m (log_key q.func place))) is refl refl died ok)
      inside_here (Write t k v) Done is got ok = let i : Item = record { func = q.func; table = t; key = k } in subst (λ o. answer_by_note place (note_of_lock m place i) (answer_aside m x place i) ≡ Some o) got
          (got_here (Write t k v) t k (answer_aside m x place i) is refl refl (ap lock_expected got)
          (ap (option_and_then noted_answer) (shadow_here (Write t k v) i Wrote is (ap (note_of i q.func (write_op (Write t k v))) got ∙ ap (λ b. if is_eq b then Some Wrote else None) (tied_itself item_total i))) ∙ ap Some (sym got)))
      inside_here (Write t k v) (Answer.Aborted c) is died ok = let i : Item = record { func = q.func; table = t; key = k } in subst (λ o. answer_by_note place (note_of_lock m place i) (answer_aside m x place i) ≡ Some o) died
          (died_here (Write t k v) t k c (answer_aside m x place i) is refl refl died ok)
      inside_here (CondWrite t k r u v) (Answer.Value (Value.Bool b)) is got ok = let i : Item = record { func = q.func; table = t; key = k } in subst (λ o. answer_by_note place (note_of_lock m place i) (answer_aside m x place i) ≡ Some o) got
          (got_here (CondWrite t k r u v) t k (answer_aside m x place i) is refl refl (ap lock_expected got)
          (ap (option_and_then noted_answer) (shadow_here (CondWrite t k r u v) i (Cond b) is (ap (note_of i q.func (write_op (CondWrite t k r u v))) got ∙ ap (λ c. if is_eq c then Some (Cond b) else None) (tied_itself item_total i))) ∙ ap Some (sym got)))
      inside_here (CondWrite t k r u v) (Answer.Aborted c) is died ok = let i : Item = record { func = q.func; table = t; key = k } in subst (λ o. answer_by_note place (note_of_lock m place i) (answer_aside m x place i) ≡ Some o) died
          (died_here (CondWrite t k r u v) t k c (answer_aside m x place i) is refl refl died ok)
      inside_here (Call f v) y is got ok = held_call true f v is ∙ ap Some got
      inside_here Effect.Begin Done is got ok = refl
      inside_here (End commit) Done is got ok = ap (option_and_then (decides commit)) (end_here commit is) ∙ decided_so commit
      inside_here Effect.Abort (Answer.Aborted c) is got ok = ap (λ z. Some (Answer.Aborted z)) (sym ok)
      inside_here z y is got ok = absurd ok

    by_tx : (o : Option TxId) → tx_at d id q n ≡ o → held_answer m id q.func n o e ≡ Some a
    by_tx None outside = outside_here outside
    by_tx (Some x) inside = inside_here x inside e a refl refl (subst (λ o. IsAnswer place o e a) inside went)

    pub held_here : held_answer m id q.func n (tx_at d id q n) e ≡ Some a
    held_here = by_tx (tx_at d id q n) refl

-- ---- the rows stand for the plain state
module _ (d : Deployment) (m : Rows) (p : PlainState) (histories : Histories) (lock_ahead : IntentId → Bool) (h : Shows d m p histories lock_ahead) (legal : plain.WellFormed d p) where
  -- what an intent row says of its instance
  module _ (home : ℕ) (id : IntentId) (i : IntentRow) (b : Body) (is : map.get m (key_in home id) ≡ Some (Row.Intent i)) (has : i.body ≡ Some b) where
    abbrev root : Bool
    root = has_no_hops id.hops

    its_row : IsRowOf i (map.get histories id)
    its_row = row_of (has_ended d histories) root home i (map.get histories id) (subst (λ r. IntentMatches (has_ended d histories) root home r (map.get histories id)) is (h.rows.keys (key_in home id)))

    of : IsBodyOf b (map.get histories id)
    of = its_row.body b has

    tx : b.tx ≡ of.instance.enclosing
    tx = ap (λ (z : Body). z.tx) of.body

    made_so : has_place m b.tx ≡ true → IsMade p id i b
    made_so has_it =
        let q = placed d m p histories lock_ahead h.rows h.goes.extends h.well_formed legal id of.instance of.made (ap (has_place m) (sym tx) ∙ has_it) in
        record {
          instance = q.0;
          made = q.1;
          body = of.body ∙ (λ j. record { func = q.2.func j; args = q.2.args j; tx = q.2.enclosing j; parent = q.2.parent j });
          outcome = λ o e. sym q.3 ∙ its_row.outcome b o of.instance has e of.made;
        }

    unmade_so : has_place m b.tx ≡ false → map.get p.made id ≡ None
    unmade_so none = unplaced d m p histories lock_ahead h.rows h.goes.extends h.well_formed legal id of.instance of.made (ap (has_place m) (sym tx) ∙ none)

  held_plain : (id : IntentId) (q : Instance) → map.get p.made id ≡ Some q → (n : ℕ) (a : Answer) → slice_get q.answers n ≡ Some a → held_answer m id q.func n (tx_at d id q n) (effect_before d q n) ≡ Some a
  held_plain id q made n a at =
      let z = recorded_of d p histories h.goes.extends id q made in
      let more = front_get q.answers z.grown.later n a at in
      let front : take n z.instance.answers ≡ take n q.answers = ap (take n) (sym z.grown.more) ∙ more.1 in
      let here : effect_before d z.instance n ≡ effect_before d q n = (λ i. wants d (z.grown.func i) (z.grown.args i) (is_some (z.grown.enclosing i)) (front i)) in
      let within : tx_at d id z.instance n ≡ tx_at d id q n = ap (tx_after d id z.instance) front ∙ sym (tx_stays d id q z.instance (take n q.answers) z.grown) in
      (λ i. held_answer m id (sym z.grown.func i) n (sym within i) (sym here i))
      ∙ held_here d m histories lock_ahead h.rows h.well_formed id z.instance z.is n a (ap (λ xs. slice_get xs n) (sym z.grown.more) ∙ more.0)

  stands : Stands d m p
  stands = record {
    items = h.values;
    made = made_so;
    unmade = unmade_so;
    held = λ home id i b is has placed still q made. held_plain id q made;
    open_roots = λ t q made none. let z = recorded_of d p histories h.goes.extends (root_of t) q made in
        root_open m (root_key t) z.instance (map.get m (root_key t)) refl (subst (RootMatches true (map.get m (root_key t))) z.is (h.rows.keys (root_key t))) (z.outcome ∙ none);
    locks = holder_owns d m p histories lock_ahead h;
    owned = λ x t own. owned_so d m p histories lock_ahead h x legal t own;
    linked = h.rows.chains;
    shadows = λ t x. (h.rows.asides t x).linked;
  }

-- the run of the book is one
pub same_run : (d : Deployment) (c : Core) (m : Rows) (p : PlainState) (h : Invariant d c m) → run_of d c.book ≡ Some p → h.plain ≡ p
same_run d c m p h is = same_some (sym h.legal ∙ is)

pub invariant_stands : (d : Deployment) (c : Core) (m : Rows) (p : PlainState) → Invariant d c m → run_of d c.book ≡ Some p → Stands d m p
invariant_stands d c m p h is = subst (λ z. Stands d m z) (same_run d c m p h is) (stands d m h.plain h.histories h.lock_ahead (shown h) (legal_well_formed h))
