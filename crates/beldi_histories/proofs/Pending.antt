-- The acts at the front that answer an operation inside, or die, or decide.
use Rattle.beldi_histories.proofs.Names.{Answer, AnswersOne, Bool, CallMatches, Content, Deployment, Effect, Instance, IntentId, IntentMatches, Item, ItemMatches, Kind, Histories, List, LockedOut, LocksetMatches, LogMatches, None, Note, Option, Owner, Place, Row, RowMatches, ShadowMatches, Some, TxId, Txs, TxsMatch, Value, [], ahead_by, and_right, ap, arith, asks_lock, commit_in, effect_after, effect_of, ended_at, ended_by, ends_kept, eq-eqb, eqb-true, false, false_from_ne_true, fits, has_ended, has_no_hops, held_if, holds, id_cmp, if◌then◌else◌, is_aborted, is_decided, is_eq, is_item, is_mark, is_none, is_open, is_some, item_cmp, item_total, key_cmp, key_self, last_step, length, lock_note, lockset_ahead, log_key, not, note_at, note_by, note_or, note_pushed, op_of, expected_lockset, expected_note, expected_read, expected_shadow, expected_value, place_eq, place_of, place_same, refl, row_added, row_at, shadow_by, subst, sym, tied_itself, touched, true, tx_after, tx_end, tx_now, txs_after, txs_by, with_note, ℕ, ◌&&◌, ◌++◌, ◌==◌, ◌||◌, ◌∙◌, ◌∷◌, ◌≡◌}
use Rattle.beldi_histories.proofs.FrameAt.{recorded_set, no_place, read_one, shadow_one, lockset_one, holds_one, note_one, got_same, or_no, calls_same, item_alike, txs_alike, lockset_by, decided_alike, mark_alike, ahead_alike}
use Rattle.beldi_histories.proofs.{Answers.true_false, Instances.EndMore, Instances.intent_stays, Instances.intent_same, Frame.step_next, Frame.or_false, Cases.if_is, Cases.if_same, Cases.by_option}
use Rattle.beldi_histories.proofs.Names.map

-- ---- effects that end no transaction
quiet_ends : (e : Effect) (n : ℕ) (s : Txs) (b : ℕ) → commit_in e ≡ None → (txs_by n e s).ends b ≡ s.ends b
quiet_ends (Effect.End c) n s b h = cc
quiet_ends e n s b h = refl

op_quiet : (e : Effect) (o : ℕ × List ℕ) → touched e ≡ Some o → commit_in e ≡ None
op_quiet (Effect.End c) o h = cc
op_quiet e o h = refl

-- an operation inside moves no lock of an intent
op_holds : (x : Item) (f : ℕ) (e : Effect) (o : ℕ × List ℕ) (b : Bool) → touched e ≡ Some o → held_if x f (op_of e) b ≡ b
op_holds x f (Effect.Read t k) o b h = refl
op_holds x f (Effect.Write t k v) o b h = if_same (is_eq (item_cmp (record { func = f; table = t; key = k }) x)) b
op_holds x f (Effect.CondWrite t k r u v) o b h = if_same (is_eq (item_cmp (record { func = f; table = t; key = k }) x)) b
op_holds x f e o b h = cc

module _ (d : Deployment) (histories : Histories) (lock_ahead unlocked : IntentId → Bool) (id : IntentId) (q r : Instance) (a : Answer) (is : map.get histories id ≡ Some q) (h : AnswersOne d id q a r) (out : LockedOut lock_ahead unlocked id) where
  abbrev n : ℕ
  n = length q.answers

  abbrev p : Place
  p = place_of id n

  abbrev after : Histories
  after = map.insert histories id r

  -- ---- the rows of reads and decisions: one is added, or none
  -- at another key than that of the row that is added
  pub read_elsewhere : (k : ℕ) (v : Value) → row_added n (txs_after d q q.answers).begun (effect_of d q) a ≡ Some (k, v) → (f : ℕ) (b : Place) → is_eq (key_cmp (log_key f b) (log_key q.func (place_of id k))) ≡ false
      → expected_read d after f b ≡ expected_read d histories f b
  read_elsewhere k v some f b other = read_one d histories id q r a is h k v some f b ∙ if_is (place_eq (place_of id k) b) (λ same. if_is (q.func == f)
      (λ func. absurd (true_false (sym (ap (λ z. is_eq (key_cmp z (log_key q.func (place_of id k)))) (λ i. log_key (sym (eqb-true q.func f func) i) (sym (place_same (place_of id k) b same) i)) ∙ key_self (log_key q.func (place_of id k))) ∙ other)))
      (λ func. subst (λ (z : Place). None ≡ expected_read d histories f z) (place_same (place_of id k) b same) (sym (ap (expected_value d f k) is ∙ ap (λ z. if z then row_at d q k else None) func)))) (λ apart. refl)

  -- ---- the notes of shadows: one is added, or none
  pub shadow_kept : (t : TxId) (x : Item) (c : Content) → shadow_by t x q.func (tx_now d id q) (effect_of d q) a ≡ None → ShadowMatches d histories t x c → ShadowMatches d after t x c
  shadow_kept t x c none g b = g b ∙ sym (shadow_one d histories id q r a is h t x b ∙ if_is (place_eq p b)
      (λ e. subst (λ (z : Place). shadow_by t x q.func (tx_now d id q) (effect_of d q) a ≡ expected_shadow d t x z.intent z.step (map.get histories z.intent)) (place_same p b e)
      (none ∙ sym (ap (expected_shadow d t x id n) is ∙ step_next (λ ts c. shadow_by t x q.func (tx_after d id q ts) (effect_after d q ts) c) q.answers))) (λ e. refl))

  pub shadow_noted : (t : TxId) (x : Item) (c : Content) (w : Note) (v : Value) → shadow_by t x q.func (tx_now d id q) (effect_of d q) a ≡ Some w → note_at c.notes p ≡ None → ShadowMatches d histories t x c
      → ShadowMatches d after t x (record { value = v; owner = c.owner; notes = c.notes ++ (p, w) ∷ [] })
  shadow_noted t x c w v some none g b = note_pushed c.notes p b w none ∙ ap (λ z. if place_eq p b then z else note_at c.notes b) (sym some) ∙ ap (λ z. if place_eq p b then shadow_by t x q.func (tx_now d id q) (effect_of d q) a else z) (g b)
      ∙ sym (shadow_one d histories id q r a is h t x b)

  -- ---- what ended stays so
  pub tx_end_stays : (t : TxId) (z : ℕ × Bool) → tx_end d histories t ≡ Some z → tx_end d after t ≡ Some z
  tx_end_stays t z = recorded_set histories id r (λ j o. ended_by d t.begin (map.get histories j) ≡ Some z → ended_by d t.begin o ≡ Some z)
      (λ e. h.ends t.begin ∙ ends_kept (effect_of d q) n (txs_after d q q.answers) t.begin z (fits d q) (sym (ap (ended_by d t.begin) is) ∙ e)) (λ j other e. e) t.intent

  -- so the rows of intents match them
  pub ends_more : EndMore (has_ended d histories) (has_ended d after)
  ends_more t e = by_option (tx_end d histories t) (λ none. absurd (true_false (sym e ∙ ap is_some none))) (λ z g. ap is_some (tx_end_stays t z g))

  pub intents_same : (home : ℕ) (j : IntentId) (row : Option Row) → IntentMatches (has_ended d histories) (has_no_hops j.hops) home row (map.get histories j) → IntentMatches (has_ended d after) (has_no_hops j.hops) home row (map.get after j)
  intents_same home j row g = intent_stays (has_ended d histories) (has_ended d after) ends_more (has_no_hops j.hops) home row (map.get after j)
      (recorded_set histories id r (λ j o. IntentMatches (has_ended d histories) (has_no_hops j.hops) home row (map.get histories j) → IntentMatches (has_ended d histories) (has_no_hops j.hops) home row o)
      (λ g. intent_same (has_ended d histories) (has_no_hops id.hops) home row q r h.body (sym h.outcome) (subst (IntentMatches (has_ended d histories) (has_no_hops id.hops) home row) is g)) (λ j other g. g) j g)

  -- and all other rows match, where those of reads do and lockset rows
  pub row_by : (home : ℕ) (kind : Kind) (row : Option Row) → ((b : Place) → kind ≡ Kind.ReadLog b → expected_read d after home b ≡ expected_read d histories home b)
      → ((j : IntentId) (b t : ℕ) (k : List ℕ) → kind ≡ Kind.Lockset j b t k → RowMatches d histories home (Kind.Lockset j b t k) row → RowMatches d after home (Kind.Lockset j b t k) row) → RowMatches d histories home kind row → RowMatches d after home kind row
  row_by home (Kind.Intent j) row reads locksets g = intents_same home j row g
  row_by home (Kind.ReadLog b) row reads locksets g = subst (LogMatches row) (sym (reads b refl)) g
  row_by home (Kind.Invoke b) row reads locksets g = subst (CallMatches row) (sym (calls_same d histories id q r a is h home b)) g
  row_by home (Kind.Lockset j b t k) row reads locksets g = locksets j b t k refl g
  row_by home kind row reads locksets g = g

  module _ (quiet : commit_in (effect_of d q) ≡ None) where
    -- transactions are as before
    pub tx_end_same : (t : TxId) → tx_end d after t ≡ tx_end d histories t
    tx_end_same t = recorded_set histories id r (λ j o. ended_by d t.begin o ≡ ended_by d t.begin (map.get histories j)) (h.ends t.begin ∙ quiet_ends (effect_of d q) n (txs_after d q q.answers) t.begin quiet ∙ ap (ended_by d t.begin) (sym is)) (λ j other. refl) t.intent

    -- and so are the places of releases
    pub mark_same : (b : Place) → is_mark d after b.step (map.get after b.intent) ≡ is_mark d histories b.step (map.get histories b.intent)
    mark_same b = no_place histories id q r is (λ j m o. is_mark d histories m o) (λ j m o. is_mark d after m o) (λ j other m o. mark_alike d histories after tx_end_same m o)
        (λ m. ap (λ z. is_some z || (is_decided d after r.enclosing && (m == last_step))) (h.marks m ∙ by_step m) ∙ ap (λ z. is_some (ended_at d q m) || (z && (m == last_step))) (decided_alike d histories after tx_end_same r.enclosing ∙ ap (is_decided d histories) h.enclosing)) b
      where
        by_step : (m : ℕ) → (if m == n then commit_in (effect_of d q) else ended_at d q m) ≡ ended_at d q m
        by_step m = if_is (m == n) (λ e. quiet ∙ sym (subst (λ k. ended_at d q k ≡ None) (sym (eqb-true m n e)) (step_next (λ ts c. commit_in (effect_after d q ts)) q.answers))) (λ e. refl)

    -- and lockset rows, where it asked for no lock
    pub locksets_kept : (b : ℕ) (x : Item) (j : IntentId) (row : Option Row) → asks_lock b x q.func (tx_now d id q) (effect_of d q) ≡ false → lockset_ahead d histories b x id (Some q) ≡ false
        → LocksetMatches row (expected_lockset d b x j (map.get histories j)) (lockset_ahead d histories b x j (map.get histories j)) → LocksetMatches row (expected_lockset d b x j (map.get after j)) (lockset_ahead d after b x j (map.get after j))
    locksets_kept b x j row none not_ahead = lockset_by d histories after lock_ahead unlocked x b j row (λ e g. expected_same ∙ g) (λ e g. ap (λ u. u || lockset_ahead d after b x j (map.get after j)) expected_same
        ∙ recorded_set histories id r (λ i o. (expected_lockset d b x i (map.get histories i) || lockset_ahead d histories b x i (map.get histories i)) ≡ true → (expected_lockset d b x i (map.get histories i) || lockset_ahead d after b x i o) ≡ true)
        (λ k. ap (λ u. u || lockset_ahead d after b x id (Some r)) (sym (or_no (expected_lockset d b x id (map.get histories id))) ∙ ap (λ u. expected_lockset d b x id (map.get histories id) || u) (sym (ap (lockset_ahead d histories b x id) is ∙ not_ahead)) ∙ k))
        (λ i other k. ap (λ u. expected_lockset d b x i (map.get histories i) || u) (ahead_alike d histories after tx_end_same b x i (map.get histories i)) ∙ k) j g)
      where
        expected_same : expected_lockset d b x j (map.get after j) ≡ expected_lockset d b x j (map.get histories j)
        expected_same = lockset_one d histories id q r a is h b x j ∙ ap (λ u. expected_lockset d b x j (map.get histories j) || (is_eq (id_cmp j id) && u)) none ∙ or_false (expected_lockset d b x j (map.get histories j)) _ (and_right (is_eq (id_cmp j id)) false refl)

  -- ---- an operation inside
  module _ (s : TxId) (inside : tx_now d id q ≡ Some s) (o : ℕ × List ℕ) (touch : touched (effect_of d q) ≡ Some o) where
    abbrev item : Item
    item = record { func = q.func; table = o.0; key = o.1 }

    quiet_op : commit_in (effect_of d q) ≡ None
    quiet_op = op_quiet (effect_of d q) o touch

    held_same : (x : Item) (j : IntentId) → holds d x (map.get after j) ≡ holds d x (map.get histories j)
    held_same x = holds_one d histories id q r a is h x (λ j b. b ≡ holds d x (map.get histories j)) (op_holds x q.func (effect_of d q) o (holds d x (map.get histories id)) touch) (λ j other. refl)

    unmarked : (b : Place) → is_mark d after b.step (map.get after b.intent) ≡ false → is_mark d histories b.step (map.get histories b.intent) ≡ false
    unmarked b apart = sym (mark_same quiet_op b) ∙ apart

    -- what is got stays so
    txs_same : lock_ahead id ≡ not (is_aborted a) → (x : Item) (c : Option Owner) → TxsMatch d histories lock_ahead x c → TxsMatch d after unlocked x c
    txs_same same x = txs_alike d histories after lock_ahead unlocked x (λ t. got_same d histories id q r a is h lock_ahead unlocked out same t x) (λ t e. sym (tx_end_same quiet_op t) ∙ e)

    note_is : (x : Item) → note_by x q.func (tx_now d id q) (effect_of d q) a ≡ (if is_eq (item_cmp item x) then lock_note a else None)
    note_is x = ap (λ t. note_by x q.func t (effect_of d q) a) inside ∙ ap (λ z. if is_item x q.func z then lock_note a else None) touch

    -- what is expected there before, by whether the lock is ahead
    expected_was : (x : Item) → expected_note d x id (lock_ahead id) n (map.get histories id) ≡ (if lock_ahead id then (if is_eq (item_cmp item x) then Some Note.Got else None) else None)
    expected_was x = ap (expected_note d x id (lock_ahead id) n) is ∙ ap (λ z. note_or z (if n == n then ahead_by x q.func (tx_now d id q) (effect_of d q) (lock_ahead id) else None)) (step_next (λ ts c. note_by x q.func (tx_after d id q ts) (effect_after d q ts) c) q.answers)
        ∙ ap (λ b. note_or None (if b then ahead_by x q.func (tx_now d id q) (effect_of d q) (lock_ahead id) else None)) (eq-eqb n n refl)
        ∙ ap (λ t. ahead_by x q.func t (effect_of d q) (lock_ahead id)) inside ∙ elim (lock_ahead id) as (λ b. ahead_by x q.func (Some s) (effect_of d q) b ≡ (if b then (if is_eq (item_cmp item x) then Some Note.Got else None) else None)) [
          | true ↦ ap (λ z. if is_item x q.func z then Some Note.Got else None) touch
          | false ↦ refl
        ]

    -- ---- it is answered, its lock being ahead: no plain item expects more
    module _ (was : lock_ahead id ≡ true) (lives : is_aborted a ≡ false) where
      got_note : lock_note a ≡ Some Note.Got
      got_note = by_answer a lives
        where
          by_answer : (b : Answer) → is_aborted b ≡ false → lock_note b ≡ Some Note.Got
          by_answer (Answer.Aborted c) g = cc
          by_answer b g = refl

      pub notes_same : (x : Item) (b : Place) → expected_note d x b.intent (unlocked b.intent) b.step (map.get after b.intent) ≡ expected_note d x b.intent (lock_ahead b.intent) b.step (map.get histories b.intent)
      notes_same x b = note_one d histories id q r a is h lock_ahead unlocked out x b ∙ if_is (place_eq p b)
          (λ e. subst (λ (z : Place). note_by x q.func (tx_now d id q) (effect_of d q) a ≡ expected_note d x z.intent (lock_ahead z.intent) z.step (map.get histories z.intent)) (place_same p b e)
          (note_is x ∙ ap (λ z. if is_eq (item_cmp item x) then z else None) got_note ∙ sym (expected_was x ∙ ap (λ z. if z then (if is_eq (item_cmp item x) then Some Note.Got else None) else None) was))) (λ e. refl)

      pub items_answered : (x : Item) (c : Content) → ItemMatches d histories lock_ahead x c → ItemMatches d after unlocked x c
      items_answered x = item_alike d histories after lock_ahead unlocked x (held_same x) unmarked (notes_same x)

      pub txs_answered : (x : Item) (c : Option Owner) → TxsMatch d histories lock_ahead x c → TxsMatch d after unlocked x c
      txs_answered = txs_same (was ∙ ap not (sym lives))

    -- ---- it dies: the item expects the death, and no transaction has got more or less
    module _ (holder : IntentId) (dies : a ≡ Answer.Aborted (record { place = p; holder = Some holder })) (was : lock_ahead id ≡ false) where
      death_note : lock_note a ≡ Some (Note.Died holder)
      death_note = ap lock_note dies

      pub item_died : (c : Content) → note_at c.notes p ≡ None → ItemMatches d histories lock_ahead item c → ItemMatches d after unlocked item (with_note c p (Note.Died holder))
      item_died c none g = record {
        owner = λ j. g.owner j ∙ sym (held_same item j);
        notes = λ b apart. note_pushed c.notes p b (Note.Died holder) none
            ∙ ap (λ z. if place_eq p b then z else note_at c.notes b) (sym (note_is item ∙ ap (λ z. if is_eq z then lock_note a else None) (tied_itself item_total item) ∙ death_note))
            ∙ ap (λ z. if place_eq p b then note_by item q.func (tx_now d id q) (effect_of d q) a else z) (g.notes b (unmarked b apart))
            ∙ sym (note_one d histories id q r a is h lock_ahead unlocked out item b);
      }

      pub item_kept : (x : Item) (c : Content) → is_eq (item_cmp item x) ≡ false → ItemMatches d histories lock_ahead x c → ItemMatches d after unlocked x c
      item_kept x c other = item_alike d histories after lock_ahead unlocked x (held_same x) unmarked (λ b. note_one d histories id q r a is h lock_ahead unlocked out x b ∙ if_is (place_eq p b)
          (λ e. subst (λ (z : Place). note_by x q.func (tx_now d id q) (effect_of d q) a ≡ expected_note d x z.intent (lock_ahead z.intent) z.step (map.get histories z.intent)) (place_same p b e)
          (note_is x ∙ ap (λ z. if z then lock_note a else None) other ∙ sym (expected_was x ∙ ap (λ z. if z then (if is_eq (item_cmp item x) then Some Note.Got else None) else None) was))) (λ e. refl)) c

      pub txs_died : (x : Item) (c : Option Owner) → TxsMatch d histories lock_ahead x c → TxsMatch d after unlocked x c
      txs_died = txs_same (was ∙ ap (λ z. not (is_aborted z)) (sym dies))

    -- ---- lockset rows: its own is there, so it may be expected
    pub locksets_answered : (b : ℕ) (x : Item) (j : IntentId) (row : Option Row) → ((is_eq (id_cmp j id) && asks_lock b x q.func (tx_now d id q) (effect_of d q)) ≡ true → row ≡ Some Row.Lockset)
        → LocksetMatches row (expected_lockset d b x j (map.get histories j)) (lockset_ahead d histories b x j (map.get histories j)) → LocksetMatches row (expected_lockset d b x j (map.get after j)) (lockset_ahead d after b x j (map.get after j))
    locksets_answered b x j row there = lockset_by d histories after lock_ahead unlocked x b j row
        (λ at g. lockset_one d histories id q r a is h b x j ∙ ap (λ z. z || (is_eq (id_cmp j id) && asks_lock b x q.func (tx_now d id q) (effect_of d q))) g ∙ false_from_ne_true _ (λ e. let clash = sym at ∙ there e in cc))
        (λ at. recorded_set histories id r (λ i o. (expected_lockset d b x i (map.get histories i) || lockset_ahead d histories b x i (map.get histories i)) ≡ true → (expected_lockset d b x i o || lockset_ahead d after b x i o) ≡ true)
        (λ k. ap (λ z. z || lockset_ahead d after b x id (Some r)) (h.locksets b x
        ∙ from_ahead (expected_lockset d b x id (Some q)) (is_none q.outcome) (is_open d histories (tx_now d id q)) (asks_lock b x q.func (tx_now d id q) (effect_of d q)) (sym (ap (λ z. expected_lockset d b x id z || lockset_ahead d histories b x id z) is) ∙ k)))
        (λ i other k. ap (λ z. expected_lockset d b x i (map.get histories i) || z) (ahead_alike d histories after (tx_end_same quiet_op) b x i (map.get histories i)) ∙ k) j)
      where
        from_ahead : (u y o t : Bool) → (u || (y && (o && t))) ≡ true → (u || t) ≡ true
        from_ahead u y o t k = grind arith
