-- The turns of an operation inside a transaction, past its lock: it looks at its shadow and at the item, keeps what it read, and makes and
-- writes its shadow. What such a turn leaves of them is the law of its turns (`Turned`): no row is opened here.
use Rattle.beldi_row.specs.{Act.absent, Act.added, Act.here as row_here, Act.present, Log.blank}
use Rattle.beldi_histories.{specs.Contents.IsAside, specs.InsideLaws.KeepsValue, proofs.InsideActs.shadow_kept}
use Rattle.beldi_chain.proofs.Heads.{same_rows}
use Rattle.beldi_txn.specs.{TxTurn.AsideMoves, TxTurn.HasLock, TxTurn.ShadowMoves, TxTurn.head_asked, TxTurn.is_going, TxWalk.output_of, declared.tx.TxGoes.TxGoes}
use Rattle.beldi_txn.proofs.TxTurn.{Leads as Turned, turns}
use Rattle.beldi_daal.specs.{declared.cell.WriteAt.TheVariants.Try}
use Rattle.beldi_txn.specs.Tx.{item_goes, note_goes, tx_goes}
use Rattle.beldi_invariant.proofs.Names.{may_remove, rows_there, write_spares, AllGrow, Answer, Begun, Bool, ByTx, Cause, CellOp, ChangedAlone, Content, Core, Deployment, Effect, Fits, Found, Frame, IsConsistent, InItem, InOperation, Inside, IntentId, IsAnswer, IsPending, IsLinked, IsOpen, Item, Kind, Histories, Knows, List, LockedOut, Look, MakeCell, Matches, None, Note, Option, Owner, Place, PutRead, Query, ReadGoes, ReadsAt, Rel, Invariant, Row, RowKey, Rows, RowsStay, Run, RunTx, WellFormedHistories, StageOutput, SeesAt, SeesBoth, Some, Stage, QueryReply, TxAt, TxId, Value, Wait, WriteAt, WriteGoes, [], act, ahead_set, ap, arith, aside_key, asked, at_row, begin_of, begun_lists, behind_locks, behind_looks, behind_tests, behind_writes, cell_at, chain, content, content_of, death_in, decision_key, did, done_to, effect_of, false, first_rows_go, got_begun, grows_self, if◌then◌else◌, head_key, head_made, held_or, id_cmp, id_total, inl, inr, is_begin, is_eq, is_some, item_asks, item_leads, keep_goes, length, listed, listed_open, listed_under, lock_answer, lock_or, lockset_key, log_key, looked, advanced, no_log, no_shadow_note, note_after, note_at, note_here, noted, noted_or, other_owner, passes, place_of, read_goes, read_inside, reads_go, refl, root_key, rows_after, replied, well_formed_read, well_formed_tested, well_formed_wrote, seek_goes, set_others, set_row, shadow_chain, shadow_key, shadow_lists, shadow_made, shadow_of, shadow_read, shadow_row, shadow_value, subst, sym, test_inside, test_on, tested, tests_go, tied_itself, query_reply, touched, true, turn_next, turned_by, tx_after, tx_here_asks, tx_here_output, tx_now, tx_of, tx_output, unchanged, undecided, value_at, value_in, write_asks, write_goes, write_inside, write_leads, write_on, writes_go, writes_on, ℕ, ◌++◌, ◌∙◌, ◌∷◌, ◌≡◌, ◌⊎◌}
use Rattle.beldi_invariant.proofs.Frames.{NoFinish, NobodyJoins, aside_stays, frame_log, frame_shadow, items_stay, no_finish, nobody_new, nobody_set, none_finish}
use Rattle.beldi_invariant.proofs.InTx.{frees_none, open_still, item_self, goes_at, replays, set_roots, same_item, effect_so, wants_here, short, recorded_answers, answers_so, at_front, now, tx_is, front, apart, opened as opened_here, owned as owned_here, was_locked}
use Rattle.beldi_invariant.proofs.{Settling.settled_operated, Grown.grown_moved, Grown.grows_moved, Grown.moved_more, Keeping.as_it_was, Moves.AfterQuery, Moves.AfterTurn, Moves.SameRoots, Moves.Kept, Moves.Stays, Others.kept_moving, Shown.settled, StageTurns.at_steps, StageTurns.by_answer, StageTurns.well_formed_instance, StageTurns.all_here, StageTurns.step_here, StageTurns.answers_on, StageTurns.stays_on, StageTurns.worn}
use Rattle.beldi_invariant.proofs.Names.map
use Rattle.beldi_invariant.proofs.Names.maps
use Rattle.beldi_invariant.proofs.Names.txn

-- ---- small facts
-- the answer to an operation inside that did not die
read_is : (p : Place) (s : TxId) (t : ℕ) (key : List ℕ) (a : Answer) → IsAnswer p (Some s) (Effect.Read t key) a → death_in a ≡ None → (w : Value) × (a ≡ Answer.Value w)
read_is p s t key a fits lives = grind arith

write_is : (p : Place) (s : TxId) (t : ℕ) (key : List ℕ) (v : Value) (a : Answer) → IsAnswer p (Some s) (Effect.Write t key v) a → death_in a ≡ None → a ≡ Answer.Done
write_is p s t key v a fits lives = grind arith

test_is : (p : Place) (s : TxId) (t : ℕ) (key : List ℕ) (u : Rel) (w v : Value) (a : Answer) → IsAnswer p (Some s) (Effect.CondWrite t key u w v) a → death_in a ≡ None → (b : Bool) × (a ≡ Answer.Value (Value.Bool b))
test_is p s t key u w v a fits lives = grind arith

-- a lock that was ahead of its answer is so no more
abbrev pub lock_out : (IntentId → Bool) → IntentId → IntentId → Bool
lock_out lock_ahead id j = if is_eq (id_cmp j id) then false else lock_ahead j

pub locked_out : (lock_ahead : IntentId → Bool) (id : IntentId) → LockedOut lock_ahead (lock_out lock_ahead id) id
locked_out lock_ahead id = record { out = ap (λ b. if is_eq b then false else lock_ahead id) (tied_itself id_total id); others = λ j other. ap (λ b. if b then false else lock_ahead j) other }

-- a note that is told is there
note_told : (c : Content) (n : Option Note) (w : Note) → noted_or c n (c, did) ≡ (c, noted w) → n ≡ Some w
note_told c n w h = grind arith

-- a write that its walk says was done is what its act tells, and so is a test: nobody owns a shadow
wrote_so : (p : Place) (w : Owner) (v : Value) (c x : Content) → note_at c.notes p ≡ None → c.owner ≡ None → x ≡ done_to p w (CellOp.Write v) c → write_on p w v c ≡ (x, did)
wrote_so p w v c x none free is = (λ i. noted_or c (none i) (held_or c (other_owner w (free i)) (sym is i, did)))

tested_so : (p : Place) (w : Owner) (u : Rel) (y v : Value) (c x : Content) → note_at c.notes p ≡ None → c.owner ≡ None → x ≡ done_to p w (CellOp.Cond u y v) c → test_on p w u y v c ≡ (x, tested (passes c.value u y))
tested_so p w u y v c x none free is = (λ i. noted_or c (none i) (held_or c (other_owner w (free i)) (sym is i, tested (passes c.value u y))))

-- the value of a shadow that has one
value_found : (r : Option Row) (v u : Value) → shadow_value r ≡ Some u → value_in r v ≡ u
value_found None v u is = cc
value_found (Some (Row.Cell z)) v u is = maps.same_some is
value_found (Some r) v u is = cc

same_bool : {a b : Bool} → Value.Bool a ≡ Value.Bool b → a ≡ b
same_bool same = cc

-- the stages past the lock
abbrev pub is_past : TxAt → Bool
is_past TxAt.Log = false
is_past (TxAt.Lock w) = false
is_past b = true

-- past its lock: the row that asks for it is there, and the place has the lock
pub record HasLocked (m : Rows) (r : Run) (o : RunTx) (step : ℕ) (x : ℕ × List ℕ) : Type 0 where
  pub asked : is_some (map.get m (lockset_key r.id (begin_of o) (record { func = r.func; table = x.0; key = x.1 }))) ≡ true
  pub got : note_at (content_of m (record { func = r.func; table = x.0; key = x.1 })).notes (place_of r.id step) ≡ Some Note.Got

-- an operation was done to a shadow, at its place, and to nothing else
record Wrote (m n : Rows) (s : TxId) (y : Item) (p : Place) (op : CellOp) : Type 0 where
  pub alone : ChangedAlone (shadow_key s y) m n
  pub linked : IsLinked (shadow_chain n s y)
  pub none : note_at (shadow_of m s y).notes p ≡ None
  pub so : shadow_of n s y ≡ done_to p (ByTx s) op (shadow_of m s y)

module _ (d : Deployment) (c : Core) (m : Rows) (i : ℕ) (r : Run) (g : Begun) (h : Invariant d c m) (live : map.get c.runs i ≡ Some r) (k : Knows d h.histories r g) (finds : Inside m h.plain c.book k g.stage)
    (o : RunTx) (tx : g.tx ≡ Some o) (here : tx_after d r.id k.instance k.answers ≡ Some (tx_of r.id r.func o)) where
  -- what it says leaves what it has to: not unfolded, as a run after an answer is large
  Leaves : StageOutput → Rows → Type 0
  Leaves s n = AfterTurn d h.plain c i r (turned_by d r g s) n

  abbrev own : TxId
  own = tx_of r.id r.func o

  abbrev place : Place
  place = place_of r.id g.machine.steps

  -- ---- an operation on an item
  module _ (e : Effect) (is : g.machine.effect ≡ e) (x : ℕ × List ℕ) (touch : touched e ≡ Some x) (l : HasLocked m r o g.machine.steps x) where
    abbrev item : Item
    item = record { func = r.func; table = x.0; key = x.1 }

    abbrev its_item : Item
    its_item = record { func = k.instance.func; table = x.0; key = x.1 }

    same : its_item ≡ item
    same = same_item d c m r g h k o here e is x touch

    -- ---- it goes on to another stage, with the rows as they are
    moves_on : (b : TxAt) → Fits e b → InOperation d m h.plain h.histories r.id r.func o g.machine.steps e b x → Leaves (StageOutput.On (Stage.Tx b) None) m
    unfolding Leaves
    moves_on b fits f = goes_at d c m i r g h live k finds o tx here e is x touch b m h.lock_ahead (λ u. refl) (as_it_was h) fits f

    stays_here : Leaves StageOutput.Stays m
    unfolding Leaves
    stays_here = stays_on d c m i r g h live k finds m (λ u. refl) (as_it_was h)

    recorded_again : (a : Answer) (rest : List Answer) → k.later ≡ a ∷ rest → Leaves (StageOutput.Answers a None) m
    unfolding Leaves
    recorded_again a rest left = replays d c m i r g h live k finds o tx here e is x touch m a rest left (λ u. refl) (as_it_was h)

    -- ---- what the law of its turns says
    abbrev Led : TxAt → Query → Rows → TxGoes → Type 0
    Led a q n z = Turned r.func place own e x.0 x.1 a q m n z

    led : (a : TxAt) → Fits e a → HasLock a place (content_of m item) → SeesBoth m place own item a → let q = item_asks r.func place own e x.0 x.1 a in Led a q (rows_after q c.now m) (tx_goes place own.begin e a (query_reply q c.now m))
    led a fits got sees = turns r.func place own x.0 x.1 e a c.now m (record { item = h.rows.chains item; shadow = (h.rows.asides own item).linked; unowned = (h.rows.asides own item).unowned; fits = fits; locked = got; sees = sees })

    -- a Look leaves all rows
    looks : (a : TxAt) (z : RowKey) (s : TxGoes) → Led a (Query.Act z Look) (rows_after (Query.Act z Look) c.now m) s → (Led a (Query.Act z Look) m s → Leaves (tx_output a s) m) → Leaves (tx_output a s) (rows_after (Query.Act z Look) c.now m)
    looks a z s l by = subst (Leaves (tx_output a s)) (sym (looked c.now z m)) (by (subst (λ n. Led a (Query.Act z Look) n s) (looked c.now z m) l))

    abbrev ItemLed : ℕ → TxGoes → Type 0
    ItemLed row s = Led (TxAt.Item row) (Query.Act (at_row (head_key item) row) Look) m s

    by_item : (row : ℕ) (z : ReadGoes) → ((n : ℕ) → ItemLed row (TxGoes.On (TxAt.Item n)) → Leaves (StageOutput.On (Stage.Tx (TxAt.Item n)) None) m) → ((u : Value) → ItemLed row (item_leads e u) → Leaves (tx_output (TxAt.Item row) (item_leads e u)) m)
        → ItemLed row (item_goes e z) → Leaves (tx_output (TxAt.Item row) (item_goes e z)) m
    by_item row (ReadGoes.On n) on leads l = on n l
    by_item row ReadGoes.Stays on leads l = stays_here
    by_item row (ReadGoes.Got None) on leads l = leads Value.Null l
    by_item row (ReadGoes.Got (Some u)) on leads l = leads u l
    by_item row (ReadGoes.Held w) on leads l = stays_here

    -- rows of its shadow that it leaves before its answer: of a write, or with the plain value
    abbrev Changes : Rows → Type 0
    Changes n = (writes_on item r.func e ≡ true) ⊎ KeepsValue m n own item (value_at h.plain item)

    -- ---- behind: the answer that is recorded
    module _ (a : Answer) (rest : List Answer) (left : k.later ≡ a ∷ rest) where
      all_recorded : k.answers ++ a ∷ rest ≡ k.instance.answers
      all_recorded = recorded_answers d c m r g h k o here e is x touch a rest left

      as_behind : (P : Item → Place → Type 0) → P item place → P its_item (place_of r.id (length k.answers))
      as_behind P z = subst (λ n. P its_item (place_of r.id n)) (at_steps k) (subst (λ y. P y place) (sym same) z)

      as_run : (P : Item → Place → Type 0) → P its_item (place_of r.id (length k.answers)) → P item place
      as_run P z = subst (λ y. P y place) same (subst (λ n. P its_item (place_of r.id n)) (sym (at_steps k)) z)

      -- it did not die
      not_dead : death_in a ≡ None
      not_dead =
          let p : Place = place_of r.id (length k.answers) in
          let b = behind_locks d m h.histories h.lock_ahead h.rows r.id k.instance k.made (well_formed_instance h k) k.answers a rest all_recorded (short d c m r g h k o here e is x touch) own here x (ap touched (effect_so d c m r g h k o here e is x touch) ∙ touch) in
          sym b.1 ∙ ap (lock_answer p) (ap (λ z. z.1) (sym b.0 ∙ ap (λ n. noted_or (content_of m its_item) n (lock_or p own (content_of m its_item) (other_owner (ByTx own) (content_of m its_item).owner))) (as_behind (λ y q. note_at (content_of m y).notes q ≡ Some Note.Got) l.got)))

      answer_fits : IsAnswer place (Some own) e a
      answer_fits = answers_so d c m r g h k o here e is x touch a rest left

    -- ---- at the front: it is the instance's next
    abbrev after : IntentId → Bool
    after = lock_out h.lock_ahead r.id

    abbrev next : Answer → Histories
    next a = map.insert h.histories r.id (advanced d r.id k.instance a)

    abbrev its_place : Place
    its_place = place_of r.id (length k.instance.answers)

    out : LockedOut h.lock_ahead after r.id
    out = locked_out h.lock_ahead r.id

    module _ (left : k.later ≡ []) where
      as_its : (P : Item → Place → Type 0) → P item place → P its_item its_place
      as_its P z = subst (λ n. P its_item (place_of r.id n)) (step_here k left) (subst (λ y. P y place) (sym same) z)

      as_ran : (P : Item → Place → Type 0) → P its_item its_place → P item place
      as_ran P z = subst (λ y. P y place) same (subst (λ n. P its_item (place_of r.id n)) (sym (step_here k left)) z)

      now_is : effect_of d k.instance ≡ e
      now_is = now d c m r g h k o here e is x touch left

      inside : tx_now d r.id k.instance ≡ Some own
      inside = tx_is d c m r g h k o here e is x touch left

      stands : IsPending d h.histories r.id k.instance own x.0 x.1
      stands = front d c m r g h k o here e is x touch left

      opened : IsOpen d m h.plain h.histories h.lock_ahead own
      opened = opened_here d c m r g h k o here e is x touch left

      was : h.lock_ahead r.id ≡ true
      was = was_locked d c m r g h k o here e is x touch left (as_its (λ y q. note_at (content_of m y).notes q ≡ Some Note.Got) l.got)

      lockset : map.get m (lockset_key r.id own.begin its_item) ≡ Some Row.Lockset
      lockset = grind arith

      -- its transaction owns the item, so the item's own value is the plain one
      owned : (content_of m its_item).owner ≡ Some (ByTx own)
      owned = owned_here d c m r g h k o here e is x touch left was

      going : k.instance.outcome ≡ None
      going = open_still d c m r g h k o here e is x touch left

      off_begin : is_begin (effect_of d k.instance) ≡ false
      off_begin = apart d c m r g h k o here e is x touch left

      plain_there : (content_of m item).value ≡ value_at h.plain item
      plain_there = as_ran (λ y q. (content_of m y).value ≡ value_at h.plain y)
          (sym (listed_open d h.histories h.well_formed m h.lock_ahead h.rows r.id k.instance own k.made going off_begin inside its_item (content_of m its_item).value) ∙ ap (λ w. listed_under m its_item w (content_of m its_item).value) (sym owned) ∙ h.values its_item)

      -- ---- what an answer keeps
      answers_now : (a : Answer) (n : Rows) → SameRoots m n → Kept h n h.plain (next a) after → Leaves (StageOutput.Answers a None) n
      unfolding Leaves
      answers_now a n roots kept =
          let more = moved_more d r.id k.instance a in
          answers_on d c m i r g h live k finds a more.more n (next a) after (advanced d r.id k.instance a) roots kept (maps.here h.histories r.id (advanced d r.id k.instance a)) (grown_moved d r.id k.instance a)
          (ap (λ ts. (ts ++ a ∷ []) ++ more.more) (all_here k left) ∙ more.same) (wants_here d c m r g h k o here e is x touch) (frees_none d c m i r g h live k finds o tx here e is x touch n)

      answer_keeps : (a : Answer) (n : Rows) → ((z : Cause) → a ≡ Answer.Aborted z → ⊥) → IsConsistent d n h.plain (next a) after → WellFormedHistories d (next a) → Matches d n (next a) after → ((y : Item) → listed n y ≡ listed m y) → Frame d m n h.plain h.plain h.histories (next a) → NoFinish d m n (next a) → Kept h n h.plain (next a) after
      answer_keeps a n lives goes well_formed matches lists frame unfinished = kept_moving h n h.plain (next a) after goes (ahead_set d h.histories h.lock_ahead h.ahead_at_ends after r.id (advanced d r.id k.instance a) out) well_formed matches (λ y. lists y ∙ h.values y)
          (settled_operated d m h.plain h.histories r.id k.instance k.made a x stands.touch (λ z j dead. absurd (lives z dead)) (settled h)) (grows_moved d h.histories r.id k.instance a k.made) frame unfinished

      undecided_here : map.get m (decision_key own) ≡ None
      undecided_here = undecided d h.histories h.well_formed m h.lock_ahead h.rows r.id k.instance own k.made going off_begin inside

      -- nobody joins
      joins_none : (a : Answer) → NobodyJoins d h.histories (next a)
      joins_none a = nobody_set d h.histories r.id (advanced d r.id k.instance a) (ap is_some k.made)

      -- ---- rows of which those of its shadow changed, for a write
      module _ (n : Rows) (alone : ChangedAlone (shadow_key own its_item) m n) (rows_grow : AllGrow m n) (stay : RowsStay m n) (writes : is_some (txn.op_of e) ≡ true) where
        roots : SameRoots m n
        roots t = ap is_some (aside_key m n own its_item alone (root_key t) refl)

        lists : (y : Item) → listed n y ≡ listed m y
        lists = shadow_lists m own undecided_here its_item n alone

        frame : (next : Histories) → NobodyJoins d h.histories next → Frame d m n h.plain h.plain h.histories next
        frame next joins = frame_shadow d m h.plain h.plain h.histories next (items_stay d m h.plain h.plain next refl) joins n own its_item alone rows_grow stay
            (record { writer = r.id; instance = k.instance; made = k.made; now = inside; writes = ap (λ z. is_some (txn.op_of z)) now_is ∙ writes })

        unfinished : (next : Histories) → NoFinish d m n next
        unfinished next = none_finish m n (shadow_key own its_item) alone d next refl

        -- it is answered
        written : (a : Answer) → ((z : Cause) → a ≡ Answer.Aborted z → ⊥) → IsConsistent d n h.plain (next a) after → WellFormedHistories d (next a) → Matches d n (next a) after → Leaves (StageOutput.Answers a None) n
        written a lives goes well_formed matches = answers_now a n roots (answer_keeps a n lives goes well_formed matches lists (frame (next a) (joins_none a)) (unfinished (next a)))

        -- it is not answered yet
        unanswered : Changes n → Matches d n h.histories h.lock_ahead → Stays h n
        unanswered by matches =
            let goes = subst (λ z. (writes_on its_item k.instance.func z ≡ true) ⊎ KeepsValue m n own its_item (value_at h.plain its_item)) (sym now_is) (as_its (λ y q. (writes_on y y.func e ≡ true) ⊎ KeepsValue m n own y (value_at h.plain y)) by) in
            kept_moving h n h.plain h.histories h.lock_ahead (record { extends = h.extends; shadows = first_rows_go d m h.plain h.histories h.lock_ahead r.id k.instance own x.0 x.1 n opened stands was alone goes }) h.ahead_at_ends h.well_formed matches
            (λ y. lists y ∙ h.values y) (settled h) (grows_self h.histories) (frame h.histories (nobody_new d h.histories)) (unfinished h.histories)

  -- ---- a turn
  abbrev Turn : Effect → TxAt → Type 0
  Turn e a = AfterQuery d h.plain c.now m (λ u. turn_next c i r (turned_by d r g (tx_here_output r.id g.machine.steps e a (Some o) u))) (tx_here_asks r.id r.func g.machine.steps e a (Some o))

  -- ---- a read
  module _ (t : ℕ) (key : List ℕ) (is : g.machine.effect ≡ Effect.Read t key) (l : HasLocked m r o g.machine.steps (t, key)) where
    abbrev read : Effect
    read = Effect.Read t key

    abbrev read_item : Item
    read_item = record { func = r.func; table = t; key = key }

    abbrev log : RowKey
    log = log_key r.func place

    -- it looks at a row of its shadow
    shadow_turn : (row : ℕ) → ReadsAt (shadow_chain m own read_item) row → Turn read (TxAt.Shadow row)
    unfolding Leaves
    shadow_turn row sees =
        let k = at_row (shadow_key own read_item) row in
        let z : ReadGoes = read_goes None (query_reply (Query.Act k Look) c.now m) in
        looks read is (t, key) refl l (TxAt.Shadow row) k (shadow_read z) (led read is (t, key) refl l (TxAt.Shadow row) tt l.got sees) (by z)
      where
        by : (z : ReadGoes) → Led read is (t, key) refl l (TxAt.Shadow row) (Query.Act (at_row (shadow_key own read_item) row) Look) m (shadow_read z) → Leaves (tx_output (TxAt.Shadow row) (shadow_read z)) m
        by (ReadGoes.On n) s = moves_on read is (t, key) refl l (TxAt.Shadow n) tt (record { begin = tt; asked = λ u. l.asked; locked = l.got; sees = s.stands.sees; found = λ q made same. tt })
        by ReadGoes.Stays s = stays_here read is (t, key) refl l
        by (ReadGoes.Got None) s = moves_on read is (t, key) refl l (TxAt.Item 0) tt (record { begin = tt; asked = λ u. l.asked; locked = l.got; sees = s.stands.sees; found = λ q made same. s.finds })
        by (ReadGoes.Got (Some v)) s = moves_on read is (t, key) refl l (TxAt.Keep v) tt (record { begin = tt; asked = λ u. l.asked; locked = l.got; sees = tt; found = λ q made same. value_found (shadow_row m own read_item) (value_at h.plain read_item) v s.finds })
        by (ReadGoes.Held w) s = stays_here read is (t, key) refl l

    -- it looks at a row of the item, where it has no shadow
    item_turn : (row : ℕ) → ReadsAt (chain m (head_key read_item)) row → (k.later ≡ [] → shadow_row m own read_item ≡ None) → Turn read (TxAt.Item row)
    unfolding Leaves
    item_turn row sees none =
        let p = at_row (head_key read_item) row in
        let z : ReadGoes = read_goes None (query_reply (Query.Act p Look) c.now m) in
        looks read is (t, key) refl l (TxAt.Item row) p (item_goes read z) (led read is (t, key) refl l (TxAt.Item row) tt l.got sees) (by_item read is (t, key) refl l row z
        (λ n s. moves_on read is (t, key) refl l (TxAt.Item n) tt (record { begin = tt; asked = λ w. l.asked; locked = l.got; sees = s.stands.sees; found = λ q made step. none (at_front d c m r g h k o here read is (t, key) refl q made step) }))
        (λ u s. moves_on read is (t, key) refl l (TxAt.Keep u) tt (record {
          begin = tt;
          asked = λ w. l.asked;
          locked = l.got;
          sees = tt;
          found = λ q made step. let left = (at_front d c m r g h k o here read is (t, key) refl) q made step in ap (λ w. value_in w (value_at h.plain read_item)) (none left) ∙ sym (plain_there read is (t, key) refl l left) ∙ sym s.finds;
        })))

    -- it keeps what it found
    module _ (v : Value) (saw : k.later ≡ [] → value_in (shadow_row m own read_item) (value_at h.plain read_item) ≡ v) where
      abbrev Keeps : Option Row → Type 0
      Keeps w = Leaves (tx_output (TxAt.Keep v) (keep_goes (replied (act (PutRead v) c.now w).1))) (set_row m log (act (PutRead v) c.now w).0)

      module _ (left : k.later ≡ []) where
        abbrev found_now : Answer
        found_now = Answer.Value v

        abbrev with_log : Rows
        with_log = set_row m (log_key k.instance.func (place_of r.id (length k.instance.answers))) (Some (Row.ReadLog v))

        front_read : effect_of d k.instance ≡ read
        front_read = now_is read is (t, key) refl l left

        read_keeps : Kept h with_log h.plain (next read is (t, key) refl l found_now) (after read is (t, key) refl l)
        read_keeps =
            let out = out read is (t, key) refl l in
            answer_keeps read is (t, key) refl l left found_now with_log (λ z e. cc)
            (reads_go d m h.plain h.histories h.lock_ahead (after read is (t, key) refl l) r.id k.instance own t key v (opened read is (t, key) refl l left) (stands read is (t, key) refl l left) out front_read
            (as_its read is (t, key) refl l left (λ y p. value_in (shadow_row m own y) (value_at h.plain y) ≡ v) (saw left)))
            (well_formed_read d h.histories h.well_formed r.id k.instance k.made t key v front_read)
            (read_inside d h.histories h.lock_ahead (after read is (t, key) refl l) r.id k.instance k.made out own (inside read is (t, key) refl l left) m h.rows t key v front_read (lockset read is (t, key) refl l left) (was read is (t, key) refl l left))
            (begun_lists d m h.histories h.lock_ahead h.rows.txs (got_begun d h.histories h.well_formed h.lock_ahead) r.id k.instance k.made (Some (Row.ReadLog v)))
            (frame_log d m h.plain h.plain h.histories (next read is (t, key) refl l found_now) (items_stay d m h.plain h.plain (next read is (t, key) refl l found_now) refl) (joins_none read is (t, key) refl l left found_now) k.instance.func (place_of r.id (length k.instance.answers)) (Some (Row.ReadLog v)) refl)
            (no_finish m with_log (log_key k.instance.func (place_of r.id (length k.instance.answers))) (set_others m (log_key k.instance.func (place_of r.id (length k.instance.answers))) (Some (Row.ReadLog v))) d (next read is (t, key) refl l found_now) refl)

      keep_by : (later : List Answer) → k.later ≡ later → Keeps (map.get m log)
      keep_by [] left = subst Keeps (sym (as_ran read is (t, key) refl l left (λ y p. map.get m (log_key y.func p) ≡ None) (no_log d m h.histories h.lock_ahead h.rows r.id k.instance k.made)))
          (as_ran read is (t, key) refl l left (λ y p. Leaves (StageOutput.Answers (Answer.Value v) None) (set_row m (log_key y.func p) (Some (Row.ReadLog v))))
          (answers_now read is (t, key) refl l left (Answer.Value v) (with_log left) (set_roots m k.instance.func (Kind.ReadLog (place_of r.id (length k.instance.answers))) (Some (Row.ReadLog v)) refl) (read_keeps left)))
      keep_by (b ∷ rest) left =
          let z = read_is place own t key b (answer_fits read is (t, key) refl l b rest left) (not_dead read is (t, key) refl l b rest left) in
          let there : map.get m log ≡ Some (Row.ReadLog z.0) = as_run read is (t, key) refl l b rest left (λ y p. map.get m (log_key y.func p) ≡ Some (Row.ReadLog z.0))
          (behind_looks d m h.histories h.lock_ahead h.rows r.id k.instance k.made (well_formed_instance h k) k.answers b rest (all_recorded read is (t, key) refl l b rest left) (short d c m r g h k o here read is (t, key) refl) t key z.0
          (effect_so d c m r g h k o here read is (t, key) refl) z.1) in
          subst Keeps (sym there) (subst (Leaves (StageOutput.Answers (Answer.Value z.0) None)) (sym (unchanged m log (Some (Row.ReadLog z.0)) (sym there))) (subst (λ y. Leaves (StageOutput.Answers y None) m) z.1 (recorded_again read is (t, key) refl l b rest left)))

      keep_turn : Turn read (TxAt.Keep v)
      unfolding Leaves
      keep_turn = keep_by k.later refl

  -- ---- a write of the shadow, plain or tested: by its operation, and the answer where it is done
  -- what its shadow has of the recorded answer, and how that is told
  abbrev HasNote : Effect → ℕ × List ℕ → Answer → Type 0
  HasNote e x b = (w : Note) × (note_at (shadow_of m own (record { func = r.func; table = x.0; key = x.1 })).notes place ≡ Some w) × ((a : WriteAt) → tx_output (TxAt.Write a) (note_goes e w) ≡ StageOutput.Answers b None)

  -- what it does to the shadow, as its instance has that
  abbrev DoneAt : Effect → ℕ × List ℕ → CellOp → WriteAt → Rows → Type 0
  DoneAt e x op w n = let y : Item = record { func = k.instance.func; table = x.0; key = x.1 } in AllGrow m n → RowsStay m n → Wrote m n own y (place_of r.id (length k.instance.answers)) op → Leaves (tx_output (TxAt.Write w) (note_goes e (note_after op (shadow_of m own y).value))) n

  module _ (e : Effect) (is : g.machine.effect ≡ e) (x : ℕ × List ℕ) (touch : touched e ≡ Some x) (l : HasLocked m r o g.machine.steps x) (op : CellOp) (writes : txn.op_of e ≡ Some op) (has_note : (b : Answer) (rest : List Answer) → k.later ≡ b ∷ rest → HasNote e x b) where
    abbrev aside_of : Item
    aside_of = record { func = r.func; table = x.0; key = x.1 }

    -- without its note it is at the front, and has none there
    at_front_by : {P : Type 0} → note_at (shadow_of m own aside_of).notes place ≡ None → (k.later ≡ [] → P) → P
    at_front_by none new = by_answer k new (λ b rest left. let clash = sym (has_note b rest left).1 ∙ none in cc)

    none_yet : k.later ≡ [] → note_at (shadow_of m own aside_of).notes place ≡ None
    none_yet left = as_ran e is x touch l left (λ y p. note_at (shadow_of m own y).notes p ≡ None) (no_shadow_note d m h.histories h.lock_ahead h.rows r.id k.instance k.made own (record { func = k.instance.func; table = x.0; key = x.1 }))

    -- a turn that asks its shadow, and changes it
    module _ (a : TxAt) (q : Query) (asks : (head_asked q ≡ shadow_key own aside_of) × (may_remove q ≡ false)) (s : TxGoes) (t : Led e is x touch l a q (rows_after q c.now m) s) where
      abbrev left_rows : Rows
      left_rows = rows_after q c.now m

      alone : ChangedAlone (shadow_key own aside_of) m left_rows
      alone = subst (λ y. ChangedAlone y m left_rows) asks.0 t.others

      aside : IsAside (shadow_chain left_rows own aside_of)
      aside = record { linked = t.stands.shadow; unowned = t.stands.unowned }

      same_roots : SameRoots m left_rows
      same_roots u = ap is_some (aside_key m left_rows own aside_of alone (root_key u) refl)

      -- it is not answered: no row changed ..
      unmoved : shadow_chain left_rows own aside_of ≡ shadow_chain m own aside_of → left_rows ≡ m
      unmoved = same_rows m left_rows (shadow_key own aside_of) alone

      stays_unmoved : shadow_chain left_rows own aside_of ≡ shadow_chain m own aside_of → Stays h left_rows
      stays_unmoved still = subst (Stays h) (sym (unmoved still)) (as_it_was h)

      -- .. or its shadow has the notes that it had
      stays_moved : note_at (shadow_of m own aside_of).notes place ≡ None → Matches d left_rows h.histories h.lock_ahead → (k.later ≡ [] → Changes e is x touch l left_rows) → Stays h left_rows
      stays_moved none matches by = at_front_by none (λ left. unanswered e is x touch l left left_rows (as_its e is x touch l left (λ y p. ChangedAlone (shadow_key own y) m left_rows) alone) t.grows (rows_there q asks.1 c.now m) (ap is_some writes) (by left) matches)

      -- how the shadow changed, as the law of the turn says it
      abbrev Moves : Type 0
      Moves = (shadow_chain left_rows own aside_of ≡ shadow_chain m own aside_of) ⊎ ((note_at (shadow_of m own aside_of).notes place ≡ None) × AsideMoves (Some op) place (ByTx own) (output_of a s) (shadow_of m own aside_of) (shadow_of left_rows own aside_of))

      stays_by : is_going (output_of a s) ≡ true → (k.later ≡ [] → (shadow_of left_rows own aside_of).value ≡ (shadow_of m own aside_of).value → Changes e is x touch l left_rows) → Moves → Stays h left_rows
      stays_by on by (inl still) = stays_unmoved still
      stays_by on by (inr (none, inl still)) = stays_moved none (shadow_kept d h.histories h.lock_ahead m h.rows own aside_of left_rows alone aside (ap (λ (z : Content). z.notes) still)) (λ left. by left (ap (λ (z : Content). z.value) still))
      stays_by on by (inr (none, inr wrote)) = let clash = sym on ∙ wrote.1 in cc

      -- so it goes on to a write of its shadow, or stays
      goes_to : (b : WriteAt) → Stays h left_rows → Fits e (TxAt.Write b) → SeesAt (shadow_chain left_rows own aside_of) place (cell_at b) → note_at (content_of left_rows aside_of).notes place ≡ Some Note.Got → (k.later ≡ [] → Found e (TxAt.Write b) (shadow_row left_rows own aside_of) (value_at h.plain aside_of)) → Leaves (StageOutput.On (Stage.Tx (TxAt.Write b)) None) left_rows
      unfolding Leaves
      goes_to b kept fits sees got found = goes_at d c m i r g h live k finds o tx here e is x touch (TxAt.Write b) left_rows h.lock_ahead same_roots kept fits (record {
        begin = tt;
        asked = λ z. ap is_some (aside_key m left_rows own aside_of alone (lockset_key r.id (begin_of o) aside_of) refl) ∙ l.asked;
        locked = got;
        sees = sees;
        found = λ y made step. found (at_front d c m r g h k o here e is x touch y made step);
      })

      stays_so : Stays h left_rows → Leaves StageOutput.Stays left_rows
      unfolding Leaves
      stays_so = stays_on d c m i r g h live k finds left_rows same_roots

      -- no row can follow the last one
      worn_so : Stays h left_rows → Leaves (StageOutput.Waits Wait.Worn) left_rows
      unfolding Leaves
      worn_so = worn d c m i r g h live k left_rows same_roots

      -- it is answered by the note that its place has then: that of the recorded answer, or its own
      answers_by : (w : WriteAt) (u : Note) → note_at (shadow_of left_rows own aside_of).notes place ≡ Some u → ((left : k.later ≡ []) → DoneAt e x op w left_rows) → Moves → Leaves (tx_output (TxAt.Write w) (note_goes e u)) left_rows
      answers_by w u has done (inl still) = by_answer k
          (λ left. let clash = sym has ∙ ap (λ f. note_at (content f).notes place) still ∙ none_yet left in cc)
          (λ b rest left. let z = has_note b rest left in
          let note : z.0 ≡ u = maps.same_some (sym z.1 ∙ ap (λ f. note_at (content f).notes place) (sym still) ∙ has) in
          subst (Leaves (tx_output (TxAt.Write w) (note_goes e u))) (sym (unmoved still)) (subst (λ y. Leaves y m) (sym (z.2 w) ∙ ap (λ y. tx_output (TxAt.Write w) (note_goes e y)) note) (recorded_again e is x touch l b rest left)))
      answers_by w u has done (inr (none, inl still)) = let clash = sym has ∙ ap (λ (z : Content). note_at z.notes place) still ∙ none in cc
      answers_by w u has done (inr (none, inr wrote)) = at_front_by none (λ left.
          let z : Content = shadow_of m own aside_of in
          let note : u ≡ note_after op z.value = maps.same_some (sym has ∙ ap (λ (y : Content). note_at y.notes place) wrote.0 ∙ note_here z.notes place (note_after op z.value) none) in
          subst (λ y. Leaves (tx_output (TxAt.Write w) (note_goes e y)) left_rows) (sym (as_its e is x touch l left (λ y p. u ≡ note_after op (shadow_of m own y).value) note))
          (done left t.grows (rows_there q asks.1 c.now m) (as_its e is x touch l left (λ y p. Wrote m left_rows own y p op) (record { alone = alone; linked = aside.linked; none = none; so = wrote.0 }))))

  -- ---- a write
  module _ (t : ℕ) (key : List ℕ) (v : Value) (is : g.machine.effect ≡ Effect.Write t key v) (l : HasLocked m r o g.machine.steps (t, key)) where
    abbrev write : Effect
    write = Effect.Write t key v

    abbrev write_row : RowKey
    write_row = shadow_key own (record { func = r.func; table = t; key = key })

    write_note : (b : Answer) (rest : List Answer) → k.later ≡ b ∷ rest → HasNote write (t, key) b
    write_note b rest left =
        let done = write_is place own t key v b (answer_fits write is (t, key) refl l b rest left) (not_dead write is (t, key) refl l b rest left) in
        let s = shadow_of m own (record { func = k.instance.func; table = t; key = key }) in (
          Note.Wrote,
          as_run write is (t, key) refl l b rest left (λ y p. note_at (shadow_of m own y).notes p ≡ Some Note.Wrote) (note_told s (note_at s.notes (place_of r.id (length k.answers))) Note.Wrote
              (behind_writes d m h.histories h.lock_ahead h.rows r.id k.instance k.made (well_formed_instance h k) k.answers b rest (all_recorded write is (t, key) refl l b rest left) (short d c m r g h k o here write is (t, key) refl) own here (t, key)
              (ap touched (effect_so d c m r g h k o here write is (t, key) refl)) t key v (s, did) (effect_so d c m r g h k o here write is (t, key) refl) done)),
          λ a. ap (λ z. StageOutput.Answers z None) (sym done),
        )

    write_done : (w : WriteAt) (n : Rows) (left : k.later ≡ []) → DoneAt write (t, key) (CellOp.Write v) w n
    write_done w n left rows_grow stay z =
        let y : Item = record { func = k.instance.func; table = t; key = key } in
        let wants = now_is write is (t, key) refl l left in
        written write is (t, key) refl l left n z.alone rows_grow stay refl Answer.Done (λ z e. cc)
        (writes_go d m h.plain h.histories h.lock_ahead (after write is (t, key) refl l) r.id k.instance own t key v n (opened write is (t, key) refl l left) (stands write is (t, key) refl l left) (out write is (t, key) refl l) z.alone (was write is (t, key) refl l left) wants
        (wrote_so (place_of r.id (length k.instance.answers)) (ByTx own) v (shadow_of m own y) (shadow_of n own y) z.none (h.rows.asides own y).unowned z.so))
        (well_formed_wrote d h.histories h.well_formed r.id k.instance k.made t key v wants)
        (write_inside d h.histories h.lock_ahead (after write is (t, key) refl l) r.id k.instance k.made (out write is (t, key) refl l) own (inside write is (t, key) refl l left) m h.rows t key v n wants (lockset write is (t, key) refl l left) (was write is (t, key) refl l left)
        z.alone z.linked z.none z.so)

    abbrev write_query : WriteAt → Query
    write_query w = write_asks write_row place (ByTx own) (CellOp.Write v) w

    abbrev WriteLed : WriteAt → TxGoes → Type 0
    WriteLed w s = Led write is (t, key) refl l (TxAt.Write w) (write_query w) (rows_after (write_query w) c.now m) s

    write_turn : (w : WriteAt) → SeesAt (chain m write_row) place (cell_at w) → Turn write (TxAt.Write w)
    unfolding Leaves
    write_turn w sees = by (write_goes Note.Wrote w (query_reply (write_query w) c.now m)) (led write is (t, key) refl l (TxAt.Write w) tt l.got sees)
      where
        its : (head_asked (write_query w) ≡ write_row) × (may_remove (write_query w) ≡ false)
        its = (asked write_row (λ n. refl) refl place (ByTx own) (CellOp.Write v) w, write_spares write_row place (ByTx own) (CellOp.Write v) w)

        kept : (s : TxGoes) (a : WriteLed w s) → is_going (output_of (TxAt.Write w) s) ≡ true → Stays h (rows_after (write_query w) c.now m)
        kept s a on = stays_by write is (t, key) refl l (CellOp.Write v) refl write_note (TxAt.Write w) (write_query w) its s a on (λ left same. inl (item_self r.func t key)) a.shadow

        by : (z : WriteGoes) → WriteLed w (write_leads write z) → Leaves (tx_output (TxAt.Write w) (write_leads write z)) (rows_after (write_query w) c.now m)
        by (WriteGoes.On b) a = goes_to write is (t, key) refl l (CellOp.Write v) refl write_note (TxAt.Write w) (write_query w) its (TxGoes.On (TxAt.Write b)) a b (kept (TxGoes.On (TxAt.Write b)) a refl) tt a.stands.sees a.stands.locked (λ left. tt)
        by (WriteGoes.Done Note.Wrote first) a = answers_by write is (t, key) refl l (CellOp.Write v) refl write_note (TxAt.Write w) (write_query w) its TxGoes.Done a w Note.Wrote a.so (write_done w (rows_after (write_query w) c.now m)) a.shadow
        by WriteGoes.Worn a = worn_so write is (t, key) refl l (CellOp.Write v) refl write_note (TxAt.Write w) (write_query w) its TxGoes.Worn a (kept TxGoes.Worn a refl)
        by z a = stays_so write is (t, key) refl l (CellOp.Write v) refl write_note (TxAt.Write w) (write_query w) its TxGoes.Stays a (kept TxGoes.Stays a refl)

  -- ---- a write of which a condition is tested
  module _ (t : ℕ) (key : List ℕ) (u : Rel) (y v : Value) (is : g.machine.effect ≡ Effect.CondWrite t key u y v) (l : HasLocked m r o g.machine.steps (t, key)) where
    abbrev test : Effect
    test = Effect.CondWrite t key u y v

    abbrev test_item : Item
    test_item = record { func = r.func; table = t; key = key }

    abbrev test_row : RowKey
    test_row = shadow_key own test_item

    -- it looks for its shadow
    seek_turn : Turn test TxAt.Seek
    unfolding Leaves
    seek_turn = let u : QueryReply = query_reply (Query.Act test_row Look) c.now m in looks test is (t, key) refl l TxAt.Seek test_row (seek_goes u) (led test is (t, key) refl l TxAt.Seek tt l.got tt) (by u)
      where
        by : (u : QueryReply) → Led test is (t, key) refl l TxAt.Seek (Query.Act test_row Look) m (seek_goes u) → Leaves (tx_output TxAt.Seek (seek_goes u)) m
        by (replied absent) s = moves_on test is (t, key) refl l (TxAt.Item 0) tt (record { begin = tt; asked = λ z. l.asked; locked = l.got; sees = s.stands.sees; found = λ q made same. tt })
        by (replied (row_here w)) s = moves_on test is (t, key) refl l (TxAt.Write (Try 0)) tt (record { begin = tt; asked = λ z. l.asked; locked = l.got; sees = s.stands.sees; found = λ q made same. s.finds })
        by u s = stays_here test is (t, key) refl l

    -- it looks at a row of the item
    value_turn : (row : ℕ) → ReadsAt (chain m (head_key test_item)) row → Turn test (TxAt.Item row)
    unfolding Leaves
    value_turn row sees =
        let p = at_row (head_key test_item) row in
        let z : ReadGoes = read_goes None (query_reply (Query.Act p Look) c.now m) in
        looks test is (t, key) refl l (TxAt.Item row) p (item_goes test z) (led test is (t, key) refl l (TxAt.Item row) tt l.got sees) (by_item test is (t, key) refl l row z
        (λ n s. moves_on test is (t, key) refl l (TxAt.Item n) tt (record { begin = tt; asked = λ w. l.asked; locked = l.got; sees = s.stands.sees; found = λ q made same. tt }))
        (λ w s. moves_on test is (t, key) refl l (TxAt.Head w) tt (record {
          begin = tt;
          asked = λ z. l.asked;
          locked = l.got;
          sees = tt;
          found = λ q made step none. sym (plain_there test is (t, key) refl l (at_front d c m r g h k o here test is (t, key) refl q made step)) ∙ sym s.finds;
        })))

    test_note : (b : Answer) (rest : List Answer) → k.later ≡ b ∷ rest → HasNote test (t, key) b
    test_note b rest left =
        let told = test_is place own t key u y v b (answer_fits test is (t, key) refl l b rest left) (not_dead test is (t, key) refl l b rest left) in
        let s = shadow_of m own (record { func = k.instance.func; table = t; key = key }) in (
          Note.Cond told.0,
          as_run test is (t, key) refl l b rest left (λ z p. note_at (shadow_of m own z).notes p ≡ Some (Note.Cond told.0)) (note_told s (note_at s.notes (place_of r.id (length k.answers))) (Note.Cond told.0)
              (behind_tests d m h.histories h.lock_ahead h.rows r.id k.instance k.made (well_formed_instance h k) k.answers b rest (all_recorded test is (t, key) refl l b rest left) (short d c m r g h k o here test is (t, key) refl) own here (t, key)
              (ap touched (effect_so d c m r g h k o here test is (t, key) refl)) t key u y v told.0 (s, did) (effect_so d c m r g h k o here test is (t, key) refl) told.1)),
          λ a. ap (λ z. StageOutput.Answers z None) (sym told.1),
        )

    -- it makes its shadow, with the value that it found
    abbrev head_query : Value → Query
    head_query w = Query.Act test_row (MakeCell w None blank)

    abbrev HeadLed : Value → TxGoes → Type 0
    HeadLed w s = Led test is (t, key) refl l (TxAt.Head w) (head_query w) (rows_after (head_query w) c.now m) s

    head_turn : (w : Value) → (k.later ≡ [] → shadow_row m own test_item ≡ None → value_at h.plain test_item ≡ w) → Turn test (TxAt.Head w)
    unfolding Leaves
    head_turn w saw = by (query_reply (head_query w) c.now m) (led test is (t, key) refl l (TxAt.Head w) tt l.got tt)
      where
        kept : (s : TxGoes) (a : HeadLed w s) → ShadowMoves test (TxAt.Head w) place (ByTx own) (output_of (TxAt.Head w) s) (shadow_chain m own test_item) (shadow_chain (rows_after (head_query w) c.now m) own test_item) → Stays h (rows_after (head_query w) c.now m)
        kept s a (inl same) = stays_unmoved test is (t, key) refl l (CellOp.Cond u y v) refl test_note (TxAt.Head w) (head_query w) (refl, refl) s a same
        kept s a (inr made) = stays_moved test is (t, key) refl l (CellOp.Cond u y v) refl test_note (TxAt.Head w) (head_query w) (refl, refl) s a made.0
            (shadow_made d h.histories h.lock_ahead m h.rows own test_item (rows_after (head_query w) c.now m) a.others (record { linked = a.stands.shadow; unowned = a.stands.unowned }) made.1 (ap (λ (z : Content). z.notes) made.2))
            (λ left. inr (inl (made.1, ap (λ (z : Content). z.value) made.2 ∙ sym (saw left made.1))))

        goes : HeadLed w (TxGoes.On (TxAt.Write (Try 0))) → Leaves (StageOutput.On (Stage.Tx (TxAt.Write (Try 0))) None) (rows_after (head_query w) c.now m)
        goes a = goes_to test is (t, key) refl l (CellOp.Cond u y v) refl test_note (TxAt.Head w) (head_query w) (refl, refl) (TxGoes.On (TxAt.Write (Try 0))) a (Try 0) (kept (TxGoes.On (TxAt.Write (Try 0))) a a.shadow) tt a.stands.sees a.stands.locked (λ left. a.finds)

        by : (z : QueryReply) → HeadLed w (head_made z) → Leaves (tx_output (TxAt.Head w) (head_made z)) (rows_after (head_query w) c.now m)
        by (replied added) a = goes a
        by (replied present) a = goes a
        by z a = stays_so test is (t, key) refl l (CellOp.Cond u y v) refl test_note (TxAt.Head w) (head_query w) (refl, refl) TxGoes.Stays a (kept TxGoes.Stays a a.shadow)

    module _ (has : k.later ≡ [] → is_some (shadow_row m own test_item) ≡ true) where
      test_done : (w : WriteAt) (n : Rows) (left : k.later ≡ []) → DoneAt test (t, key) (CellOp.Cond u y v) w n
      test_done w n left rows_grow stay z =
          let a : Item = record { func = k.instance.func; table = t; key = key } in
          let b : Bool = passes (shadow_of m own a).value u y in
          let wants = now_is test is (t, key) refl l left in
          written test is (t, key) refl l left n z.alone rows_grow stay refl (Answer.Value (Value.Bool b)) (λ z e. cc)
          (tests_go d m h.plain h.histories h.lock_ahead (after test is (t, key) refl l) r.id k.instance own t key u y v b n (opened test is (t, key) refl l left) (stands test is (t, key) refl l left) (out test is (t, key) refl l) z.alone (was test is (t, key) refl l left) wants
          (as_its test is (t, key) refl l left (λ a p. is_some (shadow_row m own a) ≡ true) (has left)) (tested_so (place_of r.id (length k.instance.answers)) (ByTx own) u y v (shadow_of m own a) (shadow_of n own a) z.none (h.rows.asides own a).unowned z.so))
          (well_formed_tested d h.histories h.well_formed r.id k.instance k.made t key u y v b wants)
          (test_inside d h.histories h.lock_ahead (after test is (t, key) refl l) r.id k.instance k.made (out test is (t, key) refl l) own (inside test is (t, key) refl l left) m h.rows t key u y v n b wants (lockset test is (t, key) refl l left) (was test is (t, key) refl l left)
          z.alone z.linked z.none _ z.so)

      abbrev test_query : WriteAt → Query
      test_query w = write_asks test_row place (ByTx own) (CellOp.Cond u y v) w

      abbrev TestLed : WriteAt → TxGoes → Type 0
      TestLed w s = Led test is (t, key) refl l (TxAt.Write w) (test_query w) (rows_after (test_query w) c.now m) s

      test_turn : (w : WriteAt) → SeesAt (chain m test_row) place (cell_at w) → Turn test (TxAt.Write w)
      unfolding Leaves
      test_turn w sees = by (write_goes (Note.Cond true) w (query_reply (test_query w) c.now m)) (led test is (t, key) refl l (TxAt.Write w) tt l.got sees)
        where
          its : (head_asked (test_query w) ≡ test_row) × (may_remove (test_query w) ≡ false)
          its = (asked test_row (λ n. refl) refl place (ByTx own) (CellOp.Cond u y v) w, write_spares test_row place (ByTx own) (CellOp.Cond u y v) w)

          kept : (s : TxGoes) (a : TestLed w s) → is_going (output_of (TxAt.Write w) s) ≡ true → Stays h (rows_after (test_query w) c.now m)
          kept s a on = stays_by test is (t, key) refl l (CellOp.Cond u y v) refl test_note (TxAt.Write w) (test_query w) its s a on (λ left same. inr (inr (has left, same))) a.shadow

          by : (z : WriteGoes) → TestLed w (write_leads test z) → Leaves (tx_output (TxAt.Write w) (write_leads test z)) (rows_after (test_query w) c.now m)
          by (WriteGoes.On b) a = goes_to test is (t, key) refl l (CellOp.Cond u y v) refl test_note (TxAt.Write w) (test_query w) its (TxGoes.On (TxAt.Write b)) a b (kept (TxGoes.On (TxAt.Write b)) a refl) tt a.stands.sees a.stands.locked
              (λ left. aside_stays m (rows_after (test_query w) c.now m) own test_item (h.rows.asides own test_item).linked a.stands.shadow (rows_there (test_query w) its.1 c.now m) (has left))
          by (WriteGoes.Done (Note.Cond b) first) a = answers_by test is (t, key) refl l (CellOp.Cond u y v) refl test_note (TxAt.Write w) (test_query w) its (TxGoes.Value (Value.Bool b)) a w (Note.Cond b)
              (a.so.2 ∙ ap (λ z. Some (Note.Cond z)) (sym (same_bool a.so.1))) (test_done w (rows_after (test_query w) c.now m)) a.shadow
          by WriteGoes.Worn a = worn_so test is (t, key) refl l (CellOp.Cond u y v) refl test_note (TxAt.Write w) (test_query w) its TxGoes.Worn a (kept TxGoes.Worn a refl)
          by z a = stays_so test is (t, key) refl l (CellOp.Cond u y v) refl test_note (TxAt.Write w) (test_query w) its TxGoes.Stays a (kept TxGoes.Stays a refl)

  -- ---- every stage past the lock
  pub working_turn : (e : Effect) (a : TxAt) → g.machine.effect ≡ e → is_past a ≡ true → Fits e a → InItem d m h.plain h.histories r.id r.func o g.machine.steps e a (touched e) → Turn e a
  working_turn e TxAt.Log is past fits f = cc
  working_turn e (TxAt.Lock w) is past fits f = cc
  working_turn (Effect.Read t key) (TxAt.Shadow row) is past fits f = shadow_turn t key is (record { asked = f.asked refl; got = f.locked }) row f.sees
  working_turn (Effect.Read t key) (TxAt.Item row) is past fits f = item_turn t key is (record { asked = f.asked refl; got = f.locked }) row f.sees (λ left. f.found k.instance k.made (sym (step_here k left)))
  working_turn (Effect.Read t key) (TxAt.Keep v) is past fits f = keep_turn t key is (record { asked = f.asked refl; got = f.locked }) v (λ left. f.found k.instance k.made (sym (step_here k left)))
  working_turn (Effect.Read t key) TxAt.Seek is past fits f = absurd fits
  working_turn (Effect.Read t key) (TxAt.Head v) is past fits f = absurd fits
  working_turn (Effect.Read t key) (TxAt.Write w) is past fits f = absurd fits
  working_turn (Effect.Write t key v) (TxAt.Write w) is past fits f = write_turn t key v is (record { asked = f.asked refl; got = f.locked }) w f.sees
  working_turn (Effect.Write t key v) b is past fits f = absurd fits
  working_turn (Effect.CondWrite t key u y v) TxAt.Seek is past fits f = seek_turn t key u y v is (record { asked = f.asked refl; got = f.locked })
  working_turn (Effect.CondWrite t key u y v) (TxAt.Shadow row) is past fits f = absurd fits
  working_turn (Effect.CondWrite t key u y v) (TxAt.Item row) is past fits f = value_turn t key u y v is (record { asked = f.asked refl; got = f.locked }) row f.sees
  working_turn (Effect.CondWrite t key u y v) (TxAt.Keep w) is past fits f = absurd fits
  working_turn (Effect.CondWrite t key u y v) (TxAt.Head w) is past fits f = head_turn t key u y v is (record { asked = f.asked refl; got = f.locked }) w (λ left. f.found k.instance k.made (sym (step_here k left)))
  working_turn (Effect.CondWrite t key u y v) (TxAt.Write w) is past fits f = test_turn t key u y v is (record { asked = f.asked refl; got = f.locked }) (λ left. f.found k.instance k.made (sym (step_here k left))) w f.sees
  working_turn e b is past fits f = absurd fits

-- ---- of a run that stands in a transaction, as its stage asks it
pub operates : (e : Effect) (a : TxAt) → Fits e a → (x : ℕ × List ℕ) × (touched e ≡ Some x)
operates (Effect.Read t key) a fits = ((t, key), refl)
operates (Effect.Write t key v) a fits = ((t, key), refl)
operates (Effect.CondWrite t key u y v) a fits = ((t, key), refl)
operates e a fits = absurd fits
