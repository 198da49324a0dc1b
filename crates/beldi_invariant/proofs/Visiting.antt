-- The turns of a run at the end of its transaction, past the decision: it visits who took part, one after another; of each the items that
-- it asked the locks of, and gives each back once; and gives each of them but its own instance a finish.
use Rattle.beldi_txn.specs.End.{end_after}
use Rattle.beldi_histories.proofs.Behind.{front}
use Rattle.beldi_invariant.proofs.Names.{cell_key, may_remove, rows_there, write_spares, AllGrow, AllReleased, Answer, AreReleased, Begun, Body, Bool, Called, CalleeBodyMatches, CalleeMatches, Callees, ChangedAlone, Content, Core, Decide, Deployment, Effect, EndAt, EndGoes, EndWalk, FinishMatches, Frame, Free, FreeOp, GetsFinish, Inherited, Inside, Instance, IntentId, IntentMatches, IntentRow, IsAnswer, IsCalleeRow, IsLinkedItem, IsMember, IsTrue, Item, Kind, Knows, Leads, List, Matches, Member, Next, None, OpenTx, Option, Own, ParticipantsAreReleased, ParticipantsHaveRows, Place, Query, ReadGoes, Invariant, Row, RowAct, RowKey, Rows, Run, RunTx, StageOutput, Shadow, Some, Stage, Stamp, QueryReply, TookPart, Tx, TxId, Value, EndState, Visited, WriteAt, WriteGoes, [], act, ap, arith, asked, back_from, call_goes, calls_goes, chain_off, commit_in, content_of, counts, decision_key, done_to, effect_after, end_by_asks, end_by_output, end_goes, end_walk, ended_at, ended_by, false, first_end, free_place, freed_goes, func_called, given_or, given_value, grows_self, has_callees, has_ended, has_finish, has_no_hops, head_key, if◌then◌else◌, inl, inr, intent_key, is_committed, is_decided, is_eq, is_mark, is_past, is_shadow, is_some, key_cmp, key_exact, key_in, key_same, key_total, keys_set, kind_off, kinds_apart, last_goes, last_step, length, listed, log_key, next_goes, no_decision, note_at, option_map, other_key, other_shadows, own_tx, place_of, refl, release_lists, released, root_key, row_put, rows_after, same_map, same_shadow, same_some, set_others, set_row, shadow_key, shadow_row, shadow_value, stepped, subst, sym, query_reply, true, turn_next, turned_by, turns, tx_after, tx_end, tx_eq, tx_in, tx_same, tx_self, txs_after, unchanged, value_goes, value_in, visit_asks, visit_output, visited_by, wants_answer, was_answered, ℕ, ◌&&◌, ◌++◌, ◌==◌, ◌||◌, ◌∙◌, ◌∷◌, ◌≡◌}
use Rattle.beldi_invariant.proofs.Frames.{NoFinish, frame_held, frame_item, frame_row, items_stay, nobody_new, none_finish, query_notes}
use Rattle.beldi_invariant.proofs.StageTurns.{at_steps, recorded_prefix, wanted_here, Leaves, all_here, stands_on, answers_on, worn}
use Rattle.beldi_invariant.proofs.{Askers.owns_none, Closing.at_key, Closing.closed_rows_of, Closing.owner_is, Settling.settled_rows, Grown.grown_same, Keeping.as_it_was, Keeping.goes_still, Keeping.stays_by, Members.TakesPart, Members.members_joined, Members.part_below, Members.part_key, Members.took_part, Moves.AfterQuery, Moves.SameRoots, Moves.Stays, OpenOf.open_begun, OpenOf.own_begin, Others.decided_past, Others.end_here, Others.kept_by, Others.or_true, ExpectedOutside.content_kept, ExpectedOutside.contents_kept, ExpectedOutside.others_list, Shown.log_values, Shown.settled, Widths.finds_first}
use Rattle.beldi_invariant.proofs.Names.map

-- ---- past the decision
-- a turn past it stays past it
abbrev visit : List Called → Option ℕ → Option (ℕ × List ℕ) → Option Value → EndAt → EndState
visit cs af y u a = record { path = cs; after = af; item = y; value = u; at = a }

module _ (cs : List Called) (af : Option ℕ) (y : Option (ℕ × List ℕ)) (u : Option Value) where
  abbrev IsPast : Bool → EndAt → EndGoes → Type 0
  IsPast commit a z = is_past (end_after commit (visit cs af y u a) z).at ≡ true

  called_past : (commit b : Bool) (c : Called) → IsPast commit Callees (call_goes b cs c)
  called_past commit b c = grind arith

  calls_past : (commit : Bool) (end : ℕ) (p : Member) (f : Option Called) → IsPast commit Callees (calls_goes end p cs f)
  calls_past commit end p None = refl
  calls_past commit end p (Some c) = by_test (counts end cs c)
    where
      by_test : (b : Bool) → IsPast commit Callees (if b then call_goes (has_callees p.0) cs c else EndGoes.On Next)
      by_test b = grind arith

  last_past : (commit b : Bool) → IsPast commit Next (last_goes b)
  last_past commit b = grind arith

  next_past : (commit : Bool) (f : Option (ℕ × List ℕ)) → IsPast commit Next (next_goes cs f)
  next_past commit f = grind arith

  shadow_past : (commit : Bool) (row : ℕ) (g : ReadGoes) → IsPast commit (Shadow row) (value_goes g)
  shadow_past commit row g = grind arith

  free_past : (commit : Bool) (f : WriteAt) (g : WriteGoes) → IsPast commit (Free f) (freed_goes g)
  free_past commit f g = grind arith

  back_past : (s : Option (List Called × Called)) → is_past (back_from (visit cs af y u Stamp) s).at ≡ true
  back_past s = grind arith

  goes_past : (x : TxId) (end : ℕ) (commit : Bool) (a : EndAt) (t : QueryReply) → is_past a ≡ true → IsPast commit a (end_goes x end commit cs a t)
  goes_past x end commit a t past = grind arith

-- ---- the rows of a turn
-- rows that differ at one key are the others with that row set
as_set : (m n : Rows) (k : RowKey) → ((l : RowKey) → is_eq (key_cmp l k) ≡ false → map.get n l ≡ map.get m l) → set_row m k (map.get n k) ≡ n
as_set m n k same = same_map key_total key_exact (set_row m k (map.get n k)) n (λ l. keys_set m k (map.get n k) (λ y v. v ≡ map.get n y) refl (λ y other. sym (same y other)) l)

-- ---- an item is given back with the value that was listed
value_given : (r : Option Row) (v : Value) → given_or (shadow_value r) v ≡ value_in r v
value_given r v = grind arith

given_so : (commit : Bool) (r : Option Row) (v : Value) → given_or (given_value commit r) v ≡ (if commit then value_in r v else v)
given_so commit r v = grind arith

-- an End is answered by Done
done_only : (p : Place) (t : Option TxId) (b : Bool) (a : Answer) → IsAnswer p t (Effect.End b) a → a ≡ Answer.Done
done_only p t b a h = grind arith

-- the row of a root, and whose an intent's row is
abbrev is_root : Kind → Bool
is_root (Kind.Intent id) = has_no_hops id.hops
is_root k = false

abbrev id_in : IntentId → Kind → IntentId
id_in j (Kind.Intent id) = id
id_in j k = j

-- ---- a turn that leaves the rows, gives an item back, or gives a finish
module _ (d : Deployment) (c : Core) (m : Rows) (h : Invariant d c m) where
  abbrev Keeps : Rows → Type 0
  Keeps n = Stays h n × SameRoots m n

  as_before : (n : Rows) → n ≡ m → Keeps n
  as_before n same = (subst (Stays h) (sym same) (as_it_was h), λ t. ap (λ (y : Rows). is_some (map.get y (root_key t))) same)

  -- a row of one item is asked
  module _ (q : Query) (keeps : may_remove q ≡ false) (y : Item) (others : ChangedAlone (head_key y) m (rows_after q c.now m)) (linked : IsLinkedItem (rows_after q c.now m) y) (rows_grow : AllGrow m (rows_after q c.now m)) where
    abbrev n : Rows
    n = rows_after q c.now m

    roots : SameRoots m n
    roots t = ap is_some (other_key m n y others (root_key t) refl)

    -- nobody gets a finish
    unfinished : NoFinish d m n h.histories
    unfinished = none_finish m n (head_key y) others d h.histories refl

    -- it stands
    stands : content_of n y ≡ content_of m y → Keeps n
    stands held = (
      stays_by h n (other_shadows m n y others)
          (content_kept d m n y others h.histories h.lock_ahead linked held h.rows)
          (λ x. others_list m n y others x (contents_kept d m n y others held x) ∙ h.values x)
          (frame_held d m h.plain h.plain h.histories h.histories (items_stay d m h.plain h.plain h.histories refl) (nobody_new d h.histories) n y others rows_grow (rows_there q keeps c.now m) held) unfinished,
      roots,
    )

    -- it is given back: its transaction has ended, with this decision, and the place is a mark
    module _ (s : TxId) (z : ℕ × Bool) (ended : tx_end d h.histories s ≡ Some z) (decided : map.get m (decision_key s) ≡ Some (Row.ReadLog (Value.Bool z.1))) (p : Place) (mark : is_mark d h.histories p.step (map.get h.histories p.intent) ≡ true) (u : Option Value) (gives : u ≡ given_value z.1 (shadow_row m s y)) where
      given_back : note_at (content_of m y).notes p ≡ None → (content_of m y).owner ≡ Some (Tx s) → content_of n y ≡ done_to p (Tx s) (FreeOp u) (content_of m y) → Keeps n
      given_back none owned is = (
        stays_by h n (other_shadows m n y others)
            (released d m h.histories h.lock_ahead y s z p (given_or u (content_of m y).value) n owned ended mark none others linked is h.rows)
            (λ x. release_lists m n y s others owned free value x ∙ h.values x)
            (frame_item d m h.plain h.plain h.histories h.histories (items_stay d m h.plain h.plain h.histories refl) (nobody_new d h.histories) n y others rows_grow (rows_there q keeps c.now m) (query_notes q keeps c.now m y) (λ t e end own. let clash = sym free ∙ own in cc)) unfinished,
        roots,
      )
        where
          free : (content_of n y).owner ≡ None
          free = ap (λ (a : Content). a.owner) is

          value : (content_of n y).value ≡ (if is_committed (map.get m (decision_key s)) then value_in (shadow_row m s y) (content_of m y).value else (content_of m y).value)
          value = ap (λ (a : Content). a.value) is ∙ ap (λ w. given_or w (content_of m y).value) gives ∙ given_so z.1 (shadow_row m s y) (content_of m y).value
              ∙ ap (λ r. if is_committed r then value_in (shadow_row m s y) (content_of m y).value else (content_of m y).value) (sym decided)

  -- the row of who took part gets its finish
  module _ (s : TxId) (z : ℕ × Bool) (ended : tx_end d h.histories s ≡ Some z) (p : Member) (part : TakesPart h.histories s p) (n : Rows) (others : (l : RowKey) → is_eq (key_cmp l (key_in p.1 p.0)) ≡ false → map.get n l ≡ map.get m l)
      (g : GetsFinish (map.get m (key_in p.1 p.0)) (map.get n (key_in p.1 p.0))) (given : AreReleased (first_end s z.0 z.1) n) where
    abbrev key : RowKey
    key = key_in p.1 p.0

    abbrev finished : IntentRow
    finished = record g.intent { finish = Some g.finish }

    all : set_row m key (Some (Row.Intent finished)) ≡ n
    all = ap (set_row m key) (sym g.now) ∙ as_set m n key others

    fits : CalleeMatches (has_ended d h.histories) p.1 (Some (Row.Intent finished)) (map.get h.histories p.0)
    fits =
        let was : IsCalleeRow (has_ended d h.histories) p.1 g.intent (map.get h.histories p.0) = subst (λ r. CalleeMatches (has_ended d h.histories) p.1 r (map.get h.histories p.0)) g.before (at_key d m h.histories h.lock_ahead h.rows h.well_formed s p part) in
        record { finishes = by_body g.intent.body was.body; body = was.body }
      where
        by_body : (b : Option Body) → CalleeBodyMatches p.1 b g.intent.outcome (map.get h.histories p.0) → FinishMatches (has_ended d h.histories) (tx_in b) (Some g.finish) g.intent.outcome
        by_body b body = grind arith

    put : Matches d n h.histories h.lock_ahead
    put = subst (λ l. Matches d l h.histories h.lock_ahead) all (row_put d h.histories h.lock_ahead m key (Some (Row.Intent finished)) refl
        (subst (λ b. IntentMatches (has_ended d h.histories) b p.1 (Some (Row.Intent finished)) (map.get h.histories p.0)) (sym (part_below d h.histories h.well_formed s p.0 (took_part part))) fits) h.rows)

    same_frame : Frame d m n h.plain h.plain h.histories h.histories
    same_frame = subst (λ l. Frame d m l h.plain h.plain h.histories h.histories) all (frame_row d m h.plain h.plain h.histories h.histories (items_stay d m h.plain h.plain h.histories refl) (nobody_new d h.histories) key (Some (Row.Intent finished)) refl refl (λ e. refl)
        (λ f e. ap (option_map func_called) (sym g.before) ∙ e))

    -- of other transactions nobody gets a finish
    only_its : (t : TxId) (i : IntentId) (home : ℕ) → tx_eq t s ≡ false → TookPart h.histories t i → has_finish (map.get n (key_in home i)) ≡ true → has_finish (map.get m (key_in home i)) ≡ true
    only_its t i home apart other e = by_test (is_eq (key_cmp (key_in home i) key)) refl
      where
        by_test : (b : Bool) → is_eq (key_cmp (key_in home i) key) ≡ b → has_finish (map.get m (key_in home i)) ≡ true
        by_test false off = ap has_finish (sym (others (key_in home i) off)) ∙ e
        by_test true one =
            let id : i ≡ p.0 = ap (λ (k : RowKey). id_in p.0 k.kind) (key_same (key_in home i) key one) in
            let same : t ≡ s = same_some (sym other.enclosing ∙ ap (λ (y : Instance). y.enclosing) (same_some (sym other.made ∙ ap (map.get h.histories) id ∙ part.made)) ∙ part.enclosing) in
            let clash = sym apart ∙ ap (λ y. tx_eq y s) same ∙ tx_self s in cc

    given_all : ParticipantsAreReleased d n h.histories
    given_all t e is = by_test (tx_eq t s) refl
      where
        seated : ParticipantsHaveRows n h.histories
        seated id q u made within over = same_frame.rows (key_in q.func id) (h.seated id q u made within over)

        by_test : (b : Bool) → tx_eq t s ≡ b → AreReleased (first_end t e.0 e.1) n
        by_test true same =
            let one = tx_same t s same in
            let two : z ≡ e = same_some (sym (ap (tx_end d h.histories) one ∙ ended) ∙ is) in
            subst (λ y. AreReleased (first_end t y.0 y.1) n) two (subst (λ y. AreReleased (first_end y z.0 z.1) n) (sym one) given)
        by_test false apart = closed_rows_of d c m h n h.plain h.histories h.lock_ahead put h.well_formed (grows_self h.histories) same_frame t e is seated (λ i home. only_its t i home apart)

    stamped : Keeps n
    stamped = (
      kept_by d c m n h h.plain h.histories h.lock_ahead (record {
        goes = goes_still h n (λ t x. chain_off m n key (shadow_key t x) others (record { first = refl; numbered = λ i. refl }) (kind_off is_shadow same_shadow (shadow_key t x) key refl refl));
        ahead_at_ends = h.ahead_at_ends;
        well_formed = h.well_formed;
        rows = put;
        values = λ x. ap (λ l. listed l x) (sym all) ∙ log_values h key (Some (Row.Intent finished)) refl x;
        settled = settled_rows d m n h.plain h.plain h.histories h.histories same_frame given_all (settled h);
      }) (grows_self h.histories) same_frame,
      λ t. ap is_some (others (root_key t) (kinds_apart is_root (root_key t) key refl (part_below d h.histories h.well_formed s p.0 (took_part part)))),
    )

-- ---- a run at the end of its transaction
module _ (d : Deployment) (c : Core) (m : Rows) (r : Run) (g : Begun) (h : Invariant d c m) (k : Knows d h.histories r g) (o : OpenTx) (tx : g.tx ≡ Some (Own o)) (commit : Bool) (is : g.machine.effect ≡ Effect.End commit) where
  abbrev end : ℕ
  end = g.machine.steps

  abbrev s : TxId
  s = own_tx r.id r.func o

  steps_here : end ≡ length k.answers
  steps_here = at_steps k

  wanted : effect_after d k.instance k.answers ≡ Effect.End commit
  wanted = wanted_here k ∙ is

  -- its Begin is the one that is open
  begun : (txs_after d k.instance k.answers).begun ≡ Some o.begin
  begun = open_begun d k.instance k.answers ∙ ap own_begin (sym k.run_open ∙ tx)

  -- past the decision its transaction has ended with this step
  record HasEnded : Type 0 where
    pub rest : List Answer
    pub left : k.later ≡ Answer.Done ∷ rest
    pub ended : tx_end d h.histories s ≡ Some (end, commit)
    pub mark : is_mark d h.histories end (map.get h.histories r.id) ≡ true

  has_ended_here : map.get m (decision_key s) ≡ Some (Row.ReadLog (Value.Bool commit)) → HasEnded
  has_ended_here decided = by_later k.later refl
    where
      by_later : (later : List Answer) → k.later ≡ later → HasEnded
      by_later [] none =
          let clash = sym (ap (λ f. map.get m (log_key f (place_of r.id o.begin))) (sym k.func) ∙ no_decision d m h.histories h.lock_ahead h.rows r.id k.instance k.made o.begin (subst (λ ts. (txs_after d k.instance ts).begun ≡ Some o.begin) (all_here k none) begun)) ∙ decided in cc
      by_later (a ∷ rest) some =
          let q = k.instance in
          let given = k.answers in
          let run : given ++ a ∷ rest ≡ q.answers = ap (λ ys. given ++ ys) (sym some) ∙ k.run_answers in
          let n = length given in
          let is_done : a ≡ Answer.Done = done_only (place_of r.id n) (tx_after d r.id q given) commit a
          (subst (λ e. IsAnswer (place_of r.id n) (tx_after d r.id q given) e a) wanted
          (subst (λ ts. IsAnswer (place_of r.id n) (tx_after d r.id q ts) (effect_after d q ts) a) (front d r.id q given a rest run) ((h.well_formed.each r.id q k.made).past n a (was_answered d r.id q given a rest run)))) in
          let ends = end_here d q given a rest o.begin commit run wanted begun in
          record {
            rest = rest;
            left = some ∙ ap (λ z. z ∷ rest) is_done;
            ended = ap (ended_by d o.begin) k.made ∙ ends ∙ ap (λ z. Some (z, commit)) (sym steps_here);
            mark = ap (λ z. is_mark d h.histories z (map.get h.histories r.id)) steps_here ∙ ap (is_mark d h.histories n) k.made
                ∙ ap (λ z. is_some z || (is_decided d h.histories q.enclosing && (n == last_step))) (stepped d r.id q given a rest run (λ ts b. commit_in (effect_after d q ts)) ∙ ap commit_in wanted);
          }

  -- ---- what a turn leaves
  abbrev walk : EndState → EndWalk
  walk v = end_walk r.id r.func o end commit v

  abbrev asks : EndState → Query
  asks v = visit_asks s end commit v.path v.after v.item v.value v.at

  abbrev after : EndState → Rows
  after v = rows_after (asks v) c.now m

  module _ (e : HasEnded) (cs : List Called) (member : IsMember (first_end s end commit) m cs) where
    abbrev who : Member
    who = visited_by s cs

    -- where it gives back is a mark
    marked : (cs : List Called) → IsMember (first_end s end commit) m cs → let p = free_place s end cs in is_mark d h.histories p.step (map.get h.histories p.intent) ≡ true
    marked [] member = e.mark
    marked (b ∷ bs) member =
        let part = members_joined d m h.histories h.lock_ahead h.rows h.well_formed s (end, commit) e.ended b bs member in
        ap (is_mark d h.histories last_step) part.made ∙ ap (λ w. is_some (ended_at d part.instance last_step) || (is_decided d h.histories w && (last_step == last_step))) part.enclosing
        ∙ ap (λ z. is_some (ended_at d part.instance last_step) || (is_some z && (last_step == last_step))) e.ended ∙ or_true (is_some (ended_at d part.instance last_step))

    -- an item stands, or is given back
    frees : (af : Option ℕ) (y : ℕ × List ℕ) (u : Option Value) (f : WriteAt) (z : EndGoes) → let v = visit cs af (Some y) u (Free f) in Visited (walk v) m → Leads s end commit v (asks v) m (after v) z → Keeps d c m h (after v)
    frees af y u f z visited l = elim l.left [
      | inl held ↦ stands d c m h q (write_spares (cell_key who.1 y.0 y.1) (free_place s end cs) (Tx s) (FreeOp u) f) item others linked l.grows held
      | inr was ↦ given_back d c m h q (write_spares (cell_key who.1 y.0 y.1) (free_place s end cs) (Tx s) (FreeOp u) f) item others linked l.grows s (end, commit) e.ended visited.decided (free_place s end cs) (marked cs member) u visited.gives was.0 (owner_is s (content_of m item).owner was.1) was.2
    ]
      where
        item : Item
        item = record { func = who.1; table = y.0; key = y.1 }

        q : Query
        q = asks (visit cs af (Some y) u (Free f))

        others : ChangedAlone (head_key item) m (rows_after q c.now m)
        others = subst (λ k. ChangedAlone k m (rows_after q c.now m)) (asked (head_key item) (λ n. refl) refl (free_place s end cs) (Tx s) (FreeOp u) f) l.others

        linked : IsLinkedItem (rows_after q c.now m) item
        linked = (l.visited.linked who.1 y).0

  -- who took part gets its finish, or has it
  stamps : HasEnded → (b : Called) (bs : List Called) (member : IsMember (first_end s end commit) m (b ∷ bs)) (af : Option ℕ) (y : Option (ℕ × List ℕ)) (u : Option Value) (z : EndGoes) → let v = visit (b ∷ bs) af y u Stamp in Leads s end commit v (asks v) m (after v) z → Keeps d c m h (after v)
  stamps e b bs member af y u z l = elim l.left [
    | inl held ↦ as_before d c m h n (sym (as_set m n own apart) ∙ unchanged m own (map.get n own) held.0)
    | inr gets ↦ stamped d c m h s (end, commit) e.ended p part n others (subst (λ (k : RowKey). GetsFinish (map.get m k) (map.get n k)) same gets) l.visited.released
  ]
    where
      p : Member
      p = visited_by s (b ∷ bs)

      n : Rows
      n = after (visit (b ∷ bs) af y u Stamp)

      own : RowKey
      own = intent_key p.0 p.1

      part : TakesPart h.histories s p
      part = members_joined d m h.histories h.lock_ahead h.rows h.well_formed s (end, commit) e.ended b bs member

      same : own ≡ key_in p.1 p.0
      same = part_key d h.histories h.well_formed s p.0 p.1 (took_part part)

      apart : (k : RowKey) → is_eq (key_cmp k own) ≡ false → map.get n k ≡ map.get m k
      apart = set_others m own (act RowAct.Stamp c.now (map.get m own)).0

      others : (k : RowKey) → is_eq (key_cmp k (key_in p.1 p.0)) ≡ false → map.get n k ≡ map.get m k
      others k off = apart k (ap (λ x. is_eq (key_cmp k x)) same ∙ off)

  keeps : (cs : List Called) (af : Option ℕ) (y : Option (ℕ × List ℕ)) (u : Option Value) (a : EndAt) (z : EndGoes) → is_past a ≡ true → let v = visit cs af y u a in Visited (walk v) m → HasEnded → Leads s end commit v (asks v) m (after v) z → Keeps d c m h (after v)
  keeps cs af y u Decide z past visited e l = cc
  keeps cs af y u Callees z past visited e l = as_before d c m h (after (visit cs af y u Callees)) l.left
  keeps cs af y u Next z past visited e l = as_before d c m h (after (visit cs af y u Next)) l.left
  keeps cs af y u (Shadow row) z past visited e l = as_before d c m h (after (visit cs af y u (Shadow row))) l.left
  keeps cs af (Some y) u (Free f) z past visited e l = frees e cs visited.member af y u f z visited l
  keeps cs af None u (Free f) z past visited e l = as_before d c m h (after (visit cs af None u (Free f))) l.left
  keeps [] af y u Stamp z past visited e l = let clash = visited.begins in cc
  keeps (b ∷ bs) af y u Stamp z past visited e l = stamps e b bs visited.member af y u z l

-- ---- the turn
module _ (d : Deployment) (c : Core) (m : Rows) (i : ℕ) (r : Run) (g : Begun) (h : Invariant d c m) (live : map.get c.runs i ≡ Some r) (k : Knows d h.histories r g) (finds : Inside m h.plain c.book k g.stage)
    (o : OpenTx) (tx : g.tx ≡ Some (Own o)) (inside : tx_after d r.id k.instance k.answers ≡ Some (own_tx r.id r.func o)) (commit : Bool) (is : g.machine.effect ≡ Effect.End commit) where
  abbrev t : TxId
  t = own_tx r.id r.func o

  module _ (v : EndState) (past : is_past v.at ≡ true) (visited : Visited (end_walk r.id r.func o g.machine.steps commit v) m) where
    abbrev q : Query
    q = visit_asks t g.machine.steps commit v.path v.after v.item v.value v.at

    abbrev rows_left : Rows
    rows_left = rows_after q c.now m

    has : HasEnded d c m r g h k o tx commit is
    has = has_ended_here d c m r g h k o tx commit is (decided_past v.at (end_walk r.id r.func o g.machine.steps commit v) m past visited.decided)

    -- it goes on past the decision
    goes_on : (z : EndGoes) → is_past (end_after commit v z).at ≡ true → Keeps d c m h rows_left → Leads t g.machine.steps commit v q m rows_left z → Leaves d c m i r g h live k (StageOutput.On (Stage.End (end_after commit v z)) None) rows_left
    goes_on z on kept l = stands_on d c m i r g h live k finds is tx (Stage.End (end_after commit v z)) rows_left h.lock_ahead kept.1 kept.0 (on, l.visited)

    -- it is over, and answered: all have given back all
    is_over : Keeps d c m h rows_left → AllReleased (end_walk r.id r.func o g.machine.steps commit v) rows_left → Leaves d c m i r g h live k (StageOutput.Answers Answer.Done None) rows_left
    is_over kept all = answers_on d c m i r g h live k finds Answer.Done has.rest rows_left h.histories h.lock_ahead k.instance kept.1 kept.0 k.made (grown_same k.instance)
        (recorded_prefix k Answer.Done has.rest has.left)
        (subst (λ e. IsTrue (wants_answer e)) (sym is) refl)
        (λ u b x opened ends owned. owns_none d rows_left h.histories h.lock_ahead kept.0.shows.rows h.well_formed h.ahead_at_ends t (g.machine.steps, commit) has.ended x h.short (record { owner = all.owner; closed = all.closed; freed = all.freed }) (owned ∙ ap (λ z. Some (Tx (own_tx r.id r.func z))) (own_same (sym opened ∙ tx))))
      where
        own_in : OpenTx → Option RunTx → OpenTx
        own_in y None = y
        own_in y (Some (Own z)) = z
        own_in y (Some (Inherited z)) = y

        own_same : {u : OpenTx} → Some (Own u) ≡ Some (Own o) → u ≡ o
        own_same e = ap (own_in o) e

    by_goes : (z : EndGoes) → is_past (end_after commit v z).at ≡ true → Keeps d c m h rows_left → Leads t g.machine.steps commit v q m rows_left z → Leaves d c m i r g h live k (visit_output commit v z) rows_left
    by_goes EndGoes.Done on kept l = is_over kept (l.done refl).1
    by_goes EndGoes.Worn on kept l = worn d c m i r g h live k rows_left kept.1 kept.0
    by_goes (EndGoes.On a) on kept l = goes_on (EndGoes.On a) on kept l
    by_goes EndGoes.Stays on kept l = goes_on EndGoes.Stays on kept l
    by_goes (EndGoes.Decided first) on kept l = goes_on (EndGoes.Decided first) on kept l
    by_goes (EndGoes.Passed n) on kept l = goes_on (EndGoes.Passed n) on kept l
    by_goes (EndGoes.Callee cs) on kept l = goes_on (EndGoes.Callee cs) on kept l
    by_goes (EndGoes.Item y x) on kept l = goes_on (EndGoes.Item y x) on kept l
    by_goes (EndGoes.Value u) on kept l = goes_on (EndGoes.Value u) on kept l
    by_goes EndGoes.Back on kept l = goes_on EndGoes.Back on kept l

    pub visit_turn : AfterQuery d h.plain c.now m (λ u. turn_next c i r (turned_by d r g (end_by_output r.id r.func g.machine.steps commit v (Some (Own o)) u))) (end_by_asks r.id r.func g.machine.steps commit v (Some (Own o)))
    visit_turn =
        let z = end_goes t g.machine.steps commit v.path v.at (query_reply q c.now m) in
        let first = finds_first d c m h t (g.machine.steps, commit) has.ended v.path visited.member in
        let l : Leads t g.machine.steps commit v q m rows_left z = turns t g.machine.steps commit c.now m v.path v.after v.item v.value v.at first.0 first.1 visited in
        by_goes z (goes_past v.path v.after v.item v.value t g.machine.steps commit v.at (query_reply q c.now m) past) (keeps d c m r g h k o tx commit is v.path v.after v.item v.value v.at z past visited has l) l
