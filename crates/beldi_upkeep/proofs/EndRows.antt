-- What the last turn of a run leaves of the rows, and the turns of the end of a transaction.
use Rattle.beldi_value.specs.Id.{home_of}
use Rattle.beldi_row.specs.declared.act.Act.TheVariants.{End as EndAct, Stamp}
use Rattle.beldi_row.specs.Act.{stamp_with}
use Rattle.beldi_plain_laws.proofs.Ends.{fits_at}
use Rattle.beldi_invariant.proofs.Names.{Begun, Body, Bool, ByTx, Called, CellOp, Core, Deployment, Effect, EndAt, Inside, Instance, IntentId, IntentRow, InvokeRow, Item, Kind, Knows, Member, None, OpenTx, Option, Outcome, Own, PutRead, Return, Invariant, Row, RowKey, Rows, Run, Some, Stage, TxId, Value, EndState, Visited, act, after_act, ap, append-nil, arith, call_in, child_of, content_of, decision_key, end_with, ended_by, false, finish_at, first_visit, has_finish, has_no_hops, if◌then◌else◌, intent_key, invoke_key, is_some, is_waited, key_in, length, length-append, log_key, no_decision, own_tx, place_of, refl, rows_after, same_some, set_row, subst, sym, true, tx_end, txs_after, visit_asks, visited_by, inherited_tx, ℕ, ◌++◌, ◌<◌, ◌∙◌, ◌∷◌, ◌≡◌, [], List, Answer, end_walk, inl, inr, is_past, WriteAt, head_key, IsMember, first_end}
use Rattle.beldi_invariant.proofs.Names.map
use Rattle.beldi_invariant.proofs.{Members.TakesPart, Members.members_joined, OpenOf.open_begun, OpenOf.own_begin, Others.end_here, Returns.at_end, Returns.returns_now, Returns.tx, StageTurns.all_here, StageTurns.at_steps, StageTurns.wanted_here, StageTurns.no_return}
use Rattle.beldi_invokelog.specs.InvokeLog.{registered_in}
use Rattle.beldi_upkeep.specs.Callees.{HasTold, IsPassed, RunOwes, RunsOwe, Seats, open_begin, owner_key}
use Rattle.beldi_upkeep.proofs.{FromInvariant.body_recorded, FromInvariant.called_here, FromInvariant.call_is, FromInvariant.ended_has_row, FromInvariant.one_home, Leaving.IsPassedBy, Leaving.Leaves, Leaving.leaves_looked, Leaving.leaves_op, Leaving.leaves_same, Leaving.leaves_still, PastOwn.WasOwner, PastOwn.called_owner, PastOwn.ended_there, PastOwn.ends_there, PastOwn.got_owner, PastOwn.tx_ended, RowSets.intent_put, RowSets.unmoved, TurnRows.own_put, TurnRows.own_row}
use Rattle.beldi_histories.specs.Stands.{body_of}
use Rattle.beldi_txn.specs.End.{free_place}
use Rattle.beldi_txn.proofs.Freeing.{puts_or_passes}

-- who was called in a transaction, or in none, has none of its own open
none_inside : (w : Option TxId) → open_begin (inherited_tx w) ≡ None
none_inside w = grind arith

-- the home of an intent's row is that of its row in that home
home_twice : (id : IntentId) (f : ℕ) → intent_key id (home_of id f) ≡ intent_key id f
home_twice id f = by_test (has_no_hops id.hops)
  where
    by_test : (b : Bool) → ◌≡◌ {A = RowKey} (record { home = if b then 0 else (if b then 0 else f); kind = Kind.Intent id }) (record { home = if b then 0 else f; kind = Kind.Intent id })
    by_test true = refl
    by_test false = refl

abbrev id_in : IntentId → Kind → IntentId
id_in j (Kind.Intent z) = z
id_in j z = j

-- who owns a transaction has its row at its key
pub owner_of_key : (t : TxId) (home : ℕ) (id : IntentId) → owner_key t ≡ key_in home id → t.intent ≡ id
owner_of_key t home id one = ap (λ (z : RowKey). id_in id z.kind) one

module _ (d : Deployment) (c : Core) (m : Rows) (h : Invariant d c m) (seats : Seats m) (owe : RunsOwe c m) where
  -- who took part in a transaction that is passed, or whose owner has its finish, has its own
  part_before : (home : ℕ) (id : IntentId) (j : IntentRow) → map.get m (key_in home id) ≡ Some (Row.Intent j) → (t : TxId) (b : Body) → j.body ≡ Some b → b.tx ≡ Some t → is_some j.finish ≡ false → (has_finish (map.get m (owner_key t)) ≡ true → ⊥) × (IsPassedBy c t → ⊥)
  part_before home id j at t b is in_it none = (
    λ over. let clash = sym none ∙ seats.ends_last t home id j b over (record { there = at; body = is }) in_it in cc,
    λ p. let clash = sym none ∙ (owe.each p.number p.run p.begun p.live p.at).closed t p.passed home id j b (record { there = at; body = is }) in_it in cc,
  )

  -- ---- the owner's end stamps who took part, who owns no transaction
  module _ (now : ℕ) (s : TxId) (p : Member) (part : TakesPart h.histories s p) where
    abbrev key : RowKey
    key = intent_key p.0 p.1

    no_owner : (t : TxId) → owner_key t ≡ key → WasOwner d h.histories t → ⊥
    no_owner t one w =
        let same : w.owner ≡ part.instance = same_some (sym w.made ∙ ap (map.get h.histories) (owner_of_key t (home_of p.0 p.1) p.0 one) ∙ part.made) in
        let clash = sym w.outside ∙ ap (λ (q : Instance). q.enclosing) same ∙ part.enclosing in cc

    pub stamps : Leaves c m (after_act Stamp now key m)
    stamps = by_row (map.get m key) refl
      where
        by_finish : (j : IntentRow) (f : Option ℕ) → j.finish ≡ f → map.get m key ≡ Some (Row.Intent j) → Leaves c m (set_row m key (Some (Row.Intent (stamp_with now j f).0)))
        by_finish j (Some f) is at = unmoved c m seats key (Some (Row.Intent j)) (sym at)
        by_finish j None is at = intent_put c m seats (home_of p.0 p.1) p.0 (record j { finish = Some now }) (home_twice p.0 p.1)
            (λ over before t one. (
              λ home i r b body in_it. let k = body_recorded d c m h home i r b body in absurd (no_owner t one (called_owner d h.histories h.well_formed t i k.instance k.made (ap (λ (z : Body). z.tx) (sym k.body) ∙ in_it))),
              λ x owned. no_owner t one (got_owner d h.histories h.well_formed t h.lock_ahead x ((h.rows.txs x).owned_is_got t owned)),
            ))
            (λ t b body in_it none. cc)
            (λ f i q x b call is_open child body idle. seats.registered f i q x (home_of p.0 p.1) j b call is_open (record { there = ap (λ z. map.get m (key_in (home_of p.0 p.1) z)) child ∙ at; body = body }) idle)

        by_row : (o : Option Row) → map.get m key ≡ o → Leaves c m (set_row m key (act Stamp now o).0)
        by_row None at = unmoved c m seats key None (sym at)
        by_row (Some (Row.Intent j)) at = by_finish j j.finish refl at
        by_row (Some w) at = unmoved c m seats key (Some w) (sym at)

  -- ---- a run that ends
  module _ (i : ℕ) (r : Run) (g : Begun) (live : map.get c.runs i ≡ Some r) (k : Knows d h.histories r g) (finds : Inside m h.plain c.book k g.stage) (o : Outcome) (is : g.machine.effect ≡ Return o) (owes : RunOwes m r.id g) (closing : g.stage ≡ Stage.Close) where
    abbrev own : RowKey
    own = intent_key r.id r.func

    all : k.answers ≡ k.instance.answers
    all = all_here k (at_end d c m i r g h live k finds o is)

    steps : g.machine.steps ≡ length k.instance.answers
    steps = at_steps k ∙ ap length all

    none_open : (t : TxId) → (txs_after d k.instance k.instance.answers).begun ≡ Some t.begin → ⊥
    none_open t is_open = no_return d k.instance k.instance.answers o (ap is_some is_open) (returns_now d c m i r g h live k finds o is)

    -- its transactions have ended, before its step
    module _ (t : TxId) (one : owner_key t ≡ own) (w : WasOwner d h.histories t) where
      mine : t.intent ≡ r.id
      mine = owner_of_key t (home_of r.id r.func) r.id one

      same : w.owner ≡ k.instance
      same = same_some (sym w.made ∙ ap (map.get h.histories) mine ∙ k.made)

      begun : t.begin < length w.owner.answers
      begun = let l = ap length w.all in let n = length-append w.given w.later in let b = (fits_at d w.owner w.given).before t.begin w.begun in omega (arith, l, n, b)

      closed : (txs_after d w.owner w.owner.answers).begun ≡ Some t.begin → ⊥
      closed is_open = none_open t (subst (λ (q : Instance). (txs_after d q q.answers).begun ≡ Some t.begin) same is_open)

      passed : IsPassed r.id g.machine.steps g.tx t
      passed = record {
        own = mine;
        begun = let l = ap (λ (q : Instance). length q.answers) same in let b = begun in omega (arith, l, b, steps);
        ended = λ is_open. let clash = sym (none_inside k.instance.enclosing) ∙ ap open_begin (sym (tx d c m i r g h live k finds o is)) ∙ is_open in cc;
      }

      owns_none : (x : Item) → (content_of m x).owner ≡ Some (ByTx t) → ⊥
      owns_none x owned =
          let z = ends_there d h.histories t w w.owner.answers [] (append-nil w.owner.answers) begun closed in
          let at = ended_there d h.histories t w w.owner.answers [] (append-nil w.owner.answers) begun closed in
          let e = tx_ended d h.histories t w w.owner.answers [] (append-nil w.owner.answers) begun closed in
          finds.released t z.0 mine e (let b = at.before in let l = ap (λ (q : Instance). length q.answers) same in omega (arith, b, l, steps)) x owned

    -- nobody who waits for nobody ends untold
    told_so : (f : ℕ) (j : IntentId) (p : ℕ) (x : InvokeRow) (b : Body) → map.get m (invoke_key f (place_of j p)) ≡ Some (Row.Invoke x) → x.registered ≡ false → child_of j p ≡ r.id → is_waited k.instance.parent ≡ false → ⊥
    told_so f j p x b at is_open child idle =
        let q = call_is d c m h f j p x at in
        let w = called_here d c m h j p k.instance (ap (map.get h.histories) child ∙ k.made) in
        let caller : Instance = w.0 in
        let func : caller.func ≡ f = ap (λ (z : Instance). z.func) (same_some (sym w.1.0 ∙ q.made)) ∙ q.func in
        let from : g.caller ≡ Some (record { place = place_of j p; func = f; waits = w.1.1.waits }) = k.caller ∙ w.1.1.parent ∙ ap (λ z. Some (record { place = place_of j p; func = z; waits = w.1.1.waits })) func in
        let waits : w.1.1.waits ≡ false = sym (ap is_waited w.1.1.parent) ∙ idle in
        let told = subst (λ z. HasTold Stage.Close z m) from (subst (λ s. HasTold s g.caller m) closing owes.told) waits in
        let clash = sym is_open ∙ ap (λ z. registered_in (call_in z)) (sym at) ∙ told in cc

    pub ends : (stamp : Bool) → Leaves c m (after_act (EndAct o stamp) c.now own m)
    ends stamp = by_row (map.get m own) refl
      where
        by_outcome : (j : IntentRow) (u : Option Outcome) → j.outcome ≡ u → map.get m own ≡ Some (Row.Intent j) → Leaves c m (set_row m own (Some (Row.Intent (end_with o stamp c.now j u).0)))
        by_outcome j (Some u) some at = unmoved c m seats own (Some (Row.Intent j)) (sym at)
        by_outcome j None none at = intent_put c m seats (home_of r.id r.func) r.id (record j { outcome = Some o; finish = finish_at stamp c.now j.finish }) (home_twice r.id r.func)
            (λ over before t one. (
              λ home z s b body in_it. let q = body_recorded d c m h home z s b body in
                  owes.closed t (passed t one (called_owner d h.histories h.well_formed t z q.instance q.made (ap (λ (y : Body). y.tx) (sym q.body) ∙ in_it))) home z s b body in_it,
              λ x owned. owns_none t one (got_owner d h.histories h.well_formed t h.lock_ahead x ((h.rows.txs x).owned_is_got t owned)) x owned,
            ))
            (λ t b body in_it is_open. part_before (home_of r.id r.func) r.id j at t b body in_it (unfinished stamp j.finish is_open))
            (λ f z p x b call is_open child body idle.
            let q = body_recorded d c m h (home_of r.id r.func) r.id j b (record { there = at; body = body }) in
            absurd (told_so f z p x b call is_open child (ap (λ (y : Body). is_waited y.parent) (sym (q.body ∙ ap body_of (same_some (sym q.made ∙ k.made)))) ∙ idle)))
          where
            unfinished : (b : Bool) (f : Option ℕ) → is_some (finish_at b c.now f) ≡ false → is_some f ≡ false
            unfinished b f e = grind arith

        by_row : (w : Option Row) → map.get m own ≡ w → Leaves c m (set_row m own (act (EndAct o stamp) c.now w).0)
        by_row None at = unmoved c m seats own None (sym at)
        by_row (Some (Row.Intent j)) at = by_outcome j j.outcome refl at
        by_row (Some w) at = unmoved c m seats own (Some w) (sym at)

  -- ---- the end of a transaction
  module _ (r : Run) (g : Begun) (k : Knows d h.histories r g) (finds : Inside m h.plain c.book k g.stage) (o : OpenTx) (tx : g.tx ≡ Some (Own o)) (commit : Bool) (is : g.machine.effect ≡ Effect.End commit) where
    abbrev s : TxId
    s = own_tx r.id r.func o

    abbrev end : ℕ
    end = g.machine.steps

    opened : (txs_after d k.instance k.answers).begun ≡ Some o.begin
    opened = open_begun d k.instance k.answers ∙ ap own_begin (sym k.run_open ∙ tx)

    -- past the decision it has ended with this step
    pub tx_is_ended : map.get m (decision_key s) ≡ Some (Row.ReadLog (Value.Bool commit)) → tx_end d h.histories s ≡ Some (end, commit)
    tx_is_ended decided = by_later k.later refl
      where
        by_later : (later : List Answer) → k.later ≡ later → tx_end d h.histories s ≡ Some (end, commit)
        by_later [] none =
            let clash = sym (ap (λ f. map.get m (log_key f (place_of r.id o.begin))) (sym k.func) ∙ no_decision d m h.histories h.lock_ahead h.rows r.id k.instance k.made o.begin (subst (λ ts. (txs_after d k.instance ts).begun ≡ Some o.begin) (all_here k none) opened)) ∙ decided in cc
        by_later (a ∷ rest) some =
            ap (ended_by d o.begin) k.made ∙ end_here d k.instance k.answers a rest o.begin commit (ap (λ ys. k.answers ++ ys) (sym some) ∙ k.run_answers) (wanted_here k ∙ is) opened ∙ ap (λ z. Some (z, commit)) (sym (at_steps k))

    pub decide_leaves : Leaves c m (rows_after (visit_asks s end commit first_visit.path first_visit.after first_visit.item first_visit.value first_visit.at) c.now m)
    decide_leaves = own_put d c m h seats r g k finds (Kind.ReadLog (place_of r.id o.begin)) (PutRead (Value.Bool commit)) refl refl refl refl refl refl

    -- an item is given back, or no row changes
    module _ (cs : List Called) (af : Option ℕ) (y : ℕ × List ℕ) (u : Option Value) where
      abbrev item : Item
      item = record { func = (visited_by s cs).1; table = y.0; key = y.1 }

      abbrev freeing : WriteAt → EndState
      freeing w = record { path = cs; after = af; item = Some y; value = u; at = EndAt.Free w }

      abbrev freed : WriteAt → Rows
      freed w = rows_after (visit_asks s end commit cs af (Some y) u (EndAt.Free w)) c.now m

      -- who is visited has its row
      visited_row : (cs : List Called) → map.get m (decision_key s) ≡ Some (Row.ReadLog (Value.Bool commit)) → IsMember (first_end s end commit) m cs → is_some (map.get m (intent_key (free_place s end cs).intent (visited_by s cs).1)) ≡ true
      visited_row [] decided member = own_row d c m h seats r g k finds
      visited_row (b ∷ bs) decided member =
          let p : Member = visited_by s (b ∷ bs) in
          let part = members_joined d m h.histories h.lock_ahead h.rows h.well_formed s (end, commit) (tx_is_ended decided) b bs member in
          let there = ended_has_row d c m h p.0 part.instance s (end, commit) part.made part.enclosing (tx_is_ended decided) in
          ap (λ f. is_some (map.get m (intent_key p.0 f))) (sym part.func) ∙ ap (λ q. is_some (map.get m q)) (sym (one_home d c m h p.0 part.instance part.instance.func part.made there)) ∙ there

      free_leaves : (w : WriteAt) → Visited (end_walk r.id r.func o end commit (freeing w)) m → Leaves c m (freed w)
      free_leaves w visited = elim (puts_or_passes (head_key item) (free_place s end cs) (ByTx s) u c.now m (h.rows.chains item) w visited.sees) [
        | inl sees ↦ leaves_op c m seats c.now item (h.rows.chains item) (free_place s end cs) (ByTx s) (CellOp.Free u) w sees (visited_row cs visited.decided visited.member) (λ lock. cc)
        | inr past ↦ leaves_still c m seats (freed w) past.rows
      ]

    by_visit : (cs : List Called) (af : Option ℕ) (y : Option (ℕ × List ℕ)) (u : Option Value) (a : EndAt) → is_past a ≡ true → Visited (end_walk r.id r.func o end commit (record { path = cs; after = af; item = y; value = u; at = a })) m → Leaves c m (rows_after (visit_asks s end commit cs af y u a) c.now m)
    by_visit cs af y u EndAt.Decide past visited = cc
    by_visit cs af y u EndAt.Callees past visited = leaves_same c m seats
    by_visit cs af y u EndAt.Next past visited = leaves_same c m seats
    by_visit cs af (Some y) u (EndAt.Shadow i) past visited = leaves_looked c m seats c.now _
    by_visit cs af None u (EndAt.Shadow i) past visited = leaves_same c m seats
    by_visit cs af (Some y) u (EndAt.Free w) past visited = free_leaves cs af y u w visited
    by_visit cs af None u (EndAt.Free w) past visited = leaves_same c m seats
    by_visit [] af y u EndAt.Stamp past visited = let clash = visited.begins in cc
    by_visit (b ∷ bs) af y u EndAt.Stamp past visited = stamps c.now s (visited_by s (b ∷ bs)) (members_joined d m h.histories h.lock_ahead h.rows h.well_formed s (end, commit) (tx_is_ended visited.decided) b bs visited.member)

    pub visit_leaves : (v : EndState) → is_past v.at ≡ true → Visited (end_walk r.id r.func o end commit v) m → Leaves c m (rows_after (visit_asks s end commit v.path v.after v.item v.value v.at) c.now m)
    visit_leaves v past visited = by_visit v.path v.after v.item v.value v.at past visited
