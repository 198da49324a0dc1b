-- Every event keeps the seats of rows, and what live runs owe.
use Rattle.beldi_invariant.proofs.Names.{Begins, Begun, Body, Content, Core, Deployment, Inside, Knows, KnowsAt, KnowsBody, Looks, None, Option, Query, Registers, Invariant, Row, RowKey, Rows, Run, RunAt, Some, after_act, ap, asks_at, bind_asks, body_registered, body_told, chain, count_changes, func_at, get-empty, has_finish, head_key, inl, inr, intent_key, is_some, key_cmp, key_in, nat_cmp, refl, rows_after, run_asks, run_told, stage_output, subst, sym, told_at, query_reply, true, Value, ℕ, ◌∙◌, ◌≡◌, ◌⊎◌, note_at}
use Rattle.beldi_invariant.proofs.Names.map
use Rattle.beldi_invariant.proofs.Names.standing
use Rattle.beldi_invariant.proofs.Events.{keeps_invariant}
use Rattle.beldi_chain.proofs.OneRow.{no_content}
use Rattle.beldi_intent.specs.Intent.{issue_asks}
use Rattle.beldi_invokelog.specs.InvokeLog.{invoke_key}
use Rattle.beldi_step.specs.Run.{place_of}
use Rattle.beldi_upkeep.specs.Callees.{BeginsSeated, KeepsSeats, RunOwes, RunsOwe, Seats, owner_key}
use Rattle.beldi_upkeep.proofs.{FirstTurns.begins_owe, FirstTurns.not_passed, FirstTurns.owner_open, FromInvariant.below_key, Leaving.Leaves, Leaving.leaves_looked, Leaving.leaves_still, RowSets.binds, RowSets.issues, RowSets.registers, OutputOwes.Owes, OutputOwes.output_owe, SeatRows.owes_on, Shapes.RunFrom, Shapes.RunsFrom, Shapes.Rooted, Shapes.TurnOf, Shapes.has_begun, Shapes.shape, TurnKeeps.left, TurnKeeps.said}
use Rattle.beldi_row.specs.declared.act.Act.{Act}

-- ---- over no rows
no_row : (k : RowKey) → map.get (map.empty {X = Row} {R = key_cmp}) k ≡ None
no_row k = get-empty key_cmp k

no_finish : (k : RowKey) → has_finish (map.get (map.empty {X = Row} {R = key_cmp}) k) ≡ true → ⊥
no_finish k is = let clash = sym (ap has_finish (no_row k)) ∙ is in cc

pub seats_begin : BeginsSeated
seats_begin now = (
  record {
    has_seat = λ k i of there. let clash = sym (ap is_some (no_row k)) ∙ there in cc;
    ends_last = λ t home i r b over. absurd (no_finish (owner_key t) over);
    owns_none = λ t x over owned. no_finish (owner_key t) over;
    owner_has_row = λ o x owned. let clash = sym (ap (λ (z : Content). z.owner) (no_content (chain map.empty (head_key x)) (no_row (head_key x)))) ∙ owned in cc;
    noted_has_row = λ x p noted. let clash = sym (ap (λ (z : Content). is_some (note_at z.notes p)) (no_content (chain map.empty (head_key x)) (no_row (head_key x)))) ∙ noted in cc;
    registered = λ f i n c home r b at. let clash = sym (no_row (invoke_key f (place_of i n))) ∙ at in cc;
    enrolled = λ f i n c at. let clash = sym (no_row (invoke_key f (place_of i n))) ∙ at in cc;
  },
  record { each = λ n r g live. let clash = sym (get-empty nat_cmp n) ∙ live in cc },
)

-- ---- a turn
module _ (d : Deployment) (c : Core) (m : Rows) (h : Invariant d c m) (seats : Seats m) (owe : RunsOwe c m) (i : ℕ) (r : Run) (live : map.get c.runs i ≡ Some r) where
  abbrev after : Rows
  after = rows_after (run_asks r) c.now m

  -- its run, as it goes on, knows what it has to and owes what it has to
  abbrev GoesOn : standing.RunAt → Type 0
  GoesOn at = let n = rows_after (asks_at r at) c.now m in Leaves c m n × ((b : Core) (h2 : Invariant d b n) → Owes d h2.histories n r (told_at d (count_changes c.book) r at (query_reply (asks_at r at) c.now m)).next)

  begun_goes : (g : Begun) → r.at ≡ Begins g → (k : Knows d h.histories r g) → Inside m h.plain c.book k g.stage → GoesOn (Begins g)
  begun_goes g at k finds =
      let n = rows_after (asks_at r (Begins g)) c.now m in
      let leaves : Leaves c m n = left d c m h seats owe i r live g at k finds g.stage g.machine.effect g.tx refl refl refl finds.here in (
        leaves,
        λ b h2.
            let owed : RunOwes n r.id g = owes_on m n r.id g leaves.on (λ t passed all. leaves.finished t (record { number = i; run = r; begun = g; live = live; at = at; passed = passed }) all) (owe.each i r g live at) in
            output_owe d h2.histories n r g at owed (stage_output r.id r.func g.caller g.tx (count_changes c.book) g.machine.steps g.machine.effect g.stage (query_reply (asks_at r (Begins g)) c.now m))
            (said d c m h seats owe i r live g at k finds b n h2 leaves owed g.stage g.machine.effect g.tx refl refl refl finds.here refl),
      )

  registers_goes : (y : Body) → KnowsBody h.histories r y → GoesOn (Registers y)
  registers_goes y k =
      let z = k.body in
      let func = ap (λ (x : Body). x.func) z.body in
      let seat = below_key r.id y.func k.callee in (
        subst (λ q. Leaves c m (after_act (Act.Register y) c.now q m)) (sym seat) (registers c m seats c.now r.id y seat (λ none t in_it.
            let absent = subst (λ f. map.get m (key_in f r.id) ≡ None) func none in
            let inner = ap (λ (x : Body). x.tx) (sym z.body) ∙ in_it in
            (owner_open d c m h r.id z.instance z.made absent t inner, not_passed d c m h r.id z.instance z.made absent t inner))),
        λ b h2. begins_owe d b (rows_after (asks_at r (Registers y)) c.now m) h2 r (func_at d r.func) (body_registered r.func y (query_reply (asks_at r (Registers y)) c.now m)),
      )

  at_goes : (at : standing.RunAt) → r.at ≡ at → KnowsAt d m h.plain c.book h.histories r at → GoesOn at
  at_goes Looks is k = (leaves_looked c m seats c.now (intent_key r.id r.func), λ b h2. begins_owe d b (rows_after (asks_at r Looks) c.now m) h2 r (func_at d r.func) (body_told r.func (query_reply (asks_at r Looks) c.now m)))
  at_goes (Registers y) is k = registers_goes y k
  at_goes (Begins g) is k = begun_goes g is k.0 k.1

  pub turn_goes : GoesOn r.at
  turn_goes = at_goes r.at refl (subst (RunAt d m h.plain c.book h.histories) live (h.runs.runs i))

-- ---- the live runs
module _ (d : Deployment) (c b : Core) (m n : Rows) (owe : RunsOwe c m) (leaves : Leaves c m n) (h2 : Invariant d b n) (next : Option Run) (from : RunsFrom c.runs next b.runs) (goes : (r : Run) (g : Begun) → next ≡ Some r → r.at ≡ Begins g → Knows d h2.histories r g → RunOwes n r.id g) where
  runs_owe : RunsOwe b n
  runs_owe = record { each = λ i r g live at. by_from i r g live at (from i r live) }
    where
      by_from : (i : ℕ) (r : Run) (g : Begun) → map.get b.runs i ≡ Some r → r.at ≡ Begins g → RunFrom c.runs next i r → RunOwes n r.id g
      by_from i r g live at (inl was) = owes_on m n r.id g leaves.on (λ t passed all. leaves.finished t (record { number = i; run = r; begun = g; live = was; at = at; passed = passed }) all) (owe.each i r g was at)
      by_from i r g live at (inr (inl new)) = let clash = sym (ap has_begun at) ∙ new in cc
      by_from i r g live at (inr (inr turned)) = goes r g turned at (subst (KnowsAt d n h2.plain b.book h2.histories r) at (subst (RunAt d n h2.plain b.book h2.histories) live (h2.runs.runs i))).0

pub keeps_seats : KeepsSeats
keeps_seats d room old new e c b m n r h seats owe s =
    let h2 = keeps_invariant d room old new e c b m n r h s in
    elim (shape d room old new e c b m n r s) [
      | inl still ↦ let leaves = leaves_still c m seats n still.rows in (leaves.seats, runs_owe d c b m n owe leaves h2 None still.runs (λ r g is. cc))
      | inr (inl root) ↦ let leaves = rooted root in (leaves.seats, runs_owe d c b m n owe leaves h2 None root.runs (λ r g is. cc))
      | inr (inr turn) ↦
          let goes = turn_goes d c m h seats owe turn.number turn.run turn.live_there in
          let leaves : Leaves c m n = subst (Leaves c m) (sym turn.rows) goes.0 in
          (leaves.seats, runs_owe d c b m n owe leaves h2 _ turn.runs (turned turn h2 (goes.1 b)))
    ]
  where
    turned : (turn : TurnOf d c.runs c.now (count_changes c.book) b.runs m n) (h2 : Invariant d b n) → ((h2 : Invariant d b (rows_after (run_asks turn.run) c.now m)) → Owes d h2.histories (rows_after (run_asks turn.run) c.now m) turn.run (run_told d (count_changes c.book) turn.run (query_reply (run_asks turn.run) c.now m)).next)
        → Owes d h2.histories n turn.run (run_told d (count_changes c.book) turn.run (query_reply (run_asks turn.run) c.now m)).next
    turned turn = subst (λ l. (h2 : Invariant d b l) → ((h3 : Invariant d b (rows_after (run_asks turn.run) c.now m)) → Owes d h3.histories (rows_after (run_asks turn.run) c.now m) turn.run (run_told d (count_changes c.book) turn.run (query_reply (run_asks turn.run) c.now m)).next)
        → Owes d h2.histories l turn.run (run_told d (count_changes c.book) turn.run (query_reply (run_asks turn.run) c.now m)).next) (sym turn.rows) (λ h2 goes. goes h2)

    rooted : Rooted d c.runs c.now (count_changes c.book) b.runs m n → Leaves c m n
    rooted root = subst (Leaves c m) (sym root.rows) (by_asked root.query root.asked)
      where
        by_asked : (q : Query) → ((t : ℕ) × (q ≡ issue_asks t)) ⊎ ((t : ℕ) × ((f : ℕ) × ((a : Value) × (q ≡ bind_asks t f a)))) → Leaves c m (rows_after q c.now m)
        by_asked q (inl is) = subst (λ q. Leaves c m (rows_after q c.now m)) (sym is.1) (issues c m seats c.now is.0)
        by_asked q (inr is) = subst (λ q. Leaves c m (rows_after q c.now m)) (sym is.1.1.1) (binds c m seats c.now is.0 is.1.0 is.1.1.0)
