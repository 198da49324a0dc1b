-- What an event of the intent collector makes of the ledger: it starts a run for a key that is taken out, or the table failed and one of
-- its failures pays; else all is as it was.
use Rattle.beldi_plain_laws.proofs.Maps.{same_some}
use Rattle.std.specs.{FinMap.nat_cmp-IsAntisymmetric, Cmp.Equal-is, Cmp.nat_cmp_total, Option.option_map, Ordering.is_eq, Ordering.nat_cmp}
use Rattle.std.specs.FinMap as map
use Rattle.std.specs.Prelude.{IsTrue}
use Rattle.std.specs.declared.alloc.AllocError.{AllocError}
use Rattle.std.proofs.{Math.Nat.one-le-mul, lemmas.Cmp.tied_itself}
use Rattle.std.proofs.Common.{Bool, Err, List, None, Ok, Option, Result, Some, [], ap, append-nil, append_assoc, arith, cond, eq-eqb, eqb-true, false, if◌then◌else◌, inl, inr, is_some, length, refl, subst, sym, true, ℕ, ◌*◌, ◌++◌, ◌+◌, ◌-◌, ◌<◌, ◌==◌, ◌^◌, ◌∙◌, ◌∷◌, ◌≡◌, ◌≤◌, ◌⊎◌}
use Rattle.beldi_value.specs.{Id.child_of, Id.has_no_hops, declared.id.IntentId.IntentId, declared.place.TxId.TxId}
use Rattle.beldi_tree.specs.declared.deployment.Deployment.{Deployment}
use Rattle.beldi_lang.specs.declared.effect.{Answer.Answer, Effect.Effect}
use Rattle.beldi_plain.specs.Plain.{Instance, effect_of}
use Rattle.beldi_plain_laws.specs.Txs.{tx_now}
use Rattle.beldi_row.{proofs.Least.next_row_least, specs.Key.RowKey, specs.Table.HasCause, specs.Table.IsNext, specs.Table.Rows, specs.Table.next_row, specs.declared.key.Kind.Kind, specs.declared.row.Body.Body, specs.declared.row.IntentRow.IntentRow, specs.declared.row.Row.Row, specs.declared.table.TableErr.TableErr}
use Rattle.beldi_query.specs.{Query.CameOn, Query.QueryReply, declared.query.Query.Query}
use Rattle.beldi_intent.specs.Intent.{IntentGoesOn, intent_in, intent_key, is_ended}
use Rattle.beldi_collect.specs.Collect.{collect_output, found_output, open_at, row_output}
use Rattle.beldi_call.specs.declared.{async_call.AsyncAt.AsyncAt}
use Rattle.beldi_step.{proofs.PutRun.put_got, specs.declared.run.RunAt.RunAt}
use Rattle.beldi_step.proofs.StepRuns.{of_plan}
use Rattle.beldi_step.specs.{HostStep.Core, HostStep.EventBy, HostStep.EventOn, HostStep.Followed, HostStep.collect_next, HostStep.collected, HostStep.counted, HostStep.has_run, HostStep.is_crowded, HostStep.last_moment, HostStep.launched, HostStep.new_run, HostStep.passed, Next.first_past, Next.next_run, declared.event.Event.Event, declared.event.EventReply.EventReply, declared.run.Begun.Begun, declared.run.Run.Run, declared.run.Stage.Stage}
use Rattle.beldi_histories.{proofs.Cases.by_cases, proofs.Cases.by_option, specs.RowMatching.CalleeBodyMatches, specs.RowMatching.IntentMatches, specs.RowMatching.RootMatches}
use Rattle.beldi_histories.specs.Matches.{RowMatches, has_ended as tx_has_ended}
use Rattle.beldi_upkeep.specs.Checked.{body_at}
use Rattle.beldi_schedule.specs.Settle.{is_turned_away, counts}
use Rattle.beldi_bound.specs.{Cost.body_cost, Cost.cost_from, Cost.effect_cost, Cost.kind_cost, Cost.step_cost, Cost.with_answers, Ends.IsIn, Ends.Sound, SettleWork.has_ended, SettleWork.one_more, SettleWork.seat}
use Rattle.beldi_bound.proofs.{BoundEntries.run_there, Facts.GoesOn, Facts.begun_left, BoundLists.in_without, BoundLists.without, BoundLists.without_in, BoundLists.without_sum}
use Rattle.beldi_bound.proofs.Ledger.{callee_key, if_free, spare_of, stuck_by, stuck_in, Covers, CoversAt, HasBody, IsCovered, IsMidway, IsStarted, Ledger, Pays, RoundsPay, acts, cost, due, find, spare, stands}

-- a key for which a run may be started, or was
abbrev pub MayRun : ℕ → Core → List RowKey → RowKey → Type 0
MayRun first c keys k = IsIn k keys ⊎ IsStarted first c k

module _ (d : Deployment) (room : ℕ) (e : Rows) (asked : IntentId → List Answer) (first most : ℕ) where
  -- ---- what is covered stays so, where runs stay, and what is midway
  module _ (past later : ℕ) (c b : Core) (m : Rows) (keys more : List RowKey) (moved : (k : RowKey) → MayRun first c keys k → MayRun first b more k) (i : ℕ) (r : Run)
      (midway : (g : Begun) → r.at ≡ RunAt.Begins g → IsMidway d room e asked first most past c m i r g → IsMidway d room e asked first most later b m i r g) where
    covers_at : (g : Begun) (left n : ℕ) → r.at ≡ RunAt.Begins g → (s : Stage) → CoversAt d room e asked first most past c m i r g left n s → CoversAt d room e asked first most later b m i r g left n s
    covers_at g left n is (Stage.Async AsyncAt.Open) h = h
    covers_at g left n is (Stage.Async w) (inl h) = inl h
    covers_at g left n is (Stage.Async w) (inr h) = inr (h.0, midway g is h.1)
    covers_at g left n is w h = h

    covers_by : (n : ℕ) (at : RunAt) → r.at ≡ at → Covers d room e asked first most past c m keys i r n at → Covers d room e asked first most later b m more i r n at
    covers_by n RunAt.Looks is h = h
    covers_by n (RunAt.Registers x) is h = h
    covers_by n (RunAt.Begins g) is h = (h.0, covers_at g (begun_left m h.0) (spare d room e asked first most (seat r) + n) is g.stage h.1, λ j call. moved j (h.2 j call))

    pub covered : (n : ℕ) → b.now ≡ c.now → IsCovered d room e asked first most past c m keys i r n → IsCovered d room e asked first most later b m more i r n
    covered n now h = record { covers = covers_by n r.at refl h.covers; late = λ l. h.late (subst (λ t. r.deadline < t) now l); worth = h.worth; some = h.some; looks = h.looks }

  -- a ledger is one of every host with these runs, at a number past which the next run is the same
  pub ledger_moves : (past later : ℕ) (c b : Core) (m : Rows) (runs : List (ℕ × ℕ)) (keys : List RowKey) → b.runs ≡ c.runs → b.now ≡ c.now → b.last_run ≡ c.last_run → ((i : ℕ) → next_run c past ≡ Some i → next_run b later ≡ Some i)
      → Ledger d room e asked first most past c m runs keys → Ledger d room e asked first most later b m runs keys
  ledger_moves past later c b m runs keys same now last next h = record {
    runs_covered = λ i r live. let x = h.runs_covered i r (sym (ap (λ z. map.get z i) same) ∙ live) in (x.0, x.1, covered past later c b m keys keys moved i r (midway i r) x.0 now x.2);
    open_covered = λ k some unended. moved k (h.open_covered k some unended);
    stuck_paid = λ k j call unended. moved j (h.stuck_paid k j call unended);
    keys_worth = h.keys_worth;
    since = subst (λ z. first ≤ z) (sym last) h.since;
  }
    where
      moved : (k : RowKey) → MayRun first c keys k → MayRun first b keys k
      moved k (inl x) = inl x
      moved k (inr s) = inr (record { number = s.number; run = s.run; since = s.since; live = ap (λ z. map.get z s.number) same ∙ s.live; own = s.own })

      midway : (i : ℕ) (r : Run) (g : Begun) → r.at ≡ RunAt.Begins g → IsMidway d room e asked first most past c m i r g → IsMidway d room e asked first most later b m i r g
      midway i r g is (acts n x) = acts (next i n) x
      midway i r g is (stands f v a b x y) = stands f v a b x y

  -- ---- a run is started for a key that is taken out
  module _ (past : ℕ) (c : Core) (m : Rows) (runs : List (ℕ × ℕ)) (keys : List RowKey) (h : Ledger d room e asked first most past c m runs keys) (new : Run) (b : Core) where
    abbrev its : RowKey
    its = seat new

    abbrev worth : ℕ
    worth = due d room e asked first most its

    abbrev runs_now : List (ℕ × ℕ)
    runs_now = (c.last_run + 1, worth) ∷ runs

    -- it looks, and has time; no live run has its number, and none that has begun is given turns
    launch_pays : b.runs ≡ map.insert c.runs (c.last_run + 1) new → b.now ≡ c.now → b.last_run ≡ c.last_run + 1 → new.at ≡ RunAt.Looks → c.now ≤ new.deadline → ((i : ℕ) (r : Run) → map.get c.runs i ≡ Some r → i ≤ c.last_run)
        → ((i : ℕ) (r : Run) (g : Begun) → next_run c past ≡ Some i → map.get c.runs i ≡ Some r → r.at ≡ RunAt.Begins g → ⊥) → 1 ≤ worth → IsIn its keys → HasBody d room e asked first most m new
        → Pays d room e asked first most past runs keys 1 0 b m
    launch_pays is now last looks soon numbers idle some there finds = record {
      runs_then = runs_now;
      keys_then = without its keys;
      ledger = record {
        runs_covered = by_number;
        open_covered = λ k costs unended. moved k (h.open_covered k costs unended);
        stuck_paid = λ k j call unended. moved j (h.stuck_paid k j call unended);
        keys_worth = λ k at. h.keys_worth k (without_in k its keys at);
        since = let s = h.since in omega (arith, last, s);
      };
      less = let sum = without_sum (one_more (due d room e asked first most)) its keys there in omega (arith, sum);
    }
      where
        got : (i : ℕ) → map.get b.runs i ≡ cond (is_eq (nat_cmp i (c.last_run + 1))) (Some new) (map.get c.runs i)
        got i = ap (λ z. map.get z i) is ∙ put_got c.runs (c.last_run + 1) (Some new) i

        stays : (i : ℕ) (r : Run) → map.get c.runs i ≡ Some r → map.get b.runs i ≡ Some r
        stays i r live = by_cases (is_eq (nat_cmp i (c.last_run + 1)))
            (λ t. let same = nat_cmp-IsAntisymmetric i (c.last_run + 1) ((Equal-is (nat_cmp i (c.last_run + 1))).0 t) in let less = numbers i r live in absurd (omega (arith, same, less)))
            (λ t. got i ∙ ap (λ z. cond z (Some new) (map.get c.runs i)) t ∙ live)

        newest : map.get b.runs (c.last_run + 1) ≡ Some new
        newest = got (c.last_run + 1) ∙ ap (λ z. cond z (Some new) (map.get c.runs (c.last_run + 1))) (number_self (c.last_run + 1))
          where
            number_self : (n : ℕ) → is_eq (nat_cmp n n) ≡ true
            number_self n = ap is_eq (tied_itself nat_cmp_total n)

        moved : (k : RowKey) → MayRun first c keys k → MayRun first b (without its keys) k
        moved k (inr s) = inr (record { number = s.number; run = s.run; since = s.since; live = stays s.number s.run s.live; own = s.own })
        moved k (inl x) = elim (in_without k its keys x) [
          | inl same ↦ inr (record { number = c.last_run + 1; run = new; since = let s = h.since in omega (arith, s); live = newest; own = sym same })
          | inr y ↦ inl y
        ]

        midway : (i : ℕ) (r : Run) → map.get c.runs i ≡ Some r → (g : Begun) → r.at ≡ RunAt.Begins g → IsMidway d room e asked first most past c m i r g → IsMidway d room e asked first most past b m i r g
        midway i r live g at (acts n x) = absurd (idle i r g n live at)
        midway i r live g at (stands f v a b x y) = stands f v a b x y

        new_covers : (at : RunAt) → at ≡ RunAt.Looks → Covers d room e asked first most past b m (without its keys) (c.last_run + 1) new worth at
        new_covers RunAt.Looks at = (some, λ u. omega arith)
        new_covers w at = cc

        new_covered : IsCovered d room e asked first most past b m (without its keys) (c.last_run + 1) new worth
        new_covered = let w = h.keys_worth its there in record { covers = new_covers new.at looks; late = λ l. absurd (omega (arith, l, now, soon)); worth = λ u. w; some = λ l. omega (arith, w, some); looks = λ l u. finds }

        by_number : (i : ℕ) (r : Run) → map.get b.runs i ≡ Some r → (n : ℕ) × (find i runs_now ≡ Some n) × IsCovered d room e asked first most past b m (without its keys) i r n
        by_number i r live = by_cases (is_eq (nat_cmp i (c.last_run + 1)))
            (λ t. let same : i ≡ c.last_run + 1 = nat_cmp-IsAntisymmetric i (c.last_run + 1) ((Equal-is (nat_cmp i (c.last_run + 1))).0 t) in
            let own : new ≡ r = same_some (sym newest ∙ ap (map.get b.runs) (sym same) ∙ live) in
            (worth, ap (λ z. if z then Some worth else find i runs) (eq-eqb i (c.last_run + 1) same), subst (λ z. IsCovered d room e asked first most past b m (without its keys) z r worth) (sym same) (subst (λ z. IsCovered d room e asked first most past b m (without its keys) (c.last_run + 1) z worth) own new_covered)))
            (λ t. let old = sym (got i ∙ ap (λ z. cond z (Some new) (map.get c.runs i)) t) ∙ live in
            let x = h.runs_covered i r old in
            let less = numbers i r old in
            (x.0, ap (λ z. if z then Some worth else find i runs) (apart i less) ∙ x.1, covered past past c b m keys (without its keys) moved i r (midway i r old) x.0 now x.2))
          where
            same_some : {x y : Run} → Some x ≡ Some y → x ≡ y
            same_some w = cc

            apart : (i : ℕ) → i ≤ c.last_run → (i == (c.last_run + 1)) ≡ false
            apart i l = by_cases (i == (c.last_run + 1)) (λ t. let same = eqb-true i (c.last_run + 1) t in absurd (omega (arith, l, same))) (λ t. t)

-- ---- the row that is found
-- the row of an intent that has a body stands in the home of that body's function, or the root's
home_is : (histories : TxId → Bool) (home : ℕ) (i : IntentRow) (b : Body) (q : Option Instance) (root : Bool) → i.body ≡ Some b → IntentMatches histories root home (Some (Row.Intent i)) q → home ≡ (if root then 0 else b.func)
home_is histories home i b q true has h = by_cases (home == 0) (λ t. eqb-true home 0 t) (λ t. let none : RootMatches false (Some (Row.Intent i)) q = subst (λ z. RootMatches z (Some (Row.Intent i)) q) t h in cc)
home_is histories home i b q false has h = let x = subst (λ z. CalleeBodyMatches home z i.outcome q) has h.body in sym x.1

-- an intent that has a body and has not ended
record IsOpen (k : RowKey) (r : Row) (id : IntentId) (b : Body) : Type 0 where
  intent : IntentRow
  key : k.kind ≡ Kind.Intent id
  row : r ≡ Row.Intent intent
  lasts : is_ended intent ≡ false
  has : intent.body ≡ Some b

is_open : (k : RowKey) (r : Row) (x : IntentId × Body) → open_at k.kind r ≡ Some x → IsOpen k r x.0 x.1
is_open k r x = by_row k.kind refl r refl
  where
    by_body : (id : IntentId) (i : IntentRow) → k.kind ≡ Kind.Intent id → r ≡ Row.Intent i → (b : Bool) → is_ended i ≡ b → (o : Option Body) → i.body ≡ o → option_map (λ y. (id, y)) (if b then None else o) ≡ Some x → IsOpen k r x.0 x.1
    by_body id i at is true ended o has h = cc
    by_body id i at is false lasts None has h = cc
    by_body id i at is false lasts (Some y) has h = subst (λ (z : IntentId × Body). IsOpen k r z.0 z.1) (same_some h) (record { intent = i; key = at; row = is; lasts = lasts; has = has })

    by_row : (kind : Kind) → k.kind ≡ kind → (s : Row) → r ≡ s → open_at kind s ≡ Some x → IsOpen k r x.0 x.1
    by_row (Kind.Intent id) at (Row.Intent i) is h = by_body id i at is (is_ended i) refl i.body refl h
    by_row (Kind.Intent id) at s is h = cc
    by_row kind at s is h = cc

module _ (d : Deployment) (room : ℕ) (e : Rows) (asked : IntentId → List Answer) (first most : ℕ) where
  -- a key with a body in the end has something due, also where its last call is never answered
  last_costs : (id : IntentId) (b : Body) (given rest : List Answer) → step_cost d e id b (given ++ rest) ≤ cost_from d e id b given rest
  last_costs id b given [] = let same = ap (step_cost d e id b) (append-nil given) in omega (arith, same)
  last_costs id b given (a ∷ rest) = let more = last_costs id b (given ++ a ∷ []) rest in let same = ap (step_cost d e id b) (append_assoc given (a ∷ []) rest) in omega (arith, more, same)

  call_costs : (q : Instance) (t : Option TxId) (id : IntentId) (step : ℕ) (f : Effect) → spare_of d room e asked first most (if_free d room e asked first most (callee_key d room e asked first most id step f)) ≤ effect_cost e q t step f
  call_costs q None id step (Effect.Call g v) = at_most (cost d room e asked first most (intent_key (child_of id step) g) == 0)
    where
      at_most : (b : Bool) → spare_of d room e asked first most (if b then Some (intent_key (child_of id step) g) else None) ≤ 2
      at_most true = omega arith
      at_most false = omega arith
  call_costs q (Some t) id step (Effect.Call g v) = at_most (cost d room e asked first most (intent_key (child_of id step) g) == 0)
    where
      at_most : (b : Bool) → spare_of d room e asked first most (if b then Some (intent_key (child_of id step) g) else None) ≤ 2
      at_most true = omega arith
      at_most false = omega arith
  call_costs q t id step f = omega arith

  body_costs : (id : IntentId) (b : Option Body) → is_some b ≡ true → spare_of d room e asked first most (stuck_by d room e asked first most id b) + 1 ≤ body_cost d e asked id b
  body_costs id None h = cc
  body_costs id (Some b) h =
      let q = with_answers b (asked id) in
      let call = call_costs q (tx_now d id q) id (length (asked id)) (effect_of d q) in
      let last = last_costs id b [] (asked id) in omega (arith, call, last)

  costs_some : (k : RowKey) (id : IntentId) → k.kind ≡ Kind.Intent id → is_some (body_at (map.get e k)) ≡ true → 1 ≤ due d room e asked first most k
  costs_some k id kind has =
      let is = subst (λ z. spare_of d room e asked first most (stuck_in d room e asked first most z (map.get e k)) + 1 ≤ kind_cost d e asked z (map.get e k)) (sym kind) (body_costs id (body_at (map.get e k)) has) in omega (arith, is)

  row_in : (o : Option Row) (j : IntentRow) → intent_in o ≡ Some j → o ≡ Some (Row.Intent j)
  row_in None j h = cc
  row_in (Some (Row.Intent i)) j h = cc
  row_in (Some w) j h = cc

  module _ (past old new : ℕ) (c b : Core) (m n : Rows) (x : EventReply) (runs : List (ℕ × ℕ)) (keys : List RowKey) (sound : Sound d c m) (goes : GoesOn n e) (below : new < 2 ^ 64 - 1) (soon : c.now ≤ last_moment)
      (idle : (i : ℕ) (r : Run) (g : Begun) → next_run c past ≡ Some i → map.get c.runs i ≡ Some r → r.at ≡ RunAt.Begins g → ⊥) (not_away : is_turned_away x ≡ false) (h : Ledger d room e asked first most past c m runs keys) where
    abbrev Paid : Type 0
    Paid = Pays d room e asked first most past runs keys (if counts x then 1 else 0) (new - old) b n

    abbrev Comes : Core × EventReply → Type 0
    Comes p = ◌≡◌ {A = Core × EventReply} (b, x) p

    abbrev turns : Bool → ℕ
    turns t = if t then 1 else 0

    -- all runs are as before: it counts nothing, or a failure pays for it
    same : b.runs ≡ c.runs → b.now ≡ c.now → b.last_run ≡ c.last_run → n ≡ m → turns (counts x) ≤ (new - old) * (most + 1) → Paid
    same is now last rows paid = record {
      runs_then = runs;
      keys_then = keys;
      ledger = subst (λ z. Ledger d room e asked first most past b z runs keys) (sym rows) (ledger_moves d room e asked first most past past c b m runs keys is now last (λ i next. ap (λ z. first_past past (map.entries z)) is ∙ next) h);
      less = omega (arith, paid);
    }

    not_counted : counts x ≡ false → turns (counts x) ≤ (new - old) * (most + 1)
    not_counted none = let zero : turns (counts x) ≡ 0 = ap turns none in omega (arith, zero)

    as_before : (z : Core) (y : EventReply) → Comes (z, y) → counts y ≡ false → z.runs ≡ c.runs → z.now ≡ c.now → z.last_run ≡ c.last_run → n ≡ m → Paid
    as_before z y is none runs_same now last rows =
        let core : b ≡ z = ap (λ (p : Core × EventReply). p.0) is in
        same (ap (λ (w : Core). w.runs) core ∙ runs_same) (ap (λ (w : Core). w.now) core ∙ now) (ap (λ (w : Core). w.last_run) core ∙ last) rows (not_counted (ap (λ (p : Core × EventReply). counts p.1) is ∙ none))

    -- an intent is found that has a body, has not ended and has no run
    module _ (k : RowKey) (r : Row) (y : IntentId × Body) (there : map.get m k ≡ Some r) (found : IsOpen k r y.0 y.1) (rows : n ≡ m) where
      at : map.get m k ≡ Some (Row.Intent found.intent)
      at = there ∙ ap Some found.row

      its_seat : k ≡ intent_key y.0 y.1.func
      its_seat = let right = sound.upkeep.invariant in
          let matches = subst (λ z. IntentMatches (tx_has_ended d right.histories) (has_no_hops y.0.hops) k.home z (map.get right.histories y.0)) at (subst (λ z. RowMatches d right.histories k.home z (map.get m k)) found.key (right.rows.keys k)) in
          let home = home_is (tx_has_ended d right.histories) k.home found.intent y.1 (map.get right.histories y.0) (has_no_hops y.0.hops) found.has matches in
          λ i. record { home = home i; kind = found.key i }

      has_due : 1 ≤ due d room e asked first most k
      has_due = let there_then = subst (λ z. IntentGoesOn (map.get z k) (map.get e k)) rows (goes.intents k) found.intent (ap intent_in at) in
          costs_some k y.0 found.key (ap is_some (ap body_at (row_in (map.get e k) there_then.0 there_then.1) ∙ there_then.2.body y.1 found.has))

      unended : has_ended (map.get m k) ≡ false
      unended = ap has_ended at ∙ found.lasts

      in_keys : has_run c.runs y.0 ≡ false → IsIn k keys
      in_keys none = elim (h.open_covered k (omega (arith, has_due)) unended) [
        | inl is ↦ is
        | inr s ↦ let its : s.run.id ≡ y.0 = intent_is (ap (λ (z : RowKey). z.kind) (s.own ∙ its_seat)) in let clash = sym (run_there c.runs s.number s.run y.0 s.live its) ∙ none in cc
      ]
        where
          intent_is : {v w : IntentId} → Kind.Intent v ≡ Kind.Intent w → v ≡ w
          intent_is h = cc

      abbrev otherwise : Core × EventReply
      otherwise = launched d (record (counted c) { cursor = k }) y.0 y.1.func

      abbrev unless_crowded : Bool → Core × EventReply
      unless_crowded t = if t then (counted c, EventReply.Crowded) else otherwise

      launch : has_run c.runs y.0 ≡ false → Comes otherwise → Paid
      launch none is =
          let core = ap (λ (p : Core × EventReply). p.0) is in
          let one : turns (counts x) ≡ 1 = ap (λ (p : Core × EventReply). turns (counts p.1)) is in
          let p = launch_pays d room e asked first most past c m runs keys h (new_run d c y.0 y.1.func) b (ap (λ (w : Core). w.runs) core) (ap (λ (w : Core). w.now) core) (ap (λ (w : Core). w.last_run) core) refl (omega (arith, soon))
          (λ i r live. (sound.upkeep.invariant.runs.numbers i (subst (λ (z : Option Run). IsTrue (is_some z)) (sym live) refl)).1) idle (subst (λ z. 1 ≤ due d room e asked first most z) its_seat has_due) (subst (λ z. IsIn z keys) its_seat (in_keys none))
          (record { body = y.1; there = ap (λ z. body_at (map.get m z)) (sym its_seat) ∙ ap body_at at ∙ found.has; func = refl }) in
          record { runs_then = p.runs_then; keys_then = p.keys_then; ledger = subst (λ z. Ledger d room e asked first most past b z p.runs_then p.keys_then) (sym rows) p.ledger; less = let less = p.less in omega (arith, less, one) }

      by_run : Comes (collected d (counted c) k y.0 y.1.func) → Paid
      by_run is = by_cases (has_run c.runs y.0)
          (λ t. as_before (passed (counted c) k).0 EventReply.Passed (is ∙ ap (λ z. if z then passed (counted c) k else unless_crowded (is_crowded c)) t) refl refl refl refl rows)
          (λ t. let rest = is ∙ ap (λ z. if z then passed (counted c) k else unless_crowded (is_crowded c)) t in
          by_cases (is_crowded c)
          (λ u. as_before (counted c) EventReply.Crowded (rest ∙ ap unless_crowded u) refl refl refl refl rows)
          (λ u. launch t (rest ∙ ap unless_crowded u)))

    by_found : (o : Option (RowKey × Row)) → next_row m c.cursor ≡ o → n ≡ m → Comes (collect_next d (counted c) (found_output o)) → Paid
    by_found None next rows is = as_before _ EventReply.Round is refl refl refl refl rows
    by_found (Some w) next rows is = by_option (open_at w.0.kind w.1)
        (λ none. as_before _ EventReply.Passed (is ∙ ap (λ z. collect_next d (counted c) (row_output w.0 z)) none) refl refl refl refl rows)
        (λ y some. by_run w.0 w.1 y (subst (IsNext m c.cursor) next (next_row_least m c.cursor)).1 (is_open w.0 w.1 y some) rows (is ∙ ap (λ z. collect_next d (counted c) (row_output w.0 z)) some))

    by_query : (w : Result QueryReply TableErr) → Followed d Event.Ic (counted c) w b (Ok x) → CameOn (Query.After c.cursor) c.now room w m n → HasCause old new w → Paid
    by_query (Ok t) is came cause = by_found (next_row m c.cursor) refl came.0 (is ∙ ap (λ z. collect_next d (counted c) (collect_output z)) came.1)
    by_query (Err TableErr.OutOfMemory) is came cause = let clash = ap (λ (p : Core × Result EventReply AllocError). p.1) is in cc
    by_query (Err TableErr.Failed) is came cause =
        let core = ap (λ (p : Core × Result EventReply AllocError). p.0) is in
        let rose = cause.failed refl in
        let one : turns (counts x) ≤ 1 = at_most (counts x) in
        let paid = one-le-mul {a = new - old} {b = most + 1} (omega (arith, rose, below)) (omega arith) in
        same (ap (λ (w : Core). w.runs) core) (ap (λ (w : Core). w.now) core) (ap (λ (w : Core). w.last_run) core) came (omega (arith, one, paid))
      where
        at_most : (t : Bool) → turns t ≤ 1
        at_most true = omega arith
        at_most false = omega arith
    by_query (Err (TableErr.Full live most)) is came cause = absurd came

    by_event : EventOn d room old new Event.Ic c m b n (Ok x) → Paid
    by_event = of_plan d Event.Ic c (λ p. EventBy d room old new Event.Ic (counted c) p m b n (Ok x) → Paid) (λ t s. by_query s.0 s.1 s.2 s.3) (λ t s. absurd (away s.0.1 refl)) (λ s. absurd (away s.0.1 refl))
      where
        away : {y : EventReply} → x ≡ y → is_turned_away y ≡ true → ⊥
        away is h = let clash = sym h ∙ sym (ap is_turned_away is) ∙ not_away in cc

  pub rounds_pay : RoundsPay d room e asked first most
  rounds_pay past old new c b m n x runs keys z sound later last asks goes below soon idle event not_away h = by_event past old new c b m n x runs keys sound goes below soon idle not_away h event
