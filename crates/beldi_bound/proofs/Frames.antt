-- What an event leaves of a ledger: the runs that it does not touch are covered as before, and who may get a run has one or may get one.
use Rattle.beldi_plain_laws.proofs.Maps.{same_some}
use Rattle.std.specs.FinMap as map
use Rattle.std.proofs.Common.{◌≡◌, ◌⊎◌, inl, inr, ℕ, ◌+◌, ◌<◌, ◌≤◌, ◌==◌, ◌||◌, eqb-true, Bool, true, false, List, [], ◌∷◌, ◌++◌, length, append-nil, append_assoc, Option, Some, None, is_some, if◌then◌else◌, refl, sym, ap, subst, ◌∙◌, arith}
use Rattle.beldi_value.specs.{Id.child_of, declared.id.IntentId.IntentId}
use Rattle.beldi_tree.specs.declared.deployment.Deployment.{Deployment}
use Rattle.beldi_lang.specs.declared.effect.{Answer.Answer}
use Rattle.beldi_plain.specs.Plain.{effect_of}
use Rattle.beldi_row.specs.{Key.RowKey, Table.Rows, declared.key.Kind.Kind, declared.row.Body.Body, declared.row.IntentRow.IntentRow, declared.row.Row.Row}
use Rattle.beldi_intent.specs.Intent.{GoesOn as IntentStays, IntentGoesOn, intent_in, intent_key, is_ended}
use Rattle.beldi_call.specs.declared.{async_call.AsyncAt.AsyncAt, call.CallAt.CallAt}
use Rattle.beldi_histories.proofs.Cases.{by_cases, by_option}
use Rattle.beldi_step.specs.{HostStep.Core, Next.next_run, declared.run.Begun.Begun, declared.run.Run.Run, declared.run.RunAt.RunAt, declared.run.Stage.Stage}
use Rattle.beldi_upkeep.specs.Checked.{body_at}
use Rattle.beldi_bound.specs.{Cost.cost_from, Cost.step_cost, Cost.with_answers, Ends.IsIn, SettleWork.has_ended, SettleWork.seat}
use Rattle.beldi_bound.proofs.{BoundFalls.left_falls, Facts.GoesOn, Facts.Stands, Facts.begun_left}
use Rattle.beldi_bound.proofs.Ledger.{CoversAt, Covers, IsCovered, IsMidway, IsPaid, Ledger, callee_key, cost, due, find, if_free, spare, stuck, stuck_by, stuck_in}

-- ---- rows that go on
module _ {m n : Rows} (g : GoesOn m n) where
  ended_row : (i j : IntentRow) → IntentStays i j → is_ended i ≡ true → is_ended j ≡ true
  ended_row i j s h = by_option i.outcome
      (λ none. by_option i.finish (λ bare. let clash : false ≡ true = sym (ap (λ o. is_some o || is_some i.finish) none ∙ ap is_some bare) ∙ h in cc) (λ t is. or_last (is_some j.outcome) (is_some j.finish) (ap is_some (s.finish t is))))
      (λ o is. or_first (is_some j.outcome) (is_some j.finish) (ap is_some (s.outcome o is)))
    where
      or_first : (a b : Bool) → a ≡ true → (a || b) ≡ true
      or_first true b h = refl
      or_first false b h = cc

      or_last : (a b : Bool) → b ≡ true → (a || b) ≡ true
      or_last true b h = refl
      or_last false b h = h

  ended_at : (r s : Option Row) → IntentGoesOn r s → has_ended r ≡ true → has_ended s ≡ true
  ended_at (Some (Row.Intent i)) s h e = let j = h i refl in by_row s j.1 (ended_row i j.0 j.2 e)
    where
      by_row : (s : Option Row) {j : IntentRow} → intent_in s ≡ Some j → is_ended j ≡ true → has_ended s ≡ true
      by_row (Some (Row.Intent k)) is e = ap is_ended (same is) ∙ e
        where
          same : {x y : IntentRow} → Some x ≡ Some y → x ≡ y
          same h = cc
      by_row None is e = cc
      by_row (Some r) is e = cc
  ended_at r s h e = cc

  pub ended_stays : (k : RowKey) → has_ended (map.get m k) ≡ true → has_ended (map.get n k) ≡ true
  ended_stays k = ended_at (map.get m k) (map.get n k) (g.intents k)

  pub open_before : (k : RowKey) → has_ended (map.get n k) ≡ false → has_ended (map.get m k) ≡ false
  open_before k h = by_cases (has_ended (map.get m k)) (λ t. let clash : true ≡ false = sym (ended_stays k t) ∙ h in cc) (λ f. f)

  pub begun_falls : {d : Deployment} {e : Rows} {asked : IntentId → List Answer} {r : Run} {b : Begun} (s : Stands d e asked r b) → begun_left n s ≤ begun_left m s
  begun_falls {e = e} {r = r} {b = b} s = let h = left_falls e m n g.keys r.func r.id b.tx b.machine.steps b.machine.effect b.stage in omega (arith, h)

  body_stays : (r s : Option Row) → IntentGoesOn r s → (b : Body) → body_at r ≡ Some b → body_at s ≡ Some b
  body_stays (Some (Row.Intent i)) s h b is = let j = h i refl in by_row s j.1 (j.2.body b is)
    where
      by_row : (s : Option Row) {j : IntentRow} → intent_in s ≡ Some j → j.body ≡ Some b → body_at s ≡ Some b
      by_row (Some (Row.Intent k)) is has = ap (λ (z : IntentRow). z.body) (same is) ∙ has
        where
          same : {x y : IntentRow} → Some x ≡ Some y → x ≡ y
          same h = cc
      by_row None is has = cc
      by_row (Some r) is has = cc
  body_stays r s h b is = cc

  pub body_on : (k : RowKey) (b : Body) → body_at (map.get m k) ≡ Some b → body_at (map.get n k) ≡ Some b
  body_on k = body_stays (map.get m k) (map.get n k) (g.intents k)

-- ---- costs
-- an effect that begins after some answers costs no more than all after fewer
module _ (d : Deployment) (e : Rows) (id : IntentId) (b : Body) where
  pub last_few : (given rest : List Answer) → step_cost d e id b (given ++ rest) ≤ cost_from d e id b given rest
  last_few given [] = subst (λ xs. step_cost d e id b xs ≤ step_cost d e id b given) (sym (append-nil given)) (omega arith)
  last_few given (a ∷ rest) = let h = last_few (given ++ a ∷ []) rest in let h2 = subst (λ xs. step_cost d e id b xs ≤ cost_from d e id b (given ++ a ∷ []) rest) (append_assoc given (a ∷ []) rest) h in omega (arith, h2)

module _ (d : Deployment) (room : ℕ) (e : Rows) (asked : IntentId → List Answer) (first most : ℕ) where
  abbrev pub Cost : RowKey → ℕ
  Cost k = cost d room e asked first most k

  abbrev pub Spare : RowKey → ℕ
  Spare k = spare d room e asked first most k

  abbrev pub Due : RowKey → ℕ
  Due k = due d room e asked first most k

  abbrev pub Stuck : RowKey → Option RowKey
  Stuck k = stuck d room e asked first most k

  abbrev pub Paid : Core → List RowKey → RowKey → Type 0
  Paid c keys k = IsPaid d room e asked first most c keys k

  abbrev pub Covered : ℕ → Core → Rows → List RowKey → ℕ → Run → ℕ → Type 0
  Covered past c m keys i r n = IsCovered d room e asked first most past c m keys i r n

  abbrev pub Mid : ℕ → Core → Rows → ℕ → Run → Begun → Type 0
  Mid past c m i r g = IsMidway d room e asked first most past c m i r g

  -- the callee of a call that is never answered costs nothing
  free_if : (o : Option RowKey) (j : RowKey) → if_free d room e asked first most o ≡ Some j → Cost j ≡ 0
  free_if None j h = cc
  free_if (Some x) j h = (elim (Cost x == 0) as (λ t. (Cost x == 0) ≡ t → (if t then Some x else None) ≡ Some j → Cost j ≡ 0) [
    | true ↦ λ z is. ap Cost (sym (same_some is)) ∙ eqb-true (Cost x) 0 z
    | false ↦ λ z is. cc
  ]) refl h

  free_by : (id : IntentId) (o : Option Body) (j : RowKey) → stuck_by d room e asked first most id o ≡ Some j → Cost j ≡ 0
  free_by id None j h = cc
  free_by id (Some b) j h = free_if (callee_key d room e asked first most id (length (asked id)) (effect_of d (with_answers b (asked id)))) j h

  free_in : (k : Kind) (r : Option Row) (j : RowKey) → stuck_in d room e asked first most k r ≡ Some j → Cost j ≡ 0
  free_in (Kind.Intent id) r j h = free_by id (body_at r) j h
  free_in k r j h = cc

  pub stuck_free : (k j : RowKey) → Stuck k ≡ Some j → Cost j ≡ 0
  stuck_free k j h = free_in k.kind (map.get e k) j h

  -- ---- what an event leaves
  pub record Leaves (c b : Core) (m n : Rows) (keys kept : List RowKey) : Type 0 where
    pub rows : GoesOn m n
    pub full : room ≤ map.len m → ((k : RowKey) → map.get m k ≡ None → map.get n k ≡ None) × (room ≤ map.len n)
    pub now : b.now ≡ c.now
    pub paid : (k : RowKey) → (has_ended (map.get n k) ≡ false) ⊎ (Cost k ≡ 0) → Paid c keys k → Paid b kept k
    pub worth : (k : RowKey) → IsIn k kept → Cost k ≤ most
    pub since : first ≤ b.last_run

  module _ {c b : Core} {m n : Rows} {keys kept : List RowKey} (s : Leaves c b m n keys kept) (past after : ℕ) where
    -- a run that stands where it stood
    module _ (j : ℕ) (r : Run) (a : ℕ) (mid : (g : Begun) (w : AsyncAt) → (w ≡ AsyncAt.Open → ⊥) → r.at ≡ RunAt.Begins g → g.stage ≡ Stage.Async w → Mid past c m j r g → Mid after b n j r g) where
      at_stage : (g : Begun) (u v x : ℕ) (w : Stage) → r.at ≡ RunAt.Begins g → g.stage ≡ w → v ≤ u → CoversAt d room e asked first most past c m j r g u x w → CoversAt d room e asked first most after b n j r g v x w
      at_stage g u v x (Stage.Async AsyncAt.Open) at is less h = omega (arith, h, less)
      at_stage g u v x (Stage.Async AsyncAt.Register) at is less (inl h) = inl (omega (arith, h, less))
      at_stage g u v x (Stage.Async AsyncAt.Register) at is less (inr h) = let k = h.0 in inr (omega (arith, k, less), mid g AsyncAt.Register (λ z. cc) at is h.1)
      at_stage g u v x (Stage.Async AsyncAt.Note) at is less (inl h) = inl (omega (arith, h, less))
      at_stage g u v x (Stage.Async AsyncAt.Note) at is less (inr h) = let k = h.0 in inr (omega (arith, k, less), mid g AsyncAt.Note (λ z. cc) at is h.1)
      at_stage g u v x (Stage.Call CallAt.Open) at is less h = omega (arith, h, less)
      at_stage g u v x (Stage.Call CallAt.Look) at is less h = omega (arith, h, less)
      at_stage g u v x w at is less h = omega (arith, h, less)

      at_run : (x : RunAt) → r.at ≡ x → Covers d room e asked first most past c m keys j r a x → Covers d room e asked first most after b n kept j r a x
      at_run RunAt.Looks at h = (h.0, λ open_still. h.1 (open_before s.rows (seat r) open_still))
      at_run (RunAt.Registers w) at h = h
      at_run (RunAt.Begins g) at h = (h.0, at_stage g (begun_left m h.0) (begun_left n h.0) (Spare (seat r) + a) g.stage at refl (begun_falls s.rows h.0) h.1, λ k is. s.paid k (inr (stuck_free (seat r) k is)) (h.2 k is))

      pub stays_so : Covered past c m keys j r a → Covered after b n kept j r a
      stays_so h = record {
        covers = at_run r.at refl h.covers;
        late = λ l. h.late (subst (λ t. r.deadline < t) s.now l);
        worth = λ w. h.worth (before w);
        some = h.some;
        looks = λ new at. let f = h.looks new at in record { body = f.body; there = body_on s.rows (seat r) f.body f.there; func = f.func };
      }
        where
          before : (j ≤ first) ⊎ (has_ended (map.get n (seat r)) ≡ false) → (j ≤ first) ⊎ (has_ended (map.get m (seat r)) ≡ false)
          before (inl h) = inl h
          before (inr h) = inr (open_before s.rows (seat r) h)

    -- .. is midway as it was where it is not the one that has the turn
    pub others : (i j : ℕ) (r : Run) (a : ℕ) → next_run c past ≡ Some i → (j ≡ i → ⊥) → Covered past c m keys j r a → Covered after b n kept j r a
    others i j r a next apart = stays_so j r a mid
      where
        mid : (g : Begun) (w : AsyncAt) → (w ≡ AsyncAt.Open → ⊥) → r.at ≡ RunAt.Begins g → g.stage ≡ Stage.Async w → Mid past c m j r g → Mid after b n j r g
        mid g w later at is (IsMidway.acts own bare) = absurd (apart (same_some (sym own ∙ next)))
        mid g w later at is (IsMidway.stands f v effect stage filled none) = let k = s.full filled in IsMidway.stands f v effect stage k.1 (k.0 (intent_key (child_of r.id g.machine.steps) f) none)

    -- ---- the whole
    pub ledger_by : {runs then_runs : List (ℕ × ℕ)} → Ledger d room e asked first most past c m runs keys
        → ((j : ℕ) (r : Run) → map.get b.runs j ≡ Some r → (a : ℕ) × (find j then_runs ≡ Some a) × Covered after b n kept j r a) → Ledger d room e asked first most after b n then_runs kept
    ledger_by h runs = record {
      runs_covered = runs;
      open_covered = λ k some open_still. s.paid k (inl open_still) (h.open_covered k some (open_before s.rows k open_still));
      stuck_paid = λ k j is open_still. s.paid j (inr (stuck_free k j is)) (h.stuck_paid k j is (open_before s.rows k open_still));
      keys_worth = s.worth;
      since = s.since;
    }
