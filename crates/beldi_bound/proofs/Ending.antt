-- Turns that tell nothing: of a run past its deadline, where the table failed, or where it had no room; and turns that wait.
use Rattle.beldi_plain_laws.proofs.Maps.{same_some}
use Rattle.beldi_bound.proofs.Going.{goes_same}
use Rattle.std.specs.FinMap as map
use Rattle.std.proofs.Common.{◌≡◌, ◌⊎◌, inl, inr, ℕ, zero, suc, ◌+◌, ◌*◌, ◌<◌, ◌≤◌, ◌==◌, eqb-true, eq-eqb, nat_lt, ltb-true, lt-ltb, true, false, List, ◌∷◌, Option, Some, None, refl, sym, ap, subst, ◌∙◌, arith}
use Rattle.beldi_value.specs.{declared.id.IntentId.IntentId}
use Rattle.beldi_tree.specs.declared.deployment.Deployment.{Deployment}
use Rattle.beldi_lang.specs.declared.effect.{Answer.Answer, Effect.Effect}
use Rattle.beldi_row.specs.{Key.RowKey, Table.Rows}
use Rattle.beldi_call.specs.declared.async_call.AsyncAt.{AsyncAt}
use Rattle.beldi_histories.proofs.Cases.{by_cases}
use Rattle.beldi_step.specs.{HostStep.Core, Next.next_run, declared.run.Begun.Begun, declared.run.Run.Run, declared.run.RunAt.RunAt, declared.run.RunTx.RunTx, declared.run.Stage.Stage}
use Rattle.beldi_invariant.specs.{Invariant.AtStage, Invariant.Inside, Invariant.Knows, Invariant.KnowsAt, Invariant.Invariant, Invariant.RunAt as RunKnows}
use Rattle.beldi_bound.specs.{Ends.IsIn, Ends.Sound, SettleWork.has_ended, SettleWork.one_more, SettleWork.seat, SettleWork.sum_of}
use Rattle.beldi_bound.proofs.{Costs.splits, BoundFalls.IsEnd, BoundFalls.left_some, Facts.GoesOn, Facts.Stands, Facts.begun_left}
use Rattle.beldi_bound.proofs.Ledger.{CoversAt, Covers, Ledger, Pays, find}
use Rattle.beldi_bound.proofs.Frames.{Cost, Covered, Due, Leaves, Mid, Paid, Spare, ledger_by, others, stays_so}
use Rattle.beldi_bound.proofs.Paying.{paid_by, pays}

pub share : (f x : ℕ) → 1 ≤ f → x ≤ f * x
share f x h = grind arith

-- ---- what a live run that has begun knows
pub knows_it : {d : Deployment} {c : Core} {m : Rows} (h : Invariant d c m) (i : ℕ) (r : Run) (g : Begun) → map.get c.runs i ≡ Some r → r.at ≡ RunAt.Begins g → (k : Knows d h.histories r g) × Inside m h.plain c.book k g.stage
knows_it {d} {c} {m} h i r g live at = subst (KnowsAt d m h.plain c.book h.histories r) at (subst (RunKnows d m h.plain c.book h.histories) live (h.runs.runs i))

-- .. so some is left of it
module _ {d : Deployment} {c : Core} {m : Rows} (h : Invariant d c m) (r : Run) (g : Begun) (k : Knows d h.histories r g) where
  end_own : (w : Stage) (f : Effect) (o : Option RunTx) → AtStage m h.plain c.book k w f o → IsEnd o w
  end_own (Stage.End v) (Effect.End commit) (Some (RunTx.Own x)) is = (x, refl)
  end_own (Stage.End v) f o is = absurd is
  end_own w f o is = tt

  pub some_left : (e : Rows) (asked : IntentId → List Answer) → Inside m h.plain c.book k g.stage → (s : Stands d e asked r g) → 1 ≤ begun_left m s
  some_left e asked inside s = let h = left_some e m r.func r.id g.tx g.machine.steps g.machine.effect g.stage (end_own g.stage g.machine.effect g.tx inside.here) in omega (arith, h)

-- ---- what is needed of a run's amount
module _ (d : Deployment) (room : ℕ) (e : Rows) (asked : IntentId → List Answer) (first most : ℕ) where
  pub covers_left : (past : ℕ) (c : Core) (m : Rows) (i : ℕ) (r : Run) (g : Begun) (left n : ℕ) (w : Stage) → CoversAt d room e asked first most past c m i r g left n w → left ≤ n
  covers_left past c m i r g left n (Stage.Async AsyncAt.Open) h = h
  covers_left past c m i r g left n (Stage.Async AsyncAt.Register) (inl h) = omega (arith, h)
  covers_left past c m i r g left n (Stage.Async AsyncAt.Register) (inr h) = h.0
  covers_left past c m i r g left n (Stage.Async AsyncAt.Note) (inl h) = omega (arith, h)
  covers_left past c m i r g left n (Stage.Async AsyncAt.Note) (inr h) = h.0
  covers_left past c m i r g left n w h = h

  module _ (past i : ℕ) (c : Core) (m : Rows) (r : Run) (a : ℕ) (runs : List (ℕ × ℕ)) (keys : List RowKey) (sound : Sound d c m)
      (ledger : Ledger d room e asked first most past c m runs keys) (next : next_run c past ≡ Some i) (live : map.get c.runs i ≡ Some r) (has : find i runs ≡ Some a) (mine : Covered d room e asked first most past c m keys i r a) where
    abbrev K : RowKey → ℕ
    K k = Cost d room e asked first most k

    -- a run has something left, but for one that is to register what costs nothing
    has_some : (1 ≤ Spare d room e asked first most (seat r) + a) ⊎ (K (seat r) ≡ 0)
    has_some = by_at r.at refl mine.covers
      where
        some_or : (x y : ℕ) → x ≤ y → (1 ≤ y) ⊎ (x ≡ 0)
        some_or zero y h = inr refl
        some_or (suc x) y h = inl (omega (arith, h))

        by_at : (x : RunAt) → r.at ≡ x → Covers d room e asked first most past c m keys i r a x → (1 ≤ Spare d room e asked first most (seat r) + a) ⊎ (K (seat r) ≡ 0)
        by_at RunAt.Looks at h = let k = h.0 in inl (omega (arith, k))
        by_at (RunAt.Registers w) at h = some_or (K (seat r)) (Spare d room e asked first most (seat r) + a) h
        by_at (RunAt.Begins g) at h =
            let k = knows_it sound.upkeep.invariant i r g live at in
            let some = some_left sound.upkeep.invariant r g k.0 e asked k.1 h.0 in
            let less = covers_left past c m i r g (begun_left m h.0) (Spare d room e asked first most (seat r) + a) g.stage h.1 in inl (omega (arith, some, less))

    -- ---- the run is over
    module _ (b : Core) (runs_so : b.runs ≡ map.remove c.runs i) (now_so : b.now ≡ c.now) (last_so : b.last_run ≡ c.last_run) where
      gone : (n : Rows) (rows : GoesOn m n) (full : room ≤ map.len m → ((k : RowKey) → map.get m k ≡ None → map.get n k ≡ None) × (room ≤ map.len n)) (kept : List RowKey) (f : ℕ) → ((k : RowKey) → IsIn k keys → IsIn k kept) → ((k : RowKey) → IsIn k kept → K k ≤ most)
          → ((k : RowKey) → first < i → seat r ≡ k → (has_ended (map.get n k) ≡ false) ⊎ (K k ≡ 0) → Paid d room e asked first most b kept k)
          → 1 + (0 + 0 + sum_of (one_more (λ k. Due d room e asked first most k)) kept) ≤ a + sum_of (one_more (λ k. Due d room e asked first most k)) keys + f * (most + 1) → Pays d room e asked first most past runs keys 1 f b n
      gone n rows full kept f keep worth own less = pays d room e asked first most past i c m r a runs keys ledger sound.upkeep.invariant.runs.numbers next live has b n kept None None runs_so past 0
          (record {
            rows = rows;
            full = full;
            now = now_so;
            paid = paid_by d room e asked first most past i c m r a runs keys ledger sound.upkeep.invariant.runs.numbers next live has b n kept None None runs_so (λ k there. inl (keep k there)) own;
            worth = worth;
            since = subst (λ z. first ≤ z) (sym last_so) ledger.since;
          })
          (λ s is. cc) (λ z is. cc) 1 f less

      -- past its deadline
      pub expired : (f : ℕ) → r.deadline < c.now → Pays d room e asked first most past runs keys 1 f b m
      expired f late = let h = mine.late late in gone m (goes_same m) (λ h. (λ k none. none, h)) keys f (λ k there. there) ledger.keys_worth (λ k since own why. let old = h.1 in absurd (omega (arith, old, since))) (pay a (sum_of (one_more (λ k. Due d room e asked first most k)) keys) (f * (most + 1)) h.0)
        where
          pay : (a k f : ℕ) → 1 ≤ a → 1 + (0 + 0 + k) ≤ a + k + f
          pay a k f h = omega arith

      -- as its intent has ended, if it was started since
      pub over : (n : Rows) → GoesOn m n → (room ≤ map.len m → ((k : RowKey) → map.get m k ≡ None → map.get n k ≡ None) × (room ≤ map.len n)) → (f : ℕ) → 1 ≤ a
          → (first < i → (has_ended (map.get n (seat r)) ≡ true) × (1 ≤ K (seat r))) → Pays d room e asked first most past runs keys 1 f b n
      over n rows full f some ended = gone n rows full keys f (λ k there. there) ledger.keys_worth (λ k since own why. absurd (not_so k own (ended since) why)) (pay a (sum_of (one_more (λ k. Due d room e asked first most k)) keys) (f * (most + 1)) some)
        where
          pay : (a k f : ℕ) → 1 ≤ a → 1 + (0 + 0 + k) ≤ a + k + f
          pay a k f h = omega arith

          not_so : (k : RowKey) → seat r ≡ k → (has_ended (map.get n (seat r)) ≡ true) × (1 ≤ K (seat r)) → (has_ended (map.get n k) ≡ false) ⊎ (K k ≡ 0) → ⊥
          not_so k own h (inl open_still) = let clash : true ≡ false = sym h.0 ∙ ap (λ z. has_ended (map.get n z)) own ∙ open_still in cc
          not_so k own h (inr free) = let cost = h.1 in let none = ap K own ∙ free in omega (arith, cost, none)

      -- where the table failed: its intent may get another run
      pub failed : (ended : has_ended (map.get m (seat r)) ≡ true → 1 ≤ K (seat r)) (f : ℕ) → 1 ≤ f → Pays d room e asked first most past runs keys 1 f b m
      failed ended f some = by_cases (nat_lt first i) (λ t. by_cases (has_ended (map.get m (seat r))) (λ over. as_is (λ k since own why. absurd (it_ended k own over why))) (again (ltb-true first i t)))
          (λ old. as_is (λ k since own why. let clash : true ≡ false = sym (lt-ltb first i since) ∙ old in cc))
        where
          pay : (a k f x : ℕ) → most + 1 ≤ x → 1 + (0 + 0 + k) ≤ a + k + x
          pay a k f x h = omega arith

          shared : most + 1 ≤ f * (most + 1)
          shared = share f (most + 1) some

          it_ended : (k : RowKey) → seat r ≡ k → has_ended (map.get m (seat r)) ≡ true → (has_ended (map.get m k) ≡ false) ⊎ (K k ≡ 0) → ⊥
          it_ended k own over (inl open_still) = let clash : true ≡ false = sym over ∙ ap (λ z. has_ended (map.get m z)) own ∙ open_still in cc
          it_ended k own over (inr free) = let cost = ended over in let none = ap K own ∙ free in omega (arith, cost, none)

          as_is : ((k : RowKey) → first < i → seat r ≡ k → (has_ended (map.get m k) ≡ false) ⊎ (K k ≡ 0) → Paid d room e asked first most b keys k) → Pays d room e asked first most past runs keys 1 f b m
          as_is own = gone m (goes_same m) (λ h. (λ k none. none, h)) keys f (λ k there. there) ledger.keys_worth own (pay a (sum_of (one_more (λ k. Due d room e asked first most k)) keys) f (f * (most + 1)) shared)

          pay_again : (s a u c k x : ℕ) → (1 ≤ s + a) ⊎ (c ≡ 0) → s ≤ 1 → u + s ≡ c → (s ≡ 0 ⊎ 1 ≤ s) → c ≤ most → 1 ≤ most → most + 1 ≤ x → 1 + (0 + 0 + (1 + u + k)) ≤ a + k + x
          pay_again s a u c k x (inl h) few whole (inl none) worth one share = omega (arith, h, none)
          pay_again s a u c k x (inl h) few whole (inr is) worth one share = omega (arith, is)
          pay_again s a u c k x (inr h) few whole z worth one share = omega (arith, h)

          none_or : (s : ℕ) → (s ≡ 0) ⊎ (1 ≤ s)
          none_or zero = inl refl
          none_or (suc s) = inr (omega arith)

          again : first < i → has_ended (map.get m (seat r)) ≡ false → Pays d room e asked first most past runs keys 1 f b m
          again since open_still =
              let p = splits d room e asked first most (seat r) in
              gone m (goes_same m) (λ h. (λ k none. none, h)) (seat r ∷ keys) f (λ k there. inr there) (λ k. worth_of k) (λ k new own why. inl (inl (sym own)))
              (pay_again (Spare d room e asked first most (seat r)) a (Due d room e asked first most (seat r)) (K (seat r)) (sum_of (one_more (λ k. Due d room e asked first most k)) keys) (f * (most + 1))
              has_some p.one p.whole (none_or (Spare d room e asked first most (seat r))) (mine.worth (inr open_still)) (mine.some since) shared)
            where
              worth_of : (k : RowKey) → IsIn k (seat r ∷ keys) → K k ≤ most
              worth_of k (inl is) = subst (λ z. K z ≤ most) (sym is) (mine.worth (inr open_still))
              worth_of k (inr there) = ledger.keys_worth k there

    -- ---- the run waits, where it is not midway but where it was refused
    pub waits : (b : Core) (n : Rows) (f : ℕ) → ((j : ℕ) → map.get b.runs j ≡ map.get c.runs j) → b.now ≡ c.now → b.last_run ≡ c.last_run → GoesOn m n → (room ≤ map.len m → ((k : RowKey) → map.get m k ≡ None → map.get n k ≡ None) × (room ≤ map.len n))
        → ((g : Begun) (w : AsyncAt) → (w ≡ AsyncAt.Open → ⊥) → r.at ≡ RunAt.Begins g → g.stage ≡ Stage.Async w → Mid d room e asked first most past c m i r g → Mid d room e asked first most i b n i r g) → Pays d room e asked first most i runs keys 0 f b n
    waits b n f same now_so last_so rows full mid = record {
      runs_then = runs;
      keys_then = keys;
      ledger = ledger_by d room e asked first most leaves past i ledger each;
      less = omega arith;
    }
      where
        leaves : Leaves d room e asked first most c b m n keys keys
        leaves = record {
          rows = rows;
          full = full;
          now = now_so;
          paid = λ k why. paid k;
          worth = ledger.keys_worth;
          since = subst (λ z. first ≤ z) (sym last_so) ledger.since;
        }
          where
            paid : (k : RowKey) → Paid d room e asked first most c keys k → Paid d room e asked first most b keys k
            paid k (inl there) = inl there
            paid k (inr s) = inr (record { number = s.number; run = s.run; since = s.since; live = same s.number ∙ s.live; own = s.own })

        not_so : (p q : ℕ) → p ≡ q → (p == q) ≡ false → ⊥
        not_so p q is f = let clash : true ≡ false = sym (eq-eqb p q is) ∙ f in cc

        each : (j : ℕ) (s : Run) → map.get b.runs j ≡ Some s → (y : ℕ) × (find j runs ≡ Some y) × Covered d room e asked first most i b n keys j s y
        each j s there = by_cases (j == i)
            (λ t. let is : j ≡ i = eqb-true j i t in let its : r ≡ s = same_some (sym live ∙ sym (ap (map.get c.runs) is) ∙ sym (same j) ∙ there) in
            subst (λ z. (y : ℕ) × (find z runs ≡ Some y) × Covered d room e asked first most i b n keys z s y) (sym is) (a, has, subst (λ z. Covered d room e asked first most i b n keys i z a) its (stays_so d room e asked first most leaves past i i r a mid mine)))
            (λ o. let k = ledger.runs_covered j s (sym (same j) ∙ there) in (k.0, k.1, others d room e asked first most leaves past i i j s k.0 next (λ is. not_so j i is o) k.2))
