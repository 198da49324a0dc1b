-- A turn of a run that goes on: it has a turn less to take, and may have started a run, which is paid by the key of its intent.
use Rattle.beldi_plain_laws.proofs.Maps.{same_some}
use Rattle.std.specs.FinMap as map
use Rattle.std.proofs.Common.{◌≡◌, ◌⊎◌, inl, inr, ℕ, zero, suc, ◌+◌, ◌*◌, ◌<◌, ◌≤◌, false, List, Some, None, refl, sym, ap, subst, ◌∙◌, arith}
use Rattle.beldi_value.specs.declared.id.IntentId.{IntentId}
use Rattle.beldi_tree.specs.declared.deployment.Deployment.{Deployment}
use Rattle.beldi_lang.specs.declared.effect.Answer.{Answer}
use Rattle.beldi_row.specs.{Key.RowKey, Table.Rows}
use Rattle.beldi_step.specs.{HostStep.Core, HostStep.put_run, Next.next_run, declared.run.Begun.Begun, declared.run.Run.Run, declared.run.RunAt.RunAt}
use Rattle.beldi_bound.specs.{Ends.IsIn, Ends.Sound, SettleWork.has_ended, SettleWork.one_more, SettleWork.seat, SettleWork.sum_of}
use Rattle.beldi_bound.proofs.{Costs.splits, Facts.GoesOn, Facts.Stands, Facts.begun_left, BoundLists.in_without, BoundLists.without, BoundLists.without_in, BoundLists.without_sum}
use Rattle.beldi_bound.proofs.Ledger.{CoversAt, Covers, Ledger, Pays, find}
use Rattle.beldi_bound.proofs.Frames.{Cost, Covered, Due, Leaves, Paid, Spare, Stuck, open_before, stuck_free}
use Rattle.beldi_bound.proofs.Paying.{New, amount_of, paid_by, pays, still_started, with_new}

module _ (d : Deployment) (room : ℕ) (e : Rows) (asked : IntentId → List Answer) (first most : ℕ) where
  abbrev pub Keys : List RowKey → ℕ
  Keys ks = sum_of (one_more (λ k. Due d room e asked first most k)) ks

  -- what pays for a run of the intent with this key, with this amount: the key, which is taken out, or nothing where it costs nothing
  pub record Funds (keys : List RowKey) (k : RowKey) (turns : ℕ) (kept : List RowKey) (x : ℕ) : Type 0 where
    pub less : turns + (x + Keys kept) ≤ Keys keys
    pub keep : (j : RowKey) → IsIn j keys → (j ≡ k) ⊎ IsIn j kept
    pub within : (j : RowKey) → IsIn j kept → IsIn j keys
    pub enough : Cost d room e asked first most k ≤ Spare d room e asked first most k + x

  pub by_key : (keys : List RowKey) (k : RowKey) → IsIn k keys → Funds keys k 1 (without k keys) (Due d room e asked first most k)
  by_key keys k there =
      let sum = without_sum (one_more (λ k. Due d room e asked first most k)) k keys there in
      let p = splits d room e asked first most k in
      record { less = less (Keys keys) (Keys (without k keys)) (Due d room e asked first most k) sum; keep = λ j. in_without j k keys; within = λ j. without_in j k keys; enough = enough (Due d room e asked first most k) (Spare d room e asked first most k) (Cost d room e asked first most k) p.whole }
    where
      less : (all left x : ℕ) → left + (1 + x) ≡ all → 1 + (x + left) ≤ all
      less all left x h = omega arith

      enough : (x s c : ℕ) → x + s ≡ c → c ≤ s + x
      enough x s c h = omega arith

  pub by_none : (keys : List RowKey) (k : RowKey) → Cost d room e asked first most k ≡ 0 → Funds keys k 0 keys 0
  by_none keys k free = record { less = omega arith; keep = λ j there. inr there; within = λ j there. there; enough = omega (arith, free) }

  pub fewer : {keys kept : List RowKey} {k : RowKey} {x : ℕ} → Funds keys k 1 kept x → Funds keys k 0 kept x
  fewer h = let less = h.less in record { less = omega (arith, less); keep = h.keep; within = h.within; enough = h.enough }

  module _ (past i : ℕ) (c : Core) (m : Rows) (r : Run) (a : ℕ) (runs : List (ℕ × ℕ)) (keys : List RowKey) (sound : Sound d c m)
      (ledger : Ledger d room e asked first most past c m runs keys) (next : next_run c past ≡ Some i) (live : map.get c.runs i ≡ Some r) (has : find i runs ≡ Some a) (mine : Covered d room e asked first most past c m keys i r a)
      (alive : r.deadline < c.now → ⊥) where
    -- a turn less
    pub record Lowered (left : ℕ) : Type 0 where
      pub amount : ℕ
      pub one : suc amount ≡ a
      pub enough : left ≤ Spare d room e asked first most (seat r) + amount

    pub lowered : (left : ℕ) → 1 ≤ left → suc left ≤ Spare d room e asked first most (seat r) + a → Lowered left
    lowered left some less = by_amount a refl
      where
        by_amount : (y : ℕ) → a ≡ y → Lowered left
        by_amount zero is = let p = splits d room e asked first most (seat r) in let few = p.one in absurd (none (Spare d room e asked first most (seat r)) a left few less some is)
          where
            none : (s a l : ℕ) → s ≤ 1 → suc l ≤ s + a → 1 ≤ l → a ≡ 0 → ⊥
            none s a l few less some is = omega arith
        by_amount (suc x) is = record { amount = x; one = sym is; enough = enough (Spare d room e asked first most (seat r)) a left x less is }
          where
            enough : (s a l x : ℕ) → suc l ≤ s + a → a ≡ suc x → l ≤ s + x
            enough s a l x less is = omega arith

    module _ (b : Core) (n : Rows) (kept : List RowKey) (u : New) (s : Run) (g : Begun) (runs_so : b.runs ≡ with_new (c.last_run + 1) u (put_run c.runs i (Some s))) (now_so : b.now ≡ c.now) (last_ok : first ≤ b.last_run)
        (rows : GoesOn m n) (full : room ≤ map.len m → ((k : RowKey) → map.get m k ≡ None → map.get n k ≡ None) × (room ≤ map.len n))
        (keep : (k : RowKey) → IsIn k keys → Paid d room e asked first most b kept k) (within : (k : RowKey) → IsIn k kept → IsIn k keys) (deadline_so : s.deadline ≡ r.deadline) (seat_so : seat s ≡ seat r) where
      pub leaves : Leaves d room e asked first most c b m n keys kept
      leaves = record {
        rows = rows;
        full = full;
        now = now_so;
        paid = paid_by d room e asked first most past i c m r a runs keys ledger sound.upkeep.invariant.runs.numbers next live has b n kept (Some s) u runs_so keep
            (λ k since own why. still_started d room e asked first most past i c m r a runs keys ledger sound.upkeep.invariant.runs.numbers next live has b n kept (Some s) u runs_so s refl seat_so k since own);
        worth = λ k there. ledger.keys_worth k (within k there);
        since = last_ok;
      }

      -- its run covers what is left
      covered : (x : ℕ) → Covers d room e asked first most past b n kept i s x s.at → (s.at ≡ RunAt.Looks → ⊥) → Covered d room e asked first most past b n kept i s x
      covered x covers not_first = record {
        covers = covers;
        late = λ late. absurd (alive (subst (λ z. r.deadline < z) now_so (subst (λ z. z < b.now) deadline_so late)));
        worth = λ w. subst (λ k. Cost d room e asked first most k ≤ most) (sym seat_so) (mine.worth (before w));
        some = mine.some;
        looks = λ new at. absurd (not_first at);
      }
        where
          before : (i ≤ first) ⊎ (has_ended (map.get n (seat s)) ≡ false) → (i ≤ first) ⊎ (has_ended (map.get m (seat r)) ≡ false)
          before (inl h) = inl h
          before (inr h) = inr (open_before rows (seat r) (ap (λ k. has_ended (map.get n k)) (sym seat_so) ∙ h))

      -- it has begun, with this amount
      pub goes_at : (f x : ℕ) (at : s.at ≡ RunAt.Begins g) (its : Stands d e asked s g) → CoversAt d room e asked first most past b n i s g (begun_left n its) (Spare d room e asked first most (seat r) + x) g.stage
          → ((j : RowKey) → Stuck d room e asked first most (seat r) ≡ Some j → Paid d room e asked first most c keys j)
          → ((z : Run × ℕ) → u ≡ Some z → Covered d room e asked first most past b n kept (c.last_run + 1) z.0 z.1)
          → 1 + (x + amount_of u + Keys kept) ≤ a + Keys keys + f * (most + 1) → Pays d room e asked first most past runs keys 1 f b n
      goes_at f x at its cov stuck new fund =
          pays d room e asked first most past i c m r a runs keys ledger sound.upkeep.invariant.runs.numbers next live has b n kept (Some s) u runs_so past x leaves
          (λ z is. subst (λ y. Covered d room e asked first most past b n kept i y x) (same_some is) (covered x (subst (Covers d room e asked first most past b n kept i s x) (sym at) (its, at_stage, stuck_so)) not_first)) new 1 f fund
        where
          not_first : s.at ≡ RunAt.Looks → ⊥
          not_first is = let clash : RunAt.Looks ≡ RunAt.Begins g = sym is ∙ at in cc

          at_stage : CoversAt d room e asked first most past b n i s g (begun_left n its) (Spare d room e asked first most (seat s) + x) g.stage
          at_stage = subst (λ k. CoversAt d room e asked first most past b n i s g (begun_left n its) (Spare d room e asked first most k + x) g.stage) (sym seat_so) cov

          stuck_so : (j : RowKey) → Stuck d room e asked first most (seat s) ≡ Some j → Paid d room e asked first most b kept j
          stuck_so j is = let was : Stuck d room e asked first most (seat r) ≡ Some j = ap (Stuck d room e asked first most) (sym seat_so) ∙ is in leaves.paid j (inr (stuck_free d room e asked first most (seat r) j was)) (stuck j was)

      -- .. a turn less
      pub goes_on : (f : ℕ) (at : s.at ≡ RunAt.Begins g) (its : Stands d e asked s g) → 1 ≤ begun_left n its → suc (begun_left n its) ≤ Spare d room e asked first most (seat r) + a
          → ((x : ℕ) → suc x ≡ Spare d room e asked first most (seat r) + a → begun_left n its ≤ x → CoversAt d room e asked first most past b n i s g (begun_left n its) x g.stage)
          → ((j : RowKey) → Stuck d room e asked first most (seat r) ≡ Some j → Paid d room e asked first most c keys j)
          → ((z : Run × ℕ) → u ≡ Some z → Covered d room e asked first most past b n kept (c.last_run + 1) z.0 z.1)
          → amount_of u + Keys kept ≤ Keys keys → Pays d room e asked first most past runs keys 1 f b n
      goes_on f at its some less cov stuck new fund =
          let l = lowered (begun_left n its) some less in
          goes_at f l.amount at its (cov (Spare d room e asked first most (seat r) + l.amount) (more (Spare d room e asked first most (seat r)) l.amount a l.one) l.enough) stuck new (pay a l.amount (amount_of u) (Keys kept) (Keys keys) (f * (most + 1)) l.one fund)
        where
          more : (s x a : ℕ) → suc x ≡ a → suc (s + x) ≡ s + a
          more s x a h = omega arith

          pay : (a x u k l f : ℕ) → suc x ≡ a → u + k ≤ l → 1 + (x + u + k) ≤ a + l + f
          pay a x u k l f one h = omega arith
