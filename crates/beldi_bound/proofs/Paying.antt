-- What a turn makes of a ledger: its run's amount is set anew, a run that it starts is put in front, and keys are put in or taken out.
use Rattle.beldi_plain_laws.proofs.Maps.{same_some}
use Rattle.std.specs.FinMap as map
use Rattle.std.specs.{FinMap.FinMap, Ordering.nat_cmp}
use Rattle.std.proofs.Common.{◌≡◌, ◌⊎◌, inl, inr, ℕ, ◌+◌, ◌*◌, ◌<◌, ◌≤◌, ◌==◌, eq-eqb, eqb-true, true, false, List, ◌∷◌, Option, Some, None, is_some, IsTrue, if◌then◌else◌, refl, sym, ap, subst, ◌∙◌, arith}
use Rattle.beldi_value.specs.declared.id.IntentId.{IntentId}
use Rattle.beldi_tree.specs.declared.deployment.Deployment.{Deployment}
use Rattle.beldi_lang.specs.declared.effect.Answer.{Answer}
use Rattle.beldi_row.specs.{Key.RowKey, Table.Rows}
use Rattle.beldi_histories.proofs.Cases.{by_cases}
use Rattle.beldi_step.{proofs.PutRun.put_self, specs.HostStep.Core, specs.HostStep.put_run, specs.Next.next_run, specs.declared.run.Run.Run}
use Rattle.beldi_bound.specs.{Ends.IsIn, SettleWork.has_ended, SettleWork.one_more, SettleWork.seat, SettleWork.sum_of}
use Rattle.beldi_bound.proofs.{BoundLists.find_other, BoundLists.find_put, BoundLists.put, BoundLists.sum_put, Numbers.put_apart}
use Rattle.beldi_bound.proofs.Ledger.{Ledger, Pays, amount, find}
use Rattle.beldi_bound.proofs.Frames.{Cost, Covered, Due, Leaves, Paid, ledger_by, others}

-- a run more, with its amount, if any
abbrev pub New : Type 0
New = Option (Run × ℕ)

abbrev pub with_new : ℕ → New → FinMap nat_cmp Run → FinMap nat_cmp Run
with_new n None live = live
with_new n (Some z) live = put_run live n (Some z.0)

abbrev pub listed : ℕ → New → List (ℕ × ℕ) → List (ℕ × ℕ)
listed n None xs = xs
listed n (Some z) xs = (n, z.1) ∷ xs

abbrev pub amount_of : New → ℕ
amount_of None = 0
amount_of (Some z) = z.1

pub new_apart : (live : FinMap nat_cmp Run) (n : ℕ) (u : New) (j : ℕ) → (j ≡ n → ⊥) → map.get (with_new n u live) j ≡ map.get live j
new_apart live n None j apart = refl
new_apart live n (Some z) j apart = put_apart live n (Some z.0) j apart

listed_apart : (n : ℕ) (u : New) (xs : List (ℕ × ℕ)) (j : ℕ) → (j ≡ n → ⊥) → find j (listed n u xs) ≡ find j xs
listed_apart n None xs j apart = refl
listed_apart n (Some z) xs j apart = by_cases (j == n) (λ t. absurd (apart (eqb-true j n t))) (λ f. ap (λ b. if b then Some z.1 else find j xs) f)

listed_sum : (n : ℕ) (u : New) (xs : List (ℕ × ℕ)) → sum_of amount (listed n u xs) ≡ amount_of u + sum_of amount xs
listed_sum n None xs = omega arith
listed_sum n (Some z) xs = refl

sums : (t a x s s2 s3 u k l f : ℕ) → s2 + a ≡ s + x → s3 ≡ u + s2 → t + (x + u + l) ≤ a + k + f → t + (s3 + l) ≤ s + k + f
sums t a x s s2 s3 u k l f p q h = omega arith

module _ (d : Deployment) (room : ℕ) (e : Rows) (asked : IntentId → List Answer) (first most : ℕ) (past i : ℕ) (c : Core) (m : Rows) (r : Run) (a : ℕ) (runs : List (ℕ × ℕ)) (keys : List RowKey)
    (ledger : Ledger d room e asked first most past c m runs keys) (numbers : (j : ℕ) → IsTrue (is_some (map.get c.runs j)) → (1 ≤ j) × (j ≤ c.last_run)) (next : next_run c past ≡ Some i) (live : map.get c.runs i ≡ Some r) (has : find i runs ≡ Some a) where
  module _ (b : Core) (n : Rows) (kept : List RowKey) (o : Option Run) (u : New) (runs_so : b.runs ≡ with_new (c.last_run + 1) u (put_run c.runs i o)) where
    new_number : (j : ℕ) (s : Run) → map.get c.runs j ≡ Some s → j ≡ c.last_run + 1 → ⊥
    new_number j s is same = let k = numbers j (subst (λ (z : Option Run). IsTrue (is_some z)) (sym is) refl) in let l = k.1 in omega (arith, l, same)

    pub old_live : (j : ℕ) (s : Run) → (j ≡ i → ⊥) → map.get c.runs j ≡ Some s → map.get b.runs j ≡ Some s
    old_live j s apart is = ap (λ x. map.get x j) runs_so ∙ new_apart (put_run c.runs i o) (c.last_run + 1) u j (new_number j s is) ∙ put_apart c.runs i o j apart ∙ is

    pub own_live : map.get b.runs i ≡ o
    own_live = ap (λ x. map.get x i) runs_so ∙ new_apart (put_run c.runs i o) (c.last_run + 1) u i (new_number i r live) ∙ put_self c.runs i o

    pub new_live : (z : Run × ℕ) → u ≡ Some z → map.get b.runs (c.last_run + 1) ≡ Some z.0
    new_live z is = ap (λ x. map.get x (c.last_run + 1)) runs_so ∙ ap (λ (y : New). map.get (with_new (c.last_run + 1) y (put_run c.runs i o)) (c.last_run + 1)) is ∙ put_self (put_run c.runs i o) (c.last_run + 1) (Some z.0)

    -- who may get a run, or has one, but for the run that had the turn
    pub paid_by : ((k : RowKey) → IsIn k keys → Paid d room e asked first most b kept k)
        → ((k : RowKey) → first < i → seat r ≡ k → (has_ended (map.get n k) ≡ false) ⊎ (Cost d room e asked first most k ≡ 0) → Paid d room e asked first most b kept k)
        → (k : RowKey) → (has_ended (map.get n k) ≡ false) ⊎ (Cost d room e asked first most k ≡ 0) → Paid d room e asked first most c keys k → Paid d room e asked first most b kept k
    paid_by keep own k why (inl there) = keep k there
    paid_by keep own k why (inr s) = by_cases (s.number == i)
        (λ t. let same : s.number ≡ i = eqb-true s.number i t in own k (subst (λ z. first < z) same s.since) (ap seat (same_some (sym live ∙ sym (ap (map.get c.runs) same) ∙ s.live)) ∙ s.own) why)
        (λ f. inr (record { number = s.number; run = s.run; since = s.since; live = old_live s.number s.run (λ is. not_so s.number is f) s.live; own = s.own }))
      where
        not_so : (x : ℕ) → x ≡ i → (x == i) ≡ false → ⊥
        not_so x is f = let clash : true ≡ false = sym (eq-eqb x i is) ∙ f in cc

    -- the run as it goes on has been started since, if it had
    pub still_started : (s : Run) → o ≡ Some s → seat s ≡ seat r → (k : RowKey) → first < i → seat r ≡ k → Paid d room e asked first most b kept k
    still_started s is same k since own = inr (record { number = i; run = s; since = since; live = own_live ∙ is; own = same ∙ own })

    module _ (after x : ℕ) (leaves : Leaves d room e asked first most c b m n keys kept) (own : (s : Run) → o ≡ Some s → Covered d room e asked first most after b n kept i s x)
        (new : (z : Run × ℕ) → u ≡ Some z → Covered d room e asked first most after b n kept (c.last_run + 1) z.0 z.1) where
      abbrev then_runs : List (ℕ × ℕ)
      then_runs = listed (c.last_run + 1) u (put i x runs)

      abbrev HasAmount : ℕ → Run → Type 0
      HasAmount j s = (y : ℕ) × (find j then_runs ≡ Some y) × Covered d room e asked first most after b n kept j s y

      at_new : (v : New) → u ≡ v → (s : Run) → map.get b.runs (c.last_run + 1) ≡ Some s → HasAmount (c.last_run + 1) s
      at_new None is s there = absurd (gone_there (map.get c.runs (c.last_run + 1)) refl (sym (by_i ∙ there_old)))
        where
          there_old : map.get (put_run c.runs i o) (c.last_run + 1) ≡ Some s
          there_old = ap (λ (y : New). map.get (with_new (c.last_run + 1) y (put_run c.runs i o)) (c.last_run + 1)) (sym is) ∙ sym (ap (λ z. map.get z (c.last_run + 1)) runs_so) ∙ there

          by_i : map.get c.runs (c.last_run + 1) ≡ map.get (put_run c.runs i o) (c.last_run + 1)
          by_i = sym (put_apart c.runs i o (c.last_run + 1) (λ same. new_number i r live (sym same)))

          gone_there : (z : Option Run) → map.get c.runs (c.last_run + 1) ≡ z → Some s ≡ map.get c.runs (c.last_run + 1) → ⊥
          gone_there z at is = new_number (c.last_run + 1) s (sym is) refl
      at_new (Some z) is s there = (
        z.1,
        ap (λ (y : New). find (c.last_run + 1) (listed (c.last_run + 1) y (put i x runs))) is ∙ ap (λ t. if t then Some z.1 else find (c.last_run + 1) (put i x runs)) (eq-eqb (c.last_run + 1) (c.last_run + 1) refl),
        subst (λ k. Covered d room e asked first most after b n kept (c.last_run + 1) k z.1) (same_some (sym (new_live z is) ∙ there)) (new z is),
      )

      at_own : (s : Run) → map.get b.runs i ≡ Some s → HasAmount i s
      at_own s there = (x, listed_apart (c.last_run + 1) u (put i x runs) i (new_number i r live) ∙ find_put i x a runs has, own s (sym own_live ∙ there))

      at_other : (j : ℕ) (s : Run) → (j ≡ i → ⊥) → (j ≡ c.last_run + 1 → ⊥) → map.get b.runs j ≡ Some s → HasAmount j s
      at_other j s apart old there =
          let before : map.get c.runs j ≡ Some s = sym (put_apart c.runs i o j apart) ∙ sym (new_apart (put_run c.runs i o) (c.last_run + 1) u j old) ∙ sym (ap (λ z. map.get z j) runs_so) ∙ there in
          let k = ledger.runs_covered j s before in
          (k.0, listed_apart (c.last_run + 1) u (put i x runs) j old ∙ find_other i x j runs apart ∙ k.1, others d room e asked first most leaves past after i j s k.0 next apart k.2)

      at_each : (j : ℕ) (s : Run) → map.get b.runs j ≡ Some s → HasAmount j s
      at_each j s there = by_cases (j == i) (λ t. let same : j ≡ i = eqb-true j i t in subst (λ z. HasAmount z s) (sym same) (at_own s (ap (map.get b.runs) (sym same) ∙ there)))
          (λ f. by_cases (j == c.last_run + 1) (λ t. let same : j ≡ c.last_run + 1 = eqb-true j (c.last_run + 1) t in subst (λ z. HasAmount z s) (sym same) (at_new u refl s (ap (map.get b.runs) (sym same) ∙ there)))
          (λ g. at_other j s (λ is. not_so j i is f) (λ is. not_so j (c.last_run + 1) is g) there))
        where
          not_so : (p q : ℕ) → p ≡ q → (p == q) ≡ false → ⊥
          not_so p q is f = let clash : true ≡ false = sym (eq-eqb p q is) ∙ f in cc

      abbrev Keys : List RowKey → ℕ
      Keys ks = sum_of (one_more (λ k. Due d room e asked first most k)) ks

      pub pays : (turns failures : ℕ) → turns + (x + amount_of u + Keys kept) ≤ a + Keys keys + failures * (most + 1) → Pays d room e asked first most after runs keys turns failures b n
      pays turns failures less = record {
        runs_then = then_runs;
        keys_then = kept;
        ledger = ledger_by d room e asked first most leaves past after ledger at_each;
        less = sums turns a x (sum_of amount runs) (sum_of amount (put i x runs)) (sum_of amount then_runs) (amount_of u) (Keys keys) (Keys kept) (failures * (most + 1)) (sum_put i x a runs has) (listed_sum (c.last_run + 1) u (put i x runs)) less;
      }
