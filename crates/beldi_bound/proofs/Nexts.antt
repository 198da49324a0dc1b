-- The least live run past a number is the same one after it was put anew.
use Rattle.beldi_histories.proofs.Begins.{false_true}
use Rattle.std.specs.FinMap as map
use Rattle.std.proofs.lemmas.Bool.Decides.{nat_tests}
use Rattle.std.proofs.Common.{◌≡◌, ℕ, ltb-true, nat_lt, false, Option, Some, None, is_some, sym, ap, subst, ◌∙◌, arith}
use Rattle.beldi_histories.proofs.Cases.{by_cases}
use Rattle.beldi_step.{proofs.PutRun.put_self, specs.HostStep.Core, specs.HostStep.put_run, specs.Next.next_run, specs.declared.run.Run.Run}
use Rattle.beldi_bound.proofs.{Numbers.IsLeast, Numbers.next_least, Numbers.put_apart}

module _ (c b : Core) (past i : ℕ) (s : Run) (runs_so : b.runs ≡ put_run c.runs i (Some s)) (next : next_run c past ≡ Some i) where
  before : IsLeast c.runs past (Some i)
  before = subst (IsLeast c.runs past) next (next_least c past)

  own : map.get b.runs i ≡ Some s
  own = ap (λ z. map.get z i) runs_so ∙ put_self c.runs i (Some s)

  none_run : {s : Run} → None ≡ Some s → ⊥
  none_run h = cc

  neither : (n i : ℕ) → nat_lt n i ≡ false → nat_lt i n ≡ false → n ≡ i
  neither n i h k = grind (arith, nat_tests)

  at_least : (o : Option ℕ) → IsLeast b.runs past o → o ≡ Some i
  at_least None l = absurd (none_run (sym (l i before.0) ∙ own))
  at_least (Some n) l = by_cases (nat_lt n i) (λ t. let less = ltb-true n i t in absurd (false_true (sym (ap is_some (ap (λ z. map.get z n) runs_so ∙ put_apart c.runs i (Some s) n (λ is. omega (arith, less, is)) ∙ before.2 n l.0 less)) ∙ l.1)))
      (λ f. by_cases (nat_lt i n) (λ t. let less = ltb-true i n t in absurd (none_run (sym (l.2 i before.0 less) ∙ own))) (λ g. ap Some (neither n i f g)))

  pub next_put : next_run b past ≡ Some i
  next_put = at_least (next_run b past) (next_least b past)
