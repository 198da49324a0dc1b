-- Live runs by number, where one was put or taken out.
use Rattle.std.specs.{FinMap.FinMap, FinMap.nat_cmp-IsAntisymmetric, FinMap.get-insert, FinMap.get-remove, FinMap.same_map, Cmp.nat_cmp_total, Ordering.is_eq, Ordering.nat_cmp}
use Rattle.std.specs.FinMap as map
use Rattle.std.proofs.lemmas.Cmp.{tied_itself}
use Rattle.std.proofs.Common.{◌≡◌, ℕ, Bool, true, false, cond, Option, None, Some, refl, ap, sym, ◌∙◌}
use Rattle.beldi_step.specs.{HostStep.put_run, declared.run.Run.Run}

pub put_got : (m : FinMap nat_cmp Run) (i : ℕ) (o : Option Run) (j : ℕ) → map.get (put_run m i o) j ≡ cond (is_eq (nat_cmp j i)) o (map.get m j)
put_got m i None j = get-remove nat_cmp_total m i j
put_got m i (Some r) j = get-insert nat_cmp_total m i r j

pub put_self : (m : FinMap nat_cmp Run) (i : ℕ) (o : Option Run) → map.get (put_run m i o) i ≡ o
put_self m i o = put_got m i o i ∙ ap (λ z. cond (is_eq z) o (map.get m i)) (tied_itself nat_cmp_total i)

-- what is put last stays
put_last : (b : Bool) (p o x : Option Run) → cond b p (cond b o x) ≡ cond b p x
put_last true p o x = refl
put_last false p o x = refl

pub put_twice : (m : FinMap nat_cmp Run) (i : ℕ) (o p : Option Run) → put_run (put_run m i o) i p ≡ put_run m i p
put_twice m i o p = same_map nat_cmp_total nat_cmp-IsAntisymmetric _ _ (λ j.
    put_got (put_run m i o) i p j ∙ ap (cond (is_eq (nat_cmp j i)) p) (put_got m i o j) ∙ put_last (is_eq (nat_cmp j i)) p o (map.get m j) ∙ sym (put_got m i p j))

pub remove_put : (m : FinMap nat_cmp Run) (i : ℕ) (o : Option Run) → map.remove (put_run m i o) i ≡ map.remove m i
remove_put m i o = put_twice m i o None
