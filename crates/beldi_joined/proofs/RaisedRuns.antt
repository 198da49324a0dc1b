-- Live runs behind a longer book.
use Rattle.std.specs.Prelude.{ℕ, ◌≡◌, ◌&&◌, ◌||◌, Bool, true, false, cond, List, [], ◌∷◌, length, map, Option, Some, None, refl}
use Rattle.std.specs.{FinMap.FinMap, List.list_any, Option.option_map, Ordering.eq_by_cmp, Ordering.is_eq, Ordering.is_lt, Ordering.nat_cmp, Cmp.nat_cmp_total}
use Rattle.std.specs.FinMap.{entries-from_sorted, entries_sorted, get-entries, get-insert, get-remove, len-empty, len-entries, empty_of_len, nat_cmp-IsAntisymmetric, same_map}
use Rattle.std.specs.FinMap.Entries.{below_all, find, is_sorted}
use Rattle.std.specs.FinMap as finite
use Rattle.std.proofs.Common.{T, ap, sym, subst, zero-add, ◌∙◌}
use Rattle.std.proofs.lemmas.List.{length-map}
use Rattle.beldi_value.specs.{Id.id_cmp, declared.id.IntentId.IntentId}
use Rattle.beldi_step.specs.declared.run.{Mark.Mark, Run.Run, RunAt.RunAt, RunAt.TheVariants.Looks, RunAt.TheVariants.Registers, RunAt.TheVariants.Begins, Stage.Stage, Stage.TheVariants.Keep, Stage.TheVariants.Decide}
use Rattle.beldi_step.specs.HostStep.{has_run, put_run}
use Rattle.beldi_joined.specs.Joined.{raised_at, raised_mark, raised_run, raised_runs, raised_stage}

if_mapped : {A B : Type 0} (f : A → B) (b : Bool) (x y : Option A) → option_map f (cond b x y) ≡ cond b (option_map f x) (option_map f y)
if_mapped f true x y = refl
if_mapped f false x y = refl

module _ (n : ℕ) where
  abbrev pub lifted : List (ℕ × Run) → List (ℕ × Run)
  lifted es = map (λ e. (e.0, raised_run n e.1)) es

  below_lifted : (k : ℕ) (es : List (ℕ × Run)) → below_all nat_cmp k (lifted es) ≡ below_all nat_cmp k es
  below_lifted k [] = refl
  below_lifted k (e ∷ es) = ap (λ b. is_lt (nat_cmp k e.0) && b) (below_lifted k es)

  sorted_lifted : (es : List (ℕ × Run)) → is_sorted nat_cmp (lifted es) ≡ is_sorted nat_cmp es
  sorted_lifted [] = refl
  sorted_lifted (e ∷ es) = λ i. below_lifted e.0 es i && sorted_lifted es i

  find_lifted : (k : ℕ) (es : List (ℕ × Run)) → find nat_cmp k (lifted es) ≡ option_map (raised_run n) (find nat_cmp k es)
  find_lifted k [] = refl
  find_lifted k (e ∷ es) = ap (λ z. cond (eq_by_cmp nat_cmp k e.0) (Some (raised_run n e.1)) z) (find_lifted k es) ∙ sym (if_mapped (raised_run n) (eq_by_cmp nat_cmp k e.0) (Some e.1) (find nat_cmp k es))

  any_lifted : (id : IntentId) (es : List (ℕ × Run)) → list_any (λ e. is_eq (id_cmp e.1.id id)) (lifted es) ≡ list_any (λ e. is_eq (id_cmp e.1.id id)) es
  any_lifted id [] = refl
  any_lifted id (e ∷ es) = ap (λ b. is_eq (id_cmp e.1.id id) || b) (any_lifted id es)

  module _ (runs : FinMap nat_cmp Run) where
    pub entries_raised : finite.entries (raised_runs n runs) ≡ lifted (finite.entries runs)
    entries_raised = entries-from_sorted nat_cmp (lifted (finite.entries runs)) (subst T (sym (sorted_lifted (finite.entries runs))) (entries_sorted runs))

    pub get_raised : (i : ℕ) → finite.get (raised_runs n runs) i ≡ option_map (raised_run n) (finite.get runs i)
    get_raised i = get-entries (raised_runs n runs) i ∙ ap (find nat_cmp i) entries_raised ∙ find_lifted i (finite.entries runs) ∙ ap (option_map (raised_run n)) (sym (get-entries runs i))

    pub len_raised : finite.len (raised_runs n runs) ≡ finite.len runs
    len_raised = len-entries (raised_runs n runs) ∙ ap length entries_raised ∙ length-map (finite.entries runs) (λ e. (e.0, raised_run n e.1)) ∙ sym (len-entries runs)

    pub has_raised : (id : IntentId) → has_run (raised_runs n runs) id ≡ has_run runs id
    has_raised id = ap (list_any (λ e. is_eq (id_cmp e.1.id id))) entries_raised ∙ any_lifted id (finite.entries runs)

  pub empty_raised : raised_runs n finite.empty ≡ finite.empty
  empty_raised = empty_of_len (raised_runs n finite.empty) (len_raised finite.empty ∙ len-empty nat_cmp Run)

  module _ (runs : FinMap nat_cmp Run) (i : ℕ) where
    pub insert_raised : (r : Run) → raised_runs n (finite.insert runs i r) ≡ finite.insert (raised_runs n runs) i (raised_run n r)
    insert_raised r = same_map nat_cmp_total nat_cmp-IsAntisymmetric _ _ (λ q. get_raised (finite.insert runs i r) q ∙ ap (option_map (raised_run n)) (get-insert nat_cmp_total runs i r q) ∙ if_mapped (raised_run n) (eq_by_cmp nat_cmp q i) (Some r) (finite.get runs q)
        ∙ ap (λ z. cond (eq_by_cmp nat_cmp q i) (Some (raised_run n r)) z) (sym (get_raised runs q)) ∙ sym (get-insert nat_cmp_total (raised_runs n runs) i (raised_run n r) q))

    pub remove_raised : raised_runs n (finite.remove runs i) ≡ finite.remove (raised_runs n runs) i
    remove_raised = same_map nat_cmp_total nat_cmp-IsAntisymmetric _ _ (λ q. get_raised (finite.remove runs i) q ∙ ap (option_map (raised_run n)) (get-remove nat_cmp_total runs i q) ∙ if_mapped (raised_run n) (eq_by_cmp nat_cmp q i) None (finite.get runs q)
        ∙ ap (λ z. cond (eq_by_cmp nat_cmp q i) None z) (sym (get_raised runs q)) ∙ sym (get-remove nat_cmp_total (raised_runs n runs) i q))

    pub put_raised : (o : Option Run) → raised_runs n (put_run runs i o) ≡ put_run (raised_runs n runs) i (option_map (raised_run n) o)
    put_raised None = remove_raised
    put_raised (Some r) = insert_raised r

-- ---- behind no change a run is as it was
mark_none : (m : Mark) → raised_mark 0 m ≡ m
mark_none (Mark.Read version) = ap Mark.Read (zero-add version)
mark_none m = refl

stage_none : (s : Stage) → raised_stage 0 s ≡ s
stage_none (Keep v version) = ap (Keep v) (zero-add version)
stage_none (Decide m) = ap Decide (mark_none m)
stage_none s = refl

at_none : (at : RunAt) → raised_at 0 at ≡ at
at_none Looks = refl
at_none (Registers b) = refl
at_none (Begins g) = ap (λ s. Begins (record g { stage = s })) (stage_none g.stage)

if_none : (o : Option Run) → option_map (raised_run 0) o ≡ o
if_none None = refl
if_none (Some r) = ap (λ at. Some (record r { at = at })) (at_none r.at)

pub none_raised : (runs : FinMap nat_cmp Run) → raised_runs 0 runs ≡ runs
none_raised runs = same_map nat_cmp_total nat_cmp-IsAntisymmetric _ _ (λ q. get_raised 0 runs q ∙ if_none (finite.get runs q))
