-- The runs as a map, and a turn of one of them.
use Rattle.beldi_core.proofs.Names.{AllCounted, AllGiven, AllKept, Bool, Core, CountMap, Deployment, Equal-is, Err, IsSome, IsWalk, Mark, None, Ok, Option, Result, Run, RunMap, RunTold, Some, QueryReply, TurnOutput, Turned, Turns, WalkTold, Walking, ap, arith, cond, ends_run, eq_by_cmp, false, followed, get-empty, get-insert, get-remove, going, id_cmp, is_eq, is_none, is_of, kept_as, ltb-false, ltb-true, more, nat_cmp, nat_cmp-IsAntisymmetric, nat_cmp_total, nat_lt, none_removed, past_first, put_run, refl, remove_put, row_of, run_told, output_of, settled, settled_counts, subst, suc, sym, tied_itself, true, uncounted, unless_first, walked, walked_in, walking, withdrawn, ℕ, ◌+◌, ◌-◌, ◌==◌, ◌∙◌, ◌≡◌, ◌≤◌}
use Rattle.beldi_core.proofs.Counting.{inside, none_counted, put_counted, removed_counted, same_counted, counted_lower, gone_here, put_there}
use Rattle.beldi_core.proofs.Names.map

-- ---- no number past the last has a run
pub both_none : (b : Bool) (o : Option Run) → o ≡ None → cond b None o ≡ None
both_none true o h = refl
both_none false o h = h

given_removed : (g : ℕ) (m n : RunMap) (k : ℕ) → AllGiven g m → n ≡ map.remove m k → AllGiven g n
given_removed g m n k h is i p = ap (λ q. map.get q i) is ∙ get-remove nat_cmp_total m k i ∙ both_none _ _ (h i p)

given_started : (g : ℕ) (m n : RunMap) (r : Run) → AllGiven g m → n ≡ map.insert m (g + 1) r → AllGiven (g + 1) n
given_started g m n r h is i p = ap (λ q. map.get q i) is ∙ put_there m (g + 1) r i (λ e. omega (arith, e, p)) ∙ h i (omega arith)

given_withdrawn : (g : ℕ) (m n : RunMap) → 1 ≤ g → AllGiven g m → n ≡ map.remove m g → AllGiven (g - 1) n
given_withdrawn g m n some h is i p = ap (λ q. map.get q i) is ∙ get-remove nat_cmp_total m g i ∙ (elim (nat_lt g i) as (λ b. nat_lt g i ≡ b → cond (eq_by_cmp nat_cmp i g) None (map.get m i) ≡ None) [
  | true ↦ λ e. both_none _ _ (h i (ltb-true g i e))
  | false ↦ λ e. let last : i ≡ g = omega (arith, ltb-false g i e) in ap (λ b. cond b None (map.get m i)) (ap (λ j. eq_by_cmp nat_cmp j g) last ∙ ap is_eq (tied_itself nat_cmp_total g))
]) refl

-- the last number, taken back
pub back : (g : ℕ) (m n : RunMap) (r : Run) → AllGiven g m → n ≡ map.insert m (g + 1) r → withdrawn (record { runs = n; given = g + 1 }) ≡ record { runs = m; given = g }
back g m n r h is =
    let runs : map.remove n (g + 1) ≡ m = ap (λ q. map.remove q (g + 1)) is ∙ remove_put m (g + 1) (Some r) ∙ none_removed nat_cmp_total nat_cmp-IsAntisymmetric m (g + 1) (h (g + 1) (omega arith)) in
    let given : g + 1 - 1 ≡ g = omega arith in
    λ j. record { runs = runs j; given = given j }

-- ---- what is kept
both : (g : ℕ) {a b : RunMap} {n k : CountMap} → a ≡ b → n ≡ k → AllKept g a n → AllKept g b k
both g {a} {b} {n} {k} p q h = subst (AllKept g b) q (subst (λ x. AllKept g x n) p h)

counts_removed : (g : ℕ) (m : RunMap) (n : CountMap) (k : ℕ) (o : Option Run) → map.get m k ≡ o → AllKept g m n → AllCounted g (map.remove m k) (uncounted n o)
counts_removed g m n k None is h = subst (λ q. AllCounted g q n) (sym (none_removed nat_cmp_total nat_cmp-IsAntisymmetric m k is)) h.counted_all
counts_removed g m n k (Some r) is h =
    let p = inside g m n k h (λ none. let clash : None ≡ Some r = sym none ∙ is in cc) in
    removed_counted g k m n r is p.0 p.1 h.counted_all

kept_removed : (g : ℕ) (m : RunMap) (n : CountMap) (k : ℕ) → AllKept g m n → AllKept g (map.remove m k) (uncounted n (map.get m k))
kept_removed g m n k h = record {
  none_first = get-remove nat_cmp_total m k 0 ∙ both_none _ _ h.none_first;
  given_all = given_removed g m _ k h.given_all refl;
  counted_all = counts_removed g m n k (map.get m k) refl h;
}

pub removed : (g : ℕ) (m a : RunMap) (n b : CountMap) (k : ℕ) → AllKept g m n → a ≡ map.remove m k → b ≡ uncounted n (map.get m k) → AllKept g a b
removed g m a n b k h is left = both g (sym is) (sym left) (kept_removed g m n k h)

kept_withdrawn : (g : ℕ) (m : RunMap) (n : CountMap) → 1 ≤ g → AllKept g m n → AllKept (g - 1) (map.remove m g) (uncounted n (map.get m g))
kept_withdrawn g m n some h = let all = kept_removed g m n g h in record {
  none_first = all.none_first;
  given_all = given_withdrawn g m _ some h.given_all refl;
  counted_all = λ id. all.counted_all id ∙ ap kept_as (counted_lower g (map.remove m g) id some (gone_here m g));
}

pub taken_back : (g : ℕ) (m a : RunMap) (n b : CountMap) → 1 ≤ g → AllKept g m n → a ≡ map.remove m g → b ≡ uncounted n (map.get m g) → AllKept (g - 1) a b
taken_back g m a n b some h is left = both (g - 1) (sym is) (sym left) (kept_withdrawn g m n some h)

kept_started : (g : ℕ) (m : RunMap) (n : CountMap) (r : Run) → AllKept g m n → AllKept (g + 1) (map.insert m (g + 1) r) (more n r.id)
kept_started g m n r h = let next : suc g ≡ g + 1 = omega arith in record {
  none_first = put_there m (g + 1) r 0 (λ e. omega (arith, e)) ∙ h.none_first;
  given_all = given_started g m _ r h.given_all refl;
  counted_all = subst (λ x. AllCounted x (map.insert m x r) (more n r.id)) next (put_counted g m n r h.counted_all);
}

pub begun : (g : ℕ) (m a : RunMap) (n b : CountMap) (r : Run) → AllKept g m n → a ≡ map.insert m (g + 1) r → b ≡ more n r.id → AllKept (g + 1) a b
begun g m a n b r h is left = both (g + 1) (sym is) (sym left) (kept_started g m n r h)

pub none_kept : (g : ℕ) (a : RunMap) (n : CountMap) → a ≡ map.empty → n ≡ map.empty → AllKept g a n
none_kept g a n is none = both g (sym is) (sym none) (record {
  none_first = get-empty nat_cmp 0;
  given_all = λ i p. get-empty nat_cmp i;
  counted_all = λ id. get-empty id_cmp id ∙ sym (ap kept_as (none_counted g map.empty id (λ i. ap (is_of id) (get-empty nat_cmp i))));
})

-- ---- a turn
still_none : (a : RunMap) (i j : ℕ) (r s : Run) → map.get a i ≡ Some r → map.get a j ≡ None → map.get (map.insert a i s) j ≡ None
still_none a i j r s here none = get-insert nat_cmp_total a i s j ∙ (elim (eq_by_cmp nat_cmp j i) as (λ b. eq_by_cmp nat_cmp j i ≡ b → cond b (Some s) (map.get a j) ≡ None) [
  | true ↦ λ e. let same = ap (map.get a) (nat_cmp-IsAntisymmetric j i ((Equal-is (nat_cmp j i)).0 e)) in let clash : None ≡ Some r = sym none ∙ same ∙ here in cc
  | false ↦ λ e. none
]) refl

kept_put : (g : ℕ) (a : RunMap) (n : CountMap) (i : ℕ) (r s : Run) → map.get a i ≡ Some r → s.id ≡ r.id → AllKept g a n → AllKept g (map.insert a i s) n
kept_put g a n i r s here same h = record {
  none_first = still_none a i 0 r s here h.none_first;
  given_all = λ j p. still_none a i j r s here (h.given_all j p);
  counted_all = same_counted g i a n r s here same h.counted_all;
}

kept_settled : (g : ℕ) (b : RunMap) (n : CountMap) (i : ℕ) (over : Bool) → AllKept g b n → AllKept g (settled over b i) (settled_counts over n (map.get b i))
kept_settled g b n i true h = kept_removed g b n i h
kept_settled g b n i false h = h

pub kept_told : (g : ℕ) (a b c : RunMap) (n k : CountMap) (i : ℕ) (r s : Run) (over : Bool) → map.get a i ≡ Some r → s.id ≡ r.id → b ≡ map.insert a i s
    → c ≡ settled over b i → k ≡ settled_counts over n (map.get b i) → AllKept g a n → AllKept g c k
kept_told g a b c n k i r s over here same set is left h =
    both g (sym is) (sym left) (kept_settled g b n i over (both g (sym set) refl (kept_put g a n i r s here same h)))

put_back : (a : RunMap) (i : ℕ) (s : Run) (over : Bool) → settled over (map.insert a i s) i ≡ put_run a i (going s over)
put_back a i s true = remove_put a i (Some s)
put_back a i s false = refl

over_back : (s : Run) (over : Bool) → is_none (going s over) ≡ over
over_back s true = refl
over_back s false = refl

output_back : (s : Run) (x : TurnOutput) → x ≡ output_of (followed s x)
output_back s x = λ j. record { mark = x.mark; over = sym (over_back s x.over) j; starts = x.starts; wait = x.wait; reply = x.reply }

pub run_was_told : (d : Deployment) (changes : ℕ) (a b c : RunMap) (i : ℕ) (r s : Run) (t : QueryReply) (x : Result TurnOutput (Option Mark)) → map.get a i ≡ Some r → b ≡ map.insert a i s → c ≡ settled (ends_run x) b i
    → Turns s x (run_told d changes r t) → RunTold d changes a c i (map.get a i) t x
run_was_told d changes a b c i r s t (Ok x) here set is h = subst (λ (o : Option Run). RunTold d changes a c i o t (Ok x)) (sym here)
    (is ∙ ap (λ q. settled x.over q i) set ∙ put_back a i s x.over ∙ ap (λ (z : Turned). put_run a i z.next) h, output_back s x ∙ ap output_of h)
run_was_told d changes a b c i r s t (Err m) here set is h = subst (λ (o : Option Run). RunTold d changes a c i o t (Err m)) (sym here) (is ∙ ap (λ q. map.remove q i) set ∙ remove_put a i (Some s), h)

pub absent_run : (o : Option Run) → IsSome o → o ≡ None → ⊥
absent_run o h is = cc

-- ---- a run that walks
pub set_forward : (a b : RunMap) (i row : ℕ) (r s : Run) → map.get a i ≡ Some r → b ≡ map.insert a i s → s ≡ walked row r → b ≡ walked_in a i row (map.get a i)
set_forward a b i row r s here set is = set ∙ ap (map.insert a i) is ∙ sym (ap (walked_in a i row) here)

pub not_live : (a b : RunMap) (i row : ℕ) (o : Option Run) → o ≡ None → b ≡ a → b ≡ walked_in a i row o
not_live a b i row o is same = same ∙ sym (ap (walked_in a i row) is)

pub kept_forward : (g : ℕ) (a b : RunMap) (n : CountMap) (i : ℕ) (r s : Run) → map.get a i ≡ Some r → s.id ≡ r.id → b ≡ map.insert a i s → AllKept g a n → AllKept g b n
kept_forward g a b n i r s here same set h = kept_told g a b b n n i r s false here same set refl refl h

past_is : (o : Option Walking) (w : Walking) → past_first o ≡ Some w → o ≡ Some w
past_is None w h = cc
past_is (Some v) w h = by_test (row_of v.key.kind == 0) h
  where
    by_test : (b : Bool) → unless_first b v ≡ Some w → Some v ≡ Some w
    by_test true is = cc
    by_test false is = is

pub walk_told : (c : Core) (i : ℕ) (r : Run) (o : Option Walking) → map.get c.runs i ≡ Some r → c.shut ≡ false → nat_lt r.deadline c.now ≡ false → o ≡ past_first (walking r) → WalkTold c i o
walk_told c i r None here unshut late is = tt {0}
walk_told c i r (Some w) here unshut late is = subst (IsWalk c w) (sym here) (unshut, late, past_is (walking r) w (sym is))
