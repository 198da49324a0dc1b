-- Live runs, and what they know when the book has grown.
use borrow.Author.Tests.{ltb-true}
use Rattle.std.proofs.Common.{◌-◌}
use Rattle.beldi_invariant.proofs.Names.{Answer, Begins, Begun, Body, Bool, Caller, Deployment, Entry, Equal-is, FinMap, Grown, GrownAt, Grows, Inside, Instance, IntentId, IsAt, IsBodyOf, IsKeptLate, IsLast, IsTrue, Item, Keeps, Histories, Knows, KnowsAt, List, Looks, Machine, None, Option, PlainState, Registers, Rows, Run, RunAt, RunTx, RunsMatch, Some, StandsAt, Value, WasThere, [], answered, ap, append-nil, append_assoc, arith, changed, changes_more, changes_of, cond, count_changes, elsewhere, false, get-empty, get-insert, get-remove, here, is_eq, is_some, len-empty, len-insert, len-remove, length, length-append, ltb-false, most_runs, advanced, nat_cmp, nat_cmp-IsAntisymmetric, nat_cmp_total, nat_lt, open_of, put_got, put_run, refl, subst, sym, true, with_answer, ℕ, ◌++◌, ◌+◌, ◌<◌, ◌∙◌, ◌∷◌, ◌≡◌, ◌≤◌}
use Rattle.beldi_invariant.proofs.{Grown.moved_longer, Outside.grown_there, Cases.by_option, Cases.false_by}
use Rattle.beldi_invariant.proofs.Names.map
use Rattle.beldi_invariant.proofs.Names.standing

-- ---- a run knows what it knew, when the book and the plain state have grown
answers_of : Option Instance → List Answer
answers_of None = []
answers_of (Some i) = i.answers

-- its instance was not answered in between
NotAnswered : Histories → Histories → IntentId → Type 0
NotAnswered histories next id = answers_of (map.get histories id) ≡ answers_of (map.get next id)

-- the place of a read, where it has still to be answered
pub PlacesOn : Deployment → List Entry → List Entry → Histories → Histories → Type 0
PlacesOn d book more histories next = (id : IntentId) (answers later before : List Answer) (x : Item) (v : Value) (version : ℕ) → (later ≡ [] → (before ≡ []) × NotAnswered histories next id) → Keeps d book id answers before x v version → Keeps d more id answers later x v version

pub no_more : (xs ys : List Answer) → xs ++ ys ≡ [] → (xs ≡ []) × (ys ≡ [])
no_more [] ys h = (refl, h)
no_more (x ∷ xs) ys h = cc

not_answered : (p q : Histories) (id : IntentId) (i j : Instance) → map.get p id ≡ Some i → map.get q id ≡ Some j → (w : Grown i j) → w.later ≡ [] → NotAnswered p q id
unfolding NotAnswered answers_of
not_answered p q id i j was is w none = ap answers_of was ∙ sym (append-nil i.answers) ∙ ap (λ xs. i.answers ++ xs) (sym none) ∙ w.more ∙ sym (ap answers_of is)

-- what was made stays made, and an outcome that is there stays
pub made_stays : (o u : Option Instance) → GrownAt o u → is_some o ≡ true → is_some u ≡ true
made_stays o u w there = grind arith

pub outcome_stays : (i j : Instance) → Grown i j → is_some i.outcome ≡ true → is_some j.outcome ≡ true
outcome_stays i j w there = by_option i.outcome (λ none. let clash = sym (ap is_some none) ∙ there in cc) (λ o is. ap is_some (w.over o is))

-- what is open after its answers stays
pub open_stays : (d : Deployment) (i j : Instance) (given : List Answer) → Grown i j → open_of d i given ≡ open_of d j given
open_stays d i j given w = λ k. open_of d (record i { func = sym w.func k; args = sym w.args k; enclosing = sym w.enclosing k }) given

-- a run stands where it stood, when its instance has grown
module _ {d : Deployment} {p q : Histories} {id : IntentId} {home : ℕ} {c : Option Caller} {s : Machine} {o : Option RunTx} (k : StandsAt d p id home c s o) (j : Instance) (made : map.get q id ≡ Some j) (w : Grown k.instance j) where
  abbrev pub stands_still : StandsAt d q id home c s o
  stands_still = record {
    instance = j;
    made = made;
    func = w.func ∙ k.func;
    caller = k.caller ∙ sym w.parent;
    answers = k.answers;
    later = k.later ++ w.later;
    run_answers = sym (append_assoc k.answers k.later w.later) ∙ ap (λ xs. xs ++ w.later) k.run_answers ∙ w.more;
    machine = subst (λ a. IsAt d home a (is_some j.enclosing) s k.answers) (sym w.args) (subst (λ t. IsAt d home k.instance.args (is_some t) s k.answers) (sym w.enclosing) k.machine);
    run_open = k.run_open ∙ open_stays d k.instance j k.answers w;
  }

-- .. and a read of it has its place
module _ {d : Deployment} {p : Histories} (q : Histories) {id : IntentId} {home : ℕ} {c : Option Caller} {s : Machine} {o : Option RunTx} (k : StandsAt d p id home c s o) (j : Instance) (made : map.get q id ≡ Some j) (w : Grown k.instance j) where
  pub keeps_still : (book more : List Entry) → PlacesOn d book more p q → (x : Item) (v : Value) (version : ℕ) → Keeps d book id k.answers k.later x v version → Keeps d more id k.answers (k.later ++ w.later) x v version
  unfolding PlacesOn
  keeps_still book more on x v version was = on id k.answers (k.later ++ w.later) k.later x v version (λ none. let both = no_more k.later w.later none in (both.0, not_answered p q id k.instance j k.made made w both.1)) was

-- a body stays that of its instance
body_on : (b : Body) (o u : Option Instance) → GrownAt o u → IsBodyOf b o → IsBodyOf b u
body_on b o u w h = grind arith

-- a run that has begun finds in the rows n what it has to, where it did in the rows m, when the book has grown
abbrev pub InsideOn : Deployment → Rows → Rows → PlainState → PlainState → List Entry → Histories → Histories → Type 0
InsideOn d m n x y book p q = (more : List Entry) → PlacesOn d book more p q → (r : Run) (g : Begun) (k : Knows d p r g) → Inside m x book k g.stage → (j : Instance) (made : map.get q r.id ≡ Some j) (w : Grown k.instance j) → Inside n y more (stands_still k j made w) g.stage

module _ (d : Deployment) (m n : Rows) (x y : PlainState) (book more : List Entry) (p q : Histories) (w : Grows p q) (on : PlacesOn d book more p q) (finds : InsideOn d m n x y book p q) where
  knows_on : (r : Run) (at : standing.RunAt) → KnowsAt d m x book p r at → KnowsAt d n y more q r at
  knows_on r Looks h = tt
  knows_on r (Registers b) h = record { body = body_on b (map.get p r.id) (map.get q r.id) (w r.id) h.body; func = h.func; callee = h.callee }
  knows_on r (Begins g) h = let z = grown_there h.0.instance (map.get p r.id) (map.get q r.id) h.0.made (w r.id) in (stands_still h.0 z.0 z.1 z.2, finds more on r g h.0 h.1 z.0 z.1 z.2)

  pub run_on : (o : Option Run) → RunAt d m x book p o → RunAt d n y more q o
  run_on None h = tt
  run_on (Some r) h = knows_on r r.at h

  -- so do all that are live
  pub runs_on : (live : FinMap nat_cmp Run) (last : ℕ) → RunsMatch d m x book p live last → RunsMatch d n y more q live last
  runs_on live last h = record { numbers = h.numbers; few = h.few; runs = λ i. run_on (map.get live i) (h.runs i) }

-- a change at the end leaves all places as they are
there_last : (d : Deployment) (book : List Entry) (e : Entry) (q : PlainState) → IsLast d book e q → (id : IntentId) (answers : List Answer) (x : Item) (v : Value) (s : ℕ) → s ≤ count_changes book → WasThere d book id answers x v s → WasThere d (book ++ e ∷ []) id answers x v s
there_last d book e q last id answers x v s few w = record {
  state = w.state;
  is_state = last.earlier s w.state few w.is_state;
  instance = w.instance;
  made = w.made;
  same = w.same;
  value = w.value;
  unlocked = w.unlocked;
}

more_changes : (book : List Entry) (e : Entry) (s : ℕ) → s ≤ count_changes book → s ≤ count_changes (book ++ e ∷ [])
more_changes book e s h =
    let n = ap length (changes_more book (e ∷ [])) ∙ length-append (changes_of book) (changes_of (e ∷ [])) in omega (arith, n, h)

pub places_last : (d : Deployment) (book : List Entry) (e : Entry) (histories next : Histories) (q : PlainState) → IsLast d book e q → PlacesOn d book (book ++ e ∷ []) histories next
unfolding PlacesOn
places_last d book e histories next q last id answers later before x v s back h = record { few = more_changes book e s h.few; was_there = λ none. there_last d book e q last id answers x v s h.few (h.was_there (back none).0) }

-- a read that is kept late leaves the places of all others as they are
module _ (d : Deployment) (book : List Entry) (p : PlainState) (id : IntentId) (s : ℕ) (a : Instance) (v : Value) (histories : Histories) (made : map.get histories id ≡ Some a) (late : IsKeptLate d book p id s a v) where
  abbrev more : List Entry
  more = book ++ Entry.Read id s ∷ []

  abbrev then_so : Histories
  then_so = map.insert histories id (advanced d id a (Answer.Value v))

  answered_since : (j : IntentId) → id ≡ j → NotAnswered histories then_so j → ⊥
  unfolding NotAnswered answers_of
  answered_since j same h =
      let was = ap (λ i. answers_of (map.get histories i)) (sym same) ∙ ap answers_of made in
      let is = ap (λ i. answers_of (map.get then_so i)) (sym same) ∙ ap answers_of (here histories id (advanced d id a (Answer.Value v))) in
      let n = ap length (sym was ∙ h ∙ is) in
      let k = moved_longer d id a (Answer.Value v) in
      omega (arith, n, k)

  there_late : (other : IntentId) (answers : List Answer) (x : Item) (u : Value) (t : ℕ) → (id ≡ other → ⊥) → WasThere d book other answers x u t → WasThere d more other answers x u t
  there_late other answers x u t apart w = elim (nat_lt t s) as (λ b. nat_lt t s ≡ b → WasThere d more other answers x u t) [
    | true ↦ λ e. record { state = w.state; is_state = late.before t w.state (ltb-true t s e) w.is_state; instance = w.instance; made = w.made; same = w.same; value = w.value; unlocked = w.unlocked }
    | false ↦ λ e. record {
      state = with_answer w.state id a v;
      is_state = late.since t w.state (ltb-false t s e) w.is_state;
      instance = w.instance;
      made = elsewhere w.state.made id other (answered a (Answer.Value v)) apart ∙ w.made;
      same = w.same;
      value = w.value;
      unlocked = λ j held. w.unlocked j (sym (late.locks t w.state (ltb-false t s e) w.is_state x j) ∙ held);
    }
  ] refl

  pub places_late : PlacesOn d book more histories then_so
  unfolding PlacesOn
  places_late j answers later before x u t back h = record {
    few = more_changes book (Entry.Read id s) t h.few;
    was_there = λ none. there_late j answers x u t (λ same. answered_since j same (back none).1) (h.was_there (back none).0);
  }

-- ---- live runs
fewer : (b : Bool) (n k : ℕ) → n ≤ k → cond b (n - 1) n ≤ k
fewer b n k h = grind arith

put_few : (m : FinMap nat_cmp Run) (i : ℕ) (o : Option Run) (k : ℕ) → IsTrue (is_some (map.get m i)) → map.len m ≤ k → map.len (put_run m i o) ≤ k
put_few m i None k there h = subst (λ n. n ≤ k) (sym (len-remove nat_cmp_total m i)) (fewer (is_some (map.get m i)) (map.len m) k h)
put_few m i (Some r) k there h = subst (λ n. n ≤ k) (sym (len-insert nat_cmp_total m i r)) (grind (arith, there))

-- the histories have grown beside the same book
pub places_same : (d : Deployment) (book : List Entry) (histories next : Histories) → PlacesOn d book book histories next
unfolding PlacesOn
places_same d book histories next id answers later before x v s back h = record { few = h.few; was_there = λ none. h.was_there (back none).0 }

-- a live run goes on, or is over
pub runs_put : (d : Deployment) (m : Rows) (p : PlainState) (book : List Entry) (histories : Histories) (live : FinMap nat_cmp Run) (last i : ℕ) (o : Option Run) → IsTrue (is_some (map.get live i)) → RunAt d m p book histories o → RunsMatch d m p book histories live last → RunsMatch d m p book histories (put_run live i o) last
runs_put d m p book histories live last i o there here h = record {
  numbers = changed nat_cmp-IsAntisymmetric live (put_run live i o) i o (put_got live i o) (λ n r. IsTrue (is_some r) → (1 ≤ n) × (n ≤ last)) (λ t. h.numbers i there) h.numbers;
  few = put_few live i o most_runs there h.few;
  runs = changed nat_cmp-IsAntisymmetric live (put_run live i o) i o (put_got live i o) (λ n r. RunAt d m p book histories r) here h.runs;
}

-- a run is over, whether it was live or not
pub runs_less : (d : Deployment) (m : Rows) (p : PlainState) (book : List Entry) (histories : Histories) (live : FinMap nat_cmp Run) (last i : ℕ) → RunsMatch d m p book histories live last → RunsMatch d m p book histories (map.remove live i) last
runs_less d m p book histories live last i h = record {
  numbers = changed nat_cmp-IsAntisymmetric live (map.remove live i) i None (get-remove nat_cmp_total live i) (λ n r. IsTrue (is_some r) → (1 ≤ n) × (n ≤ last)) (λ t. cc) h.numbers;
  few = subst (λ n. n ≤ most_runs) (sym (len-remove nat_cmp_total live i)) (fewer (is_some (map.get live i)) (map.len live) most_runs h.few);
  runs = changed nat_cmp-IsAntisymmetric live (map.remove live i) i None (get-remove nat_cmp_total live i) (λ n r. RunAt d m p book histories r) tt h.runs;
}

-- a run is new
-- no run is live
pub runs_none : (d : Deployment) (m : Rows) (p : PlainState) (book : List Entry) (histories : Histories) (last : ℕ) → RunsMatch d m p book histories map.empty last
runs_none d m p book histories last = record {
  numbers = λ n e. absurd (not_there (subst (λ o. IsTrue (is_some o)) (get-empty nat_cmp n) e));
  few = subst (λ n. n ≤ most_runs) (sym (len-empty nat_cmp Run)) (omega arith);
  runs = λ n. subst (λ o. RunAt d m p book histories o) (sym (get-empty nat_cmp n)) tt;
}
  where
    not_there : IsTrue false → ⊥
    not_there e = cc

pub runs_more : (d : Deployment) (m : Rows) (p : PlainState) (book : List Entry) (histories : Histories) (live : FinMap nat_cmp Run) (last : ℕ) (r : Run) → map.len live < most_runs → KnowsAt d m p book histories r r.at → RunsMatch d m p book histories live last → RunsMatch d m p book histories (map.insert live (last + 1) r) (last + 1)
runs_more d m p book histories live last r room here h = record {
  numbers = changed nat_cmp-IsAntisymmetric live (map.insert live (last + 1) r) (last + 1) (Some r) (get-insert nat_cmp_total live (last + 1) r) (λ n o. IsTrue (is_some o) → (1 ≤ n) × (n ≤ last + 1))
      (λ t. (omega arith, omega arith)) (λ n t. let b = h.numbers n t in (b.0, omega (arith, b.1)));
  few = subst (λ n. n ≤ most_runs) (sym (len-insert nat_cmp_total live (last + 1) r)) (by_test (is_some (map.get live (last + 1))));
  runs = changed nat_cmp-IsAntisymmetric live (map.insert live (last + 1) r) (last + 1) (Some r) (get-insert nat_cmp_total live (last + 1) r) (λ n o. RunAt d m p book histories o) here h.runs;
}
  where
    by_test : (b : Bool) → cond b (map.len live) (map.len live + 1) ≤ most_runs
    by_test b = grind arith

-- .. and was not started
pub runs_before : (d : Deployment) (m : Rows) (p : PlainState) (book : List Entry) (histories : Histories) (live : FinMap nat_cmp Run) (last : ℕ) (r : Run) → ((n : ℕ) → IsTrue (is_some (map.get live n)) → n ≤ last) → RunsMatch d m p book histories (map.insert live (last + 1) r) (last + 1) → RunsMatch d m p book histories live last
runs_before d m p book histories live last r given h = record {
  numbers = λ n t. ((h.numbers n (subst (λ o. IsTrue (is_some o)) (sym (others n (given n t))) t)).0, given n t);
  few = fewer_before (is_some (map.get live (last + 1))) (subst (λ n. n ≤ most_runs) (len-insert nat_cmp_total live (last + 1) r) h.few);
  runs = λ n. by_number n (nat_lt last n) refl;
}
  where
    others : (n : ℕ) → n ≤ last → map.get (map.insert live (last + 1) r) n ≡ map.get live n
    others n le = get-insert nat_cmp_total live (last + 1) r n ∙ ap (λ b. cond b (Some r) (map.get live n)) (false_by (is_eq (nat_cmp n (last + 1))) (λ e.
        let same = nat_cmp-IsAntisymmetric n (last + 1) ((Equal-is (nat_cmp n (last + 1))).0 e) in absurd (omega (arith, same, le))))

    fewer_before : (b : Bool) → cond b (map.len live) (map.len live + 1) ≤ most_runs → map.len live ≤ most_runs
    fewer_before b le = grind arith

    not_live : (n : ℕ) (o : Option Run) → map.get live n ≡ o → last < n → RunAt d m p book histories o
    not_live n None is more = tt
    not_live n (Some k) is more = let le = given n (ap is_some is) in absurd (omega (arith, le, more))

    by_number : (n : ℕ) (b : Bool) → nat_lt last n ≡ b → RunAt d m p book histories (map.get live n)
    by_number n true e = not_live n (map.get live n) refl (ltb-true last n e)
    by_number n false e = subst (RunAt d m p book histories) (others n (ltb-false last n e)) (h.runs n)

-- the numbers of the live runs were given, also once a run went on or was over
pub numbers_put : (live : FinMap nat_cmp Run) (last i : ℕ) (o : Option Run) → IsTrue (is_some (map.get live i)) → ((n : ℕ) → IsTrue (is_some (map.get live n)) → n ≤ last) → (n : ℕ) → IsTrue (is_some (map.get (put_run live i o) n)) → n ≤ last
numbers_put live last i o there h = changed nat_cmp-IsAntisymmetric live (put_run live i o) i o (put_got live i o) (λ n r. IsTrue (is_some r) → n ≤ last) (λ t. h i there) h
