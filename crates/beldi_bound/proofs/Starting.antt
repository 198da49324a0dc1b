-- At the start there is a ledger, of at most the work.
use Rattle.std.specs.{FinMap.find as find_entry, FinMap.get-entries, FinMap.nat_cmp-IsAntisymmetric, Cmp.Equal-is, Cmp.nat_cmp_total, Ordering.is_eq, Ordering.nat_cmp}
use Rattle.std.specs.FinMap as map
use Rattle.std.specs.Prelude.{IsTrue}
use Rattle.std.proofs.lemmas.Cmp.{tied_itself}
use Rattle.std.proofs.Common.{Bool, List, None, Option, Some, [], ap, append-nil, append_assoc, arith, cond, eq-eqb, eqb-true, false, if◌then◌else◌, inl, inr, is_some, length, map as each, not, refl, subst, sym, true, ℕ, ◌&&◌, ◌*◌, ◌++◌, ◌+◌, ◌-◌, ◌==◌, ◌∙◌, ◌∷◌, ◌≡◌, ◌≤◌, ◌⊎◌}
use Rattle.beldi_value.specs.declared.{id.IntentId.IntentId}
use Rattle.beldi_tree.specs.declared.deployment.Deployment.{Deployment}
use Rattle.beldi_lang.specs.declared.effect.{Answer.Answer}
use Rattle.beldi_plain.specs.Plain.{effect_of}
use Rattle.beldi_row.{specs.Key.RowKey, specs.KeyOrder.key_exact, specs.Table.Rows, specs.declared.key.Kind.Kind, specs.declared.row.Body.Body, specs.declared.row.Row.Row}
use Rattle.beldi_call.specs.declared.async_call.AsyncAt.{AsyncAt}
use Rattle.beldi_step.specs.{HostStep.Core, declared.run.Begun.Begun, declared.run.Run.Run, declared.run.RunAt.RunAt, declared.run.Stage.Stage}
use Rattle.beldi_schedule.specs.Settles.{State}
use Rattle.beldi_histories.proofs.Cases.{by_cases}
use Rattle.beldi_upkeep.specs.Checked.{body_at}
use Rattle.beldi_bound.specs.{Cost.AreAsked, Cost.body_cost, Cost.cost_at, Cost.cost_from, Cost.kind_cost, Cost.step_cost, Cost.with_answers, Ends.IsIn, Ends.Sound}
use Rattle.beldi_bound.specs.SettleWork.{greatest, has_ended, is_open, most_of, one_more, open_keys, seat, seats, sum_of, work_of}
use Rattle.beldi_bound.proofs.{BoundEntries.entry_of, Facts.GoesOn, Facts.RunsStand, Facts.Stands, Facts.begun_left, Facts.rest_cost, StageLeft.stage_is_few}
use Rattle.beldi_bound.proofs.Ledger.{Covers, CoversAt, Ledger, amount, callee_key, cost, due, find, if_free, spare, spare_of, stuck, stuck_by, stuck_in, total}

-- ---- lists
in_front : {X : Type 0} (x : X) (xs ys : List X) → IsIn x xs → IsIn x (xs ++ ys)
in_front x [] ys h = absurd h
in_front x (z ∷ xs) ys (inl is) = inl is
in_front x (z ∷ xs) ys (inr h) = inr (in_front x xs ys h)

in_back : {X : Type 0} (x : X) (xs ys : List X) → IsIn x ys → IsIn x (xs ++ ys)
in_back x [] ys h = h
in_back x (z ∷ xs) ys h = inr (in_back x xs ys h)

in_either : {X : Type 0} (x : X) (xs ys : List X) → IsIn x (xs ++ ys) → IsIn x xs ⊎ IsIn x ys
in_either x [] ys h = inr h
in_either x (z ∷ xs) ys (inl is) = inl (inl is)
in_either x (z ∷ xs) ys (inr h) = elim (in_either x xs ys h) [ inl a ↦ inl (inr a) | inr b ↦ inr b ]

in_each : {X Y : Type 0} (f : X → Y) (x : X) (xs : List X) → IsIn x xs → IsIn (f x) (each f xs)
in_each f x [] h = absurd h
in_each f x (z ∷ xs) (inl is) = inl (ap f is)
in_each f x (z ∷ xs) (inr h) = inr (in_each f x xs h)

sum_append : {X : Type 0} (f : X → ℕ) (xs ys : List X) → sum_of f (xs ++ ys) ≡ sum_of f xs + sum_of f ys
sum_append f [] ys = omega arith
sum_append f (x ∷ xs) ys = let rest = sum_append f xs ys in omega (arith, rest)

at_most : {X : Type 0} (f : X → ℕ) (x : X) (xs : List X) → IsIn x xs → f x ≤ most_of f xs
at_most f x [] h = absurd h
at_most f x (z ∷ xs) (inl is) = let same = ap f is in omega (arith, same)
at_most f x (z ∷ xs) (inr h) = let rest = at_most f x xs h in omega (arith, rest)

-- ---- keys that are open
open_there : (m : Rows) (k : RowKey) (r : Row) (es : List (RowKey × Row)) → IsIn (k, r) es → is_open m (k, r) ≡ true → IsIn k (open_keys m es)
open_there m k r [] h is = absurd h
open_there m k r (x ∷ es) h is = (elim (is_open m x) as (λ t. is_open m x ≡ t → IsIn k (if t then x.0 ∷ open_keys m es else open_keys m es)) [
  | true ↦ λ e. elim h [ inl same ↦ inl (ap (λ (z : RowKey × Row). z.0) same) | inr there ↦ inr (open_there m k r es there is) ]
  | false ↦ λ e. elim h [ inl same ↦ absurd (clash same e) | inr there ↦ open_there m k r es there is ]
]) refl
  where
    clash : (k, r) ≡ x → is_open m x ≡ false → ⊥
    clash same e = let no : true ≡ false = sym is ∙ ap (is_open m) same ∙ e in cc

-- an amount for each run
amount_found : (f : Run → ℕ) (i : ℕ) (r : Run) (es : List (ℕ × Run)) → find_entry nat_cmp i es ≡ Some r → find i (each (λ (x : ℕ × Run). (x.0, f x.1)) es) ≡ Some (f r)
amount_found f i r [] h = cc
amount_found f i r (x ∷ es) h = (elim (is_eq (nat_cmp i x.0)) as (λ t. is_eq (nat_cmp i x.0) ≡ t → cond t (Some x.1) (find_entry nat_cmp i es) ≡ Some r → find i (each (λ (x : ℕ × Run). (x.0, f x.1)) (x ∷ es)) ≡ Some (f r)) [
  | true ↦ λ e here. ap (λ t. if t then Some (f x.1) else find i (each (λ (x : ℕ × Run). (x.0, f x.1)) es)) (eq-eqb i x.0 (nat_cmp-IsAntisymmetric i x.0 ((Equal-is (nat_cmp i x.0)).0 e))) ∙ ap (λ z. Some (f z)) (some_is here)
  | false ↦ λ e there. ap (λ t. if t then Some (f x.1) else find i (each (λ (x : ℕ × Run). (x.0, f x.1)) es)) (apart e) ∙ amount_found f i r es there
]) refl h
  where
    some_is : {v w : Run} → Some v ≡ Some w → v ≡ w
    some_is w = cc

    apart : is_eq (nat_cmp i x.0) ≡ false → (i == x.0) ≡ false
    apart e = by_cases (i == x.0) (λ t. let self : is_eq (nat_cmp i i) ≡ true = ap is_eq (tied_itself nat_cmp_total i) in let no : true ≡ false = sym self ∙ ap (λ z. is_eq (nat_cmp i z)) (eqb-true i x.0 t) ∙ e in cc) (λ t. t)

amounts_sum : (f : Run → ℕ) (es : List (ℕ × Run)) → sum_of amount (each (λ (x : ℕ × Run). (x.0, f x.1)) es) ≡ sum_of f (each (λ (x : ℕ × Run). x.1) es)
amounts_sum f [] = refl
amounts_sum f (x ∷ es) = ap (λ n. f x.1 + n) (amounts_sum f es)

-- ---- what is left of a run is less than its intent's whole cost
module _ (d : Deployment) (e : Rows) (id : IntentId) (b : Body) where
  from_front : (given xs ys : List Answer) → cost_from d e id b (given ++ xs) ys ≤ cost_from d e id b given (xs ++ ys)
  from_front given [] ys = let same = ap (λ z. cost_from d e id b z ys) (append-nil given) in omega (arith, same)
  from_front given (a ∷ xs) ys = let rest = from_front (given ++ a ∷ []) xs ys in let same = ap (λ z. cost_from d e id b z ys) (append_assoc given (a ∷ []) xs) in omega (arith, rest, same)

  step_and_rest : (given later : List Answer) → step_cost d e id b given + rest_cost d e id b given later ≤ cost_from d e id b given later
  step_and_rest given [] = omega arith
  step_and_rest given (a ∷ later) = omega arith

pub begun_few : (d : Deployment) (c : Core) (m e : Rows) (asked : IntentId → List Answer) (i : ℕ) (r : Run) (g : Begun) → Sound d c m → GoesOn m e → map.get c.runs i ≡ Some r → r.at ≡ RunAt.Begins g → (s : Stands d e asked r g)
    → begun_left m s ≤ cost_from d e r.id s.body [] (asked r.id)
begun_few d c m e asked i r g sound goes live at s =
    let here = stage_is_few d c m e i r g s.body (asked r.id) sound goes live at s.along in
    let rest = step_and_rest d e r.id s.body s.along.answers s.along.later in
    let front = from_front d e r.id s.body [] s.along.answers s.along.later in
    let same = ap (cost_from d e r.id s.body []) s.along.all in omega (arith, here, rest, front, same)

-- ---- the ledger
module _ (d : Deployment) (room : ℕ) (s t : State) (asked : IntentId → List Answer) where
  abbrev first_of : ℕ
  first_of = s.core.last_run

  abbrev most_at : ℕ
  most_at = greatest (cost_at d t.rows asked) s t

  abbrev Cost : RowKey → ℕ
  Cost k = cost d room t.rows asked first_of most_at k

  abbrev Due : RowKey → ℕ
  Due k = due d room t.rows asked first_of most_at k

  abbrev stuck_at : RowKey → Option RowKey
  stuck_at k = stuck d room t.rows asked first_of most_at k

  abbrev listed : Option RowKey → List RowKey
  listed None = []
  listed (Some j) = j ∷ []

  -- the callees of calls that are never answered
  abbrev stucks : List RowKey → List RowKey
  stucks [] = []
  stucks (k ∷ ks) = listed (stuck_at k) ++ stucks ks

  abbrev opens : List RowKey
  opens = open_keys s.rows (map.entries t.rows)

  abbrev pub keys_at_start : List RowKey
  keys_at_start = opens ++ (stucks opens ++ stucks (seats s))

  abbrev worth : Run → ℕ
  worth r = one_more Due (seat r)

  abbrev pub runs_at_start : List (ℕ × ℕ)
  runs_at_start = each (λ (x : ℕ × Run). (x.0, worth x.1)) (map.entries s.core.runs)

  -- what gets stuck has a body, and its callee has none
  record IsStuck (body : Bool) (own j : ℕ) : Type 0 where
    there : body ≡ true
    some : 1 ≤ own
    none : j ≡ 0

  free_is : (o : Option RowKey) (j : RowKey) → if_free d room t.rows asked first_of most_at o ≡ Some j → Cost j ≡ 0
  free_is None j h = cc
  free_is (Some i) j h = by_cost (Cost i == 0) refl h
    where
      by_cost : (b : Bool) → (Cost i == 0) ≡ b → (if b then Some i else None) ≡ Some j → Cost j ≡ 0
      by_cost true z is = let same : i ≡ j = cc in ap Cost (sym same) ∙ eqb-true (Cost i) 0 z
      by_cost false z is = cc

  stuck_body : (id : IntentId) (o : Option Body) (j : RowKey) → stuck_by d room t.rows asked first_of most_at id o ≡ Some j → IsStuck (is_some o) (body_cost d t.rows asked id o) (Cost j)
  stuck_body id None j h = cc
  stuck_body id (Some b) j h = record { there = refl; some = omega arith; none = free_is (callee_key d room t.rows asked first_of most_at id (length (asked id)) (effect_of d (with_answers b (asked id)))) j h }

  stuck_kind : (k : Kind) (r : Option Row) (j : RowKey) → stuck_in d room t.rows asked first_of most_at k r ≡ Some j → IsStuck (is_some (body_at r)) (kind_cost d t.rows asked k r) (Cost j)
  stuck_kind (Kind.Intent id) r j h = stuck_body id (body_at r) j h
  stuck_kind k r j h = cc

  stuck_is : (k j : RowKey) → stuck_at k ≡ Some j → IsStuck (is_some (body_at (map.get t.rows k))) (Cost k) (Cost j)
  stuck_is k j h = stuck_kind k.kind (map.get t.rows k) j h

  in_stucks : (k j : RowKey) (ks : List RowKey) → stuck_at k ≡ Some j → IsIn k ks → IsIn j (stucks ks)
  in_stucks k j [] h there = absurd there
  in_stucks k j (x ∷ ks) h (inl is) = in_front j (listed (stuck_at x)) (stucks ks) (subst (λ o. IsIn j (listed o)) (sym h ∙ ap stuck_at is) (inl refl))
  in_stucks k j (x ∷ ks) h (inr there) = in_back j (listed (stuck_at x)) (stucks ks) (in_stucks k j ks h there)

  stucks_free : (j : RowKey) (ks : List RowKey) → IsIn j (stucks ks) → Cost j ≡ 0
  stucks_free j [] h = absurd h
  stucks_free j (k ∷ ks) h = elim (in_either j (listed (stuck_at k)) (stucks ks) h) [
    | inl here ↦ by_stuck (stuck_at k) refl here
    | inr there ↦ stucks_free j ks there
  ]
    where
      by_stuck : (o : Option RowKey) → stuck_at k ≡ o → IsIn j (listed o) → Cost j ≡ 0
      by_stuck None is h = absurd h
      by_stuck (Some i) is (inl same) = ap Cost same ∙ (stuck_is k i is).none
      by_stuck (Some i) is (inr h) = absurd h

  -- the turn that is spared pays for the key of the callee
  sum_stucks : (ks : List RowKey) → sum_of (one_more Due) ks + sum_of (one_more Due) (stucks ks) ≤ sum_of (one_more Cost) ks
  sum_stucks [] = omega arith
  sum_stucks (k ∷ ks) = let rest = sum_stucks ks in let split = sum_append (one_more Due) (listed (stuck_at k)) (stucks ks) in let here = by_stuck (stuck_at k) refl in omega (arith, rest, split, here)
    where
      by_stuck : (o : Option RowKey) → stuck_at k ≡ o → one_more Due k + sum_of (one_more Due) (listed o) ≤ one_more Cost k
      by_stuck None is = omega arith
      by_stuck (Some j) is = let f = stuck_is k j is in let one : spare d room t.rows asked first_of most_at k ≡ 1 = ap (spare_of d room t.rows asked first_of most_at) is in let free = f.none in let costs = f.some in omega (arith, one, free, costs)

  total_few : total Due runs_at_start keys_at_start ≤ sum_of (one_more Cost) (seats s) + sum_of (one_more Cost) opens
  total_few =
      let runs = amounts_sum worth (map.entries s.core.runs) ∙ seats_sum (map.entries s.core.runs) in
      let a = sum_append (one_more Due) opens (stucks opens ++ stucks (seats s)) in
      let b = sum_append (one_more Due) (stucks opens) (stucks (seats s)) in
      let x = sum_stucks opens in
      let y = sum_stucks (seats s) in omega (arith, runs, a, b, x, y)
    where
      seats_sum : (es : List (ℕ × Run)) → sum_of worth (each (λ (x : ℕ × Run). x.1) es) ≡ sum_of (one_more Due) (each (λ (x : ℕ × Run). seat x.1) es)
      seats_sum [] = refl
      seats_sum (x ∷ es) = ap (λ n. worth x.1 + n) (seats_sum es)

  -- ---- intents that are open
  open_in : (k : RowKey) → is_some (body_at (map.get t.rows k)) ≡ true → has_ended (map.get s.rows k) ≡ false → IsIn k opens
  open_in k body unended = by_row (map.get t.rows k) refl body
    where
      by_row : (o : Option Row) → map.get t.rows k ≡ o → is_some (body_at o) ≡ true → IsIn k opens
      by_row None at h = cc
      by_row (Some r) at h = open_there s.rows k r (map.entries t.rows) (entry_of key_exact t.rows k r at) (ap (λ b. b && not (has_ended (map.get s.rows k))) h ∙ ap not unended)

  has_body : (k : Kind) (r : Option Row) → 1 ≤ kind_cost d t.rows asked k r → is_some (body_at r) ≡ true
  has_body (Kind.Intent id) r h = by_body (body_at r) h
    where
      by_body : (o : Option Body) → 1 ≤ body_cost d t.rows asked id o → is_some o ≡ true
      by_body None h = absurd (omega (arith, h))
      by_body (Some b) h = refl
  has_body k r h = absurd (omega (arith, h))

  module _ (stand : RunsStand) (sound : Sound d s.core s.rows) (goes : GoesOn s.rows t.rows) (asks : AreAsked d t.rows asked) where
    abbrev Begun_ : Type 0
    Begun_ = Ledger d room t.rows asked first_of most_at 0 s.core s.rows runs_at_start keys_at_start

    -- two turns more than the effects are in hand
    covers_at : (i : ℕ) (r : Run) (g : Begun) (left n all : ℕ) (w : Stage) → left ≤ all → 2 + all ≤ n → CoversAt d room t.rows asked first_of most_at 0 s.core s.rows i r g left n w
    covers_at i r g left n all (Stage.Async AsyncAt.Open) few more = omega (arith, few, more)
    covers_at i r g left n all (Stage.Async w) few more = inl (omega (arith, few, more))
    covers_at i r g left n all w few more = omega (arith, few, more)

    seated : (i : ℕ) (r : Run) → map.get s.core.runs i ≡ Some r → IsIn (seat r) (seats s)
    seated i r live = in_each (λ (x : ℕ × Run). seat x.1) (i, r) (map.entries s.core.runs) (entry_of nat_cmp-IsAntisymmetric s.core.runs i r live)

    covers : (i : ℕ) (r : Run) → map.get s.core.runs i ≡ Some r → (at : RunAt) → r.at ≡ at → Covers d room t.rows asked first_of most_at 0 s.core s.rows keys_at_start i r (worth r) at
    covers i r live RunAt.Looks is = (omega arith, λ u. omega arith)
    covers i r live (RunAt.Registers b) is = omega arith
    covers i r live (RunAt.Begins g) is =
        let st = stand d s.core s.rows t.rows asked i r g sound goes asks live is in
        let whole : Cost (seat r) ≡ 1 + cost_from d t.rows r.id st.body [] (asked r.id) = ap (λ o. body_cost d t.rows asked r.id o) (ap body_at st.there ∙ st.has) in (
          st,
          covers_at i r g (begun_left s.rows st) _ _ g.stage (begun_few d s.core s.rows t.rows asked i r g sound goes live is st) (omega (arith, whole)),
          λ j call. inl (in_back j opens _ (in_back j (stucks opens) (stucks (seats s)) (in_stucks (seat r) j (seats s) call (seated i r live)))),
        )

    ledger_at_start : Begun_
    ledger_at_start = record {
      runs_covered = λ i r live. (
        worth r,
        amount_found worth i r (map.entries s.core.runs) (sym (get-entries s.core.runs i) ∙ live),
        let early = old i r live in record {
          covers = covers i r live r.at refl;
          late = λ l. (omega arith, early);
          worth = λ u. let l = at_most Cost (seat r) (seats s) (seated i r live) in omega (arith, l);
          some = λ l. absurd (omega (arith, early, l));
          looks = λ l u. absurd (omega (arith, early, l));
        },
      );
      open_covered = λ k costs unended. inl (in_front k opens _ (open_in k (has_body k.kind (map.get t.rows k) costs) unended));
      stuck_paid = λ k j call unended. inl (in_back j opens _ (in_front j (stucks opens) (stucks (seats s)) (in_stucks k j opens call (open_in k (stuck_is k j call).there unended))));
      keys_worth = keys_few;
      since = omega arith;
    }
      where
        old : (i : ℕ) (r : Run) → map.get s.core.runs i ≡ Some r → i ≤ s.core.last_run
        old i r live = (sound.upkeep.invariant.runs.numbers i (subst (λ (z : Option Run). IsTrue (is_some z)) (sym live) refl)).1

        keys_few : (k : RowKey) → IsIn k keys_at_start → Cost k ≤ most_at
        keys_few k h = elim (in_either k opens (stucks opens ++ stucks (seats s)) h) [
          | inl here ↦ let l = at_most Cost k opens here in omega (arith, l)
          | inr there ↦ elim (in_either k (stucks opens) (stucks (seats s)) there) [
            | inl x ↦ let free = stucks_free k opens x in omega (arith, free)
            | inr x ↦ let free = stucks_free k (seats s) x in omega (arith, free)
          ]
        ]

-- with all its failures it is at most the work
pub record StartsFew (d : Deployment) (room : ℕ) (s t : State) (asked : IntentId → List Answer) : Type 0 where
  pub runs : List (ℕ × ℕ)
  pub keys : List RowKey
  pub most : ℕ
  pub ledger : Ledger d room t.rows asked s.core.last_run most 0 s.core s.rows runs keys
  pub less : total (due d room t.rows asked s.core.last_run most) runs keys + (t.faults - s.faults) * (most + 1) ≤ work_of d asked s t

pub ledger_begins : (d : Deployment) (room : ℕ) (s t : State) (asked : IntentId → List Answer) → RunsStand → Sound d s.core s.rows → GoesOn s.rows t.rows → AreAsked d t.rows asked → StartsFew d room s t asked
ledger_begins d room s t asked stand sound goes asks = record {
  runs = runs_at_start d room s t asked;
  keys = keys_at_start d room s t asked;
  most = most_at d room s t asked;
  ledger = ledger_at_start d room s t asked stand sound goes asks;
  less = let l = total_few d room s t asked in omega (arith, l);
}
