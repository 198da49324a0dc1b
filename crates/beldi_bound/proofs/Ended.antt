-- Where no run is live and each open intent has one, all have ended: each intent that has a body, and each instance.
use Rattle.std.proofs.{lemmas.Bool.ltb-true, lemmas.Bool.ltb-false, lemmas.List.nil_from_length}
use Rattle.std.specs.{FinMap.len-empty, FinMap.len-entries, List.list_any, Ordering.is_eq, Ordering.nat_cmp, Prelude.nat_lt}
use Rattle.beldi_value.specs.Id.{id_cmp}
use Rattle.beldi_lang.specs.declared.effect.Effect.{Effect}
use Rattle.beldi_lang.specs.Wants.{wants}
use Rattle.beldi_step.specs.{HostStep.has_run, declared.run.Run.Run}
use Rattle.beldi_intent.specs.Intent.{is_ended}
use Rattle.beldi_plain_laws.proofs.CallStack.{longer}
use Rattle.beldi_histories.proofs.{Callers.root_or_called, Cases.by_cases, Cases.by_option}
use Rattle.beldi_chain.specs.Chain.{Chain, chain}
use Rattle.beldi_links.specs.Links.{FitsAt, IsLinked}
use Rattle.beldi_invariant.proofs.Names.{Answer, Extends, Body, BodyMatches, Bool, Core, Deployment, FinishMatches, Instance, IntentId, IntentMatches, IntentRow, IsCalled, Item, Kind, List, None, Option, Outcome, Invariant, RootMatches, Row, RowKey, RowMatches, Rows, Some, TxId, Value, [], answer_given, answer_of, ap, append-nil, arith, call_of, child_of, effect_before, effect_of, false, has_ended, has_no_hops, head_key, inl, inr, is_some, key_in, length, option_map, refl, root_key, root_of, row_of, same_some, shadow_key, slice_get, subst, suc, sym, take, take_front, true, tx_at, tx_in, enclosing_by, zero, ℕ, ◌<◌, ◌==◌, ◌||◌, ◌∙◌, ◌∷◌, ◌≡◌}
use Rattle.beldi_invariant.proofs.Names.map
use Rattle.beldi_invariant.proofs.{Outside.recorded_of, Standing.same_run}
use Rattle.beldi_upkeep.{proofs.PastLaws.recorded_registered, specs.Callees.Seats, specs.Passed.PastCalls}
use Rattle.beldi_bound.proofs.{Facts.EachHasRun, Facts.SettledHaveEnded, Lengths.linked_by}

-- ---- intents
-- nothing has a run where none is live
no_run : (id : IntentId) → has_run map.empty id ≡ false
no_run id = ap (list_any (λ e. is_eq (id_cmp e.1.id id))) (nil_from_length (map.entries (map.empty {X = Run} {R = nat_cmp})) (sym (len-entries (map.empty {X = Run} {R = nat_cmp})) ∙ len-empty nat_cmp Run))

-- the row of an intent stands at a key of one
kind_is : (d : Deployment) (c : Core) (m : Rows) (h : Invariant d c m) (k : RowKey) (i : IntentRow) → map.get m k ≡ Some (Row.Intent i) → (id : IntentId) × (k.kind ≡ Kind.Intent id)
kind_is d c m h k i there = by_kind k.kind refl (subst (RowMatches d h.histories k.home k.kind) there (h.rows.keys k))
  where
    at_kind : (kind : Kind) → k.kind ≡ kind → map.get m (record { home = k.home; kind = kind }) ≡ Some (Row.Intent i)
    at_kind kind at = (λ j. map.get m (record { home = k.home; kind = sym at j })) ∙ there

    -- no row of an item is one
    cell : (f : Chain) → IsLinked f → (n : ℕ) → f n ≡ Some (Row.Intent i) → ⊥
    cell f linked n is = subst FitsAt is ((linked_by f (f 0) n (Row.Intent i) linked is).fits n)

    by_kind : (kind : Kind) → k.kind ≡ kind → RowMatches d h.histories k.home kind (Some (Row.Intent i)) → (id : IntentId) × (k.kind ≡ Kind.Intent id)
    by_kind (Kind.Intent id) at f = (id, at)
    by_kind (Kind.ReadLog a) at f = absurd f
    by_kind (Kind.Invoke a) at f = absurd f
    by_kind (Kind.Lockset j b t x) at f = absurd f
    by_kind (Kind.Data t x n) at f = let y : Item = record { func = k.home; table = t; key = x } in absurd (cell (chain m (head_key y)) (h.rows.chains y) n (at_kind (Kind.Data t x n) at))
    by_kind (Kind.Shadow s t x n) at f = let y : Item = record { func = k.home; table = t; key = x } in absurd (cell (chain m (shadow_key s y)) (h.rows.asides s y).linked n (at_kind (Kind.Shadow s t x n) at))

abbrev AllEnded : Rows → Type 0
AllEnded m = (k : RowKey) (i : IntentRow) (b : Body) → map.get m k ≡ Some (Row.Intent i) → i.body ≡ Some b → is_ended i ≡ true

intents_ended : (d : Deployment) (c : Core) (m : Rows) (h : Invariant d c m) → c.runs ≡ map.empty → EachHasRun c m → AllEnded m
intents_ended d c m h empty each k i b there has = by_cases (is_ended i) (λ t. t) (λ t.
    let id = kind_is d c m h k i there in
    let own : k ≡ key_in k.home id.0 = λ j. record { home = k.home; kind = id.1 j } in
    let run = each k.home id.0 i b (ap (map.get m) (sym own) ∙ there) has t in
    let clash = sym (ap (λ z. has_run z id.0) empty ∙ no_run id.0) ∙ run in cc)

-- ---- an ended row of an instance outside transactions has its outcome
outcome_by : (o : Option Outcome) (f : Option ℕ) → is_some f ≡ is_some o → (is_some o || is_some f) ≡ true → is_some o ≡ true
outcome_by None f same h = sym same ∙ h
outcome_by (Some o) f same h = refl

finish_by : (ended : TxId → Bool) (b : Bool) (home : ℕ) (r : IntentRow) (q : Option Instance) → IntentMatches ended b home (Some (Row.Intent r)) q → tx_in r.body ≡ None → is_some r.finish ≡ is_some r.outcome
finish_by ended true home r q f outside = by_home (home == 0) f
  where
    by_home : (t : Bool) → RootMatches t (Some (Row.Intent r)) q → is_some r.finish ≡ is_some r.outcome
    by_home true g = g.finishes
    by_home false g = cc
finish_by ended false home r q f outside = subst (λ t. FinishMatches ended t r.finish r.outcome) outside f.finishes

row_over : (ended : TxId → Bool) (b : Bool) (home : ℕ) (r : IntentRow) (body : Body) (q : Instance) → IntentMatches ended b home (Some (Row.Intent r)) (Some q) → r.body ≡ Some body → q.enclosing ≡ None → is_ended r ≡ true → is_some q.outcome ≡ true
row_over ended b home r body q f has within done =
    let of = row_of ended b home r (Some q) f in
    let w = of.body body has in
    let outside : tx_in r.body ≡ None = ap tx_in has ∙ ap (λ (z : Body). z.tx) w.body ∙ ap (λ (z : Instance). z.enclosing) (same_some (sym w.made)) ∙ within in
    let some = outcome_by r.outcome r.finish (finish_by ended b home r (Some q) f outside) done in
    by_option r.outcome (λ none. let clash = sym (ap is_some none) ∙ some in cc) (λ u is. ap is_some (of.outcome body u q has is refl))

-- ---- calls
no_return : (w : Bool) (f : ℕ) (a : Value) (o : Outcome) → call_of w f a ≡ Effect.Return o → ⊥
no_return true f a o h = cc
no_return false f a o h = cc

given_some : (o : Option Outcome) (a : Answer) → option_map answer_of o ≡ Some a → is_some o ≡ true
given_some None a h = cc
given_some (Some o) a h = refl

answer_at : (xs : List Answer) (n : ℕ) → n < length xs → (a : Answer) × (slice_get xs n ≡ Some a)
answer_at [] n less = absurd (omega (arith, less))
answer_at (x ∷ xs) zero less = (x, refl)
answer_at (x ∷ xs) (suc n) less = answer_at xs n (omega (arith, less))

take_all : (xs : List Answer) → take (length xs) xs ≡ xs
take_all xs = ap (take (length xs)) (sym (append-nil xs)) ∙ take_front xs []

-- ---- instances that are known
module _ (d : Deployment) (c : Core) (m : Rows) (h : Invariant d c m) (seats : Seats m) (past : PastCalls m) (all : AllEnded m) where
  -- a root has its row, with its body
  root_ended : (t : ℕ) (q : Instance) → map.get h.histories (root_of t) ≡ Some q → is_some q.outcome ≡ true
  root_ended t q made = by_row (map.get m (root_key t)) refl (subst (RootMatches true (map.get m (root_key t))) made (h.rows.keys (root_key t)))
    where
      by_row : (o : Option Row) → map.get m (root_key t) ≡ o → RootMatches true o (Some q) → is_some q.outcome ≡ true
      by_row None at f = let clash = f in cc
      by_row (Some (Row.Intent r)) at f = by_body r.body refl f.body
        where
          by_body : (b : Option Body) → r.body ≡ b → BodyMatches b r.outcome (Some q) → is_some q.outcome ≡ true
          by_body None is g = let clash = g in cc
          by_body (Some b) is g = row_over (has_ended d h.histories) true 0 r b q f is (h.well_formed.roots t q made).1 (all (root_key t) r b at is)
      by_row (Some r) at f = absurd f

  module _ (i : IntentId) (n : ℕ) (q j : Instance) (made : map.get h.histories i ≡ Some q) (called : IsCalled d i q n j) (there : map.get h.histories (child_of i n) ≡ Some j) (over : is_some q.outcome ≡ true) where
    -- who has its outcome stands past each of its calls
    before_end : n < length q.answers
    before_end = by_cases (nat_lt n (length q.answers)) (λ t. ltb-true n (length q.answers) t) (λ t. absurd (at_last t))
      where
        at_last : nat_lt n (length q.answers) ≡ false → ⊥
        at_last t =
            let le = ltb-false n (length q.answers) t in
            let here = called.here in
            let last : n ≡ length q.answers = omega (arith, le, here) in
            let stands : effect_before d q n ≡ effect_of d q = ap (effect_before d q) last ∙ ap (wants d q.func q.args (is_some q.enclosing)) (take_all q.answers) in
            by_option q.outcome (λ none. let clash = sym (ap is_some none) ∙ over in cc)
            (λ o some. no_return called.waits j.func j.args o (sym called.call ∙ stands ∙ (h.well_formed.each i q made).over o some))

    -- so where it waited, it was answered, by the callee's outcome
    waited : called.waits ≡ true → is_some j.outcome ≡ true
    waited w = let a = answer_at q.answers n before_end in given_some j.outcome a.0 (sym (called.answered ∙ ap (λ b. answer_given b j.outcome) w) ∙ a.1)

    -- .. and else it had registered the callee, whose row has ended
    sent : called.waits ≡ false → is_some j.outcome ≡ true
    sent w =
        let e = recorded_registered d c m h seats past i q n j.func j.args made before_end (called.call ∙ ap (λ b. call_of b j.func j.args) w) (inr (inr over)) in
        let y = e.callee in
        let k = key_in e.call.func (child_of i n) in
        let fits : IntentMatches (has_ended d h.histories) (has_no_hops (child_of i n).hops) e.call.func (Some (Row.Intent y.row)) (Some j) =
        subst (λ r. IntentMatches (has_ended d h.histories) (has_no_hops (child_of i n).hops) e.call.func r (Some j)) y.has.there
        (subst (IntentMatches (has_ended d h.histories) (has_no_hops (child_of i n).hops) e.call.func (map.get m k)) there (h.rows.keys k)) in
        row_over (has_ended d h.histories) (has_no_hops (child_of i n).hops) e.call.func y.row y.body j fits y.has.body (called.enclosing ∙ ap (λ b. enclosing_by b (tx_at d i q n)) w) (all k y.row y.body y.has.there y.has.body)

    callee_ended : is_some j.outcome ≡ true
    callee_ended = by_cases called.waits waited sent

  -- each has its outcome, by how many calls lead to it
  recorded_ended : (most : ℕ) (id : IntentId) (q : Instance) → length id.hops < most → map.get h.histories id ≡ Some q → is_some q.outcome ≡ true
  recorded_ended zero id q less made = absurd (omega (arith, less))
  recorded_ended (suc most) id q less made = elim (root_or_called d h.histories h.well_formed id q made) [
    | inl root ↦ root_ended id.ticket q (ap (map.get h.histories) (sym root) ∙ made)
    | inr w ↦
        let hops = longer w.caller w.step in
        let same = ap (λ (z : IntentId). length z.hops) w.is in
        callee_ended w.caller w.step w.waiter q w.made w.called (ap (map.get h.histories) (sym w.is) ∙ made) (recorded_ended most w.caller w.waiter (omega (arith, less, hops, same)) w.made)
  ]

-- ---- and so all have
pub settled_have_ended : SettledHaveEnded
settled_have_ended d c m s empty each =
    let h = s.upkeep.invariant in
    let all = intents_ended d c m h empty each in
    record {
      runs = empty;
      intents = all;
      instances = λ p id q run made.
          let z = recorded_of d p h.histories (subst (λ y. Extends d y h.histories) (same_run d c m p h run) h.extends) id q made in
          ap is_some (sym z.outcome) ∙ recorded_ended d c m h s.upkeep.seats s.upkeep.past all (suc (length id.hops)) id z.instance (omega arith) z.is;
    }
