-- What is called is a function of the deployment, as each name that is called is one of its functions.
use Rattle.std.specs.Prelude.{min, nat_lt, not, option_and_then}
use Rattle.std.specs.List.{list_any, position_or_len}
use Rattle.std.proofs.Common.{Bool, List, None, Option, Some, [], add-one, ap, arith, cond, false, get_or, inl, inr, is_some, length, refl, slice_get, subst, suc, sym, take, true, zero, ℕ, ◌+◌, ◌<◌, ◌∙◌, ◌∷◌, ◌≡◌, ◌≤◌, ◌||◌}
use Rattle.std.proofs.{Math.Nat.min-eq_left, lemmas.Bool.lt-ltb, lemmas.List.Sums.position_or_len_is, lemmas.Option.slice_get-get_or}
use Rattle.std.specs.FinMap as map
use Rattle.beldi_value.specs.{declared.outcome.Outcome.Outcome, declared.value.Value.Value}
use Rattle.beldi_tree.specs.{Bindings.is_name, StatementCommand.call, StatementCommand.async, StatementCommand.Command, Names.func_place, declared.deployment.Deployment.Deployment, declared.deployment.Func.Func}
use Rattle.beldi_lang.specs.{Wants.body, Wants.effect_of, Wants.func_number, Wants.or_past, Wants.wants, Wants.is_inside, declared.effect.Answer.Answer, declared.effect.Effect.Effect}
use Rattle.beldi_check.specs.{Keeps.KeepsRules, Rules.func_in, Rules.has_function, Rules.some_if, declared.rules.Rule.Rule}
use Rattle.beldi_plain.specs.Plain.{Instance}
use Rattle.beldi_plain_laws.proofs.Maps.{same_some}
use Rattle.beldi_plain_laws.specs.WellFormedState.{call_of}
use Rattle.beldi_row.specs.declared.row.{Body.Body, Row.Row}
use Rattle.beldi_intent.specs.Intent.{root_key}
use Rattle.beldi_histories.specs.RowMatching.{BodyMatches, RootMatches}
use Rattle.beldi_histories.proofs.Callers.{root_or_called}
use Rattle.beldi_upkeep.specs.Checked.{InstancesAreOfIt, body_at, has_func}
use Rattle.beldi_upkeep.specs.Written.{IsOf, IsWritten, Written}
use Rattle.beldi_upkeep.proofs.Sites.{wants_written}

-- ---- the function of a name
-- the first of a list that passes a test
record First (p : Func → Bool) (d : Func) (fs : List Func) : Type 0 where
  place : ℕ
  in_range : place < length fs
  passes : p (get_or fs place d) ≡ true
  before : (k : ℕ) → k < place → p (get_or fs k d) ≡ false

first_of : (p : Func → Bool) (d : Func) (fs : List Func) → list_any p fs ≡ true → First p d fs
first_of p d [] h = absurd (cc)
first_of p d (f ∷ fs) h = by_test (p f) refl (first_of p d fs)
  where
    shifted : p f ≡ false → (r : First p d fs) (k : ℕ) → k < suc r.place → p (get_or (f ∷ fs) k d) ≡ false
    shifted e r zero less = e
    shifted e r (suc k) less = r.before k (omega (arith, less))

    by_test : (b : Bool) → p f ≡ b → (list_any p fs ≡ true → First p d fs) → First p d (f ∷ fs)
    by_test true e later = record { place = 0; in_range = omega arith; passes = e; before = λ k less. absurd (omega (arith, less)) }
    by_test false e later =
        let r = later (sym (ap (λ b. b || list_any p fs) e) ∙ h) in
        record { place = suc r.place; in_range = let w = r.in_range in omega (arith, w); passes = r.passes; before = shifted e r }

-- the deployment's function of this name, at a place and with a number
pub record Named (fs : List Func) (name : List ℕ) : Type 0 where
  pub place : ℕ
  pub func : Func
  pub there : slice_get fs place ≡ Some func
  pub is : is_name func.name name ≡ true
  pub number : func_number fs name ≡ suc place

pub named_so : (fs : List Func) (d : Func) (name : List ℕ) → length fs ≤ 64 → has_function fs name ≡ true → Named fs name
named_so fs d name few has =
    let p : Func → Bool = λ f. is_name f.name name in
    let r = first_of p d fs has in
    let w = r.in_range in
    let place : position_or_len p fs ≡ r.place = position_or_len_is p fs r.place d (omega (arith, w)) r.before (λ less. r.passes) in
    let found : func_place fs name ≡ Some r.place = ap (λ i. cond (nat_lt i (length fs)) (Some i) None) place ∙ ap (λ b. cond b (Some r.place) None) (lt-ltb r.place (length fs) r.in_range) in
    record {
      place = r.place;
      func = get_or fs r.place d;
      there = slice_get-get_or fs r.place d r.in_range;
      is = r.passes;
      number = ap (λ o. min (or_past o (length fs) + 1) 65535) found ∙ min-eq_left (omega (arith, w, few)) ∙ add-one r.place;
    }

-- ---- what a statement calls
not_none : (b : Bool) (n : List ℕ) → some_if (not b) n ≡ None → b ≡ true
not_none true n h = refl
not_none false n h = absurd (cc)

-- the function that an effect calls
abbrev pub calls : Effect → Option ℕ
calls (Effect.Call f v) = Some f
calls (Effect.Async f v) = Some f
calls e = None

-- the name in a statement, of which it is the function
pub record Names (d : Deployment) (f : ℕ) (c : Command) : Type 0 where
  pub name : List ℕ
  pub named_in : func_in c ≡ Some name
  pub number : f ≡ func_number d.funcs name

name_in : (d : Deployment) (e : Effect) (c : Command) (f : ℕ) → IsOf d e c → calls e ≡ Some f → Names d f c
name_in d (Effect.Call g v) (call l n name x) f is same = record { name = name; named_in = refl; number = sym (same_some same) ∙ is }
name_in d (Effect.Async g v) (async l name x) f is same = record { name = name; named_in = refl; number = sym (same_some same) ∙ is }
name_in d (Effect.Lock t k) c f is same = cc
name_in d e c f is same = absurd is

-- a call that a body wants, with the statement that it stands for
pub record Site (d : Deployment) (n : ℕ) (inherited inside : Bool) (e : Effect) (g : ℕ) : Type 0 where
  pub func : Func
  pub there : slice_get d.funcs n ≡ Some func
  pub written : Written d func.body inherited inside e
  pub names : Names d g written.spot.1

written_call : (d : Deployment) (body : List Command) (inherited inside : Bool) (e : Effect) (g : ℕ) → IsWritten d body inherited inside e → calls e ≡ Some g → Written d body inherited inside e
written_call d body inherited inside (Effect.Call f v) g w is = w
written_call d body inherited inside (Effect.Async f v) g w is = w
written_call d body inherited inside e g w is = cc

-- no function wants nothing but a return
pub site_of : (d : Deployment) (func : ℕ) (args : Value) (inherited : Bool) (answers : List Answer) (g : ℕ) → calls (wants d func args inherited answers) ≡ Some g
    → (n : ℕ) × (func ≡ suc n) × Site d n inherited (is_inside d func args inherited answers) (wants d func args inherited answers) g
site_of d zero args inherited answers g is = cc
site_of d (suc n) args inherited answers g is = by_func (slice_get d.funcs n) refl
  where
    none : (o : Option Func) → o ≡ None → calls (effect_of (body d o args inherited answers)) ≡ Some g → ⊥
    none None absent calls_it = cc
    none (Some f) absent calls_it = cc

    by_func : (o : Option Func) → slice_get d.funcs n ≡ o → (k : ℕ) × (suc n ≡ suc k) × Site d k inherited (is_inside d (suc n) args inherited answers) (wants d (suc n) args inherited answers) g
    by_func None absent = absurd (none (slice_get d.funcs n) absent is)
    by_func (Some f) there =
        let w = written_call d f.body inherited (is_inside d (suc n) args inherited answers) (wants d (suc n) args inherited answers) g (wants_written d n f args inherited answers there) is in
        (n, refl, record { func = f; there = there; written = w; names = name_in d (wants d (suc n) args inherited answers) w.spot.1 g w.is is })

-- so what it calls is there
pub callee_named : (d : Deployment) → KeepsRules d.funcs → (n : ℕ) (inherited inside : Bool) (e : Effect) (g : ℕ) (s : Site d n inherited inside e g) → Named d.funcs s.names.name
callee_named d rules n inherited inside e g s =
    named_so d.funcs s.func s.names.name rules.few
    (not_none (has_function d.funcs s.names.name) s.names.name
    (sym (ap (λ o. option_and_then (λ m. some_if (not (has_function d.funcs m)) m) o) s.names.named_in) ∙ rules.statements Rule.UnknownFunction n s.written.number s.func s.written.spot s.there s.written.there))

pub called_is_there : (d : Deployment) → KeepsRules d.funcs → (func : ℕ) (args : Value) (inherited : Bool) (answers : List Answer) (g : ℕ) → calls (wants d func args inherited answers) ≡ Some g → has_func d g ≡ true
called_is_there d rules func args inherited answers g is =
    let s = site_of d func args inherited answers g is in
    let k = callee_named d rules s.0 inherited _ _ g s.2 in
    ap (has_func d) (s.2.names.number ∙ k.number) ∙ ap is_some k.there

-- ---- what the histories have
calls_it : (w : Bool) (f : ℕ) (a : Value) → calls (call_of w f a) ≡ Some f
calls_it true f a = refl
calls_it false f a = refl

body_so : (o : Option Body) (u : Option Outcome) (q : Instance) → BodyMatches o u (Some q) → (b : Body) × (o ≡ Some b) × (b.func ≡ q.func)
body_so None u q h = cc
body_so (Some b) u q h = let w = h.0 in (b, refl, ap (λ (z : Body). z.func) w.body ∙ ap (λ (z : Instance). z.func) (sym (same_some w.made)))

root_body : (r : Option Row) (q : Instance) → RootMatches true r (Some q) → (b : Body) × (body_at r ≡ Some b) × (b.func ≡ q.func)
root_body None q h = cc
root_body (Some (Row.Intent i)) q h = body_so i.body i.outcome q h.body
root_body (Some r) q h = absurd h

pub instances_of_it : InstancesAreOfIt
instances_of_it d c m h id q made = elim (root_or_called d h.invariant.histories h.invariant.well_formed id q made) [
  | inl root ↦
      let t = id.ticket in
      let b = root_body (map.get m (root_key t)) q (subst (RootMatches true (map.get m (root_key t))) (ap (map.get h.invariant.histories) (sym root) ∙ made) (h.invariant.rows.keys (root_key t))) in
      ap (has_func d) (sym b.2) ∙ h.roots t b.0 b.1
  | inr c ↦ called_is_there d h.rules c.waiter.func c.waiter.args (is_some c.waiter.enclosing) (take c.step c.waiter.answers) q.func (ap calls c.called.call ∙ calls_it c.called.waits q.func q.args)
]
