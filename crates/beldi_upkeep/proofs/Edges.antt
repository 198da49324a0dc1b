-- What a function calls it leads to, and a chain of calls that leads to no function twice is short.
use Rattle.std.specs.List.{list_any}
use Rattle.std.proofs.Common.{Bool, List, Some, [], ap, arith, eq-eqb, eqb-true, false, if◌then◌else◌, length, refl, slice_get, subst, suc, sym, true, ℕ, ◌&&◌, ◌++◌, ◌<◌, ◌==◌, ◌||◌, ◌∙◌, ◌∷◌, ◌≡◌}
use Rattle.std.proofs.{lemmas.Bool.false_from_ne_true, lemmas.List.Folds.list_any_at, lemmas.Option.get_or_from_slice_get, lemmas.Option.slice_get_within, lemmas.Slice.Eq.slice_eq-Decides}
use Rattle.std.specs.Cmp.{unsigned_Decides}
use Rattle.beldi_value.specs.{declared.value.Value.Value}
use Rattle.beldi_tree.specs.{Bindings.is_name, StatementCommand.Command, StatementCommand.async, StatementCommand.call, declared.deployment.Deployment.Deployment, declared.deployment.Func.Func}
use Rattle.beldi_lang.specs.{Wants.is_inside, Wants.wants, declared.effect.Answer.Answer, declared.effect.Effect.Effect}
use Rattle.beldi_check.specs.{CallGraph.IsPath, CallGraph.blocks, CallGraph.edge, CallGraph.edge_to, CallGraph.leads, CallGraph.leads_to, CallGraph.leads_within, CallGraph.reaches, Keeps.KeepsRules, Rules.func_in, Site.Spot, Site.sites_of, declared.calls.Link.Link, declared.calls.Link.TheVariants.Call, declared.calls.Link.TheVariants.Start}
use Rattle.beldi_check.proofs.Paths.{reached, reaches_by_paths}
use Rattle.beldi_plain_laws.proofs.Maps.{same_some}
use Rattle.beldi_upkeep.specs.Written.{IsOf}
use Rattle.beldi_upkeep.proofs.Functions.{callee_named, calls, site_of}

-- ---- lists
any_at : {X : Type 0} (p : X → Bool) (xs : List X) (i : ℕ) (x : X) → slice_get xs i ≡ Some x → p x ≡ true → list_any p xs ≡ true
any_at p xs i x at is = list_any_at p xs i x (slice_get_within xs i x at) (ap p (get_or_from_slice_get xs i x x at) ∙ is)

same_name : (a b : List ℕ) → is_name a b ≡ true → is_name b a ≡ true
same_name a b h = let e = (slice_eq-Decides unsigned_Decides a b (is_name a b) refl).0 h in subst (λ c. is_name b c ≡ true) (sym e) ((slice_eq-Decides unsigned_Decides b b (is_name b b) refl).1 refl)

-- ---- paths
joined : (e : ℕ → ℕ → Bool) (i n j : ℕ) (hs ks : List ℕ) → IsPath e i hs n → IsPath e n ks j → IsPath e i (hs ++ n ∷ ks) j
joined e i n j [] ks p q = (p, q)
joined e i n j (h ∷ hs) ks p q = (p.0, joined e h n j hs ks p.1 q)

pub reach_more : (k : Link) (fs : List Func) (i n j : ℕ) → reaches k fs i n ≡ true → edge k fs n j ≡ true → reaches k fs i j ≡ true
reach_more k fs i n j h e = let p = (reaches_by_paths k fs i n).0 h in reached k fs (p.0 ++ n ∷ []) i j (joined (edge k fs) i n j p.0 [] p.1 e)

pub reach_one : (k : Link) (fs : List Func) (i j : ℕ) → edge k fs i j ≡ true → reaches k fs i j ≡ true
reach_one k fs i j e = reached k fs [] i j e

-- ---- what a statement leads to
starts_it : (c : Command) (name z : List ℕ) → func_in c ≡ Some name → is_name name z ≡ true → leads Start z c ≡ true
starts_it (call l n g x) name z in_it same = subst (λ h. is_name h z ≡ true) (sym (same_some in_it)) same
starts_it (async l g x) name z in_it same = subst (λ h. is_name h z ≡ true) (sym (same_some in_it)) same
starts_it c name z in_it same = cc

calls_it : (d : Deployment) (f : ℕ) (v : Value) (c : Command) (name z : List ℕ) → IsOf d (Effect.Call f v) c → func_in c ≡ Some name → is_name name z ≡ true → leads Call z c ≡ true
calls_it d f v (call l n g x) name z is in_it same = subst (λ h. is_name h z ≡ true) (sym (same_some in_it)) same
calls_it d f v c name z is in_it same = absurd is

abbrev pub is_call : Effect → Bool
is_call (Effect.Call f v) = true
is_call e = false

calls_by : (d : Deployment) (e : Effect) (c : Command) (name z : List ℕ) → is_call e ≡ true → IsOf d e c → func_in c ≡ Some name → is_name name z ≡ true → leads Call z c ≡ true
calls_by d (Effect.Call f v) c name z it is in_it same = calls_it d f v c name z is in_it same
calls_by d e c name z it is in_it same = cc

-- ---- an edge from one function to another
not_blocks : (n m : ℕ) → n < m → (n == m) ≡ false
not_blocks n m less = false_from_ne_true (n == m) (λ e. let same = eqb-true n m e in absurd (omega (arith, less, same)))

edge_there : (k : Link) (fs : List Func) (n m p : ℕ) (f z : Func) (s : Spot) → slice_get fs n ≡ Some f → slice_get fs p ≡ Some z → slice_get (sites_of f.body) m ≡ Some s → leads k z.name s.1 ≡ true → edge k fs n p ≡ true
edge_there k fs n m p f z s at there on leads_it =
    ap (λ o. edge_to k fs n o) there ∙ ap (λ b. if b then leads_within k fs z else leads_to k (slice_get fs n) z) (not_blocks n (blocks fs) (slice_get_within fs n f at))
    ∙ ap (λ o. leads_to k o z) at ∙ any_at (λ (t : Spot). leads k z.name t.1) (sites_of f.body) m s on leads_it

blocks_there : (fs : List Func) (n m p : ℕ) (f z : Func) (s : Spot) → slice_get fs n ≡ Some f → slice_get fs p ≡ Some z → slice_get (sites_of f.body) m ≡ Some s → s.0.in_transaction ≡ true → leads Call z.name s.1 ≡ true → edge Call fs (blocks fs) p ≡ true
blocks_there fs n m p f z s at there on inner leads_it =
    ap (λ o. edge_to Call fs (blocks fs) o) there ∙ ap (λ b. if b then leads_within Call fs z else leads_to Call (slice_get fs (blocks fs)) z) (eq-eqb (blocks fs) (blocks fs) refl)
    ∙ any_at (λ (g : Func). list_any (λ (t : Spot). t.0.in_transaction && leads Call z.name t.1) (sites_of g.body)) fs n f at
    (any_at (λ (t : Spot). t.0.in_transaction && leads Call z.name t.1) (sites_of f.body) m s on (ap (λ b. b && leads Call z.name s.1) inner ∙ leads_it))

-- ---- a call that a body wants, as an edge
pub record Edge (d : Deployment) (inherited inside : Bool) (e : Effect) (func g : ℕ) : Type 0 where
  pub from : ℕ
  pub to : ℕ
  pub caller : func ≡ suc from
  pub callee : g ≡ suc to
  pub from_there : from < length d.funcs
  pub to_there : to < length d.funcs
  pub starts : edge Start d.funcs from to ≡ true
  pub goes : is_call e ≡ true → edge Call d.funcs from to ≡ true
  -- in the first block of a transaction, or not
  pub in_block : Bool
  pub inner : inside ≡ (inherited || in_block)
  pub enclosing : is_call e ≡ true → in_block ≡ true → edge Call d.funcs (blocks d.funcs) to ≡ true

pub edge_of : (d : Deployment) → KeepsRules d.funcs → (func : ℕ) (args : Value) (inherited : Bool) (answers : List Answer) (g : ℕ) → calls (wants d func args inherited answers) ≡ Some g
    → Edge d inherited (is_inside d func args inherited answers) (wants d func args inherited answers) func g
edge_of d rules func args inherited answers g is =
    let e = wants d func args inherited answers in
    let s = site_of d func args inherited answers g is in
    let k = callee_named d rules s.0 inherited (is_inside d func args inherited answers) e g s.2 in
    let w = s.2.written in
    let same = same_name k.func.name s.2.names.name k.is in
    record {
      from = s.0;
      to = k.place;
      caller = s.1;
      callee = s.2.names.number ∙ k.number;
      from_there = slice_get_within d.funcs s.0 s.2.func s.2.there;
      to_there = slice_get_within d.funcs k.place k.func k.there;
      starts = edge_there Start d.funcs s.0 w.number k.place s.2.func k.func w.spot s.2.there k.there w.there (starts_it w.spot.1 s.2.names.name k.func.name s.2.names.named_in same);
      goes = λ it. edge_there Call d.funcs s.0 w.number k.place s.2.func k.func w.spot s.2.there k.there w.there (calls_by d e w.spot.1 s.2.names.name k.func.name it w.is s.2.names.named_in same);
      in_block = w.spot.0.in_transaction;
      inner = w.inner;
      enclosing = λ it inner. blocks_there d.funcs s.0 w.number k.place s.2.func k.func w.spot s.2.there k.there w.there inner (calls_by d e w.spot.1 s.2.names.name k.func.name it w.is s.2.names.named_in same);
    }
