-- The function of each root is one of the deployment: a root gets its body by a request alone.
use Rattle.std.specs.Prelude.{nat_lt, ◌^◌}
use Rattle.std.proofs.Common.{Bool, None, Option, Some, ap, arith, false, inl, inr, refl, subst, sym, true, ℕ, ◌+◌, ◌-◌, ◌==◌, ◌||◌, ◌∙◌, ◌≡◌, ◌⊎◌}
use Rattle.std.specs.FinMap.{get-empty}
use Rattle.std.specs.FinMap as map
use Rattle.beldi_value.specs.{Id.has_no_hops, Id.root_of, declared.id.IntentId.IntentId, declared.value.Value.Value}
use Rattle.beldi_tree.specs.declared.deployment.Deployment.{Deployment}
use Rattle.beldi_plain_laws.proofs.Maps.{same_some}
use Rattle.beldi_row.proofs.Removed.{act_stays, spares}
use Rattle.beldi_query.specs.Query.{may_remove}
use Rattle.beldi_step.proofs.Spares.{stage_spares}
use Rattle.beldi_row.specs.{Act.act, Act.prunes, Act.on, Act.bind_to, Act.bound, Key.RowKey, Key.key_cmp, Table.Rows, declared.act.Act.Act, declared.row.Body.Body, declared.row.IntentRow.IntentRow, declared.row.Row.Row}
use Rattle.beldi_query.specs.declared.query.Query.{Query}
use Rattle.beldi_intent.specs.Intent.{root_key}
use Rattle.beldi_step.proofs.StepRuns.{of_plan}
use Rattle.beldi_step.specs.{declared.event.Event.Event, declared.run.Run.Run, declared.run.RunAt.RunAt, HostStep.Core, HostStep.counted, HostStep.crash_plan, HostStep.is_crowded, HostStep.last_moment, HostStep.plan, HostStep.plan_of, HostStep.run_plan, Run.asks_at, Run.stage_asks}
use Rattle.beldi_invariant.specs.Invariant.{KnowsAt, Invariant, RunAt as Knows}
use Rattle.beldi_invariant.proofs.Moves.{if_plan}
use Rattle.beldi_upkeep.specs.Checked.{IsOfIt, NoRootAtFirst, RootsStayOfIt, body_at, has_func}
use Rattle.beldi_upkeep.proofs.{Asked.Tame, Asked.id_or, Asked.sets_body, Asked.stage_tame, UpkeepKept.KeepsAt, UpkeepKept.PlanKeeps, UpkeepKept.event_keeps}

-- an act that sets no body leaves it
body_kept : (a : Act) (now : ℕ) (r : Option Row) → prunes a ≡ false → sets_body a ≡ false → body_at (act a now r).0 ≡ body_at r
body_kept a now None keeps h = grind arith
body_kept a now (Some r) keeps h = ap (λ z. body_at z.0) (act_stays a now r (spares a keeps)) ∙ left a now r h
  where
    left : (a : Act) (now : ℕ) (r : Row) → sets_body a ≡ false → body_at (Some (on a now r).0) ≡ body_at (Some r)
    left a now r h = grind arith

-- what is so of the ticket and the function of each root that was bound
module _ (d : Deployment) (O : ℕ → ℕ → Type 0) where
  -- at the key of a root
  abbrev pub P : RowKey → Option Row → Type 0
  P k r = (t : ℕ) → k ≡ root_key t → (b : Body) → body_at r ≡ Some b → O t b.func

  mild_keeps : (now : ℕ) (k : RowKey) (a : Act) → prunes a ≡ false → sets_body a ≡ false → KeepsAt P now (Query.Act k a)
  mild_keeps now k a keeps none r h t same b is = h t same b (sym (body_kept a now r keeps none) ∙ is)

  asks_keeps : (now : ℕ) (k : RowKey) (a : Act) (sets : Bool) → prunes a ≡ false → sets_body a ≡ sets → (sets_body a ≡ true → (t : ℕ) → k ≡ root_key t → ⊥) → KeepsAt P now (Query.Act k a)
  asks_keeps now k a true keeps e other r h t same b is = absurd (other e t same)
  asks_keeps now k a false keeps e other r h t same b is = mild_keeps now k a keeps e r h t same b is

  tame_keeps : (now : ℕ) (q : Query) → may_remove q ≡ false → Tame q → KeepsAt P now q
  tame_keeps now (Query.Act k a) keeps h = asks_keeps now k a (sets_body a) keeps refl h
  tame_keeps now (Query.After k) keeps h = tt

  -- what a request binds
  of_bound : (f : ℕ) (a : Value) (i : IntentRow) (o : Option Body) (b : Body) → (bind_to f a i o).0.body ≡ Some b → ((bind_to f a i o).1 ≡ bound × (b.func ≡ f)) ⊎ (i.body ≡ Some b)
  of_bound f a i None b is = inl (refl, ap (λ (z : Body). z.func) (sym (same_some is)))
  of_bound f a i (Some c) b is = inr is

  same_root : (t u : ℕ) → root_key t ≡ root_key u → t ≡ u
  same_root t u same = ap (λ (k : RowKey). (id_or (root_of t) k.kind).ticket) same

  pub bound_keeps : (now t f : ℕ) (a : Value) (r : Option Row) → ((act (Act.Bind f a) now r).1 ≡ bound → O t f) → P (root_key t) r → P (root_key t) (act (Act.Bind f a) now r).0
  bound_keeps now t f a None so h u same b is = h u same b is
  bound_keeps now t f a (Some (Row.Intent i)) so h u same b is = elim (of_bound f a i i.body b is) [
    | inl e ↦ subst (λ g. O u g) (sym e.1) (subst (λ z. O z f) (same_root t u same) (so e.0))
    | inr e ↦ h u same b e
  ]
  bound_keeps now t f a (Some r) so h u same b is = cc

  -- who registers a body is no root
  no_hops : (id : IntentId) (t : ℕ) → has_no_hops id.hops ≡ false → id ≡ root_of t → ⊥
  no_hops id t hops same = let clash = sym (ap (λ (z : IntentId). has_no_hops z.hops) same) ∙ hops in cc

  run_keeps : (c : Core) (m : Rows) (h : Invariant d c m) (r : Run) (at : RunAt) → KnowsAt d m h.plain c.book h.histories r at → KeepsAt P c.now (asks_at r at)
  run_keeps c m h r RunAt.Looks k = mild_keeps c.now _ Act.Look refl refl
  run_keeps c m h r (RunAt.Registers b) k = λ v w t same. absurd (no_hops r.id t k.callee (ap (λ (z : RowKey). id_or r.id z.kind) same))
  run_keeps c m h r (RunAt.Begins g) k = tame_keeps c.now (stage_asks r.id r.func g.caller g.tx g.machine.steps g.machine.effect g.stage) (stage_spares r.id r.func g.caller g.tx g.machine.steps g.machine.effect g.stage) (stage_tame r.id r.func g.caller g.tx g.machine.steps g.machine.effect g.stage)

  -- ---- an event
  turn_keeps : (c b : Core) (m : Rows) (h : Invariant d c m) (i : ℕ) (o : Option Run) → b.now ≡ c.now → Knows d m h.plain c.book h.histories o → PlanKeeps P b (run_plan b i o)
  turn_keeps c b m h i None now k = tt
  turn_keeps c b m h i (Some r) now k = if_plan (PlanKeeps P b) (nat_lt r.deadline b.now) _ _ (λ t. tt) (λ t. subst (λ n. KeepsAt P n (asks_at r r.at)) (sym now) (run_keeps c m h r r.at k))

  crash_keeps : (b : Core) (i : ℕ) (o : Option Run) → PlanKeeps P b (crash_plan b i o)
  crash_keeps b i None = tt
  crash_keeps b i (Some r) = if_plan (PlanKeeps P b) (nat_lt r.deadline b.now) _ _ (λ t. tt) (λ t. tt)

  module _ (c : Core) (m : Rows) (h : Invariant d c m) where
    abbrev IsSo : Event → Type 0
    IsSo (Event.Request t f a) = O t f
    IsSo e = Unit {0}

    plan_of_keeps : (e : Event) → IsSo e → PlanKeeps P (counted c) (plan_of d e (counted c))
    plan_of_keeps Event.Ticket of = if_plan (PlanKeeps P (counted c)) (c.newest == 2 ^ 32 - 1) _ _ (λ t. tt) (λ t. mild_keeps c.now (root_key (c.newest + 1)) Act.Issue refl refl)
    plan_of_keeps (Event.Request t f a) of = if_plan (PlanKeeps P (counted c)) ((t == 0) || nat_lt c.newest t) _ _ (λ u. tt) (λ u. if_plan (PlanKeeps P (counted c)) (is_crowded (counted c)) _ _ (λ u. tt) (λ u r. bound_keeps c.now t f a r (λ told. of)))
    plan_of_keeps (Event.Turn i) of = turn_keeps c (counted c) m h i (map.get c.runs i) refl (h.runs.runs i)
    plan_of_keeps (Event.Lost i) of = turn_keeps c (counted c) m h i (map.get c.runs i) refl (h.runs.runs i)
    plan_of_keeps (Event.Crash i) of = crash_keeps (counted c) i (map.get c.runs i)
    plan_of_keeps (Event.Restart id f) of = if_plan (PlanKeeps P (counted c)) (is_crowded (counted c)) _ _ (λ u. tt) (λ u. tt)
    plan_of_keeps (Event.Tick n) of = if_plan (PlanKeeps P (counted c)) (nat_lt last_moment (c.now + n)) _ _ (λ u. tt) (λ u. tt)
    plan_of_keeps Event.Ic of = tt
    plan_of_keeps Event.Halt of = tt

    pub plan_keeps : (e : Event) → IsSo e → PlanKeeps P (counted c) (plan d e c)
    plan_keeps e of = of_plan d e c (PlanKeeps P (counted c)) (λ few. plan_of_keeps e of) (λ shut. tt) tt

so_of : (d : Deployment) (c : Core) (m : Rows) (h : Invariant d c m) (e : Event) → IsOfIt d e → IsSo d (λ u f. has_func d f ≡ true) c m h e
so_of d c m h (Event.Request t f a) of = of
so_of d c m h e of = tt

pub roots_stay : RootsStayOfIt
roots_stay d room old new e c b m n r h of roots s t body is =
    event_keeps (P d (λ u f. has_func d f ≡ true)) d room old new e c b m n r (plan_keeps d (λ u f. has_func d f ≡ true) c m h e (so_of d c m h e of)) (λ k u same v at. roots u v (ap (λ z. body_at (map.get m z)) (sym same) ∙ at)) s (root_key t) t refl body is

none_there : (t : ℕ) (b : Body) → body_at (map.get {R = key_cmp} map.empty (root_key t)) ≡ Some b → ⊥
none_there t b is = let clash = sym (ap body_at (get-empty key_cmp (root_key t))) ∙ is in cc

pub no_root : NoRootAtFirst
no_root d c = (λ t b is. absurd (none_there t b is), λ t b is. absurd (none_there t b is))
