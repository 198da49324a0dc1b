-- What is kept at each key by all that an event may ask is kept by the event.
use Rattle.std.specs.Prelude.{Err, Ok, Result}
use Rattle.std.proofs.Common.{Option, subst, sym, ℕ}
use Rattle.std.specs.declared.alloc.AllocError.{AllocError}
use Rattle.std.specs.FinMap as map
use Rattle.beldi_tree.specs.declared.deployment.Deployment.{Deployment}
use Rattle.beldi_row.specs.{Act.act, Key.RowKey, Table.Rows, declared.row.Row.Row, declared.table.TableErr.TableErr}
use Rattle.beldi_query.{proofs.Lent.refused_stand, specs.declared.query.Query.Query, specs.Query.CameOn, specs.Query.QueryReply, specs.Query.rows_after}
use Rattle.beldi_step.specs.{declared.event.Event.Event, declared.event.EventReply.EventReply, HostStep.Core, HostStep.EventBy, HostStep.EventOn, HostStep.Plan, HostStep.immediate, HostStep.asks, HostStep.counted, HostStep.plan, HostStep.reads_all}
use Rattle.beldi_histories.proofs.RowMaps.{keys_set}

module _ (P : RowKey → Option Row → Type 0) where
  abbrev pub KeepsAt : ℕ → Query → Type 0
  KeepsAt now (Query.Act k a) = (r : Option Row) → P k r → P k (act a now r).0
  KeepsAt now (Query.After k) = Unit {0}

  abbrev pub PlanKeeps : Core → Plan → Type 0
  PlanKeeps c (immediate b y) = Unit {0}
  PlanKeeps c (asks q) = KeepsAt c.now q
  PlanKeeps c reads_all = Unit {0}

  abbrev pub All : Rows → Type 0
  All m = (k : RowKey) → P k (map.get m k)

  query_keeps : (q : Query) (now : ℕ) (m : Rows) → KeepsAt now q → All m → All (rows_after q now m)
  query_keeps (Query.Act k a) now m h all = keys_set m k (act a now (map.get m k)).0 P (h (map.get m k) (all k)) (λ l other. all l)
  query_keeps (Query.After k) now m h all = all

  came_keeps : (q : Query) (now room : ℕ) (w : Result QueryReply TableErr) (m n : Rows) → KeepsAt now q → All m → CameOn q now room w m n → All n
  came_keeps q now room (Ok t) m n h all s = subst All (sym s.0) (query_keeps q now m h all)
  came_keeps q now room (Err v) m n h all s = subst All (sym (refused_stand q now room v m n s)) all

  plan_keeps : (d : Deployment) (room old new : ℕ) (e : Event) (c b : Core) (m n : Rows) (r : Result EventReply AllocError) (p : Plan) → PlanKeeps c p → All m → EventBy d room old new e c p m b n r → All n
  plan_keeps d room old new e c b m n r (immediate k y) h all s = subst All (sym s.1) all
  plan_keeps d room old new e c b m n r (asks q) h all s = came_keeps q c.now room s.0 m n h all s.2
  plan_keeps d room old new e c b m n r reads_all h all s = subst All (sym s.2.0) all

  pub event_keeps : (d : Deployment) (room old new : ℕ) (e : Event) (c b : Core) (m n : Rows) (r : Result EventReply AllocError) → PlanKeeps (counted c) (plan d e c) → All m → EventOn d room old new e c m b n r → All n
  event_keeps d room old new e c b m n r h all s = plan_keeps d room old new e (counted c) b m n r (plan d e c) h all s
