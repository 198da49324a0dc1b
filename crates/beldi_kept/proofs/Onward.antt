-- After an event the rows stay that each run is led to.
use Rattle.std.specs.FinMap as map
use Rattle.std.specs.Prelude.{Result}
use Rattle.std.specs.declared.alloc.AllocError.{AllocError}
use Rattle.std.proofs.Common.{◌≡◌, inl, inr, ℕ, ◌<◌, ◌≤◌, Bool, true, false, Option, Some, None, is_some, refl, ap, sym, ◌∙◌, subst, arith}
use Rattle.beldi_value.specs.declared.{id.IntentId.IntentId}
use Rattle.beldi_tree.specs.declared.deployment.Deployment.{Deployment}
use Rattle.beldi_book.specs.LinearOrder.{count_changes}
use Rattle.beldi_plain.specs.Item.{Item}
use Rattle.beldi_row.specs.{Act.act, Table.Rows, declared.act.Act.Act, declared.row.Cell.Cell, declared.row.Row.Row}
use Rattle.beldi_query.specs.{declared.query.Query.Query, Query.rows_after, Query.query_reply}
use Rattle.beldi_chain.specs.Chain.{Chain, chain}
use Rattle.beldi_links.specs.Links.{IsLinked}
use Rattle.beldi_links.proofs.Meets.{rows_below}
use Rattle.beldi_splice.specs.Splice.{IsSafeFrom, IsThreaded, LessChain}
use Rattle.beldi_splice.proofs.{Alike.first_there, Alike.leads_on_kept, Both.there_linked, Leading.next_is_safe}
use Rattle.beldi_intent.specs.Intent.{root_key}
use Rattle.beldi_step.specs.HostStep.{Core, EventOn}
use Rattle.beldi_step.specs.Run.{run_asks, run_told}
use Rattle.beldi_step.specs.declared.{event.Event.Event, event.EventReply.EventReply, run.Run.Run, run.RunAt.TheVariants.Begins, run.RunAt.TheVariants.Looks, run.RunAt.TheVariants.Registers}
use Rattle.beldi_step.specs.declared.run.RunAt as standing
use Rattle.beldi_histories.specs.Contents.{head_key}
use Rattle.beldi_histories.proofs.Acts.{item_apart}
use Rattle.beldi_upkeep.proofs.Shapes.{RunFrom, Rooted, Still, TurnOf, has_begun, shape}
use Rattle.beldi_kept.specs.{KeptAhead.StaysAhead, KeptRows.HasKept}
use Rattle.beldi_kept.proofs.{KeptAhead.turned_stays, Coming.IsSafeFurther, Coming.LeadsOnTo, Less.GoesOn, Less.off_item, Staying.StaysOn, Staying.for_run, Staying.same_chains, Staying.turn_stays, Step.Step}

-- ---- a row that one leads to is safe as this is
module _ (gone : IntentId → Bool) (g f : Chain) (linked : IsLinked f) (less : LessChain gone g f) (threads : is_some (g 0) ≡ true → IsThreaded g) (life deadline : ℕ) where
  cell_leads : (r z : ℕ) (c : Cell) → g r ≡ Some (Row.Cell c) → c.next ≡ Some z → IsSafeFrom life deadline g r → IsSafeFrom life deadline g z
  cell_leads r z c is to =
      let q = leads_on_kept gone g f less r z c is to in
      let l = there_linked f linked r (Row.Cell q.kept) q.there in
      let rises : r < z = (let one = l.numbers r q.kept q.after q.there q.next in let most = q.most in omega (arith, one, most)) in
      next_is_safe g life deadline r z c (threads (first_there gone f (g 0) (f 0) (less 0) (rows_below f l r 0 (Row.Cell q.kept) q.there (omega arith)))) is to rises

  pub leads_safe : IsSafeFurther life deadline g
  leads_safe r z = by_row (g r) refl
    where
      by_row : (o : Option Row) → g r ≡ o → LeadsOnTo o z → IsSafeFrom life deadline g r → IsSafeFrom life deadline g z
      by_row (Some (Row.Cell c)) is to = cell_leads r z c is to
      by_row None is to = absurd to
      by_row (Some o) is to = absurd to

-- ---- a run that has not begun is led to nothing
new_stays : (life : ℕ) (n : Rows) (r : Run) (at : standing.RunAt) → has_begun at ≡ false → StaysAhead life n r at
new_stays life n r (Begins g) new = cc
new_stays life n r Looks new = tt
new_stays life n r (Registers b) new = tt

module _ (d : Deployment) (c b : Core) (m n : Rows) (h : HasKept d c m) (s : Step d c b h.gone m h.kept n) (rises : c.now ≤ b.now) where
  abbrev Stays : ℕ → Run → Type 0
  Stays k r = map.get b.runs k ≡ Some r → b.now ≤ r.deadline → StaysAhead d.life n r r.at

  abbrev Lived : Type 0
  Lived = (k : ℕ) (r : Run) → map.get c.runs k ≡ Some r → b.now ≤ r.deadline → StaysAhead d.life n r r.at

  -- by where it comes from
  from_before : (o : Option Run) → Lived → ((r : Run) → o ≡ Some r → b.now ≤ r.deadline → StaysAhead d.life n r r.at) → (k : ℕ) (r : Run) → b.now ≤ r.deadline → RunFrom c.runs o k r → StaysAhead d.life n r r.at
  from_before o lived next k r in_time (inl live) = lived k r live in_time
  from_before o lived next k r in_time (inr (inl new)) = new_stays d.life n r r.at new
  from_before o lived next k r in_time (inr (inr is)) = next r is in_time

  no_next : (r : Run) → None ≡ Some r → b.now ≤ r.deadline → StaysAhead d.life n r r.at
  no_next r is = cc

  lived_on : ((deadline : ℕ) → StaysOn d.life deadline m n) → Lived
  lived_on on k r live in_time = for_run d.life m n r (on r.deadline) r.at (h.ahead k r live (let t = in_time in omega (arith, rises, t)))

  -- the rows stay; a root's row is put; or a run had its turn
  still : Still d c.runs c.now (count_changes c.book) b.runs m n → (k : ℕ) (r : Run) → Stays k r
  still w k r live in_time = from_before None (lived_on (λ deadline. same_chains d.life deadline m n (λ x. ap (λ z. chain z (head_key x)) w.rows))) no_next k r in_time (w.runs k r live)

  rooted : Rooted d c.runs c.now (count_changes c.book) b.runs m n → (k : ℕ) (r : Run) → Stays k r
  rooted w k r live in_time = from_before None (lived_on (λ deadline. same_chains d.life deadline m n apart)) no_next k r in_time (w.runs k r live)
    where
      of_act : (t : ℕ) (a : Act) (x : Item) → w.query ≡ Query.Act (root_key t) a → chain n (head_key x) ≡ chain m (head_key x)
      of_act t a x asked = ap (λ z. chain z (head_key x)) (w.rows ∙ ap (λ q. rows_after q c.now m) asked) ∙ item_apart m (root_key t) (act a c.now (map.get m (root_key t))).0 x (off_item (root_key t) refl x)

      apart : (x : Item) → chain n (head_key x) ≡ chain m (head_key x)
      apart x = elim w.asked [
        | inl i ↦ of_act i.0 Act.Issue x i.1
        | inr i ↦ of_act i.0 (Act.Bind i.1.0 i.1.1.0) x i.1.1.1
      ]

  turned : TurnOf d c.runs c.now (count_changes c.book) b.runs m n → (k : ℕ) (r : Run) → Stays k r
  turned w k r live in_time = from_before (run_told d (count_changes c.book) w.run (query_reply (run_asks w.run) c.now m)).next (lived_on on) next k r in_time (w.runs k r live)
    where
      after : GoesOn h.gone m h.kept (rows_after (run_asks w.run) c.now m) s.after
      after = subst (λ z. GoesOn h.gone m h.kept z s.after) w.rows s.goes

      on : (deadline : ℕ) → StaysOn d.life deadline m n
      on deadline = subst (StaysOn d.life deadline m) (sym w.rows) (turn_stays d c m h w.number w.run w.live_there w.in_time s.after after deadline)

      further : (x : Item) → IsSafeFurther d.life w.run.deadline (chain n (head_key x))
      further x = leads_safe h.gone (chain n (head_key x)) (chain s.after (head_key x)) (s.upkeep.invariant.rows.chains x) (s.goes.less.cells x) (s.goes.less.threads x) d.life w.run.deadline

      next : (q : Run) → (run_told d (count_changes c.book) w.run (query_reply (run_asks w.run) c.now m)).next ≡ Some q → b.now ≤ q.deadline → StaysAhead d.life n q q.at
      next q is in_time = turned_stays d.life c.now (count_changes c.book) m n d w.run (on w.run.deadline) further w.rows (h.ahead w.number w.run w.live_there w.in_time) q is

  pub ahead_after : (room old new : ℕ) (e : Event) (x : Result EventReply AllocError) → EventOn d room old new e c m b n x → (k : ℕ) (r : Run) → Stays k r
  ahead_after room old new e x on = elim (shape d room old new e c b m n x on) [
    | inl w ↦ still w
    | inr (inl w) ↦ rooted w
    | inr (inr w) ↦ turned w
  ]
