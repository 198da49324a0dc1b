-- Where all rows are there, those stay that a run is led to.
use Rattle.std.specs.FinMap as map
use Rattle.std.proofs.Common.{◌≡◌, ℕ, ◌+◌, Bool, List, Option, Some, None, refl, subst, arith}
use Rattle.beldi_value.specs.declared.{place.Place.Place}
use Rattle.beldi_tree.specs.declared.deployment.Deployment.{Deployment}
use Rattle.beldi_lang.specs.declared.effect.Effect.{Effect}
use Rattle.beldi_plain.specs.Item.{Item}
use Rattle.beldi_plain.specs.Operation.{touched}
use Rattle.beldi_row.specs.{Table.Rows, declared.row.Row.Row}
use Rattle.beldi_chain.specs.Chain.{Chain, chain}
use Rattle.beldi_links.specs.Links.{At, IsLinked, SeesAt, StandsAt}
use Rattle.beldi_splice.proofs.SpliceWhole.{whole_stays}
use Rattle.beldi_daal.specs.{Cell.cell_key, Logged.at_of, declared.cell.WriteAt.WriteAt}
use Rattle.beldi_lock.specs.declared.lock.LockAt.{LockAt}
use Rattle.beldi_txn.specs.{End.free_place, End.visited_by, Tx.item_of, Visited.SeesFreeing, Visited.SeesRows, declared.end.EndAt.EndAt, declared.end.EndState.EndState, declared.tx.TxAt.TxAt}
use Rattle.beldi_step.specs.HostStep.{Core}
use Rattle.beldi_step.specs.Run.{OnCell, cell_op, own_tx, place_of}
use Rattle.beldi_step.specs.declared.run.{Begun.Begun, OpenTx.OpenTx, Run.Run, RunAt.TheVariants.Begins, RunAt.TheVariants.Looks, RunAt.TheVariants.Registers, RunTx.RunTx, RunTx.TheVariants.Inherited, RunTx.TheVariants.Own, Stage.Stage}
use Rattle.beldi_step.specs.declared.run.RunAt as standing
use Rattle.beldi_histories.specs.Contents.{head_key}
use Rattle.beldi_invariant.specs.{FoundInside.SeesPut, FoundInside.end_walk, FoundInside.InItem, Invariant.AtStage, Invariant.Knows, Invariant.KnowsAt, Invariant.RunAt}
use Rattle.beldi_upkeep.specs.Upkeep.{Upkeep}
use Rattle.beldi_kept.specs.KeptAhead.{StaysAhead, StaysAtStage, StaysFor, StaysForPut, StaysForTx, StaysForVisit}
use Rattle.beldi_kept.proofs.KeptKeeps.{touch_of}

-- ---- a walk that sees what it has to of linked rows
there_stands : (o : Option Row) (r : ℕ) (x : Row) → o ≡ Some x → StandsAt o r
there_stands (Some y) r x is = tt
there_stands None r x is = cc

module _ (life deadline : ℕ) (f : Chain) (linked : IsLinked f) (p : Place) where
  row_stays : (r : ℕ) (x : Row) → f r ≡ Some x → (n : ℕ) → n ≡ r + 1 → (q : ℕ) → n ≡ q + 1 → StandsAt (f q) q
  row_stays r x there n one q is = let same : r ≡ q = omega (arith, one, is) in subst (λ z. StandsAt (f z) z) same (there_stands (f r) r x there)

  for_walk : (a : At) → SeesAt f p a → StaysFor life deadline f a
  for_walk (At.Try r) s = (whole_stays f linked life deadline r s.2).0
  for_walk At.Make s = tt
  for_walk (At.Append n v o) s = λ q is. whole_stays f linked life deadline q (row_stays s.0 (Row.Cell s.4.cell) s.4.there n s.1.next q is)
  for_walk (At.Link n) s = λ q is. whole_stays f linked life deadline q (row_stays s.0 (Row.Cell s.4.cell) s.4.there n s.1.next q is)

  for_free : (own : Bool) (w : WriteAt) → SeesFreeing own f p w → StaysFor life deadline f (at_of w)
  for_free own (WriteAt.Try r) s = (whole_stays f linked life deadline r s.0.1).0
  for_free own WriteAt.Make s = tt
  for_free own (WriteAt.Append n t) s = for_walk (At.Append n t.value t.owner) s
  for_free own (WriteAt.Link n) s = for_walk (At.Link n) s

-- ---- a run
module _ (d : Deployment) (c : Core) (m : Rows) (u : Upkeep d c m) (r : Run) (g : Begun) (k : Knows d u.invariant.histories r g) where
  abbrev chains : (x : Item) → IsLinked (chain m (head_key x))
  chains = u.invariant.rows.chains

  abbrev Here : Stage → Effect → Option RunTx → Type 0
  Here s e o = AtStage m u.invariant.plain c.book k s e o

  for_put : (w : WriteAt) (q : Option OnCell) → SeesPut m r.func (place_of r.id g.machine.steps) w q → StaysForPut d.life r.deadline m r.func w q
  for_put w None s = tt
  for_put w (Some q) s = for_walk d.life r.deadline (chain m (cell_key r.func q.table q.key)) (chains (record { func = r.func; table = q.table; key = q.key })) (place_of r.id g.machine.steps) (at_of w) s

  for_tx : (a : TxAt) (e : Effect) (o : RunTx) → InItem d m u.invariant.plain u.invariant.histories r.id r.func o g.machine.steps e a (touched e) → (q : Option (ℕ × List ℕ)) → item_of e ≡ q → StaysForTx d.life r.deadline m r.func a q
  for_tx (TxAt.Lock (LockAt.Item w)) e o s (Some q) of =
      let i = subst (InItem d m u.invariant.plain u.invariant.histories r.id r.func o g.machine.steps e (TxAt.Lock (LockAt.Item w))) (touch_of e q of) s in
      for_walk d.life r.deadline (chain m (cell_key r.func q.0 q.1)) (chains (record { func = r.func; table = q.0; key = q.1 })) (place_of r.id g.machine.steps) (at_of w) i.sees
  for_tx (TxAt.Item n) e o s (Some q) of =
      let i = subst (InItem d m u.invariant.plain u.invariant.histories r.id r.func o g.machine.steps e (TxAt.Item n)) (touch_of e q of) s in
      (whole_stays (chain m (cell_key r.func q.0 q.1)) (chains (record { func = r.func; table = q.0; key = q.1 })) d.life r.deadline n i.sees.1).0
  for_tx (TxAt.Lock (LockAt.Item w)) e o s None of = tt
  for_tx (TxAt.Lock (LockAt.Lockset b)) e o s q of = tt
  for_tx (TxAt.Item n) e o s None of = tt
  for_tx a e o s q of = tt

  for_end : (o : OpenTx) (step : ℕ) (commit : Bool) (v : EndState) (a : EndAt) (q : Option (ℕ × List ℕ)) → SeesRows a (end_walk r.id r.func o step commit v) (visited_by (own_tx r.id r.func o) v.path).1 m q → StaysForVisit d.life r.deadline m (own_tx r.id r.func o) v.path a q
  for_end o step commit v (EndAt.Free w) (Some q) s = let x : Item = record { func = (visited_by (own_tx r.id r.func o) v.path).1; table = q.0; key = q.1 } in
      for_free d.life r.deadline (chain m (head_key x)) (chains x) (free_place (own_tx r.id r.func o) step v.path) _ w s
  for_end o step commit v (EndAt.Free w) None s = tt
  for_end o step commit v a q s = tt

  for_stage : (s : Stage) (e : Effect) (o : Option RunTx) → Here s e o → StaysAtStage d.life r.deadline m r.id r.func s e o
  for_stage (Stage.Walk n) (Effect.Read t x) None s = (whole_stays (chain m (cell_key r.func t x)) (chains (record { func = r.func; table = t; key = x })) d.life r.deadline n s.1).0
  for_stage (Stage.Write w) e None s = for_put w (cell_op e) s.1
  for_stage (Stage.Tx a) e (Some o) s = for_tx a e o s.1 (item_of e) refl
  for_stage (Stage.End v) (Effect.End commit) (Some (Own o)) s = for_end o g.machine.steps commit v v.at v.item s.1.sees
  for_stage (Stage.Walk n) (Effect.Read t x) (Some o) s = absurd s
  for_stage (Stage.Walk n) e o s = tt
  for_stage (Stage.Write w) e (Some o) s = absurd s
  for_stage (Stage.Tx a) e None s = absurd s
  for_stage (Stage.End v) e (Some (Inherited x)) s = tt
  for_stage (Stage.End v) e None s = tt
  for_stage (Stage.End v) e o s = absurd s
  for_stage w e o s = tt

pub whole_ahead : (d : Deployment) (c : Core) (m : Rows) → Upkeep d c m → (i : ℕ) (r : Run) → map.get c.runs i ≡ Some r → StaysAhead d.life m r r.at
whole_ahead d c m u i r live = by_at r.at (subst (RunAt d m u.invariant.plain c.book u.invariant.histories) live (u.invariant.runs.runs i))
  where
    by_at : (at : standing.RunAt) → KnowsAt d m u.invariant.plain c.book u.invariant.histories r at → StaysAhead d.life m r at
    by_at (Begins g) k = for_stage d c m u r g k.0 g.stage g.machine.effect g.tx k.1.here
    by_at Looks k = tt
    by_at (Registers b) k = tt
