-- a turn of a visit is the same over less rows, unless it looks for the next row of who is gone.
use Rattle.std.proofs.Common.{◌≡◌, inl, inr, Bool, false, Some, refl, ap, sym, ◌∙◌}
use Rattle.beldi_value.specs.declared.{id.IntentId.IntentId, place.TxId.TxId}
use Rattle.beldi_tree.specs.declared.deployment.Deployment.{Deployment}
use Rattle.beldi_lang.specs.declared.effect.Effect.{Effect}
use Rattle.beldi_book.specs.LinearOrder.{count_changes}
use Rattle.beldi_row.specs.{Key.RowKey, Table.Rows, declared.act.Act.Act}
use Rattle.beldi_query.specs.{declared.query.Query.Query, Query.QueryReply}
use Rattle.beldi_txn.proofs.Visited.{FindsFirstCall, FindsFirstLock}
use Rattle.beldi_intent.specs.Intent.{intent_key}
use Rattle.beldi_txn.specs.{End.calls_after, End.calls_goes, End.end_goes, End.next_goes, End.visit_asks, End.visited_by, CallPath.Member, declared.end.EndAt.EndAt, declared.end.EndState.EndState}
use Rattle.beldi_step.specs.HostStep.{Core}
use Rattle.beldi_step.specs.Run.{end_by_output, end_here_output, own_tx, run_told, stage_output, told_at, turned_by, visit_output}
use Rattle.beldi_step.specs.declared.run.{Begun.Begun, OpenTx.OpenTx, Run.Run, RunAt.TheVariants.Begins, RunTx.TheVariants.Own, Stage.Stage}
use Rattle.beldi_upkeep.specs.{Callees.belongs_to}
use Rattle.beldi_kept.specs.Less.{IsGone, Less, is_item}
use Rattle.beldi_kept.proofs.{Between.same_call, Between.same_lock, Less.act_both, Less.act_gone, Less.stays_on, Less.told_both, Turn.SameTurn}

module _ (d : Deployment) (c : Core) (gone : IntentId → Bool) (m kept : Rows) (less : Less gone m kept) (r : Run) (g : Begun) (v : EndState)
    (at : r.at ≡ Begins g) (stage : g.stage ≡ Stage.End v) (alive : gone r.id ≡ false) (o : OpenTx) (tx : g.tx ≡ Some (Own o)) (commit : Bool) (ends : g.machine.effect ≡ Effect.End commit) where
  abbrev t : TxId
  t = own_tx r.id r.func o

  abbrev p : Member
  p = visited_by t v.path

  abbrev q : EndAt → Query
  q a = visit_asks t g.machine.steps commit v.path v.after v.item v.value a

  -- what it says of what it was told
  pub output : (u : QueryReply) → run_told d (count_changes c.book) r u ≡ turned_by d r g (visit_output commit v (end_goes t g.machine.steps commit v.path v.at u))
  output u =
      ap (λ x. told_at d (count_changes c.book) r x u) at
      ∙ ap (λ s. turned_by d r g (stage_output r.id r.func g.caller g.tx (count_changes c.book) g.machine.steps g.machine.effect s u)) stage
      ∙ ap (λ e. turned_by d r g (end_here_output r.id r.func g.machine.steps e v g.tx u)) ends
      ∙ ap (λ z. turned_by d r g (end_by_output r.id r.func g.machine.steps commit v z u)) tx

  pub output_at : (a : EndAt) → v.at ≡ a → (u : QueryReply) → run_told d (count_changes c.book) r u ≡ turned_by d r g (visit_output commit v (end_goes t g.machine.steps commit v.path a u))
  output_at a is u = output u ∙ ap (λ z. turned_by d r g (visit_output commit v (end_goes t g.machine.steps commit v.path z u))) is

  -- a row of the run's own, or of nobody
  pub act_alike : (k : RowKey) → is_item k.kind ≡ false → (a : Act) → (IsGone gone (belongs_to k.kind) → ⊥) → SameTurn d c gone m kept r (Query.Act k a)
  act_alike k other a none = elim (less.rows k other) [
    | inl same ↦ record { turned = ap (run_told d (count_changes c.book) r) (told_both gone m kept less k a c.now same); rows = act_both gone m kept less k other a c.now same }
    | inr off ↦ absurd (none off.1)
  ]

  pub calls : v.at ≡ EndAt.Callees → gone p.0 ≡ false → FindsFirstCall p kept → SameTurn d c gone m kept r (q EndAt.Callees)
  calls is live first = record {
    turned = output_at EndAt.Callees is _ ∙ ap (λ x. turned_by d r g (visit_output commit v (calls_goes g.machine.steps p v.path x))) (same_call p.1 p.0 gone m kept less first live (calls_after t v.path v.after)) ∙ sym (output_at EndAt.Callees is _);
    rows = stays_on gone m kept less;
  }

  pub locks : v.at ≡ EndAt.Next → gone p.0 ≡ false → FindsFirstLock t p kept → SameTurn d c gone m kept r (q EndAt.Next)
  locks is live first = record {
    turned = output_at EndAt.Next is _ ∙ ap (λ x. turned_by d r g (visit_output commit v (next_goes v.path x))) (same_lock p.1 p.0 t.begin gone m kept less first live v.item) ∙ sym (output_at EndAt.Next is _);
    rows = stays_on gone m kept less;
  }

  -- who is gone has its finish, and is not stamped again; whatever is told, the visit goes back
  pub stamps : v.at ≡ EndAt.Stamp → SameTurn d c gone m kept r (q EndAt.Stamp)
  stamps is = elim (less.rows (intent_key p.0 p.1) refl) [
    | inl same ↦ record { turned = ap (run_told d (count_changes c.book) r) (told_both gone m kept less (intent_key p.0 p.1) Act.Stamp c.now same); rows = act_both gone m kept less (intent_key p.0 p.1) refl Act.Stamp c.now same }
    | inr off ↦ record { turned = output_at EndAt.Stamp is _ ∙ sym (output_at EndAt.Stamp is _); rows = act_gone gone m kept less (intent_key p.0 p.1) Act.Stamp c.now off.0 off.1 refl refl refl }
  ]
