-- The first turn of a run: it finds its body, or registers the one that its call gave it.
use Rattle.beldi_invariant.proofs.Names.{Body, Bool, Core, Deployment, Func, Instance, IntentId, Knows, KnowsAt, Machine, None, Option, Invariant, Rows, Run, RunAt, RunTx, Some, TxId, ap, arith, at_begin, begin_in, has_finish, is_some, key_in, length, machine_begun, refl, same_some, subst, sym, true, tx_end, txs_after, inherited_tx, ℕ, ◌<◌, ◌∙◌, ◌≡◌, []}
use Rattle.beldi_invariant.proofs.Names.map
use Rattle.beldi_invariant.proofs.{OpenOf.open_begun, OpenOf.own_begin, StageTurns.MachineAt, StageTurns.at_steps, StageTurns.steps_there}
use Rattle.beldi_upkeep.specs.Callees.{owner_key}
use Rattle.beldi_upkeep.proofs.{FromInvariant.ended_has_row, FromInvariant.over_ended, Leaving.IsPassedBy, PastEnds.begin_same, PastEnds.ended_before, PastOwn.WasOwner, PastOwn.called_owner, PastOwn.ends_there, PastOwn.tx_ended, OutputOwes.Owes, OutputOwes.PastClosed, OutputOwes.goes_owes, OutputOwes.no_run}

-- ---- a run that begins is past no transaction
module _ (d : Deployment) (b : Core) (n : Rows) (h : Invariant d b n) (r : Run) where
  begins_closed : (y : Body) → PastClosed d h.histories n r (machine_begun d r.func y.args (is_some y.tx), inherited_tx y.tx) y.parent
  begins_closed y stands t passed home i x body there in_it =
      let q : Instance = record { func = r.func; args = y.args; answers = []; outcome = None; parent = y.parent; enclosing = y.tx } in
      let s : Machine × Option RunTx = (machine_begun d r.func y.args (is_some y.tx), inherited_tx y.tx) in
      let at : MachineAt d r.func q [] s = record { machine = at_begin d r.func y.args (is_some y.tx); open_there = refl } in
      let e = ended_before d b n h r.id r.func q refl [] s at y.parent stands t passed home i x body there in_it in
      let l = steps_there d r.func q refl [] s at in
      absurd (omega (arith, e, l))

  pub begins_owe : (f : Option Func) (y : Option Body) → Owes d h.histories n r (begin_in d r f y).next
  begins_owe None None = λ k g is at stands. absurd (no_run k is)
  begins_owe None (Some y) = λ k g is at stands. absurd (no_run k is)
  begins_owe (Some f) None = λ k g is at stands. absurd (no_run k is)
  begins_owe (Some f) (Some y) = goes_owes d h.histories n r (machine_begun d r.func y.args (is_some y.tx), inherited_tx y.tx) y.parent None (begins_closed y)

-- ---- nobody joins a transaction that has ended: who was called in one has its row by then
module _ (d : Deployment) (c : Core) (m : Rows) (h : Invariant d c m) (id : IntentId) (z : Instance) (made : map.get h.histories id ≡ Some z) (none : map.get m (key_in z.func id) ≡ None) (t : TxId) (in_it : z.enclosing ≡ Some t) where
  open_still : (e : ℕ × Bool) → tx_end d h.histories t ≡ Some e → ⊥
  open_still e ended = let clash = sym (ap is_some none) ∙ ended_has_row d c m h id z t e made in_it ended in cc

  its : WasOwner d h.histories t
  its = called_owner d h.histories h.well_formed t id z made in_it

  pub owner_open : has_finish (map.get m (owner_key t)) ≡ true → ⊥
  owner_open over = let e = over_ended d c m h t its over in open_still e.0 e.1

  pub not_passed : IsPassedBy c t → ⊥
  not_passed p =
      let k : Knows d h.histories p.run p.begun = (subst (KnowsAt d m h.plain c.book h.histories p.run) p.at (subst (RunAt d m h.plain c.book h.histories) p.live (h.runs.runs p.number))).0 in
      let same : its.owner ≡ k.instance = same_some (sym its.made ∙ ap (map.get h.histories) p.passed.own ∙ k.made) in
      let all = k.run_answers ∙ ap (λ (y : Instance). y.answers) (sym same) in
      let begun : t.begin < length k.answers = (let b = p.passed.begun in let l = at_steps k in omega (arith, b, l)) in
      let closed : (txs_after d its.owner k.answers).begun ≡ Some t.begin → ⊥ = (λ is_open. p.passed.ended (begin_same p.begun.tx ∙ ap own_begin k.run_open ∙ sym (open_begun d k.instance k.answers) ∙ subst (λ (y : Instance). (txs_after d y k.answers).begun ≡ Some t.begin) same is_open)) in
      open_still (ends_there d h.histories t its k.answers k.later all begun closed).0 (tx_ended d h.histories t its k.answers k.later all begun closed)
