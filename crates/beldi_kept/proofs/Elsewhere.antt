-- A run may stand at another stage of its effect, where what has to be so there is.
use Rattle.std.specs.Ordering.{is_eq, nat_cmp}
use Rattle.std.proofs.Common.{cond}
use Rattle.beldi_invariant.proofs.Names.{AtStage, Begins, Begun, Bool, Core, Deployment, IntentId, Knows, KnowsAt, Rows, Run, RunAt, Some, Stage, ap, at_stage, false, inl, inr, is_some, key_in, put_got, put_run, refl, same_some, subst, sym, true, ℕ, ◌<◌, ◌∙◌, ◌≡◌, ◌≤◌}
use Rattle.beldi_invariant.proofs.Names.map
use Rattle.beldi_invariant.proofs.{Lives.runs_put, Moves.with_runs}
use Rattle.beldi_value.specs.Id.{child_of}
use Rattle.beldi_upkeep.specs.{Callees.HasPut, Callees.HasTold, Callees.RunOwes, Passed.MayPass, Deadlines.IsNear, Upkeep.Upkeep, WorksFor.IsWorkedFor, WorksFor.WorksFor, WorksFor.finish_in}
use Rattle.beldi_upkeep.proofs.Quiet.{is_async, not_async}
use Rattle.beldi_step.specs.{HostStep.last_of, Run.own_tx, declared.run.RunTx.RunTx}
use Rattle.beldi_value.specs.declared.place.TxId.{TxId}
use Rattle.beldi_daal.specs.declared.cell.WriteAt.{WriteAt}
use Rattle.beldi_txn.specs.declared.end.EndAt.{EndAt}
use Rattle.beldi_wanted.specs.Wanted.{OwnsAt, OwnsAtStage, Wanted, WasOwned}
use Rattle.std.proofs.Common.{None, Option}

same_begun : (a b : Begun) → Begins a ≡ Begins b → a ≡ b
same_begun a b h = cc

-- ---- a stage at which a run owes a row of others: a callee's, or one by which an item is given back
abbrev pub makes_back : EndAt → Bool
makes_back (EndAt.Free (WriteAt.Append n told)) = true
makes_back a = false

abbrev pub is_owing : Stage → Bool
is_owing (Stage.Async at) = true
is_owing (Stage.End v) = makes_back v.at
is_owing s = false

no_async : (w : Stage) → is_owing w ≡ false → is_async w ≡ false
no_async (Stage.Async at) quiet = quiet
no_async (Stage.End v) quiet = refl
no_async s quiet = refl

no_back : (t : TxId) (a : EndAt) → makes_back a ≡ false → WasOwned t a
no_back t (EndAt.Free (WriteAt.Append n told)) quiet = cc
no_back t (EndAt.Free (WriteAt.Try n)) quiet = tt
no_back t (EndAt.Free WriteAt.Make) quiet = tt
no_back t (EndAt.Free (WriteAt.Link n)) quiet = tt
no_back t EndAt.Decide quiet = tt
no_back t EndAt.Callees quiet = tt
no_back t EndAt.Next quiet = tt
no_back t (EndAt.Shadow n) quiet = tt
no_back t EndAt.Stamp quiet = tt

owns_none : (id : IntentId) (func : ℕ) (w : Stage) (o : Option RunTx) → is_owing w ≡ false → OwnsAtStage id func w o
owns_none id func (Stage.End v) (Some (RunTx.Own o)) quiet = no_back (own_tx id func o) v.at quiet
owns_none id func (Stage.End v) (Some (RunTx.Inherited t)) quiet = tt
owns_none id func (Stage.End v) None quiet = tt
owns_none id func Stage.Ask o quiet = tt
owns_none id func (Stage.Walk r) o quiet = tt
owns_none id func (Stage.Keep v seen) o quiet = tt
owns_none id func (Stage.Write at) o quiet = tt
owns_none id func (Stage.Tx at) o quiet = tt
owns_none id func (Stage.Decide m) o quiet = tt
owns_none id func (Stage.Call at) o quiet = tt
owns_none id func (Stage.Async at) o quiet = cc
owns_none id func Stage.Back o quiet = tt
owns_none id func Stage.Notify o quiet = tt
owns_none id func Stage.Close o quiet = tt

module _ (d : Deployment) (c : Core) (m : Rows) (u : Upkeep d c m) (i : ℕ) (r : Run) (g : Begun) (w : Stage) (live : map.get c.runs i ≡ Some r) (at : r.at ≡ Begins g) (quiet : is_owing w ≡ false) (told : HasTold w g.caller m) (put : HasPut w g.machine.effect (child_of r.id g.machine.steps) m)
    (here : (k : Knows d u.invariant.histories r g) → AtStage m u.invariant.plain c.book k w g.machine.effect g.tx) where
  abbrev next : Run
  next = record r { at = Begins (at_stage g w) }

  abbrev core : Core
  core = record c { runs = put_run c.runs i (Some next) }

  before : KnowsAt d m u.invariant.plain c.book u.invariant.histories r (Begins g)
  before = subst (KnowsAt d m u.invariant.plain c.book u.invariant.histories r) at (subst (RunAt d m u.invariant.plain c.book u.invariant.histories) live (u.invariant.runs.runs i))

  knows : KnowsAt d m u.invariant.plain c.book u.invariant.histories next next.at
  knows = (before.0, record { here = here before.0; released = before.1.released; row = before.1.row })

  -- what is so of each run and of this one
  each : (P : ℕ → Run → Type 0) → ((n : ℕ) (s : Run) → map.get c.runs n ≡ Some s → P n s) → ((n : ℕ) → P n next) → (n : ℕ) (s : Run) → map.get (put_run c.runs i (Some next)) n ≡ Some s → P n s
  each P all this n s is = by_test (is_eq (nat_cmp n i)) (sym (put_got c.runs i (Some next) n) ∙ is)
    where
      by_test : (b : Bool) → cond b (Some next) (map.get c.runs n) ≡ Some s → P n s
      by_test true e = subst (P n) (same_some e) (this n)
      by_test false e = all n s e

  as_before : (j : IntentId) → WorksFor next next.at j → WorksFor r (Begins g) j
  as_before j (inl own) = inl own
  as_before j (inr (inl of)) = inr (inl of)
  as_before j (inr (inr to)) = absurd (not_async next g.machine.steps g.machine.effect w j (no_async w quiet) to)

  -- it works for whom it worked for
  pub works_still : (n : ℕ) (s : Run) (j : IntentId) → map.get (put_run c.runs i (Some next)) n ≡ Some s → WorksFor s s.at j → IsWorkedFor c s.deadline j
  works_still n s j is works = each (λ n s. (j : IntentId) → WorksFor s s.at j → IsWorkedFor c s.deadline j) (λ n s is j works. record { number = n; run = s; live = is; works = works; due = refl })
      (λ n j works. record { number = i; run = r; live = live; works = subst (λ x. WorksFor r x j) (sym at) (as_before j works); due = refl }) n s is j works

  -- and makes no row there
  pub wanted_then : Wanted d c m → Wanted d core m
  wanted_then h = record { spares = h.spares; frees = each (λ n s. OwnsAt s s.at) h.frees (λ n. owns_none r.id r.func w g.tx quiet) }

  pub stands_elsewhere : Upkeep d core m
  stands_elsewhere = record {
    invariant = with_runs u.invariant core refl refl (runs_put d m u.invariant.plain c.book u.invariant.histories c.runs c.last_run i (Some next) (ap is_some live) knows u.invariant.runs);
    seats = u.seats;
    owe = record { each = λ n s b is begun. each (λ n s. (b : Begun) → s.at ≡ Begins b → RunOwes m s.id b) (λ n s is b. u.owe.each n s b is) (λ n b begun. subst (RunOwes m r.id) (same_begun (at_stage g w) b begun) (let o = u.owe.each i r g live at in record { told = told; put = put; closed = o.closed })) n s is b begun };
    past = u.past;
    passes = record { each = λ n s b is begun. each (λ n s. (b : Begun) → s.at ≡ Begins b → (k : ℕ) → k < b.machine.steps → MayPass m s.id k) (λ n s is b. u.passes.each n s b is) (λ n b begun. subst (λ (z : Begun). (k : ℕ) → k < z.machine.steps → MayPass m r.id k) (same_begun (at_stage g w) b begun) (u.passes.each i r g live at)) n s is b begun };
    near = record {
      soon = each (λ n s. s.deadline ≤ last_of c.now d.life) u.near.soon (λ n. u.near.soon i r live);
      near = λ n s j home is works. each (λ n s. (j : IntentId) (home : ℕ) → WorksFor s s.at j → IsNear d.life s.deadline (finish_in (map.get m (key_in home j)))) (λ n s is j home works. u.near.near n s j home is works)
          (λ n j home works. u.near.near i r j home live (subst (λ x. WorksFor r x j) (sym at) (as_before j works))) n s is j home works;
    };
    started = u.started;
  }
