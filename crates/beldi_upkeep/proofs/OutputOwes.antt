-- What a run owes once its turn is made, by what its stage says.
use Rattle.beldi_invariant.proofs.Names.{AsyncAt, Begins, Begun, CallAt, Caller, Deployment, Effect, IntentId, Histories, Knows, Machine, Mark, None, Option, Rows, Run, RunTx, StageOutput, Some, Stage, StandsAt, TxId, local_steps_of, at_stage, ap, arith, child_of, first_stage, goes_from, goes_to, refl, same_some, subst, sym, takes, turned_by, ℕ, ◌∙◌, ◌≡◌}
use Rattle.beldi_upkeep.specs.Callees.{AllFinished, HasPut, HasTold, IsPassed, RunOwes}

pub begins_same : (g k : Begun) → Begins g ≡ Begins k → g ≡ k
begins_same g k h = cc

pub no_run : (k : Run) → None ≡ Some k → ⊥
no_run k e = cc

-- ---- the first stage of an effect: nothing is owed there
first_close : (id : IntentId) (c : Option Caller) (o : Option RunTx) (step : ℕ) (e : Effect) → first_stage id c o step e ≡ Some Stage.Close → c ≡ None
first_close id c o step e is = grind arith

first_note : (id : IntentId) (c : Option Caller) (o : Option RunTx) (step : ℕ) (e : Effect) → first_stage id c o step e ≡ Some (Stage.Async AsyncAt.Note) → ⊥
first_note id c o step e is = grind arith

told_first : (w : Stage) (c : Option Caller) (n : Rows) → (w ≡ Stage.Close → c ≡ None) → HasTold w c n
told_first Stage.Close None n h = tt
told_first Stage.Close (Some b) n h = let clash = h refl in cc
told_first w c n h = tt

put_first : (w : Stage) (f : Effect) (j : IntentId) (n : Rows) → (w ≡ Stage.Async AsyncAt.Note → ⊥) → HasPut w f j n
put_first (Stage.Async AsyncAt.Note) f j n h = absurd (h refl)
put_first (Stage.Async AsyncAt.Open) f j n h = tt
put_first (Stage.Async AsyncAt.Register) f j n h = tt
put_first w f j n h = tt

first_told : (id : IntentId) (c : Option Caller) (o : Option RunTx) (step : ℕ) (e : Effect) (w : Stage) (n : Rows) → first_stage id c o step e ≡ Some w → HasTold w c n
first_told id c o step e w n is = told_first w c n (λ z. first_close id c o step e (is ∙ ap Some z))

first_put : (id : IntentId) (c : Option Caller) (o : Option RunTx) (step : ℕ) (e : Effect) (w : Stage) (f : Effect) (j : IntentId) (n : Rows) → first_stage id c o step e ≡ Some w → HasPut w f j n
first_put id c o step e w f j n is = put_first w f j n (λ z. first_note id c o step e (is ∙ ap Some z))

module _ (d : Deployment) (histories : Histories) (n : Rows) (r : Run) where
  -- ---- what a run is past that goes on from this machine
  abbrev pub PastClosed : Machine × Option RunTx → Option Caller → Type 0
  PastClosed s c = let z = local_steps_of d r.id s in StandsAt d histories r.id r.func c z.0 z.1 → (t : TxId) → IsPassed r.id z.0.steps z.1 t → AllFinished n t

  -- .. by what its stage says
  abbrev pub OutputOwe : Begun → StageOutput → Type 0
  OutputOwe g (StageOutput.On w b) = HasTold w g.caller n × HasPut w g.machine.effect (child_of r.id g.machine.steps) n
  OutputOwe g (StageOutput.Answers a b) = PastClosed (takes d g.machine g.tx a) g.caller
  OutputOwe g (StageOutput.Starts a) = PastClosed (takes d g.machine g.tx a) g.caller
  OutputOwe g s = Unit {0}

  -- ---- where it goes
  abbrev pub Owes : Option Run → Type 0
  Owes next = (k : Run) (g : Begun) → next ≡ Some k → k.at ≡ Begins g → Knows d histories k g → RunOwes n k.id g

  at_begun : (g : Begun) → (StandsAt d histories r.id r.func g.caller g.machine g.tx → RunOwes n r.id g) → Owes (Some (record r { at = Begins g }))
  at_begun g owes k z is at =
      let one : record r { at = Begins g } ≡ k = same_some is in
      subst (λ (y : Begun). Knows d histories k y → RunOwes n k.id y) (begins_same g z (ap (λ (y : Run). y.at) one ∙ at)) (subst (λ (y : Run). Knows d histories y g → RunOwes n y.id g) one owes)

  pub goes_owes : (s : Machine × Option RunTx) (c : Option Caller) (b : Option Mark) → PastClosed s c → Owes (goes_to d r s c b).next
  goes_owes s c b closed = by_stage (first_stage r.id c (local_steps_of d r.id s).1 (local_steps_of d r.id s).0.steps (local_steps_of d r.id s).0.effect) refl
    where
      by_stage : (w : Option Stage) → first_stage r.id c (local_steps_of d r.id s).1 (local_steps_of d r.id s).0.steps (local_steps_of d r.id s).0.effect ≡ w → Owes (goes_from r (local_steps_of d r.id s) c b w).next
      by_stage None is = λ k g e at stands. absurd (no_run k e)
      by_stage (Some w) is = at_begun (record { machine = (local_steps_of d r.id s).0; caller = c; tx = (local_steps_of d r.id s).1; stage = w }) (λ stands. record {
        told = first_told r.id c (local_steps_of d r.id s).1 (local_steps_of d r.id s).0.steps (local_steps_of d r.id s).0.effect w n is;
        put = first_put r.id c (local_steps_of d r.id s).1 (local_steps_of d r.id s).0.steps (local_steps_of d r.id s).0.effect w (local_steps_of d r.id s).0.effect (child_of r.id (local_steps_of d r.id s).0.steps) n is;
        closed = closed stands;
      })

  module _ (g : Begun) (at : r.at ≡ Begins g) (owes : RunOwes n r.id g) where
    pub output_owe : (s : StageOutput) → OutputOwe g s → Owes (turned_by d r g s).next
    output_owe (StageOutput.On w b) h = at_begun (at_stage g w) (λ stands. record { told = h.0; put = h.1; closed = owes.closed })
    output_owe StageOutput.Stays h = at_begun g (λ stands. owes)
    output_owe (StageOutput.Opens b) h = at_begun (at_stage g (Stage.Call CallAt.Look)) (λ stands. record { told = tt; put = tt; closed = owes.closed })
    output_owe (StageOutput.Waits w) h = λ k z is at_z stands.
        let one : r ≡ k = same_some is in
        subst (λ (y : Begun). RunOwes n k.id y) (begins_same g z (sym at ∙ ap (λ (y : Run). y.at) one ∙ at_z)) (subst (λ (y : Run). RunOwes n y.id g) one owes)
    output_owe (StageOutput.Starts a) h = goes_owes (takes d g.machine g.tx a) g.caller None h
    output_owe (StageOutput.Answers a b) h = goes_owes (takes d g.machine g.tx a) g.caller b h
    output_owe (StageOutput.Ends b o) h = λ k z is at_z stands. absurd (no_run k is)
