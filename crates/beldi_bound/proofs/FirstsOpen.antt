-- An effect does not begin amid the call of one that nobody waits for.
use Rattle.beldi_step.specs.Run.{first_stage}
use Rattle.std.proofs.Common.{◌≡◌, ℕ, Bool, true, false, Option, Some, None, if◌then◌else◌, sym}
use Rattle.beldi_value.specs.{Id.has_callees, declared.id.IntentId.IntentId, declared.place.Caller.Caller}
use Rattle.beldi_lang.specs.declared.effect.Effect.{Effect}
use Rattle.beldi_call.specs.declared.async_call.AsyncAt.{AsyncAt}
use Rattle.beldi_step.specs.{declared.run.RunTx.RunTx, declared.run.Stage.Stage, Run.first_end, Run.first_of, Run.first_outside, Run.last_stage}

abbrev IsOpen : Option Stage → Type 0
IsOpen w = (z : AsyncAt) → w ≡ Some (Stage.Async z) → z ≡ AsyncAt.Open

of_open : (s : Stage) (e : Effect) (o : Option RunTx) → IsOpen (Some s) → IsOpen (Some (first_of s e o))
of_open s e None h = h
of_open s e (Some x) h = λ z is. cc

outside_open : (s : Option Stage) (o : Option RunTx) → IsOpen s → IsOpen (first_outside s o)
outside_open s None h = h
outside_open s (Some x) h = λ z is. cc

if_open : (b : Bool) (s : Stage) → IsOpen (Some s) → IsOpen (if b then Some s else None)
if_open true s h = h
if_open false s h = λ z is. cc

end_open : (id : IntentId) (step : ℕ) (b : Bool) (o : Option RunTx) → IsOpen (first_end id step b o)
end_open id step b None = λ z is. cc
end_open id step b (Some (RunTx.Own x)) = λ z is. cc
end_open id step b (Some (RunTx.Inherited x)) = λ z is. cc

last_open : (c : Option Caller) → IsOpen (Some (last_stage c))
last_open None = λ z is. cc
last_open (Some c) = by_wait c.waits
  where
    by_wait : (b : Bool) → IsOpen (Some (if b then Stage.Back else Stage.Notify))
    by_wait true = λ z is. cc
    by_wait false = λ z is. cc

abbrev pub FirstsAreOpen : Type 0
FirstsAreOpen = (id : IntentId) (c : Option Caller) (o : Option RunTx) (step : ℕ) (f : Effect) (z : AsyncAt) → first_stage id c o step f ≡ Some (Stage.Async z) → z ≡ AsyncAt.Open

pub firsts_open : FirstsAreOpen
firsts_open id c o step (Effect.Read t k) z is = of_open Stage.Ask (Effect.Read t k) o (λ z is. cc) z is
firsts_open id c o step (Effect.Write t k v) z is = of_open _ (Effect.Write t k v) o (λ z is. cc) z is
firsts_open id c o step (Effect.CondWrite t k r u v) z is = of_open _ (Effect.CondWrite t k r u v) o (λ z is. cc) z is
firsts_open id c o step (Effect.Lock t k) z is = outside_open _ o (λ z is. cc) z is
firsts_open id c o step (Effect.Unlock t k) z is = outside_open _ o (λ z is. cc) z is
firsts_open id c o step (Effect.Call f a) z is = if_open (has_callees id) _ (λ z is. cc) z is
firsts_open id c o step (Effect.Async f a) z is = outside_open _ o (if_open (has_callees id) (Stage.Async AsyncAt.Open) (λ z is. let same : AsyncAt.Open ≡ z = cc in sym same)) z is
firsts_open id c o step (Effect.End commit) z is = end_open id step commit o z is
firsts_open id c o step (Effect.Return x) z is = last_open c z is
firsts_open id c o step e z is = cc
