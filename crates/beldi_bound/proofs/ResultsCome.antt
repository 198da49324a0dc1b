-- Calls get results: their functions stay, and a call that gets a result has its callee's row by then, as the run that gives it back has it.
use Rattle.std.specs.Prelude.{Result}
use Rattle.std.specs.declared.alloc.AllocError.{AllocError}
use Rattle.std.proofs.Common.{◌≡◌, ℕ, true, false, Some, None, is_some, refl, sym, ap, subst, ◌∙◌}
use Rattle.std.specs.FinMap as map
use Rattle.beldi_value.specs.{Id.child_of, declared.id.IntentId.IntentId}
use Rattle.beldi_tree.specs.declared.deployment.Deployment.{Deployment}
use Rattle.beldi_row.specs.{Key.RowKey, Table.Rows, declared.row.InvokeRow.InvokeRow}
use Rattle.beldi_invokelog.specs.InvokeLog.{CallGoesOn, call_at, invoke_key}
use Rattle.beldi_step.specs.{HostStep.Core, HostStep.EventOn, Run.place_of, declared.event.Event.Event, declared.event.EventReply.EventReply}
use Rattle.beldi_histories.specs.Stands.{key_in}
use Rattle.beldi_histories.proofs.Cases.{by_option}
use Rattle.beldi_invariant.specs.Invariant.{Invariant}

pub record ResultsCome (m n : Rows) : Type 0 where
  pub keys : (k : RowKey) → is_some (map.get m k) ≡ true → is_some (map.get n k) ≡ true
  pub calls : (k : RowKey) → CallGoesOn (map.get m k) (map.get n k)
  -- a call that had none has its callee's row where it has one
  pub come : (f : ℕ) (i : IntentId) (s : ℕ) (y x : InvokeRow) → call_at m (invoke_key f (place_of i s)) ≡ Some y → y.result ≡ None → call_at n (invoke_key f (place_of i s)) ≡ Some x → is_some x.result ≡ true → is_some (map.get n (key_in y.func (child_of i s))) ≡ true

-- so it is of each event
abbrev pub EventsBringResults : Type 0
EventsBringResults = (d : Deployment) (room old new : ℕ) (e : Event) (c b : Core) (m n : Rows) (r : Result EventReply AllocError) → Invariant d c m → EventOn d room old new e c m b n r → ResultsCome m n

-- .. and of events, one after another
pub results_same : (m : Rows) → ResultsCome m m
results_same m = record {
  keys = λ k there. there;
  calls = λ k i is. (i, is, record { func = refl; result = λ o is. is; registered = λ is. is });
  come = λ f i s y x at none at2 some. absurd (apart y x (same (sym at ∙ at2)) none some);
}
  where
    same : {y x : InvokeRow} → Some y ≡ Some x → y ≡ x
    same h = cc

    apart : (y x : InvokeRow) → y ≡ x → y.result ≡ None → is_some x.result ≡ true → ⊥
    apart y x is none some = let clash : false ≡ true = sym (ap is_some none) ∙ ap (λ (z : InvokeRow). is_some z.result) is ∙ some in cc

pub results_then : {m n o : Rows} → ResultsCome m n → ResultsCome n o → ResultsCome m o
results_then {m} {n} {o} p q = record {
  keys = λ k there. q.keys k (p.keys k there);
  calls = λ k i is. let j = p.calls k i is in let l = q.calls k j.0 j.1 in (l.0, l.1, record { func = l.2.func ∙ j.2.func; result = λ u has. l.2.result u (j.2.result u has); registered = λ has. l.2.registered (j.2.registered has) });
  come = λ f i s y x at none at2 some. by_middle f i s y x at none at2 some;
}
  where
    by_middle : (f : ℕ) (i : IntentId) (s : ℕ) (y x : InvokeRow) → call_at m (invoke_key f (place_of i s)) ≡ Some y → y.result ≡ None → call_at o (invoke_key f (place_of i s)) ≡ Some x → is_some x.result ≡ true → is_some (map.get o (key_in y.func (child_of i s))) ≡ true
    by_middle f i s y x at none at2 some =
        let w = p.calls (invoke_key f (place_of i s)) y at in
        by_option w.0.result
        (λ bare. subst (λ g. is_some (map.get o (key_in g (child_of i s))) ≡ true) w.2.func (q.come f i s w.0 x w.1 bare at2 some))
        (λ u has. q.keys (key_in y.func (child_of i s)) (p.come f i s y w.0 at none w.1 (ap is_some has)))
