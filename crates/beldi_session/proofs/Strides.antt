-- Turns of a run that walks forward, many at once, as events of a settling.
use Rattle.std.specs.Prelude.{IfSome, nat_le, not}
use Rattle.std.proofs.lemmas.Bool.Decides.{nat_tests}
use Rattle.std.proofs.Common.{◌≤◌}
use Rattle.beldi_step.{proofs.StepRuns.either, specs.HostStep.put_run, specs.declared.run.Run.Run}
use Rattle.beldi_host.specs.HostStride.{Strides, just_acted}
use Rattle.beldi_bound.proofs.Nexts.{next_put}
use Rattle.beldi_schedule.specs.{Settle.by_round, Settle.is_empty, Settle.restless, Settle.strode, Settle.turn_or, Settle.unparked, Settle.core_for, Settle.event_of, Settle.on_reply_of, Settles.Advances, Settles.Settles, declared.machine.Settled.TheVariants.Unsettled}
use Rattle.beldi_session.specs.Settling.{Led, state_with}
use Rattle.beldi_session.{proofs.SessionCalls.does_so, proofs.SessionCalls.made, proofs.Led.settles_once, proofs.Led.settles_then, proofs.SettleEvents.calm, proofs.Went.by_one, proofs.Went.by_then, proofs.Went.fine}
use Rattle.beldi_session.proofs.Names.{Answered, At, Bool, Core, Deployment, DoesTo, Event, EventOn, Working, List, Next, None, Ok, Option, Over, ReplyAlone, Reset, Rows, Settle, SettlingLeaves, Sight, Some, Standing, State, TableState, Tells, Observed, Turn, WentBy, [], ap, append-nil, arith, false, go_on, if◌then◌else◌, next_of, next_run, refl, subst, suc, sym, zero, ℕ, ◌&&◌, ◌+◌, ◌<◌, ◌∙◌, ◌∷◌, ◌≡◌}

-- ---- where a run is given a turn next
abbrev Gives : Core → At → ℕ → Type 0
Gives c at i = (at.round ≡ None) × (next_run c at.past ≡ Some i)

same_at : {a b : At} {i j : ℕ} → Turn a i ≡ Turn b j → a ≡ b
same_at h = cc

same_run : {a b : At} {i j : ℕ} → Turn a i ≡ Turn b j → i ≡ j
same_run h = cc

gives_or : (c : Core) (s at : At) (i : ℕ) (n : Next) (o : Option ℕ) → next_run c s.past ≡ o → s.round ≡ None → (n ≡ Turn at i → Gives c at i) → turn_or s n o ≡ Turn at i → Gives c at i
gives_or c s at i n None is round otherwise h = otherwise h
gives_or c s at i n (Some j) is round otherwise h = subst (λ a. Gives c a i) (same_at h) (round, is ∙ ap Some (same_run h))

gives : (c : Core) (s at : At) (i : ℕ) → next_of c s ≡ Turn at i → Gives c at i
gives c s at i = by_round_of s.round refl
  where
    no_turn : {n : Next} → n ≡ Reset s → n ≡ Turn at i → ⊥
    no_turn is h = let clash = sym is ∙ h in cc

    by_round_of : (o : Option Bool) → s.round ≡ o → by_round c s o ≡ Turn at i → Gives c at i
    by_round_of (Some b) is h = cc
    by_round_of None is h = gives_or c s at i (restless c s) (next_run c s.past) refl is
        (either (λ n. n ≡ Turn at i → Gives c at i) (s.moved && not (is_empty s.waiting)) _ _ (λ t. gives_or c (unparked s) at i (Reset s) (next_run c 0) refl is (λ k. absurd (no_turn refl k))) (λ t k. absurd (no_turn refl k))) h

-- .. and so it is after it was given some
gives_again : (c b : Core) (at : At) (i n : ℕ) (r : Run) → b.runs ≡ put_run c.runs i (Some r) → Gives c at i → next_of b (strode at n) ≡ Turn (strode at n) i
gives_again c b at i n r runs h = ap (by_round b (strode at n)) h.0 ∙ ap (turn_or (strode at n) (restless b (strode at n))) (next_put c b at.past i r runs h.1)

-- ---- one turn after another
module _ (d : Deployment) (room faults budget i : ℕ) (m : Rows) (R : Standing → Core → Standing → Core → Type 0)
    (once : (s at : At) (c b : Core) → next_of c s ≡ Turn at i → EventOn d room faults faults (Event.Turn i) c m b m (Ok just_acted) → R (Working s) c (go_on budget (strode at 1)) b)
    (join : (x y z : Standing) (c b e : Core) → R x c y b → R y b z e → R x c z e) where
  goes_on : (s : At) → s.turns < budget → go_on budget s ≡ Working s
  goes_on s less = ap (λ b. if b then Over (Unsettled s.turns) else Working s) (not_yet budget s.turns less)
    where
      not_yet : (n k : ℕ) → k < n → nat_le n k ≡ false
      not_yet n k l = grind (arith, nat_tests)

  one_by_one : (n : ℕ) (s at : At) (c z : Core) → at.turns + suc n ≤ budget → next_of c s ≡ Turn at i → Strides d room faults i (suc n) c z m → R (Working s) c (go_on budget (strode at (suc n))) z
  one_by_one zero s at c z fits is h = subst (R (Working s) c (go_on budget (strode at 1))) (sym h.2) (once s at c h.0 is h.1.event)
  one_by_one (suc n) s at c z fits is h =
      let then_at = strode at 1 in
      let again = gives_again c h.0 at i 1 h.1.run h.1.runs (gives c s at i is) in
      join (Working s) (go_on budget then_at) (go_on budget (strode at (suc (suc n)))) c h.0 z (once s at c h.0 is h.1.event)
      (subst (λ x. R x h.0 (go_on budget (strode at (suc (suc n)))) z) (sym (goes_on then_at (omega (arith, fits))))
      (subst (λ t. R (Working then_at) h.0 (go_on budget (record then_at { turns = t })) z) {x = at.turns + 1 + suc n} (omega arith) (one_by_one n then_at then_at h.0 z (omega (arith, fits)) again h.2)))

  pub all_of : (n : ℕ) (s at : At) (c z : Core) → 0 < n → at.turns + n ≤ budget → next_of c s ≡ Turn at i → Strides d room faults i n c z m → R (Working s) c (go_on budget (strode at n)) z
  all_of zero s at c z some fits is h = absurd (omega (arith, some))
  all_of (suc n) s at c z some fits is h = one_by_one n s at c z fits is h

-- ---- as the events of a settling, and as what it does
module _ (d : Deployment) (budget i : ℕ) (m : Rows) (t : TableState) (s at : At) (c b : Core) (is : next_of c s ≡ Turn at i) (e : EventOn d t.room t.faults t.faults (Event.Turn i) c m b m (Ok just_acted)) where
  turn_advances : Advances d t.room budget s (state_with c t m) (state_with b t m) (go_on budget (strode at 1))
  turn_advances = record {
    answer = just_acted;
    event = subst (λ n. EventOn d t.room t.faults t.faults (event_of n) (core_for n c) m b m (Ok just_acted)) (sym is) e;
    later = omega arith;
    next = ap (λ n. on_reply_of budget b n just_acted) (sym is);
  }

  turn_goes : (p : List ℕ) → WentBy d t.room (Settle budget (Working s) ∷ []) (Settle budget (go_on budget (strode at 1)) ∷ []) (state_with c t m) (state_with b t m) p [] p (fine {X = Unit {0}} tt)
  turn_goes p =
      let left = Settle budget (go_on budget (strode at 1)) ∷ [] in
      by_one d t.room (Settle budget (Working s)) left left (Answered ReplyAlone (Event.Turn i) just_acted) (state_with c t m) (state_with b t m) p p (fine {X = Unit {0}} tt)
      (subst (λ n. SettlingLeaves budget b n (Answered ReplyAlone (Event.Turn i) just_acted) left) (sym is) (refl, refl)) (e, omega arith) (refl, sym (append-nil p))

module _ (budget i n : ℕ) (s at : At) (some : 0 < n) (fits : at.turns + n ≤ budget) where
  abbrev then_goes : Standing
  then_goes = go_on budget (strode at n)

  abbrev Done : Sight → State → State → List ℕ → Type 0
  Done a p q w = WentBy a.code a.table.room (Settle budget (Working s) ∷ []) (Settle budget then_goes ∷ []) p q a.waiting [] w (fine {X = Unit {0}} tt)

  pub strides_led : (d : Deployment) (c z : Core) (old new : TableState) → new ≡ old → next_of c s ≡ Turn at i → IfSome old.rows (Strides d old.room old.faults i n c z) → Led d budget (Working s) then_goes c z old new
  strides_led d c z old new table is h = subst (Led d budget (Working s) then_goes c z old) (sym table) (by_rows old.rows h)
    where
      by_rows : (o : Option Rows) → IfSome o (Strides d old.room old.faults i n c z) → Tells o o (λ p q. Settles d old.room budget (Working s) (state_with c old p) then_goes (state_with z old q))
      by_rows None h = refl
      by_rows (Some m) h = all_of d old.room old.faults budget i m (λ x k y l. Settles d old.room budget x (state_with k old m) y (state_with l old m))
          (λ a b k l is e. settles_once (turn_advances d budget i m old a b k l is e)) (λ x y z k l e. settles_then) n s at c z some fits is h

  pub strides_do : (a b : Sight) → b.held ≡ a.held → b.faults ≡ a.faults → b.code ≡ a.code → b.table ≡ a.table → b.waiting ≡ a.waiting → next_of a.core s ≡ Turn at i → IfSome a.table.rows (Strides a.code a.table.room a.table.faults i n a.core b.core)
      → DoesTo (Settle budget (Working s) ∷ []) (Settle budget then_goes ∷ []) a b (Ok then_goes)
  strides_do a b held faults code table waiting is h = does_so then_goes (made (Settle budget (Working s) ∷ []) (Settle budget then_goes ∷ []) a b (fine {X = Unit {0}} tt) (calm budget a b held faults code table waiting s at) (λ e. cc)
      (subst (λ t. Observed a.table.rows t.rows (λ p q. Done a (record { core = a.core; rows = p; faults = a.table.faults }) (record { core = b.core; rows = q; faults = t.faults }) b.waiting)) (sym table)
      (subst (λ w. Observed a.table.rows a.table.rows (λ p q. Done a (state_with a.core a.table p) (state_with b.core a.table q) w)) (sym waiting) (by_rows a.table.rows h))))
    where
      by_rows : (o : Option Rows) → IfSome o (Strides a.code a.table.room a.table.faults i n a.core b.core) → Observed o o (λ p q. Done a (state_with a.core a.table p) (state_with b.core a.table q) a.waiting)
      by_rows None h = tt {0}
      by_rows (Some m) h =
          let at_core = λ (k : Core). state_with k a.table m in
          all_of a.code a.table.room a.table.faults budget i m (λ x k y l. WentBy a.code a.table.room (Settle budget x ∷ []) (Settle budget y ∷ []) (at_core k) (at_core l) a.waiting [] a.waiting (fine {X = Unit {0}} tt))
          (λ p q k l is e. turn_goes a.code budget i m a.table p q k l is e a.waiting)
          (λ x y z k l e first rest. by_then a.code a.table.room (Settle budget x ∷ []) (Settle budget y ∷ []) (Settle budget z ∷ []) (at_core k) (at_core l) (at_core e) a.waiting [] a.waiting [] a.waiting (tt {0}) (fine {X = Unit {0}} tt) first rest) n s at a.core b.core some fits is h
