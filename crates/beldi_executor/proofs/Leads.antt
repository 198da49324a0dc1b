-- Move after move: what is to come of a transaction is the same before and after them.
use Rattle.std.specs.Prelude.{Ok}
use Rattle.beldi_plain.specs.Transaction.{enough}
use Rattle.beldi_executor.proofs.Names.{Actor, Bool, Deployment, Draft, Effect, GoesOn, Going, Instance, IntentId, Led, Moved, None, Option, Place, PlainState, Some, Turned, TxId, Went, ap, arith, at_instance, can_move, child_of, effect_of, ends_by, ends_on, falls_by, false, gives, going, has_callees, id_cmp, if◌then◌else◌, inl, inr, is_eq, is_owner, is_some, is_stop, length, ltb-true, most, moves_by, not, option_and_then, over_at, refl, returns_to, visible, stands_at, suc, sym, true, abort_on, unless, with_member, zero, ℕ, ◌&&◌, ◌*◌, ◌+◌, ◌<◌, ◌==◌, ◌^◌, ◌∙◌, ◌≡◌, ◌≤◌, ◌⊎◌, Answer}
use Rattle.beldi_executor.proofs.CallStacks.{its_effect, its_step}
use Rattle.beldi_executor.proofs.Names.map

-- ---- one step of the definition

-- at a move
ends_moved : (go : Going → Option PlainState) (t : TxId) (c : Bool) (p : PlainState) (id : IntentId) (q : Instance) (e : Effect) (g : Going) → moves_by t p id q e ≡ Some g → ends_by go t c p id q e ≡ go g
ends_moved go t c p id q (Effect.End b) g h = cc
ends_moved go t c p id q e g h = ap (option_and_then go) h

nothing : (b : Bool) (x : Option PlainState) → (if b && false then x else None) ≡ None
nothing true x = refl
nothing false x = refl

-- .. and where none is left
ends_stuck : (go : Going → Option PlainState) (t : TxId) (c : Bool) (p : PlainState) (id : IntentId) (q : Instance) (e : Effect) → moves_by t p id q e ≡ None → ends_by go t c p id q e ≡ over_at t c p id q e
ends_stuck go t c p id q (Effect.End b) h = refl
ends_stuck go t c p id q e h = ap (option_and_then go) h ∙ sym (nothing (is_owner t id) (Some (gives p id q Answer.Done)))

no_move : (t : TxId) (p : PlainState) (id : IntentId) (q : Instance) (n : ℕ) (e : Effect) → n ≡ length q.answers → can_move t p.made id n e ≡ false → moves_by t p id q e ≡ None
no_move t p id q n (Effect.Read b k) s h = cc
no_move t p id q n (Effect.Write b k v) s h = cc
no_move t p id q n (Effect.CondWrite b k r o v) s h = cc
no_move t p id q n (Effect.Call f v) s h =
    ap (λ n. if has_callees id then unless (is_some (map.get p.made (child_of id n))) (Some (with_member t p id q f v)) else None) (sym s)
    ∙ neither (has_callees id) (is_some (map.get p.made (child_of id n))) h
  where
    neither : (a b : Bool) → (a && not b) ≡ false → (if a then unless b (Some (with_member t p id q f v)) else None) ≡ None
    neither true true h = refl
    neither true false h = cc
    neither false b h = refl
no_move t p id q n (Effect.Return o) s h = owner (is_owner t id) h
  where
    owner : (b : Bool) → not b ≡ false → (if b then None else returns_to p id q o q.parent) ≡ None
    owner true h = refl
    owner false h = cc
no_move t p id q n e s h = refl

-- ---- after a move

big : 4 * most ≤ enough
unfolding enough
big = le (ltb-true (4 * most) (30002 ^ 64) refl)
  where
    le : 4 * most < 30002 ^ 64 → 4 * most ≤ 30002 ^ 64
    le h = omega (arith, h)

module _ (d : Deployment) (t : TxId) (stop : Option Place) (g : Going) (start : ℕ) (r s : PlainState) (h k : Draft) (a b : Actor) (x : Instance)
    (here : map.get r.made a.id ≡ Some x)
    (wants : effect_of d x ≡ a.machine.effect)
    (step : a.machine.steps ≡ length x.answers) where
  -- the definition, from here
  ends_here : (l : ℕ) (c : Bool) → ends_on d (suc l) t c (going r h a) ≡ ends_by (ends_on d l t c) t c (visible r h.undo) a.id x a.machine.effect
  ends_here l c =
      ap (λ o. at_instance o (λ y. ends_by (ends_on d l t c) t c (visible r h.undo) a.id y (effect_of d y))) here
      ∙ ap (ends_by (ends_on d l t c) t c (visible r h.undo) a.id x) wants

  stops_so : (at : Place) → stop ≡ Some at → stands_at at a.id x ≡ is_stop stop a
  stops_so at is = ap (λ n. is_eq (id_cmp at.intent a.id) && (at.step == n)) (sym step) ∙ ap (λ o. is_stop o a) (sym is)

  abort_here : (l : ℕ) (at : Place) (hold : Option IntentId) → stop ≡ Some at → abort_on d (suc l) t at hold (going r h a) ≡ (if is_stop stop a then falls_by (ends_on d l t false) t (visible r h.undo) a.id x hold a.machine.effect else option_and_then (abort_on d l t at hold) (moves_by t (visible r h.undo) a.id x a.machine.effect))
  abort_here l at hold is =
      ap (λ o. at_instance o (λ y. if stands_at at a.id y then falls_by (ends_on d l t false) t (visible r h.undo) a.id y hold (effect_of d y) else option_and_then (abort_on d l t at hold) (moves_by t (visible r h.undo) a.id y (effect_of d y)))) here
      ∙ ap (λ e. if stands_at at a.id x then falls_by (ends_on d l t false) t (visible r h.undo) a.id x hold e else option_and_then (abort_on d l t at hold) (moves_by t (visible r h.undo) a.id x e)) wants
      ∙ ap (λ b. if b then falls_by (ends_on d l t false) t (visible r h.undo) a.id x hold a.machine.effect else option_and_then (abort_on d l t at hold) (moves_by t (visible r h.undo) a.id x a.machine.effect)) (stops_so at is)

  pub led_on : (l : ℕ) → is_stop stop a ≡ false → moves_by t (visible r h.undo) a.id x a.machine.effect ≡ Some (going s k b) → Led d t stop g start (going r h a) (suc l) → Led d t stop g start (going s k b) l
  led_on l goes moves led = record {
    commit = λ none c. led.commit none c ∙ ends_here l c ∙ ends_moved (ends_on d l t c) t c (visible r h.undo) a.id x a.machine.effect (going s k b) moves;
    abort = λ at hold is.
        led.abort at hold is ∙ abort_here l at hold is
        ∙ ap (λ b. if b then falls_by (ends_on d l t false) t (visible r h.undo) a.id x hold a.machine.effect else option_and_then (abort_on d l t at hold) (moves_by t (visible r h.undo) a.id x a.machine.effect)) goes
        ∙ ap (option_and_then (abort_on d l t at hold)) moves;
  }

module _ (d : Deployment) (t : TxId) (p : PlainState) (q : Instance) (stop : Option Place) (g : Going) (start : ℕ) (r : PlainState) (h : Draft) (a : Actor) where
  -- nothing moved yet
  pub first_turn : GoesOn d t p q r h a → Turned d t p q stop (going r h a) start r h a 0
  first_turn goes = record { goes = goes; left = start; fuel = omega arith; led = record { commit = λ none c. refl; abort = λ at hold is. refl } }

  pub turned : (s : PlainState) (k : Draft) (b : Actor) (turns : ℕ) → most ≤ start → turns < most → (u : Turned d t p q stop g start r h a turns) → is_stop stop a ≡ false → Moved d t p q r h a s k (Ok b) → Turned d t p q stop g start s k b (turns + 1)
  turned s k b turns enough_too few u goes moved = by_fuel u.left u.fuel u.led
    where
      by_fuel : (l : ℕ) → l + turns ≡ start → Led d t stop g start (going r h a) l → Turned d t p q stop g start s k b (turns + 1)
      by_fuel zero fuel led = absurd (omega (arith, fuel, few, enough_too))
      by_fuel (suc l) fuel led =
          let x = u.goes.acts.instance in
          let here = u.goes.acts.made in record {
            goes = moved.0;
            left = l;
            fuel = omega (arith, fuel);
            led = led_on d t stop g start r s h k a b x here (its_effect d r a u.goes.acts x here) (its_step d r a u.goes.acts x here) l goes (moved.1 x here) led;
          }

  -- where it halts
  pub halted : (turns : ℕ) → most ≤ start → turns < most → Turned d t p q stop g start r h a turns → (is_stop stop a ≡ true) ⊎ (can_move t r.made a.id a.machine.steps a.machine.effect ≡ false) → Went d t p q stop g start r h a
  halted turns enough_too few u halts = by_fuel u.left u.fuel u.led
    where
      by_fuel : (l : ℕ) → l + turns ≡ start → Led d t stop g start (going r h a) l → Went d t p q stop g start r h a
      by_fuel zero fuel led = absurd (omega (arith, fuel, few, enough_too))
      by_fuel (suc l) fuel led = record { goes = u.goes; left = l; fuel = omega (arith, fuel, few); led = led; halts = halts }

-- ---- what it came to

module _ (d : Deployment) (t : TxId) (p : PlainState) (q : Instance) (g : Going) (start : ℕ) (r : PlainState) (h : Draft) (a : Actor) (x : Instance) (here : map.get r.made a.id ≡ Some x) where
  stuck : (stop : Option Place) (w : Went d t p q stop g start r h a) → is_stop stop a ≡ false → moves_by t (visible r h.undo) a.id x a.machine.effect ≡ None
  stuck stop w goes = by_halts w.halts
    where
      by_halts : (is_stop stop a ≡ true) ⊎ (can_move t r.made a.id a.machine.steps a.machine.effect ≡ false) → moves_by t (visible r h.undo) a.id x a.machine.effect ≡ None
      by_halts (inl at) = let clash = sym goes ∙ at in cc
      by_halts (inr none) = no_move t (visible r h.undo) a.id x a.machine.steps a.machine.effect (its_step d r a w.goes.acts x here) none

  -- up to the owner's end
  pub ends_so : (c : Bool) → Went d t p q None g start r h a → ends_on d start t c g ≡ over_at t c (visible r h.undo) a.id x a.machine.effect
  ends_so c w =
      w.led.commit refl c
      ∙ ends_here d t None g start r r h h a a x here (its_effect d r a w.goes.acts x here) (its_step d r a w.goes.acts x here) w.left c
      ∙ ends_stuck (ends_on d w.left t c) t c (visible r h.undo) a.id x a.machine.effect (stuck None w refl)

  module _ (at : Place) (hold : Option IntentId) (w : Went d t p q (Some at) g start r h a) where
    its_abort : abort_on d start t at hold g ≡ (if is_stop (Some at) a then falls_by (ends_on d w.left t false) t (visible r h.undo) a.id x hold a.machine.effect else option_and_then (abort_on d w.left t at hold) (moves_by t (visible r h.undo) a.id x a.machine.effect))
    its_abort = w.led.abort at hold refl ∙ abort_here d t (Some at) g start r r h h a a x here (its_effect d r a w.goes.acts x here) (its_step d r a w.goes.acts x here) w.left at hold refl

    -- up to its place
    pub falls_so : is_stop (Some at) a ≡ true → abort_on d start t at hold g ≡ falls_by (ends_on d w.left t false) t (visible r h.undo) a.id x hold a.machine.effect
    falls_so stops = its_abort ∙ ap (λ b. if b then falls_by (ends_on d w.left t false) t (visible r h.undo) a.id x hold a.machine.effect else option_and_then (abort_on d w.left t at hold) (moves_by t (visible r h.undo) a.id x a.machine.effect)) stops

    -- .. or it does not come there
    pub no_place : is_stop (Some at) a ≡ false → abort_on d start t at hold g ≡ None
    no_place goes =
        its_abort
        ∙ ap (λ b. if b then falls_by (ends_on d w.left t false) t (visible r h.undo) a.id x hold a.machine.effect else option_and_then (abort_on d w.left t at hold) (moves_by t (visible r h.undo) a.id x a.machine.effect)) goes
        ∙ ap (option_and_then (abort_on d w.left t at hold)) (stuck (Some at) w goes)

-- from the place on there is as much left as is taken
pub left_enough : (l : ℕ) → enough ≤ l + most → most ≤ l
left_enough l h = omega (arith, h, big)

pub enough_first : most ≤ enough
enough_first = omega (arith, big)
