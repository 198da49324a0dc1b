-- The end of a transaction, with commit or without, and the place where it aborts.
use Rattle.beldi_executor.proofs.Names.{Actor, Bar, Bool, Cause, Comes, Deployment, Draft, Effect, Err, Gave, GoesOn, Going, Instance, IntentId, None, NotEnabled, Ok, Option, PlainState, Some, TxId, after, ap, dies_at, ends, ends_on, fallen, falls_by, false, fault_by, gives, id_exact, if◌then◌else◌, is_owner, no_end, over_at, refl, visible, sym, true, wants_answer, ℕ, ◌&&◌, ◌∙◌, ◌≡◌, Answer}
use Rattle.beldi_executor.proofs.{Finite.same_key, Touched.touched_wants, CallStacks.its_step, CallStacks.gave_seen}
use Rattle.beldi_executor.proofs.Names.map

-- ---- the owner's end

ends_wants : (c : Bool) (e : Effect) → ends c e ≡ true → wants_answer e ≡ true
ends_wants c (Effect.End b) h = refl
ends_wants c e h = cc

both : (a b : Bool) → (a && b) ≡ true → (a ≡ true) × (b ≡ true)
both true true h = (refl, refl)
both true false h = cc
both false b h = cc

module _ (d : Deployment) (t : TxId) (p : PlainState) (q : Instance) (r : PlainState) (h : Draft) (a : Actor) (x : Instance) (commit : Bool)
    (g : GoesOn d t p q r h a) (here : map.get r.made a.id ≡ Some x) where
  abbrev over : Bool
  over = is_owner h.tx a.id && ends commit a.machine.effect

  over_so : (b : Bool) → over ≡ b → over_at t commit (visible r h.undo) a.id x a.machine.effect ≡ (if b then Some (gives (visible r h.undo) a.id x Answer.Done) else None)
  over_so b is = ap (λ b. if b then Some (gives (visible r h.undo) a.id x Answer.Done) else None) (ap (λ t. is_owner t a.id && ends commit a.machine.effect) (sym g.draft.tx) ∙ is)

  pub over_wants : over ≡ true → wants_answer a.machine.effect ≡ true
  over_wants is = ends_wants commit a.machine.effect (both (is_owner h.tx a.id) (ends commit a.machine.effect) is).1

  -- it is done
  pub over_done : (s : PlainState) (b : Actor) → over ≡ true → Gave d t p q r h a Answer.Done s (Ok b) → Comes d t p q h (over_at t commit (visible r h.undo) a.id x a.machine.effect) (no_end commit) s (Ok b)
  over_done s b is gave =
      let now = gave_seen d t p q r h a Answer.Done s b gave x here in
      let owner = (both (is_owner h.tx a.id) (ends commit a.machine.effect) is).0 in (
        gave.0,
        ap (λ (g : Going). g.active) now ∙ sym (same_key id_exact t.intent a.id (ap (λ t. is_owner t a.id) (sym g.draft.tx) ∙ owner)),
        over_so true is ∙ ap (λ (g : Going). Some g.state) (sym now),
      )

  -- .. or it is none
  pub over_not : over ≡ false → (why : Bar) → why ≡ no_end commit → Comes d t p q h (over_at t commit (visible r h.undo) a.id x a.machine.effect) (no_end commit) r (Err (NotEnabled why))
  over_not is why same = (g.draft, over_so false is, same)

-- ---- the place where it aborts

none_over : (b : Bool) (x : Option PlainState) → None ≡ (if b && false then x else None)
none_over true x = refl
none_over false x = refl

-- a fault led there
pub fault_so : (t : TxId) (p : PlainState) (id : IntentId) (q : Instance) (e : Effect) → fault_by t p id q None e ≡ over_at t false p id q e
fault_so t p id q (Effect.End b) = refl
fault_so t p id q e = none_over (is_owner t id) (Some (gives p id q Answer.Done))

pub dies_wants : (h : Option IntentId) (e : Effect) → dies_at h e ≡ true → wants_answer e ≡ true
dies_wants None Effect.Abort c = refl
dies_wants None e c = cc
dies_wants (Some h) e c = touched_wants e c

-- nothing is aborted there
pub not_dead : (go : Going → Option PlainState) (t : TxId) (p : PlainState) (id : IntentId) (q : Instance) (h : Option IntentId) (e : Effect) → dies_at h e ≡ false → falls_by go t p id q h e ≡ fault_by t p id q h e
not_dead go t p id q h e lives = ap (λ b. if b then go (fallen p id q h) else fault_by t p id q h e) lives

-- .. or it is, and the transaction goes on
pub is_dead : (d : Deployment) (t : TxId) (p : PlainState) (q : Instance) (r : PlainState) (h : Draft) (a : Actor) (x : Instance) (hold : Option IntentId) (cause : Cause) (left : ℕ)
    → GoesOn d t p q r h a → map.get r.made a.id ≡ Some x → dies_at hold a.machine.effect ≡ true → cause ≡ record { place = record { intent = a.id; step = a.machine.steps }; holder = hold }
    → falls_by (ends_on d left t false) t (visible r h.undo) a.id x hold a.machine.effect ≡ ends_on d left t false (after r h a x (Answer.Aborted cause))
is_dead d t p q r h a x hold cause left g here dies is =
    ap (λ b. if b then ends_on d left t false (fallen (visible r h.undo) a.id x hold) else fault_by t (visible r h.undo) a.id x hold a.machine.effect) dies
    ∙ ap (λ c. ends_on d left t false (after r h a x (Answer.Aborted c))) ((λ i. record { place = record { intent = a.id; step = sym (its_step d r a g.acts x here) i }; holder = hold }) ∙ sym is)
