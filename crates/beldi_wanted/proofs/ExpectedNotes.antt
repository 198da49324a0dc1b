-- Whose note an item lacks: the instance that has a history has not got past it, so it has no outcome.
use Rattle.std.proofs.Common.{◌≡◌, ℕ, true, List, [], ◌∷◌, ◌++◌, length, take, slice_get, Option, None, Some, is_some, option_and_then, refl, ap, sym, ◌∙◌, append_assoc, append-nil}
use Rattle.std.specs.FinMap as map
use Rattle.beldi_value.specs.declared.{id.IntentId.IntentId, outcome.Outcome.Outcome, place.Place.Place, place.TxId.TxId}
use Rattle.beldi_tree.specs.declared.deployment.Deployment.{Deployment}
use Rattle.beldi_lang.specs.declared.{effect.Answer.Answer, effect.Effect.Effect}
use Rattle.beldi_plain.specs.{Item.Item, Plain.Instance, Plain.effect_of}
use Rattle.beldi_plain_laws.{proofs.Called.get_after, proofs.Maps.same_some, specs.Txs.effect_after, specs.Txs.tx_after, specs.Txs.tx_now}
use Rattle.beldi_row.specs.{Log.note_at, Table.Rows, declared.row.Body.Body}
use Rattle.beldi_step.specs.{HostStep.Core, Noted.noted_answer, Run.place_of}
use Rattle.beldi_histories.proofs.Names.{take-append_seam}
use Rattle.beldi_histories.specs.{Contents.content_of, Stands.body_of, Stands.held_answer, Stands.answer_by_note}
use Rattle.beldi_invariant.{proofs.Standing.held_here, specs.Invariant.Invariant}
use Rattle.beldi_wanted.specs.Wanted.{IsHeld, HasExpectedNote, notes_of}

-- ---- without the note the rows hold no answer
item_is : (x : Item) (func t : ℕ) (k : List ℕ) → func ≡ x.func → ◌≡◌ {A = Option (ℕ × List ℕ)} (Some (t, k)) (Some (x.table, x.key)) → ◌≡◌ {A = Item} (record { func = func; table = t; key = k }) x
item_is x func t k same at = let both = same_some at in λ i. record { func = same i; table = ap (λ z. z.0) both i; key = ap (λ z. z.1) both i }

module _ (m : Rows) (x : Item) (p : Place) (none : note_at (content_of m x).notes p ≡ None) where
  none_outside : (y : Item) (a : Answer) → y ≡ x → option_and_then noted_answer (note_at (content_of m y).notes p) ≡ Some a → ⊥
  none_outside y a same held = let clash = sym (ap (λ z. option_and_then noted_answer (note_at (content_of m z).notes p)) same ∙ ap (option_and_then noted_answer) none) ∙ held in cc

  none_inside : (y : Item) (v : Option Answer) (a : Answer) → y ≡ x → answer_by_note p (note_at (content_of m y).notes p) v ≡ Some a → ⊥
  none_inside y v a same held = let clash = sym (ap (λ z. answer_by_note p (note_at (content_of m z).notes p) v) same ∙ ap (λ o. answer_by_note p o v) none) ∙ held in cc

none_held : (m : Rows) (x : Item) (id : IntentId) (func step : ℕ) (t : Option TxId) (e : Effect) (a : Answer) → func ≡ x.func → notes_of t e ≡ Some (x.table, x.key) → note_at (content_of m x).notes (place_of id step) ≡ None → held_answer m id func step t e ≡ Some a → ⊥
none_held m x id func step None (Effect.Write t k v) a same at none held = none_outside m x (place_of id step) none (record { func = func; table = t; key = k }) a (item_is x func t k same at) held
none_held m x id func step None (Effect.CondWrite t k r o v) a same at none held = none_outside m x (place_of id step) none (record { func = func; table = t; key = k }) a (item_is x func t k same at) held
none_held m x id func step None (Effect.Lock t k) a same at none held = none_outside m x (place_of id step) none (record { func = func; table = t; key = k }) a (item_is x func t k same at) held
none_held m x id func step None (Effect.Unlock t k) a same at none held = none_outside m x (place_of id step) none (record { func = func; table = t; key = k }) a (item_is x func t k same at) held
none_held m x id func step (Some s) (Effect.Read t k) a same at none held = none_inside m x (place_of id step) none (record { func = func; table = t; key = k }) _ a (item_is x func t k same at) held
none_held m x id func step (Some s) (Effect.Write t k v) a same at none held = none_inside m x (place_of id step) none (record { func = func; table = t; key = k }) _ a (item_is x func t k same at) held
none_held m x id func step (Some s) (Effect.CondWrite t k r o v) a same at none held = none_inside m x (place_of id step) none (record { func = func; table = t; key = k }) _ a (item_is x func t k same at) held
none_held m x id func step t e a same at none held = cc

-- .. and at a return they hold none
no_return_held : (m : Rows) (id : IntentId) (func step : ℕ) (t : Option TxId) (o : Outcome) (a : Answer) → held_answer m id func step t (Effect.Return o) ≡ Some a → ⊥
no_return_held m id func step None o a held = cc
no_return_held m id func step (Some t) o a held = cc

no_return_notes : (t : Option TxId) (o : Outcome) (i : ℕ × List ℕ) → notes_of t (Effect.Return o) ≡ Some i → ⊥
no_return_notes None o i at = cc
no_return_notes (Some t) o i at = cc

-- ---- two instances of an intent that were made alike, whose answers the rows hold
module _ (d : Deployment) (m : Rows) (id : IntentId) (q z : Instance) (same : body_of q ≡ body_of z) (held_q : IsHeld d m id q) (held_z : IsHeld d m id z) where
  func_is : q.func ≡ z.func
  func_is = ap (λ (b : Body). b.func) same

  -- they come to one effect, in one transaction, by the same answers
  effects : (given : List Answer) → effect_after d q given ≡ effect_after d z given
  effects given = ap (λ (b : Body). effect_after d (record { func = b.func; args = b.args; parent = b.parent; enclosing = b.tx; answers = []; outcome = None }) given) same

  txs : (given : List Answer) → tx_after d id q given ≡ tx_after d id z given
  txs given = ap (λ (b : Body). tx_after d id (record { func = b.func; args = b.args; parent = b.parent; enclosing = b.tx; answers = []; outcome = None }) given) same

  -- the answer behind so many
  held_behind : (y : Instance) → IsHeld d m id y → (given rest : List Answer) (a : Answer) → given ++ a ∷ rest ≡ y.answers → held_answer m id y.func (length given) (tx_after d id y given) (effect_after d y given) ≡ Some a
  held_behind y held given rest a all =
      let front : take (length given) y.answers ≡ given = ap (take (length given)) (sym all) ∙ take-append_seam given (a ∷ rest) in
      (λ i. held_answer m id y.func (length given) (tx_after d id y (sym front i)) (effect_after d y (sym front i)))
      ∙ held (length given) a (ap (λ ts. slice_get ts (length given)) (sym all) ∙ get_after given (a ∷ rest))

  -- where both have one, it is the same
  one_answer : (given xs ys : List Answer) (a b : Answer) → given ++ a ∷ xs ≡ q.answers → given ++ b ∷ ys ≡ z.answers → a ≡ b
  one_answer given xs ys a b here there =
      same_some (sym (held_behind q held_q given xs a here) ∙ (λ i. held_answer m id (func_is i) (length given) (txs given i) (effects given i)) ∙ held_behind z held_z given ys b there)

  -- the second returns, so it has the answers of the first
  module _ (o : Outcome) (ends : effect_of d z ≡ Effect.Return o) where
    no_answer : (given xs : List Answer) (a : Answer) → given ++ a ∷ xs ≡ q.answers → given ++ [] ≡ z.answers → ⊥
    no_answer given xs a here there =
        let all : given ≡ z.answers = sym (append-nil given) ∙ there in
        no_return_held m id q.func (length given) (tx_after d id q given) o a (ap (held_answer m id q.func (length given) (tx_after d id q given)) (sym (effects given ∙ ap (effect_after d z) all ∙ ends)) ∙ held_behind q held_q given xs a here)

    goes_on : (given xs ys : List Answer) → given ++ xs ≡ q.answers → given ++ ys ≡ z.answers → (more : List Answer) × (xs ++ more ≡ ys)
    goes_on given [] ys here there = (ys, refl)
    goes_on given (a ∷ xs) [] here there = absurd (no_answer given xs a here there)
    goes_on given (a ∷ xs) (b ∷ ys) here there =
        let one = one_answer given xs ys a b here there in
        let further = goes_on (given ++ a ∷ []) xs ys (append_assoc given (a ∷ []) xs ∙ here) (append_assoc given (a ∷ []) ys ∙ ap (λ c. given ++ c ∷ ys) one ∙ there) in
        (further.0, (λ i. one i ∷ further.1 i))

    -- at whose next effect a note was left, which the item lacks
    module _ (x : Item) (func : q.func ≡ x.func) (notes : notes_of (tx_now d id q) (effect_of d q) ≡ Some (x.table, x.key)) (none : note_at (content_of m x).notes (place_of id (length q.answers)) ≡ None) where
      by_more : (more : List Answer) → q.answers ++ more ≡ z.answers → ⊥
      by_more [] all = no_return_notes (tx_now d id q) o (x.table, x.key) (ap (notes_of (tx_now d id q)) (sym (effects q.answers ∙ ap (effect_after d z) (sym (append-nil q.answers) ∙ all) ∙ ends)) ∙ notes)
      by_more (b ∷ more) all = none_held m x id z.func (length q.answers) (tx_after d id z q.answers) (effect_after d z q.answers) b (sym func_is ∙ func)
          ((λ i. notes_of (sym (txs q.answers) i) (sym (effects q.answers) i)) ∙ notes) none (held_behind z held_z q.answers more b all)

      never : ⊥
      never = let w = goes_on [] q.answers z.answers refl refl in by_more w.0 w.1

-- ---- so where the host has the invariant, who is to leave a note has no outcome
pub expected_is_open : (d : Deployment) (c : Core) (m : Rows) (h : Invariant d c m) (x : Item) (w : HasExpectedNote d m x) (z : Instance) → map.get h.histories w.id ≡ Some z → body_of w.instance ≡ body_of z → is_some z.outcome ≡ true → ⊥
expected_is_open d c m h x w z made same over = by_outcome z.outcome refl over
  where
    by_outcome : (o : Option Outcome) → z.outcome ≡ o → is_some o ≡ true → ⊥
    by_outcome None is over = cc
    by_outcome (Some o) is over = never d m w.id w.instance z same w.answered (λ n a at. held_here d m h.histories h.lock_ahead h.rows h.well_formed w.id z made n a at) o ((h.well_formed.each w.id z made).over o is) x w.func w.notes w.none
