-- A transaction as a list of moves, from the state after its Begin: each a plain step of the one that can step, or an effect of it that is
-- aborted. So nothing counts steps, and a transaction that runs is told by what its members were answered.
use Rattle.std.specs.Prelude.{◌≡◌, ◌⊎◌, Bool, true, false, List, [], ◌∷◌, Option, Some, None, if◌then◌else◌}
use Rattle.std.specs.Option.{option_map}
use Rattle.std.specs.FinMap as map
use Rattle.beldi_value.specs.declared.{id.IntentId.IntentId, place.Place.Place, place.TxId.TxId}
use Rattle.beldi_tree.specs.declared.deployment.Deployment.{Deployment}
use Rattle.beldi_lang.specs.declared.effect.{Effect.Effect, Answer.Answer}
use Rattle.beldi_plain.specs.Transaction.{Going, gives, opened, at_active, moves_by, dies_at, fallen, stands_at, is_holder, tx_begun}
use Rattle.beldi_plain.specs.{Item.Item, Operation.touched, Plain.Instance, Plain.PlainState, Plain.with_instance, Plain.answered, Plain.effect_of, Plain.item_of}

-- a plain step; or an effect that was aborted, by itself or by who holds its item
pub data Move : Type 0 where
  plain : Move
  fell : Option IntentId → Move

abbrev pub move_by : TxId → PlainState → IntentId → Instance → Effect → Move → Option Going
move_by t p id q e plain = moves_by t p id q e
move_by t p id q e (fell h) = if dies_at h e then Some (fallen p id q h) else None

-- of the one that can step
abbrev pub after_move : Deployment → TxId → Move → Going → Option Going
after_move d t m s = at_active s (λ q. move_by t s.state s.active q (effect_of d q) m)

-- these moves lead there
abbrev pub Leads : Deployment → TxId → Going → List Move → Going → Type 0
Leads d t s [] l = s ≡ l
Leads d t s (m ∷ ms) l = (r : Going) × (after_move d t m s ≡ Some r) × Leads d t r ms l

-- nothing was aborted
abbrev pub AllPlain : List Move → Type 0
AllPlain [] = Unit {0}
AllPlain (m ∷ ms) = (m ≡ plain) × AllPlain ms

-- ---- its end
-- the one that can step stands at this effect
pub record Stands (d : Deployment) (s : Going) (e : Effect) : Type 0 where
  pub instance : Instance
  pub made : map.get s.state.made s.active ≡ Some instance
  pub effect : effect_of d instance ≡ e

-- .. and is the owner, at its end
pub record AtEnd (d : Deployment) (id : IntentId) (s : Going) (commit : Bool) : Type 0 where
  pub owner : s.active ≡ id
  pub stands : Stands d s (Effect.End commit)

-- a transaction of an instance that has led so far
pub record Runs (d : Deployment) (p : PlainState) (id : IntentId) (q : Instance) (moves : List Move) (s : Going) : Type 0 where
  pub made : map.get p.made id ≡ Some q
  pub open_still : q.outcome ≡ None
  pub begins : effect_of d q ≡ Effect.Begin
  pub leads : Leads d (tx_begun id q) (opened p id q) moves s

-- it commits
pub record Commits (d : Deployment) (p : PlainState) (id : IntentId) (r : PlainState) : Type 0 where
  pub instance : Instance
  pub moves : List Move
  pub last : Going
  pub runs : Runs d p id instance moves last
  pub plainly : AllPlain moves
  pub ends : AtEnd d id last true
  pub is : r ≡ gives last.state id ends.stands.instance Answer.Done

-- no move before the last state was made at the place
abbrev pub stands_there : Place → Going → Option Instance → Bool
stands_there a s None = false
stands_there a s (Some q) = stands_at a s.active q

abbrev pub is_there : Place → Going → Bool
is_there a s = stands_there a s (map.get s.state.made s.active)

abbrev pub NotBefore : Deployment → TxId → Place → Going → List Move → Type 0
NotBefore d t a s [] = Unit {0}
NotBefore d t a s (m ∷ ms) = (is_there a s ≡ false) × ((r : Going) → after_move d t m s ≡ Some r → NotBefore d t a r ms)

-- from the place where it aborts: what is aborted, and plain steps to the end without commit; or that end alone
abbrev pub FallsSo : Option IntentId → List Move → Type 0
FallsSo h [] = h ≡ None
FallsSo h (m ∷ ms) = (m ≡ fell h) × AllPlain ms

-- it aborts at a place, and leaves its answers
pub record Aborts (d : Deployment) (p : PlainState) (id : IntentId) (place : Place) (holder : Option IntentId) (r : PlainState) : Type 0 where
  pub instance : Instance
  -- up to the place
  pub before : List Move
  pub there : Going
  pub runs : Runs d p id instance before there
  pub plainly : AllPlain before
  pub first : NotBefore d (tx_begun id instance) place (opened p id instance) before
  pub stands : is_there place there ≡ true
  pub older : is_holder p id holder ≡ true
  -- and from it
  pub since : List Move
  pub last : Going
  pub leads : Leads d (tx_begun id instance) there since last
  pub falls : FallsSo holder since
  pub ends : AtEnd d id last false
  pub is : r ≡ with_instance p id (answered ends.stands.instance Answer.Done)

-- ---- its items
abbrev pub touched_item : Instance → Effect → Option Item
touched_item q e = option_map (λ o. item_of q o.0 o.1) (touched e)

-- a read or an operation on the item, which was not aborted
abbrev pub touched_at : Deployment → Option Instance → Option Item
touched_at d None = None
touched_at d (Some q) = touched_item q (effect_of d q)

abbrev pub TouchedBy : Deployment → Going → Move → Item → Type 0
TouchedBy d s plain x = touched_at d (map.get s.state.made s.active) ≡ Some x
TouchedBy d s (fell h) x = ⊥

-- .. is one of these moves
abbrev pub TouchedIn : Deployment → TxId → Going → List Move → Item → Type 0
TouchedIn d t s [] x = ⊥
TouchedIn d t s (m ∷ ms) x = TouchedBy d s m x ⊎ ((r : Going) × (after_move d t m s ≡ Some r) × TouchedIn d t r ms x)
