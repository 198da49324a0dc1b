-- Guards of a legal book, in words; and that a read that is kept late leaves them.
use Rattle.std.specs.Prelude.{◌≡◌, List, ◌∷◌, ◌++◌, Some, None}
use Rattle.std.specs.FinMap as map
use Rattle.beldi_value.specs.declared.id.IntentId.{IntentId}
use Rattle.beldi_tree.specs.declared.deployment.Deployment.{Deployment}
use Rattle.beldi_lang.specs.declared.effect.Answer.{Answer}
use Rattle.beldi_book.specs.{LinearOrder.linear, declared.entry.Entry.Entry, declared.entry.Entry.TheVariants.Step}
use Rattle.beldi_plain.specs.Plain.{Instance, PlainState, nothing, with_instance, answered, effect_of, kind_of}
use Rattle.beldi_plain.specs.{Guard.IsGuarded, Guard.actor, Guard.Touches, Item.Item, Legal.IsLegal, Legal.run_from, Operation.Operation, Operation.OnItem, Operation.op_of, Operation.item_in, Operation.lock, Operation.free, declared.kind.Kind.Kind}
use Rattle.beldi_plain_laws.specs.WellFormedState.{WellFormed}

-- in a well formed state an instance that stands at a read, and still does after these entries
pub record StandsStill (d : Deployment) (p q : PlainState) (es : List Entry) (i : IntentId) (a : Instance) : Type 0 where
  pub well_formed : WellFormed d p
  pub made : map.get p.made i ≡ Some a
  pub open_still : a.outcome ≡ None
  pub kind : kind_of i (effect_of d a) ≡ Kind.Read
  pub run : run_from d p es ≡ Some q
  pub stays : map.get q.made i ≡ Some a

-- its answer before them leaves them guarded
abbrev pub LateReadsLeaveGuards : Type 0
LateReadsLeaveGuards = (d : Deployment) (p q : PlainState) (es : List Entry) (i : IntentId) (a : Instance) (v : Answer) → StandsStill d p q es i a → IsGuarded d p es → IsGuarded d (with_instance p i (answered a v)) es

-- after these entries an instance stands at an operation on an item
pub record StandsAtOperation (d : Deployment) (es : List Entry) (i : IntentId) (x : Item) (o : Operation) : Type 0 where
  pub state : PlainState
  pub run : run_from d nothing es ≡ Some state
  pub instance : Instance
  pub made : map.get state.made i ≡ Some instance
  pub on : OnItem
  pub wants_it : op_of (effect_of d instance) ≡ Some on
  pub item : item_in instance.func on ≡ x
  pub does : on.does ≡ o

-- after these entries the entry touches the item
abbrev pub TouchesAfter : Deployment → List Entry → Entry → Item → Type 0
TouchesAfter d es e x = (p : PlainState) × (run_from d nothing es ≡ Some p) × Touches d p e x

-- From the step in which an instance locks an item to the one in which it unlocks it, no entry of another instance touches it.
abbrev pub LegalIsGuarded : Type 0
LegalIsGuarded = (d : Deployment) (book : List Entry) → IsLegal d book → (i : IntentId) (x : Item) (before between rest : List Entry) (e : Entry)
    → linear book ≡ before ++ Step i ∷ (between ++ e ∷ rest) → StandsAtOperation d before i x lock
    → ((some more : List Entry) → between ≡ some ++ Step i ∷ more → StandsAtOperation d (before ++ Step i ∷ some) i x free → ⊥)
    → TouchesAfter d (before ++ Step i ∷ between) e x → actor e ≡ i
