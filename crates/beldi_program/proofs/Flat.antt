-- No line feed stands in the texts of ids, outcomes and entries, whatever they are.
use Rattle.std.specs.Prelude.{decimal, slice_get}
use Rattle.std.specs.List.{AllByRecursion}
use Rattle.std.proofs.Common.{List, None, Option, Some, [], arith, refl, suc, zero, ℕ, ◌++◌, ◌∷◌, ◌≡◌}
use Rattle.beldi_value.specs.declared.{id.IntentId.IntentId, outcome.Code.Code, outcome.Outcome.Outcome, place.Owner.Owner, place.Place.Place}
use Rattle.beldi_value.specs.{ByteCut.after, Json.text_of, ValueText.code_text, ValueText.hops_text, ValueText.id_text, ValueText.outcome_text, ValueText.owner_text, ValueText.place_text, Value.datum_of}
use Rattle.beldi_tree.specs.{Names.func_text, Names.name_or, declared.deployment.Deployment.Deployment, declared.deployment.Func.Func}
use Rattle.beldi_book.specs.{BookText.entry_text, BookText.holder_text, declared.entry.Entry.Entry}
use Rattle.beldi_book.proofs.Cuts.{none_after}
use Rattle.beldi_bank_lines.proofs.Unbroken.{decimal_clear, text_flat}

abbrev pub IsFlat : List ℕ → Type 0
IsFlat w = after 10 w ≡ None

pub joined : (v w : List ℕ) → IsFlat v → IsFlat w → IsFlat (v ++ w)
joined v w g h = none_after 10 v w g h

pub decimal_flat : (n : ℕ) → IsFlat (decimal n)
decimal_flat n = decimal_clear 10 n (omega arith)

-- ---- ids, owners, outcomes
hops_flat : (hs : List ℕ) → IsFlat (hops_text hs)
hops_flat [] = refl
hops_flat (h ∷ hs) = joined (decimal h) (hops_text hs) (decimal_flat h) (hops_flat hs)

pub id_flat : (id : IntentId) → IsFlat (id_text id)
id_flat id = joined (decimal id.ticket) (hops_text id.hops) (decimal_flat id.ticket) (hops_flat id.hops)

pub owner_flat : (o : Owner) → IsFlat (owner_text o)
owner_flat (Owner.Intent id) = id_flat id
owner_flat (Owner.Tx tx) = joined (id_text tx.intent) (58 ∷ decimal tx.begin) (id_flat tx.intent) (decimal_flat tx.begin)

code_flat : (c : Code) → IsFlat (code_text c)
code_flat Code.WrongType = refl
code_flat Code.Overflow = refl
code_flat Code.DivideByZero = refl
code_flat Code.Steps = refl
code_flat Code.LocksHeld = refl
code_flat Code.ValueTooLarge = refl
code_flat Code.NoTx = refl

pub outcome_flat : (o : Outcome) → IsFlat (outcome_text o)
outcome_flat (Outcome.Value v) = text_flat (datum_of v)
outcome_flat (Outcome.Fault c) = code_flat c
outcome_flat (Outcome.Aborted c) = refl

-- ---- entries, where no name of a function has one
abbrev pub AreFlat : Deployment → Type 0
AreFlat d = (n : ℕ) → IsFlat (func_text d n)

-- two texts and a space between them
spaced : (v w : List ℕ) → IsFlat v → IsFlat w → IsFlat (v ++ 32 ∷ w)
spaced v w g h = joined v (32 ∷ w) g h

place_flat : (p : Place) → IsFlat (place_text p)
place_flat p = joined (id_text p.intent) (58 ∷ decimal p.step) (id_flat p.intent) (decimal_flat p.step)

holder_flat : (h : Option IntentId) → IsFlat (holder_text h)
holder_flat None = refl
holder_flat (Some id) = id_flat id

pub entry_flat : (d : Deployment) (e : Entry) → AreFlat d → IsFlat (entry_text d e)
entry_flat d (Entry.Start t f a) names = spaced (decimal t) (func_text d f ++ 32 ∷ text_of (datum_of a)) (decimal_flat t) (spaced (func_text d f) (text_of (datum_of a)) (names f) (text_flat (datum_of a)))
entry_flat d (Entry.Read id s) names = spaced (id_text id) (decimal s) (id_flat id) (decimal_flat s)
entry_flat d (Entry.Step id) names = id_flat id
entry_flat d (Entry.CommittedTx id) names = id_flat id
entry_flat d (Entry.AbortedTx id p k) names = spaced (id_text id) (place_text p ++ 32 ∷ holder_text k) (id_flat id) (spaced (place_text p) (holder_text k) (place_flat p) (holder_flat k))

func_flat : (fs : List Func) (m n : ℕ) → AllByRecursion (λ f. IsFlat f.name) fs → IsFlat (name_or m (slice_get fs n))
func_flat [] m n h = decimal_flat m
func_flat (f ∷ fs) m zero h = h.0
func_flat (f ∷ fs) m (suc n) h = func_flat fs m n h.1

pub names_flat : (d : Deployment) → AllByRecursion (λ f. IsFlat f.name) d.funcs → AreFlat d
names_flat d h zero = decimal_flat zero
names_flat d h (suc n) = func_flat d.funcs (suc n) n h
