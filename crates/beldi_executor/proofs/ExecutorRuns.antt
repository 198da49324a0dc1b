-- The run of the first entries.
use Rattle.beldi_plain.specs.PlainEntries.{after}
use Rattle.beldi_executor.proofs.Names.{Began, Deployment, Did, Entry, Err, List, None, NotEnabled, Ok, Option, OutOfMemory, PlainErr, PlainState, Ran, Some, [], add-one, ap, arith, bar_of, drop, length, option_and_then, refl, run_from, slice_get, suc, sym, take, zero, ℕ, ◌++◌, ◌+◌, ◌<◌, ◌∙◌, ◌∷◌, ◌≡◌}

split : (es : List Entry) (i : ℕ) (e : Entry) → slice_get es i ≡ Some e → (take i es ++ e ∷ drop (suc i) es ≡ es) × (take (suc i) es ≡ take i es ++ e ∷ [])
split [] i e h = cc
split (f ∷ es) zero e h = (cc, cc)
split (f ∷ es) (suc i) e h = let r = split es i e h in (ap (λ l. f ∷ l) r.0, ap (λ l. f ∷ l) r.1)

-- there is an entry below the length
pub within : (es : List Entry) (i : ℕ) → i < length es → slice_get es i ≡ None → ⊥
within [] i few h = omega arith
within (e ∷ es) zero few h = cc
within (e ∷ es) (suc i) few h = within es i (omega arith) h

and_some : (o : Option PlainState) → option_and_then (λ q. Some q) o ≡ o
and_some None = refl
and_some (Some q) = refl

-- a run goes on from where it stands
onward : (d : Deployment) (p q : PlainState) (es fs : List Entry) → run_from d p es ≡ Some q → run_from d p (es ++ fs) ≡ run_from d q fs
onward d p q [] fs h = let same : p ≡ q = cc in ap (λ r. run_from d r fs) same
onward d p q (e ∷ es) fs h =
    (elim (after d p e) as (λ o. option_and_then (λ r. run_from d r es) o ≡ Some q → option_and_then (λ r. run_from d r (es ++ fs)) o ≡ run_from d q fs) [
      | None ↦ λ n. cc
      | Some r ↦ λ g. onward d r q es fs g
    ]) h

-- one entry more was carried out
pub goes_on : (d : Deployment) (p q r : PlainState) (es : List Entry) (i : ℕ) (e : Entry) (u : Unit {0}) → slice_get es i ≡ Some e → run_from d p (take i es) ≡ Some q → Did d e q r (Ok u) → run_from d p (take (i + 1) es) ≡ Some r
goes_on d p q r es i e u at run did = ap (λ n. run_from d p (take n es)) (add-one i) ∙ ap (run_from d p) (split es i e at).1 ∙ onward d p q (take i es) (e ∷ []) run ∙ and_some (after d q e) ∙ did.0

begins_at : (d : Deployment) (p q r : PlainState) (es : List Entry) (i : ℕ) (e : Entry) → slice_get es i ≡ Some e → run_from d p (take i es) ≡ Some q → r ≡ q → Began d es p r (e ∷ drop (suc i) es)
begins_at d p q r es i e at run same = record { done = take i es; all = (split es i e at).0; run = run ∙ ap (λ s. Some s) (sym same) }

-- an entry was not carried out
pub stops : (d : Deployment) (p q r : PlainState) (es : List Entry) (i : ℕ) (e : Entry) (why : PlainErr) → slice_get es i ≡ Some e → run_from d p (take i es) ≡ Some q → Did d e q r (Err why) → Ran d es p r (Err why)
stops d p q r es i e OutOfMemory at run did = (e ∷ drop (suc i) es, begins_at d p q r es i e at run did)
stops d p q r es i e (NotEnabled b) at run did = (
  ap (run_from d p) (sym (split es i e at).0) ∙ onward d p q (take i es) (e ∷ drop (suc i) es) run ∙ ap (option_and_then (λ s. run_from d s (drop (suc i) es))) did.1,
  e,
  drop (suc i) es,
  begins_at d p q r es i e at run did.0,
  ap (λ s. after d s e) did.0 ∙ did.1,
  ap (λ s. bar_of d s e) did.0 ∙ did.2,
)

-- no entry was carried out
pub none_done : (d : Deployment) (p : PlainState) (es : List Entry) → Ran d es p p (Err OutOfMemory)
none_done d p es = (es, record { done = []; all = refl; run = refl })
