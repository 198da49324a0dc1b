-- Intents that are old may be taken as gone, and no row changes.
use Rattle.std.specs.FinMap as map
use Rattle.std.specs.Prelude.{max}
use Rattle.std.specs.Ordering.{is_eq}
use Rattle.std.proofs.Common.{◌≡◌, ◌⊎◌, inl, inr, ℕ, ◌≤◌, Bool, true, false, cond, List, [], ◌∷◌, Option, Some, None, refl, sym, subst, arith}
use Rattle.beldi_value.specs.{Id.id_cmp, declared.id.IntentId.IntentId, declared.place.Place.Place}
use Rattle.beldi_tree.specs.declared.deployment.Deployment.{Deployment}
use Rattle.beldi_row.specs.{Key.RowKey, Table.Rows, declared.notes.Note.Note}
use Rattle.beldi_chain.specs.Chain.{chain}
use Rattle.beldi_plain_laws.proofs.PlainOperations.{id_same}
use Rattle.beldi_intent.specs.Intent.{intent_key}
use Rattle.beldi_splice.proofs.Alike.{more_are_gone}
use Rattle.beldi_prune.specs.CellEntries.{HasEntryOf}
use Rattle.beldi_step.specs.{HostStep.Core, declared.run.Run.Run}
use Rattle.beldi_histories.specs.{Contents.head_key, Stands.key_in}
use Rattle.beldi_upkeep.specs.{Callees.belongs_to, WorksFor.WorksFor, WorksFor.finish_in}
use Rattle.beldi_kept.specs.{KeptRows.HasKept, KeptRows.IsLater, KeptRows.IsOld, KeptRows.IsOver, KeptRows.IsUnbound, Less.IsGone, Less.Less, Less.and_gone, Safe.IsGoneOrOld}
use Rattle.beldi_kept.proofs.{Gone.old_still, Less.gone_itself, Less.gone_more, Passing.gone_or_old_later, Removals.too_late}

-- ---- states one after another
pub later_then : {d : Deployment} {c b a : Core} {m n o : Rows} {h : HasKept d c m} {g : HasKept d b n} {f : HasKept d a o} → IsLater h g → IsLater g f → IsLater h f
later_then p q = record {
  moment = (let x = p.moment in let y = q.moment in omega (arith, x, y));
  ticket = (let x = p.ticket in let y = q.ticket in omega (arith, x, y));
  rows = λ k there. q.rows k (p.rows k there);
  finishes = λ k f is. q.finishes k f (p.finishes k f is);
  gone = λ i off. q.gone i (p.gone i off);
  latest = (let x = p.latest in let y = q.latest in let z = q.moment in omega (arith, x, y, z));
}

pub later_itself : {d : Deployment} {c : Core} {m : Rows} (h : HasKept d c m) → IsLater h h
later_itself h = record { moment = omega arith; ticket = omega arith; rows = λ q there. there; finishes = λ q f is. is; gone = λ i off. off; latest = omega arith }

-- ---- these are gone as well
pub record Declares (d : Deployment) (c : Core) (m : Rows) (h : HasKept d c m) (Of : IntentId → Type 0) : Type 0 where
  pub has : HasKept d c m
  pub later : IsLater h has
  pub gone : (i : IntentId) → Of i → has.gone i ≡ true

-- ---- one that is old
module _ (d : Deployment) (c : Core) (m : Rows) (h : HasKept d c m) (home : ℕ) (i : IntentId) (old : IsOld d.life c.now (finish_in (map.get h.kept (intent_key i home)))) where
  abbrev more : IntentId → Bool
  more = and_gone h.gone i

  abbrev latest : ℕ
  latest = max h.latest c.now

  abbrev seat : RowKey
  seat = intent_key i home

  by_id : (j : IntentId) (P : Bool → Type 0) → (j ≡ i → P true) → P (h.gone j) → P (more j)
  by_id j P this other = by_test (is_eq (id_cmp j i)) refl
    where
      by_test : (b : Bool) → is_eq (id_cmp j i) ≡ b → P (cond b true (h.gone j))
      by_test true is = this (id_same j i is)
      by_test false is = other

  still_gone : (o : Option IntentId) → IsGone h.gone o → IsGone more o
  still_gone None of = of
  still_gone (Some j) of = gone_more h.gone m h.kept h.less i j of

  less_more : Less more m h.kept
  less_more = record {
    rows = λ k off. by_less k (h.less.rows k off);
    cells = λ x. more_are_gone h.gone more (chain m (head_key x)) (chain h.kept (head_key x)) (gone_more h.gone m h.kept h.less i) (h.less.cells x);
    threads = h.less.threads;
  }
    where
      by_less : (k : RowKey) → (map.get m k ≡ map.get h.kept k) ⊎ ((map.get m k ≡ None) × IsGone h.gone (belongs_to k.kind)) → (map.get m k ≡ map.get h.kept k) ⊎ ((map.get m k ≡ None) × IsGone more (belongs_to k.kind))
      by_less k (inl same) = inl same
      by_less k (inr off) = inr (off.0, still_gone (belongs_to k.kind) off.1)

  still_over : (j : IntentId) → IsOver d.life c.newest h.latest m h.kept j → IsOver d.life c.newest latest m h.kept j
  still_over j o = record { home = o.home; over = by_over o.over }
    where
      f : Option ℕ
      f = finish_in (map.get h.kept (key_in o.home j))

      by_over : IsOld d.life h.latest (finish_in (map.get h.kept (key_in o.home j))) ⊎ IsUnbound c.newest j (map.get m (key_in o.home j)) (map.get h.kept (key_in o.home j))
          → IsOld d.life latest (finish_in (map.get h.kept (key_in o.home j))) ⊎ IsUnbound c.newest j (map.get m (key_in o.home j)) (map.get h.kept (key_in o.home j))
      by_over (inl was) = inl (old_still d.life h.latest latest f f (omega arith) (λ g is. is) was)
      by_over (inr u) = inr u

  itself_over : IsOver d.life c.newest latest m h.kept i
  itself_over = let f = finish_in (map.get h.kept seat) in record { home = seat.home; over = inl (old_still d.life c.now latest f f (omega arith) (λ g is. is) old) }

  nobody : (s : ℕ) (r : Run) → map.get c.runs s ≡ Some r → c.now ≤ r.deadline → WorksFor r r.at i → ⊥
  nobody s r live in_time works = too_late d.life c.now r.deadline (finish_in (map.get h.kept seat)) (h.upkeep.near.near s r i seat.home live works) old in_time

  declared : HasKept d c m
  declared = record {
    kept = h.kept;
    upkeep = h.upkeep;
    wanted = h.wanted;
    gone = more;
    less = less_more;
    latest = latest;
    over = λ j. by_id j (λ b. b ≡ true → IsOver d.life c.newest latest m h.kept j) (λ is e. subst (IsOver d.life c.newest latest m h.kept) (sym is) itself_over) (λ e. still_over j (h.over j e));
    spared = λ s r j live in_time works. by_id j (λ b. b ≡ false) (λ is. absurd (nobody s r live in_time (subst (WorksFor r r.at) is works))) (h.spared s r j live in_time works);
    ahead = h.ahead;
    newest = h.newest;
  }

  declares_old : Declares d c m h (λ j. j ≡ i)
  unfolding declared
  declares_old = record {
    has = declared;
    later = record { moment = omega arith; ticket = omega arith; rows = λ q there. there; finishes = λ q f is. is; gone = gone_more h.gone m h.kept h.less i; latest = omega arith };
    gone = λ j same. subst (λ z. more z ≡ true) (sym same) (gone_itself h.gone m h.kept h.less i);
  }

-- .. or gone
declares_one : (d : Deployment) (c : Core) (m : Rows) (h : HasKept d c m) (home : ℕ) (i : IntentId) → IsGoneOrOld d.life c.now h.gone h.kept home i → Declares d c m h (λ j. j ≡ i)
declares_one d c m h home i (inl off) = record { has = h; later = later_itself h; gone = λ j same. subst (λ z. h.gone z ≡ true) (sym same) off }
declares_one d c m h home i (inr old) = declares_old d c m h home i old

-- ---- and all that have entries
pub declares : (d : Deployment) (c : Core) (m : Rows) (h : HasKept d c m) (home : ℕ) (es : List (Place × Note)) → ((i : IntentId) → HasEntryOf es i → IsGoneOrOld d.life c.now h.gone h.kept home i) → Declares d c m h (HasEntryOf es)
declares d c m h home [] old = record { has = h; later = later_itself h; gone = λ i of. absurd of }
declares d c m h home (e ∷ es) old =
    let one = declares_one d c m h home e.0.intent (old e.0.intent (inl refl)) in
    let rest = declares d c m one.has home es (λ i of. gone_or_old_later h one.has one.later home i (old i (inr of))) in
    record { has = rest.has; later = later_then one.later rest.later; gone = λ i of. by_entry one rest i of }
  where
    by_entry : (one : Declares d c m h (λ j. j ≡ e.0.intent)) (rest : Declares d c m one.has (HasEntryOf es)) (i : IntentId) → (i ≡ e.0.intent) ⊎ HasEntryOf es i → rest.has.gone i ≡ true
    by_entry one rest i (inl same) = rest.later.gone i (one.gone i same)
    by_entry one rest i (inr of) = rest.gone i of
