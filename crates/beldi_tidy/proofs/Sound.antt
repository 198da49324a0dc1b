-- The rows of a host with the invariant are sound.
use Rattle.std.specs.FinMap as map
use Rattle.std.proofs.Common.{◌≡◌, ◌⊎◌, inl, inr, ℕ, zero, suc, ◌==◌, ◌<◌, ◌≤◌, Bool, true, false, List, [], ◌∷◌, length, is_some, Option, Some, None, refl, ap, sym, ◌∙◌, subst, arith}
use Rattle.beldi_value.specs.declared.{id.IntentId.IntentId, outcome.Outcome.Outcome, value.Value.Value}
use Rattle.beldi_tree.specs.declared.deployment.Deployment.{Deployment}
use Rattle.beldi_row.specs.{Act.is_left_row, Key.at_row, Key.key_cmp, Key.kind_at, Key.kind_cmp, Key.least_key, Key.rest_cmp, Log.most_entries, Table.Rows, declared.key.Kind.Kind, declared.row.Cell.Cell, declared.row.Row.Row}
use Rattle.beldi_chain.specs.Chain.{Chain, chain}
use Rattle.beldi_links.specs.Links.{FitsAt, FitsNext, LinkedFrom, IsLinked, Linked, Steps}
use Rattle.beldi_links.proofs.Ways.{none_next, one_cell}
use Rattle.beldi_splice.specs.Splice.{IsPassable, IsThreaded, LeadsPast, LessChain, LessRow}
use Rattle.beldi_splice.proofs.{Alike.before_last, Alike.fits_at, Alike.leads_on_kept, Alike.no_later, Alike.no_row, Both.there_linked, Pruned.IsOf, Pruned.is_of}
use Rattle.beldi_prune.specs.PruneLaws.{is_left}
use Rattle.beldi_sweep.specs.SweptRows.{AreSound, IsSound}
use Rattle.beldi_step.specs.HostStep.{Core}
use Rattle.beldi_histories.specs.{Contents.head_key, Contents.shadow_chain, Histories.expected_call, Histories.expected_lockset, Histories.expected_read, Matches.LocksetMatches, Matches.has_ended, Matches.lockset_ahead, RowMatching.CallMatches, RowMatching.IntentMatches, RowMatching.LogMatches, RowMatching.RootMatches, Stands.key_in}
use Rattle.beldi_kept.specs.KeptRows.{HasKept}
use Rattle.beldi_kept.proofs.Less.{there_kept}
use Rattle.beldi_kept.specs.Less.{is_item}
use Rattle.beldi_tidy.specs.Tidy.{RowsAreSound}
use Rattle.beldi_invariant.proofs.Cases.{false_by}
use Rattle.beldi_plain.specs.{Item.Item, Plain.Instance}
use Rattle.std.specs.{Cmp.nat_cmp_is, Ordering.ordering_then, declared.cmp.Ordering.TheVariants.Less}
use Rattle.beldi_value.specs.Id.{has_no_hops}
use Rattle.beldi_intent.specs.Intent.{root_key}

-- ---- one item
-- only a cell is one of a kept row
is_cell : (gone : IntentId → Bool) (f : Chain) (n : ℕ) (r : Row) (s : Option Row) → LessRow gone f n (Some r) s → (c : Cell) × (r ≡ Row.Cell c)
is_cell gone f n (Row.Cell c) s less = (c, refl)
is_cell gone f n (Row.Intent i) s less = absurd less
is_cell gone f n (Row.ReadLog v) s less = absurd less
is_cell gone f n (Row.Invoke i) s less = absurd less
is_cell gone f n Row.Lockset s less = absurd less

-- the row that leads on is marked, or adrift, only where it may be led past
not_first : (gone : IntentId → Bool) (r : Option Row) → IsPassable gone 0 r → ⊥
not_first gone r p = let low = p.later in omega (arith, low)

entries_fit : (o : Option ℕ) (n : ℕ) → FitsNext o n → n ≤ most_entries
entries_fit None n fits = fits
entries_fit (Some k) n fits = omega (arith, fits)

-- it leads on where the kept one does
leads_where : (gone : IntentId → Bool) (f : Chain) (n : ℕ) (o p : Option ℕ) → LeadsPast gone f n o p → is_some o ≡ is_some p
leads_where gone f n None None h = refl
leads_where gone f n (Some y) (Some k) h = refl
leads_where gone f n None (Some k) h = absurd h
leads_where gone f n (Some y) None h = absurd h

no_follower : (o : Option ℕ) → is_some o ≡ false → o ≡ None
no_follower None e = refl
no_follower (Some k) e = cc

follower : (o : Option ℕ) → is_some o ≡ true → (k : ℕ) × (o ≡ Some k)
follower (Some k) e = (k, refl)
follower None e = cc

-- a kept row that none follows is the last, or comes after that
past_last : (f : Chain) (l : Linked f) (n : ℕ) (k : Cell) → f n ≡ Some (Row.Cell k) → k.next ≡ None → l.last ≤ n
past_last f l n k there none = elim (l.rest n k there) [
  | inl spare ↦ omega (arith, spare)
  | inr on ↦ by_way on.1.0 on.1.1
]
  where
    by_way : (ks : List ℕ) → Steps f n ks l.last → l.last ≤ n
    by_way [] at = let same : n ≡ l.last = at in omega (arith, same)
    by_way (j ∷ ks) (c, is, next, rise, path) = absurd (none_next k j none (ap (λ (z : Cell). z.next) (one_cell k c (sym there ∙ is)) ∙ next))

module _ (gone : IntentId → Bool) (g f : Chain) (less : LessChain gone g f) (linked : IsLinked f) where
  of : (n : ℕ) (c : Cell) → g n ≡ Some (Row.Cell c) → IsOf gone f n c
  of n c is = is_of gone g f less n c is

  links : (n : ℕ) (c : Cell) → g n ≡ Some (Row.Cell c) → Linked f
  links n c is = let k = of n c is in there_linked f linked n (Row.Cell k.kept) k.there

  cells : (n : ℕ) (r : Row) → g n ≡ Some r → (c : Cell) × (r ≡ Row.Cell c) × (length c.log ≤ most_entries)
  cells n r there =
      let c = is_cell gone f n r (f n) (subst (λ z. LessRow gone f n z (f n)) there (less n)) in
      let is = there ∙ ap Some c.1 in
      let k = of n c.0 is in
      (c.0, c.1, subst (λ es. length es ≤ most_entries) (sym k.less.log) (entries_fit k.kept.next (length k.kept.log) (fits_at f (links n c.0 is) n k.kept k.there).entries))

  -- without a first row nothing was kept of it, nor is there any
  begins : g 0 ≡ None → (n : ℕ) → g n ≡ None
  begins none n = no_row gone f n (g n) (f n) (less n) (by_first (f 0) refl (subst (λ z. LessRow gone f 0 z (f 0)) none (less 0)))
    where
      by_first : (r : Option Row) → f 0 ≡ r → LessRow gone f 0 None r → f n ≡ None
      by_first None is h = none_at (f 0) is linked
        where
          none_at : (r : Option Row) → r ≡ None → LinkedFrom r f → f n ≡ None
          none_at None e all = all n
          none_at (Some r) e all = cc
      by_first (Some r) is h = absurd (not_first gone (Some r) h)

  marked_late : (n : ℕ) (c : Cell) → g n ≡ Some (Row.Cell c) → c.marked ≡ true → IsPassable gone n (f n)
  marked_late n c is marked = let k = of n c is in subst (IsPassable gone n) (sym k.there) (k.less.marked marked)

  first : (c : Cell) → g 0 ≡ Some (Row.Cell c) → (c.marked ≡ false) × (c.dangled ≡ None)
  first c is = (unmarked, moored c.dangled (of 0 c is).less.adrift)
    where
      unmarked : c.marked ≡ false
      unmarked = false_by c.marked (λ marked. not_first gone (f 0) (marked_late 0 c is marked))

      moored : (o : Option ℕ) → (is_some o ≡ true → c.marked ≡ true) → o ≡ None
      moored None h = refl
      moored (Some t) h = let clash = sym unmarked ∙ h refl in cc

  rises : (n k : ℕ) (c : Cell) → g n ≡ Some (Row.Cell c) → c.next ≡ Some k → n < k
  rises n k c is next = (no_later f (links n c is) gone n k c (leads_on_kept gone g f less n k c is next)).0

  follows : (n : ℕ) (c : Cell) (is : g n ≡ Some (Row.Cell c)) → is_some c.next ≡ is_some (of n c is).kept.next
  follows n c is = let k = of n c is in leads_where gone f n c.next k.kept.next k.less.next

  adrift : (n : ℕ) (c : Cell) → g n ≡ Some (Row.Cell c) → is_some c.dangled ≡ true → (c.marked ≡ true) × (is_some c.next ≡ true)
  adrift n c is dangled =
      let k = of n c is in
      let marked = k.less.adrift dangled in
      let p = k.less.marked marked in
      (marked, follows n c is ∙ ap (λ (z : Cell). is_some z.next) (one_cell k.kept p.cell p.there) ∙ p.followed)

  ends : (n : ℕ) (c : Cell) → g n ≡ Some (Row.Cell c) → c.next ≡ None → (x : ℕ) (e : Cell) → g x ≡ Some (Row.Cell e) → is_some e.next ≡ true → x < n
  ends n c is none x e there some =
      let l = links n c is in
      let k = of n c is in
      let j = of x e there in
      let a = follower j.kept.next (sym (follows x e there) ∙ some) in
      let high = past_last f l n k.kept k.there (no_follower k.kept.next (sym (follows n c is) ∙ ap is_some none)) in
      let low = before_last f l x j.kept a.0 j.there a.1 in
      omega (arith, high, low)

  item_sound : (is_some (g 0) ≡ true → IsThreaded g) → IsSound g
  item_sound threads = record { cells = cells; begins = begins; first = first; rises = rises; adrift = adrift; threads = threads; ends = λ n c path is none. ends n c is none }

-- ---- all rows
-- a row that an intent left is not an intent's
of_read : (r : Row) (o : Option Value) → LogMatches (Some r) o → is_left_row r ≡ true
of_read (Row.Intent i) o fits = absurd fits
of_read (Row.ReadLog v) o fits = refl
of_read (Row.Invoke i) o fits = refl
of_read (Row.Cell c) o fits = refl
of_read Row.Lockset o fits = refl

of_call : (r : Row) (o : Option (ℕ × Option Outcome)) → CallMatches (Some r) o → is_left_row r ≡ true
of_call (Row.Intent i) o fits = absurd fits
of_call (Row.ReadLog v) o fits = refl
of_call (Row.Invoke i) o fits = refl
of_call (Row.Cell c) o fits = refl
of_call Row.Lockset o fits = refl

of_lockset : (r : Row) (a b : Bool) → LocksetMatches (Some r) a b → is_left_row r ≡ true
of_lockset (Row.Intent i) a b fits = absurd fits
of_lockset (Row.ReadLog v) a b fits = refl
of_lockset (Row.Invoke i) a b fits = refl
of_lockset (Row.Cell c) a b fits = refl
of_lockset Row.Lockset a b fits = refl

of_cell : (r : Row) → FitsAt (Some r) → is_left_row r ≡ true
of_cell (Row.Intent i) fits = absurd fits
of_cell (Row.ReadLog v) fits = refl
of_cell (Row.Invoke i) fits = refl
of_cell (Row.Cell c) fits = refl
of_cell Row.Lockset fits = refl

module _ (d : Deployment) (c : Core) (m : Rows) (h : HasKept d c m) where
  kept_left : (home : ℕ) (k : Kind) (r : Row) → is_left k ≡ true → map.get h.kept (record { home = home; kind = k }) ≡ Some r → is_left_row r ≡ true
  kept_left home (Kind.Intent i) r left is = cc
  kept_left home (Kind.ReadLog a) r left is = of_read r (expected_read d h.upkeep.invariant.histories home a) (subst (λ z. LogMatches z (expected_read d h.upkeep.invariant.histories home a)) is (h.upkeep.invariant.rows.keys (record { home = home; kind = Kind.ReadLog a })))
  kept_left home (Kind.Invoke a) r left is = of_call r (expected_call h.upkeep.invariant.histories home a) (subst (λ z. CallMatches z (expected_call h.upkeep.invariant.histories home a)) is (h.upkeep.invariant.rows.keys (record { home = home; kind = Kind.Invoke a })))
  kept_left home (Kind.Data t k n) r left is = cc
  kept_left home (Kind.Shadow s t k n) r left is =
      let x : Item = record { func = home; table = t; key = k } in
      let f = shadow_chain h.kept s x in
      of_cell r (subst FitsAt is ((there_linked f (h.upkeep.invariant.rows.asides s x).linked n r is).fits n))
  kept_left home (Kind.Lockset i b t k) r left is =
      let x : Item = record { func = home; table = t; key = k } in
      let histories = h.upkeep.invariant.histories in
      let p = h.upkeep.invariant.rows.keys (record { home = home; kind = Kind.Lockset i b t k }) in
      of_lockset r (expected_lockset d b x i (map.get histories i)) (lockset_ahead d histories b x i (map.get histories i)) (subst (λ z. LocksetMatches z (expected_lockset d b x i (map.get histories i)) (lockset_ahead d histories b x i (map.get histories i))) is p)

  -- an intent's row is one, and none stands at the least key: no root has ticket 0
  root_row : (b : Bool) (r : Row) (o : Option Instance) → RootMatches b (Some r) o → is_left_row r ≡ false
  root_row true (Row.Intent i) o fits = refl
  root_row true (Row.ReadLog v) o fits = absurd fits
  root_row true (Row.Invoke i) o fits = absurd fits
  root_row true (Row.Cell e) o fits = absurd fits
  root_row true Row.Lockset o fits = absurd fits
  root_row false r o fits = cc

  intent_row : (b : Bool) (home : ℕ) (r : Row) (o : Option Instance) → IntentMatches (has_ended d h.upkeep.invariant.histories) b home (Some r) o → is_left_row r ≡ false
  intent_row true home r o fits = root_row (home == 0) r o fits
  intent_row false home (Row.Intent i) o fits = refl
  intent_row false home (Row.ReadLog v) o fits = absurd fits
  intent_row false home (Row.Invoke i) o fits = absurd fits
  intent_row false home (Row.Cell e) o fits = absurd fits
  intent_row false home Row.Lockset o fits = absurd fits

  after_least : (home ticket : ℕ) (hops : List ℕ) → (key_cmp least_key (key_in home (record { ticket = ticket; hops = hops })) ≡ Less) ⊎ (key_in home (record { ticket = ticket; hops = hops }) ≡ root_key 0)
  after_least zero zero [] = inr refl
  after_least zero zero (x ∷ xs) = inl refl
  after_least zero (suc t) hops = inl (sym (ap (λ o. ordering_then o (rest_cmp least_key.kind (Kind.Intent (record { ticket = suc t; hops = hops })))) (nat_cmp_is 0 (suc t) Less (omega arith))))
  after_least (suc home) ticket hops = inl (sym (ap (λ o. ordering_then o (kind_cmp least_key.kind (Kind.Intent (record { ticket = ticket; hops = hops })))) (nat_cmp_is 0 (suc home) Less (omega arith))))

  kept_intent : (home : ℕ) (i : IntentId) (r : Row) → map.get m (key_in home i) ≡ Some r → (is_left_row r ≡ false) × (key_cmp least_key (key_in home i) ≡ Less)
  kept_intent home i r is = (
    intent_row (has_no_hops i.hops) home r (map.get h.upkeep.invariant.histories i) (subst (λ z. IntentMatches (has_ended d h.upkeep.invariant.histories) (has_no_hops i.hops) home z (map.get h.upkeep.invariant.histories i)) row (h.upkeep.invariant.rows.keys (key_in home i))),
    elim (after_least home i.ticket i.hops) [
      | inl later ↦ later
      | inr least ↦ let clash = sym (h.upkeep.invariant.tickets 0) ∙ ap (λ k. is_some (map.get h.kept k)) (sym least) ∙ ap is_some row in cc
    ],
  )
    where
      row : map.get h.kept (key_in home i) ≡ Some r
      row = there_kept h.gone m h.kept h.less (key_in home i) r refl is

  pub not_item : (k : Kind) → is_left k ≡ true → is_item k ≡ false
  not_item (Kind.Intent i) left = refl
  not_item (Kind.ReadLog a) left = refl
  not_item (Kind.Invoke a) left = refl
  not_item (Kind.Data t k n) left = cc
  not_item (Kind.Shadow s t k n) left = refl
  not_item (Kind.Lockset i b t k) left = refl

  pub rows_sound : AreSound m
  rows_sound = record {
    intents = λ k i r kind is.
        let at : k ≡ key_in k.home i = λ j. record { home = k.home; kind = kind j } in
        let row = kept_intent k.home i r (ap (map.get m) (sym at) ∙ is) in
        (row.0, ap (key_cmp least_key) at ∙ row.1);
    left = λ k r left is. kept_left k.home k.kind r left (there_kept h.gone m h.kept h.less k r (not_item k.kind left) is);
    items = λ k t n q is.
        let x : Item = record { func = k.home; table = t; key = q } in
        let head : at_row k 0 ≡ head_key x = λ i. record { home = k.home; kind = kind_at (is i) 0 } in
        subst (λ z. IsSound (chain m z)) (sym head) (item_sound h.gone (chain m (head_key x)) (chain h.kept (head_key x)) (h.less.cells x) (h.upkeep.invariant.rows.chains x) (h.less.threads x));
  }

pub rows_are_sound : RowsAreSound
rows_are_sound d c m h = rows_sound d c m h
