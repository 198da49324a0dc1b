-- What a log collector found by its turn.
use Rattle.std.specs.FinMap as map
use Rattle.std.proofs.Common.{◌≡◌, ◌⊎◌, inl, inr, ℕ, ◌<◌, true, cond, List, [], ◌∷◌, Option, Some, None, is_some, refl, ap, sym, ◌∙◌, subst, arith}
use Rattle.beldi_value.specs.declared.id.IntentId.{IntentId}
use Rattle.beldi_tree.specs.declared.deployment.Deployment.{Deployment}
use Rattle.beldi_row.specs.{Key.RowKey, Key.at_row, Key.row_of, Table.IsNext, Table.Rows, Table.next_row, Table.set_row, declared.row.Cell.Cell, declared.row.Row.Row}
use Rattle.beldi_row.proofs.{Gets.got, Gets.key_self, Least.next_row_least}
use Rattle.beldi_intent.specs.Intent.{intent_key}
use Rattle.beldi_chain.specs.Chain.{chain}
use Rattle.beldi_splice.specs.Onward.{IsOnWay}
use Rattle.beldi_splice.proofs.{Onward.ways_begin, Onward.ways_end, Onward.ways_go_on, Pruned.is_of}
use Rattle.beldi_prune.specs.{CellEntries.HasEntryOf, CellEntries.IsOf, Seat.seat_of}
use Rattle.beldi_prune.specs.PruneLaws.{IsBegun, IsOldAt, is_behind, rows_turned, turned}
use Rattle.beldi_prune.specs.Marks.{FindsMarked, IsPastRow, LeadsOn, Marks, SeesPast, Skips, left_to_prove}
use Rattle.beldi_prune.specs.declared.collector.LogCollector.{LogCollector}
use Rattle.beldi_prune.specs.declared.collector.CollectorAt.{CollectorAt, TheVariants.Before, TheVariants.ToDropIntent, TheVariants.ToLook, TheVariants.ToDrop, TheVariants.ToProve, TheVariants.ToMark, TheVariants.ToLead, TheVariants.ToSkip, TheVariants.ToDangle, TheVariants.ToDropCell}
use Rattle.beldi_prune.proofs.{Adrift.only_passed, Gone.only_recyclable, Passed.only_marked, Proved.only_proved, CollectorInvariant.stay_invariant}
use Rattle.beldi_step.specs.HostStep.{Core}
use Rattle.beldi_histories.specs.Contents.{head_key}
use Rattle.beldi_upkeep.specs.WorksFor.{finish_in}
use Rattle.beldi_kept.specs.{KeptRows.HasKept, KeptRows.IsLater, KeptRows.IsOld, KeptRows.IsRowOfOld, Less.IsGone, Safe.Collects, Safe.Found, Safe.IsGoneOrOld, Safe.IsMarkedTo, Safe.IsProved, Safe.WasKept, Safe.chain_of}
use Rattle.beldi_kept.proofs.{Begins.looks_find_old, Looks.looks_there, Passing.LeadOn, Passing.behind_item, Passing.found_at, Passing.follower_stays, Passing.lead_on_at, Passing.marked_follower, Seated.entries_have_rows, Step.was_kept, KeptTurns.skipped}

-- ---- a look at an intent's row
module _ (d : Deployment) (c : Core) (m : Rows) (h : HasKept d c m) where
  -- an old row is one whose finish is old
  is_old : (o : Option Row) → IsOldAt d.life c.now o → (o ≡ None) ⊎ IsOld d.life c.now (finish_in o)
  is_old None old = inl refl
  is_old (Some (Row.Intent i)) old = inr old
  is_old (Some r) old = absurd old

  -- one that has its kept row is gone or old
  seated_old : (i : IntentId) (home : ℕ) → is_some (map.get h.kept (intent_key i home)) ≡ true → IsOldAt d.life c.now (map.get m (intent_key i home)) → IsGoneOrOld d.life c.now h.gone h.kept home i
  seated_old i home there old = by_less (h.less.rows (intent_key i home) refl) (is_old (map.get m (intent_key i home)) old)
    where
      by_less : (map.get m (intent_key i home) ≡ map.get h.kept (intent_key i home)) ⊎ ((map.get m (intent_key i home) ≡ None) × IsGone h.gone (Some i))
          → (map.get m (intent_key i home) ≡ None) ⊎ IsOld d.life c.now (finish_in (map.get m (intent_key i home))) → IsGoneOrOld d.life c.now h.gone h.kept home i
      by_less (inl same) (inl none) = let clash = sym there ∙ ap is_some (sym same ∙ none) in cc
      by_less (inl same) (inr old) = inr (subst (λ o. IsOld d.life c.now (finish_in o)) same old)
      by_less (inr off) t = inl off.1

  -- .. as has each that has an entry in a row that is there
  entry_old : (k : RowKey) → is_behind k.kind ≡ true → (u : Cell) → map.get m k ≡ Some (Row.Cell u) → (i : IntentId) → HasEntryOf u.log i → IsOldAt d.life c.now (map.get m (intent_key i k.home)) → IsGoneOrOld d.life c.now h.gone h.kept k.home i
  entry_old k behind = behind_item k (λ q. (u : Cell) → map.get m q ≡ Some (Row.Cell u) → (i : IntentId) → HasEntryOf u.log i → IsOldAt d.life c.now (map.get m (intent_key i q.home)) → IsGoneOrOld d.life c.now h.gone h.kept q.home i) behind
      (λ x r later u there i of old.
      let z = is_of h.gone (chain m (head_key x)) (chain h.kept (head_key x)) (h.less.cells x) r u there in
      seated_old i x.func (entries_have_rows d c h.kept h.upkeep x r z.kept z.there i (subst (λ es. HasEntryOf es i) z.less.log of)) old)

  -- so an intent that was looked at is left out
  left_out : (k : RowKey) → is_behind k.kind ≡ true → (i : IntentId) (is : List IntentId) → IsOldAt d.life c.now (map.get m (intent_key i k.home)) → (r : Option Row) → map.get m k ≡ r
      → IsProved d.life c.now h.gone h.kept k.home (i ∷ is) r → IsProved d.life c.now h.gone h.kept k.home is r
  left_out k behind i is old None at proved = tt
  left_out k behind i is old (Some (Row.Cell u)) at proved = (proved.0, λ j of. by_one j of (proved.1 j of))
    where
      by_one : (j : IntentId) → HasEntryOf u.log j → IsGoneOrOld d.life c.now h.gone h.kept k.home j ⊎ ((j ≡ i) ⊎ IsOf is j) → IsGoneOrOld d.life c.now h.gone h.kept k.home j ⊎ IsOf is j
      by_one j of (inl was) = inl was
      by_one j of (inr (inl same)) = inl (entry_old k behind u at j of (subst (λ z. IsOldAt d.life c.now (map.get m (intent_key z k.home))) (sym same) old))
      by_one j of (inr (inr rest)) = inr rest
  left_out k behind i is old (Some r) at proved = absurd proved

-- ---- after the turn, of what was so before it
module _ (d : Deployment) (c : Core) (m : Rows) (h : HasKept d c m) (w : LogCollector) (has : Collects d c m h w) where
  abbrev n : Rows
  n = rows_turned d.life c.now w m

  abbrev then_at : CollectorAt
  then_at = (turned c.newest d.life c.now w m).at

  abbrev at_found : (a : CollectorAt) → w.at ≡ a → Found d c m h a
  at_found a is = subst (Found d c m h) is has.found

  at_right : (a : CollectorAt) → w.at ≡ a → IsBegun c.newest w.cursor a
  at_right a is = subst (IsBegun c.newest w.cursor) is has.invariant

  found_row : (k : RowKey) (r : Row) → next_row m w.cursor ≡ Some (k, r) → map.get m k ≡ Some r
  found_row k r is = (subst (IsNext m w.cursor) is (next_row_least m w.cursor)).1

  chain_at : (k : RowKey) → is_behind k.kind ≡ true → (r : ℕ) → chain_of m k r ≡ map.get m (at_row k r)
  chain_at k behind = behind_item k (λ q. (r : ℕ) → chain_of m q r ≡ map.get m (at_row q r)) behind (λ x row later r. refl)

  there_kept : (k : RowKey) (r : Row) → map.get m k ≡ Some r → WasKept h.kept k
  there_kept k r is = was_kept d c m h k (ap is_some is)

  -- which may be marked
  abbrev IsToMark : RowKey × List IntentId → Type 0
  IsToMark z = WasKept h.kept z.0 × IsProved d.life c.now h.gone h.kept z.0.home z.1 (map.get m z.0)

  was_proved : (a : CollectorAt) (z : RowKey × List IntentId) → left_to_prove a ≡ Some z → IsBegun c.newest w.cursor a → Found d c m h a → IsToMark z × (is_behind z.0.kind ≡ true)
  was_proved (ToProve k i is) z e right f = subst (λ (z : RowKey × List IntentId). IsToMark z × (is_behind z.0.kind ≡ true)) (one (k, i ∷ is) z e) (f, right.1)
    where
      one : (a b : RowKey × List IntentId) → ◌≡◌ {A = Option (RowKey × List IntentId)} (Some a) (Some b) → a ≡ b
      one a b e = cc
  was_proved (ToMark k) z e right f = subst (λ (z : RowKey × List IntentId). IsToMark z × (is_behind z.0.kind ≡ true)) (one (k, []) z e) (f, right.1)
    where
      one : (a b : RowKey × List IntentId) → ◌≡◌ {A = Option (RowKey × List IntentId)} (Some a) (Some b) → a ≡ b
      one a b e = cc
  was_proved a z e right f = cc

  proved_then : (k : RowKey) (is : List IntentId) → left_to_prove then_at ≡ Some (k, is) → IsToMark (k, is)
  proved_then k is e = elim (only_proved.0 c.newest d.life c.now w m k is e) [
    | inl u ↦ let there = found_row k (Row.Cell u.cell) u.found in
        (there_kept k (Row.Cell u.cell) there, subst (IsProved d.life c.now h.gone h.kept k.home is) (sym there) (u.next, λ i of. inr (subst (λ z. IsOf z i) u.intents (only_proved.1 u.cell.log i of))))
    | inr u ↦ let was = was_proved w.at (k, u.intent ∷ is) u.left has.invariant has.found in
        (was.0.0, left_out d c m h k was.1 u.intent is u.old (map.get m k) refl was.0.1)
  ]

  -- ---- as rows are after the turn
  module _ (g : HasKept d c n) (later : IsLater h g) (on : LeadOn h.kept m n) where
    still : (a : CollectorAt) → then_at ≡ a → Found d c m h a → Found d c n g a
    still a is = found_at d c c m n h g later on (turned c.newest d.life c.now w m).cursor c.newest a (subst (IsBegun c.newest (turned c.newest d.life c.now w m).cursor) is (stay_invariant.2 c.newest d.life c.now w m has.invariant))

    to_drop : (k : RowKey) → then_at ≡ ToDrop k → IsRowOfOld d.life c.now h.gone h.kept k
    to_drop k is = let r = only_recyclable c.newest d.life c.now w m k has.invariant is in
        looks_find_old d c m h k r.1.intent (at_found (ToLook k) r.0) r.1.belongs (is_old d c m h (map.get m (seat_of k r.1.intent)) r.1.old)

    now_there : (k : RowKey) (v : Option Row) → n ≡ set_row m k v → map.get n k ≡ v
    now_there k v is = ap (λ z. map.get z k) is ∙ got m k k v ∙ ap (λ b. cond b v (map.get m k)) (key_self k)

    -- ---- which is to be led past
    abbrev IsToLead : RowKey → ℕ → ℕ → Type 0
    IsToLead k to at = Found d c n g (ToLead k to at)

    marked_there : (k : RowKey) (to at : ℕ) → then_at ≡ ToLead k to at → at ≡ 0 → FindsMarked w m k to → IsToLead k to at
    marked_there k to at is first u = let there = found_row k (Row.Cell u.cell) u.found in
        still (ToLead k to at) is (there_kept k (Row.Cell u.cell) there, subst (IsMarkedTo to) (sym there) (u.marked, u.next), subst (IsOnWay (chain_of m k) (row_of k.kind)) (sym first) (ways_begin (chain_of m k) (row_of k.kind)))

    marked_now : (at : ℕ) → at ≡ 0 → (k : RowKey) (to : ℕ) → Marks w.at m n k to → IsToLead k to at
    marked_now at first k to u =
        let q : RowKey = u.change.key in
        let mark : IsMarkedTo u.change.to (Some (Row.Cell (record u.change.cell { marked = true }))) = (refl, u.change.next) in
        let f : IsToLead q u.change.to at = (
          later.rows q (at_found (ToMark q) u.change.begun).0,
          subst (IsMarkedTo u.change.to) (sym (now_there q (Some (Row.Cell (record u.change.cell { marked = true }))) u.change.done)) mark,
          subst (IsOnWay (chain_of n q) (row_of q.kind)) (sym first) (ways_begin (chain_of n q) (row_of q.kind)),
        ) in
        subst (λ z. IsToLead z to at) u.key (subst (λ z. IsToLead q z at) u.next f)

    leads_on : (k : RowKey) (to at : ℕ) → then_at ≡ ToLead k to at → LeadsOn w m k to at → IsToLead k to at
    leads_on k to at is u =
        let f = at_found (ToLead k to u.from) u.begun in
        still (ToLead k to at) is (f.0, f.1, ways_go_on (chain_of m k) (row_of k.kind) u.from at u.cell (chain_at k (at_right (ToLead k to u.from) u.begun).1 u.from ∙ u.there) u.next (at_right (ToLead k to u.from) u.begun).2 f.2)

    to_lead : (k : RowKey) (to at : ℕ) → then_at ≡ ToLead k to at → IsToLead k to at
    to_lead k to at is = elim (only_marked.0 c.newest d.life c.now w m k to at is) [
      | inl u ↦ elim u.1 [
        | inl there ↦ marked_there k to at is u.0 there
        | inr now ↦ marked_now at u.0 k to now
      ]
      | inr u ↦ leads_on k to at is u
    ]

    to_skip : (k : RowKey) (to at : ℕ) → then_at ≡ ToSkip k to at → Found d c n g (ToSkip k to at)
    to_skip k to at is = let u = only_marked.1 c.newest d.life c.now w m k to at is in let f = at_found (ToLead k to at) u.begun in still (ToSkip k to at) is (f.0, f.1)

    -- ---- which is to be left adrift
    sees_past : (k : RowKey) → then_at ≡ ToDangle k → SeesPast w m k → Found d c n g (ToDangle k)
    sees_past k is u =
        let f = at_found (ToLead k u.to u.at) u.begun in
        still (ToDangle k) is (f.0, marked_follower u.to (map.get m k) f.1, ways_end (chain_of m k) (row_of k.kind) u.at u.cell (chain_at k (at_right (ToLead k u.to u.at) u.begun).1 u.at ∙ u.there) (λ z next. past_row (row_of k.kind) u.cell.next z next u.past) (at_right (ToLead k u.to u.at) u.begun).2 f.2)
      where
        past_row : (x : ℕ) (o : Option ℕ) (z : ℕ) → o ≡ Some z → IsPastRow x o → x < z
        past_row x (Some y) z is past = let same : y ≡ z = one y z is in omega (arith, same, past)
          where
            one : (a b : ℕ) → ◌≡◌ {A = Option ℕ} (Some a) (Some b) → a ≡ b
            one a b e = cc
        past_row x None z is past = cc

    led_past : (k : RowKey) → Skips w.at m n k → Found d c n g (ToDangle k)
    led_past k u =
        let r = u.change in
        let f = at_found (ToSkip r.key r.to r.at) r.begun in
        let right = at_right (ToSkip r.key r.to r.at) r.begun in
        let so = lead_on_at h.kept m n on r.key right.1 f.0 (marked_follower r.to (map.get m r.key) f.1) in
        let z : Found d c n g (ToDangle r.key) = (
          later.rows r.key f.0,
          follower_stays (map.get m r.key) (map.get n r.key) (marked_follower r.to (map.get m r.key) f.1) so.1,
          (skipped d c m h w.cursor w.at n has.invariant has.found r).1,
        ) in
        subst (λ z. Found d c n g (ToDangle z)) u.key z

    to_dangle : (k : RowKey) → then_at ≡ ToDangle k → Found d c n g (ToDangle k)
    to_dangle k is = elim (only_passed c.newest d.life c.now w m k is) [
      | inl u ↦ sees_past k is u
      | inr u ↦ led_past k u
    ]

    -- ---- whatever it is at then
    finds_at : (a : CollectorAt) → then_at ≡ a → Found d c n g a
    finds_at Before is = tt
    finds_at (ToDropIntent k) is = tt
    finds_at (ToLook k) is = later.rows k (was_kept d c m h k (looks_there c.newest d.life c.now w m k is))
    finds_at (ToDrop k) is = still (ToDrop k) is (to_drop k is)
    finds_at (ToProve k i is) e = still (ToProve k i is) e (proved_then k (i ∷ is) (ap left_to_prove e))
    finds_at (ToMark k) is = still (ToMark k) is (proved_then k [] (ap left_to_prove is))
    finds_at (ToLead k to at) is = to_lead k to at is
    finds_at (ToSkip k to at) is = to_skip k to at is
    finds_at (ToDangle k) is = to_dangle k is
    finds_at (ToDropCell k) is = tt

    pub finds : Found d c n g then_at
    finds = finds_at then_at refl
