-- A row of an item is marked, leads past another, is left adrift, or goes.
use Rattle.std.specs.FinMap as map
use Rattle.std.specs.Ordering.{is_eq}
use Rattle.std.proofs.Common.{◌≡◌, ◌⊎◌, inl, inr, ltb-true, ℕ, ◌+◌, ◌<◌, ◌≤◌, Bool, true, false, cond, List, [], ◌∷◌, Option, Some, None, is_some, if◌then◌else◌, refl, ap, sym, ◌∙◌, subst, arith}
use Rattle.beldi_value.specs.declared.{id.IntentId.IntentId, place.Place.Place}
use Rattle.beldi_tree.specs.declared.deployment.Deployment.{Deployment}
use Rattle.beldi_plain.specs.Item.{Item, item_cmp}
use Rattle.beldi_row.specs.{Act.is_adrift, Act.is_past, Key.RowKey, Key.at_row, Key.key_cmp, Log.note_at, Log.place_eq, Table.Rows, Table.set_row, declared.notes.Note.Note, declared.row.Cell.Cell, declared.row.Row.Row}
use Rattle.beldi_row.proofs.{Gets.got, Gets.key_same, Logs.place_same}
use Rattle.beldi_intent.specs.Intent.{root_key}
use Rattle.beldi_chain.specs.Chain.{Chain, chain}
use Rattle.beldi_links.specs.Links.{LeadsTo, SetTo}
use Rattle.beldi_links.proofs.{LinkKeeps.row_set, Meets.rows_below, Ways.one_step, Ways.then_way}
use Rattle.beldi_splice.specs.{SpliceLaws.LeadsOver, Onward.HasFollower, Onward.Onward, Splice.IsMoored, Splice.IsPassable, Splice.IsSafeFrom, Splice.IsThreaded, Splice.LeadsPast, Splice.LessChain, Splice.MayFollow}
use Rattle.beldi_splice.proofs.{Alike.first_there, Both.there_linked, Onward.drops_lead_on, Onward.marks_lead_on, Onward.same_leads_on, Onward.skips_lead_on, Pruned.dangles_keep, Pruned.drops_keep, Pruned.is_of, Pruned.marks_keep, Pruned.skipped_are_unled, Pruned.skips_keep}
use Rattle.beldi_prune.specs.CellEntries.{HasEntryOf}
use Rattle.beldi_step.specs.{HostStep.Core, declared.run.Run.Run}
use Rattle.beldi_histories.specs.{Contents.head_key, Stands.key_in}
use Rattle.beldi_histories.proofs.Acts.{by_item, item_head, other_item}
use Rattle.beldi_upkeep.specs.{Callees.belongs_to, WorksFor.finish_in}
use Rattle.beldi_kept.specs.{KeptRows.HasKept, KeptRows.IsLater, KeptRows.IsOld, KeptRows.IsOver, KeptRows.IsUnbound, Less.IsGone, Less.Less, Less.is_item, Safe.IsMarkedTo}
use Rattle.beldi_kept.proofs.{Items.alone, Less.was_there, Passing.LeadOn, Staying.StaysOn, Staying.for_run}

-- ---- what a turn of a collector leaves: the rows that others found go on, and nobody more is gone
pub record Sets (d : Deployment) (c : Core) (m n : Rows) (h : HasKept d c m) : Type 0 where
  pub has : HasKept d c n
  pub later : IsLater h has
  pub latest : has.latest ≡ h.latest
  pub on : LeadOn h.kept m n

-- ---- entries
-- a note of a place is an entry of its intent
entry_of : (es : List (Place × Note)) (p : Place) (w : Note) → note_at es p ≡ Some w → HasEntryOf es p.intent
entry_of [] p w is = cc
entry_of (e ∷ es) p w is = by_test (place_eq e.0 p) refl is (entry_of es p w)
  where
    by_test : (b : Bool) → place_eq e.0 p ≡ b → (if b then Some e.1 else note_at es p) ≡ Some w → (note_at es p ≡ Some w → HasEntryOf es p.intent) → HasEntryOf (e ∷ es) p.intent
    by_test true same is rest = inl (ap (λ (z : Place). z.intent) (sym (place_same e.0 p same)))
    by_test false same is rest = inr (rest is)

led_past : (gone : IntentId → Bool) (f : Chain) (n : ℕ) (y o : Option ℕ) → is_some y ≡ true → LeadsPast gone f n y o → is_some o ≡ true
led_past gone f n (Some y) (Some k) some past = refl
led_past gone f n (Some y) None some past = absurd past
led_past gone f n None o some past = cc

-- ---- a marked row that is there
record HasMarkedCell (to : ℕ) (r : Option Row) : Type 0 where
  cell : Cell
  there : r ≡ Some (Row.Cell cell)
  marked : cell.marked ≡ true
  after : cell.next ≡ Some to

marked_cell : (to : ℕ) (r : Option Row) → IsMoored r → IsMarkedTo to r → HasMarkedCell to r
marked_cell to (Some (Row.Cell u)) moored marked = record { cell = u; there = refl; marked = marked.0; after = marked.1 }
marked_cell to None moored marked = absurd moored
marked_cell to (Some r) moored marked = absurd moored

-- ---- a row that is adrift for more than a life
pub record IsLongAdrift (life now : ℕ) (r : Row) : Type 0 where
  pub cell : Cell
  pub is : r ≡ Row.Cell cell
  pub since : ℕ
  pub adrift : cell.dangled ≡ Some since
  pub old : since + life < now

pub long_adrift : (life now : ℕ) (r : Row) → is_adrift life now r ≡ true → IsLongAdrift life now r
long_adrift life now (Row.Cell u) is = by_moment u.dangled refl is
  where
    by_moment : (o : Option ℕ) → u.dangled ≡ o → is_past life now o ≡ true → IsLongAdrift life now (Row.Cell u)
    by_moment (Some t) at is = record { cell = u; is = refl; since = t; adrift = at; old = ltb-true (t + life) now is }
    by_moment None at is = cc
long_adrift life now r is = cc

-- ---- one row of an item is set
module _ (d : Deployment) (c : Core) (m : Rows) (h : HasKept d c m) (y : Item) (row : ℕ) where
  abbrev key : RowKey
  key = at_row (head_key y) row

  abbrev g : Chain
  g = chain m (head_key y)

  abbrev f : Chain
  f = chain h.kept (head_key y)

  module _ (v : Option Row) where
    abbrev n : Rows
    n = set_row m key v

    abbrev then_chain : Chain
    then_chain = chain n (head_key y)

    pub set_there : SetTo g row v then_chain
    set_there = row_set m (head_key y) (item_head y) row v

    other_chain : (x : Item) → is_eq (item_cmp y x) ≡ false → chain n (head_key x) ≡ chain m (head_key x)
    other_chain x apart = other_item m n y (alone y row m v) x apart

    -- rows of others stay
    off_item_same : (k : RowKey) → is_item k.kind ≡ false → map.get n k ≡ map.get m k
    off_item_same k off = got m key k v ∙ by_test (is_eq (key_cmp k key)) refl
      where
        by_test : (b : Bool) → is_eq (key_cmp k key) ≡ b → cond b v (map.get m k) ≡ map.get m k
        by_test true e = let clash : true ≡ false = ap (λ (q : RowKey). is_item q.kind) (sym (key_same k key e)) ∙ off in cc
        by_test false e = refl

    leads_on : ((r : ℕ) → HasFollower (g r) → Onward g then_chain r) → LeadOn h.kept m n
    leads_on own = record {
      each = λ x r there. by_item y x (λ z. HasFollower (map.get m (at_row (head_key z) r)) → Onward (chain m (head_key z)) (chain n (head_key z)) r) (own r)
          (λ apart follows. subst (λ z. Onward (chain m (head_key x)) z r) (sym (other_chain x apart)) (same_leads_on (chain m (head_key x)) r follows));
    }

    module _ (less : LessChain h.gone then_chain f) (threads : is_some (then_chain 0) ≡ true → IsThreaded then_chain)
        (stays : (s : ℕ) (r : Run) → map.get c.runs s ≡ Some r → c.now ≤ r.deadline → (q : ℕ) → (IsSafeFrom d.life r.deadline g q → IsSafeFrom d.life r.deadline then_chain q) × (MayFollow d.life r.deadline g q → MayFollow d.life r.deadline then_chain q)) where
      still_less : Less h.gone n h.kept
      still_less = record {
        rows = λ k off. subst (λ z. (z ≡ map.get h.kept k) ⊎ ((z ≡ None) × IsGone h.gone (belongs_to k.kind))) (sym (off_item_same k off)) (h.less.rows k off);
        cells = λ x. by_item y x (λ z. LessChain h.gone (chain n (head_key z)) (chain h.kept (head_key z))) less (λ apart. subst (λ z. LessChain h.gone z (chain h.kept (head_key x))) (sym (other_chain x apart)) (h.less.cells x));
        threads = λ x. by_item y x (λ z. is_some (map.get n (head_key z)) ≡ true → IsThreaded (chain n (head_key z))) threads
            (λ apart there. subst IsThreaded (sym (other_chain x apart)) (h.less.threads x (sym (ap (λ (z : Chain). is_some (z 0)) (other_chain x apart)) ∙ there)));
      }

      still_over : (i : IntentId) → IsOver d.life c.newest h.latest m h.kept i → IsOver d.life c.newest h.latest n h.kept i
      still_over i o = record { home = o.home; over = subst (λ z. IsOld d.life h.latest (finish_in (map.get h.kept (key_in o.home i))) ⊎ IsUnbound c.newest i z (map.get h.kept (key_in o.home i))) (sym (off_item_same (key_in o.home i) refl)) o.over }

      on : (s : ℕ) (r : Run) → map.get c.runs s ≡ Some r → c.now ≤ r.deadline → StaysOn d.life r.deadline m n
      on s r live in_time = record {
        safe = λ x q. by_item y x (λ z. IsSafeFrom d.life r.deadline (chain m (head_key z)) q → IsSafeFrom d.life r.deadline (chain n (head_key z)) q) (stays s r live in_time q).0
            (λ apart. subst (λ z. IsSafeFrom d.life r.deadline z q) (sym (other_chain x apart)));
        follows = λ x q. by_item y x (λ z. MayFollow d.life r.deadline (chain m (head_key z)) q → MayFollow d.life r.deadline (chain n (head_key z)) q) (stays s r live in_time q).1
            (λ apart. subst (λ z. MayFollow d.life r.deadline z q) (sym (other_chain x apart)));
      }

      set_has : HasKept d c n
      set_has = record {
        kept = h.kept;
        upkeep = h.upkeep;
        wanted = h.wanted;
        gone = h.gone;
        less = still_less;
        latest = h.latest;
        over = λ i off. still_over i (h.over i off);
        spared = h.spared;
        ahead = λ s r live in_time. for_run d.life m n r (on s r live in_time) r.at (h.ahead s r live in_time);
        newest = subst (λ z. (c.newest ≡ 0) ⊎ (is_some z ≡ true)) (sym (off_item_same (root_key c.newest) refl)) h.newest;
      }

      pub sets : ((r : ℕ) → HasFollower (g r) → Onward g then_chain r) → Sets d c m n h
      unfolding set_has
      sets own = record {
        has = set_has;
        later = record { moment = omega arith; ticket = omega arith; rows = λ q there. there; finishes = λ q z is. is; gone = λ i off. off; latest = omega arith };
        latest = refl;
        on = leads_on own;
      }

  -- ---- rows of an item are threaded where one is there
  kept_first : (r : ℕ) → (o : Option Row) → f r ≡ o → is_some o ≡ true → is_some (f 0) ≡ true
  kept_first r (Some z) at some = rows_below f (there_linked f (h.upkeep.invariant.rows.chains y) r z at) r 0 z at (omega arith)
  kept_first r None at some = cc

  threaded : (r : ℕ) (s : Row) → g r ≡ Some s → IsThreaded g
  threaded r s is = h.less.threads y (first_there h.gone f (g 0) (f 0) (h.less.cells y 0) (kept_first r (f r) refl (was_there h.gone m h.kept h.less (at_row (head_key y) r) (ap is_some is))))

  -- ---- what is done to a cell that is there
  module _ (cell : Cell) (there : g row ≡ Some (Row.Cell cell)) where
    threads_here : IsThreaded g
    threads_here = threaded row (Row.Cell cell) there

    -- it is marked
    abbrev marked_row : Option Row
    marked_row = Some (Row.Cell (record cell { marked = true }))

    passable : 0 < row → is_some cell.next ≡ true → ((i : IntentId) → HasEntryOf cell.log i → h.gone i ≡ true) → IsPassable h.gone row (f row)
    passable later next all = let k = is_of h.gone g f (h.less.cells y) row cell there in record {
      cell = k.kept;
      there = k.there;
      later = later;
      followed = led_past h.gone f row cell.next k.kept.next next k.less.next;
      entries = λ p w is. all p.intent (entry_of cell.log p w (ap (λ es. note_at es p) k.less.log ∙ is));
    }

    pub marks : 0 < row → is_some cell.next ≡ true → ((i : IntentId) → HasEntryOf cell.log i → h.gone i ≡ true) → Sets d c m (set_row m key marked_row) h
    marks later next all =
        let keeps = marks_keep h.gone g f (then_chain marked_row) row cell there (passable later next all) (set_there marked_row) (h.less.cells y) threads_here in
        sets marked_row keeps.less keeps.threads (λ s r live in_time q. (keeps.safe d.life r.deadline q, keeps.follows d.life r.deadline q))
        (λ r follows. marks_lead_on g (then_chain marked_row) row cell (record cell { marked = true }) there (set_there marked_row) (record { next = refl; log = refl; marked = λ m. refl }) r follows)

    -- it leads past a marked one, and the first row does not lead to that then
    module _ (x to : ℕ) (unmarked : cell.marked ≡ false) (next : cell.next ≡ Some x) (rises : row < x) (further : x < to) (marked : IsMarkedTo to (g x)) where
      abbrev skipped_row : Option Row
      skipped_row = Some (Row.Cell (record cell { next = Some to }))

      led : LeadsTo g 0 row
      led = threads_here.leads row cell there (ap is_some next) unmarked

      over : HasMarkedCell to (g x)
      over = marked_cell to (g x) (threads_here.there x (then_way g 0 row x led (one_step g row cell x there next rises))) marked

      leads_over : LeadsOver g row x to cell over.cell
      leads_over = record { here = there; unmarked = unmarked; next = next; there = over.there; marked = over.marked; after = over.after; rises = rises; further = further }

      pub skips : Sets d c m (set_row m key skipped_row) h
      skips =
          let keeps = skips_keep h.gone g f (then_chain skipped_row) row x to cell over.cell leads_over (set_there skipped_row) (h.less.cells y) threads_here in
          sets skipped_row keeps.less keeps.threads (λ s r live in_time q. (keeps.safe d.life r.deadline q, keeps.follows d.life r.deadline q))
          (λ r follows. skips_lead_on g (then_chain skipped_row) row x to cell over.cell leads_over (set_there skipped_row) threads_here r follows)

      pub unled_then : LeadsTo (then_chain skipped_row) 0 x → ⊥
      unled_then = skipped_are_unled g (then_chain skipped_row) row x to cell over.cell leads_over (set_there skipped_row) led

    -- it is left adrift from now on, where the first row does not lead to it
    abbrev dangled_row : Option Row
    dangled_row = Some (Row.Cell (record cell { dangled = Some c.now }))

    pub dangles : cell.marked ≡ true → (LeadsTo g 0 row → ⊥) → Sets d c m (set_row m key dangled_row) h
    dangles marked unled =
        let keeps = dangles_keep h.gone g f (then_chain dangled_row) row c.now cell there marked unled (set_there dangled_row) (h.less.cells y) threads_here in
        sets dangled_row keeps.0 (λ first. keeps.1) (λ s r live in_time q. keeps.2 d.life r.deadline q (let soon = h.upkeep.near.soon s r live in omega (arith, soon)))
        (λ r follows. marks_lead_on g (then_chain dangled_row) row cell (record cell { dangled = Some c.now }) there (set_there dangled_row) (record { next = refl; log = refl; marked = λ m. m }) r follows)

    -- it goes, where it was adrift for more than a life
    pub goes : (since : ℕ) → cell.dangled ≡ Some since → since + d.life < c.now → Sets d c m (set_row m key None) h
    goes since adrift old =
        let keeps = drops_keep h.gone g f (then_chain None) row since cell there adrift (set_there None) (h.less.cells y) threads_here in
        sets None keeps.0 (λ first. keeps.1) (λ s r live in_time q. keeps.2 d.life c.now r.deadline q old in_time)
        (λ r follows. drops_lead_on g (then_chain None) row since cell there adrift (set_there None) threads_here r follows)
