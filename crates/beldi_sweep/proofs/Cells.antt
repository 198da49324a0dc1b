-- What a sweep does with a row of an item that is not the first: it passes it, removes it, or leads the first row past it.
use Rattle.std.specs.Prelude.{nat_lt, if◌then◌else◌}
use Rattle.std.specs.FinMap as map
use Rattle.std.proofs.lemmas.Bool.{eqb-false}
use Rattle.std.proofs.lemmas.Option.{none-some, same_Some}
use Rattle.std.proofs.Common.{◌≡◌, inl, inr, ℕ, ◌<◌, ◌≤◌, Bool, true, false, List, [], ◌∷◌, is_some, Option, Some, None, refl, ap, sym, ◌∙◌, subst, arith, lt-ltb, ltb-false, ltb-true, ne_eqb}
use Rattle.beldi_value.specs.declared.{id.IntentId.IntentId, place.Place.Place}
use Rattle.beldi_row.specs.{Act.is_past, declared.key.Kind.Kind, declared.notes.Note.Note, declared.row.Cell.Cell, declared.row.Row.Row, Key.RowKey, Key.at_row, Table.Rows, Table.next_row, Table.set_row}
use Rattle.beldi_chain.specs.Chain.{Chain, chain}
use Rattle.beldi_links.specs.Links.{LeadsTo}
use Rattle.beldi_links.proofs.Ways.{one_step, same_or}
use Rattle.beldi_splice.specs.{SpliceLaws.LeadsOver, Splice.IsMoored}
use Rattle.beldi_splice.proofs.Alike.{strictly}
use Rattle.beldi_intent.specs.Intent.{intent_key}
use Rattle.beldi_prune.specs.{CellEntries.HasEntryOf, CellEntries.IsOf, CellEntries.intents_from, CellEntries.intents_of, CellEntries.is_other, PruneLaws.IsOldAt, Prune.begins, Prune.past, Prune.to_prove, Prune.todo_of, Unlink.adrift_todo, Unlink.cell_todo, Unlink.item_todo, Unlink.linked_todo, Unlink.next_todo}
use Rattle.beldi_prune.specs.declared.found.Todo.{Todo, TheVariants.Pass, TheVariants.DropAdrift, TheVariants.LeadPast, TheVariants.Prove}
use Rattle.beldi_prune.specs.declared.collector.CollectorAt.TheVariants.{ToMark, ToLead, ToSkip, ToDangle, ToDropCell}
use Rattle.beldi_sweep.specs.{Done.IsDone, Done.IsReady, Done.IsTidying, SweptRows.IsSound, SweptRows.IsTrim, Sweep.Sweep}
use Rattle.beldi_sweep.proofs.Going.{Comes, Turns, stays, sweep, turn_then}
use Rattle.beldi_sweep.proofs.{Passing.done, Passing.done_gone, Passing.done_passed, SweptPlaces.none_between, SweptPlaces.there as is_there, SweptPlaces.up_to}
use Rattle.beldi_sweep.proofs.CellsSound.{drop_sound, not_led, set_sound, skip_sound}
use Rattle.beldi_sweep.proofs.CellsKept.{Kept, both_kept, cell_below, cell_key, first_kept, none_changed, row, set_in_chain, set_kept, sound_kept, trim_or}
use Rattle.beldi_sweep.proofs.CellsTurned.{dangles, drops, leads_past, leads_there, marks, proves, skips, stands}

-- ---- the intents of entries
-- each has an entry
has_entry : (before : Option IntentId) (es : List (Place × Note)) (i : IntentId) → IsOf (intents_from before es) i → HasEntryOf es i
has_entry before [] i of = absurd of
has_entry before (e ∷ es) i of = by_other (is_other before e.0.intent) (has_entry (Some e.0.intent) es i) of
  where
    by_other : (b : Bool) → (IsOf (intents_from (Some e.0.intent) es) i → HasEntryOf es i) → IsOf (if b then e.0.intent ∷ intents_from (Some e.0.intent) es else intents_from (Some e.0.intent) es) i → HasEntryOf (e ∷ es) i
    by_other true rest (inl same) = inl same
    by_other true rest (inr of) = inr (rest of)
    by_other false rest of = inr (rest of)

by_option : {A P : Type 0} (o : Option A) → (o ≡ None → P) → ((x : A) → o ≡ Some x → P) → P
by_option None none some = none refl
by_option (Some x) none some = some x refl

by_cases : {P : Type 0} (b : Bool) → (b ≡ true → P) → (b ≡ false → P) → P
by_cases true f g = f refl
by_cases false f g = g refl

moored_cell : (r : Option Row) → IsMoored r → (c : Cell) × (r ≡ Some (Row.Cell c)) × (c.dangled ≡ None)
moored_cell (Some (Row.Cell c)) moored = (c, refl, moored)
moored_cell None moored = absurd moored
moored_cell (Some r) moored = absurd moored

module _ (newest life now : ℕ) (cursor : RowKey) (home t : ℕ) (q : List ℕ) (n : ℕ) (later : 0 < n) where
  abbrev at : ℕ → RowKey
  at a = row home t q a

  abbrev chain_in : Rows → Chain
  chain_in m = chain m (at 0)

  abbrev passed : Rows → Sweep
  passed m = sweep (past (at n)) m

  -- ---- its chain is led past it
  -- it comes past the row, and then that is adrift
  record Led (m : Rows) (s : Sweep) : Type 0 where
    rows : Rows
    path : Comes newest life now s (passed rows)
    kept : Kept home t q n m rows
    sound : IsSound (chain_in rows)
    cell : Cell
    there : map.get rows (at n) ≡ Some (Row.Cell cell)
    adrift : is_some cell.dangled ≡ true

  led_then : (m o : Rows) (s u : Sweep) → Turns newest life now s u → Kept home t q n m o → Led o u → Led m s
  led_then m o s u turn kept led = record {
    rows = led.rows;
    path = turn_then newest life now s u (passed led.rows) turn led.path;
    kept = both_kept home t q n m o led.rows kept led.kept;
    sound = led.sound;
    cell = led.cell;
    there = led.there;
    adrift = led.adrift;
  }

  -- it has a next, and is not adrift
  record IsLinked (m : Rows) (c : Cell) (to : ℕ) (marked : Bool) : Type 0 where
    sound : IsSound (chain_in m)
    there : map.get m (at n) ≡ Some (Row.Cell c)
    next : c.next ≡ Some to
    so : c.marked ≡ marked
    fresh : c.dangled ≡ None

  -- the first row leads to this one
  record Leads (m : Rows) (y : ℕ) : Type 0 where
    cell : Cell
    there : map.get m (at 0) ≡ Some (Row.Cell cell)
    next : cell.next ≡ Some y

  dangled : (m : Rows) (c : Cell) (to : ℕ) → IsLinked m c to true → (y : ℕ) → Leads m y → n < y → Led m (stands newest life now cursor (ToDangle (at n)) m)
  dangled m c to l y f past =
      let d : Cell = record c { dangled = Some now } in
      let v : Option Row = Some (Row.Cell d) in
      let p : Rows = set_row m (at n) v in
      let s = set_in_chain home t q m n v in
      record {
        rows = p;
        path = turn_then newest life now (stands newest life now cursor (ToDangle (at n)) m) (passed p) (passed p) (dangles newest life now cursor m (at n) c l.there l.so l.fresh) (stays newest life now (passed p));
        kept = set_kept home t q n m v;
        sound = set_sound (chain_in m) (chain_in p) n c d l.sound later l.there (ap is_some l.next) s refl refl l.so (λ led. absurd (not_led (chain_in m) n later f.cell y f.there f.next past led));
        cell = d;
        there = s.here;
        adrift = refl;
      }

  skipped : (m : Rows) (c : Cell) (to : ℕ) → IsLinked m c to true → Leads m n → Led m (stands newest life now cursor (ToSkip (at n) to 0) m)
  skipped m c to l f =
      let d : Cell = record f.cell { next = Some to } in
      let v : Option Row = Some (Row.Cell d) in
      let p : Rows = set_row m (at 0) v in
      let s = set_in_chain home t q m 0 v in
      let unmarked = (l.sound.first f.cell f.there).0 in
      let rise = l.sound.rises n to c l.there l.next in
      let over : LeadsOver (chain_in m) 0 n to f.cell c = record { here = f.there; unmarked = unmarked; next = f.next; there = l.there; marked = l.so; after = l.next; rises = later; further = rise } in
      let linked : IsLinked p c to true = record {
        sound = skip_sound (chain_in m) (chain_in p) n to f.cell c l.sound over s;
        there = s.others n (ne_eqb n 0 (λ same. omega (arith, same, later))) ∙ l.there;
        next = l.next;
        so = l.so;
        fresh = l.fresh;
      } in
      led_then m p (stands newest life now cursor (ToSkip (at n) to 0) m) (stands newest life now cursor (ToDangle (at n)) p) (skips newest life now cursor m (at n) to f.cell f.there unmarked f.next rise)
      (first_kept home t q n m v) (dangled p c to linked to (record { cell = d; there = s.here; next = refl }) rise)

  led : (m : Rows) (c : Cell) (to : ℕ) → IsLinked m c to true → (y : ℕ) → Leads m y → n ≤ y → Led m (stands newest life now cursor (ToLead (at n) to 0) m)
  led m c to l y f far = same_or n y
      (λ same. led_then m m (stands newest life now cursor (ToLead (at n) to 0) m) (stands newest life now cursor (ToSkip (at n) to 0) m) (leads_there newest life now cursor m (at n) to f.cell y f.there f.next (sym same))
      (none_changed home t q n m) (skipped m c to l (subst (Leads m) (sym same) f)))
      (λ off. let past = strictly n y far (eqb-false n y off) in led_then m m (stands newest life now cursor (ToLead (at n) to 0) m) (stands newest life now cursor (ToDangle (at n)) m)
      (leads_past newest life now cursor m (at n) to f.cell y f.there f.next past) (none_changed home t q n m) (dangled m c to l y f past))

  marked : (m : Rows) (c : Cell) (to : ℕ) → IsLinked m c to false → (y : ℕ) → Leads m y → n ≤ y → Led m (stands newest life now cursor (ToMark (at n)) m)
  marked m c to l y f far =
      let d : Cell = record c { marked = true } in
      let v : Option Row = Some (Row.Cell d) in
      let p : Rows = set_row m (at n) v in
      let s = set_in_chain home t q m n v in
      let linked : IsLinked p d to true = record {
        sound = set_sound (chain_in m) (chain_in p) n c d l.sound later l.there (ap is_some l.next) s refl refl refl (λ path. l.fresh);
        there = s.here;
        next = l.next;
        so = refl;
        fresh = l.fresh;
      } in
      let first : Leads p y = record { cell = f.cell; there = s.others 0 (ne_eqb 0 n (λ same. omega (arith, same, later))) ∙ f.there; next = f.next } in
      led_then m p (stands newest life now cursor (ToMark (at n)) m) (stands newest life now cursor (ToLead (at n) to 0) p) (marks newest life now cursor m (at n) c to l.there l.next)
      (set_kept home t q n m v) (led p d to linked y first far)

  proved : (m : Rows) (c : Cell) (to : ℕ) → IsLinked m c to false → (y : ℕ) → Leads m y → n ≤ y → ((i : IntentId) → HasEntryOf c.log i → IsOldAt life now (map.get m (intent_key i home)))
      → Led m (stands newest life now cursor (to_prove (at n) (intents_of c.log)) m)
  proved m c to l y f far old =
      let on = marked m c to l y f far in
      record {
        rows = on.rows;
        path = proves newest life now cursor m (at n) (intents_of c.log) (λ i of. old i (has_entry None c.log i of)) (passed on.rows) on.path;
        kept = on.kept;
        sound = on.sound;
        cell = on.cell;
        there = on.there;
        adrift = on.adrift;
      }

  -- ---- where the first row leads
  module _ (m : Rows) (c : Cell) (ready : IsReady newest life now cursor m) (next : next_row m cursor ≡ Some (at n, Row.Cell c)) where
    there : map.get m (at n) ≡ Some (Row.Cell c)
    there = is_there cursor m (at n, Row.Cell c) next

    sound : IsSound (chain_in m)
    sound = ready.sound.items (at n) t n q refl

    module _ (followed : is_some c.next ≡ true) where
      -- a row between is none: it would be trimmed, so the last, and then none has a next
      not_between : (y : ℕ) → 0 < y → y < n → LeadsTo (chain_in m) 0 y → (d : Cell) → map.get m (at y) ≡ Some (Row.Cell d) → d.dangled ≡ None → ⊥
      not_between y rise short path d is moored = elim (ready.trimmed (at y) (Row.Cell d) is) [
        | inl after ↦ none-some (Row.Cell d) (sym (none_between cursor m (at n, Row.Cell c) next (at y) after (cell_below home t q y n short)) ∙ is)
        | inr (inl first) ↦ omega (arith, first, rise)
        | inr (inr (inl last)) ↦ let past = sound.ends y d path is last n c there followed in omega (arith, past, short)
        | inr (inr (inr adrift)) ↦ let clash = sym adrift ∙ ap is_some moored in cc
      ]

      record LeadsFar : Type 0 where
        to : ℕ
        leads : Leads m to
        far : n ≤ to

      leads_far_to : (d : Cell) → map.get m (at 0) ≡ Some (Row.Cell d) → (y : ℕ) → d.next ≡ Some y → LeadsFar
      leads_far_to d is y to =
          let rise = sound.rises 0 y d is to in
          let path = one_step (chain_in m) 0 d y is to rise in
          by_cases (nat_lt y n)
          (λ e. let cell = moored_cell (map.get m (at y)) ((sound.threads (ap is_some is)).there y path) in absurd (not_between y rise (ltb-true y n e) path cell.0 cell.1 cell.2))
          (λ e. record { to = y; leads = record { cell = d; there = is; next = to }; far = ltb-false y n e })

      leads_far : LeadsFar
      leads_far = by_option (map.get m (at 0))
          (λ none. let clash = sym (sound.begins none n) ∙ there in cc)
          (λ r is. let cell = sound.cells 0 r is in let first : map.get m (at 0) ≡ Some (Row.Cell cell.0) = is ∙ ap Some cell.1 in
          by_option cell.0.next
          (λ none. let past = sound.ends 0 cell.0 ([], refl) first none n c there followed in absurd (omega (arith, past)))
          (λ y to. leads_far_to cell.0 first y to))

    -- ---- the sweep is done with the row
    todo_is : todo_of newest life now (Kind.Data t q n) (Row.Cell c) ≡ cell_todo life now c c.next
    todo_is = ap (λ b. if b then item_todo life now (Row.Cell c) else Pass) (lt-ltb 0 n later)

    passes : cell_todo life now c c.next ≡ Pass → IsTrim newest (Kind.Data t q n) (Row.Cell c) → (IsTidying newest life now cursor m → c.dangled ≡ None) → IsDone newest life now cursor (at n) m
    passes is = done_passed newest life now cursor m (at n, Row.Cell c) next ready (todo_is ∙ is)

    -- it is adrift for more than a life, and goes
    removed : cell_todo life now c c.next ≡ DropAdrift → is_past life now c.dangled ≡ true → is_some c.dangled ≡ true → IsDone newest life now cursor (at n) m
    removed is old adrift =
        let p : Rows = set_row m (at n) None in
        let turn = drops newest life now cursor m (at n) c there old in
        let path = turn_then newest life now (stands newest life now cursor (ToDropCell (at n)) m) (passed p) (passed p) turn (stays newest life now (passed p)) in
        done_gone newest life now cursor m (at n, Row.Cell c) next ready DropAdrift (todo_is ∙ is) path
        (sound_kept home t q n m p (set_kept home t q n m None) ready.sound (drop_sound (chain_in m) (chain_in p) n c sound later there adrift (set_in_chain home t q m n None)))

    -- its chain is led past it
    led_past : (todo : Todo) → cell_todo life now c c.next ≡ todo → (to : ℕ) → c.next ≡ Some to → c.dangled ≡ None → Led m (sweep (begins cursor (at n) todo) m) → IsDone newest life now cursor (at n) m
    led_past todo is to followed fresh on =
        let trim : (r : Row) → map.get on.rows (at n) ≡ Some r → IsTrim newest (Kind.Data t q n) r = λ r at. subst (IsTrim newest (Kind.Data t q n)) (same_Some (Row.Cell on.cell) r (sym on.there ∙ at)) (inr (inr on.adrift)) in
        done newest life now cursor m (at n, Row.Cell c) next ready todo (todo_is ∙ is) on.rows on.path (sound_kept home t q n m on.rows on.kept ready.sound on.sound)
        (up_to cursor m (at n, Row.Cell c) next (λ l r. IsTrim newest l.kind r) ready.trimmed on.rows (trim_or home t q n m on.rows on.kept newest trim) trim)
        (λ tidy. absurd (not_trim (tidy.trimmed (at n) (Row.Cell c) there)))
      where
        not_trim : IsTrim newest (Kind.Data t q n) (Row.Cell c) → ⊥
        not_trim (inl first) = omega (arith, first, later)
        not_trim (inr (inl last)) = let clash = sym last ∙ followed in cc
        not_trim (inr (inr adrift)) = let clash = sym adrift ∙ ap is_some fresh in cc

    old_entries : (i : IntentId) → HasEntryOf c.log i → IsOldAt life now (map.get m (intent_key i home))
    old_entries i entry = ready.old.entries (at n) t n q c i refl there entry

    todo_linked : (to : ℕ) → c.next ≡ Some to → c.dangled ≡ None → (b : Bool) → c.marked ≡ b → cell_todo life now c c.next ≡ linked_todo to c b
    todo_linked to followed fresh b so = ap (cell_todo life now c) followed ∙ ap (λ o. next_todo to life now c (is_some o)) fresh ∙ ap (linked_todo to c) so

    todo_adrift : (to : ℕ) → c.next ≡ Some to → (since : ℕ) → c.dangled ≡ Some since → (b : Bool) → is_past life now c.dangled ≡ b → cell_todo life now c c.next ≡ adrift_todo b
    todo_adrift to followed since adrift b old = ap (cell_todo life now c) followed ∙ ap (λ o. next_todo to life now c (is_some o)) adrift ∙ ap adrift_todo old

    linked_done : (to : ℕ) → c.next ≡ Some to → c.dangled ≡ None → (b : Bool) → c.marked ≡ b → IsDone newest life now cursor (at n) m
    linked_done to followed fresh true so =
        let f = leads_far (ap is_some followed) in
        let linked : IsLinked m c to true = record { sound = sound; there = there; next = followed; so = so; fresh = fresh } in
        led_past (LeadPast to) (todo_linked to followed fresh true so) to followed fresh (led m c to linked f.to f.leads f.far)
    linked_done to followed fresh false so =
        let f = leads_far (ap is_some followed) in
        let linked : IsLinked m c to false = record { sound = sound; there = there; next = followed; so = so; fresh = fresh } in
        led_past (Prove (intents_of c.log)) (todo_linked to followed fresh false so) to followed fresh (proved m c to linked f.to f.leads f.far old_entries)

    adrift_done : (to : ℕ) → c.next ≡ Some to → (since : ℕ) → c.dangled ≡ Some since → (b : Bool) → is_past life now c.dangled ≡ b → IsDone newest life now cursor (at n) m
    adrift_done to followed since adrift true old = removed (todo_adrift to followed since adrift true old) old (ap is_some adrift)
    adrift_done to followed since adrift false old = passes (todo_adrift to followed since adrift false old) (inr (inr (ap is_some adrift)))
        (λ tidy. let clash = sym (tidy.long (at n) c there (ap is_some adrift)) ∙ old in cc)

    -- the last row is not adrift
    last_moored : c.next ≡ None → (o : Option ℕ) → c.dangled ≡ o → c.dangled ≡ None
    last_moored none None is = is
    last_moored none (Some since) is = let clash = sym (sound.adrift n c there (ap is_some is)).1 ∙ ap is_some none in cc

    cell_done : IsDone newest life now cursor (at n) m
    cell_done = by_option c.next
        (λ none. passes (ap (cell_todo life now c) none) (inr (inl none)) (λ tidy. last_moored none c.dangled refl))
        (λ to followed. by_option c.dangled
        (λ fresh. linked_done to followed fresh c.marked refl)
        (λ since adrift. adrift_done to followed since adrift (is_past life now c.dangled) refl))

-- ---- of any row that is one of an item, and not the first
pub cells_done : (newest life now : ℕ) (cursor : RowKey) (m : Rows) (e : RowKey × Row) (t n : ℕ) (q : List ℕ) → e.0.kind ≡ Kind.Data t q n → 0 < n → IsReady newest life now cursor m → next_row m cursor ≡ Some e → IsDone newest life now cursor e.0 m
cells_done newest life now cursor m e t n q kind later ready next =
    let key : cell_key e.0.home t q n ≡ e.0 = λ i. record { home = e.0.home; kind = sym kind i } in
    let there = is_there cursor m e next in
    let cell = (ready.sound.items e.0 t n q kind).cells n e.1 (ap (map.get m) (row_is e.0.home e.0.kind kind) ∙ there) in
    subst (λ k. IsDone newest life now cursor k m) key (cell_done newest life now cursor e.0.home t q n later m cell.0 ready (next ∙ (λ i. Some (sym key i, cell.1 i))))
  where
    row_is : (home : ℕ) (kind : Kind) → kind ≡ Kind.Data t q n → at_row (at_row (record { home = home; kind = kind }) 0) n ≡ record { home = home; kind = kind }
    row_is home kind is = ap (λ (z : Kind). at_row (at_row (record { home = home; kind = z }) 0) n) is ∙ (λ i. record { home = home; kind = sym is i })
