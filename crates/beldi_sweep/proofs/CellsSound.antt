-- Rows of an item that stay sound, as one is marked, led past, left adrift or removed.
use Rattle.std.proofs.lemmas.Option.{none-some, same_Some}
use Rattle.std.proofs.Common.{◌≡◌, ◌==◌, ne_eqb, ℕ, ◌<◌, ◌≤◌, true, false, List, [], ◌∷◌, length, is_some, Some, None, refl, ap, sym, ◌∙◌, subst, arith}
use Rattle.beldi_row.specs.{declared.row.Cell.Cell, declared.row.Row.Row, Log.most_entries}
use Rattle.beldi_chain.specs.Chain.{Chain}
use Rattle.beldi_links.specs.Links.{LeadsTo, SetTo, Steps}
use Rattle.beldi_links.proofs.Ways.{one_cell, one_step, same_or, then_way}
use Rattle.beldi_splice.specs.{SpliceLaws.LeadsOver, Splice.IsMoored, Splice.IsThreaded}
use Rattle.beldi_splice.proofs.{Both.at_other, Leading.LeadsAs, Leading.leads, Leading.next_as, Leading.unset, Onward.ways_begin, Onward.ways_end, Pruned.around, Pruned.skip_back}
use Rattle.beldi_sweep.specs.SweptRows.{IsSound}

not_first : (n : ℕ) → 0 < n → (0 == n) ≡ false
not_first n later = ne_eqb 0 n (λ same. omega (arith, same, later))

pub few_entries : (g : Chain) → IsSound g → (n : ℕ) (c : Cell) → g n ≡ Some (Row.Cell c) → length c.log ≤ most_entries
few_entries g sound n c is = let cell = sound.cells n (Row.Cell c) is in subst (λ (z : Cell). length z.log ≤ most_entries) (sym (one_cell c cell.0 (ap Some cell.1))) cell.2

-- the first row does not lead to a row that it leads past
pub not_led : (g : Chain) (n : ℕ) → 0 < n → (c : Cell) (y : ℕ) → g 0 ≡ Some (Row.Cell c) → c.next ≡ Some y → n < y → LeadsTo g 0 n → ⊥
not_led g n later c y is next past = ways_end g n 0 c is (λ k to. let same : y ≡ k = same_Some y k (sym next ∙ to) in omega (arith, past, same)) later (ways_begin g n)

-- ---- a row with a next, that is marked from then on, or was so
module _ (g h : Chain) (n : ℕ) (c d : Cell) (sound : IsSound g) (later : 0 < n) (there : g n ≡ Some (Row.Cell c)) (followed : is_some c.next ≡ true) (s : SetTo g n (Some (Row.Cell d)) h) (log : d.log ≡ c.log) (next : d.next ≡ c.next) (marked : d.marked ≡ true)
    (moored : LeadsTo g 0 n → d.dangled ≡ None) where
  forth : LeadsAs g h
  forth = next_as g h n c d s there next

  back : LeadsAs h g
  back = next_as h g n d c (subst (λ z. SetTo h n z g) there (unset g h n (Some (Row.Cell d)) s)) s.here (sym next)

  first_stays : h 0 ≡ g 0
  first_stays = s.others 0 (not_first n later)

  set_is : (x : ℕ) (e : Cell) → h x ≡ Some (Row.Cell e) → x ≡ n → e ≡ d
  set_is x e is at = one_cell e d (sym is ∙ ap h at ∙ s.here)

  -- each row was there, and had the same next and entries
  was : (x : ℕ) (e : Cell) → h x ≡ Some (Row.Cell e) → (f : Cell) × (g x ≡ Some (Row.Cell f)) × (e.next ≡ f.next) × (e.log ≡ f.log)
  was x e is = same_or x n
      (λ at. let same = set_is x e is at in (c, ap g at ∙ there, ap (λ (z : Cell). z.next) same ∙ next, ap (λ (z : Cell). z.log) same ∙ log))
      (λ off. (e, sym (s.others x off) ∙ is, refl, refl))

  threads_stay : IsThreaded g → IsThreaded h
  threads_stay threaded = record {
    there = λ x path. let led = leads h g back 0 x path in at_other IsMoored g h n (Some (Row.Cell d)) s x (λ at. moored (subst (LeadsTo g 0) at led)) (threaded.there x led);
    leads = λ x e is to unmarked. same_or x n
        (λ at. let clash = sym marked ∙ ap (λ (z : Cell). z.marked) (sym (set_is x e is at)) ∙ unmarked in cc)
        (λ off. leads g h forth 0 x (threaded.leads x e (sym (s.others x off) ∙ is) to unmarked));
  }

  cells_stay : (x : ℕ) (r : Row) → h x ≡ Some r → (e : Cell) × (r ≡ Row.Cell e) × (length e.log ≤ most_entries)
  cells_stay x r is = same_or x n
      (λ at. (d, same_Some r (Row.Cell d) (sym is ∙ ap h at ∙ s.here), subst (λ z. length z ≤ most_entries) (sym log) (few_entries g sound n c there)))
      (λ off. sound.cells x r (sym (s.others x off) ∙ is))

  pub set_sound : IsSound h
  set_sound = record {
    cells = cells_stay;
    begins = λ none. let clash = sym there ∙ sound.begins (sym first_stays ∙ none) n in cc;
    first = λ e is. sound.first e (sym first_stays ∙ is);
    rises = λ x k e is to. let w = was x e is in sound.rises x k w.0 w.1 (sym w.2 ∙ to);
    adrift = λ x e is some. same_or x n
        (λ at. let same = set_is x e is at in (ap (λ (z : Cell). z.marked) same ∙ marked, ap (λ (z : Cell). is_some z.next) same ∙ ap is_some next ∙ followed))
        (λ off. sound.adrift x e (sym (s.others x off) ∙ is) some);
    threads = λ some. threads_stay (sound.threads (ap is_some (sym first_stays) ∙ some));
    ends = λ x e path is none y f at some. let w = was x e is in let v = was y f at in sound.ends x w.0 (leads h g back 0 x path) w.1 (sym w.2 ∙ none) y v.0 v.1 (ap is_some (sym v.2) ∙ some);
  }

-- ---- a row that is led past by the first
module _ (g h : Chain) (n to : ℕ) (c d : Cell) (sound : IsSound g) (o : LeadsOver g 0 n to c d) (s : SetTo g 0 (Some (Row.Cell (record c { next = Some to }))) h) where
  abbrev set_first : Cell
  set_first = record c { next = Some to }

  first_is : (x : ℕ) (e : Cell) → h x ≡ Some (Row.Cell e) → x ≡ 0 → e ≡ set_first
  first_is x e is at = one_cell e set_first (sym is ∙ ap h at ∙ s.here)

  first_was : (c.marked ≡ false) × (c.dangled ≡ None)
  first_was = sound.first c o.here

  skip_cells : (x : ℕ) (r : Row) → h x ≡ Some r → (e : Cell) × (r ≡ Row.Cell e) × (length e.log ≤ most_entries)
  skip_cells x r is = same_or x 0
      (λ at. (set_first, same_Some r (Row.Cell set_first) (sym is ∙ ap h at ∙ s.here), few_entries g sound 0 c o.here))
      (λ off. sound.cells x r (sym (s.others x off) ∙ is))

  -- a row without a next was there
  was_last : (x : ℕ) (e : Cell) → h x ≡ Some (Row.Cell e) → e.next ≡ None → g x ≡ Some (Row.Cell e)
  was_last x e is none = same_or x 0
      (λ at. absurd (none-some to (sym none ∙ ap (λ (z : Cell). z.next) (first_is x e is at))))
      (λ off. sym (s.others x off) ∙ is)

  -- .. and one that has one had one
  was_followed : (x : ℕ) (e : Cell) → h x ≡ Some (Row.Cell e) → is_some e.next ≡ true → (f : Cell) × (g x ≡ Some (Row.Cell f)) × (is_some f.next ≡ true)
  was_followed x e is some = same_or x 0
      (λ at. (c, ap g at ∙ o.here, ap is_some o.next))
      (λ off. (e, sym (s.others x off) ∙ is, some))

  skip_threads : IsThreaded g → IsThreaded h
  skip_threads threaded = record {
    there = λ x path. at_other IsMoored g h 0 (Some (Row.Cell set_first)) s x (λ at. first_was.1) (threaded.there x (leads h g (skip_back g h 0 n to c d o s) 0 x path));
    leads = λ x e is next unmarked. same_or x 0
        (λ at. ([], sym at))
        (λ off. let there : g x ≡ Some (Row.Cell e) = sym (s.others x off) ∙ is in
        let led = threaded.leads x e there next unmarked in
        around g h 0 n to c d o s 0 led.0 x (λ at. let clash = sym o.marked ∙ ap (λ (z : Cell). z.marked) (one_cell d e (sym o.there ∙ ap g (sym at) ∙ there)) ∙ unmarked in cc) led.1);
  }

  pub skip_sound : IsSound h
  skip_sound = record {
    cells = skip_cells;
    begins = λ none. let clash = sym s.here ∙ none in cc;
    first = λ e is. let same = first_is 0 e is refl in (ap (λ (z : Cell). z.marked) same ∙ first_was.0, ap (λ (z : Cell). z.dangled) same ∙ first_was.1);
    rises = λ x k e is next. same_or x 0
        (λ at. let one : to ≡ k = same_Some to k (sym (ap (λ (z : Cell). z.next) (first_is x e is at)) ∙ next) in let rise = o.rises in let far = o.further in omega (arith, at, one, rise, far))
        (λ off. sound.rises x k e (sym (s.others x off) ∙ is) next);
    adrift = λ x e is some. same_or x 0
        (λ at. let clash = sym some ∙ ap is_some (ap (λ (z : Cell). z.dangled) (first_is x e is at) ∙ first_was.1) in cc)
        (λ off. sound.adrift x e (sym (s.others x off) ∙ is) some);
    threads = λ some. skip_threads (sound.threads (ap is_some o.here));
    ends = λ x e path is none y f at some. let v = was_followed y f at some in sound.ends x e (leads h g (skip_back g h 0 n to c d o s) 0 x path) (was_last x e is none) none y v.0 v.1 v.2;
  }

-- ---- a row that is adrift goes
module _ (g h : Chain) (n : ℕ) (c : Cell) (sound : IsSound g) (later : 0 < n) (there : g n ≡ Some (Row.Cell c)) (adrift : is_some c.dangled ≡ true) (s : SetTo g n None h) where
  went : (x : ℕ) (r : Row) → h x ≡ Some r → g x ≡ Some r
  went x r is = same_or x n
      (λ at. let clash = sym is ∙ ap h at ∙ s.here in cc)
      (λ off. sym (s.others x off) ∙ is)

  drop_back : LeadsAs h g
  drop_back x e k is next less = one_step g x e k (went x (Row.Cell e) is) next less

  first_same : h 0 ≡ g 0
  first_same = s.others 0 (not_first n later)

  module _ (threaded : IsThreaded g) where
    unled : LeadsTo g 0 n → ⊥
    unled led = let clash = sym adrift ∙ ap is_some (subst IsMoored there (threaded.there n led)) in cc

    -- what the first row leads to it leads to still
    led_on : (a : ℕ) → LeadsTo g 0 a → (ks : List ℕ) (x : ℕ) → Steps g a ks x → LeadsTo h a x
    led_on a led [] x path = ([], path)
    led_on a led (k ∷ ks) x (e, is, next, rise, path) = same_or a n
        (λ at. absurd (unled (subst (LeadsTo g 0) at led)))
        (λ off. then_way h a k x (one_step h a e k (s.others a off ∙ is) next rise) (led_on k (then_way g 0 a k led (one_step g a e k is next rise)) ks x path))

    drop_threads : IsThreaded h
    drop_threads = record {
      there = λ x path. let led = leads h g drop_back 0 x path in at_other IsMoored g h n None s x (λ at. absurd (unled (subst (LeadsTo g 0) at led))) (threaded.there x led);
      leads = λ x e is next unmarked. let led = threaded.leads x e (went x (Row.Cell e) is) next unmarked in led_on 0 ([], refl) led.0 x led.1;
    }

  pub drop_sound : IsSound h
  drop_sound = record {
    cells = λ x r is. sound.cells x r (went x r is);
    begins = λ none x. same_or {P = h x ≡ None} x n (λ at. ap h at ∙ s.here) (λ off. s.others x off ∙ sound.begins (sym first_same ∙ none) x);
    first = λ e is. sound.first e (sym first_same ∙ is);
    rises = λ x k e is next. sound.rises x k e (went x (Row.Cell e) is) next;
    adrift = λ x e is some. sound.adrift x e (went x (Row.Cell e) is) some;
    threads = λ some. drop_threads (sound.threads (ap is_some (sym first_same) ∙ some));
    ends = λ x e path is none y f at some. sound.ends x e (leads h g drop_back 0 x path) (went x (Row.Cell e) is) none y f (went y (Row.Cell f) at) some;
  }
