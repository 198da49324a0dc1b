-- Ways along a chain, and what the chain holds by them.
use Rattle.std.proofs.lemmas.Option.{none-some}
use Rattle.std.proofs.Common.{◌≡◌, ◌==◌, Bool, true, false, eqb-true, ℕ, zero, suc, ◌+◌, ◌<◌, ◌≤◌, List, [], ◌∷◌, ◌++◌, length, None, Some, if◌then◌else◌, refl, ap, sym, ◌∙◌, subst, arith, append_assoc, append-nil, lt-ltb}
use Rattle.beldi_row.specs.{declared.row.Cell.Cell, declared.row.Row.Row}
use Rattle.beldi_chain.specs.{Chain.Chain, Chain.above, Chain.most_rows, Chain.next_of, Chain.notes_from, Chain.on_next, Chain.tail_from, Content.held_in, Content.log_of}
use Rattle.beldi_links.specs.{LinkLaws.ContentIs, LinkLaws.KeepsSteps, LinkLaws.MeetingsStay, LinkLaws.TailIs, Links.Frozen, Links.LeadsTo, Links.Steps, Links.before}

-- ---- what is one, and what is not
pub one_cell : (c d : Cell) → Some (Row.Cell c) ≡ Some (Row.Cell d) → c ≡ d
one_cell c d h = cc

pub none_next : (c : Cell) (k : ℕ) → c.next ≡ None → c.next ≡ Some k → ⊥
none_next c k none next = none-some k (sym none ∙ next)

-- two numbers are one, or not
pub same_or : {P : Type 0} (a b : ℕ) → (a ≡ b → P) → ((a == b) ≡ false → P) → P
same_or {P} a b same other = by_test (a == b) refl
  where
    by_test : (t : Bool) → (a == b) ≡ t → P
    by_test true e = same (eqb-true a b e)
    by_test false e = other e

-- ---- ways
-- numbers rise, so a way is no longer than they are
pub few : (f : Chain) (r : ℕ) (ks : List ℕ) (n : ℕ) → Steps f r ks n → r + length ks ≤ n
few f r [] n path = let w : r ≡ n = path in omega (arith, w)
few f r (k ∷ ks) n (c, is, next, less, path) = let m = few f k ks n path in omega (arith, m, less)

-- ---- the last row and the notes, by how many steps are left
-- the row that is next is followed, as its number is greater
followed : (f : Chain) (r k : ℕ) (c : Cell) → f r ≡ Some (Row.Cell c) → c.next ≡ Some k → r < k → above r (next_of (f r)) ≡ Some k
followed f r k c is next less = ap (λ z. above r (next_of z)) is ∙ ap (above r) next ∙ ap (λ b. if b then Some k else None) (lt-ltb r k less)

-- and from one without a next none is
ended : (f : Chain) (r : ℕ) (c : Cell) → f r ≡ Some (Row.Cell c) → c.next ≡ None → above r (next_of (f r)) ≡ None
ended f r c is none = ap (λ z. above r (next_of z)) is ∙ ap (above r) none

module _ (f : Chain) (last : ℕ) (t : Cell) (there : f last ≡ Some (Row.Cell t)) (ends : t.next ≡ None) where
  tail_here : (s : ℕ) → tail_from s f last ≡ Some (Row.Cell t)
  tail_here zero = there
  tail_here (suc s) = ap (λ z. on_next z (f last) (tail_from s f)) (ended f last t there ends) ∙ there

  tail_way : (r : ℕ) (ks : List ℕ) (s : ℕ) → Steps f r ks last → length ks ≤ s → tail_from s f r ≡ Some (Row.Cell t)
  tail_way r [] s path few = ap (tail_from s f) path ∙ tail_here s
  tail_way r (k ∷ ks) zero path few = absurd (omega (arith, few))
  tail_way r (k ∷ ks) (suc s) (c, is, next, less, path) few =
      ap (λ z. on_next z (f r) (tail_from s f)) (followed f r k c is next less) ∙ tail_way k ks s path (omega (arith, few))

  notes_here : (s : ℕ) → notes_from s f last ≡ t.log
  notes_here zero = ap log_of there
  notes_here (suc s) = ap (λ z. log_of (f last) ++ on_next z [] (notes_from s f)) (ended f last t there ends) ∙ append-nil (log_of (f last)) ∙ ap log_of there

  notes_way : (r : ℕ) (ks : List ℕ) (s : ℕ) → Steps f r ks last → length ks ≤ s → notes_from s f r ≡ before f r ks ++ t.log
  notes_way r [] s path few = ap (notes_from s f) path ∙ notes_here s
  notes_way r (k ∷ ks) zero path few = absurd (omega (arith, few))
  notes_way r (k ∷ ks) (suc s) (c, is, next, less, path) few =
      ap (λ z. log_of (f r) ++ on_next z [] (notes_from s f)) (followed f r k c is next less)
      ∙ ap (λ z. log_of (f r) ++ z) (notes_way k ks s path (omega (arith, few)))
      ∙ sym (append_assoc (log_of (f r)) (before f k ks) t.log)

enough : (f : Chain) (ks : List ℕ) (last : ℕ) → Steps f 0 ks last → last < most_rows → length ks ≤ most_rows
enough f ks last path less = let m = few f 0 ks last path in omega (arith, m, less)

pub content_is : ContentIs
content_is f ks last t path there ends less =
    let s = enough f ks last path less in
    λ i. held_in (tail_way f last t there ends 0 ks most_rows path s i) (notes_way f last t there ends 0 ks most_rows path s i)

pub tail_is : TailIs
tail_is f l = tail_way f l.last l.tail l.there l.ends 0 l.path.0 most_rows l.path.1 (enough f l.path.0 l.last l.path.1 l.few)

-- ---- ways where rows with a next stay
pub kept : KeepsSteps
kept f g frozen r [] n path = path
kept f g frozen r (k ∷ ks) n (c, is, next, less, path) = (c, frozen r c k is next, next, less, kept f g frozen k ks n path)

pub before_kept : (f g : Chain) → Frozen f g → (r : ℕ) (ks : List ℕ) (n : ℕ) → Steps f r ks n → before g r ks ≡ before f r ks
before_kept f g frozen r [] n path = refl
before_kept f g frozen r (k ∷ ks) n (c, is, next, less, path) =
    λ i. log_of ((frozen r c k is next ∙ sym is) i) ++ before_kept f g frozen k ks n path i

abbrev pub leads_still : (f g : Chain) → Frozen f g → (r n : ℕ) → LeadsTo f r n → LeadsTo g r n
leads_still f g frozen r n path = (path.0, kept f g frozen r path.0 n path.1)

pub meetings_stay : MeetingsStay
meetings_stay f g frozen r m = record { at = m.at; head = leads_still f g frozen 0 m.at m.head; here = leads_still f g frozen r m.at m.here }

-- ---- ways that are put together
-- one after another
pub join : (f : Chain) (r : ℕ) (ks : List ℕ) (n : ℕ) (js : List ℕ) (m : ℕ) → Steps f r ks n → Steps f n js m → Steps f r (ks ++ js) m
join f r [] n js m path more = subst (λ z. Steps f z js m) (sym path) more
join f r (k ∷ ks) n js m (c, is, next, less, path) more = (c, is, next, less, join f k ks n js m path more)

pub before_join : (f : Chain) (r : ℕ) (ks : List ℕ) (n : ℕ) (js : List ℕ) → Steps f r ks n → before f r (ks ++ js) ≡ before f r ks ++ before f n js
before_join f r [] n js path = ap (λ z. before f z js) path
before_join f r (k ∷ ks) n js (c, is, next, less, path) = ap (λ z. log_of (f r) ++ z) (before_join f k ks n js path) ∙ sym (append_assoc (log_of (f r)) (before f k ks) (before f n js))

-- one step
abbrev pub one_step : (f : Chain) (r : ℕ) (c : Cell) (k : ℕ) → f r ≡ Some (Row.Cell c) → c.next ≡ Some k → r < k → LeadsTo f r k
one_step f r c k is next less = (k ∷ [], (c, is, next, less, refl))

abbrev pub then_way : (f : Chain) (r n m : ℕ) → LeadsTo f r n → LeadsTo f n m → LeadsTo f r m
then_way f r n m path more = (path.0 ++ more.0, join f r path.0 n more.0 m path.1 more.1)
