-- Where rows lead once one is set.
use Rattle.std.proofs.lemmas.Option.{none-some}
use Rattle.std.proofs.Common.{◌≡◌, ◌==◌, ℕ, zero, suc, ◌<◌, false, List, [], ◌∷◌, Option, Some, None, refl, ap, sym, ◌∙◌, subst, arith}
use Rattle.beldi_row.specs.{declared.row.Cell.Cell, declared.row.Row.Row}
use Rattle.beldi_chain.specs.Chain.{Chain}
use Rattle.beldi_links.specs.Links.{LeadsTo, SetTo, Steps}
use Rattle.beldi_links.proofs.Ways.{none_next, one_cell, one_step, same_or, then_way}
use Rattle.beldi_splice.specs.Splice.{IsMoored, IsSafeFrom, IsSafeTo}
use Rattle.beldi_splice.specs.SpliceLaws.{NextIsSafe}

-- ---- each row that leads on does so in another chain
abbrev pub LeadsAs : Chain → Chain → Type 0
LeadsAs f g = (n : ℕ) (c : Cell) (k : ℕ) → f n ≡ Some (Row.Cell c) → c.next ≡ Some k → n < k → LeadsTo g n k

pub leads_as : (f g : Chain) → LeadsAs f g → (r : ℕ) (ks : List ℕ) (n : ℕ) → Steps f r ks n → LeadsTo g r n
leads_as f g so r [] n path = ([], path)
leads_as f g so r (k ∷ ks) n (c, is, next, less, path) = then_way g r k n (so r c k is next less) (leads_as f g so k ks n path)

pub leads : (f g : Chain) → LeadsAs f g → (r n : ℕ) → LeadsTo f r n → LeadsTo g r n
leads f g so r n path = leads_as f g so r path.0 n path.1

-- ---- a row that is set
pub unset : (f g : Chain) (r : ℕ) (v : Option Row) → SetTo f r v g → SetTo g r (f r) f
unset f g r v s = record { here = refl; others = λ n off. sym (s.others n off) }

-- one that leads nowhere leads nowhere else
abbrev pub IsEnd : Option Row → Type 0
IsEnd r = (c : Cell) → r ≡ Some (Row.Cell c) → c.next ≡ None

pub ends_as : (f g : Chain) (r : ℕ) (v : Option Row) → SetTo f r v g → IsEnd (f r) → LeadsAs f g
ends_as f g r v s ends n c k is next less = same_or n r
    (λ at. absurd (none_next c k (ends c (ap f (sym at) ∙ is)) next))
    (λ off. one_step g n c k (s.others n off ∙ is) next less)

-- one that has the same next leads where it led
pub next_as : (f g : Chain) (r : ℕ) (u d : Cell) → SetTo f r (Some (Row.Cell d)) g → f r ≡ Some (Row.Cell u) → d.next ≡ u.next → LeadsAs f g
next_as f g r u d s there same n c k is next less = same_or n r
    (λ at. let cell : c ≡ u = one_cell c u (sym is ∙ ap f at ∙ there) in one_step g n d k (ap g at ∙ s.here) (same ∙ ap (λ (z : Cell). z.next) (sym cell) ∙ next) less)
    (λ off. one_step g n c k (s.others n off ∙ is) next less)

-- ---- what is safe, where all that is led to is so in the other chain
pub safe_as : (g h : Chain) (life deadline r : ℕ) → ((n : ℕ) → LeadsTo h r n → LeadsTo g r n) → ((n : ℕ) → LeadsTo h r n → IsSafeTo life deadline (g n) → IsSafeTo life deadline (h n)) → IsSafeFrom life deadline g r → IsSafeFrom life deadline h r
safe_as g h life deadline r back stays safe later n path = stays n path (safe later n (back n path))

-- a row that is moored is safe
pub moored_safe : (life deadline : ℕ) (r : Option Row) → IsMoored r → IsSafeTo life deadline r
moored_safe life deadline (Some (Row.Cell c)) moored = λ t is. absurd (none-some t (sym moored ∙ is))
moored_safe life deadline None moored = absurd moored
moored_safe life deadline (Some r) moored = absurd moored

pub next_is_safe : NextIsSafe
next_is_safe g life deadline r k c threaded is next less safe later n path = same_or r 0
    (λ at. moored_safe life deadline (g n) (threaded.there n (then_way g 0 k n (subst (λ z. LeadsTo g z k) at (one_step g r c k is next less)) path)))
    (λ off. safe (above_zero r off) n (then_way g r k n (one_step g r c k is next less) path))
  where
    above_zero : (r : ℕ) → (r == 0) ≡ false → 0 < r
    above_zero zero off = cc
    above_zero (suc r) off = omega arith
