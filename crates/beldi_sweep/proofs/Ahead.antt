-- How many rows of an item lie ahead on the way to one.
use Rattle.std.specs.List.{sum_by}
use Rattle.std.specs.FinMap as map
use Rattle.std.specs.Ordering.{is_eq}
use Rattle.std.proofs.Common.{◌≡◌, ℕ, suc, ◌+◌, ◌<◌, ◌≤◌, Bool, true, false, not, ◌&&◌, nat_lt, cond, is_some, List, refl, ap, ◌∙◌, arith, lt-ltb, ltb-true, le-ltb}
use Rattle.beldi_row.specs.{declared.key.Kind.Kind, Key.RowKey, Key.at_row, Key.key_cmp, Key.kind_at, Key.row_of, Table.Rows}
use Rattle.beldi_row.proofs.{Gets.key_self, Keys.key_twice}
use Rattle.beldi_chain.specs.Chain.{is_row_of}
use Rattle.beldi_prune.specs.PruneLaws.{is_behind}
use Rattle.beldi_sweep.specs.Rounds.{rows_beside}
use Rattle.beldi_sweep.proofs.Sums.{sum_falls, sum_less}

-- ---- numbers from one on, below another
abbrev on_way : ℕ → ℕ → ℕ → ℕ
on_way at end n = cond (not (nat_lt n at) && nat_lt n end) 1 0

small : (b : Bool) → cond b 1 0 ≤ 1
small true = omega arith
small false = omega arith

further_by : (a b c : Bool) → (b ≡ true → a ≡ true) → cond (not a && c) 1 0 ≤ cond (not b && c) 1 0
further_by true b c h = omega arith
further_by false true c h = let clash = h refl in cc
further_by false false c h = omega arith

further : (at next end n : ℕ) → at ≤ next → on_way next end n ≤ on_way at end n
further at next end n more = further_by (nat_lt n next) (nat_lt n at) (nat_lt n end) (λ e. let less = ltb-true n at e in lt-ltb n next (omega (arith, less, more)))

here : (at end : ℕ) → at < end → on_way at end at ≡ 1
here at end less = λ i. cond (not (le-ltb at at (omega arith) i) && lt-ltb at end less i) 1 0

not_here : (next end at : ℕ) → at < next → on_way next end at ≡ 0
not_here next end at less = ap (λ b. cond (not b && nat_lt at end) 1 0) (lt-ltb at next less)

off_by : (b : Bool) → ◌≡◌ {A = ℕ} (cond (b && false) 1 0) 0
off_by true = refl
off_by false = refl

not_end : (at end : ℕ) → on_way at end end ≡ 0
not_end at end = ap (λ b. cond (not (nat_lt end at) && b) 1 0) (le-ltb end end (omega arith)) ∙ off_by (not (nat_lt end at))

-- ---- keys of rows of an item
pub record IsItems (kind : Kind) : Type 0 where
  pub table : ℕ
  pub key : List ℕ
  pub number : ℕ
  pub is : kind ≡ Kind.Data table key number

pub items : (kind : Kind) → is_behind kind ≡ true → IsItems kind
items (Kind.Intent i) h = cc
items (Kind.ReadLog a) h = cc
items (Kind.Invoke a) h = cc
items (Kind.Data t q n) h = record { table = t; key = q; number = n; is = refl }
items (Kind.Shadow s t q n) h = cc
items (Kind.Lockset i b t q) h = cc

-- the row of a number is of the item too
pub item_at : (k : RowKey) (n : ℕ) (i : IsItems k.kind) → (at_row k n).kind ≡ Kind.Data i.table i.key n
item_at k n i = ap (λ z. kind_at z n) i.is

of_item : (k : RowKey) (n : ℕ) → is_row_of (at_row k 0) (at_row k n) ≡ true
of_item k n = ap (λ z. is_eq (key_cmp z (at_row k 0))) (key_twice k n 0) ∙ key_self (at_row k 0)

-- ---- the rows from one on, before that of the key
abbrev is_ahead : RowKey → ℕ → RowKey → ℕ
is_ahead k at q = cond (is_row_of (at_row k 0) q) (on_way at (row_of k.kind) (row_of q.kind)) 0

abbrev pub ahead : Rows → RowKey → ℕ → ℕ
ahead m k at = sum_by (is_ahead k at) (map.keys m)

beside_by : (b : Bool) (x y : ℕ) → x ≤ y → cond b x 0 ≤ cond b y 0
beside_by true x y less = less
beside_by false x y less = omega arith

module _ (m : Rows) (k : RowKey) (at : ℕ) where
  is_beside : (q : RowKey) → is_ahead k at q ≤ cond (is_row_of (at_row k 0) q) 1 0
  is_beside q = beside_by (is_row_of (at_row k 0) q) (on_way at (row_of k.kind) (row_of q.kind)) 1 (small (not (nat_lt (row_of q.kind) at) && nat_lt (row_of q.kind) (row_of k.kind)))

  -- they are no more than the rows of the item
  pub ahead_few : ahead m k at ≤ rows_beside m k
  ahead_few = sum_less (is_ahead k at) (λ q. cond (is_row_of (at_row k 0) q) 1 0) is_beside m

  -- .. and fewer where that of the key is there
  pub ahead_fewer : is_some (map.get m k) ≡ true → ahead m k at + 1 ≤ rows_beside m k
  ahead_fewer there =
      let a : is_ahead k at k ≡ 0 = (λ i. cond (key_self (at_row k 0) i) (not_end at (row_of k.kind) i) 0) in
      let b : ◌≡◌ {A = ℕ} (cond (is_row_of (at_row k 0) k) 1 0) 1 = ap (λ b. cond b 1 0) (key_self (at_row k 0)) in
      sum_falls (is_ahead k at) (λ q. cond (is_row_of (at_row k 0) q) 1 0) is_beside 1 k (omega (arith, a, b)) m there

  -- from one that is there to a later one they are fewer
  pub ahead_falls : is_behind k.kind ≡ true → at < row_of k.kind → is_some (map.get m (at_row k at)) ≡ true → (next : ℕ) → at < next → ahead m k next + 1 ≤ ahead m k at
  ahead_falls behind below there next rises =
      let l = at_row k at in
      let number = ap row_of (item_at k at (items k.kind behind)) in
      let a : is_ahead k next l ≡ 0 = (λ i. cond (of_item k at i) (on_way next (row_of k.kind) (number i)) 0) ∙ not_here next (row_of k.kind) at rises in
      let b : is_ahead k at l ≡ 1 = (λ i. cond (of_item k at i) (on_way at (row_of k.kind) (number i)) 0) ∙ here at (row_of k.kind) below in
      sum_falls (is_ahead k next) (is_ahead k at)
      (λ q. beside_by (is_row_of (at_row k 0) q) (on_way next (row_of k.kind) (row_of q.kind)) (on_way at (row_of k.kind) (row_of q.kind)) (further at next (row_of k.kind) (row_of q.kind) (omega (arith, rises))))
      1 l (omega (arith, a, b)) m there

  -- .. so there is one
  pub ahead_some : is_behind k.kind ≡ true → at < row_of k.kind → is_some (map.get m (at_row k at)) ≡ true → 1 ≤ ahead m k at
  ahead_some behind below there = let less = ahead_falls behind below there (suc at) (omega arith) in omega (arith, less)
