-- How many rows an item has in the end: more than the number of any row that is there before.
use Rattle.std.specs.Prelude.{max}
use Rattle.std.proofs.Common.{arith, List, ◌≡◌, ℕ, zero, suc, ◌+◌, ◌<◌, ◌≤◌, Bool, true, false, is_some, if◌then◌else◌, nat_lt, ltb-true, ltb-false, Option, None, Some, refl, sym, ◌∙◌}
use Rattle.beldi_value.specs.declared.place.TxId.{TxId}
use Rattle.beldi_lang.specs.declared.effect.Effect.{Effect}
use Rattle.beldi_row.specs.{Key.RowKey, Key.at_row, Table.Rows, declared.row.Row.Row}
use Rattle.beldi_chain.specs.Chain.{Chain, chain, most_rows}
use Rattle.beldi_links.specs.Links.{IsLinked, Linked, LinkedFrom}
use Rattle.beldi_links.proofs.Meets.{rows_below}
use Rattle.beldi_daal.specs.Cell.{cell_key, shadow_key}
use Rattle.beldi_txn.specs.{Visited.RowsStay, CallPath.Member}
use Rattle.beldi_bound.specs.{Cost.aside_length, Cost.item_length, Visits.chain_length, Visits.freed_length, Visits.rows_from}

-- rows from a number on that are there are counted
counted : (s : ℕ) (f : Chain) (n k : ℕ) → ((i : ℕ) → i ≤ k → is_some (f i) ≡ true) → n ≤ k → k < n + s → k < n + rows_from s f n
counted zero f n k there low high = absurd (omega (arith, low, high))
counted (suc s) f n k there low high = by_row (is_some (f n)) (there n low) (λ less. counted s f (n + 1) k there (omega (arith, less)) (omega (arith, high)))
  where
    by_order : (b : Bool) → nat_lt n k ≡ b → (n < k → k < (n + 1) + rows_from s f (n + 1)) → k < n + (1 + rows_from s f (n + 1))
    by_order true is more = let m = more (ltb-true n k is) in omega (arith, m)
    by_order false is more = let m = ltb-false n k is in omega (arith, m)

    by_row : (b : Bool) → b ≡ true → (n < k → k < (n + 1) + rows_from s f (n + 1)) → k < n + (if b then 1 + rows_from s f (n + 1) else 0)
    by_row true is more = by_order (nat_lt n k) refl more
    by_row false is more = cc

max_right : (a b : ℕ) → b ≤ max a b
max_right a b = omega arith

max_left : (a b : ℕ) → a ≤ max a b
max_left a b = omega arith

pub length_some : (e : Rows) (head : RowKey) → 1 ≤ chain_length e head
length_some e head = max_left 1 (rows_from most_rows (chain e head) 0)

-- a row in the end, with all rows below it
pub counts_row : (e : Rows) (head : RowKey) (k : ℕ) → ((i : ℕ) → i ≤ k → is_some (chain e head i) ≡ true) → k < most_rows → k < chain_length e head
counts_row e head k there few =
    let c = counted most_rows (chain e head) 0 k there (omega arith) (omega (arith, few)) in
    let m = max_right 1 (rows_from most_rows (chain e head) 0) in
    omega (arith, c, m)

-- ---- rows that are linked now
-- they have a first one, where one is there
pub linked_by : (f : Chain) (r : Option Row) (n : ℕ) (x : Row) → LinkedFrom r f → f n ≡ Some x → Linked f
linked_by f None n x none is = let clash = sym (none n) ∙ is in cc
linked_by f (Some r) n x l is = l

pub all_below : (f : Chain) (n : ℕ) (x : Row) → IsLinked f → f n ≡ Some x → (i : ℕ) → i ≤ n → is_some (f i) ≡ true
all_below f n x l is i few = rows_below f (linked_by f (f 0) n x l is) n i x is few

-- a row that is there is counted in the end
pub is_counted : (e m : Rows) (head : RowKey) (k : ℕ) (x : Row) → RowsStay m e → IsLinked (chain m head) → chain m head k ≡ Some x → k < most_rows → k < chain_length e head
is_counted e m head k x stay l is few = counts_row e head k (λ i low. stay (at_row head i) (all_below (chain m head) k x l is i low)) few

-- ---- the lengths that costs name
pub item_some : (e : Rows) (func : ℕ) (f : Effect) → 1 ≤ item_length e func f
item_some e func (Effect.Read t k) = length_some e (cell_key func t k)
item_some e func (Effect.Write t k v) = length_some e (cell_key func t k)
item_some e func (Effect.CondWrite t k r o v) = length_some e (cell_key func t k)
item_some e func (Effect.Lock t k) = length_some e (cell_key func t k)
item_some e func (Effect.Unlock t k) = length_some e (cell_key func t k)
item_some e func f = omega arith

pub aside_some : (e : Rows) (func : ℕ) (o : Option TxId) (f : Effect) → 1 ≤ aside_length e func o f
aside_some e func None f = omega arith
aside_some e func (Some x) (Effect.Read t k) = length_some e (shadow_key func x t k)
aside_some e func (Some x) (Effect.Write t k v) = length_some e (shadow_key func x t k)
aside_some e func (Some x) (Effect.CondWrite t k r o v) = length_some e (shadow_key func x t k)
aside_some e func (Some x) f = omega arith

pub freed_some : (e : Rows) (p : Member) (i : Option (ℕ × List ℕ)) → 1 ≤ freed_length e p i
freed_some e p None = omega arith
freed_some e p (Some i) = length_some e (cell_key p.1 i.0 i.1)
