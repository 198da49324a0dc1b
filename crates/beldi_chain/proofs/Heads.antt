-- Keys of rows, and chains that are as before.
use Rattle.std.proofs.Common.{◌≡◌, ℕ, suc, Bool, true, false, refl, ap, sym, ◌∙◌, List}
use Rattle.std.proofs.lemmas.Bool.{false_from_ne_true}
use Rattle.std.specs.Ordering.{is_eq}
use Rattle.std.specs.FinMap as map
use Rattle.beldi_value.specs.declared.place.TxId.{TxId}
use Rattle.beldi_row.{specs.Key.RowKey, specs.Key.at_row, specs.Key.key_cmp, specs.Key.kind_at, specs.Key.rank_of, specs.Key.row_of, specs.declared.key.Kind.Kind, specs.Table.Rows, proofs.Gets.key_self, proofs.Gets.key_same, specs.KeyOrder.key_exact, specs.KeyOrder.key_total}
use Rattle.beldi_chain.specs.Chain.{is_row_of, IsHead, chain, ChangedAlone, Chain}

-- ---- which keys differ
true_is_false : (b : Bool) → b ≡ true → b ≡ false → ⊥
true_is_false true h g = cc
true_is_false false h g = cc

-- the first row of an item, and of a transaction's copy of it
pub item_head : (home t : ℕ) (k : List ℕ) → IsHead (record { home = home; kind = Kind.Data t k 0 })
item_head home t k = record { first = refl; numbered = λ n. refl }

pub aside_head : (home : ℕ) (x : TxId) (t : ℕ) (k : List ℕ) → IsHead (record { home = home; kind = Kind.Shadow x t k 0 })
aside_head home x t k = record { first = refl; numbered = λ n. refl }

-- a row of another number is of the same kind
pub kind_rank : (k : Kind) (n : ℕ) → rank_of (kind_at k n) ≡ rank_of k
kind_rank (Kind.Data t k r) n = refl
kind_rank (Kind.Shadow x t k r) n = refl
kind_rank (Kind.Intent i) n = refl
kind_rank (Kind.ReadLog a) n = refl
kind_rank (Kind.Invoke a) n = refl
kind_rank (Kind.Lockset i b t k) n = refl

kind_again : (k : Kind) (n : ℕ) → kind_at (kind_at k n) 0 ≡ kind_at k 0
kind_again (Kind.Data t k r) n = refl
kind_again (Kind.Shadow x t k r) n = refl
kind_again (Kind.Intent i) n = refl
kind_again (Kind.ReadLog a) n = refl
kind_again (Kind.Invoke a) n = refl
kind_again (Kind.Lockset i b t k) n = refl

-- the first row of a row's item is that of each of its rows
row_again : (k : RowKey) (n : ℕ) → at_row (at_row k n) 0 ≡ at_row k 0
row_again k n = ap (λ z. record { home = k.home; kind = z }) (kind_again k.kind n)

-- a row of another first row is of another item
other_row : (head k : RowKey) → IsHead k → is_eq (key_cmp k head) ≡ false → (n : ℕ) → is_row_of head (at_row k n) ≡ false
other_row head k is off n = ap (λ z. is_eq (key_cmp z head)) (row_again k n ∙ is.first) ∙ off

-- what is no row of an item is not its row of any number
no_row : (head l : RowKey) → IsHead head → is_row_of head l ≡ false → (n : ℕ) → is_eq (key_cmp (at_row head n) l) ≡ false
no_row head l is off n = false_from_ne_true (is_eq (key_cmp (at_row head n) l)) (λ e. true_is_false (is_row_of head l)
    (ap (λ z. is_eq (key_cmp z head)) (sym (ap (λ z. at_row z 0) (key_same (at_row head n) l e)) ∙ row_again head n ∙ is.first) ∙ key_self head) off)

-- .. nor its first row
no_head : (head l : RowKey) → at_row head 0 ≡ head → is_row_of head l ≡ false → is_eq (key_cmp l head) ≡ false
no_head head l first off = false_from_ne_true (is_eq (key_cmp l head)) (λ e. true_is_false (is_row_of head l)
    (ap (λ z. is_eq (key_cmp z head)) (ap (λ z. at_row z 0) (key_same l head e) ∙ first) ∙ key_self head) off)

-- a later row is not the first one
later_row : (head : RowKey) → IsHead head → (n : ℕ) → is_eq (key_cmp (at_row head (suc n)) head) ≡ false
later_row head is n = false_from_ne_true (is_eq (key_cmp (at_row head (suc n)) head)) (λ e.
    let same : suc n ≡ 0 = sym (is.numbered (suc n)) ∙ ap (λ (z : RowKey). row_of z.kind) (key_same (at_row head (suc n)) head e ∙ sym is.first) ∙ is.numbered 0 in cc)

-- ---- chains that are as before
chain_kept : (m n : Rows) (head : RowKey) → ((i : ℕ) → map.get n (at_row head i) ≡ map.get m (at_row head i)) → chain n head ≡ chain m head
chain_kept m n head same = λ i r. same r i

-- .. where all but one item's rows are
pub chain_other : (m n : Rows) (head k : RowKey) → ChangedAlone head m n → IsHead k → is_eq (key_cmp k head) ≡ false → chain n k ≡ chain m k
chain_other m n head k alone is off = chain_kept m n k (λ i. alone (at_row k i) (other_row head k is off i))

-- a key is that of a row of its item with its number
kind_is : (k : Kind) → kind_at (kind_at k 0) (row_of k) ≡ k
kind_is (Kind.Data t k r) = refl
kind_is (Kind.Shadow x t k r) = refl
kind_is (Kind.Intent i) = refl
kind_is (Kind.ReadLog a) = refl
kind_is (Kind.Invoke a) = refl
kind_is (Kind.Lockset i b t k) = refl

row_is : (l : RowKey) → at_row (at_row l 0) (row_of l.kind) ≡ l
row_is l = ap (λ z. record { home = l.home; kind = z }) (kind_is l.kind)

-- all rows are as before but those of one item, and so are these
pub same_rows : (m n : Rows) (head : RowKey) → ChangedAlone head m n → chain n head ≡ chain m head → n ≡ m
same_rows m n head alone same = map.same_map key_total key_exact n m (λ l. by_row l (is_row_of head l) refl)
  where
    named : (l : RowKey) → is_row_of head l ≡ true → at_row head (row_of l.kind) ≡ l
    named l e = ap (λ z. at_row z (row_of l.kind)) (sym (key_same (at_row l 0) head e)) ∙ row_is l

    by_row : (l : RowKey) (b : Bool) → is_row_of head l ≡ b → map.get n l ≡ map.get m l
    by_row l true e = sym (ap (map.get n) (named l e)) ∙ ap (λ (f : Chain). f (row_of l.kind)) same ∙ ap (map.get m) (named l e)
    by_row l false e = alone l e

-- .. or all but one row
pub chain_off : (m n : Rows) (l k : RowKey) → ((q : RowKey) → is_eq (key_cmp q l) ≡ false → map.get n q ≡ map.get m q) → IsHead k → is_row_of k l ≡ false → chain n k ≡ chain m k
chain_off m n l k same is off = chain_kept m n k (λ i. same (at_row k i) (no_row k l is off i))

-- a first row that was set, and no other row, changes its item alone
pub alone_by : (m n : Rows) (head : RowKey) → at_row head 0 ≡ head → ((q : RowKey) → is_eq (key_cmp q head) ≡ false → map.get n q ≡ map.get m q) → ChangedAlone head m n
alone_by m n head first same l off = same l (no_head head l first off)
