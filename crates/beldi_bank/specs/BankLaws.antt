-- What every run of transfers keeps.
use lib.Signed.{mag}
use Rattle.std.specs.Prelude.{◌≡◌, ℕ, ◌<◌, ◌^◌, ℤ, pos, ◌+ℤ◌, ◌*ℤ◌, List, [], ◌∷◌, length, Some}
use Rattle.std.specs.FinMap as map
use Rattle.std.specs.FinMap.{FinMap}
use Rattle.beldi_value.specs.declared.value.Value.{Value}
use Rattle.beldi_book.specs.declared.entry.Entry.{Entry}
use Rattle.beldi_plain.specs.{Item.Item, Item.item_cmp, Plain.PlainState, Legal.run_of, Replies.starts_of}
use Rattle.beldi_bank.specs.Bank.{bank_code, IsTransfer}

-- each of these roots (ticket, function and arguments) is a transfer; the bank's function is the first
abbrev pub AreTransfers : List (ℕ × (ℕ × Value)) → Type 0
AreTransfers [] = Unit {0}
AreTransfers (s ∷ ss) = (s.1.0 ≡ 1) × IsTransfer s.1.1 × AreTransfers ss

-- a whole number of 64 bits, and the number
abbrev pub IsWhole : Value → Type 0
IsWhole (Value.Int z) = mag z < 2 ^ 63
IsWhole v = ⊥

abbrev pub whole_of : Value → ℤ
whole_of (Value.Int z) = z
whole_of v = pos 0

-- the numbers of these items together
abbrev pub sum_of : List (Item × Value) → ℤ
sum_of [] = pos 0
sum_of (e ∷ es) = whole_of e.1 +ℤ sum_of es

-- each of these items is an account of the bank and a whole number, and together they are a hundred times as many as there are
pub record AreBalanced (items : FinMap item_cmp Value) : Type 0 where
  pub accounts : (x : Item) (v : Value) → map.get items x ≡ Some v → (x.func ≡ 1) × (x.table ≡ 0)
  pub whole : (x : Item) (v : Value) → map.get items x ≡ Some v → IsWhole v
  pub sum : sum_of (map.entries items) ≡ pos 100 *ℤ pos (length (map.entries items))

abbrev pub Balanced : PlainState → Type 0
Balanced p = AreBalanced p.items

-- in the run of a book whose roots are transfers
abbrev pub TransfersKeepTheSum : Type 0
TransfersKeepTheSum = (book : List Entry) (p : PlainState) → AreTransfers (starts_of book) → run_of bank_code book ≡ Some p → Balanced p
