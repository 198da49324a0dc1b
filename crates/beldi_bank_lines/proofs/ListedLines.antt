-- The line of an item, and the value in it.
use Rattle.std.proofs.Common.{arith, ◌≡◌, ℕ, suc, ◌<◌, ◌==◌, ℤ, pos, negsuc, true, false, List, [], ◌∷◌, ◌++◌, None, Some, refl, ap, ◌∙◌, sym, append_assoc}
use Rattle.std.specs.Prelude.{if◌then◌else◌, codes}
use Rattle.beldi_value.specs.{ByteCut.after, Datum.int, Json.text_of, Number.int_at, Value.datum_of, declared.value.Value.Value}
use Rattle.beldi_value.proofs.Ints.{reads}
use Rattle.beldi_book.specs.BookText.{item_text, quoted_key}
use Rattle.beldi_book.proofs.Cuts.{other_byte}
use Rattle.beldi_plain.specs.Item.{Item}
use Rattle.beldi_script.specs.LineCut.{unreturned}
use Rattle.beldi_script.proofs.Parted.{none_after}
use Rattle.beldi_generator.specs.Summary.{or_nothing, value_in}
use Rattle.beldi_generator.proofs.WorkWords.{last_is}
use Rattle.beldi_bank.specs.{Bank.bank_code, BankLaws.IsWhole, BankLaws.whole_of}
use Rattle.beldi_bank_lines.specs.BankLines.{IsItemLine}
use Rattle.beldi_bank_lines.proofs.Unbroken.{decimal_clear, quoted_flat, text_flat}

-- the line of an account: its key, and what it has
abbrev pub told : Item × Value → List ℕ
told e = codes "bank acct " ++ (quoted_key e.0.key ++ 32 ∷ text_of (datum_of e.1))

pub item_told : (e : Item × Value) → e.0.func ≡ 1 → e.0.table ≡ 0 → item_text bank_code e.0.func e.0.table e.0.key e.1 ≡ told e ++ codes "\n"
item_told e f t =
    ap (λ n. item_text bank_code n e.0.table e.0.key e.1) f ∙ ap (λ n. item_text bank_code 1 n e.0.key e.1) t
    ∙ ap (λ s. codes "bank acct " ++ s) (sym (append_assoc (quoted_key e.0.key) (32 ∷ text_of (datum_of e.1)) (codes "\n")))

-- ---- a byte below the digits, other than the sign, does not stand in it
int_clear : (m : ℕ) (z : ℤ) → m < 48 → (45 == m) ≡ false → after m (text_of (int z)) ≡ None
int_clear m (pos n) low sign = decimal_clear m n low
int_clear m (negsuc n) low sign = other_byte m 45 _ sign (decimal_clear m (suc n) low)

value_clear : (m : ℕ) (v : Value) → m < 48 → (45 == m) ≡ false → IsWhole v → after m (text_of (datum_of v)) ≡ None
value_clear m (Value.Int z) low sign h = int_clear m z low sign
value_clear m v low sign h = absurd h

-- ---- it is a line
no_return : (bs : List ℕ) → after 13 bs ≡ None → unreturned bs ≡ bs
no_return [] h = refl
no_return (b ∷ []) h = elim (b == 13) as (λ t. (if t then Some [] else after 13 []) ≡ None → (if t then [] else b ∷ []) ≡ b ∷ []) [ true ↦ λ g. cc | false ↦ λ g. refl ] h
no_return (b ∷ c ∷ bs) h = elim (b == 13) as (λ t. (if t then Some (c ∷ bs) else after 13 (c ∷ bs)) ≡ None → b ∷ unreturned (c ∷ bs) ≡ b ∷ c ∷ bs) [
  | true ↦ λ g. cc
  | false ↦ λ g. ap (λ s. b ∷ s) (no_return (c ∷ bs) g)
] h

unreturned_on : (xs : List ℕ) (b : ℕ) (bs : List ℕ) → unreturned (b ∷ bs) ≡ b ∷ bs → unreturned (xs ++ b ∷ bs) ≡ xs ++ b ∷ bs
unreturned_on [] b bs h = h
unreturned_on (x ∷ []) b bs h = ap (λ s. x ∷ s) h
unreturned_on (x ∷ y ∷ xs) b bs h = ap (λ s. x ∷ s) (unreturned_on (y ∷ xs) b bs h)

pub is_line : (e : Item × Value) → IsWhole e.1 → IsItemLine (told e)
is_line e h =
    let word = text_of (datum_of e.1) in (
      (
        none_after 10 (codes "bank acct ") (quoted_key e.0.key ++ 32 ∷ word) refl (none_after 10 (quoted_key e.0.key) (32 ∷ word) (quoted_flat e.0.key) (text_flat (datum_of e.1))),
        unreturned_on (codes "bank acct " ++ quoted_key e.0.key) 32 word (no_return (32 ∷ word) (value_clear 13 e.1 (omega arith) refl h)),
      ),
      refl,
    )

-- ---- the value in it
whole_read : (v : Value) → IsWhole v → or_nothing (int_at (text_of (datum_of v))) ≡ whole_of v
whole_read (Value.Int z) h = ap or_nothing (reads z h)
whole_read v h = absurd h

pub value_told : (e : Item × Value) → IsWhole e.1 → value_in (told e) ≡ whole_of e.1
value_told e h = ap (λ s. or_nothing (int_at s)) (last_is (told e) (codes "bank acct " ++ quoted_key e.0.key) (text_of (datum_of e.1)) (value_clear 32 e.1 (omega arith) refl h)) ∙ whole_read e.1 h
