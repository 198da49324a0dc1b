-- The lines that list the items of the bank.
use Rattle.std.specs.Prelude.{◌≡◌, ℕ, pos, ◌*ℤ◌, true, List, ◌++◌, length, flat_map, codes}
use Rattle.std.specs.Int.{w64, int_wrap}
use Rattle.std.specs.Fmt.{decimal, signed_decimal}
use Rattle.std.specs.List.{AllByRecursion}
use Rattle.beldi_plain.specs.{Listing.listing_of, Plain.PlainState}
use Rattle.beldi_script.specs.LineCut.{IsLine, lines_of}
use Rattle.beldi_generator.specs.Summary.{begins, item_front, listed, past, summed, totals_text}
use Rattle.beldi_bank.specs.{Bank.bank_code, BankLaws.Balanced}

-- a line that begins as one of an item
abbrev pub IsItemLine : List ℕ → Type 0
IsItemLine l = IsLine l × (begins item_front l ≡ true)

-- what is told of so many items
abbrev pub totals_of : ℕ → List ℕ
totals_of n = codes "keys " ++ (decimal n ++ (codes "\nsum " ++ (signed_decimal (int_wrap w64 (pos 100 *ℤ pos n)) ++ codes "\n")))

-- these lines are the listing, each tells an item, and what is summed of them is a hundred times as many as there are, in 64 bits
pub record IsListing (p : PlainState) (lines : List (List ℕ)) : Type 0 where
  pub text : listing_of bank_code p ≡ flat_map (λ l. l ++ codes "\n") lines
  pub tells : AllByRecursion IsItemLine lines
  pub counts : listed 0 lines ≡ length lines
  pub sums : summed (pos 0) lines ≡ int_wrap w64 (pos 100 *ℤ pos (length lines))
  -- above any text
  pub cuts : (more : List ℕ) → lines_of (listing_of bank_code p ++ more) ≡ lines ++ lines_of more
  -- above the heading of a book, and any text in it
  pub totals : (book : List ℕ) → totals_text (lines_of (listing_of bank_code p ++ (codes "== book\n" ++ book))) ≡ totals_of (length lines)
  pub passed : (book : List ℕ) → past (codes "== book") (lines_of (listing_of bank_code p ++ (codes "== book\n" ++ book))) ≡ lines_of book

-- balanced items have such lines
abbrev pub BalancedItemsAreListed : Type 0
BalancedItemsAreListed = (p : PlainState) → Balanced p → (lines : List (List ℕ)) × IsListing p lines
