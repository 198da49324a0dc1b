-- What is counted and summed of the lines of balanced items.
use Rattle.std.proofs.Common.{arith, ◌≡◌, ℕ, suc, ◌+◌, ℤ, pos, ◌+ℤ◌, ◌*ℤ◌, Bool, true, false, cond, List, [], ◌∷◌, ◌++◌, length, map, None, Some, refl, ap, ap₂, sym, ◌∙◌, append_assoc}
use Rattle.std.specs.Prelude.{T, ◌&&◌, codes, flat_map, if◌then◌else◌}
use Rattle.std.specs.Int.{w64, int_wrap, int_wrapping_add}
use Rattle.std.specs.Fmt.{decimal, signed_decimal}
use Rattle.std.specs.FinMap as finite
use Rattle.std.specs.FinMap.{entries_sorted, find, get-entries}
use Rattle.std.specs.FinMap.Entries.{below_all, is_sorted}
use Rattle.std.specs.List.{AllByRecursion}
use Rattle.std.specs.Ordering.{is_eq, is_lt}
use Rattle.std.specs.declared.cmp.Ordering.{Ordering}
use Rattle.std.specs.Cmp.{Equal-is}
use Rattle.std.proofs.lemmas.Int.{SFits-int_wrap, int_wrap-add_left, int_wrap_fits, ints, wrapping_add_is}
use Rattle.std.proofs.lemmas.Cmp.{tied_itself}
use Rattle.beldi_value.specs.declared.value.Value.{Value}
use Rattle.beldi_plain.specs.{Item.Item, Item.item_cmp, Item.item_exact, Item.item_total, Listing.items_text, Plain.PlainState}
use Rattle.beldi_script.specs.LineCut.{lines_of, unreturned}
use Rattle.beldi_script.proofs.{ScriptLines.cut_some, Parted.parts}
use Rattle.beldi_generator.specs.Summary.{is_unread, listed, past, summed, totals_text, value_in}
use Rattle.beldi_bank.specs.{Bank.bank_code, BankLaws.Balanced, BankLaws.IsWhole, BankLaws.sum_of, BankLaws.whole_of}
use Rattle.beldi_bank_lines.specs.BankLines.{BalancedItemsAreListed, IsItemLine, IsListing, totals_of}
use Rattle.beldi_bank_lines.proofs.ListedLines.{is_line, item_told, told, value_told}

-- an account of the bank, with a whole number
abbrev IsAccount : Item → Value → Type 0
IsAccount x v = (x.func ≡ 1) × (x.table ≡ 0) × IsWhole v

abbrev AreAccounts : List (Item × Value) → Type 0
AreAccounts es = AllByRecursion (λ e. IsAccount e.0 e.1) es

-- ---- the lines
text_is : (es : List (Item × Value)) → AreAccounts es → items_text bank_code es ≡ flat_map (λ l. l ++ codes "\n") (map told es)
text_is [] h = refl
text_is (e ∷ es) h = ap (λ s. s ++ items_text bank_code es) (item_told e h.0.0 h.0.1) ∙ ap (λ s. (told e ++ codes "\n") ++ s) (text_is es h.1)

are_lines : (es : List (Item × Value)) → AreAccounts es → AllByRecursion IsItemLine (map told es)
are_lines [] h = tt
are_lines (e ∷ es) h = (is_line e h.0.2, are_lines es h.1)

same_length : (es : List (Item × Value)) → length (map told es) ≡ length es
same_length [] = refl
same_length (e ∷ es) = ap suc (same_length es)

-- ---- what is counted and summed
counts_on : (n : ℕ) (es : List (Item × Value)) → listed n (map told es) ≡ n + length (map told es)
counts_on n [] = omega arith
counts_on n (e ∷ es) = counts_on (n + 1) es ∙ omega arith

added : (a : ℤ) (v : Value) → IsWhole v → int_wrapping_add w64 (int_wrap w64 a) (whole_of v) ≡ int_wrap w64 (a +ℤ whole_of v)
added a (Value.Int z) h = wrapping_add_is w64 (int_wrap w64 a) z (SFits-int_wrap w64 a) (record { sfits = h }) ∙ int_wrap-add_left w64 a z
added a v h = absurd h

none_more : (a : ℤ) → a ≡ a +ℤ pos 0
none_more a = omega (arith, ints)

in_turn : (a b c : ℤ) → (a +ℤ b) +ℤ c ≡ a +ℤ (b +ℤ c)
in_turn a b c = omega (arith, ints)

sums_on : (a : ℤ) (es : List (Item × Value)) → AreAccounts es → summed (int_wrap w64 a) (map told es) ≡ int_wrap w64 (a +ℤ sum_of es)
sums_on a [] h = ap (int_wrap w64) (none_more a)
sums_on a (e ∷ es) h =
    ap (λ z. summed z (map told es)) (ap (int_wrapping_add w64 (int_wrap w64 a)) (value_told e h.0.2) ∙ added a e.1 h.0.2)
    ∙ sums_on (a +ℤ whole_of e.1) es h.1 ∙ ap (int_wrap w64) (in_turn a (whole_of e.1) (sum_of es))

-- ---- above the heading of a book
counts_above : (n : ℕ) (es : List (Item × Value)) (more : List (List ℕ)) → listed n (map told es ++ codes "== book" ∷ more) ≡ listed n (map told es)
counts_above n [] more = refl
counts_above n (e ∷ es) more = counts_above (n + 1) es more

sums_above : (z : ℤ) (es : List (Item × Value)) (more : List (List ℕ)) → summed z (map told es ++ codes "== book" ∷ more) ≡ summed z (map told es)
sums_above z [] more = refl
sums_above z (e ∷ es) more = sums_above (int_wrapping_add w64 z (value_in (told e))) es more

is_read : (es : List (Item × Value)) (more : List (List ℕ)) → is_unread (map told es ++ codes "== book" ∷ more) ≡ false
is_read [] more = refl
is_read (e ∷ es) more = refl

past_told : (es : List (Item × Value)) (more : List (List ℕ)) → past (codes "== book") (map told es ++ codes "== book" ∷ more) ≡ more
past_told [] more = refl
past_told (e ∷ es) more = past_told es more

cut_told : (es : List (Item × Value)) (more : List ℕ) → AreAccounts es → lines_of (items_text bank_code es ++ more) ≡ map told es ++ lines_of more
cut_told [] more h = refl
cut_told (e ∷ es) more h =
    let line = is_line e h.0.2 in
    let p = parts 10 (told e) (items_text bank_code es ++ more) line.0.0 in
    ap (λ s. lines_of ((s ++ items_text bank_code es) ++ more)) (item_told e h.0.0 h.0.1)
    ∙ ap lines_of (append_assoc (told e ++ codes "\n") (items_text bank_code es) more ∙ append_assoc (told e) (codes "\n") (items_text bank_code es ++ more))
    ∙ cut_some (told e ++ 10 ∷ (items_text bank_code es ++ more)) (items_text bank_code es ++ more) p.back
    ∙ ap (λ l. unreturned l ∷ lines_of (items_text bank_code es ++ more)) p.front
    ∙ ap (λ l. l ∷ lines_of (items_text bank_code es ++ more)) line.0.1 ∙ ap (λ ls. told e ∷ ls) (cut_told es more h.1)

cut_above : (es : List (Item × Value)) (book : List ℕ) → AreAccounts es → lines_of (items_text bank_code es ++ (codes "== book\n" ++ book)) ≡ map told es ++ codes "== book" ∷ lines_of book
cut_above es book h = cut_told es (codes "== book\n" ++ book) h ∙ ap (λ ls. map told es ++ ls) (cut_some (codes "== book\n" ++ book) book refl)

totals_told : (es : List (Item × Value)) (more : List (List ℕ)) (n : ℕ) → listed 0 (map told es) ≡ n → summed (pos 0) (map told es) ≡ int_wrap w64 (pos 100 *ℤ pos n)
    → totals_text (map told es ++ codes "== book" ∷ more) ≡ totals_of n
totals_told es more n counts sums =
    let lines = map told es ++ codes "== book" ∷ more in
    ap (λ b. if b then codes "dropped\n" else codes "keys " ++ (decimal (listed 0 lines) ++ (codes "\nsum " ++ (signed_decimal (summed (pos 0) lines) ++ codes "\n")))) (is_read es more)
    ∙ ap₂ (λ k z. codes "keys " ++ (decimal k ++ (codes "\nsum " ++ (signed_decimal z ++ codes "\n")))) (counts_above 0 es more ∙ counts) (sums_above (pos 0) es more ∙ sums)

-- ---- the entries of balanced items
alone : (z : ℤ) → pos 0 +ℤ z ≡ z
alone z = omega (arith, ints)

listed_by : (p : PlainState) → Balanced p → AreAccounts (finite.entries p.items) → IsListing p (map told (finite.entries p.items))
listed_by p h accounts =
    let es = finite.entries p.items in
    let counts : listed 0 (map told es) ≡ length (map told es) = counts_on 0 es ∙ omega arith in
    let zero_first : summed (pos 0) (map told es) ≡ summed (int_wrap w64 (pos 0)) (map told es) = ap (λ z. summed z (map told es)) (sym (int_wrap_fits w64 (pos 0) (record { sfits = omega arith }))) in
    let sums : summed (pos 0) (map told es) ≡ int_wrap w64 (pos 100 *ℤ pos (length (map told es))) = zero_first ∙ sums_on (pos 0) es accounts ∙ ap (int_wrap w64) (alone (sum_of es) ∙ h.sum ∙ ap (λ n. pos 100 *ℤ pos n) (sym (same_length es))) in
    record {
      text = text_is es accounts;
      tells = are_lines es accounts;
      counts = counts;
      sums = sums;
      cuts = λ more. cut_told es more accounts;
      totals = λ book. ap totals_text (cut_above es book accounts) ∙ totals_told es (lines_of book) (length (map told es)) counts sums;
      passed = λ book. ap (past (codes "== book")) (cut_above es book accounts) ∙ past_told es (lines_of book);
    }

in_order : (x y : Bool) → T (x && y) → T x × T y
in_order true y h = (tt, h)
in_order false y h = absurd h

apart : (o : Ordering) → T (is_lt o) → is_eq o ≡ false
apart o h = grind arith

none_below : (x : Item) (es : List (Item × Value)) → T (below_all item_cmp x es) → find item_cmp x es ≡ None
none_below x [] h = refl
none_below x (e ∷ es) h =
    let p = in_order (is_lt (item_cmp x e.0)) (below_all item_cmp x es) h in
    ap (λ b. cond b (Some e.1) (find item_cmp x es)) (apart (item_cmp x e.0) p.0) ∙ none_below x es p.1

-- what is found among later entries is found past an earlier one
past_first : (e : Item × Value) (es : List (Item × Value)) (x : Item) (v : Value) → T (below_all item_cmp e.0 es) → find item_cmp x es ≡ Some v → find item_cmp x (e ∷ es) ≡ Some v
past_first e es x v below is = by_test (is_eq (item_cmp x e.0)) refl
  where
    by_test : (b : Bool) → is_eq (item_cmp x e.0) ≡ b → find item_cmp x (e ∷ es) ≡ Some v
    by_test true t = let c = sym (none_below e.0 es below) ∙ ap (λ y. find item_cmp y es) (sym (item_exact x e.0 ((Equal-is (item_cmp x e.0)).0 t))) ∙ is in cc
    by_test false t = ap (λ b. cond b (Some e.1) (find item_cmp x es)) t ∙ is

all_found : (es : List (Item × Value)) → T (is_sorted item_cmp es) → ((x : Item) (v : Value) → find item_cmp x es ≡ Some v → IsAccount x v) → AreAccounts es
all_found [] sorted h = tt
all_found (e ∷ es) sorted h =
    let p = in_order (below_all item_cmp e.0 es) (is_sorted item_cmp es) sorted in
    (h e.0 e.1 (ap (λ o. cond (is_eq o) (Some e.1) (find item_cmp e.0 es)) (tied_itself item_total e.0)), all_found es p.1 (λ x v is. h x v (past_first e es x v p.0 is)))

accounts_of : (p : PlainState) → Balanced p → AreAccounts (finite.entries p.items)
accounts_of p h = all_found (finite.entries p.items) (entries_sorted p.items) (λ x v is.
    let got = get-entries p.items x ∙ is in
    let own = h.accounts x v got in
    (own.0, own.1, h.whole x v got))

pub are_listed : BalancedItemsAreListed
are_listed p h = (map told (finite.entries p.items), listed_by p h (accounts_of p h))
