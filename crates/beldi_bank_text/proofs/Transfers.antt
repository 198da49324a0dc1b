-- What a line of generated work is read as: a transfer, or what is no request and tells nothing.
use Rattle.std.specs.Prelude.{codes, IsUtf8}
use Rattle.std.proofs.lemmas.{Fmt.length-decimal-le, Str.IsUtf8-from_ascii, Str.IsUtf8-from_is_utf8}
use Rattle.std.proofs.Common.{arith, ◌≡◌, ℕ, zero, suc, pos, ◌<◌, ◌+◌, ◌^◌, ◌++◌, length, length-append, le-leb, get_or, decimal, IsAscii, true, IsTrue, List, [], ◌∷◌, Some, Ok, refl, ap, ap₂, subst, sym, ◌∙◌}
use Rattle.json.specs.Print.{escape_byte, quoted}
use Rattle.beldi_value.specs.{Datum.text, Datum.int, Limits.is_within, Json.text_of, Value.datum_of, declared.value.Value.Value}
use Rattle.beldi_tree.specs.{declared.deployment.Func.Func, Names.func_at}
use Rattle.beldi_script.specs.{Forms.HasForm, ScriptLine.line_at, ScriptText.AreNamed, ScriptText.IsProper, ScriptText.IsValue, ScriptText.line_text, ScriptWords.is_word, declared.line.Line.Line}
use Rattle.beldi_script.proofs.{Formed.lines_have_forms, ReadAgain.line_read}
use Rattle.beldi_bank.specs.Bank.{bank, bank_code, IsTransfer}
use Rattle.beldi_bank_text.proofs.{TextLines.AreOther, TextLines.json_line, TextLines.request_line, TextWords.low, TextWords.low_utf8}

-- ---- the bank's function is named by a word
name_is_word : (n : ℕ) (f : Func) → func_at bank_code n ≡ Some f → IsTrue (is_word f.name)
name_is_word zero f h = cc
name_is_word (suc zero) f h = let same : bank ≡ f = cc (h) in subst (λ g. IsTrue (is_word g.name)) same (low_utf8 (codes "bank") refl)
name_is_word (suc (suc n)) f h = cc

is_first : (n : ℕ) (f : Func) → func_at bank_code n ≡ Some f → n ≡ 1
is_first zero f h = cc
is_first (suc zero) f h = refl
is_first (suc (suc n)) f h = cc

bank_named : AreNamed bank_code
bank_named = record {
  words = name_is_word;
  differ = λ m n f g h i same. is_first m f h ∙ sym (is_first n g i);
}

-- ---- the arguments of a transfer, by the digits of its accounts
abbrev account : ℕ → List ℕ
account d = 97 ∷ (48 + d) ∷ []

abbrev pub args_of : ℕ → ℕ → ℕ → Value
args_of from to amount = Value.Rec ((codes "from", text (account from)) ∷ (codes "n", int (pos amount)) ∷ (codes "to", text (account to)) ∷ [])

digit_quoted : (d : ℕ) → d < 8 → quoted (account d) ≡ 34 ∷ 97 ∷ (48 + d) ∷ 34 ∷ []
unfolding escape_byte
digit_quoted zero h = refl
digit_quoted (suc zero) h = refl
digit_quoted (suc (suc zero)) h = refl
digit_quoted (suc (suc (suc zero))) h = refl
digit_quoted (suc (suc (suc (suc zero)))) h = refl
digit_quoted (suc (suc (suc (suc (suc zero))))) h = refl
digit_quoted (suc (suc (suc (suc (suc (suc zero)))))) h = refl
digit_quoted (suc (suc (suc (suc (suc (suc (suc zero))))))) h = refl
digit_quoted (suc (suc (suc (suc (suc (suc (suc (suc d)))))))) h = absurd (omega arith)

text_is : (from to amount : ℕ) → from < 8 → to < 8 → text_of (datum_of (args_of from to amount)) ≡ json_line from to amount
unfolding escape_byte
text_is from to amount f g =
    ap₂ (λ u v. codes "{\"from\":" ++ (u ++ (codes ",\"n\":" ++ (decimal amount ++ (codes ",\"to\":" ++ (v ++ codes "}")))))) (digit_quoted from f) (digit_quoted to g)

size_is : (from to amount : ℕ) → length (json_line from to amount) ≡ 17 + (length (decimal amount) + 11)
size_is from to amount = omega (arith, length-append (decimal amount) (codes ",\"to\":\"a" ++ (48 + to) ∷ codes "\"}"))

line_is : (ticket from to amount : ℕ) → from < 8 → to < 8 → line_text bank_code (Line.Request ticket 1 (args_of from to amount)) ≡ request_line ticket from to amount
line_is ticket from to amount f g = ap (λ j. codes "request " ++ (decimal ticket ++ (codes " bank " ++ j))) (text_is from to amount f g)

-- ---- they are within the limits of values
ascii : (b c : ℕ) → b < 128 → c < 128 → IsUtf8 (b ∷ c ∷ [])
ascii b c h g = IsUtf8-from_ascii (b ∷ c ∷ []) below
  where
    below : IsAscii (b ∷ c ∷ [])
    below zero = h
    below (suc zero) = g
    below (suc (suc i)) = omega arith

text_utf8 : (w : List ℕ) → low w ≡ true → IsUtf8 w
text_utf8 w h = IsUtf8-from_is_utf8 w (low_utf8 w h)

within : (from to amount : ℕ) → from < 8 → to < 8 → amount < 100 → is_within (datum_of (args_of from to amount)) ≡ true
within from to amount f g h =
    le-leb (length (text_of (datum_of (args_of from to amount)))) 4096 (omega (arith, ap length (text_is from to amount f g), size_is from to amount, length-decimal-le 2 amount (omega arith) (omega arith) (omega arith)))

args_proper : (from to amount : ℕ) → from < 8 → to < 8 → amount < 100 → IsValue (datum_of (args_of from to amount))
args_proper from to amount f g h =
    (((refl, (refl, tt)), (text_utf8 (codes "from") refl, ascii 97 (48 + from) (omega arith) (omega arith), (text_utf8 (codes "n") refl, omega arith, (text_utf8 (codes "to") refl, ascii 97 (48 + to) (omega arith) (omega arith), tt)))), within from to amount f g h)

line_proper : (ticket from to amount : ℕ) → ticket < 2 ^ 32 → from < 8 → to < 8 → amount < 100 → IsProper bank_code (Line.Request ticket 1 (args_of from to amount))
line_proper ticket from to amount t f g h = (t, (omega arith, (bank, refl)), args_proper from to amount f g h)

pub request_read : (ticket from to amount : ℕ) → ticket < 2 ^ 32 → from < 8 → to < 8 → amount < 100 → line_at bank_code (request_line ticket from to amount) ≡ Ok (Line.Request ticket 1 (args_of from to amount))
request_read ticket from to amount t f g h =
    ap (line_at bank_code) (sym (line_is ticket from to amount f g)) ∙ line_read bank_code (Line.Request ticket 1 (args_of from to amount)) bank_named (line_proper ticket from to amount t f g h)

-- ---- they are those of a transfer where the accounts differ
same_digit : (a b : ℕ) → account a ≡ account b → a ≡ b
same_digit a b e = let same : 48 + a ≡ 48 + b = ap (λ w. get_or w 1 0) e in omega (arith, same)

pub args_transfer : (from to amount : ℕ) → (from ≡ to → ⊥) → IsTransfer (args_of from to amount)
args_transfer from to amount h = record {
  source = account from;
  amount = pos amount;
  target = account to;
  apart = λ e. h (same_digit from to e);
  is = refl;
}

-- ---- a line that begins otherwise is no request, tells nothing, and is for no log collector
abbrev pub IsOtherLine : Line → Type 0
IsOtherLine (Line.Request ticket f a) = ⊥
IsOtherLine (Line.Gc k n) = ⊥
IsOtherLine (Line.Sweep k n) = ⊥
IsOtherLine (Line.Reply ticket) = ⊥
IsOtherLine Line.Rows = ⊥
IsOtherLine Line.Tables = ⊥
IsOtherLine Line.Book = ⊥
IsOtherLine line = Unit {0}

other_form : (b c : ℕ) (bs : List ℕ) (line : Line) → AreOther b c → HasForm bank_code line (b ∷ c ∷ bs) → IsOtherLine line
other_form b c bs Line.Blank h form = tt
other_form b c bs Line.Ticket h form = tt
other_form b c bs (Line.Request ticket f a) h form = h.0 (ap (λ w. get_or w 0 0) form.5)
other_form b c bs (Line.Turn run n) h form = tt
other_form b c bs (Line.Lost run) h form = tt
other_form b c bs (Line.Crash run) h form = tt
other_form b c bs (Line.Restart id f) h form = tt
other_form b c bs (Line.Ic n) h form = tt
other_form b c bs (Line.Gc k n) h form = h.2 (ap (λ w. get_or w 0 0) form.3)
other_form b c bs (Line.Sweep k n) h form = h.4 (ap (λ w. get_or w 1 0) form.2)
other_form b c bs (Line.Settle n) h form = tt
other_form b c bs (Line.Tick n) h form = tt
other_form b c bs Line.Halt h form = tt
other_form b c bs (Line.Reply ticket) h form = h.0 (ap (λ w. get_or w 0 0) form.1)
other_form b c bs Line.Rows h form = h.0 (ap (λ w. get_or w 0 0) form)
other_form b c bs Line.Tables h form = h.3 (ap (λ w. get_or w 1 0) form)
other_form b c bs Line.Book h form = h.1 (ap (λ w. get_or w 0 0) form)

pub other_read : (b c : ℕ) (bs : List ℕ) (line : Line) → AreOther b c → line_at bank_code (b ∷ c ∷ bs) ≡ Ok line → IsOtherLine line
other_read b c bs line h e = other_form b c bs line h ((lines_have_forms bank_code line (b ∷ c ∷ bs)).formed e)
