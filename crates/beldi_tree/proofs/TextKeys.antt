-- A key that stands in a body as a text.
use Rattle.std.proofs.Common.{Bool, Err, IsTrue, List, Ok, Result, ap, false, if◌then◌else◌, ltb-false, nat_le, refl, sym, true, ℕ, length, ◌∙◌, ◌≡◌, ◌≤◌, arith}
use Rattle.beldi_value.proofs.Within.{short_within}
use Rattle.beldi_value.specs.{Limits.is_within, Value.datum_of, declared.value.Value.Value, declared.outcome.Code.Code, declared.outcome.Code.TheVariants.ValueTooLarge}
use Rattle.beldi_tree.specs.Evaluate.{key_of, limited, most_key, ◌>>=◌}

short : (n : ℕ) → nat_le n most_key ≡ true → n ≤ 256
short n e = grind arith

-- it is within the limits of a value, or too large for a key as well
pub text_key : (t : List ℕ) → (limited (Value.Text t) >>= key_of) ≡ key_of (Value.Text t)
text_key t = by (nat_le (length t) most_key) refl
  where
    large : (w : Bool) → nat_le (length t) most_key ≡ false → ((if w then Ok (Value.Text t) else Err ValueTooLarge) >>= key_of) ≡ key_of (Value.Text t)
    large true e = refl
    large false e = sym (ap (λ b. if b then Ok t else Err ValueTooLarge) e)

    by : (b : Bool) → nat_le (length t) most_key ≡ b → (limited (Value.Text t) >>= key_of) ≡ key_of (Value.Text t)
    by true e = ap (λ w. (if w then Ok (Value.Text t) else Err ValueTooLarge) >>= key_of) (short_within t (short (length t) e))
    by false e = large (is_within (datum_of (Value.Text t))) e
