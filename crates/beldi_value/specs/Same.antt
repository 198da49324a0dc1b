-- Whether two values are equal, as a test.
use Rattle.std.specs.Prelude.{◌≡◌, ◌==◌, Bool, true, false, ◌&&◌, List, [], ◌∷◌, ◌++◌, map, refl}
use Rattle.std.specs.{Bool.Decides, Bool.beq, Ordering.int_eq, Cmp.unsigned_Decides, Cmp.signed_Decides, Cmp.booleans_Decides}
use lib.Pointwise.{pointwise, pointwise_decides}
use Rattle.std.proofs.Common.{sym, ap, ◌∙◌}
use Rattle.beldi_value.specs.Datum.{Datum, Row, Token, row_of, token_of, token_back, write, read, top, again}
use Rattle.beldi_value.specs.{declared.value.Value.Value, Value.datum_of, Injective.same_values}

abbrev row_same : Row → Row → Bool
row_same a b = (a.0 == b.0) && (beq a.1.0 b.1.0 && (int_eq a.1.1.0 b.1.1.0 && pointwise ◌==◌ a.1.1.1 b.1.1.1))

rows_of : Datum → List Row
rows_of d = map row_of (write d ++ [])

pub same_datum : Datum → Datum → Bool
same_datum d e = pointwise row_same (rows_of d) (rows_of e)

-- two values are equal
pub same_value : Value → Value → Bool
same_value v w = same_datum (datum_of v) (datum_of w)

both : {s t : Bool} {P Q : Type 0} → Decides s P → Decides t Q → Decides (s && t) (P × Q)
both {s = true} {t = true} p q = (λ h. (p.0 refl, q.0 refl), λ h. refl)
both {s = true} {t = false} p q = (λ h. cc, λ h. q.1 h.1)
both {s = false} {t = t} p q = (λ h. cc, λ h. p.1 h.0)

tokens_back : (ts : List Token) → map token_of (map row_of ts) ≡ ts
tokens_back [] = refl
tokens_back (t ∷ ts) = ap (λ u. u ∷ map token_of (map row_of ts)) (token_back t) ∙ ap (λ us. t ∷ us) (tokens_back ts)

datum_from : List Row → Datum
datum_from rs = top (read (map token_of rs))

datum_back : (d : Datum) → datum_from (rows_of d) ≡ d
unfolding datum_from rows_of
datum_back d = ap (λ ts. top (read ts)) (tokens_back (write d ++ [])) ∙ again d

row_decides : (a b : Row) → Decides (row_same a b) (a ≡ b)
row_decides a b =
    let all = both (unsigned_Decides a.0 b.0) (both (booleans_Decides a.1.0 b.1.0) (both (signed_Decides a.1.1.0 b.1.1.0) (pointwise_decides unsigned_Decides a.1.1.1 b.1.1.1))) in
    (λ h. let e = all.0 h in λ i. (e.0 i, (e.1.0 i, (e.1.1.0 i, e.1.1.1 i))), λ h. all.1 (ap (λ r. r.0) h, (ap (λ r. r.1.0) h, (ap (λ r. r.1.1.0) h, ap (λ r. r.1.1.1) h))))

pub same_datum_decides : (d e : Datum) → Decides (same_datum d e) (d ≡ e)
unfolding same_datum
same_datum_decides d e =
    let rows = pointwise_decides row_decides (rows_of d) (rows_of e) in
    (λ h. sym (datum_back d) ∙ ap datum_from (rows.0 h) ∙ datum_back e, λ h. rows.1 (ap rows_of h))

pub value_decides : (v w : Value) → Decides (same_value v w) (v ≡ w)
unfolding same_value
value_decides v w =
    let d = same_datum_decides (datum_of v) (datum_of w) in
    (λ h. same_values v w (d.0 h), λ h. d.1 (ap datum_of h))
