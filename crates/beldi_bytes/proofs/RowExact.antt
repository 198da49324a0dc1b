-- Parts of rows with the same bytes, and what follows them, are one.
use Rattle.std.proofs.Common.{◌≡◌, ◌/◌, ◌%◌, ℕ, pos, negsuc, List, [], ◌∷◌, ◌++◌, length, refl, ap, arith}
use Rattle.beldi_value.specs.Datum.{Datum, Datums, Fields, null, boolean, int, text, list, fields, no_items, item, no_fields, field}
use Rattle.beldi_value.specs.{Injective.list_of, Injective.pairs_of, Injective.same_values, Value.datum_of, declared.outcome.Outcome.TheVariants.Value as Gives, declared.outcome.Outcome.TheVariants.Fault, declared.outcome.Outcome.TheVariants.Aborted, declared.place.Owner.TheVariants.Intent as OfIntent, declared.place.Owner.TheVariants.Tx as OfTx, declared.place.Place.Place}
use Rattle.beldi_value.specs.declared.outcome.Code.TheVariants.{WrongType, Overflow, DivideByZero, Steps, LocksHeld, ValueTooLarge, NoTx}
use Rattle.beldi_row.specs.declared.notes.Note.{Note}
use Rattle.beldi_row.specs.declared.notes.Note.TheVariants.{Wrote, Cond, Got, Died, Freed}
use Rattle.beldi_row.specs.declared.row.Row.TheVariants.{Intent, ReadLog, Invoke, Cell as OfCell, Lockset}
use Rattle.beldi_bytes.specs.Coding.{truth_bytes}
use Rattle.beldi_bytes.specs.KeyBytes.{four, id_bytes, tx_bytes}
use Rattle.beldi_bytes.specs.RowBytes.{eight, int_bytes, str_bytes, datum_bytes, items_bytes, fields_bytes, value_bytes, code_bytes, cause_bytes, outcome_bytes, caller_bytes, owner_bytes, note_bytes, entry_bytes, entries_bytes, log_bytes, body_bytes, intent_bytes, invoke_bytes, cell_bytes, row_then, NoTwoRowsHaveOneBytes}
use Rattle.beldi_bytes.proofs.Exact.{Exact, two_exact, four_exact, truth_exact, option_exact, id_exact, place_exact, tx_exact}

pub eight_exact : Exact eight
eight_exact a b s t e =
    let p = four_exact (a / 4294967296) (b / 4294967296) (four (a % 4294967296) s) (four (b % 4294967296) t) e in
    let q = four_exact (a % 4294967296) (b % 4294967296) s t p.1 in
    (omega (arith, p.0, q.0), q.1)

pub int_exact : Exact int_bytes
int_exact (pos a) (pos b) s t e =
    let f : eight a s ≡ eight b t = cc in
    let p = eight_exact a b s t f in
    (ap pos p.0, p.1)
int_exact (negsuc a) (negsuc b) s t e =
    let f : eight a s ≡ eight b t = cc in
    let p = eight_exact a b s t f in
    (ap negsuc p.0, p.1)
int_exact (pos a) (negsuc b) s t e = cc
int_exact (negsuc a) (pos b) s t e = cc

-- fronts of one length
fronts : (a b s t : List ℕ) → length a ≡ length b → a ++ s ≡ b ++ t → (a ≡ b) × (s ≡ t)
fronts [] [] s t h e = (refl, e)
fronts [] (y ∷ b) s t h e = absurd (omega (arith, h))
fronts (x ∷ a) [] s t h e = absurd (omega (arith, h))
fronts (x ∷ a) (y ∷ b) s t h e =
    let f : a ++ s ≡ b ++ t = cc in
    let x_is : x ≡ y = cc in
    let p = fronts a b s t (omega (arith, h)) f in
    (λ i. x_is i ∷ p.0 i, p.1)

pub str_exact : Exact str_bytes
str_exact a b s t e =
    let p = four_exact (length a) (length b) (a ++ s) (b ++ t) e in
    fronts a b s t p.0 p.1

mutual
  pub datum_exact : (a b : Datum) (s t : List ℕ) → datum_bytes a s ≡ datum_bytes b t → (a ≡ b) × (s ≡ t)
  datum_exact null null s t e = (refl, cc)
  datum_exact (boolean a) (boolean b) s t e =
      let f : truth_bytes a s ≡ truth_bytes b t = cc in
      let p = truth_exact a b s t f in
      (ap boolean p.0, p.1)
  datum_exact (int a) (int b) s t e =
      let f : int_bytes a s ≡ int_bytes b t = cc in
      let p = int_exact a b s t f in
      (ap int p.0, p.1)
  datum_exact (text a) (text b) s t e =
      let f : str_bytes a s ≡ str_bytes b t = cc in
      let p = str_exact a b s t f in
      (ap text p.0, p.1)
  datum_exact (list a) (list b) s t e =
      let f : four (length (list_of a)) (items_bytes a s) ≡ four (length (list_of b)) (items_bytes b t) = cc in
      let p = four_exact (length (list_of a)) (length (list_of b)) (items_bytes a s) (items_bytes b t) f in
      let q = items_exact a b s t p.0 p.1 in
      (ap list q.0, q.1)
  datum_exact (fields a) (fields b) s t e =
      let f : four (length (pairs_of a)) (fields_bytes a s) ≡ four (length (pairs_of b)) (fields_bytes b t) = cc in
      let p = four_exact (length (pairs_of a)) (length (pairs_of b)) (fields_bytes a s) (fields_bytes b t) f in
      let q = fields_exact a b s t p.0 p.1 in
      (ap fields q.0, q.1)
  datum_exact a b s t e = cc

  items_exact : (a b : Datums) (s t : List ℕ) → length (list_of a) ≡ length (list_of b) → items_bytes a s ≡ items_bytes b t → (a ≡ b) × (s ≡ t)
  items_exact no_items no_items s t h e = (refl, e)
  items_exact no_items (item y b) s t h e = absurd (omega (arith, h))
  items_exact (item x a) no_items s t h e = absurd (omega (arith, h))
  items_exact (item x a) (item y b) s t h e =
      let p = datum_exact x y (items_bytes a s) (items_bytes b t) e in
      let q = items_exact a b s t (omega (arith, h)) p.1 in
      (λ i. item (p.0 i) (q.0 i), q.1)

  fields_exact : (a b : Fields) (s t : List ℕ) → length (pairs_of a) ≡ length (pairs_of b) → fields_bytes a s ≡ fields_bytes b t → (a ≡ b) × (s ≡ t)
  fields_exact no_fields no_fields s t h e = (refl, e)
  fields_exact no_fields (field k y b) s t h e = absurd (omega (arith, h))
  fields_exact (field k x a) no_fields s t h e = absurd (omega (arith, h))
  fields_exact (field k x a) (field j y b) s t h e =
      let o = str_exact k j (datum_bytes x (fields_bytes a s)) (datum_bytes y (fields_bytes b t)) e in
      let p = datum_exact x y (fields_bytes a s) (fields_bytes b t) o.1 in
      let q = fields_exact a b s t (omega (arith, h)) p.1 in
      (λ i. field (o.0 i) (p.0 i) (q.0 i), q.1)

pub value_exact : Exact value_bytes
value_exact a b s t e =
    let p = datum_exact (datum_of a) (datum_of b) s t e in
    (same_values a b p.0, p.1)

pub code_exact : Exact code_bytes
code_exact WrongType WrongType s t e = (refl, cc)
code_exact Overflow Overflow s t e = (refl, cc)
code_exact DivideByZero DivideByZero s t e = (refl, cc)
code_exact Steps Steps s t e = (refl, cc)
code_exact LocksHeld LocksHeld s t e = (refl, cc)
code_exact ValueTooLarge ValueTooLarge s t e = (refl, cc)
code_exact NoTx NoTx s t e = (refl, cc)
code_exact a b s t e = cc

pub cause_exact : Exact cause_bytes
cause_exact a b s t e =
    let p = place_exact a.place b.place _ _ e in
    let q = option_exact id_bytes id_exact a.holder b.holder s t p.1 in
    let same : a ≡ b = λ i. record { place = p.0 i; holder = q.0 i } in
    (same, q.1)

pub outcome_exact : Exact outcome_bytes
outcome_exact (Gives a) (Gives b) s t e =
    let f : value_bytes a s ≡ value_bytes b t = cc in
    let p = value_exact a b s t f in
    (ap Gives p.0, p.1)
outcome_exact (Fault a) (Fault b) s t e =
    let f : code_bytes a s ≡ code_bytes b t = cc in
    let p = code_exact a b s t f in
    (ap Fault p.0, p.1)
outcome_exact (Aborted a) (Aborted b) s t e =
    let f : cause_bytes a s ≡ cause_bytes b t = cc in
    let p = cause_exact a b s t f in
    (ap Aborted p.0, p.1)
outcome_exact a b s t e = cc

pub caller_exact : Exact caller_bytes
caller_exact a b s t e =
    let p = place_exact a.place b.place _ _ e in
    let q = two_exact a.func b.func _ _ p.1 in
    let r = truth_exact a.waits b.waits s t q.1 in
    let same : a ≡ b = λ i. record { place = p.0 i; func = q.0 i; waits = r.0 i } in
    (same, r.1)

pub owner_exact : Exact owner_bytes
owner_exact (OfIntent a) (OfIntent b) s t e =
    let f : id_bytes a s ≡ id_bytes b t = cc in
    let p = id_exact a b s t f in
    (ap OfIntent p.0, p.1)
owner_exact (OfTx a) (OfTx b) s t e =
    let f : tx_bytes a s ≡ tx_bytes b t = cc in
    let p = tx_exact a b s t f in
    (ap OfTx p.0, p.1)
owner_exact a b s t e = cc

pub note_exact : Exact note_bytes
note_exact Wrote Wrote s t e = (refl, cc)
note_exact (Cond a) (Cond b) s t e =
    let f : truth_bytes a s ≡ truth_bytes b t = cc in
    let p = truth_exact a b s t f in
    (ap Cond p.0, p.1)
note_exact Got Got s t e = (refl, cc)
note_exact (Died a) (Died b) s t e =
    let f : id_bytes a s ≡ id_bytes b t = cc in
    let p = id_exact a b s t f in
    (ap Died p.0, p.1)
note_exact Freed Freed s t e = (refl, cc)
note_exact a b s t e = cc

pub entry_exact : Exact entry_bytes
entry_exact a b s t e =
    let p = place_exact a.0 b.0 _ _ e in
    let q = note_exact a.1 b.1 s t p.1 in
    let same : a ≡ b = λ i. (p.0 i, q.0 i) in
    (same, q.1)

entries_exact : (a b : List (Place × Note)) (s t : List ℕ) → length a ≡ length b → entries_bytes a s ≡ entries_bytes b t → (a ≡ b) × (s ≡ t)
entries_exact [] [] s t h e = (refl, e)
entries_exact [] (y ∷ b) s t h e = absurd (omega (arith, h))
entries_exact (x ∷ a) [] s t h e = absurd (omega (arith, h))
entries_exact (x ∷ a) (y ∷ b) s t h e =
    let p = entry_exact x y (entries_bytes a s) (entries_bytes b t) e in
    let q = entries_exact a b s t (omega (arith, h)) p.1 in
    (λ i. p.0 i ∷ q.0 i, q.1)

pub log_exact : Exact log_bytes
log_exact a b s t e =
    let p = four_exact (length a) (length b) (entries_bytes a s) (entries_bytes b t) e in
    entries_exact a b s t p.0 p.1

pub body_exact : Exact body_bytes
body_exact a b s t e =
    let p = two_exact a.func b.func _ _ e in
    let q = value_exact a.args b.args _ _ p.1 in
    let r = option_exact tx_bytes tx_exact a.tx b.tx _ _ q.1 in
    let o = option_exact caller_bytes caller_exact a.parent b.parent s t r.1 in
    let same : a ≡ b = λ i. record { func = p.0 i; args = q.0 i; tx = r.0 i; parent = o.0 i } in
    (same, o.1)

pub intent_exact : Exact intent_bytes
intent_exact a b s t e =
    let p = eight_exact a.issued b.issued _ _ e in
    let q = option_exact body_bytes body_exact a.body b.body _ _ p.1 in
    let r = option_exact outcome_bytes outcome_exact a.outcome b.outcome _ _ q.1 in
    let o = option_exact eight eight_exact a.finish b.finish s t r.1 in
    let same : a ≡ b = λ i. record { issued = p.0 i; body = q.0 i; outcome = r.0 i; finish = o.0 i } in
    (same, o.1)

pub invoke_exact : Exact invoke_bytes
invoke_exact a b s t e =
    let p = two_exact a.func b.func _ _ e in
    let q = option_exact outcome_bytes outcome_exact a.result b.result _ _ p.1 in
    let r = truth_exact a.registered b.registered s t q.1 in
    let same : a ≡ b = λ i. record { func = p.0 i; result = q.0 i; registered = r.0 i } in
    (same, r.1)

pub cell_exact : Exact cell_bytes
cell_exact a b s t e =
    let p = value_exact a.value b.value _ _ e in
    let q = option_exact owner_bytes owner_exact a.owner b.owner _ _ p.1 in
    let r = log_exact a.log b.log _ _ q.1 in
    let o = option_exact four four_exact a.next b.next _ _ r.1 in
    let m = truth_exact a.marked b.marked _ _ o.1 in
    let n = option_exact eight eight_exact a.dangled b.dangled s t m.1 in
    let same : a ≡ b = λ i. record { value = p.0 i; owner = q.0 i; log = r.0 i; next = o.0 i; marked = m.0 i; dangled = n.0 i } in
    (same, n.1)

pub row_exact : Exact row_then
row_exact (Intent a) (Intent b) s t e =
    let f : intent_bytes a s ≡ intent_bytes b t = cc in
    let p = intent_exact a b s t f in
    (ap Intent p.0, p.1)
row_exact (ReadLog a) (ReadLog b) s t e =
    let f : value_bytes a s ≡ value_bytes b t = cc in
    let p = value_exact a b s t f in
    (ap ReadLog p.0, p.1)
row_exact (Invoke a) (Invoke b) s t e =
    let f : invoke_bytes a s ≡ invoke_bytes b t = cc in
    let p = invoke_exact a b s t f in
    (ap Invoke p.0, p.1)
row_exact (OfCell a) (OfCell b) s t e =
    let f : cell_bytes a s ≡ cell_bytes b t = cc in
    let p = cell_exact a b s t f in
    (ap OfCell p.0, p.1)
row_exact Lockset Lockset s t e = (refl, cc)
row_exact a b s t e = cc

pub rows_are_one : NoTwoRowsHaveOneBytes
rows_are_one r s e = (row_exact r s [] [] e).0
