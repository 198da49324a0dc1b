-- Lists and records, read part by part.
use Rattle.std.proofs.Common.{◌≡◌, ◌+◌, ◌-◌, ◌<◌, ◌≤◌, ◌==◌, ℕ, zero, suc, Some, pos, negsuc, Bool, false, true, List, [], ◌∷◌, ◌++◌, length, length-append, length-drop, drop, drop-cons, get_or, add-one, refl, sym, ap, subst, ◌∙◌, arith}
use Rattle.std.proofs.lemmas.List.{nil_from_length}
use Rattle.std.proofs.lemmas.Cmp.{nat_list_cmp_total}
use Rattle.std.specs.Prelude.{IsTrue, slice_get}
use Rattle.std.specs.Ordering.{nat_cmp, is_lt, ordering_reverse, match_ordering}
use Rattle.std.specs.Cmp.Lexicographic.{slice_cmp}
use Rattle.std.specs.declared.cmp.Ordering.{Ordering}
use Rattle.std.specs.declared.cmp.Ordering.TheVariants.{Less, Equal, Greater}
use Rattle.beldi_row.{specs.declared.notes.Note.Note, specs.Log.most_entries, specs.Log.most_entries_are, proofs.Room.has_room}
use Rattle.beldi_value.specs.{declared.place.Place.Place, declared.value.Value.Value, Value.datum_of, Value.items_view, Value.fields_view, RecordParts.set_field}
use Rattle.beldi_value.specs.Datum.{Datum, datum_size, datums_size, fields_size, Datums, Fields, null, boolean, int, text, list, fields, no_items, item, no_fields, field, fields_of, IsAbove, IsRecord}
use Rattle.beldi_value.specs.Formed.{IsFormed, HaveForm}
use Rattle.beldi_bytes.specs.declared.cursor.ReadErr.{ReadErr, TheVariants.Foreign}
use Rattle.beldi_bytes.specs.Coding.{Refuses}
use Rattle.beldi_bytes.specs.KeyBytes.{four}
use Rattle.beldi_bytes.specs.RowBytes.{entry_bytes, entries_bytes, log_bytes, IsEntry, AreEntries, IsLog, datum_bytes, items_bytes, fields_bytes}
use Rattle.beldi_bytes.specs.BytesReading.{list_bytes, counted_items, AreItems, record_bytes, counted_fields, AreFields, field_bytes, IsNext, FitsBehind}
use Rattle.beldi_bytes.proofs.Exact.{four_exact}
use Rattle.beldi_bytes.proofs.RowExact.{entry_exact, datum_exact, str_exact}
use Rattle.beldi_bytes.proofs.Midway.{Midway, next, whole, stopped}
use Rattle.beldi_bytes.proofs.Refused.{refused}

-- ---- lists
abbrev pub IsList : ℕ → List Datum → Type 0
IsList n ds = (length ds ≡ n) × AreItems ds

abbrev ToItems : ℕ → List ℕ → List ℕ → List Datum → Type 0
ToItems n old left done = Midway Datum list_bytes (IsList n) old left done

pub items_more : (ds : List Datum) (d : Datum) → AreItems ds → IsFormed d → AreItems (ds ++ d ∷ [])
items_more [] d i f = (f, tt)
items_more (e ∷ ds) d i f = (i.0, items_more ds d i.1 f)

formed_at : (ds : List Datum) (d : Datum) (w : List Datum) → AreItems (ds ++ d ∷ w) → IsFormed d
formed_at [] d w i = i.0
formed_at (e ∷ ds) d w i = formed_at ds d w i.1

more_left : {A : Type 0} (done : List A) (n : ℕ) → length done < n → length (done ++ []) ≡ n → ⊥
more_left done n h e = absurd (omega (arith, h, e, length-append done []))

same_item : (n : ℕ) (left new : List ℕ) (done : List Datum) (d : Datum) → length done < n → left ≡ datum_bytes d new
    → (u : List Datum) (s : List ℕ) → IsList n (done ++ u) → left ≡ list_bytes u s → (w : List Datum) × (u ≡ d ∷ w) × (new ≡ list_bytes w s)
same_item n left new done d h f [] s i e = absurd (more_left done n h i.0)
same_item n left new done d h f (x ∷ w) s i e =
    let p = datum_exact d x new (list_bytes w s) (sym f ∙ e) in
    (w, ap (λ y. y ∷ w) (sym p.0), p.1)

pub next_item : (n : ℕ) (old left new : List ℕ) (done : List Datum) (d : Datum) → ToItems n old left done → length done < n → left ≡ datum_bytes d new → ToItems n old new (done ++ d ∷ [])
next_item n old left new done d m h f = next list_bytes (IsList n) old left new done d m (λ u s e. f ∙ ap (datum_bytes d) e) (same_item n left new done d h f)

-- all items, behind their number
pub all_items : (n : ℕ) (old mid left : List ℕ) (done : List Datum) → ToItems n mid left done → length done ≡ n → old ≡ four n mid → old ≡ counted_items done left
all_items n old mid left done m h e = e ∙ ap (four n) (whole list_bytes (IsList n) mid left left done m refl) ∙ ap (λ k. four k (list_bytes done left)) (sym h)

an_item : (n : ℕ) (left : List ℕ) (done : List Datum) → length done < n
    → (u : List Datum) (s : List ℕ) → IsList n (done ++ u) → left ≡ list_bytes u s → (d : Datum) × (t : List ℕ) × IsFormed d × (left ≡ datum_bytes d t)
an_item n left done h [] s i e = absurd (more_left done n h i.0)
an_item n left done h (x ∷ w) s i e = (x, list_bytes w s, formed_at done x w i.1, e)

pub no_item : (n : ℕ) (old mid left : List ℕ) (done : List Datum) (why : ReadErr) → ToItems n mid left done → length done < n → old ≡ four n mid
    → Refuses datum_bytes IsFormed left why → Refuses counted_items AreItems old why
no_item n old mid left done why m h e r =
    let q = stopped list_bytes (IsList n) datum_bytes IsFormed mid left left done why m r (an_item n left done h) in
    refused list_bytes (IsList n) counted_items AreItems old mid why q (λ ds s i f.
    let p = four_exact n (length ds) mid (list_bytes ds s) (sym e ∙ f) in
    (ds, s, (sym p.0, i), p.1))

-- ---- logs
abbrev pub AreNoted : ℕ → List (Place × Note) → Type 0
AreNoted n es = (length es ≡ n) × AreEntries es

abbrev ToEntries : ℕ → List ℕ → List ℕ → List (Place × Note) → Type 0
ToEntries n old left done = Midway (Place × Note) entries_bytes (AreNoted n) old left done

pub entries_more : (es : List (Place × Note)) (e : Place × Note) → AreEntries es → IsEntry e → AreEntries (es ++ e ∷ [])
entries_more [] e i f = (f, tt)
entries_more (x ∷ es) e i f = (i.0, entries_more es e i.1 f)

entry_at : (es : List (Place × Note)) (e : Place × Note) (w : List (Place × Note)) → AreEntries (es ++ e ∷ w) → IsEntry e
entry_at [] e w i = i.0
entry_at (x ∷ es) e w i = entry_at es e w i.1

same_entry : (n : ℕ) (left new : List ℕ) (done : List (Place × Note)) (x : Place × Note) → length done < n → left ≡ entry_bytes x new
    → (u : List (Place × Note)) (s : List ℕ) → AreNoted n (done ++ u) → left ≡ entries_bytes u s → (w : List (Place × Note)) × (u ≡ x ∷ w) × (new ≡ entries_bytes w s)
same_entry n left new done x h f [] s i e = absurd (more_left done n h i.0)
same_entry n left new done x h f (y ∷ w) s i e =
    let p = entry_exact x y new (entries_bytes w s) (sym f ∙ e) in
    (w, ap (λ z. z ∷ w) (sym p.0), p.1)

pub next_entry : (n : ℕ) (old left new : List ℕ) (done : List (Place × Note)) (x : Place × Note) → ToEntries n old left done → length done < n → left ≡ entry_bytes x new → ToEntries n old new (done ++ x ∷ [])
next_entry n old left new done x m h f = next entries_bytes (AreNoted n) old left new done x m (λ u s e. f ∙ ap (λ t. entry_bytes x t) e) (same_entry n left new done x h f)

pub all_entries : (n : ℕ) (old mid left : List ℕ) (done : List (Place × Note)) → ToEntries n mid left done → length done ≡ n → old ≡ four n mid → old ≡ log_bytes done left
all_entries n old mid left done m h e = e ∙ ap (four n) (whole entries_bytes (AreNoted n) mid left left done m refl) ∙ ap (λ k. four k (entries_bytes done left)) (sym h)

an_entry : (n : ℕ) (left : List ℕ) (done : List (Place × Note)) → length done < n
    → (u : List (Place × Note)) (s : List ℕ) → AreNoted n (done ++ u) → left ≡ entries_bytes u s → (x : Place × Note) × (t : List ℕ) × IsEntry x × (left ≡ entry_bytes x t)
an_entry n left done h [] s i e = absurd (more_left done n h i.0)
an_entry n left done h (x ∷ w) s i e = (x, entries_bytes w s, entry_at done x w i.1, e)

pub no_entry : (n : ℕ) (old mid left : List ℕ) (done : List (Place × Note)) (why : ReadErr) → ToEntries n mid left done → length done < n → old ≡ four n mid
    → Refuses entry_bytes IsEntry left why → Refuses log_bytes IsLog old why
no_entry n old mid left done why m h e r =
    let q = stopped entries_bytes (AreNoted n) entry_bytes IsEntry mid left left done why m r (an_entry n left done h) in
    refused entries_bytes (AreNoted n) log_bytes IsLog old mid why q (λ es s i f.
    let p = four_exact n (length es) mid (entries_bytes es s) (sym e ∙ f) in
    (es, s, (sym p.0, i.1), p.1))

-- a log of more than eight entries is none
pub too_many : (n : ℕ) (old mid : List ℕ) → 8 < n → old ≡ four n mid → Refuses log_bytes IsLog old Foreign
too_many n old mid many e es s i f =
    let p = four_exact n (length es) mid (entries_bytes es s) (sym e ∙ f) in
    let few : length es ≤ 8 = subst (λ k. length es ≤ k) most_entries_are i.0 in
    absurd (omega (arith, many, few, p.0))

-- what is not more has room, and is one
pub room_left : (n : ℕ) (done : List (Place × Note)) → n ≤ 8 → length done < n → (length done == most_entries) ≡ false
room_left n done few more = has_room (length done) (omega (arith, few, more))

pub is_log : (n : ℕ) (done : List (Place × Note)) → n ≤ 8 → length done ≡ n → AreEntries done → IsLog done
is_log n done few all formed = (subst (λ k. length done ≤ k) (sym most_entries_are) (omega (arith, few, all)), formed)

-- ---- records
abbrev pub IsFields : ℕ → List (List ℕ × Datum) → Type 0
IsFields n fs = (length fs ≡ n) × AreFields fs

abbrev ToFields : ℕ → List ℕ → List ℕ → List (List ℕ × Datum) → Type 0
ToFields n old left done = Midway (List ℕ × Datum) record_bytes (IsFields n) old left done

-- of the keys, those up to one
cut_above : (k : List ℕ) (fs : List (List ℕ × Datum)) (f : List ℕ × Datum) (w : List (List ℕ × Datum)) (d : Datum) → IsAbove k (fs ++ f ∷ w) → IsAbove k (fs ++ (f.0, d) ∷ [])
cut_above k [] f w d a = (a.0, tt)
cut_above k (g ∷ fs) f w d a = (a.0, cut_above g.0 fs f w d a.1)

cut_record : (fs : List (List ℕ × Datum)) (f : List ℕ × Datum) (w : List (List ℕ × Datum)) (d : Datum) → IsRecord (fs ++ f ∷ w) → IsRecord (fs ++ (f.0, d) ∷ [])
cut_record [] f w d a = tt
cut_record (g ∷ fs) f w d a = cut_above g.0 fs f w d a

form_more : (fs : List (List ℕ × Datum)) (f : List ℕ × Datum) → HaveForm (fields_of fs) → HaveForm (fields_of (f ∷ [])) → HaveForm (fields_of (fs ++ f ∷ []))
form_more [] f i h = h
form_more (g ∷ fs) f i h = (i.0, i.1, form_more fs f i.2 h)

form_at : (fs : List (List ℕ × Datum)) (f : List ℕ × Datum) (w : List (List ℕ × Datum)) → HaveForm (fields_of (fs ++ f ∷ w)) → HaveForm (fields_of (f ∷ []))
form_at [] f w i = (i.0, i.1, tt)
form_at (g ∷ fs) f w i = form_at fs f w i.2

pub fields_more : (fs : List (List ℕ × Datum)) (f : List ℕ × Datum) → AreFields fs → FitsBehind fs f → AreFields (fs ++ f ∷ [])
fields_more fs f i h = (cut_record fs (f.0, null) [] f.1 h.0, form_more fs f i.1 h.1)

same_field : (n : ℕ) (left new : List ℕ) (done : List (List ℕ × Datum)) (f : List ℕ × Datum) → length done < n → left ≡ field_bytes f new
    → (u : List (List ℕ × Datum)) (s : List ℕ) → IsFields n (done ++ u) → left ≡ record_bytes u s → (w : List (List ℕ × Datum)) × (u ≡ f ∷ w) × (new ≡ record_bytes w s)
same_field n left new done f h g [] s i e = absurd (more_left done n h i.0)
same_field n left new done f h g (x ∷ w) s i e =
    let p = str_exact f.0 x.0 (datum_bytes f.1 new) (datum_bytes x.1 (record_bytes w s)) (sym g ∙ e) in
    let q = datum_exact f.1 x.1 new (record_bytes w s) p.1 in
    (w, λ j. (sym p.0 j, sym q.0 j) ∷ w, q.1)

pub next_field : (n : ℕ) (old left new : List ℕ) (done : List (List ℕ × Datum)) (f : List ℕ × Datum) → ToFields n old left done → length done < n → left ≡ field_bytes f new → ToFields n old new (done ++ f ∷ [])
next_field n old left new done f m h g = next record_bytes (IsFields n) old left new done f m (λ u s e. g ∙ ap (λ t. field_bytes f t) e) (same_field n left new done f h g)

pub all_fields : (n : ℕ) (old mid left : List ℕ) (done : List (List ℕ × Datum)) → ToFields n mid left done → length done ≡ n → old ≡ four n mid → old ≡ counted_fields done left
all_fields n old mid left done m h e = e ∙ ap (four n) (whole record_bytes (IsFields n) mid left left done m refl) ∙ ap (λ k. four k (record_bytes done left)) (sym h)

a_field : (n : ℕ) (left : List ℕ) (done : List (List ℕ × Datum)) → length done < n
    → (u : List (List ℕ × Datum)) (s : List ℕ) → IsFields n (done ++ u) → left ≡ record_bytes u s → (f : List ℕ × Datum) × (t : List ℕ) × FitsBehind done f × (left ≡ field_bytes f t)
a_field n left done h [] s i e = absurd (more_left done n h i.0)
a_field n left done h (x ∷ w) s i e = (x, record_bytes w s, (cut_record done x w null i.1.0, form_at done x w i.1.1), e)

pub no_field : (n : ℕ) (old mid left : List ℕ) (done : List (List ℕ × Datum)) (why : ReadErr) → ToFields n mid left done → length done < n → old ≡ four n mid
    → Refuses field_bytes (FitsBehind done) left why → Refuses counted_fields AreFields old why
no_field n old mid left done why m h e r =
    let q = stopped record_bytes (IsFields n) field_bytes (FitsBehind done) mid left left done why m r (a_field n left done h) in
    refused record_bytes (IsFields n) counted_fields AreFields old mid why q (λ fs s i f.
    let p = four_exact n (length fs) mid (record_bytes fs s) (sym e ∙ f) in
    (fs, s, (sym p.0, i), p.1))

-- ---- what is read is no shorter than what is left
mutual
  pub datum_long : (d : Datum) (s : List ℕ) → length s < length (datum_bytes d s)
  datum_long null s = omega arith
  datum_long (boolean false) s = omega arith
  datum_long (boolean true) s = omega arith
  datum_long (int (pos n)) s = omega arith
  datum_long (int (negsuc n)) s = omega arith
  datum_long (text t) s = omega (arith, length-append t s)
  datum_long (list ds) s = omega (arith, items_long ds s)
  datum_long (fields fs) s = omega (arith, fields_long fs s)

  items_long : (ds : Datums) (s : List ℕ) → length s ≤ length (items_bytes ds s)
  items_long no_items s = omega arith
  items_long (item d ds) s = omega (arith, datum_long d (items_bytes ds s), items_long ds s)

  fields_long : (fs : Fields) (s : List ℕ) → length s ≤ length (fields_bytes fs s)
  fields_long no_fields s = omega arith
  fields_long (field k d fs) s = omega (arith, length-append k (datum_bytes d (fields_bytes fs s)), datum_long d (fields_bytes fs s), fields_long fs s)

pub field_long : (f : List ℕ × Datum) (s : List ℕ) → length s < length (field_bytes f s)
field_long f s = omega (arith, length-append f.0 (datum_bytes f.1 s), datum_long f.1 s)

-- ---- what is set behind all fields
below_last : (g : List ℕ) (fs : List (List ℕ × Datum)) (k : List ℕ) → IsAbove g (fs ++ (k, null) ∷ []) → slice_cmp nat_cmp g k ≡ Less
below_last g [] k a = a.0
below_last g (f ∷ fs) k a = nat_list_cmp_total.trans g f.0 k a.0 (below_last f.0 fs k a.1)

next_tail : (f : List ℕ × Datum) (fs : List (List ℕ × Datum)) (k : List ℕ) → IsNext (f ∷ fs) k → IsNext fs k
next_tail f [] k a = tt
next_tail f (g ∷ fs) k a = a.1

pub set_end : (fs : List (List ℕ × Datum)) (k : List ℕ) (d : Datum) → IsNext fs k → set_field fs k d ≡ fs ++ (k, d) ∷ []
set_end [] k d a = refl
set_end (f ∷ fs) k d a =
    let above : slice_cmp nat_cmp k f.0 ≡ Greater = nat_list_cmp_total.antisymm k f.0 ∙ ap ordering_reverse (below_last f.0 fs k a) in
    ap (λ o. match_ordering o ((k, d) ∷ f ∷ fs) ((f.0, d) ∷ fs) (f ∷ set_field fs k d)) above ∙ ap (λ gs. f ∷ gs) (set_end fs k d (next_tail f fs k a))

-- ---- whether a key is the next
lt_less : (o : Ordering) → IsTrue (is_lt o) → o ≡ Less
lt_less Less h = refl
lt_less Equal h = cc
lt_less Greater h = cc

less_lt : (o : Ordering) → o ≡ Less → IsTrue (is_lt o)
less_lt o e = subst (λ p. IsTrue (is_lt p)) (sym e) refl

next_at : (fs : List (List ℕ × Value)) (n : ℕ) (f : List ℕ × Value) (k : List ℕ) → length fs ≡ suc n → Some f ≡ slice_get fs n → IsRecord (fields_view fs)
    → (slice_cmp nat_cmp f.0 k ≡ Less → IsNext (fields_view fs) k) × (IsNext (fields_view fs) k → slice_cmp nat_cmp f.0 k ≡ Less)
next_at [] n f k h e r = absurd (omega (arith, h))
next_at (g ∷ []) zero f k h e r =
    let same : f ≡ g = cc in
    (λ l. (subst (λ x. slice_cmp nat_cmp x.0 k ≡ Less) same l, tt), λ i. subst (λ x. slice_cmp nat_cmp x.0 k ≡ Less) (sym same) i.0)
next_at (g ∷ []) (suc n) f k h e r = absurd (omega (arith, h))
next_at (g ∷ x ∷ fs) zero f k h e r = absurd (omega (arith, h))
next_at (g ∷ x ∷ fs) (suc n) f k h e r =
    let p = next_at (x ∷ fs) n f k (omega (arith, h)) e r.1 in
    (λ l. (r.0, p.0 l), λ i. p.1 i.1)

pub is_next_lemma : (xs : List (List ℕ × Value)) (f : List ℕ × Value) (fs : List (List ℕ × Datum)) (k : List ℕ) (b : Bool) (o : Ordering)
    → fields_view xs ≡ fs → Some f ≡ slice_get xs (length xs - 1) → 0 < length xs → IsRecord fs → b ≡ is_lt o → o ≡ slice_cmp nat_cmp f.0 k
    → (IsTrue b → IsNext fs k) × (IsNext fs k → IsTrue b)
is_next_lemma xs f fs k b o view last some r test cmp =
    let p = next_at xs (length xs - 1) f k (omega (arith, some)) last (subst IsRecord (sym view) r) in (
      λ t. subst (λ gs. IsNext gs k) view (p.0 (sym cmp ∙ lt_less o (subst (λ c. IsTrue c) test t))),
      λ i. subst (λ c. IsTrue c) (sym test) (less_lt o (cmp ∙ p.1 (subst (λ gs. IsNext gs k) (sym view) i))),
    )

-- ---- what is written
pub short_record : (xs : List (List ℕ × Value)) → length xs ≤ 1 → IsRecord (fields_view xs)
short_record [] h = tt
short_record (x ∷ []) h = tt
short_record (x ∷ y ∷ xs) h = absurd (omega (arith, h))

pub at_index : {A : Type 0} (xs : List A) (i : ℕ) (x : A) → i < length xs → x ≡ get_or xs i x → drop i xs ≡ x ∷ drop (i + 1) xs
at_index xs i x h e = drop-cons xs i x h ∙ ap (λ a. a ∷ drop (suc i) xs) (sym e) ∙ ap (λ j. x ∷ drop j xs) (sym (add-one i))

pub none_after : {A : Type 0} (xs : List A) (i : ℕ) → length xs ≤ i → drop i xs ≡ []
none_after xs i h = nil_from_length (drop i xs) (omega (arith, h, length-drop i xs))

item_under : (vs : List Value) (i : ℕ) (v : Value) → i < length vs → v ≡ get_or vs i v → datum_size (datum_of v) < datums_size (items_view vs)
item_under [] i v h e = absurd (omega (arith, h))
item_under (x ∷ vs) zero v h e = subst (λ y. datum_size (datum_of y) < datums_size (items_view (x ∷ vs))) (sym e) (omega arith)
item_under (x ∷ vs) (suc i) v h e = let p = item_under vs i v (omega (arith, h)) e in omega (arith, p)

pub item_small : (vs : List Value) (i : ℕ) (v : Value) (ds : List Datum) → i < length vs → v ≡ get_or vs i v → items_view vs ≡ ds → datum_size (datum_of v) < datums_size ds
item_small vs i v ds h e view = subst (λ es. datum_size (datum_of v) < datums_size es) view (item_under vs i v h e)

field_under : (vs : List (List ℕ × Value)) (i : ℕ) (v : List ℕ × Value) → i < length vs → v ≡ get_or vs i v → datum_size (datum_of v.1) < fields_size (fields_view vs)
field_under [] i v h e = absurd (omega (arith, h))
field_under (x ∷ vs) zero v h e = subst (λ y. datum_size (datum_of y.1) < fields_size (fields_view (x ∷ vs))) (sym e) (omega arith)
field_under (x ∷ vs) (suc i) v h e = let p = field_under vs i v (omega (arith, h)) e in omega (arith, p)

pub field_small : (vs : List (List ℕ × Value)) (i : ℕ) (v : List ℕ × Value) (fs : List (List ℕ × Datum)) → i < length vs → v ≡ get_or vs i v → fields_view vs ≡ fs → datum_size (datum_of v.1) < fields_size fs
field_small vs i v fs h e view = subst (λ es. datum_size (datum_of v.1) < fields_size es) view (field_under vs i v h e)
