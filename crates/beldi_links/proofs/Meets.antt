-- Where a walk stands, and what it passed.
use Rattle.std.proofs.lemmas.{Bool.eqb-false, Option.none-some}
use Rattle.std.proofs.Common.{◌≡◌, ◌⊎◌, inl, inr, ℕ, ◌+◌, ◌<◌, ◌≤◌, Bool, true, false, List, [], ◌∷◌, ◌++◌, length, is_some, Option, None, Some, nat_lt, if◌then◌else◌, refl, ap, sym, ◌∙◌, subst, arith, append_assoc, ltb-true, ltb-false}
use Rattle.beldi_value.specs.declared.place.Place.{Place}
use Rattle.beldi_row.specs.{declared.notes.Note.Note, declared.row.Cell.Cell, declared.row.Row.Row, Log.note_at, Log.place_eq}
use Rattle.beldi_chain.specs.{Chain.Chain, Content.Content, Content.log_of}
use Rattle.beldi_links.specs.{LinkLaws.FullIsSeen, LinkLaws.LastIsLast, LinkLaws.LinkedIsSeen, LinkLaws.MeetingsGoOn, LinkLaws.NextIsRead, LinkLaws.NextIsSeen, LinkLaws.NoneIsNoted, LinkLaws.NotedIsNoted, LinkLaws.PassedGoesOn, LinkLaws.ReadsBegin, LinkLaws.SpareIsMade, LinkLaws.SpareIsSeen, LinkLaws.WalksBegin, LinkLaws.WalksEnd, Links.FitsAt, Links.IsPassed, Links.IsSpare, Links.LeadsTo, Links.Linked, Links.Meets, Links.Passed, Links.StandsAt, Links.Steps, Links.StillHolds, Links.before}
use Rattle.beldi_links.proofs.Ways.{before_join, content_is, few, join, none_next, one_cell, same_or, then_way}

-- ---- ways from one row
-- from one on a way to a later one
pub between : (f : Chain) (a : ℕ) (ks : List ℕ) (r : ℕ) (js : List ℕ) (n : ℕ) → Steps f a ks r → Steps f a js n → r < n → LeadsTo f r n
between f a [] r js n path more less = (js, subst (λ z. Steps f z js n) path more)
between f a (k ∷ ks) r [] n (c, is, next, rise, path) more less = let w : a ≡ n = more in let m = few f k ks r path in absurd (omega (arith, w, m, rise, less))
between f a (k ∷ ks) r (j ∷ js) n (c, is, next, rise, path) (d, at, to, more, all) less =
    let cell : c ≡ d = cc in
    let one : k ≡ j = cc in
    between f k ks r js n path (subst (λ z. Steps f z js n) (sym one) all) less

-- and none below the next one is on it
no_less : (f : Chain) (r : ℕ) (js : List ℕ) (n : ℕ) (c : Cell) (k : ℕ) → Steps f r js n → f r ≡ Some (Row.Cell c) → c.next ≡ Some k → r < n → k ≤ n
no_less f r [] n c k path is next less = let w : r ≡ n = path in absurd (omega (arith, w, less))
no_less f r (j ∷ js) n c k (d, at, to, more, all) is next less =
    let cell : c ≡ d = cc in
    let one : j ≡ k = cc in
    let m = few f j js n all in
    omega (arith, one, m)

-- ---- a way to where no row follows goes on from any row on it
module _ (f : Chain) (last : ℕ) (t : Cell) (there : f last ≡ Some (Row.Cell t)) (ends : t.next ≡ None) where
  pub no_more : (c : Cell) (k : ℕ) → f last ≡ Some (Row.Cell c) → c.next ≡ Some k → ⊥
  no_more c k is next = none_next c k (subst (λ (z : Cell). z.next ≡ None) (one_cell t c (sym there ∙ is)) ends) next

  rest : (r : ℕ) (ks : List ℕ) (js : List ℕ) (n : ℕ) → Steps f r ks n → Steps f r js last → LeadsTo f n last
  rest r [] js n path all = (js, subst (λ z. Steps f z js last) path all)
  rest r (k ∷ ks) [] n (c, is, next, less, path) all = absurd (no_more c k (ap f (sym all) ∙ is) next)
  rest r (k ∷ ks) (j ∷ js) n (c, is, next, less, path) (d, at, to, more, all) =
      let cell : c ≡ d = cc in
      let one : k ≡ j = cc in
      rest k ks js n path (subst (λ z. Steps f z js last) (sym one) all)

  ends_at : LeadsTo f 0 last → (r : ℕ) → Meets f r → LeadsTo f r last
  ends_at head r m = then_way f r m.at last m.here (rest 0 m.head.0 head.0 m.at m.head.1 head.1)

  after : (r : ℕ) (js : List ℕ) (c : Cell) (k : ℕ) → Steps f r js last → f r ≡ Some (Row.Cell c) → c.next ≡ Some k → LeadsTo f k last
  after r [] c k path is next = absurd (no_more c k (ap f (sym path) ∙ is) next)
  after r (j ∷ js) c k (d, at, to, more, all) is next =
      let cell : c ≡ d = cc in
      let one : j ≡ k = cc in
      (js, subst (λ z. Steps f z js last) one all)

  last_at : (r : ℕ) (js : List ℕ) (c : Cell) → Steps f r js last → f r ≡ Some (Row.Cell c) → c.next ≡ None → r ≡ last
  last_at r [] c path is none = path
  last_at r (j ∷ js) c (d, at, to, more, all) is none = absurd (none_next c j none (subst (λ (z : Cell). z.next ≡ Some j) (one_cell d c (sym at ∙ is)) to))

pub walks_end : WalksEnd
walks_end f last t head there ends r m = ends_at f last t there ends head r m

pub meetings_go_on : MeetingsGoOn
meetings_go_on f last t head there ends r c k m is next =
    let path = ends_at f last t there ends head r m in
    record { at = last; head = head; here = after f last t there ends r path.0 c k path.1 is next }

pub last_is_last : LastIsLast
last_is_last f last t head there ends r c m is none = let path = ends_at f last t there ends head r m in last_at f last t there ends r path.0 c path.1 is none

-- ---- what is passed
-- no row that is there stands between one and its next
module _ (f : Chain) (l : Linked f) (r : ℕ) (c : Cell) (k : ℕ) (is : f r ≡ Some (Row.Cell c)) (next : c.next ≡ Some k) where
  not_spare : r ≡ l.last + 1 → ⊥
  not_spare e = none_next c k (l.spare c (ap f (sym e) ∙ is)).next next

  -- so it is on the way, and its next leads to the last
  goes_on : LeadsTo f k l.last
  goes_on = by_rest (l.rest r c is)
    where
      by_rest : (r ≡ l.last + 1) ⊎ (LeadsTo f 0 r × LeadsTo f r l.last) → LeadsTo f k l.last
      by_rest (inl e) = absurd (not_spare e)
      by_rest (inr w) = after f l.last l.tail l.there l.ends r w.1.0 c k w.1.1 is next

  none_between : (n : ℕ) (d : Cell) → f n ≡ Some (Row.Cell d) → r < n → n < k → ⊥
  none_between n d at above below = by_rest (l.rest r c is) (l.rest n d at)
    where
      by_rest : (r ≡ l.last + 1) ⊎ (LeadsTo f 0 r × LeadsTo f r l.last) → (n ≡ l.last + 1) ⊎ (LeadsTo f 0 n × LeadsTo f n l.last) → ⊥
      by_rest (inl e) y = not_spare e
      by_rest (inr x) (inl e) =
          let path = goes_on in
          let m = few f k path.0 l.last path.1 in
          omega (arith, m, e, below)
      by_rest (inr x) (inr y) =
          let path = between f 0 x.0.0 r y.0.0 n x.0.1 y.0.1 above in
          let m = no_less f r path.0 n c k path.1 is next above in
          omega (arith, m, below)

pub passed_goes_on : PassedGoesOn
passed_goes_on f l p r c k passed is next none n d less at = by_order (nat_lt n r) (nat_lt r n) refl refl
  where
    by_order : (a b : Bool) → nat_lt n r ≡ a → nat_lt r n ≡ b → IsPassed p d
    by_order true b low high = passed n d (ltb-true n r low) at
    by_order false true low high = absurd (none_between f l r c k is next n d at (ltb-true r n high) less)
    by_order false false low high =
        let x = ltb-false n r low in
        let y = ltb-false r n high in
        let e : n ≡ r = omega (arith, x, y) in
        subst (IsPassed p) (one_cell c d (sym is ∙ ap f (sym e) ∙ at)) (record { after = k; next = next; none = none })

-- a row that leads to one that is there is there
row_there : (f : Chain) (k : ℕ) (js : List ℕ) (last : ℕ) (t : Cell) → f last ≡ Some (Row.Cell t) → Steps f k js last → (c : Cell) × (f k ≡ Some (Row.Cell c))
row_there f k [] last t there path = (t, ap f path ∙ there)
row_there f k (j ∷ js) last t there (c, is, next, less, path) = (c, is)

pub next_is_seen : NextIsSeen
next_is_seen f l p r c k passed is next none =
    let path = goes_on f l r c k is next in
    let here = row_there f k path.0 l.last l.tail l.there path.1 in
    (record { at = l.last; head = l.path; here = path }, passed_goes_on f l p r c k passed is next none, subst (λ z. StandsAt z k) (sym here.1) tt)

pub walks_begin : WalksBegin
walks_begin f p = (record { at = 0; head = ([], refl); here = ([], refl) }, (λ n c less is. absurd (omega (arith, less))), stands (f 0))
  where
    stands : (y : Option Row) → StandsAt y 0
    stands None = refl
    stands (Some y) = tt

-- one that only reads stands at a row that leads to the last
next_stands : (f : Chain) (l : Linked f) (r : ℕ) (c : Cell) (k : ℕ) → f r ≡ Some (Row.Cell c) → c.next ≡ Some k → Meets f k × StandsAt (f k) k
next_stands f l r c k is next =
    let path = goes_on f l r c k is next in
    let here = row_there f k path.0 l.last l.tail l.there path.1 in
    (record { at = l.last; head = l.path; here = path }, subst (λ z. StandsAt z k) (sym here.1) tt)

pub next_is_read : NextIsRead
next_is_read f l r c k is next = next_stands f l r c k is next

pub reads_begin : ReadsBegin
reads_begin f = (record { at = 0; head = ([], refl); here = ([], refl) }, stands (f 0))
  where
    stands : (y : Option Row) → StandsAt y 0
    stands None = refl
    stands (Some y) = tt

pub full_is_seen : FullIsSeen
full_is_seen f p r c h is full none less = (r, record { next = refl; few = less }, h.0, h.1, record { cell = c; there = is; full = full; none = none; told = by_next c.next })
  where
    by_next : (z : Option ℕ) → StillHolds z c c.value c.owner
    by_next None = (refl, refl)
    by_next (Some k) = tt

pub spare_is_seen : SpareIsSeen
spare_is_seen f p n v o s (r, after, meets, passed, told) is =
    (r, after, meets, passed, record { cell = told.cell; there = told.there; full = told.full; none = told.none; spare = s; after = ap f (sym after.next) ∙ is })

-- the row that was full is the last, where there is none of the next number
pub spare_is_made : SpareIsMade
spare_is_made f l p n v o s (r, next_one, meets, passed, told) none value owner log next = by_next told.cell.next refl told.told
  where
    by_next : (z : Option ℕ) → told.cell.next ≡ z → StillHolds z told.cell v o → (n ≡ l.last + 1) × IsSpare l.tail s
    by_next None ends was =
        let at : r ≡ l.last = last_is_last f l.last l.tail l.path l.there l.ends r told.cell meets told.there ends in
        let cell : told.cell ≡ l.tail = one_cell told.cell l.tail (sym told.there ∙ ap f at ∙ l.there) in (
          next_one.next ∙ ap (λ z. z + 1) at,
          record {
            value = value ∙ sym was.0 ∙ ap (λ (z : Cell). z.value) cell;
            owner = owner ∙ sym was.1 ∙ ap (λ (z : Cell). z.owner) cell;
            log = log;
            next = next;
            full = ap (λ (z : Cell). length z.log) (sym cell) ∙ told.full;
          },
        )
    by_next (Some k) after was =
        let path = goes_on f l r told.cell k told.there after in
        let here = row_there f k path.0 l.last l.tail l.there path.1 in
        absurd (none-some (Row.Cell here.0) (sym none ∙ ap f (next_one.next ∙ sym (l.numbers r told.cell k told.there after)) ∙ here.1))

-- the row before the one that is to be linked has a next: the walk passed it
pub linked_is_seen : LinkedIsSeen
linked_is_seen f l p n r c k (q, after, meets, passed, link) one is next =
    let at : q ≡ r = (let a = after.next in omega (arith, a, one)) in
    let cell : link.cell ≡ c = one_cell link.cell c (sym link.there ∙ ap f at ∙ is) in
    next_is_seen f l p r c k (subst (Passed f p) at passed) is next (ap (λ (z : Cell). note_at z.log p) (sym cell) ∙ link.none)

-- ---- the rows below one that is there are there
-- of those on a way, whose numbers go up by one
on_way : (f : Chain) → ((n : ℕ) (c : Cell) (k : ℕ) → f n ≡ Some (Row.Cell c) → c.next ≡ Some k → k ≡ n + 1) → (r : ℕ) (ks : List ℕ) (n : ℕ) → Steps f r ks n → (i : ℕ) → r ≤ i → i < n → is_some (f i) ≡ true
on_way f numbers r [] n path i low high = let w : r ≡ n = path in absurd (omega (arith, w, low, high))
on_way f numbers r (k ∷ ks) n (c, is, next, less, path) i low high = by_order (nat_lt r i) refl (λ more. on_way f numbers k ks n path i more high)
  where
    by_order : (b : Bool) → nat_lt r i ≡ b → (k ≤ i → is_some (f i) ≡ true) → is_some (f i) ≡ true
    by_order true e further =
        let more = ltb-true r i e in
        let one = numbers r c k is next in
        further (omega (arith, more, one))
    by_order false e further =
        let most = ltb-false r i e in
        let same : r ≡ i = omega (arith, most, low) in
        ap is_some (ap f (sym same) ∙ is)

pub rows_below : (f : Chain) (l : Linked f) (k i : ℕ) (r : Row) → f k ≡ Some r → i ≤ k → is_some (f i) ≡ true
rows_below f l k i r is most = by_kind r is (subst FitsAt is (l.fits k))
  where
    to_last : i ≤ l.last → is_some (f i) ≡ true
    to_last most = same_or i l.last
        (λ at. ap is_some (ap f at ∙ l.there))
        (λ off. on_way f l.numbers 0 l.path.0 l.last l.path.1 i (omega arith) (let ne = eqb-false i l.last off in below ne most))
      where
        below : (i ≡ l.last → ⊥) → i ≤ l.last → i < l.last
        below ne most = by_order (nat_lt i l.last) refl
          where
            by_order : (b : Bool) → nat_lt i l.last ≡ b → i < l.last
            by_order true e = ltb-true i l.last e
            by_order false e = let m = ltb-false i l.last e in absurd (ne (omega (arith, m, most)))

    by_kind : (r : Row) → f k ≡ Some r → FitsAt (Some r) → is_some (f i) ≡ true
    by_kind (Row.Cell c) is fits = by_rest (l.rest k c is)
      where
        by_rest : (k ≡ l.last + 1) ⊎ (LeadsTo f 0 k × LeadsTo f k l.last) → is_some (f i) ≡ true
        by_rest (inl e) = same_or i k
            (λ at. ap is_some (ap f at ∙ is))
            (λ off. let ne = eqb-false i k off in to_last (by_less ne))
          where
            by_less : (i ≡ k → ⊥) → i ≤ l.last
            by_less ne = by_order (nat_lt i k) refl
              where
                by_order : (b : Bool) → nat_lt i k ≡ b → i ≤ l.last
                by_order true e' = let m = ltb-true i k e' in omega (arith, m, e)
                by_order false e' = let m = ltb-false i k e' in absurd (ne (omega (arith, m, most)))
        by_rest (inr w) = let m = few f k w.1.0 l.last w.1.1 in to_last (omega (arith, m, most))
    by_kind r is fits = absurd fits

-- ---- a note on the way
pub passed_by : (es fs : List (Place × Note)) (p : Place) → note_at es p ≡ None → note_at (es ++ fs) p ≡ note_at fs p
passed_by [] fs p none = refl
passed_by (e ∷ es) fs p none = by_test (place_eq e.0 p) none (passed_by es fs p)
  where
    by_test : (b : Bool) → (if b then Some e.1 else note_at es p) ≡ None → (note_at es p ≡ None → note_at (es ++ fs) p ≡ note_at fs p) → (if b then Some e.1 else note_at (es ++ fs) p) ≡ note_at fs p
    by_test true h more = cc
    by_test false h more = more h

found_first : (es fs : List (Place × Note)) (p : Place) (w : Note) → note_at es p ≡ Some w → note_at (es ++ fs) p ≡ Some w
found_first [] fs p w h = cc
found_first (e ∷ es) fs p w h = by_test (place_eq e.0 p) h (found_first es fs p w)
  where
    by_test : (b : Bool) → (if b then Some e.1 else note_at es p) ≡ Some w → (note_at es p ≡ Some w → note_at (es ++ fs) p ≡ Some w) → (if b then Some e.1 else note_at (es ++ fs) p) ≡ Some w
    by_test true h more = h
    by_test false h more = more h

pub none_before : (f : Chain) (p : Place) (r : ℕ) (ks : List ℕ) (n : ℕ) → Steps f r ks n → Passed f p n → note_at (before f r ks) p ≡ None
none_before f p r [] n path passed = refl
none_before f p r (k ∷ ks) n (c, is, next, less, path) passed =
    let far = few f k ks n path in
    passed_by (log_of (f r)) (before f k ks) p (ap (λ z. note_at (log_of z) p) is ∙ (passed r c (omega (arith, less, far)) is).none) ∙ none_before f p k ks n path passed

pub none_noted : NoneIsNoted
none_noted f l p passed none =
    ap (λ (z : Content). note_at z.notes p) (content_is f l.path.0 l.last l.tail l.path.1 l.there l.ends l.few)
    ∙ passed_by (before f 0 l.path.0) l.tail.log p (none_before f p 0 l.path.0 l.last l.path.1 passed)
    ∙ none

-- from the row on
found_here : (f : Chain) (r : ℕ) (ks : List ℕ) (last : ℕ) (t c : Cell) (p : Place) (w : Note) → Steps f r ks last → f last ≡ Some (Row.Cell t) → f r ≡ Some (Row.Cell c) → note_at c.log p ≡ Some w → note_at (before f r ks ++ t.log) p ≡ Some w
found_here f r [] last t c p w path there is note = ap (λ (z : Cell). note_at z.log p) (one_cell t c (sym there ∙ ap f (sym path) ∙ is)) ∙ note
found_here f r (k ∷ ks) last t c p w (d, at, next, less, path) there is note =
    ap (λ z. note_at z p) (append_assoc (log_of (f r)) (before f k ks) t.log) ∙ found_first (log_of (f r)) (before f k ks ++ t.log) p w (ap (λ z. note_at (log_of z) p) is ∙ note)

pub noted_is_noted : NotedIsNoted
noted_is_noted f l p r c w head here passed is note =
    ap (λ (z : Content). note_at z.notes p) (content_is f (head.0 ++ here.0) l.last l.tail (join f 0 head.0 r here.0 l.last head.1 here.1) l.there l.ends l.few)
    ∙ ap (λ z. note_at (z ++ l.tail.log) p) (before_join f 0 head.0 r here.0 head.1)
    ∙ ap (λ z. note_at z p) (append_assoc (before f 0 head.0) (before f r here.0) l.tail.log)
    ∙ passed_by (before f 0 head.0) (before f r here.0 ++ l.tail.log) p (none_before f p 0 head.0 r head.1 passed)
    ∙ found_here f r here.0 l.last l.tail c p w here.1 l.there is note
