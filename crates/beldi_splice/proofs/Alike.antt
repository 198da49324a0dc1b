-- What the rows that are there hold, by those that were kept.
use Rattle.std.proofs.lemmas.Bool.{eqb-false}
use Rattle.std.proofs.Common.{◌≡◌, ◌⊎◌, inl, inr, ℕ, zero, suc, nat_lt, ltb-true, ltb-false, if◌then◌else◌, ◌+◌, ◌<◌, ◌≤◌, Bool, true, false, List, [], ◌∷◌, ◌++◌, length, is_some, Option, Some, None, refl, ap, sym, ◌∙◌, subst, arith, append_assoc}
use Rattle.beldi_value.specs.declared.{id.IntentId.IntentId, place.Place.Place}
use Rattle.beldi_row.specs.{declared.row.Cell.Cell, declared.row.Row.Row, Log.most_entries, Log.most_entries_are, Log.note_at, Log.place_eq, declared.notes.Note.Note}
use Rattle.beldi_row.proofs.Logs.{place_self}
use Rattle.beldi_chain.specs.{Chain.Chain, Chain.content, Content.Content, Content.log_of}
use Rattle.beldi_links.specs.Links.{At, Fits, FitsAt, FitsNext, IsPassed, LeadsTo, LinkedFrom, Linked, Passed, ReadsAt, SeesAt, Steps, before, behind, own}
use Rattle.beldi_links.proofs.{Meets.next_is_read, Meets.passed_by, Meets.rows_below, Ways.content_is, Ways.few, Ways.none_next, Ways.one_cell, Ways.one_step, Ways.same_or, Ways.then_way}
use Rattle.beldi_splice.specs.Splice.{AreGone, ArePassable, IsCellOf, IsMoored, IsPassable, IsThreaded, LeadsPast, LessChain, LessRow}
use Rattle.beldi_splice.specs.SpliceLaws.{ContentsAreAlike, FirstLeadsToLast, IsAlike, LinkedAreSo, MoreAreGone, NobodyGoneNoneLess, ReadsGoFurther, UnfollowedAreAlike, WalksGoFurther}

pub strictly : (n y : ℕ) → n ≤ y → (n ≡ y → ⊥) → n < y
strictly n y most off = by_order (nat_lt n y) refl
  where
    by_order : (b : Bool) → nat_lt n y ≡ b → n < y
    by_order true e = ltb-true n y e
    by_order false e = let m = ltb-false n y e in absurd (off (omega (arith, m, most)))

pub not_followed : (n : Option ℕ) → n ≡ None → is_some n ≡ true → ⊥
not_followed None none some = cc
not_followed (Some k) none some = cc

unfollowed_pass : (gone : IntentId → Bool) (n : ℕ) (k : Cell) → k.next ≡ None → IsPassable gone n (Some (Row.Cell k)) → ⊥
unfollowed_pass gone n k none p = not_followed k.next none (ap (λ (z : Cell). is_some z.next) (one_cell k p.cell p.there) ∙ p.followed)

-- ---- a kept row that none follows
no_mark : (gone : IntentId → Bool) (n : ℕ) (k : Cell) → k.next ≡ None → (b : Bool) → (b ≡ true → IsPassable gone n (Some (Row.Cell k))) → b ≡ false
no_mark gone n k none true passes = absurd (unfollowed_pass gone n k none (passes refl))
no_mark gone n k none false passes = refl

no_moment : (o : Option ℕ) (b : Bool) → (is_some o ≡ true → b ≡ true) → b ≡ false → o ≡ None
no_moment None b h off = refl
no_moment (Some t) b h off = let clash = sym (h refl) ∙ off in cc

no_next : (gone : IntentId → Bool) (f : Chain) (n : ℕ) (o p : Option ℕ) → LeadsPast gone f n o p → p ≡ None → o ≡ None
no_next gone f n None None h none = refl
no_next gone f n None (Some k) h none = absurd h
no_next gone f n (Some y) None h none = absurd h
no_next gone f n (Some y) (Some k) h none = cc

same_cell : (c k : Cell) → c.value ≡ k.value → c.owner ≡ k.owner → c.log ≡ k.log → c.next ≡ k.next → c.marked ≡ k.marked → c.dangled ≡ k.dangled → c ≡ k
same_cell c k value owner log next marked dangled = λ i. record { value = value i; owner = owner i; log = log i; next = next i; marked = marked i; dangled = dangled i }

unfollowed_row : (gone : IntentId → Bool) (f : Chain) (n : ℕ) (r : Option Row) (k : Cell) → LessRow gone f n r (Some (Row.Cell k)) → Fits k → k.next ≡ None → r ≡ Some (Row.Cell k)
unfollowed_row gone f n (Some (Row.Cell c)) k less fits none =
    let unmarked = no_mark gone n k none c.marked less.marked in
    ap (λ z. Some (Row.Cell z)) (same_cell c k less.value less.owner less.log (no_next gone f n c.next k.next less.next none ∙ sym none) (unmarked ∙ sym fits.marked) (no_moment c.dangled c.marked less.adrift unmarked ∙ sym fits.dangled))
unfollowed_row gone f n None k less fits none = absurd (unfollowed_pass gone n k none less)
unfollowed_row gone f n (Some r) k less fits none = absurd less

pub fits_at : (f : Chain) (l : Linked f) (n : ℕ) (k : Cell) → f n ≡ Some (Row.Cell k) → Fits k
fits_at f l n k is = subst FitsAt is (l.fits n)

pub unfollowed_alike : UnfollowedAreAlike
unfollowed_alike gone g f l less n k is none = unfollowed_row gone f n (g n) k (subst (LessRow gone f n (g n)) is (less n)) (fits_at f l n k is) none ∙ sym is

pub last_alike : (gone : IntentId → Bool) (g f : Chain) (l : Linked f) → LessChain gone g f → g l.last ≡ Some (Row.Cell l.tail)
last_alike gone g f l less = unfollowed_alike gone g f l less l.last l.tail l.there l.ends ∙ l.there

-- ---- a row that leads on is one of a kept row that does
pub record LeadsOnKept (gone : IntentId → Bool) (f : Chain) (n y : ℕ) (c : Cell) : Type 0 where
  pub kept : Cell
  pub there : f n ≡ Some (Row.Cell kept)
  pub log : c.log ≡ kept.log
  pub after : ℕ
  pub next : kept.next ≡ Some after
  pub most : after ≤ y
  pub between : ArePassable gone f n y

pub leads_on_kept : (gone : IntentId → Bool) (g f : Chain) → LessChain gone g f → (n y : ℕ) (c : Cell) → g n ≡ Some (Row.Cell c) → c.next ≡ Some y → LeadsOnKept gone f n y c
leads_on_kept gone g f less n y c is next = by_row (f n) refl (subst (λ z. LessRow gone f n z (f n)) is (less n))
  where
    by_next : (k : Cell) (o : Option ℕ) → f n ≡ Some (Row.Cell k) → c.log ≡ k.log → k.next ≡ o → LeadsPast gone f n (Some y) o → LeadsOnKept gone f n y c
    by_next k None there log at h = absurd h
    by_next k (Some a) there log at h = record { kept = k; there = there; log = log; after = a; next = at; most = h.0; between = h.1 }

    by_row : (r : Option Row) → f n ≡ r → LessRow gone f n (Some (Row.Cell c)) r → LeadsOnKept gone f n y c
    by_row (Some (Row.Cell k)) there h = by_next k k.next there h.log refl (subst (λ z. LeadsPast gone f n z k.next) next h.next)
    by_row None there h = absurd h
    by_row (Some r) there h = absurd h

-- a kept row before the last one has a next
module _ (f : Chain) (l : Linked f) where
  -- what has a next is before the last
  pub before_last : (n : ℕ) (k : Cell) (a : ℕ) → f n ≡ Some (Row.Cell k) → k.next ≡ Some a → n < l.last
  before_last n k a is next = by_rest (l.rest n k is)
    where
      by_way : (js : List ℕ) → Steps f n js l.last → n < l.last
      by_way [] path = absurd (none_next k a (ap (λ (z : Cell). z.next) (one_cell k l.tail (sym is ∙ ap f path ∙ l.there)) ∙ l.ends) next)
      by_way (j ∷ js) (d, at, to, more, all) = let m = few f j js l.last all in omega (arith, m, more)

      by_rest : (n ≡ l.last + 1) ⊎ (LeadsTo f 0 n × LeadsTo f n l.last) → n < l.last
      by_rest (inl e) = absurd (none_next k a (l.spare k (ap f (sym e) ∙ is)).next next)
      by_rest (inr w) = by_way w.1.0 w.1.1

  pub passable_before : (gone : IntentId → Bool) (z : ℕ) → IsPassable gone z (f z) → z < l.last
  passable_before gone z p = by_next p.cell.next refl p.followed
    where
      by_next : (o : Option ℕ) → p.cell.next ≡ o → is_some o ≡ true → z < l.last
      by_next None at some = cc
      by_next (Some a) at some = before_last z p.cell a p.there at

  -- the row that one leads to is no later than the last
  pub no_later : (gone : IntentId → Bool) (n y : ℕ) (c : Cell) → LeadsOnKept gone f n y c → (n < y) × (y ≤ l.last)
  no_later gone n zero c h = let one = l.numbers n h.kept h.after h.there h.next in let most = h.most in absurd (omega (arith, one, most))
  no_later gone n (suc y) c h =
      let one = l.numbers n h.kept h.after h.there h.next in
      let most = h.most in (
        omega (arith, one, most),
        same_or y n
            (λ at. let low = before_last n h.kept h.after h.there h.next in omega (arith, at, low))
            (λ off. let apart = eqb-false y n off in let low = passable_before gone y (h.between y (strictly n y (omega (arith, one, most)) (λ e. apart (sym e))) (omega arith)) in omega (arith, low)),
      )

  -- each row before the last has a next
  pub has_next : (n : ℕ) → n < l.last → (k : Cell) × (a : ℕ) × (f n ≡ Some (Row.Cell k)) × (k.next ≡ Some a)
  has_next n low = by_row (f n) refl (rows_below f l l.last n (Row.Cell l.tail) l.there (omega (arith, low))) (l.fits n)
    where
      no_way : (k : Cell) → f n ≡ Some (Row.Cell k) → k.next ≡ None → (js : List ℕ) → Steps f n js l.last → ⊥
      no_way k is none [] path = let w : n ≡ l.last = path in omega (arith, w, low)
      no_way k is none (j ∷ js) (d, at, to, more, all) = none_next k j none (ap (λ (z : Cell). z.next) (one_cell k d (sym is ∙ at)) ∙ to)

      no_end : (k : Cell) → f n ≡ Some (Row.Cell k) → k.next ≡ None → (n ≡ l.last + 1) ⊎ (LeadsTo f 0 n × LeadsTo f n l.last) → ⊥
      no_end k is none (inl e) = omega (arith, e, low)
      no_end k is none (inr w) = no_way k is none w.1.0 w.1.1

      by_next : (k : Cell) (o : Option ℕ) → f n ≡ Some (Row.Cell k) → k.next ≡ o → (k : Cell) × (a : ℕ) × (f n ≡ Some (Row.Cell k)) × (k.next ≡ Some a)
      by_next k None is at = absurd (no_end k is at (l.rest n k is))
      by_next k (Some a) is at = (k, a, is, at)

      by_row : (r : Option Row) → f n ≡ r → is_some r ≡ true → FitsAt (f n) → (k : Cell) × (a : ℕ) × (f n ≡ Some (Row.Cell k)) × (k.next ≡ Some a)
      by_row (Some (Row.Cell k)) is some fits = by_next k k.next is refl
      by_row None is some fits = cc
      by_row (Some r) is some fits = absurd (subst FitsAt is fits)

-- a place whose intent is not gone has no note among those of who is
none_of : (gone : IntentId → Bool) (p : Place) → gone p.intent ≡ false → (ns : List (Place × Note)) → AreGone gone ns → note_at ns p ≡ None
none_of gone p alive ns all = by_note (note_at ns p) refl
  where
    by_note : (o : Option Note) → note_at ns p ≡ o → o ≡ None
    by_note None is = refl
    by_note (Some w) is = let clash = sym alive ∙ all p w is in cc

-- ---- the first row leads to the last
module _ (gone : IntentId → Bool) (g f : Chain) (l : Linked f) (less : LessChain gone g f) (threaded : IsThreaded g) where
  -- a row that the first one leads to leads on, where it is not the last
  goes_on : (n : ℕ) → n < l.last → LeadsTo g 0 n → (c : Cell) × (y : ℕ) × (g n ≡ Some (Row.Cell c)) × (c.next ≡ Some y)
  goes_on n low path = let k = has_next f l n low in by_row (g n) refl (threaded.there n path) (subst (λ z. LessRow gone f n (g n) z) k.2 (less n))
    where
      by_next : (c : Cell) (o p : Option ℕ) → g n ≡ Some (Row.Cell c) → c.next ≡ o → is_some p ≡ true → LeadsPast gone f n o p → (c : Cell) × (y : ℕ) × (g n ≡ Some (Row.Cell c)) × (c.next ≡ Some y)
      by_next c (Some y) p is at some h = (c, y, is, at)
      by_next c None (Some a) is at some h = absurd h
      by_next c None None is at some h = cc

      by_row : (r : Option Row) → g n ≡ r → IsMoored r → LessRow gone f n r (Some (Row.Cell (has_next f l n low).0)) → (c : Cell) × (y : ℕ) × (g n ≡ Some (Row.Cell c)) × (c.next ≡ Some y)
      by_row (Some (Row.Cell c)) is moored h = let k = has_next f l n low in by_next c c.next k.0.next is refl (ap is_some k.3) h.next
      by_row None is moored h = absurd moored
      by_row (Some r) is moored h = absurd moored

  on_way : (fuel n : ℕ) → l.last ≤ n + fuel → n ≤ l.last → LeadsTo g 0 n → LeadsTo g n l.last
  on_way zero n enough most path = ([], omega (arith, enough, most))
  on_way (suc fuel) n enough most path = same_or n l.last
      (λ at. ([], at))
      (λ off.
      let apart = eqb-false n l.last off in
      let s = goes_on n (strictly n l.last most apart) path in
      let h = leads_on_kept gone g f less n s.1 s.0 s.2 s.3 in
      let later = no_later f l gone n s.1 s.0 h in
      let step = one_step g n s.0 s.1 s.2 s.3 later.0 in
      then_way g n s.1 l.last step (on_way fuel s.1 (let rise = later.0 in omega (arith, enough, rise)) later.1 (then_way g 0 n s.1 path step)))

  pub to_last : LeadsTo g 0 l.last
  to_last = on_way l.last 0 (omega arith) (omega arith) ([], refl)

  -- ---- the notes of a place whose intent is not gone
  module _ (p : Place) (alive : gone p.intent ≡ false) (es : List (Place × Note)) where
    -- rows that may be led past have none
    abbrev Past : ℕ → Type 0
    Past fuel = (a y : ℕ) → y ≤ a + fuel → a ≤ y → ((z : ℕ) → a ≤ z → z < y → IsPassable gone z (f z)) → (ks : List ℕ) → Steps f a ks l.last
        → (js : List ℕ) × Steps f y js l.last × (note_at (before f a ks ++ es) p ≡ note_at (before f y js ++ es) p)

    past_one : (fuel : ℕ) → Past fuel → (a y : ℕ) → y ≤ a + suc fuel → a < y → ((z : ℕ) → a ≤ z → z < y → IsPassable gone z (f z)) → (ks : List ℕ) → Steps f a ks l.last
        → (js : List ℕ) × Steps f y js l.last × (note_at (before f a ks ++ es) p ≡ note_at (before f y js ++ es) p)
    past_one fuel further a y enough low all [] path = let w : a ≡ l.last = path in let ahead = passable_before f l gone a (all a (omega arith) low) in absurd (omega (arith, w, ahead))
    past_one fuel further a y enough low all (b ∷ ks) (d, at, to, more, rest) =
        let q = all a (omega arith) low in
        let one = l.numbers a d b at to in
        let h = further b y (omega (arith, enough, one)) (omega (arith, low, one)) (λ z above below. all z (omega (arith, above, one)) below) ks rest in
        (h.0, h.1, ap (λ z. note_at z p) (append_assoc (log_of (f a)) (before f b ks) es) ∙ passed_by (log_of (f a)) (before f b ks ++ es) p (ap (λ z. note_at (log_of z) p) q.there ∙ none_of gone p alive q.cell.log q.entries) ∙ h.2)

    past : (fuel : ℕ) → Past fuel
    past zero a y enough most all ks path = let same : a ≡ y = omega (arith, enough, most) in (ks, subst (λ z. Steps f z ks l.last) same path, ap (λ z. note_at (before f z ks ++ es) p) same)
    past (suc fuel) a y enough most all ks path = same_or a y
        (λ same. (ks, subst (λ z. Steps f z ks l.last) same path, ap (λ z. note_at (before f z ks ++ es) p) same))
        (λ off. let apart = eqb-false a y off in past_one fuel (past fuel) a y enough (strictly a y most apart) all ks path)

    then_alike : (xs vs us : List (Place × Note)) → note_at vs p ≡ note_at us p → note_at (xs ++ vs) p ≡ note_at (xs ++ us) p
    then_alike [] vs us h = h
    then_alike (x ∷ xs) vs us h = ap (λ z. if place_eq x.0 p then Some x.1 else z) (then_alike xs vs us h)

    notes_alike : (n : ℕ) (js ks : List ℕ) → Steps g n js l.last → Steps f n ks l.last → note_at (before g n js ++ es) p ≡ note_at (before f n ks ++ es) p
    notes_alike n [] [] path kept = refl
    notes_alike n [] (k ∷ ks) path (d, at, to, more, rest) = let w : n ≡ l.last = path in let m = few f k ks l.last rest in absurd (omega (arith, w, m, more))
    notes_alike n (y ∷ js) ks (c, is, next, rise, path) kept = by_kept (notes_alike y js) ks kept
      where
        h : LeadsOnKept gone f n y c
        h = leads_on_kept gone g f less n y c is next

        by_kept : ((ks : List ℕ) → Steps g y js l.last → Steps f y ks l.last → note_at (before g y js ++ es) p ≡ note_at (before f y ks ++ es) p) → (ks : List ℕ) → Steps f n ks l.last → note_at (before g n (y ∷ js) ++ es) p ≡ note_at (before f n ks ++ es) p
        by_kept later [] kept = let w : n ≡ l.last = kept in let low = (no_later f l gone n y c h).1 in absurd (omega (arith, w, low, rise))
        by_kept later (k ∷ ks) (d, at, to, more, rest) =
            let one = l.numbers n d k at to in
            let further = past y k y (omega arith) (omega (arith, one, rise)) (λ z above below. h.between z (omega (arith, above, one)) below) ks rest in
            ap (λ z. note_at z p) (append_assoc (log_of (g n)) (before g y js) es)
            ∙ ap (λ z. note_at (z ++ (before g y js ++ es)) p) (ap log_of is ∙ h.log ∙ ap log_of (sym h.there))
            ∙ then_alike (log_of (f n)) (before g y js ++ es) (before f k ks ++ es) (later further.0 path further.1 ∙ sym further.2)
            ∙ sym (ap (λ z. note_at z p) (append_assoc (log_of (f n)) (before f k ks) es))

  is_content : content g ≡ behind (before g 0 to_last.0) (own l.tail)
  is_content = content_is g to_last.0 l.last l.tail to_last.1 (last_alike gone g f l less) l.ends l.few

  was_content : content f ≡ behind (before f 0 l.path.0) (own l.tail)
  was_content = content_is f l.path.0 l.last l.tail l.path.1 l.there l.ends l.few

  pub alike : IsAlike gone g f
  alike = record {
    value = ap (λ (z : Content). z.value) is_content ∙ sym (ap (λ (z : Content). z.value) was_content);
    owner = ap (λ (z : Content). z.owner) is_content ∙ sym (ap (λ (z : Content). z.owner) was_content);
    notes = λ p alive. ap (λ (z : Content). note_at z.notes p) is_content ∙ notes_alike p alive l.tail.log 0 to_last.0 l.path.0 to_last.1 l.path.1 ∙ sym (ap (λ (z : Content). note_at z.notes p) was_content);
  }

pub first_leads_to_last : FirstLeadsToLast
first_leads_to_last gone g f l less threaded = to_last gone g f l less threaded

-- .. without a first row there is none
pub no_row : (gone : IntentId → Bool) (f : Chain) (n : ℕ) (r s : Option Row) → LessRow gone f n r s → s ≡ None → r ≡ None
no_row gone f n None s l none = refl
no_row gone f n (Some (Row.Cell c)) None l none = absurd l
no_row gone f n (Some (Row.Cell c)) (Some k) l none = cc
no_row gone f n (Some r) s l none = absurd l

pub first_there : (gone : IntentId → Bool) (f : Chain) (r s : Option Row) → LessRow gone f 0 r s → is_some s ≡ true → is_some r ≡ true
first_there gone f (Some r) s l there = refl
first_there gone f None (Some s) l there = let low = l.later in absurd (omega (arith, low))
first_there gone f None None l there = cc

pub contents_are_alike : ContentsAreAlike
contents_are_alike gone g f linked less threads = by_first (f 0) refl linked
  where
    by_first : (r : Option Row) → f 0 ≡ r → LinkedFrom r f → IsAlike gone g f
    by_first (Some r) at l = alike gone g f l less (threads (first_there gone f (g 0) (f 0) (less 0) (ap is_some at)))
    by_first None at none =
        let same : g ≡ f = (λ i n. (no_row gone f n (g n) (f n) (less n) (none n) ∙ sym (none n)) i) in
        subst (λ z. IsAlike gone z f) (sym same) (record { value = refl; owner = refl; notes = λ p alive. refl })

-- ---- who else is gone
passable_more : (gone more : IntentId → Bool) → ((i : IntentId) → gone i ≡ true → more i ≡ true) → (n : ℕ) (r : Option Row) → IsPassable gone n r → IsPassable more n r
passable_more gone more all n r p = record { cell = p.cell; there = p.there; later = p.later; followed = p.followed; entries = λ q w is. all q.intent (p.entries q w is) }

past_more : (gone more : IntentId → Bool) → ((i : IntentId) → gone i ≡ true → more i ≡ true) → (f : Chain) (n : ℕ) (y k : Option ℕ) → LeadsPast gone f n y k → LeadsPast more f n y k
past_more gone more all f n None None h = h
past_more gone more all f n (Some y) (Some k) h = (h.0, λ z low high. passable_more gone more all z (f z) (h.1 z low high))
past_more gone more all f n None (Some k) h = absurd h
past_more gone more all f n (Some y) None h = absurd h

row_more : (gone more : IntentId → Bool) → ((i : IntentId) → gone i ≡ true → more i ≡ true) → (f : Chain) (n : ℕ) (r s : Option Row) → LessRow gone f n r s → LessRow more f n r s
row_more gone more all f n (Some (Row.Cell c)) (Some (Row.Cell k)) h = record {
  value = h.value;
  owner = h.owner;
  log = h.log;
  next = past_more gone more all f n c.next k.next h.next;
  marked = λ is. passable_more gone more all n (Some (Row.Cell k)) (h.marked is);
  adrift = h.adrift;
}
row_more gone more all f n None (Some r) h = passable_more gone more all n (Some r) h
row_more gone more all f n None None h = h
row_more gone more all f n (Some (Row.Cell c)) s h = absurd h
row_more gone more all f n (Some r) s h = absurd h

pub more_are_gone : MoreAreGone
more_are_gone gone more g f all less n = row_more gone more all f n (g n) (f n) (less n)

-- ---- walks that are led past rows
module _ (gone : IntentId → Bool) (g f : Chain) (l : Linked f) (less : LessChain gone g f) (r y : ℕ) (c : Cell) (is : g r ≡ Some (Row.Cell c)) (next : c.next ≡ Some y) where
  led : LeadsOnKept gone f r y c
  led = leads_on_kept gone g f less r y c is next

  -- the row before the one that it comes to leads there
  before_it : (z : ℕ) → y ≡ suc z → ReadsAt f y
  before_it z at = same_or z r
      (λ here. let one = l.numbers r led.kept led.after led.there led.next in next_is_read f l r led.kept y led.there (led.next ∙ ap Some {x = led.after} (omega (arith, one, at, here))))
      (λ off. let apart = eqb-false z r off in
      let low = (no_later f l gone r y c led).0 in
      let q = led.between z (strictly r z (omega (arith, low, at)) (λ e. apart (sym e))) (omega (arith, at)) in
      by_next z q at q.cell.next refl q.followed)
    where
      by_next : (z : ℕ) (q : IsPassable gone z (f z)) → y ≡ suc z → (o : Option ℕ) → q.cell.next ≡ o → is_some o ≡ true → ReadsAt f y
      by_next z q at None to some = cc
      by_next z q at (Some b) to some = let one = l.numbers z q.cell b q.there to in next_is_read f l z q.cell y q.there (to ∙ ap Some {x = b} (omega (arith, one, at)))

  pub reads_further : ReadsAt f y
  reads_further = by_number y refl
    where
      by_number : (n : ℕ) → y ≡ n → ReadsAt f y
      by_number zero at = let low = (no_later f l gone r y c led).0 in absurd (omega (arith, low, at))
      by_number (suc z) at = before_it z at

  module _ (p : Place) (alive : gone p.intent ≡ false) (passed : Passed f p r) (none : note_at c.log p ≡ None) where
    passes : (n : ℕ) (d : Cell) → f n ≡ Some (Row.Cell d) → IsPassable gone n (f n) → IsPassed p d
    passes n d at q = subst (IsPassed p) (one_cell q.cell d (sym q.there ∙ at)) (by_next q.cell.next refl q.followed)
      where
        by_next : (o : Option ℕ) → q.cell.next ≡ o → is_some o ≡ true → IsPassed p q.cell
        by_next None to some = cc
        by_next (Some b) to some = record { after = b; next = to; none = none_of gone p alive q.cell.log q.entries }

    all_passed : Passed f p y
    all_passed n d low at = by_order (nat_lt n r) refl
      where
        by_order : (b : Bool) → nat_lt n r ≡ b → IsPassed p d
        by_order true e = passed n d (ltb-true n r e) at
        by_order false e = same_or n r
            (λ here. subst (IsPassed p) (one_cell led.kept d (sym led.there ∙ ap f (sym here) ∙ at)) (record { after = led.after; next = led.next; none = ap (λ ns. note_at ns p) (sym led.log) ∙ none }))
            (λ off. let apart = eqb-false n r off in let most = ltb-false n r e in passes n d at (led.between n (strictly r n most (λ e. apart (sym e))) low))

    pub walks_further : SeesAt f p (At.Try y)
    walks_further = let reads = reads_further in (reads.0, all_passed, reads.1)

pub reads_go_further : ReadsGoFurther
reads_go_further gone g f l less r y c is next = reads_further gone g f l less r y c is next

pub walks_go_further : WalksGoFurther
walks_go_further gone g f l less r y c is next p alive passed none = walks_further gone g f l less r y c is next p alive passed none

-- ---- linked rows are so of themselves
module _ (gone : IntentId → Bool) (f : Chain) (l : Linked f) where
  cell_so : (n : ℕ) (k : Cell) → f n ≡ Some (Row.Cell k) → Fits k → IsCellOf gone f n k k
  cell_so n k is fits = record { value = refl; owner = refl; log = refl; next = by_next k.next refl; marked = λ m. let clash = sym m ∙ fits.marked in cc; adrift = λ some. absurd (not_followed k.dangled fits.dangled some) }
    where
      by_next : (o : Option ℕ) → k.next ≡ o → LeadsPast gone f n o o
      by_next None at = tt
      by_next (Some a) at = (omega arith, λ z low high. let one = l.numbers n k a is at in absurd (omega (arith, one, low, high)))

  linked_less : LessChain gone f f
  linked_less n = by_row (f n) refl (l.fits n)
    where
      by_row : (r : Option Row) → f n ≡ r → FitsAt (f n) → LessRow gone f n r r
      by_row None at fits = tt
      by_row (Some (Row.Cell k)) at fits = cell_so n k at (fits_at f l n k at)
      by_row (Some r) at fits = absurd (subst FitsAt at fits)

  up_to_last : (a : ℕ) (ks : List ℕ) (n : ℕ) → a ≤ l.last → Steps f a ks n → n ≤ l.last
  up_to_last a [] n most path = let w : a ≡ n = path in omega (arith, w, most)
  up_to_last a (k ∷ ks) n most (c, is, next, less, path) = let one = l.numbers a c k is next in let low = before_last f l a c k is next in up_to_last k ks n (omega (arith, one, low)) path

  linked_threads : IsThreaded f
  linked_threads = record {
    there = λ n path. by_row n (f n) refl (rows_below f l l.last n (Row.Cell l.tail) l.there (up_to_last 0 path.0 n (omega arith) path.1));
    leads = λ n c is next unmarked. elim (l.rest n c is) [
      | inl e ↦ absurd (not_followed c.next (l.spare c (ap f (sym e) ∙ is)).next next)
      | inr w ↦ w.0
    ];
  }
    where
      by_row : (n : ℕ) (r : Option Row) → f n ≡ r → is_some r ≡ true → IsMoored (f n)
      by_row n (Some (Row.Cell k)) at some = subst IsMoored (sym at) (fits_at f l n k at).dangled
      by_row n None at some = cc
      by_row n (Some r) at some = absurd (subst FitsAt at (l.fits n))

pub linked_are_so : LinkedAreSo
linked_are_so gone f linked = by_first (f 0) refl linked
  where
    by_first : (r : Option Row) → f 0 ≡ r → LinkedFrom r f → LessChain gone f f × (is_some (f 0) ≡ true → IsThreaded f)
    by_first (Some r) at l = (linked_less gone f l, λ there. linked_threads gone f l)
    by_first None at none = (λ n. subst (λ z. LessRow gone f n z z) (sym (none n)) tt, λ there. let clash = sym there ∙ ap is_some at in cc)

-- ---- while nobody is gone
module _ (gone : IntentId → Bool) (none_gone : (i : IntentId) → gone i ≡ false) (f : Chain) (l : Linked f) where
  some_entry : (es : List (Place × Note)) → 0 < length es → AreGone gone es → ⊥
  some_entry [] some all = omega (arith, some)
  some_entry (e ∷ es) some all = let clash = sym (none_gone e.0.intent) ∙ all e.0 e.1 (ap (λ b. if b then Some e.1 else note_at es e.0) (place_self e.0)) in cc

  none_passable : (n : ℕ) (r : Option Row) → f n ≡ r → IsPassable gone n r → ⊥
  none_passable n r at p = by_next p.cell.next refl p.followed
    where
      by_next : (o : Option ℕ) → p.cell.next ≡ o → is_some o ≡ true → ⊥
      by_next None to some = cc
      by_next (Some a) to some =
          let fits = fits_at f l n p.cell (at ∙ p.there) in
          let full : length p.cell.log ≡ most_entries = subst (λ z. FitsNext z (length p.cell.log)) to fits.entries in
          some_entry p.cell.log (omega (arith, full, most_entries_are)) p.entries

  cell_same : (n : ℕ) (c k : Cell) → f n ≡ Some (Row.Cell k) → IsCellOf gone f n c k → c ≡ k
  cell_same n c k at of =
      let unmarked : c.marked ≡ false = by_mark c.marked of.marked in
      let fits = fits_at f l n k at in
      same_cell c k of.value of.owner of.log (by_next c.next k.next refl of.next) (unmarked ∙ sym fits.marked) (no_moment c.dangled c.marked of.adrift unmarked ∙ sym fits.dangled)
    where
      by_mark : (b : Bool) → (b ≡ true → IsPassable gone n (Some (Row.Cell k))) → b ≡ false
      by_mark true passes = absurd (none_passable n (Some (Row.Cell k)) at (passes refl))
      by_mark false passes = refl

      by_next : (y a : Option ℕ) → k.next ≡ a → LeadsPast gone f n y a → y ≡ a
      by_next None None to h = refl
      by_next (Some y) (Some a) to h = let one = l.numbers n k a at to in let most = h.0 in same_or {P = Some y ≡ Some a} y a
          (λ e. ap Some e)
          (λ off. let apart = eqb-false y a off in absurd (none_passable a (f a) refl (h.1 a (omega (arith, one)) (strictly a y most (λ e. apart (sym e))))))
      by_next None (Some a) to h = absurd h
      by_next (Some y) None to h = absurd h

  row_same : (n : ℕ) (r s : Option Row) → f n ≡ s → LessRow gone f n r s → r ≡ s
  row_same n None None at h = refl
  row_same n None (Some s) at h = absurd (none_passable n (Some s) at h)
  row_same n (Some (Row.Cell c)) (Some (Row.Cell k)) at h = ap (λ z. Some (Row.Cell z)) (cell_same n c k at h)
  row_same n (Some (Row.Cell c)) s at h = absurd h
  row_same n (Some r) s at h = absurd h

pub nobody_gone_none_less : NobodyGoneNoneLess
nobody_gone_none_less gone g f linked none_gone less n = by_first (f 0) refl linked
  where
    by_first : (r : Option Row) → f 0 ≡ r → LinkedFrom r f → g n ≡ f n
    by_first (Some r) at l = row_same gone none_gone f l n (g n) (f n) refl (less n)
    by_first None at none = no_row gone f n (g n) (f n) (less n) (none n) ∙ sym (none n)
