-- The first row of a transaction's locks.
use Rattle.beldi_lock.proofs.Names.{AreFit, AreHops, Equal, FindsFirst, FindsNext, Greater, IntentId, IsFirstFrom, IsFit, IsNext, Kind, Less, List, LocksetsBegin, LocksetsFollow, MatchOrdering, None, Option, Ordering, Row, RowKey, Rows, Some, [], ap, arith, before_last, before_split, begin_before, filled, id_before, id_cmp, id_exact, id_total, key_cmp, key_exact, key_total, length, lockset_after, lockset_asks, lockset_found, lockset_key, most, nat_cmp, nat_cmp_total, next_row, next_row_least, onto_front, ordering_reverse, ordering_then, promised, ranks, refl, replicate, slice_cmp, split_last, subst, suc, sym, tied_itself, zero, ℕ, ◌++◌, ◌-◌, ◌<◌, ◌^◌, ◌∙◌, ◌∷◌, ◌≡◌, ◌≤◌}
use Rattle.beldi_lock.proofs.IdBefore.{less_each}
use Rattle.beldi_lock.proofs.Names.map

-- ---- numbers
pub below : (a b : ℕ) → nat_cmp a b ≡ Less → a < b
below a b h = subst (λ r. MatchOrdering r (a < b) (a ≡ b) (b < a)) h (ranks a b)

pub level : (a b : ℕ) → nat_cmp a b ≡ Equal → a ≡ b
level a b h = subst (λ r. MatchOrdering r (a < b) (a ≡ b) (b < a)) h (ranks a b)

pub is_less : (a b : ℕ) → a < b → nat_cmp a b ≡ Less
is_less a b h = by (nat_cmp a b) (ranks a b)
  where
    by : (r : Ordering) → MatchOrdering r (a < b) (a ≡ b) (b < a) → r ≡ Less
    by Less g = refl
    by Equal g = absurd (omega (arith, h, g))
    by Greater g = absurd (omega (arith, h, g))

-- of two that are compared part by part: the first part is below, or it is level and the rest is below
pub parts : (o r : Ordering) → ordering_then o r ≡ Less → (P : Type 0) → (o ≡ Less → P) → (o ≡ Equal → r ≡ Less → P) → P
parts Less r h P less level = less refl
parts Equal r h P less level = level refl h
parts Greater r h P less level = cc

-- what stands between a and b in the first part stands so in the rest
pub between : (a x b : ℕ) (r s : Ordering) → (a < b → ⊥) → ordering_then (nat_cmp a x) r ≡ Less → ordering_then (nat_cmp x b) s ≡ Less → (P : Type 0) → (a ≡ x → x ≡ b → r ≡ Less → s ≡ Less → P) → P
between a x b r s same h g P go =
    parts (nat_cmp a x) r h P
    (λ l. parts (nat_cmp x b) s g P
    (λ k. let p = below a x l in let q = below x b k in absurd (same (omega (arith, p, q))))
    (λ k y. let p = below a x l in let q = level x b k in absurd (same (omega (arith, p, q)))))
    (λ l z. parts (nat_cmp x b) s g P
    (λ k. let p = level a x l in let q = below x b k in absurd (same (omega (arith, p, q))))
    (λ k y. go (level a x l) (level x b k) z y))

pub irreflexive : (a : ℕ) → a < a → ⊥
irreflexive a h = omega (arith, h)

-- ---- hops
no_less : (xs : List ℕ) → slice_cmp nat_cmp xs [] ≡ Less → ⊥
no_less [] h = cc
no_less (x ∷ xs) h = cc

none_past : (room : ℕ) (xs : List ℕ) → AreHops room xs → slice_cmp nat_cmp (replicate room most) xs ≡ Less → ⊥
none_past zero [] a h = cc
none_past zero (x ∷ xs) a h = absurd a
none_past (suc room) [] a h = cc
none_past (suc room) (x ∷ xs) a h =
    parts (nat_cmp most x) (slice_cmp nat_cmp (replicate room most) xs) h ⊥
    (λ l. let p = below most x l in omega (arith, p, a.0))
    (λ l r. none_past room xs a.1 r)

filled_cons : (room h : ℕ) (xs : List ℕ) → filled (suc room) (h ∷ xs) ≡ h ∷ filled room xs
filled_cons room h xs = ap (λ n. h ∷ xs ++ replicate n most) (less_each room (length xs))

before_cons : (room h : ℕ) (front : List ℕ) (l : ℕ) → before_last (suc room) (h ∷ front) l ≡ h ∷ before_last room front l
before_cons room h front zero = refl
before_cons room h front (suc n) = filled_cons room h (front ++ n ∷ [])

-- hops that end, and those directly before them
record Before (room : ℕ) (b hs : List ℕ) : Type 0 where
  less : slice_cmp nat_cmp b hs ≡ Less
  none : (xs : List ℕ) → AreHops room xs → slice_cmp nat_cmp b xs ≡ Less → slice_cmp nat_cmp xs hs ≡ Less → ⊥

last_before : (room l : ℕ) → Before (suc room) (before_last (suc room) [] l) (l ∷ [])
last_before room zero = record { less = refl; none = by }
  where
    by : (xs : List ℕ) → AreHops (suc room) xs → slice_cmp nat_cmp [] xs ≡ Less → slice_cmp nat_cmp xs (0 ∷ []) ≡ Less → ⊥
    by [] a h g = cc
    by (x ∷ xs) a h g = parts (nat_cmp x 0) (slice_cmp nat_cmp xs []) g ⊥ (λ l. let p = below x 0 l in omega (arith, p)) (λ l r. no_less xs r)
last_before room (suc n) = subst (λ b. Before (suc room) b (suc n ∷ [])) (sym (filled_cons room n [] ∙ ap (λ k. n ∷ replicate k most) (omega arith))) (record {
  less = ap (λ o. ordering_then o (slice_cmp nat_cmp (replicate room most) [])) (is_less n (suc n) (omega arith));
  none = by;
})
  where
    by : (xs : List ℕ) → AreHops (suc room) xs → slice_cmp nat_cmp (n ∷ replicate room most) xs ≡ Less → slice_cmp nat_cmp xs (suc n ∷ []) ≡ Less → ⊥
    by [] a h g = cc
    by (x ∷ xs) a h g =
        parts (nat_cmp x (suc n)) (slice_cmp nat_cmp xs []) g ⊥
        (λ l. parts (nat_cmp n x) (slice_cmp nat_cmp (replicate room most) xs) h ⊥
        (λ k. let p = below x (suc n) l in let q = below n x k in omega (arith, p, q))
        (λ k r. none_past room xs a.1 r))
        (λ l r. no_less xs r)

more_before : (room h : ℕ) (b hs : List ℕ) → Before room b hs → Before (suc room) (h ∷ b) (h ∷ hs)
more_before room h b hs w = record { less = ap (λ o. ordering_then o (slice_cmp nat_cmp b hs)) (tied_itself nat_cmp_total h) ∙ w.less; none = by }
  where
    by : (xs : List ℕ) → AreHops (suc room) xs → slice_cmp nat_cmp (h ∷ b) xs ≡ Less → slice_cmp nat_cmp xs (h ∷ hs) ≡ Less → ⊥
    by [] a p q = cc
    by (x ∷ xs) a p q = between h x h (slice_cmp nat_cmp b xs) (slice_cmp nat_cmp xs hs) (irreflexive h) p q ⊥ (λ e f r s. w.none xs a.1 r s)

-- the hops directly before those that a first hop and more make
abbrev IsBefore : ℕ → Option (List ℕ × ℕ) → List ℕ → Type 0
IsBefore room None hs = ⊥
IsBefore room (Some s) hs = Before room (before_last room s.0 s.1) hs

onto : (room h : ℕ) (s : Option (List ℕ × ℕ)) (hs : List ℕ) → IsBefore room s hs → IsBefore (suc room) (Some (onto_front h s)) (h ∷ hs)
onto room h None hs w = absurd w
onto room h (Some s) hs w = subst (λ b. Before (suc room) b (h ∷ hs)) (sym (before_cons room h s.0 s.1)) (more_before room h (before_last room s.0 s.1) hs w)

hops_before : (room h : ℕ) (hs : List ℕ) → AreHops (suc room) (h ∷ hs) → IsBefore (suc room) (split_last (h ∷ hs)) (h ∷ hs)
hops_before room h [] a = last_before room h
hops_before zero h (g ∷ hs) a = absurd a.1
hops_before (suc room) h (g ∷ hs) a = onto (suc room) h (split_last (g ∷ hs)) (g ∷ hs) (hops_before room g hs a.1)

-- ---- ids
pub record Precedes (a b : IntentId) : Type 0 where
  pub less : id_cmp a b ≡ Less
  pub none : (x : IntentId) → AreHops 63 x.hops → id_cmp a x ≡ Less → id_cmp x b ≡ Less → ⊥

root_before : (t : ℕ) → 1 ≤ t → Precedes (record { ticket = t - 1; hops = replicate 63 most }) (record { ticket = t; hops = [] })
root_before t some = record {
  less = ap (λ o. ordering_then o (slice_cmp nat_cmp (replicate 63 most) [])) (is_less (t - 1) t (omega (arith, some)));
  none = λ x a h g.
      parts (nat_cmp x.ticket t) (slice_cmp nat_cmp x.hops []) g ⊥
      (λ l. parts (nat_cmp (t - 1) x.ticket) (slice_cmp nat_cmp (replicate 63 most) x.hops) h ⊥
      (λ k. let p = below x.ticket t l in let q = below (t - 1) x.ticket k in omega (arith, p, q))
      (λ k r. none_past 63 x.hops a r))
      (λ l r. no_less x.hops r);
}

callee_before : (t : ℕ) (s : Option (List ℕ × ℕ)) (hs : List ℕ) → IsBefore 63 s hs → Precedes (before_split t s) (record { ticket = t; hops = hs })
callee_before t None hs w = absurd w
callee_before t (Some s) hs w = record {
  less = ap (λ o. ordering_then o (slice_cmp nat_cmp (before_last 63 s.0 s.1) hs)) (tied_itself nat_cmp_total t) ∙ w.less;
  none = λ x a h g. between t x.ticket t (slice_cmp nat_cmp (before_last 63 s.0 s.1) x.hops) (slice_cmp nat_cmp x.hops hs) (irreflexive t) h g ⊥ (λ e f r q. w.none x.hops a r q);
}

pub precedes : (id : IntentId) → 1 ≤ id.ticket → AreHops 63 id.hops → Precedes (id_before id) id
precedes id some a = by id.hops a
  where
    by : (hs : List ℕ) → AreHops 63 hs → Precedes (before_split id.ticket (split_last hs)) (record { ticket = id.ticket; hops = hs })
    by [] a = root_before id.ticket some
    by (h ∷ hs) a = callee_before id.ticket (split_last (h ∷ hs)) (h ∷ hs) (hops_before 62 h hs a)

-- ---- keys
pub assoc : (o p r : Ordering) → ordering_then o (ordering_then p r) ≡ ordering_then (ordering_then o p) r
assoc Less p r = refl
assoc Equal p r = refl
assoc Greater p r = refl

-- behind the intent: the begin, the table and the key
abbrev pub items : ℕ → ℕ → List ℕ → List ℕ → Ordering
items t u k l = ordering_then (nat_cmp t u) (ordering_then (slice_cmp nat_cmp k l) Equal)

abbrev pub rest : ℕ → ℕ → ℕ → ℕ → List ℕ → List ℕ → Ordering
rest b c t u k l = ordering_then (nat_cmp b c) (items t u k l)

pub by_parts : (home room : ℕ) (a i : IntentId) (b c t u : ℕ) (k l : List ℕ) → key_cmp (lockset_key home a b t k) (lockset_key room i c u l) ≡ ordering_then (nat_cmp home room) (ordering_then (id_cmp a i) (rest b c t u k l))
by_parts home room a i b c t u k l = ap (ordering_then (nat_cmp home room)) (assoc (nat_cmp a.ticket i.ticket) (slice_cmp nat_cmp a.hops i.hops) (rest b c t u k l))

-- no item is below the first one
pub no_item : (t : ℕ) (k : List ℕ) → items t 0 k [] ≡ Less → ⊥
no_item t k h =
    parts (nat_cmp t 0) (ordering_then (slice_cmp nat_cmp k []) Equal) h ⊥
    (λ l. let p = below t 0 l in omega (arith, p))
    (λ l r. parts (slice_cmp nat_cmp k []) Equal r ⊥ (λ s. no_less k s) (λ s z. let clash : Equal ≡ Less = z in cc))

-- .. and none is in the last table
no_table : (t : ℕ) (k : List ℕ) → t < 2 ^ 16 - 1 → items (2 ^ 16 - 1) t [] k ≡ Less → ⊥
no_table t k fit h =
    parts (nat_cmp (2 ^ 16 - 1) t) (ordering_then (slice_cmp nat_cmp [] k) Equal) h ⊥
    (λ l. let p = below (2 ^ 16 - 1) t l in omega (arith, p, fit))
    (λ l r. let p = level (2 ^ 16 - 1) t l in omega (arith, p, fit))

module _ (home : ℕ) (id : IntentId) (some : 1 ≤ id.ticket) (hops : AreHops 63 id.hops) where
  abbrev start : ℕ → RowKey
  start begin = lockset_after home id begin None

  abbrev least : ℕ → RowKey
  least begin = lockset_key home id begin 0 []

  start_below : (begin : ℕ) → key_cmp (start begin) (least begin) ≡ Less
  start_below zero =
      by_parts home home (id_before id) id most 0 (2 ^ 16 - 1) 0 [] []
      ∙ ap (λ o. ordering_then o (ordering_then (id_cmp (id_before id) id) (rest most 0 (2 ^ 16 - 1) 0 [] []))) (tied_itself nat_cmp_total home)
      ∙ ap (λ o. ordering_then o (rest most 0 (2 ^ 16 - 1) 0 [] [])) (precedes id some hops).less
  start_below (suc b) =
      by_parts home home id id b (suc b) (2 ^ 16 - 1) 0 [] []
      ∙ ap (λ o. ordering_then o (ordering_then (id_cmp id id) (rest b (suc b) (2 ^ 16 - 1) 0 [] []))) (tied_itself nat_cmp_total home)
      ∙ ap (λ o. ordering_then o (rest b (suc b) (2 ^ 16 - 1) 0 [] [])) (tied_itself id_total id)
      ∙ ap (λ o. ordering_then o (items (2 ^ 16 - 1) 0 [] [])) (is_less b (suc b) (omega (arith)))

  -- an item of the begin before that stands past the start: one of the last table
  abbrev pub IsLast : ℕ → IntentId → ℕ → ℕ → List ℕ → Type 0
  IsLast begin i b t k = (i ≡ (begin_before id begin).0) × (b ≡ (begin_before id begin).1) × (items (2 ^ 16 - 1) t [] k ≡ Less)

  -- between the two is no row
  none_between : (begin : ℕ) (i : IntentId) (b t : ℕ) (k : List ℕ) → AreHops 63 i.hops → b ≤ most → (IsLast begin i b t k → ⊥)
      → ordering_then (id_cmp (begin_before id begin).0 i) (rest (begin_before id begin).1 b (2 ^ 16 - 1) t [] k) ≡ Less
      → ordering_then (id_cmp i id) (rest b begin t 0 k []) ≡ Less → ⊥
  none_between zero i b t k short small apart h g =
      parts (id_cmp (id_before id) i) (rest most b (2 ^ 16 - 1) t [] k) h ⊥
      (λ l. parts (id_cmp i id) (rest b 0 t 0 k []) g ⊥
      (λ p. (precedes id some hops).none i short l p)
      (λ p r. parts (nat_cmp b 0) (items t 0 k []) r ⊥ (λ q. let z = below b 0 q in omega (arith, z)) (λ q s. no_item t k s)))
      (λ l r. parts (nat_cmp most b) (items (2 ^ 16 - 1) t [] k) r ⊥
      (λ q. let z = below most b q in omega (arith, z, small))
      (λ q s. apart (sym (id_exact (id_before id) i l), sym (level most b q), s)))
  none_between (suc c) i b t k short small apart h g =
      parts (id_cmp id i) (rest c b (2 ^ 16 - 1) t [] k) h ⊥
      (λ l. let clash = sym (ap (λ o. ordering_then o (rest b (suc c) t 0 k [])) (id_total.antisymm i id ∙ ap ordering_reverse l)) ∙ g in cc)
      (λ l r.
      let s : rest b (suc c) t 0 k [] ≡ Less = sym (ap (λ o. ordering_then o (rest b (suc c) t 0 k [])) (id_total.antisymm i id ∙ ap ordering_reverse l)) ∙ g in
      parts (nat_cmp c b) (items (2 ^ 16 - 1) t [] k) r ⊥
      (λ p. parts (nat_cmp b (suc c)) (items t 0 k []) s ⊥
      (λ q. let y = below c b p in let z = below b (suc c) q in omega (arith, y, z))
      (λ q z. no_item t k z))
      (λ p z. apart (sym (id_exact id i l), sym (level c b p), z)))

  -- rows of other kinds stand before all of these in their home
  other_kind : (room : ℕ) (s : Ordering) → ordering_then (nat_cmp home room) Greater ≡ Less → ordering_then (nat_cmp room home) s ≡ Less → ⊥
  other_kind room s h g = between home room home Greater s (irreflexive home) h g ⊥ (λ e f r z. let clash : Greater ≡ Less = r in cc)

  -- a row that does not stand between the two
  abbrev pub IsApart : ℕ → Kind → Type 0
  IsApart begin (Kind.Lockset i b t k) = AreHops 63 i.hops × (b ≤ most) × (IsLast begin i b t k → ⊥)
  IsApart begin kind = Unit {0}

  -- .. as no table of a row that is fit is the last one
  fit_apart : (begin : ℕ) (kind : Kind) → IsFit kind → IsApart begin kind
  fit_apart begin (Kind.Lockset i b t k) fit = (fit.0, fit.1, λ z. no_table t k fit.2 z.2)
  fit_apart begin (Kind.Intent i) fit = tt
  fit_apart begin (Kind.ReadLog p) fit = tt
  fit_apart begin (Kind.Invoke p) fit = tt
  fit_apart begin (Kind.Data t k r) fit = tt
  fit_apart begin (Kind.Shadow x t k r) fit = tt

  none_passed : (begin : ℕ) (room : ℕ) (kind : Kind) → IsApart begin kind → key_cmp (start begin) (record { home = room; kind = kind }) ≡ Less → key_cmp (record { home = room; kind = kind }) (least begin) ≡ Less → ⊥
  none_passed begin room (Kind.Lockset i b t k) fit h g =
      let p = begin_before id begin in
      between home room home (ordering_then (id_cmp p.0 i) (rest p.1 b (2 ^ 16 - 1) t [] k)) (ordering_then (id_cmp i id) (rest b begin t 0 k [])) (irreflexive home)
      (sym (by_parts home room p.0 i p.1 b (2 ^ 16 - 1) t [] k) ∙ h) (sym (by_parts room home i id b begin t 0 k []) ∙ g) ⊥
      (λ e f r s. none_between begin i b t k fit.0 fit.1 fit.2 r s)
  none_passed begin room (Kind.Intent i) fit h g = other_kind room _ h g
  none_passed begin room (Kind.ReadLog p) fit h g = other_kind room _ h g
  none_passed begin room (Kind.Invoke p) fit h g = other_kind room _ h g
  none_passed begin room (Kind.Data t k r) fit h g = other_kind room _ h g
  none_passed begin room (Kind.Shadow x t k r) fit h g = other_kind room _ h g

  -- what is not below the first key is past the start
  past : (begin : ℕ) (q : RowKey) → (key_cmp q (least begin) ≡ Less → ⊥) → key_cmp (start begin) q ≡ Less
  past begin q h = by (key_cmp q (least begin)) refl
    where
      by : (o : Ordering) → key_cmp q (least begin) ≡ o → key_cmp (start begin) q ≡ Less
      by Less e = absurd (h e)
      by Equal e = ap (key_cmp (start begin)) (key_exact q (least begin) e) ∙ start_below begin
      by Greater e = key_total.trans (start begin) (least begin) q (start_below begin) (key_total.antisymm (least begin) q ∙ ap ordering_reverse e)

  -- the row after the start is the first one from the least key
  pub first_apart : (begin : ℕ) (m : Rows) (e : Option (RowKey × Row)) → ((q : RowKey) (r : Row) → map.get m q ≡ Some r → IsApart begin q.kind) → IsNext m (start begin) e → IsFirstFrom m (least begin) e
  first_apart begin m None apart h = λ q p. h q (past begin q p)
  first_apart begin m (Some e) apart h = (λ p. none_passed begin e.0.home e.0.kind (apart e.0 e.1 h.1) h.0 p, h.1, λ q p less. h.2 q (past begin q p) less)

  pub first_from : (begin : ℕ) (m : Rows) (e : Option (RowKey × Row)) → AreFit m → IsNext m (start begin) e → IsFirstFrom m (least begin) e
  first_from begin m e fit h = first_apart begin m e (λ q r there. fit_apart begin q.kind (fit q r there)) h

pub locksets_begin : LocksetsBegin
locksets_begin home id begin some hops = promised (lockset_asks home id begin None) 0 (lockset_found home id begin) (FindsFirst home id begin)
    (λ m. (refl, λ fit. (next_row m (lockset_after home id begin None), first_from home id some hops begin m (next_row m (lockset_after home id begin None)) fit (next_row_least m (lockset_after home id begin None)), refl)))

pub locksets_follow : LocksetsFollow
locksets_follow home id begin at = promised (lockset_asks home id begin (Some at)) 0 (lockset_found home id begin) (FindsNext home id begin at)
    (λ m. (refl, (next_row m (lockset_key home id begin at.0 at.1), next_row_least m (lockset_key home id begin at.0 at.1), refl)))
