-- Reading all rows, one after another.
use Rattle.std.specs.Prelude.{Result}
use Rattle.beldi_host.proofs.Names.{Data, Deployment, Err, Failed, Greater, IfOk, Intent, Invoke, IsErrOf, Kind, Less, List, Lockset, None, Ok, OpenErr, Option, Ordering, ReadLog, Reads, Rose, Row, RowKey, Rows, Shadow, Some, T, TableState, Tells, [], ap, append-nil, append_assoc, arith, below_all, false, first, first_above, flat_map, greatest, if◌then◌else◌, is_lt, is_sorted, key_cmp, key_ticket, key_total, kind_cmp, least_key, less, line_at, max, nat_cmp, nat_cmp_is, newest_of, latest, latest_of, next_mark_of, next_line_of, next_row, IsHighWater, rest, row_moment, ordering_reverse, ordering_then, refl, row_line, same_rows, second, subst, suc, sym, tables_text, tells_map, test_true, ticket_of, tied_itself, true, zero, ℕ, ◌++◌, ◌∙◌, ◌∷◌, ◌≡◌, ◌≤◌}
use Rattle.beldi_host.proofs.Names.map

abbrev Entry : Type 0
Entry = RowKey × Row

same_some : (x y : Entry) → Some x ≡ Some y → x ≡ y
same_some x y h = cc

none_left : (k : RowKey) (es : List Entry) → first_above k es ≡ None → rest k es ≡ []
none_left k [] h = refl
none_left k (x ∷ xs) h = (elim (is_lt (key_cmp k x.0)) as (λ b. (if b then Some x else first_above k xs) ≡ None → (if b then x ∷ xs else rest k xs) ≡ []) [
  | true ↦ λ e. cc
  | false ↦ λ e. none_left k xs e
]) h

all_above : (k : RowKey) (xs : List Entry) → T (below_all key_cmp k xs) → rest k xs ≡ xs
all_above k [] h = refl
all_above k (x ∷ xs) h = ap (λ b. if b then x ∷ xs else rest k xs) (test_true (is_lt (key_cmp k x.0)) (first _ _ h))

above_all : (x k : RowKey) (e : Entry) (xs : List Entry) → T (below_all key_cmp x xs) → first_above k xs ≡ Some e → key_cmp x e.0 ≡ Less
above_all x k e [] h is = cc
above_all x k e (y ∷ ys) h is = (elim (is_lt (key_cmp k y.0)) as (λ b. (if b then Some y else first_above k ys) ≡ Some e → key_cmp x e.0 ≡ Less) [
  | true ↦ λ s. ap (λ (z : Entry). key_cmp x z.0) (sym (same_some y e s)) ∙ less (key_cmp x y.0) (test_true (is_lt (key_cmp x y.0)) (first _ _ h))
  | false ↦ λ s. above_all x k e ys (second _ _ h) s
]) is

-- the next entry, and those past it, are the ones past the key
one_left : (k : RowKey) (e : Entry) (es : List Entry) → T (is_sorted key_cmp es) → first_above k es ≡ Some e → rest k es ≡ e ∷ rest e.0 es
one_left k e [] s h = cc
one_left k e (x ∷ xs) s h = (elim (is_lt (key_cmp k x.0)) as (λ b. (if b then Some x else first_above k xs) ≡ Some e → (if b then x ∷ xs else rest k xs) ≡ e ∷ rest e.0 (x ∷ xs)) [
  | true ↦ λ p.
      let itself : rest x.0 (x ∷ xs) ≡ xs = ap (λ o. if is_lt o then x ∷ xs else rest x.0 xs) (tied_itself key_total x.0) ∙ all_above x.0 xs (first _ _ s) in
      subst (λ (z : Entry). x ∷ xs ≡ z ∷ rest z.0 (x ∷ xs)) (same_some x e p) (ap (λ ys. x ∷ ys) (sym itself))
  | false ↦ λ p.
      let past : key_cmp e.0 x.0 ≡ Greater = key_total.antisymm e.0 x.0 ∙ ap ordering_reverse (above_all x.0 k e xs (first _ _ s) p) in
      one_left k e xs (second _ _ s) p ∙ ap (λ o. e ∷ (if is_lt o then x ∷ xs else rest e.0 xs)) (sym past)
]) h

pub at_end : (m : Rows) (k : RowKey) → next_row m k ≡ None → rest k (map.entries m) ≡ []
at_end m k h = none_left k (map.entries m) h

pub at_next : (m : Rows) (k : RowKey) (e : RowKey × Row) → next_row m k ≡ Some e → rest k (map.entries m) ≡ e ∷ rest e.0 (map.entries m)
at_next m k e h = one_left k e (map.entries m) (map.entries_sorted m) h

-- ---- what is not past the least key names no ticket, and has no line
not_less : (n : ℕ) (p : Ordering) → is_lt (ordering_then (nat_cmp 0 n) p) ≡ false → n ≡ 0
not_less zero p h = refl
not_less (suc n) p h =
    let more : Less ≡ nat_cmp 0 (suc n) = nat_cmp_is 0 (suc n) Less (omega arith) in
    let clash : true ≡ false = ap (λ o. is_lt (ordering_then o p)) more ∙ h in cc

no_ticket_at : (kind : Kind) → is_lt (key_cmp least_key (record { home = 0; kind = kind })) ≡ false → ticket_of kind ≡ 0
no_ticket_at (Intent a) h = not_less a.ticket _ h
no_ticket_at (ReadLog p) h = cc
no_ticket_at (Invoke p) h = cc
no_ticket_at (Data t k r) h = cc
no_ticket_at (Shadow x t k r) h = cc
no_ticket_at (Lockset a b t k) h = cc

no_line_at : (d : Deployment) (m : Rows) (home : ℕ) (kind : Kind) (r : Row) → is_lt (key_cmp least_key (record { home = 0; kind = kind })) ≡ false → line_at d m home kind r ≡ []
no_line_at d m home (Intent a) r h = refl
no_line_at d m home (ReadLog p) r h = cc
no_line_at d m home (Invoke p) r h = cc
no_line_at d m home (Data t k n) r h = cc
no_line_at d m home (Shadow x t k n) r h = cc
no_line_at d m home (Lockset a b t k) r h = cc

at_home : (k : RowKey) → is_lt (key_cmp least_key k) ≡ false → is_lt (key_cmp least_key (record { home = 0; kind = k.kind })) ≡ false
at_home k h = subst (λ n. is_lt (key_cmp least_key (record { home = n; kind = k.kind })) ≡ false) (not_less k.home (kind_cmp least_key.kind k.kind) h) h

-- before the first step, nothing that counts was passed over
skipped_tickets : (es : List Entry) → greatest (rest least_key es) ≡ greatest es
skipped_tickets [] = refl
skipped_tickets (e ∷ es) = (elim (is_lt (key_cmp least_key e.0)) as (λ b. is_lt (key_cmp least_key e.0) ≡ b → greatest (if b then e ∷ es else rest least_key es) ≡ greatest (e ∷ es)) [
  | true ↦ λ h. refl
  | false ↦ λ h. let none = no_ticket_at e.0.kind (at_home e.0 h) in let same = skipped_tickets es in omega (arith, none, same)
]) refl

skipped_lines : (d : Deployment) (m : Rows) (es : List Entry) → flat_map (row_line d m) (rest least_key es) ≡ flat_map (row_line d m) es
skipped_lines d m [] = refl
skipped_lines d m (e ∷ es) = (elim (is_lt (key_cmp least_key e.0)) as (λ b. is_lt (key_cmp least_key e.0) ≡ b → flat_map (row_line d m) (if b then e ∷ es else rest least_key es) ≡ flat_map (row_line d m) (e ∷ es)) [
  | true ↦ λ h. refl
  | false ↦ λ h. skipped_lines d m es ∙ ap (λ t. t ++ flat_map (row_line d m) es) (sym (no_line_at d m e.0.home e.0.kind e.1 (at_home e.0 h)))
]) refl

-- ---- the tickets, the moments and the lines found so far
abbrev pub Newest : ℕ → RowKey → Rows → Type 0
Newest t k m = max t (greatest (rest k (map.entries m))) ≡ newest_of m

abbrev pub Latest : ℕ → RowKey → Rows → Type 0
Latest t k m = max t (latest (rest k (map.entries m))) ≡ latest_of m

abbrev pub Marks : ℕ → ℕ → RowKey → Rows → Type 0
Marks t u k m = Newest t k m × Latest u k m

pub marks_first : (m : Rows) → Marks 0 0 least_key m
marks_first m = let same : greatest (rest least_key (map.entries m)) ≡ greatest (map.entries m) = skipped_tickets (map.entries m) in (omega (arith, same), omega arith)

mark_there : (l : RowKey) (u : ℕ) (o : Option Entry) → Some (l, u) ≡ next_mark_of o → (e : Entry) × (o ≡ Some e) × (e.0 ≡ l) × (row_moment e.1 ≡ u)
mark_there l u None h = cc
mark_there l u (Some e) h =
    let same : (l, u) ≡ (e.0, row_moment e.1) = same_mark (l, u) (e.0, row_moment e.1) h in
    (e, refl, sym (ap (λ (x : RowKey × ℕ). x.0) same), sym (ap (λ (x : RowKey × ℕ). x.1) same))
  where
    same_mark : (x y : RowKey × ℕ) → Some x ≡ Some y → x ≡ y
    same_mark x y h = cc

no_mark : (o : Option Entry) → None ≡ next_mark_of o → o ≡ None
no_mark None h = refl
no_mark (Some e) h = cc

pub marks_next : (t u v w x : ℕ) (k l : RowKey) (m : Rows) → t ≡ max u (key_ticket l) → v ≡ max w x → Marks u w k m → Some (l, x) ≡ next_mark_of (next_row m k) → Marks t v l m
marks_next t u v w x k l m is was h next =
    let e = mark_there l x (next_row m k) next in
    let left = at_next m k e.0 e.1 in
    let tickets : max u (max (key_ticket e.0.0) (greatest (rest e.0.0 (map.entries m)))) ≡ newest_of m = ap (λ es. max u (greatest es)) (sym left) ∙ h.0 in
    let ticket : max u (max (key_ticket l) (greatest (rest l (map.entries m)))) ≡ newest_of m = subst (λ (q : RowKey). max u (max (key_ticket q) (greatest (rest q (map.entries m)))) ≡ newest_of m) e.2 tickets in
    let moments : max w (max (row_moment e.0.1) (latest (rest e.0.0 (map.entries m)))) ≡ latest_of m = ap (λ es. max w (latest es)) (sym left) ∙ h.1 in
    let moment : max w (max x (latest (rest l (map.entries m)))) ≡ latest_of m = subst (λ (q : RowKey). max w (max x (latest (rest q (map.entries m)))) ≡ latest_of m) e.2 (subst (λ (z : ℕ). max w (max z (latest (rest e.0.0 (map.entries m)))) ≡ latest_of m) e.3 moments) in
    (omega (arith, is, ticket), omega (arith, was, moment))

pub marks_last : (t u : ℕ) (k : RowKey) (m : Rows) → Marks t u k m → None ≡ next_mark_of (next_row m k) → IsHighWater m t u
marks_last t u k m h next =
    let end = at_end m k (no_mark (next_row m k) next) in
    let tickets : max t 0 ≡ newest_of m = ap (λ es. max t (greatest es)) (sym end) ∙ h.0 in
    let moments : max u 0 ≡ latest_of m = ap (λ es. max u (latest es)) (sym end) ∙ h.1 in
    record { newest = omega (arith, tickets); latest = omega (arith, moments) }

-- ---- the lines of all rows
abbrev pub Listed : Deployment → List ℕ → RowKey → Rows → Type 0
Listed d text k m = text ++ flat_map (row_line d m) (rest k (map.entries m)) ≡ tables_text d m

pub listed_first : (d : Deployment) (m : Rows) → Listed d [] least_key m
listed_first d m = skipped_lines d m (map.entries m)

line_there : (d : Deployment) (m : Rows) (l : RowKey) (text new : List ℕ) (o : Option Entry) → (Some l, new) ≡ next_line_of d m text o → (e : Entry) × (o ≡ Some e) × (e.0 ≡ l) × (new ≡ text ++ row_line d m e)
line_there d m l text new None h = let none : Some l ≡ None = ap (λ (q : Option RowKey × List ℕ). q.0) h in cc
line_there d m l text new (Some e) h = let same : Some l ≡ Some e.0 = ap (λ (q : Option RowKey × List ℕ). q.0) h in (e, refl, cc, ap (λ (q : Option RowKey × List ℕ). q.1) h)

no_more : (d : Deployment) (m : Rows) (text new : List ℕ) (o : Option Entry) → (None, new) ≡ next_line_of d m text o → (o ≡ None) × (new ≡ text)
no_more d m text new None h = (refl, ap (λ (q : Option RowKey × List ℕ). q.1) h)
no_more d m text new (Some e) h = let none : None ≡ Some e.0 = ap (λ (q : Option RowKey × List ℕ). q.0) h in cc

pub listed_next : (d : Deployment) (text new : List ℕ) (k l : RowKey) (m : Rows) → Listed d text k m → (Some l, new) ≡ next_line_of d m text (next_row m k) → Listed d new l m
listed_next d text new k l m h next =
    let e = line_there d m l text new (next_row m k) next in
    ap (λ s. s ++ flat_map (row_line d m) (rest l (map.entries m))) e.3 ∙ append_assoc text (row_line d m e.0) (flat_map (row_line d m) (rest l (map.entries m)))
    ∙ ap (λ (q : RowKey). text ++ (row_line d m e.0 ++ flat_map (row_line d m) (rest q (map.entries m)))) (sym e.2)
    ∙ ap (λ es. text ++ flat_map (row_line d m) es) (sym (at_next m k e.0 e.1)) ∙ h

pub listed_last : (d : Deployment) (text new : List ℕ) (k : RowKey) (m : Rows) → Listed d text k m → (None, new) ≡ next_line_of d m text (next_row m k) → new ≡ tables_text d m
listed_last d text new k m h next =
    let e = no_more d m text new (next_row m k) next in
    e.1 ∙ sym (append-nil text) ∙ ap (λ es. text ++ flat_map (row_line d m) es) (sym (at_end m k e.0)) ∙ h

-- ---- a reading that goes on, and ends
pub record Surveying (P : Rows → Type 0) (old new : TableState) : Type 0 where
  pub rows : Tells old.rows new.rows (λ m n. (n ≡ m) × P m)
  pub later : old.faults ≤ new.faults
  pub room : new.room ≡ old.room

pub begins : (P : Rows → Type 0) → ((m : Rows) → P m) → (a : TableState) → Surveying P a a
begins P f a = record {
  rows = tells_map {P = λ m n. n ≡ m} {Q = λ m n. (n ≡ m) × P m} a.rows a.rows (λ m n same. (same, f m)) (same_rows a.rows);
  later = omega arith;
  room = refl;
}

join : (P Q R : Rows → Type 0) → ((m : Rows) → P m → Q m → R m) → (a b c : Option Rows) → Tells a b (λ m n. (n ≡ m) × P m) → Tells b c (λ m n. (n ≡ m) × Q m) → Tells a c (λ m n. (n ≡ m) × R m)
join P Q R f None b c h k = subst (λ (x : Option Rows). Tells x c (λ m n. (n ≡ m) × Q m)) h k
join P Q R f (Some m) None c h k = absurd h
join P Q R f (Some m) (Some n) None h k = absurd k
join P Q R f (Some m) (Some n) (Some o) h k = (k.0 ∙ h.0, f m h.1 (subst (λ (q : Rows). Q q) h.0 k.1))

module _ {X : Type 0} (P : Rows → Type 0) (Q : Rows → X → Type 0) (a b c : TableState) (h : Surveying P a b) where
  pub goes : (S : Rows → Type 0) (x : X) → ((m : Rows) → P m → Q m x → S m) → Reads Q b c (Ok x) → Surveying S a c
  goes S x f k = record {
    rows = join P (λ m. Q m x) S f a.rows b.rows c.rows h.rows k.rows;
    later = omega (arith, h.later, k.later);
    room = k.room ∙ h.room;
  }

  pub ends : {Y : Type 0} (R : Rows → Y → Type 0) (x : X) (y : Y) → ((m : Rows) → P m → Q m x → R m y) → Reads Q b c (Ok x) → Reads R a c (Ok y)
  ends R x y f k = record {
    rows = join P (λ m. Q m x) (λ m. R m y) f a.rows b.rows c.rows h.rows k.rows;
    later = omega (arith, h.later, k.later);
    failed = λ e. cc;
    room = k.room ∙ h.room;
  }

-- ---- what a reading tells, of its result and of another
pub reads_so : {X Y : Type 0} (P : Rows → X → Type 0) (Q : Rows → Y → Type 0) (a b : TableState) (x : Result X OpenErr) (y : Result Y OpenErr) → (IsErrOf y Failed → IsErrOf x Failed) → ((m : Rows) → IfOk x (P m) → IfOk y (Q m)) → Reads P a b x → Reads Q a b y
reads_so P Q a b x y failed f h = record {
  rows = tells_map {P = λ m n. (n ≡ m) × IfOk x (P m)} {Q = λ m n. (n ≡ m) × IfOk y (Q m)} a.rows b.rows (λ m n k. (k.0, f m k.1)) h.rows;
  later = h.later;
  failed = λ e. h.failed (failed e);
  room = h.room;
}

if_ok : {X : Type 0} (P Q : X → Type 0) (x : Result X OpenErr) → ((y : X) → P y → Q y) → IfOk x P → IfOk x Q
if_ok P Q (Ok y) f h = f y h
if_ok P Q (Err w) f h = h

-- two readings, one after the other
pub reads_then : {X Y : Type 0} (P : Rows → X → Type 0) (Q R : Rows → Y → Type 0) (a b c : TableState) (x : X) (y : Result Y OpenErr) → ((m : Rows) (z : Y) → P m x → Q m z → R m z) → Reads P a b (Ok x) → Reads Q b c y → Reads R a c y
reads_then P Q R a b c x y f h k = record {
  rows = join (λ m. P m x) (λ m. IfOk y (Q m)) (λ m. IfOk y (R m)) (λ m p q. if_ok (Q m) (R m) y (λ z. f m z p) q) a.rows b.rows c.rows h.rows k.rows;
  later = omega (arith, h.later, k.later);
  failed = λ e. let rose : Rose b.faults c.faults = k.failed e in omega (arith, h.later, rose);
  room = k.room ∙ h.room;
}
