-- The greatest ticket of the keys of a map.
use borrow.Author.Tests.{ltb-true}
use Rattle.beldi_host.specs.declared.high_water.HighWater.{HighWater}
use Rattle.beldi_host.proofs.Names.{Bool, Err, Failed, HaltCame, HaltOn, IsErrOf, IsHighWater, IsNewest, IsNotFull, IsSome, List, NewestAt, None, Ok, OpenErr, Option, Reads, Result, Row, RowKey, Rows, Some, TableErr, TableState, Tells, [], ap, arith, cond, false, find, get-entries, greatest, inl, inr, is_eq, key_cmp, key_same, key_ticket, key_total, ltb-false, max, nat_lt, newest_of, refl, subst, sym, tells_map, tied_itself, true, ℕ, ◌<◌, ◌∙◌, ◌∷◌, ◌≡◌, ◌≤◌, ◌⊎◌}
use Rattle.beldi_host.proofs.Names.map

not_some : false ≡ true → ⊥
not_some h = cc

at_most : (k : RowKey) (es : List (RowKey × Row)) → IsSome (find key_cmp k es) → key_ticket k ≤ greatest es
at_most k [] h = absurd (not_some h)
at_most k (e ∷ es) h = (elim (is_eq (key_cmp k e.0)) as (λ b. is_eq (key_cmp k e.0) ≡ b → IsSome (cond b (Some e.1) (find key_cmp k es)) → key_ticket k ≤ max (key_ticket e.0) (greatest es)) [
  | true ↦ λ t here. let same : key_ticket k ≡ key_ticket e.0 = ap key_ticket (key_same k e.0 t) in omega arith
  | false ↦ λ t here. let rest = at_most k es here in omega (arith, rest)
]) refl h

abbrev Names : List (RowKey × Row) → ℕ → Type 0
Names es t = (k : RowKey) × IsSome (find key_cmp k es) × (key_ticket k ≡ t)

-- what is there is there with an entry before
still : (b : Bool) (r : Row) (o : Option Row) → IsSome o → IsSome (cond b (Some r) o)
still true r o h = refl
still false r o h = h

named : (es : List (RowKey × Row)) → (greatest es ≡ 0) ⊎ Names es (greatest es)
named [] = inl refl
named (e ∷ es) = by_size (nat_lt (key_ticket e.0) (greatest es)) refl (named es)
  where
    by_size : (b : Bool) → nat_lt (key_ticket e.0) (greatest es) ≡ b → (greatest es ≡ 0) ⊎ Names es (greatest es) → (max (key_ticket e.0) (greatest es) ≡ 0) ⊎ Names (e ∷ es) (max (key_ticket e.0) (greatest es))
    by_size false p h =
        let size : greatest es ≤ key_ticket e.0 = ltb-false (key_ticket e.0) (greatest es) p in
        inr (e.0, subst (λ (o : Option Row). IsSome o) (ap (λ b. cond b (Some e.1) (find key_cmp e.0 es)) (sym (ap is_eq (tied_itself key_total e.0)))) refl, omega arith)
    by_size true p (inl z) = let size : key_ticket e.0 < greatest es = ltb-true (key_ticket e.0) (greatest es) p in absurd (omega arith)
    by_size true p (inr h) =
        let size : key_ticket e.0 < greatest es = ltb-true (key_ticket e.0) (greatest es) p in
        let same : greatest es ≡ max (key_ticket e.0) (greatest es) = omega arith in
        inr (h.0, still (is_eq (key_cmp h.0 e.0)) e.1 (find key_cmp h.0 es) h.1, h.2 ∙ same)

pub newest_is : (m : Rows) (t : ℕ) → t ≡ newest_of m → IsNewest m t
newest_is m t is = subst (IsNewest m) (sym is) (record {
  none_above = λ k h. at_most k (map.entries m) (subst IsSome (get-entries m k) h);
  named = (elim (named (map.entries m)) [
    | inl z ↦ inl z
    | inr h ↦ inr (h.0, subst IsSome (sym (get-entries m h.0)) h.1, h.2)
  ]);
})

pub newest_at : (t u : ℕ) (before after : Option Rows) → Tells before after (λ m n. (n ≡ m) × IsHighWater m t u) → NewestAt before t
newest_at t u None after h = tt
newest_at t u (Some m) None h = absurd h
newest_at t u (Some m) (Some n) h = newest_is m t h.1.newest

-- ---- what a halt reads
abbrev Read : TableState → TableState → Result HighWater OpenErr → Type 0
Read old new x = Reads (λ m w. IsHighWater m w.ticket w.moment) old new x

pub newest_came : (old new : TableState) (w : HighWater) → Read old new (Ok w) → HaltCame (Ok w.ticket) old new
newest_came old new w h = record {
  rows = tells_map {P = λ m n. (n ≡ m) × IsHighWater m w.ticket w.moment} {Q = λ m n. HaltOn (Ok w.ticket) m n} old.rows new.rows (λ m n p. (p.0, p.1.newest)) h.rows;
  fits = tt;
  cause = record { later = h.later; failed = λ e. cc };
  room = h.room;
}

pub newest_lost : (old new : TableState) (e : OpenErr) (v : TableErr) → IsNotFull {T = ℕ} (Err v) → (IsErrOf {T = ℕ} (Err v) TableErr.Failed → IsErrOf {T = HighWater} (Err e) Failed) → Read old new (Err e) → HaltCame (Err v) old new
newest_lost old new e v fits same h = record {
  rows = tells_map {P = λ m n. (n ≡ m) × Unit {0}} {Q = λ m n. HaltOn (Err v) m n} old.rows new.rows (λ m n p. p) h.rows;
  fits = fits;
  cause = record { later = h.later; failed = λ x. h.failed (same x) };
  room = h.room;
}
