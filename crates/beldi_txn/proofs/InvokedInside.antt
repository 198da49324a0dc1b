-- The rows of the calls of an intent, in the order of their steps.
use Rattle.beldi_txn.proofs.Names.{AreFit, AreHops, Bool, Called, CallsFollow, Equal, FindsCall, Greater, IntentId, IsFirstFrom, IsFit, IsNext, IsNextCall, Kind, Less, None, Option, Ordering, Promises, Row, RowKey, Rows, Some, ap, arith, assoc, below, between, call_after, call_key, call_of, eq-eqb, eqb-true, false, func_called, id_before, id_cmp, id_eq, id_exact, id_same, id_self, id_total, if◌then◌else◌, invokes_after, invokes_asks, invokes_found, irreflexive, is_less, key_cmp, key_exact, key_total, most, nat_cmp, nat_cmp_total, next_row, next_row_least, option_map, ordering_reverse, ordering_then, parts, precedes, promised, refl, slice_cmp, sym, tied_itself, true, ℕ, ◌&&◌, ◌<◌, ◌==◌, ◌∙◌, ◌≡◌, ◌≤◌}
use Rattle.beldi_txn.proofs.Names.map

pub by_order : (o : Ordering) (P : Type 0) → (o ≡ Less → P) → (o ≡ Equal → P) → (o ≡ Greater → P) → P
by_order Less P less equal greater = less refl
by_order Equal P less equal greater = equal refl
by_order Greater P less equal greater = greater refl

pub both : (a b : Bool) → (a && b) ≡ true → (a ≡ true) × (b ≡ true)
both true b h = (refl, h)
both false b h = cc

-- behind the intent: the step
abbrev pub steps : ℕ → ℕ → Ordering
steps n k = ordering_then (nat_cmp n k) Equal

pub by_steps : (home room : ℕ) (a i : IntentId) (n k : ℕ) → key_cmp (call_key home a n) (call_key room i k) ≡ ordering_then (nat_cmp home room) (ordering_then (id_cmp a i) (steps n k))
by_steps home room a i n k = ap (ordering_then (nat_cmp home room)) (assoc (nat_cmp a.ticket i.ticket) (slice_cmp nat_cmp a.hops i.hops) (steps n k))

steps_below : (n k : ℕ) → steps n k ≡ Less → n < k
steps_below n k h = parts (nat_cmp n k) Equal h (n < k) (λ l. below n k l) (λ l z. let clash : Equal ≡ Less = z in cc)

reversed : (a i : IntentId) → id_cmp a i ≡ Less → (r : Ordering) → ordering_then (id_cmp i a) r ≡ Less → ⊥
reversed a i l r s = let clash = sym (ap (λ o. ordering_then o r) (id_total.antisymm i a ∙ ap ordering_reverse l)) ∙ s in cc

-- rows of other kinds stand before all calls of their home, or after them
no_first : (home room : ℕ) (s : Ordering) (P : Type 0) → ordering_then (nat_cmp home room) Greater ≡ Less → ordering_then (nat_cmp room home) s ≡ Less → P
no_first home room s P h g = between home room home Greater s (irreflexive home) h g P (λ e f r z. let clash : Greater ≡ Less = r in cc)

no_second : (home room : ℕ) (s : Ordering) (P : Type 0) → ordering_then (nat_cmp home room) s ≡ Less → ordering_then (nat_cmp room home) Greater ≡ Less → P
no_second home room s P h g = between home room home s Greater (irreflexive home) h g P (λ e f r z. let clash : Greater ≡ Less = z in cc)

absent : (o : Option Row) → ((r : Row) → o ≡ Some r → ⊥) → o ≡ None
absent None h = refl
absent (Some r) h = absurd (h r refl)

module _ (home : ℕ) (id : IntentId) where
  abbrev ck : ℕ → RowKey
  ck n = call_key home id n

  step_order : (n k : ℕ) → n < k → key_cmp (ck n) (ck k) ≡ Less
  step_order n k h =
      by_steps home home id id n k
      ∙ ap (λ o. ordering_then o (ordering_then (id_cmp id id) (steps n k))) (tied_itself nat_cmp_total home)
      ∙ ap (λ o. ordering_then o (steps n k)) (tied_itself id_total id)
      ∙ ap (λ o. ordering_then o Equal) (is_less n k h)

  step_below : (n k : ℕ) → key_cmp (ck n) (ck k) ≡ Less → n < k
  step_below n k h = steps_below n k (
      sym (by_steps home home id id n k
      ∙ ap (λ o. ordering_then o (ordering_then (id_cmp id id) (steps n k))) (tied_itself nat_cmp_total home)
      ∙ ap (λ o. ordering_then o (steps n k)) (tied_itself id_total id)) ∙ h)

  -- the call of such a row is told ..
  call_is : (n : ℕ) (r : Row) → call_of home id (ck n) (ck n).kind r ≡ Some (record { step = n; func = func_called r })
  call_is n r =
      ap (λ b. if b && (home == home) then Some (record { step = n; func = func_called r }) else None) (id_self id)
      ∙ ap (λ b. if b then Some (record { step = n; func = func_called r }) else None) (eq-eqb home home refl)

  -- .. and only of such a row
  pub is_call : (room : ℕ) (kind : Kind) (r : Row) (c : Called) → call_of home id (record { home = room; kind = kind }) kind r ≡ Some c → (record { home = room; kind = kind } ≡ ck c.step) × (func_called r ≡ c.func)
  is_call room (Kind.Invoke p) r c h = (elim (id_eq p.intent id && (room == home)) as (λ z. (id_eq p.intent id && (room == home)) ≡ z
      → (if z then Some (record { step = p.step; func = func_called r }) else None) ≡ Some c → (call_key room p.intent p.step ≡ ck c.step) × (func_called r ≡ c.func)) [
        | true ↦ λ e g.
            let q = both (id_eq p.intent id) (room == home) e in
            ((λ z. call_key (eqb-true room home q.1 z) (id_same p.intent id q.0 z) p.step) ∙ ap ck (ap (step_in p.step) g), ap (func_in_call (func_called r)) g)
        | false ↦ λ e g. cc
      ]) refl h
    where
      step_in : ℕ → Option Called → ℕ
      step_in n None = n
      step_in n (Some d) = d.step

      func_in_call : ℕ → Option Called → ℕ
      func_in_call n None = n
      func_in_call n (Some d) = d.func
  is_call room kind r c h = cc

  -- what stands between two of them is one
  within : (a q : ℕ) (room : ℕ) (kind : Kind) → key_cmp (ck a) (record { home = room; kind = kind }) ≡ Less → key_cmp (record { home = room; kind = kind }) (ck q) ≡ Less
      → (j : ℕ) × (record { home = room; kind = kind } ≡ ck j)
  within a q room (Kind.Invoke p) h g =
      between home room home (ordering_then (id_cmp id p.intent) (steps a p.step)) (ordering_then (id_cmp p.intent id) (steps p.step q)) (irreflexive home)
      (sym (by_steps home room id p.intent a p.step) ∙ h) (sym (by_steps room home p.intent id p.step q) ∙ g) ((j : ℕ) × (call_key room p.intent p.step ≡ ck j))
      (λ e f r s. parts (id_cmp id p.intent) (steps a p.step) r ((j : ℕ) × (call_key room p.intent p.step ≡ ck j))
      (λ l. absurd (reversed id p.intent l (steps p.step q) s))
      (λ l z. let same = sym (id_exact id p.intent l) in (p.step, λ y. call_key (f y) (same y) p.step)))
  within a q room (Kind.Intent i) h g = no_first home room _ _ h g
  within a q room (Kind.ReadLog p) h g = no_first home room _ _ h g
  within a q room (Kind.Data t k r) h g = no_second home room _ _ h g
  within a q room (Kind.Shadow x t k r) h g = no_second home room _ _ h g
  within a q room (Kind.Lockset i b t k) h g = no_second home room _ _ h g

  -- none is below the least key
  above : (q : ℕ) → key_cmp (ck q) (ck 0) ≡ Less → ⊥
  above q h = let p = step_below q 0 h in omega (arith, p)

  module _ (m : Rows) where
    -- a row that is told and is none of them is past them all
    no_more : (e : RowKey × Row) → call_of home id e.0 e.0.kind e.1 ≡ None → (n : ℕ) → e.0 ≡ ck n → ⊥
    no_more e none n is = let clash = sym (call_is n e.1) ∙ sym (ap (λ (z : RowKey). call_of home id z z.kind e.1) is) ∙ none in cc

    none_past_call : (a q : ℕ) (r : Row) (e : Option (RowKey × Row)) → IsNext m (ck a) e → call_after home id e ≡ None → map.get m (ck q) ≡ Some r → a < q → ⊥
    none_past_call a q r None next none here less = let clash = sym here ∙ next (ck q) (step_order a q less) in cc
    none_past_call a q r (Some e) next none here less = by_order (key_cmp e.0 (ck q)) ⊥
        (λ l. let j = within a q e.0.home e.0.kind next.0 l in no_more e none j.0 j.1)
        (λ l. no_more e none q (key_exact e.0 (ck q) l))
        (λ l. let clash = sym here ∙ next.2 (ck q) (step_order a q less) (key_total.antisymm (ck q) e.0 ∙ ap ordering_reverse l) in cc)

    none_first_call : (q : ℕ) (r : Row) (e : Option (RowKey × Row)) → IsFirstFrom m (ck 0) e → call_after home id e ≡ None → map.get m (ck q) ≡ Some r → ⊥
    none_first_call q r None next none here = let clash = sym here ∙ next (ck q) (above q) in cc
    none_first_call q r (Some e) next none here = by_order (key_cmp e.0 (ck 0)) ⊥
        (λ l. next.0 l)
        (λ l. no_more e none 0 (key_exact e.0 (ck 0) l))
        (λ g. by_order (key_cmp e.0 (ck q)) ⊥
        (λ l. let j = within 0 q e.0.home e.0.kind (key_total.antisymm (ck 0) e.0 ∙ ap ordering_reverse g) l in no_more e none j.0 j.1)
        (λ l. no_more e none q (key_exact e.0 (ck q) l))
        (λ l. let clash = sym here ∙ next.2 (ck q) (above q) (key_total.antisymm (ck q) e.0 ∙ ap ordering_reverse l) in cc))

    -- none stands between the step before and that of the call that is told
    none_between_calls : (a q : ℕ) (r : Row) (c : Called) (e : Option (RowKey × Row)) → IsNext m (ck a) e → call_after home id e ≡ Some c → map.get m (ck q) ≡ Some r → a < q → q < c.step → ⊥
    none_between_calls a q r c None next is here less before = cc
    none_between_calls a q r c (Some e) next is here less before =
        let clash = sym here ∙ next.2 (ck q) (step_order a q less) (ap (key_cmp (ck q)) (is_call e.0.home e.0.kind e.1 c is).0 ∙ step_order q c.step before) in cc

    none_before_call : (q : ℕ) (r : Row) (c : Called) (e : Option (RowKey × Row)) → IsFirstFrom m (ck 0) e → call_after home id e ≡ Some c → map.get m (ck q) ≡ Some r → q < c.step → ⊥
    none_before_call q r c None next is here before = cc
    none_before_call q r c (Some e) next is here before =
        let clash = sym here ∙ next.2 (ck q) (above q) (ap (key_cmp (ck q)) (is_call e.0.home e.0.kind e.1 c is).0 ∙ step_order q c.step before) in cc

    -- the call that is told is there
    call_there : (c : Called) (e : RowKey × Row) → map.get m e.0 ≡ Some e.1 → call_of home id e.0 e.0.kind e.1 ≡ Some c → option_map func_called (map.get m (ck c.step)) ≡ Some c.func
    call_there c e there is =
        let h = is_call e.0.home e.0.kind e.1 c is in
        ap (option_map func_called) (ap (map.get m) (sym h.0) ∙ there) ∙ ap Some h.1

    -- .. past the step before
    pub call_past : (a : ℕ) (c : Called) (e : RowKey × Row) → key_cmp (ck a) e.0 ≡ Less → call_of home id e.0 e.0.kind e.1 ≡ Some c → a < c.step
    call_past a c e less is = step_below a c.step (sym (ap (key_cmp (ck a)) (is_call e.0.home e.0.kind e.1 c is).0) ∙ less)

    -- what is told of the next row is the next call, where the first row past the start is that of the first call
    module _ (first : (e : Option (RowKey × Row)) → IsNext m (invokes_after home id None) e → IsFirstFrom m (ck 0) e) where
      pub next_call : (after : Option ℕ) (e : Option (RowKey × Row)) → IsNext m (invokes_after home id after) e → (r : Option Called) → call_after home id e ≡ r → IsNextCall home id after m r
      next_call None e next None is = λ n past. absent (map.get m (ck n)) (λ r here. none_first_call n r e (first e next) is here)
      next_call (Some a) e next None is = λ n past. absent (map.get m (ck n)) (λ r here. none_past_call a n r e next is here past)
      next_call None None next (Some c) is = cc
      next_call (Some a) None next (Some c) is = cc
      next_call None (Some e) next (Some c) is = (tt, (call_there c e next.1 is, λ n past less. absent (map.get m (ck n)) (λ r here. none_before_call n r c (Some e) (first (Some e) next) is here less)))
      next_call (Some a) (Some e) next (Some c) is = (call_past a c e next.0 is, (call_there c e next.1 is, λ n past less. absent (map.get m (ck n)) (λ r here. none_between_calls a n r c (Some e) next is here past less)))

-- ---- the first of them
-- the row of a call has its widths
abbrev pub IsNarrow : Kind → Type 0
IsNarrow (Kind.Invoke p) = AreHops 63 p.intent.hops × (p.step ≤ most)
IsNarrow kind = Unit {0}

fit_narrow : (kind : Kind) → IsFit kind → IsNarrow kind
fit_narrow (Kind.Invoke p) fit = fit
fit_narrow kind fit = tt

module _ (home : ℕ) (id : IntentId) (some : 1 ≤ id.ticket) (hops : AreHops 63 id.hops) where
  abbrev start : RowKey
  start = invokes_after home id None

  abbrev least : RowKey
  least = call_key home id 0

  start_below : key_cmp start least ≡ Less
  start_below =
      by_steps home home (id_before id) id most 0
      ∙ ap (λ o. ordering_then o (ordering_then (id_cmp (id_before id) id) (steps most 0))) (tied_itself nat_cmp_total home)
      ∙ ap (λ o. ordering_then o (steps most 0)) (precedes id some hops).less

  -- between the two is no row
  none_passed : (room : ℕ) (kind : Kind) → IsNarrow kind → key_cmp start (record { home = room; kind = kind }) ≡ Less → key_cmp (record { home = room; kind = kind }) least ≡ Less → ⊥
  none_passed room (Kind.Invoke p) fit h g =
      between home room home (ordering_then (id_cmp (id_before id) p.intent) (steps most p.step)) (ordering_then (id_cmp p.intent id) (steps p.step 0)) (irreflexive home)
      (sym (by_steps home room (id_before id) p.intent most p.step) ∙ h) (sym (by_steps room home p.intent id p.step 0) ∙ g) ⊥
      (λ e f r s. parts (id_cmp (id_before id) p.intent) (steps most p.step) r ⊥
      (λ l. parts (id_cmp p.intent id) (steps p.step 0) s ⊥
      (λ k. (precedes id some hops).none p.intent fit.0 l k)
      (λ k z. let y = steps_below p.step 0 z in omega (arith, y)))
      (λ l z. let y = steps_below most p.step z in let w = fit.1 in omega (arith, y, w)))
  none_passed room (Kind.Intent i) fit h g = no_first home room _ ⊥ h g
  none_passed room (Kind.ReadLog p) fit h g = no_first home room _ ⊥ h g
  none_passed room (Kind.Data t k r) fit h g = no_second home room _ ⊥ h g
  none_passed room (Kind.Shadow x t k r) fit h g = no_second home room _ ⊥ h g
  none_passed room (Kind.Lockset i b t k) fit h g = no_second home room _ ⊥ h g

  -- what is not below the first key is past the start
  past : (q : RowKey) → (key_cmp q least ≡ Less → ⊥) → key_cmp start q ≡ Less
  past q h = by (key_cmp q least) refl
    where
      by : (o : Ordering) → key_cmp q least ≡ o → key_cmp start q ≡ Less
      by Less e = absurd (h e)
      by Equal e = ap (key_cmp start) (key_exact q least e) ∙ start_below
      by Greater e = key_total.trans start least q start_below (key_total.antisymm least q ∙ ap ordering_reverse e)

  -- the row after the start is the first one from the least key
  pub first_narrow : (m : Rows) (e : Option (RowKey × Row)) → ((q : RowKey) (r : Row) → map.get m q ≡ Some r → IsNarrow q.kind) → IsNext m start e → IsFirstFrom m least e
  first_narrow m None narrow h = λ q p. h q (past q p)
  first_narrow m (Some e) narrow h = (λ p. none_passed e.0.home e.0.kind (narrow e.0 e.1 h.1) h.0 p, h.1, λ q p less. h.2 q (past q p) less)

  pub first_call : (m : Rows) (e : Option (RowKey × Row)) → AreFit m → IsNext m start e → IsFirstFrom m least e
  first_call m e fit h = first_narrow m e (λ q r there. fit_narrow q.kind (fit q r there)) h

  pub call_promised : (after : Option ℕ) → Promises (invokes_asks home id after) 0 (invokes_found home id) (FindsCall home id after)
  call_promised after = promised (invokes_asks home id after) 0 (invokes_found home id) (FindsCall home id after)
      (λ m. let k = invokes_after home id after in (refl, λ fit. next_call home id m (λ e next. first_call m e fit next) after (next_row m k) (next_row_least m k) (call_after home id (next_row m k)) refl))

pub calls_follow : CallsFollow
calls_follow home id after some hops = call_promised home id some hops after
