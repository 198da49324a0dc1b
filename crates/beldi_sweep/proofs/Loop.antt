-- A sweep goes from row to row, to the end of its round, and what it leaves.
use Rattle.std.specs.Ordering.{ordering_then}
use Rattle.std.specs.FinMap as map
use Rattle.std.proofs.lemmas.Cmp.{ranked}
use Rattle.std.proofs.Common.{◌≡◌, ◌⊎◌, inl, inr, ℕ, zero, suc, ◌<◌, true, Option, None, Some, Ordering, Less, Equal, Greater, nat_cmp, refl, ap, sym, ◌∙◌, subst, arith}
use Rattle.beldi_row.specs.{Key.RowKey, Key.key_cmp, Key.least_key, Table.IsNext, Table.Rows, Table.next_row, declared.key.Kind.Kind, declared.row.Cell.Cell, declared.row.Row.Row}
use Rattle.beldi_row.proofs.Least.{next_row_least}
use Rattle.beldi_query.specs.Query.{found}
use Rattle.beldi_prune.specs.Prune.{before_output, past}
use Rattle.beldi_sweep.specs.{Done.IsReady, Done.IsTidying, SweepLaws.begin, SweptRows.AllIsOld, SweptRows.AreLongAdrift, SweptRows.AreSound, SweptRows.AreTidy, SweptRows.AreTrimmed, SweptRows.IsTrim, Sweep.EndsAt, Sweep.GoesTo, Sweep.Sweep, Sweep.is_last_turn, Sweep.is_round}
use Rattle.beldi_sweep.proofs.{Going.ended, Going.left, Going.sweep, Logs.CellsAreDone, Logs.rows_done}

-- where no row follows the cursor, the next turn ends the round
last : (life now : ℕ) (c : RowKey) (m : Rows) → next_row m c ≡ None → is_last_turn life now (sweep (past c) m) ≡ true
last life now c m none = ap (λ o. is_round (before_output (found o))) none

-- .. and what lies past it is absent
none_past : (c : RowKey) (m : Rows) → next_row m c ≡ None → (q : RowKey) (r : Row) → map.get m q ≡ Some r → key_cmp c q ≡ Less → ⊥
none_past c m none q r there far =
    let is : IsNext m c None = subst (λ o. IsNext m c o) none (next_row_least m c) in
    let clash : None ≡ Some r = sym (is q far) ∙ there in cc

module _ (newest life now : ℕ) (P : RowKey → Rows → Type 0) where
  -- it goes from a row to past the next, where the same is so
  pub record GoesPast (c k : RowKey) (m : Rows) : Type 0 where
    pub turns : ℕ
    pub rows : Rows
    pub path : GoesTo newest life now (suc turns) (sweep (past c) m) (sweep (past k) rows)
    pub so : P k rows

  module _ (step : (c : RowKey) (m : Rows) (e : RowKey × Row) → P c m → next_row m c ≡ Some e → GoesPast c e.0 m) (Q : Rows → Type 0) (end : (c : RowKey) (m : Rows) → P c m → next_row m c ≡ None → Q m) (t : Sweep) where
    by_next : (turns : ℕ) (c : RowKey) (m : Rows) → P c m → EndsAt newest life now turns (sweep (past c) m) t → ((rest : ℕ) (k : RowKey) (n : Rows) → rest < turns → P k n → EndsAt newest life now rest (sweep (past k) n) t → Q t.rows)
        → (o : Option (RowKey × Row)) → next_row m c ≡ o → Q t.rows
    by_next turns c m so e go None next = subst (λ (x : Sweep). Q x.rows) (sym (ended newest life now turns (sweep (past c) m) t (last life now c m next) e)) (end c m so next)
    by_next turns c m so e go (Some x) next =
        let s = step c m x so next in
        let l = left newest life now (suc s.turns) turns (sweep (past c) m) (sweep (past x.0) s.rows) t s.path e in
        let all = l.all in
        go l.rest x.0 s.rows (omega (arith, all)) s.so l.ends

    pub to_end : (fuel turns : ℕ) → turns < fuel → (c : RowKey) (m : Rows) → P c m → EndsAt newest life now turns (sweep (past c) m) t → Q t.rows
    to_end zero turns few c m so e = absurd (omega (arith, few))
    to_end (suc fuel) turns few c m so e = by_next turns c m so e (λ rest k n less so e. to_end fuel rest (omega (arith, less, few)) k n so e) (next_row m c) refl

-- ---- all rows lie past the least key
home_past : (home : ℕ) (o : Ordering) → o ≡ nat_cmp 0 home → ordering_then o Less ≡ Less
home_past home Less h = refl
home_past home Equal h = refl
home_past home Greater h = let never : home < 0 = ranked 0 home Greater h in absurd (omega (arith, never))

module _ (m : Rows) (so : AreSound m) where
  past_by : (q : RowKey) (r : Row) → map.get m q ≡ Some r → (kind : Kind) → q.kind ≡ kind → key_cmp least_key q ≡ Less
  past_by q r is (Kind.Intent i) kind = (so.intents q i r kind is).1
  past_by q r is (Kind.ReadLog a) kind = ap (λ z. key_cmp least_key (record { home = q.home; kind = z })) kind ∙ home_past q.home (nat_cmp 0 q.home) refl
  past_by q r is (Kind.Invoke a) kind = ap (λ z. key_cmp least_key (record { home = q.home; kind = z })) kind ∙ home_past q.home (nat_cmp 0 q.home) refl
  past_by q r is (Kind.Data t s n) kind = ap (λ z. key_cmp least_key (record { home = q.home; kind = z })) kind ∙ home_past q.home (nat_cmp 0 q.home) refl
  past_by q r is (Kind.Shadow x t s n) kind = ap (λ z. key_cmp least_key (record { home = q.home; kind = z })) kind ∙ home_past q.home (nat_cmp 0 q.home) refl
  past_by q r is (Kind.Lockset i b t s) kind = ap (λ z. key_cmp least_key (record { home = q.home; kind = z })) kind ∙ home_past q.home (nat_cmp 0 q.home) refl

  all_past : (q : RowKey) (r : Row) → map.get m q ≡ Some r → key_cmp least_key q ≡ Less
  all_past q r is = past_by q r is q.kind refl

-- ---- before all rows
module _ (newest life now : ℕ) (cells : CellsAreDone newest life now) where
  ready_first : (m : Rows) → AllIsOld newest life now m → AreSound m → IsReady newest life now least_key m
  ready_first m old sound = record { old = old; sound = sound; trimmed = λ k r is. inl (all_past m sound k r is) }

  tidying_first : (m : Rows) → AreSound m → AreTrimmed newest m → AreLongAdrift life now m → IsTidying newest life now least_key m
  tidying_first m sound trimmed long = record { trimmed = trimmed; long = long; moored = λ k x is. inl (all_past m sound k (Row.Cell x) is) }

  -- ---- what it leaves
  trimmed_by : (c : RowKey) (m : Rows) → IsReady newest life now c m → next_row m c ≡ None → AreTrimmed newest m
  trimmed_by c m ready none k r is = by (ready.trimmed k r is)
    where
      by : (key_cmp c k ≡ Less) ⊎ IsTrim newest k.kind r → IsTrim newest k.kind r
      by (inl far) = absurd (none_past c m none k r is far)
      by (inr trim) = trim

  moored_by : (c : RowKey) (m : Rows) → IsTidying newest life now c m → next_row m c ≡ None → (k : RowKey) (x : Cell) → map.get m k ≡ Some (Row.Cell x) → x.dangled ≡ None
  moored_by c m tidying none k x is = by (tidying.moored k x is)
    where
      by : (key_cmp c k ≡ Less) ⊎ (x.dangled ≡ None) → x.dangled ≡ None
      by (inl far) = absurd (none_past c m none k (Row.Cell x) is far)
      by (inr free) = free

  trims_step : (c : RowKey) (m : Rows) (e : RowKey × Row) → IsReady newest life now c m → next_row m c ≡ Some e → GoesPast newest life now (IsReady newest life now) c e.0 m
  trims_step c m e ready next = let d = rows_done newest life now cells c m e ready next in record { turns = d.turns; rows = d.rows; path = d.goes; so = d.ready }

  pub trims : (turns : ℕ) (m : Rows) (t : Sweep) → AllIsOld newest life now m → AreSound m → EndsAt newest life now turns (begin m) t → AreTrimmed newest t.rows
  trims turns m t old sound e = to_end newest life now (IsReady newest life now) trims_step (AreTrimmed newest) trimmed_by t (suc turns) turns (omega arith) least_key m (ready_first m old sound) e

  abbrev Tidying : RowKey → Rows → Type 0
  Tidying c m = IsReady newest life now c m × IsTidying newest life now c m

  tidies_step : (c : RowKey) (m : Rows) (e : RowKey × Row) → Tidying c m → next_row m c ≡ Some e → GoesPast newest life now Tidying c e.0 m
  tidies_step c m e so next = let d = rows_done newest life now cells c m e so.0 next in record { turns = d.turns; rows = d.rows; path = d.goes; so = (d.ready, d.tidying so.1) }

  pub tidies : (turns : ℕ) (m : Rows) (t : Sweep) → AllIsOld newest life now m → AreSound m → AreTrimmed newest m → AreLongAdrift life now m → EndsAt newest life now turns (begin m) t → AreTidy newest t.rows
  tidies turns m t old sound trimmed long e =
      to_end newest life now Tidying tidies_step (AreTidy newest) (λ c n so none. record { trimmed = so.1.trimmed; moored = moored_by c n so.1 none }) t (suc turns) turns (omega arith) least_key m
      (ready_first m old sound, tidying_first m sound trimmed long) e
