-- The keys of open intents, through the changes of a row.
use Rattle.std.specs.{BTreeMap.BTreeMap, BTreeMap.get, BTreeMap.is_at, BTreeSet.BTreeSet, BTreeMap.Range.IsLeBy, BTreeSet.contains, BTreeSet.IsKeyRangeOf, BTreeSet.IsKeyInRange, declared.cmp.Ordering.TheVariants.Less, Map.lookup, Cmp.Equal-is, Ordering.is_gt, Ordering.ordering_reverse, declared.ops.Bound.TheVariants.Excluded, declared.ops.Bound.TheVariants.Unbounded}
use Rattle.std.specs.Prelude.{IfSome, slice_get}
use Rattle.std.specs.FinMap as map
use Rattle.std.proofs.Common.{◌≡◌, ℕ, Bool, true, false, not, ◌&&◌, ◌||◌, cond, List, [], ◌∷◌, Option, Some, None, is_some, IsTrue, refl, subst, ap, sym, ◌∙◌}
use Rattle.beldi_row.specs.{Key.RowKey, Key.key_cmp, KeyOrder.key_exact, KeyOrder.key_total, Table.is_open, Table.NoneOpen, Table.NoneOpenTo, Act.on, Act.on_cell, Act.on_invoke, Act.end_with, Act.stamp_with, Act.ActReply, Act.Changes, declared.key.Kind.Kind, declared.row.Row.Row, declared.row.Cell.Cell, declared.row.IntentRow.IntentRow, declared.row.InvokeRow.InvokeRow, declared.act.Act.Act, declared.act.Change.Change}
use Rattle.beldi_value.specs.declared.outcome.Outcome.{Outcome}
use Rattle.beldi_row.proofs.TableRows.{get_rows}
use Rattle.beldi_table.specs.Opened.{opened, Indexed, binds, switches, Sets}

-- ---- what an act makes of an open intent
in_cell : (k : Kind) (f : Cell → Cell × ActReply) (t : ActReply) (r : Row) → is_open k (on_cell f t r).0 ≡ is_open k r
in_cell (Kind.Intent id) f t (Row.Intent i) = refl
in_cell k f t r = refl

in_invoke : (k : Kind) (f : InvokeRow → InvokeRow × ActReply) (t : ActReply) (r : Row) → is_open k (on_invoke f t r).0 ≡ is_open k r
in_invoke (Kind.Intent id) f t (Row.Intent i) = refl
in_invoke k f t r = refl

and_self : (x : Bool) → x && x ≡ x
and_self true = refl
and_self false = refl

and_true : (x : Bool) → x && true ≡ x
and_true true = refl
and_true false = refl

or_false : (x : Bool) → x || false ≡ x
or_false true = refl
or_false false = refl

shut : (b c y : Bool) → (b && not (c || true)) && y ≡ b && not (c || true)
shut true true y = refl
shut true false y = refl
shut false c y = refl

ends : (o : Outcome) (s : Bool) (now : ℕ) (k : Kind) (i : IntentRow) (p : Option Outcome) → is_open k (Row.Intent (end_with o s now i p).0) && is_open k (Row.Intent i) ≡ is_open k (Row.Intent (end_with o s now i p).0)
ends o s now (Kind.Intent id) i None = shut (is_some i.body) false _
ends o s now (Kind.Intent id) i (Some p) = and_self _
ends o s now k i p = refl

stamps : (now : ℕ) (k : Kind) (i : IntentRow) (p : Option ℕ) → is_open k (Row.Intent (stamp_with now i p).0) && is_open k (Row.Intent i) ≡ is_open k (Row.Intent (stamp_with now i p).0)
stamps now (Kind.Intent id) i None = shut (is_some i.body) (is_some i.outcome) _
stamps now (Kind.Intent id) i (Some p) = and_self _
stamps now k i p = refl

-- an act on a row: its key was put there where it may be open then, and is taken away where it may be closed and is not open
opens : (a : Act) (now : ℕ) (k : Kind) (r : Row) → (not (switches a) || is_open k (on a now r).0) && (binds a || is_open k r) ≡ is_open k (on a now r).0
opens (Act.Bind f v) now k r = and_true _
opens (Act.End o s) now k (Row.Intent i) = ends o s now k i i.outcome
opens (Act.End o s) now k r = and_self _
opens Act.Stamp now k (Row.Intent i) = stamps now k i i.finish
opens Act.Stamp now k r = and_self _
opens (Act.CallBack o) now k r = sym (in_invoke k _ _ r)
opens Act.NoteRegistered now k r = sym (in_invoke k _ _ r)
opens (Act.WriteCell p w v) now k r = sym (in_cell k _ _ r)
opens (Act.CondCell p w l o v) now k r = sym (in_cell k _ _ r)
opens (Act.LockCell p w s) now k r = sym (in_cell k _ _ r)
opens (Act.FreeCell p w v) now k r = sym (in_cell k _ _ r)
opens (Act.LinkCell n) now k r = sym (in_cell k _ _ r)
opens Act.MarkCell now k r = sym (in_cell k _ _ r)
opens (Act.SkipCell f t) now k r = sym (in_cell k _ _ r)
opens Act.DangleCell now k r = sym (in_cell k _ _ r)
opens a now k r = refl

-- ---- what becomes of the keys
is_it : (k q : RowKey) → is_at (key_cmp k) q ≡ true → k ≡ q
is_it k q h = key_exact k q ((Equal-is (key_cmp k q)).0 h)

-- where the row of a key changes, and whether the key is there
pub indexes : (k : RowKey) (w : Option Row) (f : Bool → Bool) (m n : BTreeMap RowKey Row) (s t : BTreeSet RowKey) → Indexed m s
    → ((q : RowKey) → get key_cmp n q ≡ cond (is_at (key_cmp k) q) w (get key_cmp m q)) → Sets k f s t → f (opened k (get key_cmp m k)) ≡ opened k w → Indexed n t
indexes k w f m n s t h rows keys one q =
    keys q ∙ (elim (is_at (key_cmp k) q) as (λ b. is_at (key_cmp k) q ≡ b → cond b (f (contains key_cmp s q)) (contains key_cmp s q) ≡ opened q (cond b w (get key_cmp m q))) [
      | true ↦ λ e. ap f (h q) ∙ subst (λ p. f (opened p (get key_cmp m p)) ≡ opened p w) (is_it k q e) one
      | false ↦ λ e. h q
    ]) refl ∙ sym (ap (opened q) (rows q))

-- the rows stay
pub same_rows : (k : RowKey) (m : BTreeMap RowKey Row) (q : RowKey) → get key_cmp m q ≡ cond (is_at (key_cmp k) q) (get key_cmp m k) (get key_cmp m q)
same_rows k m q = (elim (is_at (key_cmp k) q) as (λ b. is_at (key_cmp k) q ≡ b → get key_cmp m q ≡ cond b (get key_cmp m k) (get key_cmp m q)) [
  | true ↦ λ e. ap (get key_cmp m) (sym (is_it k q e))
  | false ↦ λ e. refl
]) refl

-- one change of a key after another
pub in_turn : (k : RowKey) (f g : Bool → Bool) (s t u : BTreeSet RowKey) → Sets k f s t → Sets k g t u → Sets k (λ b. g (f b)) s u
in_turn k f g s t u h i q =
    i q ∙ (elim (is_at (key_cmp k) q) as (λ b. contains key_cmp t q ≡ cond b (f (contains key_cmp s q)) (contains key_cmp s q) → cond b (g (contains key_cmp t q)) (contains key_cmp t q) ≡ cond b (g (f (contains key_cmp s q))) (contains key_cmp s q)) [
      | true ↦ λ e. ap g e
      | false ↦ λ e. e
    ]) (h q)

-- ---- a row that was changed
followed : (a : Act) (now : ℕ) (k : Kind) (r s : Row) (c : Change) → Changes a now r s c → (not (switches a) || is_open k s) && (binds a || is_open k r) ≡ is_open k s
followed a now k r s c h = subst (λ x. (not (switches a) || is_open k x) && (binds a || is_open k r) ≡ is_open k x) (sym (ap (λ p. p.0) h)) (opens a now k r)

unbound : (a : Act) → switches a ≡ false → binds a ≡ false
unbound (Act.Bind f v) n = cc
unbound a n = refl

-- what is neither bound nor ended is open as before
pub stays_open : (a : Act) (now : ℕ) (k : Kind) (r s : Row) (c : Change) → Changes a now r s c → switches a ≡ false → is_open k s ≡ is_open k r
stays_open a now k r s c h n =
    sym (followed a now k r s c h)
    ∙ ap (λ b. (not b || is_open k s) && (binds a || is_open k r)) n
    ∙ ap (λ b. b || is_open k r) (unbound a n)

pub row_there : (a : Act) (now : ℕ) (k : RowKey) (r v : Row) (c : Change) (w z : Bool) (m n : BTreeMap RowKey Row) (s t u : BTreeSet RowKey) → w ≡ binds a → z ≡ switches a → Changes a now r v c → get key_cmp m k ≡ Some r
    → Indexed m s → ((q : RowKey) → get key_cmp n q ≡ cond (is_at (key_cmp k) q) (Some v) (get key_cmp m q)) → Sets k (λ b. w || b) s t → Sets k (λ b. (not z || is_open k.kind v) && b) t u → Indexed n u
row_there a now k r v c w z m n s t u may switched done here h rows put took =
    indexes k (Some v) (λ b. (not z || is_open k.kind v) && (w || b)) m n s u h rows (in_turn k (λ b. w || b) (λ b. (not z || is_open k.kind v) && b) s t u put took)
    ((λ i. (not (switched i) || is_open k.kind v) && (may i || opened k (here i))) ∙ followed a now k.kind r v c done)

-- there was no memory
pub not_acted : (k : RowKey) (r : Row) (m n : BTreeMap RowKey Row) (s t : BTreeSet RowKey) → get key_cmp m k ≡ Some r → Indexed m s → ((q : RowKey) → get key_cmp n q ≡ cond (is_at (key_cmp k) q) (Some r) (get key_cmp m q)) → t ≡ s → Indexed n t
not_acted k r m n s t here h rows same =
    subst (Indexed n) (sym same) (λ q. h q ∙ ap (opened q) (same_rows k m q ∙ ap (λ w. cond (is_at (key_cmp k) q) w (get key_cmp m q)) here ∙ sym (rows q)))

pub not_added : (k : RowKey) (w : Bool) (m n : BTreeMap RowKey Row) (s t u : BTreeSet RowKey) → get key_cmp m k ≡ None → n.entries ≡ m.entries → Indexed m s → Sets k (λ b. w || b) s t → Sets k (λ b. false && b) t u → Indexed n u
not_added k w m n s t u none same h put took =
    indexes k (get key_cmp m k) (λ b. false && (w || b)) m n s u h (λ q. ap (lookup (is_at (key_cmp q))) same ∙ same_rows k m q) (in_turn k (λ b. w || b) (λ b. false && b) s t u put took) (sym (ap (opened k) none))

-- a row is added, and its key where it is open
pub added : (k : RowKey) (r : Row) (w : Bool) (m n : BTreeMap RowKey Row) (s t : BTreeSet RowKey) → w ≡ is_open k.kind r → get key_cmp m k ≡ None → Indexed m s
    → ((q : RowKey) → get key_cmp n q ≡ cond (is_at (key_cmp k) q) (Some r) (get key_cmp m q)) → Sets k (λ b. w || b) s t → Indexed n t
added k r w m n s t is none h rows put =
    indexes k (Some r) (λ b. w || b) m n s t h rows put ((λ i. is i || opened k (none i)) ∙ or_false (is_open k.kind r))

-- a row goes, and its key with it
pub removed : (k : RowKey) (m n : BTreeMap RowKey Row) (s t : BTreeSet RowKey) → Indexed m s → ((q : RowKey) → get key_cmp n q ≡ cond (is_at (key_cmp k) q) None (get key_cmp m q)) → Sets k (λ b. false && b) s t → Indexed n t
removed k m n s t h rows took = indexes k None (λ b. false && b) m n s t h rows took refl

-- ---- the keys past one
none_at : (m : BTreeMap RowKey Row) (s : BTreeSet RowKey) (q : RowKey) (r : Row) → Indexed m s → contains key_cmp s q ≡ false → map.get {R = key_cmp} (map.from_entries m.entries) q ≡ Some r → is_open q.kind r ≡ false
none_at m s q r h none here = ap (opened q) (sym here ∙ get_rows key_total key_exact m.entries q) ∙ sym (h q) ∙ none

pub none_past : (m : BTreeMap RowKey Row) (s : BTreeSet RowKey) (k : RowKey) (list : List RowKey) → Indexed m s → IsKeyRangeOf key_cmp (Excluded k) Unbounded s list → list ≡ [] → NoneOpen (map.from_entries m.entries) k
none_past m s k list h range is q r past here = none_at m s q r h (range.5 is q (past, tt)) here

pub none_to : (m : BTreeMap RowKey Row) (s : BTreeSet RowKey) (k end : RowKey) (list rest : List RowKey) → Indexed m s → IsKeyRangeOf key_cmp (Excluded k) Unbounded s list → list ≡ end ∷ rest → NoneOpenTo (map.from_entries m.entries) k end
none_to m s k end list rest h range is q r past below here =
    none_at m s q r h ((elim (contains key_cmp s q) as (λ b. contains key_cmp s q ≡ b → b ≡ false) [
      | true ↦ λ e.
          let first = subst (λ l. IfSome (slice_get l 0) (λ x. IsLeBy key_cmp x q)) is (range.2 q (past, tt) e) in
          let clash : true ≡ false = ap is_gt (sym (key_total.antisymm end q ∙ ap ordering_reverse below)) ∙ first in cc
      | false ↦ λ e. refl
    ]) refl) here

pub first_open : (m : BTreeMap RowKey Row) (s : BTreeSet RowKey) (k end : RowKey) (list rest : List RowKey) → Indexed m s → IsKeyRangeOf key_cmp (Excluded k) Unbounded s list → list ≡ end ∷ rest → (key_cmp k end ≡ Less) × IsTrue (opened end (map.get {R = key_cmp} (map.from_entries m.entries) end))
first_open m s k end list rest h range is =
    let first = subst (λ l. IfSome (slice_get l 0) (λ x. IsKeyInRange key_cmp (Excluded k) Unbounded s x)) is range.1 in
    (first.0.0, ap (opened end) (get_rows key_total key_exact m.entries end) ∙ sym (h end) ∙ first.1)
