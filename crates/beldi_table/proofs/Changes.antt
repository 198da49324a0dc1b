-- A change of one row, over the rows as a map.
use Rattle.std.specs.FinMap as map
use Rattle.std.specs.{BTreeMap.BTreeMap, BTreeMap.get, BTreeMap.is_at}
use Rattle.std.proofs.Common.{◌≡◌, ℕ, ◌<◌, Bool, true, false, cond, not, ◌&&◌, Option, None, Some, Ok, option_map, refl, subst, ap, sym, ◌∙◌, is_some, IsTrue}
use Rattle.beldi_row.{specs.KeyOrder.key_total, specs.KeyOrder.key_exact, specs.Key.key_cmp, specs.Act.Changes, specs.Act.on, specs.Act.off, specs.Act.act, specs.Act.change_reply, specs.Act.stays, specs.Act.stays_unless, specs.Act.drops, specs.Act.removes, specs.Act.removed_reply, specs.Act.here_reply, specs.Table.Rows, specs.Table.adds, specs.Table.set_row, specs.Key.RowKey, specs.declared.row.Row.Row, specs.declared.act.Act.Act, specs.declared.act.Act.TheVariants.Look, specs.declared.act.Change.Change, proofs.TableRows.get_rows, proofs.TableRows.one_set, proofs.TableRows.one_gone, proofs.TableRows.get_set, proofs.TableRows.same_set, proofs.TableRows.none_removed, proofs.Unchanged.unchanged, proofs.Unchanged.looked, proofs.Removed.act_stays, proofs.Removed.act_drops, proofs.Removed.drops_none}
use Rattle.beldi_table.specs.MapTable.{ChangedOn}

pub not_both : (b : Bool) → IsTrue b → b ≡ false → ⊥
not_both b h e = cc

-- the row is there, and was changed
pub there : (a : Act) (now : ℕ) (k : RowKey) (room : ℕ) (m n : Rows) (r s : Row) (c : Change) → drops a ≡ false → map.get m k ≡ Some r → n ≡ map.insert m k s → (s, change_reply c (Some s)) ≡ on a now r → ChangedOn a now k room m n (map.get n k) (Ok c)
there a now k room m n r s c keeps here is done =
    let acted : (Some s, change_reply c (Some s)) ≡ act a now (map.get m k) = ap stays done ∙ sym (act_stays a now r keeps) ∙ ap (act a now) (sym here) in (
      is ∙ ap (λ p. set_row m k p.0) acted,
      ap (λ p. change_reply c (map.get p k)) is ∙ ap (change_reply c) (get_set key_total key_exact m k s) ∙ ap (λ p. p.1) acted,
      λ h. absurd (not_both (adds a now k m) h (ap (λ p. not (is_some p) && is_some (off a now).0) here)),
    )

-- no row is there, and none was added
pub none_added : (a : Act) (now : ℕ) (k : RowKey) (room : ℕ) (m n : Rows) (c : Change) → n ≡ m → map.get m k ≡ None → (off a now).0 ≡ None → ((r : Option Row) → change_reply c r ≡ (off a now).1) → ChangedOn a now k room m n None (Ok c)
none_added a now k room m n c same here none tells = (
  same ∙ sym (none_removed key_total key_exact m k here) ∙ ap (set_row m k) (sym none ∙ ap (λ p. (act a now p).0) (sym here)),
  tells None ∙ ap (λ p. (act a now p).1) (sym here),
  λ h. absurd (not_both (adds a now k m) h (ap (λ p. not (is_some p) && is_some (off a now).0) here ∙ ap is_some none)),
)

-- no row is there, and one was added
pub one_added : (a : Act) (now : ℕ) (k : RowKey) (room : ℕ) (m n : Rows) (s : Row) (c : Change) → map.get m k ≡ None → (off a now).0 ≡ Some s → ((r : Option Row) → change_reply c r ≡ (off a now).1) → n ≡ map.insert m k s → map.len m < room → ChangedOn a now k room m n None (Ok c)
one_added a now k room m n s c here some tells is fits = (
  is ∙ ap (set_row m k) (sym some ∙ ap (λ p. (act a now p).0) (sym here)),
  tells None ∙ ap (λ p. (act a now p).1) (sym here),
  λ h. fits,
)

-- an act that may remove the row that is there: it does, and says so, or it does not
dropped : (a : Act) (now : ℕ) (k : RowKey) (m : Rows) (r : Row) (b : Bool) → drops a ≡ true → map.get m k ≡ Some r → b ≡ removes a now r → act a now (map.get m k) ≡ stays_unless b (r, removed_reply b)
dropped a now k m r b may here is = ap (act a now) here ∙ act_drops a now r may ∙ ap (λ z. stays_unless z (r, removed_reply z)) (sym is)

none_more : (a : Act) (now : ℕ) (k : RowKey) (room : ℕ) (m : Rows) → drops a ≡ true → IsTrue (adds a now k m) → map.len m < room
none_more a now k room m may h = absurd (not_both _ h (ap (λ o. not (map.contains_key m k) && is_some o) (drops_none a now may) ∙ never _))
  where
    never : (b : Bool) → (b && false) ≡ false
    never true = refl
    never false = refl

pub removed : (a : Act) (now : ℕ) (k : RowKey) (room : ℕ) (m n : Rows) (r : Row) → drops a ≡ true → map.get m k ≡ Some r → true ≡ removes a now r → n ≡ map.remove m k → ChangedOn a now k room m n None (Ok Change.Did)
removed a now k room m n r may here goes is =
    let acted = dropped a now k m r true may here goes in
    (is ∙ ap (λ p. set_row m k p.0) (sym acted), ap (λ p. p.1) (sym acted), none_more a now k room m may)

pub unremoved : (a : Act) (now : ℕ) (k : RowKey) (room : ℕ) (m n : Rows) (r : Row) → drops a ≡ true → map.get m k ≡ Some r → false ≡ removes a now r → n ≡ m → ChangedOn a now k room m n None (Ok Change.NotSo)
unremoved a now k room m n r may here stay same =
    let acted = dropped a now k m r false may here stay in
    (same ∙ sym (unchanged m k (Some r) (sym here)) ∙ ap (λ p. set_row m k p.0) (sym acted), ap (λ p. p.1) (sym acted), none_more a now k room m may)

-- by whether there is a row, and the act removes it
abbrev pub Fate : Act → ℕ → Option Row → Option Bool → Type 0
Fate a now o b = b ≡ option_map (removes a now) o

pub none_dropped : (a : Act) (now : ℕ) (k : RowKey) (room : ℕ) (m : Rows) (o : Option Row) (c : Change) → drops a ≡ true → map.get m k ≡ o → Fate a now o None → ((r : Option Row) → change_reply c r ≡ (off a now).1) → ChangedOn a now k room m m None (Ok c)
none_dropped a now k room m None c may here f tells = none_added a now k room m m c refl here (drops_none a now may) tells
none_dropped a now k room m (Some r) c may here f tells = cc

some_is : {A : Type 0} (x y : A) → Some x ≡ Some y → x ≡ y
some_is x y e = cc

pub row_dropped : (a : Act) (now : ℕ) (k : RowKey) (room : ℕ) (m n : Rows) (o : Option Row) → drops a ≡ true → map.get m k ≡ o → Fate a now o (Some true) → n ≡ map.remove m k → ChangedOn a now k room m n None (Ok Change.Did)
row_dropped a now k room m n None may here f is = cc
row_dropped a now k room m n (Some r) may here f is = removed a now k room m n r may here (some_is true (removes a now r) f) is

pub row_left : (a : Act) (now : ℕ) (k : RowKey) (room : ℕ) (m : Rows) (o : Option Row) → drops a ≡ true → map.get m k ≡ o → Fate a now o (Some false) → ChangedOn a now k room m m None (Ok Change.NotSo)
row_left a now k room m None may here f = cc
row_left a now k room m (Some r) may here f = unremoved a now k room m m r may here (some_is false (removes a now r) f) refl

-- over the maps of the code
pub gone : (k : RowKey) (m n : BTreeMap RowKey Row) → ((q : RowKey) → get key_cmp n q ≡ cond (is_at (key_cmp k) q) None (get key_cmp m q)) → map.from_entries {R = key_cmp} n.entries ≡ map.remove (map.from_entries m.entries) k
gone k m n rows = one_gone key_total key_exact m.entries n.entries k rows

pub applied : (a : Act) (now : ℕ) (k : RowKey) (room : ℕ) (m n : BTreeMap RowKey Row) (r s : Row) (c : Change) → drops a ≡ false → get key_cmp m k ≡ Some r → ((q : RowKey) → get key_cmp n q ≡ cond (is_at (key_cmp k) q) (Some s) (get key_cmp m q))
    → Changes a now r s c → ChangedOn a now k room (map.from_entries m.entries) (map.from_entries n.entries) (map.get {R = key_cmp} (map.from_entries n.entries) k) (Ok c)
applied a now k room m n r s c keeps here rows done =
    there a now k room (map.from_entries m.entries) (map.from_entries n.entries) r s c keeps (get_rows key_total key_exact m.entries k ∙ here) (one_set key_total key_exact m.entries n.entries k s rows) done

-- the row is there, and is set to what it was
pub unapplied : (k : RowKey) (m n : BTreeMap RowKey Row) (r : Row) → get key_cmp m k ≡ Some r → ((q : RowKey) → get key_cmp n q ≡ cond (is_at (key_cmp k) q) (Some r) (get key_cmp m q))
    → map.from_entries {R = key_cmp} n.entries ≡ map.from_entries m.entries
unapplied k m n r here rows =
    one_set key_total key_exact m.entries n.entries k r rows ∙ same_set key_total key_exact (map.from_entries m.entries) k r (get_rows key_total key_exact m.entries k ∙ here)

-- one would be added
pub would_add : (a : Act) (now : ℕ) (k : RowKey) (m : Rows) (s : Row) → map.get m k ≡ None → (off a now).0 ≡ Some s → IsTrue (adds a now k m)
would_add a now k m s here some = ap (λ p. not (is_some p) && is_some (off a now).0) here ∙ ap is_some some

-- a Look: the rows stay, and the row is told
look_reply : (now : ℕ) (r : Option Row) → here_reply r ≡ (act Look now r).1
look_reply now None = refl
look_reply now (Some r) = refl

adds_none : (b : Bool) → IsTrue (b && false) → ⊥
adds_none true h = cc
adds_none false h = cc

pub looks : (a : Act) (now : ℕ) (k : RowKey) (room : ℕ) (m : Rows) → a ≡ Look → ChangedOn a now k room m m (map.get m k) (Ok Change.Row)
looks a now k room m is = subst (λ (b : Act). ChangedOn b now k room m m (map.get m k) (Ok Change.Row)) (sym is) (sym (looked now k m), look_reply now (map.get m k), λ h. absurd (adds_none _ h))
