-- One row is set in both; what an act does to the two; and what a removal leaves.
use Rattle.std.specs.FinMap as map
use Rattle.std.specs.Ordering.{is_eq}
use Rattle.std.proofs.Common.{◌≡◌, ◌⊎◌, inl, inr, ℕ, Bool, true, false, cond, Option, Some, None, is_some, refl, ap, sym, ◌∙◌, subst}
use Rattle.beldi_value.specs.{Id.id_cmp, declared.id.IntentId.IntentId, declared.outcome.Outcome.Outcome}
use Rattle.beldi_row.specs.{Act.act, Act.bind_to, Act.prunes, Act.end_with, Act.finish_at, Act.stamp_with, Key.RowKey, Key.key_cmp, Table.Rows, Table.set_row, declared.act.Act.Act, declared.row.Body.Body, declared.row.Row.Row}
use Rattle.beldi_plain.specs.Item.{Item}
use Rattle.beldi_row.specs.{Key.at_row, Key.kind_at, declared.key.Kind.Kind}
use Rattle.beldi_row.proofs.Gets.{got, key_same}
use Rattle.beldi_chain.specs.Chain.{Chain, chain, is_row_of}
use Rattle.beldi_splice.specs.Splice.{IsThreaded, LessChain, LessRow}
use Rattle.beldi_splice.proofs.Alike.{more_are_gone}
use Rattle.beldi_histories.specs.Contents.{head_key}
use Rattle.beldi_histories.proofs.Acts.{item_apart, kind_off}
use Rattle.beldi_query.specs.{declared.query.Query.Query, Query.replied, Query.query_reply, Query.rows_after}
use Rattle.beldi_invariant.proofs.Names.{tied_itself, id_total}
use Rattle.beldi_upkeep.specs.{Callees.belongs_to, WorksFor.finish_in}
use Rattle.beldi_kept.specs.Less.{IsGone, Less, and_gone, is_item}

-- ---- keys of items, and all others
-- a key is that of a row of an item, or not
pub by_kind : (k : RowKey) {P : Type 0} → (is_item k.kind ≡ false → P) → ((x : Item) (n : ℕ) → at_row (head_key x) n ≡ k → P) → P
by_kind k {P} other item = at_kind k.kind refl
  where
    at_kind : (kind : Kind) → k.kind ≡ kind → P
    at_kind (Kind.Data t s n) e = item (record { func = k.home; table = t; key = s }) n (sym (ap (λ z. record { home = k.home; kind = z }) e))
    at_kind (Kind.Intent i) e = other (ap is_item e)
    at_kind (Kind.ReadLog p) e = other (ap is_item e)
    at_kind (Kind.Invoke p) e = other (ap is_item e)
    at_kind (Kind.Shadow t u s n) e = other (ap is_item e)
    at_kind (Kind.Lockset i b t s) e = other (ap is_item e)

-- what is somebody's is of no item
pub not_item : (k : Kind) (o : Option IntentId) → belongs_to k ≡ o → is_some o ≡ true → is_item k ≡ false
not_item (Kind.Data t s n) (Some i) e some = cc
not_item (Kind.Data t s n) None e some = cc
not_item (Kind.Intent i) o e some = refl
not_item (Kind.ReadLog p) o e some = refl
not_item (Kind.Invoke p) o e some = refl
not_item (Kind.Shadow t u s n) o e some = refl
not_item (Kind.Lockset i b t s) o e some = refl

pub gone_not_item : (gone : IntentId → Bool) (k : Kind) → IsGone gone (belongs_to k) → is_item k ≡ false
gone_not_item gone k of = by_owner (belongs_to k) refl of
  where
    by_owner : (o : Option IntentId) → belongs_to k ≡ o → IsGone gone o → is_item k ≡ false
    by_owner (Some i) e of = not_item k (Some i) e refl
    by_owner None e of = absurd of

same_item_kind : (k : Kind) → is_item (kind_at k 0) ≡ is_item k
same_item_kind (Kind.Data t k n) = refl
same_item_kind (Kind.Shadow s t k n) = refl
same_item_kind (Kind.Intent i) = refl
same_item_kind (Kind.ReadLog a) = refl
same_item_kind (Kind.Invoke a) = refl
same_item_kind (Kind.Lockset i b t k) = refl

pub off_item : (k : RowKey) → is_item k.kind ≡ false → (x : Item) → is_row_of (head_key x) k ≡ false
off_item k off x = kind_off is_item same_item_kind (head_key x) k refl off

-- what is so of two maps at each key is so of them once a row of both was set
pub set_two : (m kept : Rows) (k : RowKey) (o p : Option Row) (P : RowKey → Option Row → Option Row → Type 0) → P k o p → ((l : RowKey) → P l (map.get m l) (map.get kept l)) → (l : RowKey) → P l (map.get (set_row m k o) l) (map.get (set_row kept k p) l)
set_two m kept k o p P here all l = at (is_eq (key_cmp l k)) refl
  where
    at : (b : Bool) → is_eq (key_cmp l k) ≡ b → P l (map.get (set_row m k o) l) (map.get (set_row kept k p) l)
    at b e = subst (λ z. P l z (map.get (set_row kept k p) l)) (sym (got m k l o ∙ ap (λ b. cond b o (map.get m l)) e)) (subst (P l (cond b o (map.get m l))) (sym (got kept k l p ∙ ap (λ b. cond b p (map.get kept l)) e)) (by_test b e))
      where
        by_test : (b : Bool) → is_eq (key_cmp l k) ≡ b → P l (cond b o (map.get m l)) (cond b p (map.get kept l))
        by_test true e = subst (λ z. P z o p) (sym (key_same l k e)) here
        by_test false e = all l

-- the row of an intent that has no body
abbrev pub IsBare : Option Row → Type 0
IsBare (Some (Row.Intent w)) = w.body ≡ None
IsBare r = ⊥

pub bare_there : (r : Option Row) → IsBare r → is_some r ≡ true
bare_there None bare = absurd bare
bare_there (Some r) bare = refl

abbrev pub binds : Act → Bool
binds (Act.Bind f v) = true
binds a = false

pub bare_stays : (a : Act) (now : ℕ) (w : Option Row) → prunes a ≡ false → binds a ≡ false → IsBare w → IsBare (act a now w).0
bare_stays (Act.Bind f v) now w keeps off bare = cc
bare_stays (Act.DropIntent l) now w keeps off bare = cc
bare_stays Act.DropRow now w keeps off bare = cc
bare_stays (Act.End o stamp) now (Some (Row.Intent i)) keeps off bare = by_outcome i.outcome
  where
    by_outcome : (p : Option Outcome) → (end_with o stamp now i p).0.body ≡ None
    by_outcome None = bare
    by_outcome (Some p) = bare
bare_stays Act.Stamp now (Some (Row.Intent i)) keeps off bare = by_finish i.finish
  where
    by_finish : (f : Option ℕ) → (stamp_with now i f).0.body ≡ None
    by_finish None = bare
    by_finish (Some f) = bare
bare_stays a now (Some (Row.Intent i)) keeps off bare = bare
bare_stays a now None keeps off bare = absurd bare
bare_stays a now (Some w) keeps off bare = absurd bare

-- no act that removes no row takes a finish away, or changes it
pub dates_stay : (a : Act) (now : ℕ) (w : Option Row) (f : ℕ) → prunes a ≡ false → finish_in w ≡ Some f → finish_in (act a now w).0 ≡ Some f
dates_stay (Act.DropIntent l) now w f keeps is = cc
dates_stay Act.DropRow now w f keeps is = cc
dates_stay (Act.Bind g v) now (Some (Row.Intent i)) f keeps is = by_body i.body
  where
    by_body : (b : Option Body) → (bind_to g v i b).0.finish ≡ Some f
    by_body None = is
    by_body (Some b) = is
dates_stay (Act.End o stamp) now (Some (Row.Intent i)) f keeps is = by_outcome i.outcome
  where
    by_stamp : (y : Bool) (z : Option ℕ) → z ≡ Some f → finish_at y now z ≡ Some f
    by_stamp false z is = is
    by_stamp true None is = cc
    by_stamp true (Some z) is = is

    by_outcome : (p : Option Outcome) → (end_with o stamp now i p).0.finish ≡ Some f
    by_outcome None = by_stamp stamp i.finish is
    by_outcome (Some p) = is
dates_stay Act.Stamp now (Some (Row.Intent i)) f keeps is = by_finish i.finish is
  where
    by_finish : (z : Option ℕ) → z ≡ Some f → (stamp_with now i z).0.finish ≡ Some f
    by_finish None is = cc
    by_finish (Some z) was = is
dates_stay a now (Some (Row.Intent i)) f keeps is = is
dates_stay a now None f keeps is = cc
dates_stay a now (Some w) f keeps is = cc

-- ---- the rows after an event, over the two
pub record GoesOn (gone : IntentId → Bool) (m kept n after : Rows) : Type 0 where
  pub less : Less gone n after
  -- a row that went does not come back
  pub none : (k : RowKey) → map.get m k ≡ None → is_some (map.get kept k) ≡ true → map.get n k ≡ None
  -- .. and one without body that went gets none
  pub bare : (k : RowKey) → map.get m k ≡ None → IsBare (map.get kept k) → IsBare (map.get after k)

module _ (gone : IntentId → Bool) (m kept : Rows) (less : Less gone m kept) where
  -- what the table has was kept
  pub there_kept : (q : RowKey) (s : Row) → is_item q.kind ≡ false → map.get m q ≡ Some s → map.get kept q ≡ Some s
  there_kept q s other there = elim (less.rows q other) [
    | inl same ↦ sym same ∙ there
    | inr off ↦ let clash = sym there ∙ off.0 in cc
  ]

  row_kept : (f : Chain) (n : ℕ) (r s : Option Row) → LessRow gone f n r s → is_some r ≡ true → is_some s ≡ true
  row_kept f n None s l there = cc
  row_kept f n (Some (Row.Cell c)) (Some s) l there = refl
  row_kept f n (Some (Row.Cell c)) None l there = absurd l
  row_kept f n (Some r) s l there = absurd l

  pub was_there : (q : RowKey) → is_some (map.get m q) ≡ true → is_some (map.get kept q) ≡ true
  was_there q there = by_kind q
      (λ other. elim (less.rows q other) [
        | inl same ↦ sym (ap is_some same) ∙ there
        | inr off ↦ let clash = sym there ∙ ap is_some off.0 in cc
      ])
      (λ x n at. subst (λ z. is_some (map.get kept z) ≡ true) at (row_kept (chain kept (head_key x)) n (map.get m (at_row (head_key x) n)) (map.get kept (at_row (head_key x) n)) (less.cells x n) (ap (λ z. is_some (map.get m z)) at ∙ there)))

  pub none_there : (q : RowKey) → map.get kept q ≡ None → map.get m q ≡ None
  none_there q none = by_row (map.get m q) refl
    where
      by_row : (r : Option Row) → map.get m q ≡ r → map.get m q ≡ None
      by_row None at = at
      by_row (Some r) at = let clash = sym (ap is_some none) ∙ was_there q (ap is_some at) in cc

  pub stays_on : GoesOn gone m kept m kept
  stays_on = record { less = less; none = λ k none there. none; bare = λ k none bare. bare }

  set_both : (k : RowKey) → is_item k.kind ≡ false → (o p : Option Row) → (o ≡ p) ⊎ ((o ≡ None) × IsGone gone (belongs_to k.kind)) → (map.get m k ≡ None → is_some (map.get kept k) ≡ true → o ≡ None) → (map.get m k ≡ None → IsBare (map.get kept k) → IsBare p) → GoesOn gone m kept (set_row m k o) (set_row kept k p)
  set_both k other o p here none bare = record {
    less = record {
      rows = set_two m kept k o p (λ l x y. is_item l.kind ≡ false → (x ≡ y) ⊎ ((x ≡ None) × IsGone gone (belongs_to l.kind))) (λ e. here) less.rows;
      cells = λ x. subst (λ z. LessChain gone z (chain (set_row kept k p) (head_key x))) (sym (item_apart m k o x (off_item k other x))) (subst (LessChain gone (chain m (head_key x))) (sym (item_apart kept k p x (off_item k other x))) (less.cells x));
      threads = λ x there. subst IsThreaded (sym (item_apart m k o x (off_item k other x))) (less.threads x (sym (ap (λ (z : Chain). is_some (z 0)) (item_apart m k o x (off_item k other x))) ∙ there));
    };
    none = set_two m kept k o p (λ l x y. map.get m l ≡ None → is_some (map.get kept l) ≡ true → x ≡ None) none (λ l none there. none);
    bare = set_two m kept k o p (λ l x y. map.get m l ≡ None → IsBare (map.get kept l) → IsBare y) bare (λ l none has. has);
  }

  -- an act at a key where they agree
  pub act_both : (k : RowKey) → is_item k.kind ≡ false → (a : Act) (now : ℕ) → map.get m k ≡ map.get kept k → GoesOn gone m kept (rows_after (Query.Act k a) now m) (rows_after (Query.Act k a) now kept)
  act_both k other a now same = set_both k other (act a now (map.get m k)).0 (act a now (map.get kept k)).0 (inl (ap (λ r. (act a now r).0) same)) (λ none there. let clash = sym (ap is_some (sym same ∙ none)) ∙ there in cc) (λ none bare. absurd (subst IsBare (sym same ∙ none) bare))

  pub told_both : (k : RowKey) (a : Act) (now : ℕ) → map.get m k ≡ map.get kept k → query_reply (Query.Act k a) now m ≡ query_reply (Query.Act k a) now kept
  told_both k a now same = ap (λ r. replied (act a now r).1) same

  -- an act that adds and removes nothing, and binds nobody, at a key of who is gone
  pub act_gone : (k : RowKey) (a : Act) (now : ℕ) → map.get m k ≡ None → IsGone gone (belongs_to k.kind) → (act a now None).0 ≡ None → prunes a ≡ false → binds a ≡ false → GoesOn gone m kept (rows_after (Query.Act k a) now m) (rows_after (Query.Act k a) now kept)
  act_gone k a now none of adds keeps off =
      let stays : (act a now (map.get m k)).0 ≡ None = ap (λ r. (act a now r).0) none ∙ adds in
      set_both k (gone_not_item gone k.kind of) (act a now (map.get m k)).0 (act a now (map.get kept k)).0 (inr (stays, of)) (λ e there. stays) (λ e bare. bare_stays a now (map.get kept k) keeps off bare)

  -- ---- a removal
  pub gone_itself : (i : IntentId) → and_gone gone i i ≡ true
  gone_itself i = ap (λ b. cond b true (gone i)) (ap is_eq (tied_itself id_total i))

  pub gone_more : (i j : IntentId) → gone j ≡ true → and_gone gone i j ≡ true
  gone_more i j e = by_test (is_eq (id_cmp j i))
    where
      by_test : (b : Bool) → cond b true (gone j) ≡ true
      by_test true = refl
      by_test false = e

  is_gone_more : (i : IntentId) (o : Option IntentId) → IsGone gone o → IsGone (and_gone gone i) o
  is_gone_more i None of = of
  is_gone_more i (Some j) of = gone_more i j of

  pub goes : (k : RowKey) (i : IntentId) → belongs_to k.kind ≡ Some i → Less (and_gone gone i) (set_row m k None) kept
  goes k i of = record {
    rows = λ l off. by_test l off (is_eq (key_cmp l k)) refl;
    cells = λ x. subst (λ z. LessChain (and_gone gone i) z (chain kept (head_key x))) (sym (item_apart m k None x (off_item k other x))) (more_are_gone gone (and_gone gone i) (chain m (head_key x)) (chain kept (head_key x)) (gone_more i) (less.cells x));
    threads = λ x there. subst IsThreaded (sym (item_apart m k None x (off_item k other x))) (less.threads x (sym (ap (λ (z : Chain). is_some (z 0)) (item_apart m k None x (off_item k other x))) ∙ there));
  }
    where
      other : is_item k.kind ≡ false
      other = not_item k.kind (Some i) of refl

      by_less : (l : RowKey) → (map.get m l ≡ map.get kept l) ⊎ ((map.get m l ≡ None) × IsGone gone (belongs_to l.kind)) → (map.get m l ≡ map.get kept l) ⊎ ((map.get m l ≡ None) × IsGone (and_gone gone i) (belongs_to l.kind))
      by_less l (inl same) = inl same
      by_less l (inr off) = inr (off.0, is_gone_more i (belongs_to l.kind) off.1)

      by_test : (l : RowKey) → is_item l.kind ≡ false → (b : Bool) → is_eq (key_cmp l k) ≡ b → (map.get (set_row m k None) l ≡ map.get kept l) ⊎ ((map.get (set_row m k None) l ≡ None) × IsGone (and_gone gone i) (belongs_to l.kind))
      by_test l off true e = inr (got m k l None ∙ ap (λ b. cond b None (map.get m l)) e, subst (IsGone (and_gone gone i)) (sym (ap (λ (q : RowKey). belongs_to q.kind) (key_same l k e) ∙ of)) (gone_itself i))
      by_test l off false e = let x : map.get (set_row m k None) l ≡ map.get m l = got m k l None ∙ ap (λ b. cond b None (map.get m l)) e in
          subst (λ z. (z ≡ map.get kept l) ⊎ ((z ≡ None) × IsGone (and_gone gone i) (belongs_to l.kind))) (sym x) (by_less l (less.rows l off))
