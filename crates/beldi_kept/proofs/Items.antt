-- Acts on a row of an item that both have alike, and that none follows.
use Rattle.std.specs.FinMap as map
use Rattle.std.specs.Ordering.{is_eq}
use Rattle.std.proofs.Common.{◌≡◌, ◌⊎◌, ℕ, Bool, true, false, cond, Option, Some, None, is_some, refl, ap, sym, ◌∙◌, subst}
use Rattle.beldi_value.specs.declared.id.IntentId.{IntentId}
use Rattle.beldi_plain.specs.Item.{Item, item_cmp}
use Rattle.beldi_row.specs.{Act.act, Act.prunes, Key.RowKey, Key.at_row, Key.key_cmp, Table.Rows, Table.after_act, Table.set_row, declared.act.Act.Act, declared.row.Cell.Cell, declared.row.Row.Row}
use Rattle.beldi_row.proofs.Gets.{got, key_same, key_self}
use Rattle.beldi_query.proofs.Promises.{row_there}
use Rattle.beldi_chain.specs.Chain.{Chain, ChangedAlone, chain, is_row_of}
use Rattle.beldi_links.specs.Links.{Frozen, SetTo}
use Rattle.beldi_links.proofs.{LinkKeeps.row_set, Ways.same_or}
use Rattle.beldi_splice.specs.{SpliceLaws.Keeps, Splice.IsThreaded, Splice.LessChain}
use Rattle.beldi_splice.proofs.Both.{acts_keep_rows_so}
use Rattle.beldi_histories.specs.Contents.{IsLinkedItem, head_key}
use Rattle.beldi_histories.proofs.Acts.{by_item, item_head, other_item}
use Rattle.beldi_upkeep.specs.Callees.{belongs_to}
use Rattle.beldi_kept.specs.Less.{IsGone, Less, is_item}
use Rattle.beldi_kept.proofs.Less.{GoesOn, IsBare, set_two}

-- a row of an item is set, and no other row
pub alone : (y : Item) (row : ℕ) (m : Rows) (v : Option Row) → ChangedAlone (head_key y) m (set_row m (at_row (head_key y) row) v)
alone y row m v l off = got m (at_row (head_key y) row) l v ∙ by_test (is_eq (key_cmp l (at_row (head_key y) row))) refl
  where
    own : is_row_of (head_key y) (at_row (head_key y) row) ≡ true
    own = key_self (head_key y)

    by_test : (b : Bool) → is_eq (key_cmp l (at_row (head_key y) row)) ≡ b → cond b v (map.get m l) ≡ map.get m l
    by_test true e = let clash = sym own ∙ ap (is_row_of (head_key y)) (sym (key_same l (at_row (head_key y) row) e)) ∙ off in cc
    by_test false e = refl

module _ (gone : IntentId → Bool) (m kept : Rows) (less : Less gone m kept) (linked : (x : Item) → IsLinkedItem kept x) (y : Item) (row : ℕ) (a : Act) (stays : prunes a ≡ false) (now : ℕ) where
  abbrev key : RowKey
  key = at_row (head_key y) row

  abbrev n : Rows
  n = after_act a now key m

  abbrev e : Rows
  e = after_act a now key kept

  module _ (same : map.get m key ≡ map.get kept key) (linked_then : IsLinkedItem e y) (free : (k : Cell) → map.get kept key ≡ Some (Row.Cell k) → k.next ≡ None) where
    abbrev v : Option Row
    v = (act a now (map.get m key)).0

    abbrev w : Option Row
    w = (act a now (map.get kept key)).0

    same_set : v ≡ w
    same_set = ap (λ r. (act a now r).0) same

    set_there : SetTo (chain m (head_key y)) row v (chain n (head_key y))
    set_there = row_set m (head_key y) (item_head y) row v

    set_kept : SetTo (chain kept (head_key y)) row v (chain e (head_key y))
    set_kept = subst (λ z. SetTo (chain kept (head_key y)) row z (chain e (head_key y))) (sym same_set) (row_set kept (head_key y) (item_head y) row w)

    frozen : Frozen (chain kept (head_key y)) (chain e (head_key y))
    frozen z c k is next = same_or z row
        (λ at. let clash = sym (free c (ap (chain kept (head_key y)) (sym at) ∙ is)) ∙ next in cc)
        (λ off. set_kept.others z off ∙ is)

    pub keeps_item : Keeps gone (chain m (head_key y)) (chain n (head_key y)) (chain e (head_key y))
    keeps_item = acts_keep_rows_so gone (chain m (head_key y)) (chain kept (head_key y)) (chain n (head_key y)) (chain e (head_key y)) row v set_there set_kept same (λ there. row_there a now (map.get m key) stays (ap is_some same ∙ there)) frozen (linked y) linked_then (less.cells y) (less.threads y)

    pub other_there : (x : Item) → is_eq (item_cmp y x) ≡ false → chain n (head_key x) ≡ chain m (head_key x)
    other_there x apart = other_item m n y (alone y row m v) x apart

    other_kept : (x : Item) → is_eq (item_cmp y x) ≡ false → chain e (head_key x) ≡ chain kept (head_key x)
    other_kept x apart = other_item kept e y (alone y row kept w) x apart

    pub act_alike : GoesOn gone m kept n e
    act_alike = record {
      less = record {
        rows = set_two m kept key v w (λ l x z. is_item l.kind ≡ false → (x ≡ z) ⊎ ((x ≡ None) × IsGone gone (belongs_to l.kind))) (λ off. let clash : true ≡ false = off in cc) less.rows;
        cells = λ x. by_item y x (λ z. LessChain gone (chain n (head_key z)) (chain e (head_key z))) keeps_item.less
            (λ apart. subst (λ z. LessChain gone z (chain e (head_key x))) (sym (other_there x apart)) (subst (LessChain gone (chain m (head_key x))) (sym (other_kept x apart)) (less.cells x)));
        threads = λ x. by_item y x (λ z. is_some (map.get n (head_key z)) ≡ true → IsThreaded (chain n (head_key z))) keeps_item.threads
            (λ apart there. subst IsThreaded (sym (other_there x apart)) (less.threads x (sym (ap (λ (z : Chain). is_some (z 0)) (other_there x apart)) ∙ there)));
      };
      none = set_two m kept key v w (λ l x z. map.get m l ≡ None → is_some (map.get kept l) ≡ true → x ≡ None) (λ none there. let clash = sym (ap is_some (sym same ∙ none)) ∙ there in cc) (λ l none there. none);
      bare = set_two m kept key v w (λ l x z. map.get m l ≡ None → IsBare (map.get kept l) → IsBare z) (λ none bare. absurd (subst IsBare (sym same ∙ none) bare)) (λ l none has. has);
    }
