-- The line of a row, by the row itself, or by what it wants besides.
use Rattle.std.specs.Option.{option_map}
use Rattle.beldi_row.{proofs.Least.next_row_least, specs.Key.head_key, specs.Table.IsNext, specs.declared.row.Cell.Cell}
use Rattle.beldi_chain.proofs.OneRow.{tail_is_head}
use Rattle.beldi_chain.{specs.Chain.above, specs.Chain.chain, specs.Chain.next_of, specs.Chain.tail}
use Rattle.beldi_step.specs.Tables.{cell_line}
use Rattle.beldi_host.specs.LastRow.{IsLast, held_at}
use Rattle.beldi_host.specs.Survey.{head_listed, held_listed, last_line, owned_after}
use Rattle.beldi_host.specs.declared.{last_row.Held.Held, survey.Wanted.Wanted}
use Rattle.beldi_host.proofs.Names.{Data, Deployment, Intent, Invoke, Kind, List, Lockset, None, Option, Owned, Owner, ReadLog, Row, RowKey, Rows, Shadow, Some, Value, [], ap, append-nil, cell_listed, false, if◌then◌else◌, is_committed, line_after, line_at, next_line_of, next_row, next_listed_of, owned_value, refl, row_line, listed_at, listed_of, shown_under, suc, sym, true, value_in, value_line, zero, ℕ, ◌++◌, ◌∙◌, ◌≡◌}
use Rattle.beldi_host.proofs.Names.map

abbrev Entry : Type 0
Entry = RowKey × Row

cell_whole : (d : Deployment) (m : Rows) (text : List ℕ) (f t : ℕ) (k : List ℕ) (o : Option Owner) (v : Value) → owned_after d m f (Data t k 0) (cell_listed d text f t k o v) ≡ text ++ value_line d f t k (shown_under m f t k o v)
cell_whole d m text f t k None v = refl
cell_whole d m text f t k (Some (Owner.Intent i)) v = refl
cell_whole d m text f t k (Some (Owner.Tx x)) v = refl

-- the line of an item, by what its last row holds
abbrev held_line : Deployment → Rows → ℕ → Kind → Option Owner → Value → List ℕ
held_line d m f (Data t k zero) o v = value_line d f t k (shown_under m f t k o v)
held_line d m f k o v = []

pub held_whole : (d : Deployment) (m : Rows) (text : List ℕ) (f : ℕ) (k : Kind) (o : Option Owner) (v : Value) → owned_after d m f k (held_listed d text f k o v) ≡ text ++ held_line d m f k o v
held_whole d m text f (Data t k zero) o v = cell_whole d m text f t k o v
held_whole d m text f k o v = sym (append-nil text)

-- .. if it holds anything
abbrev held_text : Deployment → Rows → ℕ → Kind → Option Held → List ℕ
held_text d m f k None = []
held_text d m f k (Some h) = held_line d m f k h.owner h.value

pub last_whole : (d : Deployment) (m : Rows) (f : ℕ) (k : Kind) (h : Option Held) → IsLast (chain m (record { home = f; kind = k })) h → last_line d m f k ≡ held_text d m f k h
last_whole d m f (Data t k zero) h is = by_row (tail (chain m (head_key f t k))) h is
  where
    by_row : (r : Option Row) (h : Option Held) → h ≡ held_at r → cell_line d m f t k r ≡ held_text d m f (Data t k 0) h
    by_row (Some (Row.Cell c)) h is = ap (held_text d m f (Data t k 0)) (sym is)
    by_row (Some (Row.Intent i)) h is = ap (held_text d m f (Data t k 0)) (sym is)
    by_row (Some (Row.ReadLog v)) h is = ap (held_text d m f (Data t k 0)) (sym is)
    by_row (Some (Row.Invoke i)) h is = ap (held_text d m f (Data t k 0)) (sym is)
    by_row (Some Row.Lockset) h is = ap (held_text d m f (Data t k 0)) (sym is)
    by_row None h is = ap (held_text d m f (Data t k 0)) (sym is)
last_whole d m f (Data t k (suc n)) None is = refl
last_whole d m f (Data t k (suc n)) (Some h) is = refl
last_whole d m f (Shadow x t k n) None is = refl
last_whole d m f (Shadow x t k n) (Some h) is = refl
last_whole d m f (Intent a) None is = refl
last_whole d m f (Intent a) (Some h) is = refl
last_whole d m f (ReadLog p) None is = refl
last_whole d m f (ReadLog p) (Some h) is = refl
last_whole d m f (Invoke p) None is = refl
last_whole d m f (Invoke p) (Some h) is = refl
last_whole d m f (Lockset a b t k) None is = refl
last_whole d m f (Lockset a b t k) (Some h) is = refl

pub held_after : (d : Deployment) (m : Rows) (text mid new : List ℕ) (f : ℕ) (k : Kind) (h : Held) (o : Option Owned) → (o, mid) ≡ held_listed d text f k h.owner h.value → IsLast (chain m (record { home = f; kind = k })) (Some h) → new ≡ owned_after d m f k (o, mid)
    → new ≡ text ++ last_line d m f k
held_after d m text mid new f k h o seen last is = is ∙ ap (owned_after d m f k) seen ∙ held_whole d m text f k h.owner h.value ∙ ap (λ s. text ++ s) (sym (last_whole d m f k (Some h) last))

wants_owned : (d : Deployment) (m : Rows) (f : ℕ) (k : Kind) (z : Option Owned × List ℕ) → line_after d m f k (option_map Wanted.Owned z.0, z.1) ≡ owned_after d m f k z
wants_owned d m f k (None, text) = refl
wants_owned d m f k (Some o, text) = refl

module _ (d : Deployment) (m : Rows) (text : List ℕ) (f t : ℕ) (k : List ℕ) where
  -- a first row that is the last one holds what the item does
  alone_whole : (c : Cell) → map.get m (head_key f t k) ≡ Some (Row.Cell c) → above 0 c.next ≡ None → value_line d f t k (shown_under m f t k c.owner c.value) ≡ line_at d m f (Data t k 0) (Row.Cell c)
  alone_whole c there last = ap (cell_line d m f t k) (sym (tail_is_head (chain m (head_key f t k)) (ap (λ r. above 0 (next_of r)) there ∙ last) ∙ there))

  by_next : (c : Cell) (o : Option ℕ) → map.get m (head_key f t k) ≡ Some (Row.Cell c) → above 0 c.next ≡ o → line_after d m f (Data t k 0) (head_listed (cell_listed d text f t k c.owner c.value) text o) ≡ text ++ line_at d m f (Data t k 0) (Row.Cell c)
  by_next c None there last = wants_owned d m f (Data t k 0) (cell_listed d text f t k c.owner c.value) ∙ cell_whole d m text f t k c.owner c.value ∙ ap (λ s. text ++ s) (alone_whole c there last)
  by_next c (Some n) there last = refl

line_whole : (d : Deployment) (m : Rows) (text : List ℕ) (f : ℕ) (k : Kind) (r : Row) → map.get m (record { home = f; kind = k }) ≡ Some r → line_after d m f k (listed_at d text f k r) ≡ text ++ line_at d m f k r
line_whole d m text f (Data t k zero) (Row.Cell c) there = by_next d m text f t k c (above 0 c.next) there refl
line_whole d m text f k r there = sym (append-nil text)

none_some : {X : Type 0} (x : X) → None ≡ Some x → ⊥
none_some x h = cc

pub seen_some : (d : Deployment) (m : Rows) (text mid new : List ℕ) (after k : RowKey) (w : Option Wanted) → (Some (k, w), mid) ≡ next_listed_of d text (next_row m after) → new ≡ line_after d m k.home k.kind (w, mid) → (Some k, new) ≡ next_line_of d m text (next_row m after)
seen_some d m text mid new after k w h is = by_row (next_row m after) (next_row_least m after) h
  where
    pair_of : (x y : RowKey × Option Wanted) → Some x ≡ Some y → x ≡ y
    pair_of x y h = cc

    by_row : (o : Option Entry) → IsNext m after o → (Some (k, w), mid) ≡ next_listed_of d text o → (Some k, new) ≡ next_line_of d m text o
    by_row None found h = absurd (none_some (k, w) (sym (ap (λ (q : Option (RowKey × Option Wanted) × List ℕ). q.0) h)))
    by_row (Some e) found h =
        let pair : (k, w) ≡ (e.0, (listed_of d text e).0) = pair_of (k, w) (e.0, (listed_of d text e).0) (ap (λ (q : Option (RowKey × Option Wanted) × List ℕ). q.0) h) in
        let key : k ≡ e.0 = ap (λ (q : RowKey × Option Wanted). q.0) pair in
        let seen : (w, mid) ≡ listed_of d text e = (λ i. ((pair i).1, (h i).1)) in
        let line : new ≡ text ++ row_line d m e = is ∙ ap (λ (q : RowKey). line_after d m q.home q.kind (w, mid)) key ∙ ap (line_after d m e.0.home e.0.kind) seen ∙ line_whole d m text e.0.home e.0.kind e.1 found.1 in
        λ i. (Some (key i), line i)

-- ---- the value of an item that a transaction owns
pub owned_committed : (m : Rows) (decision shadow : RowKey) (own v : Value) → true ≡ is_committed (map.get m decision) → v ≡ value_in (tail (chain m shadow)) own → v ≡ owned_value m decision shadow own
owned_committed m decision shadow own v h is = is ∙ ap (λ b. if b then value_in (tail (chain m shadow)) own else own) h

pub owned_open : (m : Rows) (decision shadow : RowKey) (own : Value) → false ≡ is_committed (map.get m decision) → own ≡ owned_value m decision shadow own
owned_open m decision shadow own h = ap (λ b. if b then value_in (tail (chain m shadow)) own else own) h
