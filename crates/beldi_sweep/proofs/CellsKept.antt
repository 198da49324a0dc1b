-- Rows that a turn over a row of an item leaves: only that row and the first of its item may change.
use Rattle.std.specs.Ordering.{is_eq, nat_cmp, ordering_then}
use Rattle.std.specs.{Cmp.Lexicographic.nat_list_cmp_total, Cmp.nat_cmp_is, Cmp.nat_cmp_total, declared.cmp.Ordering.TheVariants.Less}
use Rattle.std.specs.FinMap as map
use Rattle.std.proofs.lemmas.{Bool.eqb-false, Bool.false_from_ne_true, Cmp.tied_itself}
use Rattle.std.proofs.Common.{◌≡◌, ◌⊎◌, inl, inr, ℕ, ◌<◌, Bool, true, false, cond, List, Option, Some, refl, ap, sym, ◌∙◌, subst, arith}
use Rattle.beldi_value.specs.declared.{id.IntentId.IntentId}
use Rattle.beldi_row.specs.{declared.key.Kind.Kind, declared.row.Row.Row, Key.RowKey, Key.at_row, Key.key_cmp, Key.kind_at, Key.rank_of, Key.row_of, Table.Rows, Table.set_row}
use Rattle.beldi_row.proofs.{Gets.got, Gets.key_same, Gets.key_self}
use Rattle.beldi_chain.specs.Chain.{ChangedAlone, IsHead, chain}
use Rattle.beldi_chain.proofs.Heads.{chain_other, item_head}
use Rattle.beldi_links.specs.Links.{SetTo}
use Rattle.beldi_prune.specs.{PruneLaws.is_left}
use Rattle.beldi_sweep.specs.{SweptRows.AreSound, SweptRows.IsSound, SweptRows.IsTrim}

-- ---- keys
pub apart_by : (l k : RowKey) → (l ≡ k → ⊥) → is_eq (key_cmp l k) ≡ false
apart_by l k apart = false_from_ne_true (is_eq (key_cmp l k)) (λ same. apart (key_same l k same))

-- the row of an item with a number
abbrev pub cell_key : ℕ → ℕ → List ℕ → ℕ → RowKey
cell_key home t q n = record { home = home; kind = Kind.Data t q n }

cells_cmp : (home t : ℕ) (q : List ℕ) (a b : ℕ) → key_cmp (cell_key home t q a) (cell_key home t q b) ≡ nat_cmp a b
cells_cmp home t q a b =
    let one = tied_itself nat_cmp_total home in
    let two = tied_itself nat_cmp_total t in
    let three = tied_itself nat_list_cmp_total q in
    λ i. ordering_then (one i) (ordering_then (two i) (ordering_then (three i) (nat_cmp a b)))

pub cell_below : (home t : ℕ) (q : List ℕ) (a b : ℕ) → a < b → key_cmp (cell_key home t q a) (cell_key home t q b) ≡ Less
cell_below home t q a b less = cells_cmp home t q a b ∙ sym (nat_cmp_is a b Less less)

number_of : (home t : ℕ) (q : List ℕ) (a b : ℕ) → cell_key home t q a ≡ cell_key home t q b → a ≡ b
number_of home t q a b same = ap (λ (z : RowKey). row_of z.kind) same

pub left_rank : (kind : Kind) → is_left kind ≡ true → rank_of kind ≡ 3 → ⊥
left_rank (Kind.Intent i) left rank = cc
left_rank (Kind.ReadLog a) left rank = cc
left_rank (Kind.Invoke a) left rank = cc
left_rank (Kind.Data t q n) left rank = cc
left_rank (Kind.Shadow s t q n) left rank = cc
left_rank (Kind.Lockset i b t q) left rank = cc

pub intent_rank : (kind : Kind) (i : IntentId) → kind ≡ Kind.Intent i → rank_of kind ≡ 3 → ⊥
intent_rank kind i is rank = let clash : 0 ≡ 3 = sym (ap rank_of is) ∙ rank in omega (arith, clash)

-- ---- rows of one item, of which one with a number, or the first, is set
module _ (home t : ℕ) (q : List ℕ) where
  abbrev pub row : ℕ → RowKey
  row n = cell_key home t q n

  pub set_in_chain : (m : Rows) (n : ℕ) (v : Option Row) → SetTo (chain m (row 0)) n v (chain (set_row m (row n) v) (row 0))
  set_in_chain m n v = record {
    here = got m (row n) (row n) v ∙ ap (λ b. cond b v (map.get m (row n))) (key_self (row n));
    others = λ x off. got m (row n) (row x) v ∙ ap (λ b. cond b v (map.get m (row x))) (apart_by (row x) (row n) (λ same. eqb-false x n off (number_of home t q x n same)));
  }

  -- .. and all others stay
  abbrev pub Kept : ℕ → Rows → Rows → Type 0
  Kept n m p = (l : RowKey) → is_eq (key_cmp l (row n)) ≡ false → is_eq (key_cmp l (row 0)) ≡ false → map.get p l ≡ map.get m l

  pub none_changed : (n : ℕ) (m : Rows) → Kept n m m
  none_changed n m l off far = refl

  pub both_kept : (n : ℕ) (m o p : Rows) → Kept n m o → Kept n o p → Kept n m p
  both_kept n m o p first second l off far = second l off far ∙ first l off far

  pub set_kept : (n : ℕ) (m : Rows) (v : Option Row) → Kept n m (set_row m (row n) v)
  set_kept n m v l off far = got m (row n) l v ∙ ap (λ b. cond b v (map.get m l)) off

  pub first_kept : (n : ℕ) (m : Rows) (v : Option Row) → Kept n m (set_row m (row 0) v)
  first_kept n m v l off far = got m (row 0) l v ∙ ap (λ b. cond b v (map.get m l)) far

  -- ---- what is so of such rows
  module _ (n : ℕ) (m p : Rows) (kept : Kept n m p) where
    -- rows of no item stay
    apart_kept : (l : RowKey) → (rank_of l.kind ≡ 3 → ⊥) → map.get p l ≡ map.get m l
    apart_kept l apart = kept l (apart_by l (row n) (λ same. apart (ap (λ (z : RowKey). rank_of z.kind) same))) (apart_by l (row 0) (λ same. apart (ap (λ (z : RowKey). rank_of z.kind) same)))

    -- rows of other items stay
    changed_alone : ChangedAlone (row 0) m p
    changed_alone l off = kept l (apart_by l (row n) (other n)) (apart_by l (row 0) (other 0))
      where
        other : (a : ℕ) → l ≡ row a → ⊥
        other a same = let clash = sym (key_self (row 0)) ∙ ap (λ z. is_eq (key_cmp (at_row z 0) (row 0))) (sym same) ∙ off in cc

    first_row : (k : RowKey) (u x : ℕ) (z : List ℕ) → k.kind ≡ Kind.Data u z x → IsHead (at_row k 0)
    first_row k u x z kind = subst (λ (w : Kind). IsHead (record { home = k.home; kind = kind_at w 0 })) (sym kind) (item_head k.home u z)

    items_kept : AreSound m → IsSound (chain p (row 0)) → (k : RowKey) (u x : ℕ) (z : List ℕ) → k.kind ≡ Kind.Data u z x → IsSound (chain p (at_row k 0))
    items_kept sound here k u x z kind = by_head (is_eq (key_cmp (at_row k 0) (row 0))) refl
      where
        by_head : (b : Bool) → is_eq (key_cmp (at_row k 0) (row 0)) ≡ b → IsSound (chain p (at_row k 0))
        by_head true e = subst (λ z. IsSound (chain p z)) (sym (key_same (at_row k 0) (row 0) e)) here
        by_head false e = subst IsSound (sym (chain_other m p (row 0) (at_row k 0) changed_alone (first_row k u x z kind) e)) (sound.items k u x z kind)

    pub sound_kept : AreSound m → IsSound (chain p (row 0)) → AreSound p
    sound_kept sound here = record {
      left = λ k r left there. sound.left k r left (sym (apart_kept k (left_rank k.kind left)) ∙ there);
      intents = λ k i r kind there. sound.intents k i r kind (sym (apart_kept k (intent_rank k.kind i kind)) ∙ there);
      items = items_kept sound here;
    }

    -- a row that changed is trimmed, where that of the number is
    pub trim_or : (newest : ℕ) → ((r : Row) → map.get p (row n) ≡ Some r → IsTrim newest (Kind.Data t q n) r) → (l : RowKey) (r : Row) → map.get p l ≡ Some r → (map.get m l ≡ Some r) ⊎ IsTrim newest l.kind r
    trim_or newest here l r there = by_key (is_eq (key_cmp l (row n))) (is_eq (key_cmp l (row 0))) refl refl
      where
        by_key : (a b : Bool) → is_eq (key_cmp l (row n)) ≡ a → is_eq (key_cmp l (row 0)) ≡ b → (map.get m l ≡ Some r) ⊎ IsTrim newest l.kind r
        by_key true b same e = let at = key_same l (row n) same in inr (subst (λ (z : RowKey). IsTrim newest z.kind r) (sym at) (here r (sym (ap (map.get p) at) ∙ there)))
        by_key false true off e = inr (subst (λ (z : RowKey). IsTrim newest z.kind r) (sym (key_same l (row 0) e)) (inl refl))
        by_key false false off far = inl (sym (kept l off far) ∙ there)
