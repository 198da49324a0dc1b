-- Cells that say of each two whether one leads to the other.
use Rattle.beldi_check.specs.CallGraph.{through}
use Rattle.beldi_check.proofs.Names.{Bool, IsGrid, List, add-one, cell, length, over, refl, row_at, subst, suc, sym, zero, ℕ, ◌&&◌, ◌+◌, ◌<◌, ◌||◌, ◌∙◌, ◌≡◌}

pub cell_is : (m n : ℕ) (e : ℕ → ℕ → Bool) (rows : List (List Bool)) → IsGrid m n e rows → (i j : ℕ) → i < m → j < n → cell rows i j ≡ e i j
cell_is m n e rows g i j h k = (g.each i h).each j k

immediately : (e : ℕ → ℕ → Bool) (n i j : ℕ) → through e (suc n) i j ≡ over (through e n) n i j
unfolding through
immediately e n i j = refl

through_more : (e : ℕ → ℕ → Bool) (n i j : ℕ) → through e (n + 1) i j ≡ over (through e n) n i j
through_more e n i j = rw (add-one) (immediately e n i j)

pub widens : (m n : ℕ) (e : ℕ → ℕ → Bool) (h : ℕ) (old new : List (List Bool)) → h < m → h < n → IsGrid m n (through e h) old → IsGrid (length old) (length (row_at old h)) (over (cell old) h) new → IsGrid m n (through e (h + 1)) new
widens m n e h old new row column g v =
    let w : IsGrid m n (over (cell old) h) new = subst (λ k. IsGrid k n (over (cell old) h) new) g.all (subst (λ k. IsGrid (length old) k (over (cell old) h) new) (g.each h row).all v) in
    record {
      all = w.all;
      each = λ i x. record {
        all = (w.each i x).all;
        each = λ j y.
            let a = cell_is m n (through e h) old g i j x y in
            let b = cell_is m n (through e h) old g i h x column in
            let c = cell_is m n (through e h) old g h j row y in
            (w.each i x).each j y ∙ (λ z. a z || (b z && c z)) ∙ sym (through_more e h i j);
      };
    }

pub begins : (m n : ℕ) (e : ℕ → ℕ → Bool) (rows : List (List Bool)) → IsGrid m n e rows → IsGrid m n (through e zero) rows
unfolding through
begins m n e rows g = g
