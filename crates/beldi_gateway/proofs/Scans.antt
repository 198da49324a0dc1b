-- A head that is read in parts.
use Rattle.beldi_gateway.proofs.Names.{Bool, List, Scan, [], ap, drop, drop-append_seam, false, if◌then◌else◌, length, passed, refl, scan_on, start, sym, true, ℕ, ◌++◌, ◌∙◌, ◌∷◌, ◌≡◌}

-- a head that is over stays so
pub over_stays : (s : Scan) (ys : List ℕ) → s.over ≡ true → scan_on s ys ≡ s
over_stays s [] h = refl
over_stays s (y ∷ ys) h = rw h

pick : (s : Scan) (b : ℕ) (xs ys : List ℕ) → scan_on (scan_on (passed s b) xs) ys ≡ scan_on (passed s b) (xs ++ ys)
    → (o : Bool) → s.over ≡ o → scan_on (if o then s else scan_on (passed s b) xs) ys ≡ (if o then s else scan_on (passed s b) (xs ++ ys))
pick s b xs ys later true h = over_stays s ys h
pick s b xs ys later false h = later

pub scan_append : (s : Scan) (xs ys : List ℕ) → scan_on (scan_on s xs) ys ≡ scan_on s (xs ++ ys)
scan_append s [] ys = refl
scan_append s (b ∷ xs) ys = pick s b xs ys (scan_append (passed s b) xs ys) s.over refl

-- what was read, and then the bytes that were put behind
pub scan_grows : (s r : Scan) (x y t : List ℕ) → s ≡ scan_on start x → y ≡ x ++ t → r ≡ scan_on s (drop (length x) y) → r ≡ scan_on start y
scan_grows s r x y t p q e =
    e ∙ ap (scan_on s) (ap (drop (length x)) q ∙ drop-append_seam x t) ∙ ap (λ z. scan_on z t) p ∙ scan_append start x t ∙ ap (scan_on start) (sym q)
