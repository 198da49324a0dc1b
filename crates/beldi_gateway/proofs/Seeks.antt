-- A walk over rows of routes, token by token.
use Rattle.std.proofs.Common.{Bool, List, None, Option, Some, [], ap, ap₂, arith, cond, drop, eqb-true, false, length, ltb, length-append, nat_eq, not, refl, sym, suc, true, zero, ℕ, ◌&&◌, ◌++◌, ◌-◌, ◌<◌, ◌==◌, ◌∙◌, ◌∷◌, ◌≡◌}
use Rattle.std.{proofs.Math.Seq.drop-append_seam, proofs.lemmas.Bool.Decides.nat_tests, proofs.lemmas.List.drop_all, specs.List.ends_with, specs.List.list_all}
use Rattle.matchit.specs.Rows.{RowsOf, catch_all_token, param_token}
use Rattle.matchit.specs.Seek.{first, has_slash, longest_suffix, or_else, param_step, seek, segment, step, with_suffix}
use Rattle.beldi_gateway.specs.GatewayLaws.{AreBytes, is_part}

pub no_slash : (p : List ℕ) → list_all (λ c. not (c == 47)) p ≡ not (has_slash p)
no_slash [] = refl
no_slash (b ∷ p) = by (b == 47) (no_slash p)
  where
    by : (v : Bool) → list_all (λ c. not (c == 47)) p ≡ not (has_slash p) → (not v && list_all (λ c. not (c == 47)) p) ≡ not (cond v true (has_slash p))
    by true e = refl
    by false e = e

-- the first byte is no slash, and none of the rest is
pub none_first : (b : ℕ) (p : List ℕ) → has_slash (b ∷ p) ≡ false → ((b == 47) ≡ false) × (has_slash p ≡ false)
none_first b p e = by (b == 47) e
  where
    by : (v : Bool) → cond v true (has_slash p) ≡ false → (v ≡ false) × (has_slash p ≡ false)
    by true f = cc
    by false f = (refl, f)

none_later : (n : ℕ) (p : List ℕ) → has_slash p ≡ false → has_slash (drop n p) ≡ false
none_later zero p e = e
none_later (suc n) [] e = e
none_later (suc n) (b ∷ p) e = none_later n p (none_first b p e).1

-- the segment of a path ends with the first slash
ends_at : (f t : List ℕ) → has_slash f ≡ false → segment (f ++ 47 ∷ t) ≡ f ++ 47 ∷ []
ends_at [] t e = refl
ends_at (b ∷ f) t e =
    let h = none_first b f e in
    ap (λ v. cond v (b ∷ []) (b ∷ segment (f ++ 47 ∷ t))) h.0 ∙ ap (λ s. b ∷ s) (ends_at f t h.1)

module _ {K : Type 0} where
  no_param : (p : List ℕ) → (param_step {K = K} [] p).1 ≡ []
  unfolding param_step
  no_param p =
      elim (has_slash p) as (λ v. (cond {A = ℕ × RowsOf K} v (0, []) (length p, [])).1 ≡ []) [
        | true ↦ refl
        | false ↦ refl
      ]

  pub nothing : (k : ℕ) (p : List ℕ) → seek {K = K} k [] p ≡ None
  unfolding seek
  nothing k [] = refl
  nothing (suc k) (b ∷ p) = nothing k p
  nothing zero (b ∷ p) = simp (nothing 0 p, no_param (b ∷ p), nothing (((param_step {K = K} [] (b ∷ p)).0) - 1) p)

  skipped : (k : ℕ) (r : RowsOf K) (p : List ℕ) → seek k r p ≡ first r (drop k p)
  unfolding seek
  skipped zero r p = refl
  skipped (suc k) r [] = refl
  skipped (suc k) r (b ∷ p) = skipped k r p

  or_none : (a : Option K) → or_else a None ≡ a
  or_none None = refl
  or_none (Some k) = refl

  -- where no row begins with a parameter, the first byte decides
  pub by_byte : (rs : RowsOf K) (b : ℕ) (p : List ℕ) → step param_token rs ≡ [] → step catch_all_token rs ≡ [] → first rs (b ∷ p) ≡ first (step b rs) p
  unfolding seek
  by_byte rs b p e f = simp (e, f, no_param (b ∷ p), nothing ((param_step {K = K} [] (b ∷ p)).0 - 1) p, or_none)

  -- a parameter at the end takes what is left, where it is a part
  pub last_part : (k : K) (p : List ℕ) → AreBytes p → first ((param_token ∷ [], k) ∷ []) p ≡ cond (is_part p) (Some k) None
  unfolding seek param_step
  last_part k [] a = refl
  last_part k (b ∷ p) a =
      let e : (param_token == b) ≡ false = grind (arith, nat_tests, a.0) in
      rw (e, nothing 0 p, or_none) (by (has_slash (b ∷ p)) ∙ ap (λ t. cond t (Some k) None) (sym (no_slash (b ∷ p))))
    where
      by : (v : Bool)
          → seek ((cond {A = ℕ × RowsOf K} v (0, []) (suc (length p), ([], k) ∷ [])).0 - 1) (cond {A = ℕ × RowsOf K} v (0, []) (suc (length p), ([], k) ∷ [])).1 p
          ≡ cond (not v) (Some k) None
      by true = nothing 0 p
      by false =
          let n : suc (length p) - 1 ≡ length p = omega arith in
          rw n (skipped (length p) (([], k) ∷ []) p ∙ ap (first (([], k) ∷ [])) (drop_all (length p) p (omega arith)))

  -- the rows after a first part, of two
  abbrev behind : K → RowsOf K
  behind k = (47 ∷ param_token ∷ [], k) ∷ []

  longest : (k : K) (b : ℕ) (f : List ℕ) → longest_suffix ((b ∷ f) ++ 47 ∷ []) (behind k) ≡ 47 ∷ []
  longest k b f =
      let size : length ((b ∷ f) ++ 47 ∷ []) ≡ suc (length (b ∷ f)) = length-append (b ∷ f) (47 ∷ []) ∙ omega arith in
      let long : ltb 1 (length ((b ∷ f) ++ 47 ∷ [])) ≡ true = grind (arith, nat_tests, size) in
      let less : length ((b ∷ f) ++ 47 ∷ []) - 1 ≡ length (b ∷ f) = omega (arith, size) in
      let last : drop (length ((b ∷ f) ++ 47 ∷ []) - 1) ((b ∷ f) ++ 47 ∷ []) ≡ 47 ∷ [] = ap (λ n. drop n ((b ∷ f) ++ 47 ∷ [])) less ∙ drop-append_seam (b ∷ f) (47 ∷ []) in
      rw (long, last) refl

  unslashed : (k : K) (p : List ℕ) → has_slash p ≡ false → first (behind k) p ≡ None
  unfolding seek
  unslashed k [] e = refl
  unslashed k (b ∷ p) e =
      let h = (none_first b p e).0 in
      let v : (47 == b) ≡ false = grind (arith, nat_tests) in
      by_byte (behind k) b p refl refl ∙ ap (λ v. first (cond v ((param_token ∷ [], k) ∷ []) []) p) v ∙ nothing 0 p

  stepped : (k : K) (b : ℕ) (f t : List ℕ) → has_slash (b ∷ f) ≡ false → param_step (behind k) (b ∷ (f ++ 47 ∷ t)) ≡ (length ((b ∷ f) ++ 47 ∷ []) - 1, behind k)
  unfolding param_step
  stepped k b f t e = rw (ends_at (b ∷ f) t e, longest k b f) refl

  kept : (k : K) (p : List ℕ) → has_slash p ≡ false → (param_step (behind k) p).1 ≡ behind k
  unfolding param_step
  kept k p e = by (ltb 1 (length (segment p)) && ends_with nat_eq (segment p) (47 ∷ []))
    where
      by : (v : Bool)
          → (cond {A = ℕ × RowsOf K} (ltb 0 (length {A = ℕ} (cond v (47 ∷ []) []))) (length (segment p) - length {A = ℕ} (cond v (47 ∷ []) []), with_suffix (cond v (47 ∷ []) []) (behind k)) (cond (has_slash p) (0, []) (length p, behind k))).1
          ≡ behind k
      by true = refl
      by false = ap (λ t. (cond {A = ℕ × RowsOf K} t (0, []) (length p, behind k)).1) e

  -- a path of two parts: the first one takes what stands before the slash ..
  pub first_part : (k : K) (b : ℕ) (f t : List ℕ) → b < 256 → has_slash (b ∷ f) ≡ false → first ((param_token ∷ 47 ∷ param_token ∷ [], k) ∷ []) (b ∷ (f ++ 47 ∷ t)) ≡ first ((param_token ∷ [], k) ∷ []) t
  unfolding seek
  first_part k b f t small e =
      let differs : (param_token == b) ≡ false = grind (arith, nat_tests, small) in
      rw (differs, nothing 0 (f ++ 47 ∷ t), or_none, stepped k b f t e)
      (skipped (length ((b ∷ f) ++ 47 ∷ []) - 1 - 1) (behind k) (f ++ 47 ∷ t)
      ∙ ap (first (behind k)) (ap (λ n. drop n (f ++ 47 ∷ t)) (grind (arith, length-append f (47 ∷ []))) ∙ drop-append_seam f (47 ∷ t))
      ∙ by_byte (behind k) 47 t refl refl)

  -- .. which is not empty ..
  pub not_empty : (k : K) (t : List ℕ) → first ((param_token ∷ 47 ∷ param_token ∷ [], k) ∷ []) (47 ∷ t) ≡ None
  unfolding seek param_step
  not_empty k t = simp (nothing 0 t)

  -- .. and there is one
  pub not_one : (k : K) (p : List ℕ) → AreBytes p → has_slash p ≡ false → first ((param_token ∷ 47 ∷ param_token ∷ [], k) ∷ []) p ≡ None
  unfolding seek
  not_one k [] a e = refl
  not_one k (b ∷ p) a e =
      let differs : (param_token == b) ≡ false = grind (arith, nat_tests, a.0) in
      let n = (param_step (behind k) (b ∷ p)).0 - 1 in
      rw (differs, nothing 0 p, or_none)
      (ap (λ r. seek n r p) (kept k (b ∷ p) e) ∙ skipped n (behind k) p ∙ unslashed k (drop n p) (none_later n p (none_first b p e).1))

  -- one row that begins with a byte
  one_byte : (x : ℕ) (s : List ℕ) (k : K) (b : ℕ) (p : List ℕ) → x < 256 → first ((x ∷ s, k) ∷ []) (b ∷ p) ≡ cond (x == b) (first ((s, k) ∷ []) p) None
  one_byte x s k b p small =
      let m : (x == param_token) ≡ false = grind (arith, nat_tests, small) in
      let n : (x == catch_all_token) ≡ false = grind (arith, nat_tests, small) in
      by_byte ((x ∷ s, k) ∷ []) b p (ap (λ v. cond v ((s, k) ∷ []) []) m) (ap (λ v. cond v ((s, k) ∷ []) []) n) ∙ by (x == b)
    where
      by : (v : Bool) → first (cond v ((s, k) ∷ []) []) p ≡ cond v (first ((s, k) ∷ []) p) None
      by true = refl
      by false = nothing 0 p

  -- .. or with several: just a path that begins with them goes on behind them
  pub behind_bytes : (w s : List ℕ) (k : K) (y : List ℕ) → AreBytes w → first ((w ++ s, k) ∷ []) (w ++ y) ≡ first ((s, k) ∷ []) y
  behind_bytes [] s k y a = refl
  behind_bytes (x ∷ w) s k y a =
      let same : (x == x) ≡ true = grind (arith, nat_tests) in
      one_byte x (w ++ s) k x (w ++ y) a.0 ∙ ap (λ v. cond v (first ((w ++ s, k) ∷ []) (w ++ y)) None) same ∙ behind_bytes w s k y a.1

  pub begins_so : (w s : List ℕ) (k : K) (p : List ℕ) (q : K) → AreBytes w → first ((w ++ s, k) ∷ []) p ≡ Some q → (y : List ℕ) × (p ≡ w ++ y) × (first ((s, k) ∷ []) y ≡ Some q)
  unfolding seek
  begins_so [] s k p q a e = (p, refl, e)
  begins_so (x ∷ w) s k [] q a e = cc
  begins_so (x ∷ w) s k (b ∷ p) q a e = by (begins_so w s k p q a.1) (x == b) refl (sym (one_byte x (w ++ s) k b p a.0) ∙ e)
    where
      by : (first ((w ++ s, k) ∷ []) p ≡ Some q → (y : List ℕ) × (p ≡ w ++ y) × (first ((s, k) ∷ []) y ≡ Some q))
          → (v : Bool) → (x == b) ≡ v → cond v (first ((w ++ s, k) ∷ []) p) None ≡ Some q → (y : List ℕ) × (b ∷ p ≡ x ∷ (w ++ y)) × (first ((s, k) ∷ []) y ≡ Some q)
      by go true is f =
          let h = go f in
          (h.0, ap₂ (λ c r. c ∷ r) (sym (eqb-true x b is)) h.1, h.2)
      by go false is f = cc
