-- Ways of a sweep: turns, one after another, and on the way to its end.
use Rattle.std.proofs.Common.{◌≡◌, ℕ, zero, suc, ◌+◌, true, false, refl, ap, sym, ◌∙◌, subst, arith}
use Rattle.beldi_row.specs.Table.{Rows}
use Rattle.beldi_prune.specs.declared.collector.LogCollector.{LogCollector}
use Rattle.beldi_sweep.specs.Sweep.{EndsAt, GoesTo, Sweep, after_turn, is_last_turn}

abbrev pub sweep : LogCollector → Rows → Sweep
sweep w m = record { collector = w; rows = m }

-- one turn leads there, and does not end the round
pub record Turns (newest life now : ℕ) (s t : Sweep) : Type 0 where
  pub goes_on : is_last_turn life now s ≡ false
  pub leads : after_turn newest life now s ≡ t

-- some turns do
pub record Comes (newest life now : ℕ) (s t : Sweep) : Type 0 where
  pub turns : ℕ
  pub goes : GoesTo newest life now turns s t

module _ (newest life now : ℕ) where
  pub stays : (s : Sweep) → Comes newest life now s s
  stays s = record { turns = 0; goes = refl }

  pub turn_first : (n : ℕ) (s u t : Sweep) → Turns newest life now s u → GoesTo newest life now n u t → GoesTo newest life now (suc n) s t
  turn_first n s u t turn path = (turn.goes_on, subst (λ z. GoesTo newest life now n z t) (sym turn.leads) path)

  pub turn_then : (s u t : Sweep) → Turns newest life now s u → Comes newest life now u t → Comes newest life now s t
  turn_then s u t turn path = record { turns = suc path.turns; goes = turn_first path.turns s u t turn path.goes }

  pub joined : (a b : ℕ) (s u t : Sweep) → GoesTo newest life now a s u → GoesTo newest life now b u t → GoesTo newest life now (a + b) s t
  joined zero b s u t first more = let same : b ≡ 0 + b = omega arith in subst (λ n. GoesTo newest life now n s t) same (subst (λ x. GoesTo newest life now b x t) first more)
  joined (suc a) b s u t first more = let same : suc (a + b) ≡ suc a + b = omega arith in
      subst (λ n. GoesTo newest life now n s t) same (first.0, joined a b (after_turn newest life now s) u t first.1 more)

  -- ---- on the way to the end
  clash : (s u : Sweep) → u ≡ s → is_last_turn life now s ≡ false → is_last_turn life now u ≡ true → ⊥
  clash s u same on last = let both : false ≡ true = sym on ∙ ap (is_last_turn life now) (sym same) ∙ last in cc

  pub record Left (n turns : ℕ) (u t : Sweep) : Type 0 where
    pub rest : ℕ
    pub all : rest + n ≡ turns
    pub ends : EndsAt newest life now rest u t

  -- so many turns that lead on are the first of those that lead to the end
  pub left : (n turns : ℕ) (s u t : Sweep) → GoesTo newest life now n s u → EndsAt newest life now turns s t → Left n turns u t
  left zero turns s u t path e = record { rest = turns; all = omega arith; ends = subst (λ x. EndsAt newest life now turns x t) (sym path) e }
  left (suc n) zero s u t path e = absurd (clash s e.before e.path path.0 e.last)
  left (suc n) (suc turns) s u t path e =
      let rest : EndsAt newest life now turns (after_turn newest life now s) t = record { before = e.before; path = e.path.1; last = e.last; done = e.done } in
      let l = left n turns (after_turn newest life now s) u t path.1 rest in
      let all = l.all in
      record { rest = l.rest; all = omega (arith, all); ends = l.ends }

  -- where the next turn ends the round, that is the end
  pub ended : (turns : ℕ) (s t : Sweep) → is_last_turn life now s ≡ true → EndsAt newest life now turns s t → t ≡ after_turn newest life now s
  ended zero s t last e = e.done ∙ ap (after_turn newest life now) e.path
  ended (suc turns) s t last e = absurd (clash s s refl e.path.0 last)
