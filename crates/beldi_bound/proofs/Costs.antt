-- What an intent costs, and what is left of it after some of its answers.
use Rattle.std.specs.FinMap as map
use Rattle.std.proofs.Common.{◌≡◌, ℕ, ◌+◌, ◌<◌, ◌≤◌, ◌==◌, eq-eqb, eqb-true, ◌*◌, List, [], ◌∷◌, ◌++◌, length, length-append, append_assoc, Option, Some, None, true, false, refl, sym, ap, subst, ◌∙◌, arith}
use Rattle.beldi_value.specs.declared.{id.IntentId.IntentId, place.TxId.TxId}
use Rattle.beldi_tree.specs.declared.deployment.Deployment.{Deployment}
use Rattle.beldi_lang.specs.declared.effect.{Answer.Answer, Effect.Effect}
use Rattle.beldi_plain.specs.Plain.{Instance, effect_of}
use Rattle.beldi_plain_laws.specs.Txs.{tx_now}
use Rattle.beldi_row.specs.{Key.RowKey, Table.Rows, declared.key.Kind.Kind, declared.row.Body.Body, declared.row.Row.Row}
use Rattle.beldi_histories.proofs.Cases.{by_cases}
use Rattle.beldi_step.specs.declared.run.{Begun.Begun, Run.Run}
use Rattle.beldi_upkeep.specs.Checked.{body_at}
use Rattle.beldi_bound.specs.{Cost.body_cost, Cost.cost_from, Cost.effect_cost, Cost.kind_cost, Cost.with_answers, SettleWork.seat}
use Rattle.beldi_bound.proofs.{Facts.Stands, Facts.rest_cost, Frames.Cost, Frames.Due, Frames.Spare, Frames.Stuck, Frames.last_few}
use Rattle.beldi_bound.proofs.Ledger.{callee_key, if_free, spare_of, stuck_by, stuck_in}

-- ---- fronts of one list
fronts : (xs ys us vs : List Answer) → xs ++ us ≡ ys ++ vs → length xs ≡ length ys → (xs ≡ ys) × (us ≡ vs)
fronts [] [] us vs h l = (refl, h)
fronts [] (y ∷ ys) us vs h l = absurd (omega (arith, l))
fronts (x ∷ xs) [] us vs h l = absurd (omega (arith, l))
fronts (x ∷ xs) (y ∷ ys) us vs h l =
    let rest : xs ++ us ≡ ys ++ vs = cc in let len : length xs ≡ length ys = omega (arith, l) in
    let k = fronts xs ys us vs rest len in let same : xs ≡ ys = k.0 in let head : x ≡ y = cc in (cc, k.1)

module _ (d : Deployment) (e : Rows) (id : IntentId) (b : Body) where
  rest_few : (given rest : List Answer) → rest_cost d e id b given rest ≤ cost_from d e id b given rest
  rest_few given [] = omega arith
  rest_few given (a ∷ rest) = omega arith

  -- past more answers less is left
  pub rest_more : (xs us ys vs : List Answer) → xs ++ us ≡ ys ++ vs → length xs < length ys → cost_from d e id b ys vs ≤ rest_cost d e id b xs us
  rest_more xs [] ys vs h l = let a = ap length h in let p = length-append xs [] in let q = length-append ys vs in absurd (omega (arith, a, p, q, l))
  rest_more xs (a ∷ us) ys vs h l =
      let next : (xs ++ a ∷ []) ++ us ≡ ys ++ vs = append_assoc xs (a ∷ []) us ∙ h in
      by_cases (length (xs ++ a ∷ []) == length ys)
      (λ t. let k = fronts (xs ++ a ∷ []) ys us vs next (eqb-true (length (xs ++ a ∷ [])) (length ys) t) in subst (λ z. cost_from d e id b z vs ≤ cost_from d e id b (xs ++ a ∷ []) us) k.0 (subst (λ z. cost_from d e id b (xs ++ a ∷ []) z ≤ cost_from d e id b (xs ++ a ∷ []) us) k.1 (omega arith)))
      (λ f. let apart = not_so (length (xs ++ a ∷ [])) (length ys) f in let p = length-append xs (a ∷ []) in let more : length (xs ++ a ∷ []) < length ys = less (length xs) (length (xs ++ a ∷ [])) (length ys) p l apart in
      let go = rest_more (xs ++ a ∷ []) us ys vs next more in let few = rest_few (xs ++ a ∷ []) us in omega (arith, go, few))
    where
      not_so : (p q : ℕ) → (p == q) ≡ false → p ≡ q → ⊥
      not_so p q f is = let clash : true ≡ false = sym (eq-eqb p q is) ∙ f in cc

      less : (p q r : ℕ) → q ≡ p + length (a ∷ []) → p < r → (q ≡ r → ⊥) → q < r
      less p q r h l apart = grind arith

  pub front_few : (ys vs whole : List Answer) → ys ++ vs ≡ whole → cost_from d e id b ys vs ≤ cost_from d e id b [] whole
  front_few [] vs whole h = subst (λ z. cost_from d e id b [] vs ≤ cost_from d e id b [] z) h (omega arith)
  front_few (y ∷ ys) vs whole h = let k = rest_more [] whole (y ∷ ys) vs (sym h) (omega arith) in let few = rest_few [] whole in omega (arith, k, few)

-- ---- an intent's cost
module _ (d : Deployment) (room : ℕ) (e : Rows) (asked : IntentId → List Answer) (first most : ℕ) where
  -- of one that gets stuck at a call it is more than the turn that is spared
  call_costs : (id : IntentId) (q : Instance) (t : Option TxId) (n step : ℕ) (f : Effect) (j : RowKey) → if_free d room e asked first most (callee_key d room e asked first most id n f) ≡ Some j → 2 ≤ effect_cost e q t step f
  call_costs id q None n step (Effect.Call g v) j h = omega arith
  call_costs id q (Some t) n step (Effect.Call g v) j h = omega arith
  call_costs id q t n step f j h = cc

  by_body : (id : IntentId) (o : Option Body) (j : RowKey) → stuck_by d room e asked first most id o ≡ Some j → 3 ≤ body_cost d e asked id o
  by_body id None j h = cc
  by_body id (Some b) j h =
      let q = with_answers b (asked id) in
      let k = call_costs id q (tx_now d id q) (length (asked id)) (length (asked id)) (effect_of d q) j h in let l = last_few d e id b [] (asked id) in omega (arith, k, l)

  by_kind : (k : Kind) (r : Option Row) (j : RowKey) → stuck_in d room e asked first most k r ≡ Some j → 3 ≤ kind_cost d e asked k r
  by_kind (Kind.Intent id) r j h = by_body id (body_at r) j h
  by_kind k r j h = cc

  pub stuck_costs : (k j : RowKey) → Stuck d room e asked first most k ≡ Some j → 3 ≤ Cost d room e asked first most k
  stuck_costs k j h = by_kind k.kind (map.get e k) j h

  pub record Splits (k : RowKey) : Type 0 where
    pub whole : Due d room e asked first most k + Spare d room e asked first most k ≡ Cost d room e asked first most k
    pub one : Spare d room e asked first most k ≤ 1
    pub some : 1 ≤ Cost d room e asked first most k → 1 ≤ Due d room e asked first most k

  pub splits : (k : RowKey) → Splits k
  splits k = by_stuck (Stuck d room e asked first most k) refl
    where
      of : (s n : ℕ) → Spare d room e asked first most k ≡ s → Cost d room e asked first most k ≡ n → s ≤ 1 → 3 * s ≤ n → Splits k
      of s n is cost few three = record { whole = omega arith; one = omega arith; some = λ h. omega arith }

      by_stuck : (o : Option RowKey) → Stuck d room e asked first most k ≡ o → Splits k
      by_stuck None is = of 0 (Cost d room e asked first most k) (ap (spare_of d room e asked first most) is) refl (omega arith) (omega arith)
      by_stuck (Some j) is = let three = stuck_costs k j is in of 1 (Cost d room e asked first most k) (ap (spare_of d room e asked first most) is) refl (omega arith) (omega (arith, three))

  -- that of a run's intent, by where the run stands
  pub its_cost : {r : Run} {g : Begun} (s : Stands d e asked r g) → Cost d room e asked first most (seat r) ≡ 1 + cost_from d e r.id s.body [] (asked r.id)
  its_cost {r = r} s = ap (λ o. body_cost d e asked r.id o) (ap body_at s.there ∙ s.has)

  pub body_costs : (id : IntentId) (k : RowKey) (b : Body) → k.kind ≡ Kind.Intent id → body_at (map.get e k) ≡ Some b → 1 ≤ Cost d room e asked first most k
  body_costs id k b kind has = subst (λ z. 1 ≤ kind_cost d e asked z (map.get e k)) (sym kind) (subst (λ o. 1 ≤ body_cost d e asked id o) (sym has) (omega arith))
