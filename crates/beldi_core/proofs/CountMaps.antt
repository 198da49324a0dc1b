-- One more, and one less, of what is counted.
use Rattle.beldi_core.proofs.Names.{Bool, CountMap, IntentId, LoweredAt, LoweredTo, None, Option, RaisedAt, Some, ap, cond, false, get-insert, get-remove, id_cmp, id_exact, id_total, if◌then◌else◌, is_eq, less, refl, same_map, subst, sym, true, ℕ, ◌+◌, ◌-◌, ◌∙◌, ◌≡◌}
use Rattle.beldi_core.proofs.Names.map

module _ (m n : CountMap) (id : IntentId) where
  pub raised : (o : Option ℕ) (k : ℕ) → o ≡ Some k → n ≡ map.insert m id (k + 1) → RaisedAt m n id o true
  raised o k is set = subst (λ x. RaisedAt m n id x true) (sym is) (set, refl)

  pub not_raised : (o : Option ℕ) → o ≡ None → n ≡ m → RaisedAt m n id o false
  not_raised o is same = subst (λ x. RaisedAt m n id x false) (sym is) (same, refl)

  pub lowered : (o : Option ℕ) (k : ℕ) (b : Bool) → o ≡ Some k → LoweredTo m n id k b → LoweredAt m n id o b
  lowered o k b is h = subst (λ x. LoweredAt m n id x b) (sym is) h

  pub not_lowered : (o : Option ℕ) → o ≡ None → n ≡ m → LoweredAt m n id o false
  not_lowered o is same = subst (λ x. LoweredAt m n id x false) (sym is) (same, refl)

  -- what was put goes
  gone : (b : Bool) (o x : Option ℕ) → cond b None (cond b o x) ≡ cond b None x
  gone true o x = refl
  gone false o x = refl

  taken_again : (k : ℕ) → map.remove (map.insert m id k) id ≡ map.remove m id
  taken_again k = same_map id_total id_exact _ _ (λ q.
      get-remove id_total (map.insert m id k) id q ∙ ap (cond (is_eq (id_cmp q id)) None) (get-insert id_total m id k q) ∙ gone (is_eq (id_cmp q id)) (Some k) (map.get m q) ∙ sym (get-remove id_total m id q))

  pub is_last : (o : Option ℕ) → LoweredAt m n id o false → map.remove n id ≡ less m id o
  is_last None h = ap (λ x. map.remove x id) h.0
  is_last (Some k) h = ap (λ x. map.remove x id) h.1 ∙ taken_again k ∙ ap (λ b. if b then map.remove m id else map.insert m id (k - 1)) (sym h.0)
