-- Finite maps of instances, one instance at a time.
use Rattle.beldi_plain_laws.proofs.Names.{Bool, Equal-is, FinMap, Instance, IntentId, IsAntisymmetric, None, Option, Ordering, Some, ap, cond, false, get-insert, id_cmp, id_exact, id_total, is_eq, refl, same_map, subst, sym, tied_itself, true, ◌∙◌, ◌≡◌}
use Rattle.beldi_plain_laws.proofs.Names.map

pub same_some : {X : Type 0} {x y : X} → Some x ≡ Some y → x ≡ y
same_some h = cc

pub none_by : {X : Type 0} (o : Option X) → ((x : X) → o ≡ Some x → ⊥) → o ≡ None
none_by None h = refl
none_by (Some x) h = absurd (h x refl)

-- ---- what holds at the key that changed, and at all keys before, holds at all keys
pub changed : {K X : Type 0} {R : K → K → Ordering} → IsAntisymmetric R → (m n : FinMap R X) (k : K) (v : Option X) → ((q : K) → map.get n q ≡ cond (is_eq (R q k)) v (map.get m q))
    → (P : K → Option X → Type 0) → P k v → ((q : K) → P q (map.get m q)) → (q : K) → P q (map.get n q)
changed {R = R} exact m n k v is P here others q = subst (P q) (sym (is q)) (elim (is_eq (R q k)) as (λ b. is_eq (R q k) ≡ b → P q (cond b v (map.get m q))) [
  | true ↦ λ e. subst (λ z. P z v) (sym (exact q k ((Equal-is (R q k)).0 e))) here
  | false ↦ λ e. others q
] refl)

pub made_set : (f : FinMap id_cmp Instance) (id : IntentId) (s : Instance) (P : IntentId → Option Instance → Type 0) → P id (Some s) → ((j : IntentId) → P j (map.get f j)) → (j : IntentId) → P j (map.get (map.insert f id s) j)
made_set f id s P here others = changed id_exact f (map.insert f id s) id (Some s) (get-insert id_total f id s) P here others

-- one that was there still is, once another was made
pub still_made : (f : FinMap id_cmp Instance) (k id : IntentId) (s q : Instance) → map.get f k ≡ None → map.get f id ≡ Some q → map.get (map.insert f k s) id ≡ Some q
still_made f k id s q gone is = made_set f k s (λ j o. j ≡ id → o ≡ Some q) (λ same. let clash = sym gone ∙ ap (map.get f) same ∙ is in cc) (λ j same. ap (map.get f) same ∙ is) id refl

-- ---- two instances that were set
same_at : (f : FinMap id_cmp Instance) (i j : IntentId) (x y : Instance) (b c : Bool) (o : Option Instance) → (b ≡ true → c ≡ true → ⊥) → cond b (Some y) (cond c (Some x) o) ≡ cond c (Some x) (cond b (Some y) o)
same_at f i j x y true true o apart = absurd (apart refl refl)
same_at f i j x y true false o apart = refl
same_at f i j x y false c o apart = refl

pub equal : (i j : IntentId) → is_eq (id_cmp i j) ≡ true → i ≡ j
equal i j h = id_exact i j ((Equal-is (id_cmp i j)).0 h)

pub commutes : (f : FinMap id_cmp Instance) (i j : IntentId) (x y : Instance) → (i ≡ j → ⊥) → map.insert (map.insert f i x) j y ≡ map.insert (map.insert f j y) i x
commutes f i j x y apart = same_map id_total id_exact _ _ (λ q.
    get-insert id_total (map.insert f i x) j y q
    ∙ ap (cond (is_eq (id_cmp q j)) (Some y)) (get-insert id_total f i x q)
    ∙ same_at f i j x y (is_eq (id_cmp q j)) (is_eq (id_cmp q i)) (map.get f q) (λ a b. apart (sym (equal q i b) ∙ equal q j a))
    ∙ sym (get-insert id_total (map.insert f j y) i x q ∙ ap (cond (is_eq (id_cmp q i)) (Some x)) (get-insert id_total f j y q)))

pub elsewhere : (f : FinMap id_cmp Instance) (i j : IntentId) (x : Instance) → (i ≡ j → ⊥) → map.get (map.insert f i x) j ≡ map.get f j
elsewhere f i j x apart = get-insert id_total f i x j ∙ by_test (is_eq (id_cmp j i)) refl
  where
    by_test : (b : Bool) → is_eq (id_cmp j i) ≡ b → cond b (Some x) (map.get f j) ≡ map.get f j
    by_test true e = absurd (apart (sym (equal j i e)))
    by_test false e = refl

pub here : (f : FinMap id_cmp Instance) (i : IntentId) (x : Instance) → map.get (map.insert f i x) i ≡ Some x
here f i x = get-insert id_total f i x i ∙ ap (λ b. cond b (Some x) (map.get f i)) (ap is_eq (tied_itself id_total i))
