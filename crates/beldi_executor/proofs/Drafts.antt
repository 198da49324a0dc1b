-- The instances of a transaction under way: its owner, and those that were made since.
use Rattle.std.specs.Prelude.{take, ◌+◌}
use Rattle.beldi_executor.proofs.Names.{Actor, Answer, AreKept, Bool, Draft, FinMap, Instance, IntentId, IsDraft, IsUndone, List, Longer, MatchOption, None, Option, PlainState, Popped, Some, TxId, [], all_back, all_gone, answered, ap, append-nil, append_assoc, at_one, cond, cut_to, eq_by_cmp_equiv, false, get-insert, get-remove, gives, id_cmp, id_exact, id_total, if◌then◌else◌, inl, inr, is_eq, is_some, length, option_to_list, refl, reverse, reverse-append, same_map, subst, sym, take_at, true, with_instance, ℕ, ◌++◌, ◌-◌, ◌∙◌, ◌∷◌, ◌≡◌, ◌⊎◌}
use Rattle.beldi_executor.proofs.Finite.{apart, there, same_key, same_set, set_removed}
use Rattle.beldi_executor.proofs.Names.map

abbrev pub Instances : Type 0
Instances = FinMap id_cmp Instance

pub same_id : (id : IntentId) → is_eq (id_cmp id id) ≡ true
same_id id = (eq_by_cmp_equiv id_total).refl id

-- an instance is set twice
set_twice : (m : Instances) (id : IntentId) (x q : Instance) → map.insert (map.insert m id x) id q ≡ map.insert m id q
set_twice m id x q = same_map id_total id_exact _ _ (λ j.
    get-insert id_total (map.insert m id x) id q j
    ∙ ap (cond (is_eq (id_cmp j id)) (Some q)) (get-insert id_total m id x j)
    ∙ one (is_eq (id_cmp j id)) (map.get m j)
    ∙ sym (get-insert id_total m id q j))
  where
    one : (b : Bool) (g : Option Instance) → cond b (Some q) (cond b (Some x) g) ≡ cond b (Some q) g
    one true g = refl
    one false g = refl

pub same_instance : (o : Option Instance) (q x : Instance) → o ≡ Some q → o ≡ Some x → q ≡ x
same_instance o q x a b = let both = sym a ∙ b in cc

-- ---- without those that were made since

is_in : List IntentId → IntentId → Bool
is_in [] j = false
is_in (k ∷ ks) j = if is_eq (id_cmp j k) then true else is_in ks j

get_gone : (m : Instances) (ks : List IntentId) (j : IntentId) → map.get (all_gone m ks) j ≡ cond (is_in ks j) None (map.get m j)
unfolding is_in
get_gone m [] j = refl
get_gone m (k ∷ ks) j = get-remove id_total (all_gone m ks) k j ∙ ap (cond (is_eq (id_cmp j k)) None) (get_gone m ks j) ∙ one (is_eq (id_cmp j k)) (is_in ks j) (map.get m j)
  where
    one : (a b : Bool) (g : Option Instance) → cond a None (cond b None g) ≡ cond (if a then true else b) None g
    one true b g = refl
    one false b g = refl

-- one that was made since
in_gone : (m : Instances) (ks : List IntentId) (j : IntentId) (x : Instance) → map.get (all_gone m ks) j ≡ None → map.get m j ≡ Some x → is_in ks j ≡ true
in_gone m ks j x none here = by_test (is_in ks j) refl
  where
    by_test : (b : Bool) → is_in ks j ≡ b → b ≡ true
    by_test true e = refl
    by_test false e = let has : map.get (all_gone m ks) j ≡ Some x = get_gone m ks j ∙ ap (λ b. cond b None (map.get m j)) e ∙ here in let clash = sym none ∙ has in cc

-- .. and one that was not
not_gone : (m : Instances) (ks : List IntentId) (j : IntentId) (x : Instance) → map.get (all_gone m ks) j ≡ Some x → (is_in ks j ≡ false) × (map.get m j ≡ Some x)
not_gone m ks j x here = by_test (is_in ks j) refl
  where
    by_test : (b : Bool) → is_in ks j ≡ b → (b ≡ false) × (map.get m j ≡ Some x)
    by_test true e = let none : map.get (all_gone m ks) j ≡ None = get_gone m ks j ∙ ap (λ b. cond b None (map.get m j)) e in let clash = sym none ∙ here in cc
    by_test false e = (refl, sym (get_gone m ks j ∙ ap (λ b. cond b None (map.get m j)) e) ∙ here)

-- who is not there now is not there without them
pub absent_gone : (m : Instances) (ks : List IntentId) (j : IntentId) → map.get m j ≡ None → map.get (all_gone m ks) j ≡ None
absent_gone m ks j none = get_gone m ks j ∙ ap (cond (is_in ks j) None) none ∙ one (is_in ks j)
  where
    one : (b : Bool) → ◌≡◌ {A = Option Instance} (cond b None None) None
    one true = refl
    one false = refl

-- one of them is set
member_set : (m : Instances) (ks : List IntentId) (j : IntentId) (y : Instance) → is_in ks j ≡ true → all_gone (map.insert m j y) ks ≡ all_gone m ks
member_set m ks j y has = same_map id_total id_exact _ _ (λ i. get_gone (map.insert m j y) ks i ∙ one i ∙ sym (get_gone m ks i))
  where
    one : (i : IntentId) → cond (is_in ks i) None (map.get (map.insert m j y) i) ≡ cond (is_in ks i) None (map.get m i)
    one i = elim (is_eq (id_cmp i j)) as (λ b. is_eq (id_cmp i j) ≡ b → cond (is_in ks i) None (map.get (map.insert m j y) i) ≡ cond (is_in ks i) None (map.get m i)) [
      | true ↦ λ e. let it = ap (is_in ks) (same_key id_exact i j e) ∙ has in ap (λ b. cond b None (map.get (map.insert m j y) i)) it ∙ sym (ap (λ b. cond b None (map.get m i)) it)
      | false ↦ λ e. ap (cond (is_in ks i) None) (apart id_total m j i y e)
    ] refl

-- .. and another one
other_set : (m : Instances) (ks : List IntentId) (j : IntentId) (y : Instance) → is_in ks j ≡ false → all_gone (map.insert m j y) ks ≡ map.insert (all_gone m ks) j y
other_set m ks j y off = same_map id_total id_exact _ _ (λ i.
    get_gone (map.insert m j y) ks i
    ∙ ap (cond (is_in ks i) None) (get-insert id_total m j y i)
    ∙ one i
    ∙ sym (get-insert id_total (all_gone m ks) j y i ∙ ap (cond (is_eq (id_cmp i j)) (Some y)) (get_gone m ks i)))
  where
    two : (a b : Bool) (g : Option Instance) → (a ≡ true → b ≡ false) → cond b None (cond a (Some y) g) ≡ cond a (Some y) (cond b None g)
    two true b g h = ap (λ b. cond b None (Some y)) (h refl)
    two false b g h = refl

    one : (i : IntentId) → cond (is_in ks i) None (cond (is_eq (id_cmp i j)) (Some y) (map.get m i)) ≡ cond (is_eq (id_cmp i j)) (Some y) (cond (is_in ks i) None (map.get m i))
    one i = two (is_eq (id_cmp i j)) (is_in ks i) (map.get m i) (λ e. ap (is_in ks) (same_key id_exact i j e) ∙ off)

pub gone_last : (m : Instances) (ks : List IntentId) (k : IntentId) → all_gone m (ks ++ k ∷ []) ≡ all_gone (map.remove m k) ks
gone_last m [] k = refl
gone_last m (j ∷ ks) k = ap (λ n. map.remove n j) (gone_last m ks k)

-- one more is made
pub entered_gone : (m : Instances) (ks : List IntentId) (k : IntentId) (y : Instance) → map.get m k ≡ None → all_gone (map.insert m k y) (ks ++ k ∷ []) ≡ all_gone m ks
entered_gone m ks k y none = gone_last (map.insert m k y) ks k ∙ ap (λ n. all_gone n ks) (set_removed id_total id_exact m k y none)

-- ---- drafts

-- a transaction that has done nothing
pub first_draft : (t : TxId) (p : PlainState) (q : Instance) (h : Draft) → map.get p.made t.intent ≡ Some q → h ≡ record { tx = t; undo = []; members = []; waiting = [] } → IsDraft t p q p h
first_draft t p q h here is = subst (IsDraft t p q p) (sym is) (record {
  tx = refl;
  undone = record { back = refl; room = tt };
  others = same_set id_total id_exact p.made t.intent q here;
  longer = subst (Longer q) (sym here) ([], (λ i. record q { answers = sym (append-nil q.answers) i }));
})

longer_by : (q x : Instance) (a : Answer) → Longer q (Some x) → Longer q (Some (answered x a))
longer_by q x a (more, same) = (more ++ a ∷ [], ap (λ (z : Instance). answered z a) same ∙ (λ i. record q { answers = append_assoc q.answers more (a ∷ []) i }))

longer_some : (q : Instance) (o : Option Instance) → Longer q o → (x : Instance) × (o ≡ Some x) × Longer q (Some x)
longer_some q None h = absurd h
longer_some q (Some x) h = (x, refl, h)

-- nothing but its members changed
pub draft_kept : (t : TxId) (p : PlainState) (q : Instance) (r s : PlainState) (h k : Draft) → IsDraft t p q r h → k.tx ≡ h.tx → IsUndone p.items s.items k.undo → all_gone s.made k.members ≡ all_gone r.made h.members → IsDraft t p q s k
draft_kept t p q r s h k g tx undone same = record {
  tx = tx ∙ g.tx;
  undone = undone;
  others = ap (λ m. map.insert m t.intent q) same ∙ g.others;
  longer = subst (λ (m : Instances). Longer q (map.get m t.intent)) (sym same) g.longer;
}

-- the owner, or one that was made since
abbrev pub IsOne : TxId → PlainState → List IntentId → IntentId → Type 0
IsOne t r ks j = (j ≡ t.intent) ⊎ (map.get (all_gone r.made ks) j ≡ None)

module _ (t : TxId) (p : PlainState) (q : Instance) (r : PlainState) (h : Draft) (g : IsDraft t p q r h) where
  -- the owner in it
  owned : (x : Instance) × (map.get (all_gone r.made h.members) t.intent ≡ Some x) × Longer q (Some x)
  owned = longer_some q (map.get (all_gone r.made h.members) t.intent) g.longer

  owner_so : (is_in h.members t.intent ≡ false) × (map.get r.made t.intent ≡ Some owned.0)
  owner_so = not_gone r.made h.members t.intent owned.0 owned.1

  -- one that was made since is set
  pub draft_member : (j : IntentId) (x y : Instance) → map.get r.made j ≡ Some x → map.get (all_gone r.made h.members) j ≡ None → IsDraft t p q (with_instance r j y) h
  draft_member j x y here none = draft_kept t p q r (with_instance r j y) h h g refl g.undone (member_set r.made h.members j y (in_gone r.made h.members j x none here))

  pub member_gone : (j : IntentId) (x y : Instance) → map.get r.made j ≡ Some x → map.get (all_gone r.made h.members) j ≡ None → (i : IntentId) → map.get (all_gone r.made h.members) i ≡ None → map.get (all_gone (map.insert r.made j y) h.members) i ≡ None
  member_gone j x y here none i gone = ap (λ (m : Instances). map.get m i) (member_set r.made h.members j y (in_gone r.made h.members j x none here)) ∙ gone

  -- the owner is answered
  owner_answered : (x : Instance) (a : Answer) → map.get r.made t.intent ≡ Some x → IsDraft t p q (gives r t.intent x a) h
  owner_answered x a here =
      let is : owned.0 ≡ x = same_instance (map.get r.made t.intent) owned.0 x owner_so.1 here in
      let same = other_set r.made h.members t.intent (answered x a) owner_so.0 in
      record {
        tx = g.tx;
        undone = g.undone;
        others = ap (λ m. map.insert m t.intent q) same ∙ set_twice (all_gone r.made h.members) t.intent (answered x a) q ∙ g.others;
        longer = subst (Longer q) (sym (ap (λ (m : Instances). map.get m t.intent) same ∙ there id_total (all_gone r.made h.members) t.intent t.intent (answered x a) (same_id t.intent))) (longer_by q x a (subst (λ (z : Instance). Longer q (Some z)) is owned.2));
      }

  owner_gone : (y : Instance) (i : IntentId) → map.get (all_gone r.made h.members) i ≡ None → map.get (all_gone (map.insert r.made t.intent y) h.members) i ≡ None
  owner_gone y i none =
      ap (λ (m : Instances). map.get m i) (other_set r.made h.members t.intent y owner_so.0)
      ∙ (elim (is_eq (id_cmp i t.intent)) as (λ b. is_eq (id_cmp i t.intent) ≡ b → map.get (map.insert (all_gone r.made h.members) t.intent y) i ≡ None) [
        | true ↦ λ e. let clash = sym none ∙ ap (map.get (all_gone r.made h.members)) (same_key id_exact i t.intent e) ∙ owned.1 in cc
        | false ↦ λ e. apart id_total (all_gone r.made h.members) t.intent i y e ∙ none
      ]) refl

  -- one of them is answered
  pub draft_answered : (j : IntentId) (x : Instance) (a : Answer) → map.get r.made j ≡ Some x → IsOne t r h.members j → IsDraft t p q (gives r j x a) h
  draft_answered j x a here (inl is) = subst (λ (j : IntentId). IsDraft t p q (gives r j x a) h) (sym is) (owner_answered x a (sym (ap (map.get r.made) is) ∙ here))
  draft_answered j x a here (inr none) = draft_member j x (answered x a) here none

  pub answered_gone : (j : IntentId) (x y : Instance) → map.get r.made j ≡ Some x → IsOne t r h.members j → (i : IntentId) → map.get (all_gone r.made h.members) i ≡ None → map.get (all_gone (map.insert r.made j y) h.members) i ≡ None
  answered_gone j x y here (inl is) i none = subst (λ (j : IntentId). map.get (all_gone (map.insert r.made j y) h.members) i ≡ None) (sym is) (owner_gone y i none)
  answered_gone j x y here (inr gone) i none = member_gone j x y here gone i none

  -- ---- its end

  -- everything is put back
  pub reset_so : (s : PlainState) (n : ℕ) → n ≡ length q.answers → s.items ≡ all_back r.items h.undo → s.made ≡ at_one (all_gone r.made h.members) t.intent (cut_to n) (map.get (all_gone r.made h.members) t.intent) → s ≡ p
  reset_so s n few items made =
      let gone = all_gone r.made h.members in
      let same : s.made ≡ p.made = made ∙ ap (at_one gone t.intent (cut_to n)) owned.1 ∙ ap (map.insert gone t.intent) (cut owned.0 owned.2) ∙ g.others in
      λ i. record { items = (items ∙ g.undone.back) i; made = same i }
    where
      cut : (x : Instance) → Longer q (Some x) → cut_to n x ≡ q
      cut x (more, same) = ap (cut_to n) same ∙ (λ i. record q { answers = take_at q.answers more n (sym few) i })

  -- the items are, and the owner's answers stay
  pub answers_stay : (x : Instance) (s : PlainState) → map.get r.made t.intent ≡ Some x → s.items ≡ all_back r.items h.undo → s.made ≡ all_gone r.made h.members → s ≡ with_instance p t.intent x
  answers_stay x s here items made =
      let gone = all_gone r.made h.members in
      let is : map.get gone t.intent ≡ Some x = owned.1 ∙ ap (λ z. Some z) (same_instance (map.get r.made t.intent) owned.0 x owner_so.1 here) in
      let same : s.made ≡ map.insert p.made t.intent x = made ∙ sym (same_set id_total id_exact gone t.intent x is) ∙ sym (set_twice gone t.intent q x) ∙ ap (λ m. map.insert m t.intent x) g.others in
      λ i. record { items = (items ∙ g.undone.back) i; made = same i }

  -- those that were there are as they were
  pub others_kept : (s : PlainState) → s.made ≡ r.made → AreKept p s t.intent
  others_kept s made j off has =
      let was : map.get p.made j ≡ map.get (all_gone r.made h.members) j = sym (ap (λ (m : Instances). map.get m j) g.others) ∙ apart id_total (all_gone r.made h.members) t.intent j q off in
      ap (λ (m : Instances). map.get m j) made ∙ by_now (map.get (all_gone r.made h.members) j) refl (sym (ap is_some was) ∙ has) ∙ sym was
    where
      by_now : (o : Option Instance) → map.get (all_gone r.made h.members) j ≡ o → is_some o ≡ true → map.get r.made j ≡ map.get (all_gone r.made h.members) j
      by_now None e some = cc
      by_now (Some x) e some = (not_gone r.made h.members j x e).1 ∙ sym e

-- ---- who waits, the last one first

pub pushed : (ws : List Actor) (w : Actor) → reverse (ws ++ w ∷ []) ≡ w ∷ reverse ws
pushed ws w = reverse-append ws (w ∷ [])

pub popped_so : (ws us : List Actor) (n m : ℕ) (o : Option Actor) → ws ≡ us ++ option_to_list o → MatchOption o ((n ≡ 0) × (m ≡ 0)) (λ w. m + 1 ≡ n) → us ≡ take (n - 1) ws → Popped (reverse ws) (reverse us) o
popped_so ws us n m None is empty rest = ap reverse (is ∙ append-nil us ∙ rest ∙ ap (λ k. take (k - 1) ws) empty.0)
popped_so ws us n m (Some w) is cases rest = ap reverse is ∙ pushed us w
