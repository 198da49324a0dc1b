-- The state after a step, as its parts make it.
use Rattle.beldi_executor.proofs.Names.{AllShort, AllocError, Answer, Bool, Caller, Effect, Err, FinMap, Instance, IntentId, IsActed, Made, Next, None, Ok, OnErr, OnItem, OnOk, Option, Outcome, PlainState, Result, Some, Value, [], answer_by, answer_caller, answer_if, answer_of, answered, answered_if, ap, arith, at_one, bar_made, callee_of, calls_at, child_of, cond, ended, false, get-empty, get-remove, give, has_callees, id_cmp, id_exact, id_total, if◌then◌else◌, instance_by, is_eq, is_none, is_some, item_cmp, items_by, items_if, length, length-append, ltb-false, ltb-true, new_instance, next_by, next_of, next_told, op_of, operated, option_map, refl, same_map, step_by, subst, sym, true, waiter, with_callee, with_instance, ℕ, ◌++◌, ◌<◌, ◌∙◌, ◌∷◌, ◌≡◌, ◌≤◌, Kind}
use Rattle.beldi_executor.proofs.Finite.{apart, there, same_key, same_set, set_removed}
use Rattle.beldi_executor.proofs.Names.map

pub none_of : {X : Type 0} (o : Option X) → is_some o ≡ false → o ≡ None
none_of None h = refl
none_of (Some x) h = cc

-- an effect that is neither a call nor a return
abbrev pub acts : Effect → Bool
acts (Effect.Call f a) = false
acts (Effect.Async f a) = false
acts (Effect.Return o) = false
acts e = true

-- ---- a read or an operation

operation_so : (p : PlainState) (id : IntentId) (q : Instance) (o : Option OnItem) → map.get p.made id ≡ Some q → record { items = items_if p.items q o; made = map.insert p.made id (answered_if q (answer_if p.items q o)) } ≡ operated p id q o
operation_so p id q None here = λ i. record { items = p.items; made = same_set id_total id_exact p.made id q here i }
operation_so p id q (Some o) here = refl

-- ---- who waits is answered

-- .. if someone does
abbrev pub tell : PlainState → Option IntentId → Outcome → PlainState
tell p None o = p
tell p (Some c) o = give p c (answer_of o) (map.get p.made c)

pub caller_told : (p : PlainState) (c : Option Caller) (o : Outcome) → answer_caller p c o ≡ tell p (waiter c) o
caller_told p None o = refl
caller_told p (Some c) o =
    elim c.waits as (λ b. answer_caller p (Some (record c { waits = b })) o ≡ tell p (waiter (Some (record c { waits = b }))) o) [
      | true ↦ refl
      | false ↦ refl
    ]

-- ---- one instance changes

-- what a change leaves at a key
one_get : (made : FinMap id_cmp Instance) (k : IntentId) (f : Instance → Instance) (j : IntentId) → map.get (at_one made k f (map.get made k)) j ≡ cond (is_eq (id_cmp j k)) (option_map f (map.get made j)) (map.get made j)
one_get made k f j =
    elim (is_eq (id_cmp j k)) as (λ b. is_eq (id_cmp j k) ≡ b → map.get (at_one made k f (map.get made k)) j ≡ cond b (option_map f (map.get made j)) (map.get made j)) [
      | true ↦ λ e. on (map.get made k) e (ap (map.get made) (same_key id_exact j k e))
      | false ↦ λ e. off (map.get made k) e
    ] refl
  where
    on : (o : Option Instance) → is_eq (id_cmp j k) ≡ true → map.get made j ≡ o → map.get (at_one made k f o) j ≡ option_map f (map.get made j)
    on None e is = is ∙ sym (ap (option_map f) is)
    on (Some q) e is = there id_total made k j (f q) e ∙ sym (ap (option_map f) is)

    off : (o : Option Instance) → is_eq (id_cmp j k) ≡ false → map.get (at_one made k f o) j ≡ map.get made j
    off None e = refl
    off (Some q) e = apart id_total made k j (f q) e

both_ways : (a b : Bool) (f g : Instance → Instance) → ((q : Instance) → f (g q) ≡ g (f q)) → (x : Option Instance) → cond a (option_map f (cond b (option_map g x) x)) (cond b (option_map g x) x) ≡ cond b (option_map g (cond a (option_map f x) x)) (cond a (option_map f x) x)
both_ways true true f g swaps None = refl
both_ways true true f g swaps (Some q) = ap (λ r. Some r) (swaps q)
both_ways true false f g swaps x = refl
both_ways false true f g swaps x = refl
both_ways false false f g swaps x = refl

-- two changes that may change places
two_ones : (made : FinMap id_cmp Instance) (j k : IntentId) (f g : Instance → Instance) → ((q : Instance) → f (g q) ≡ g (f q)) → (let m = at_one made k g (map.get made k) in at_one m j f (map.get m j)) ≡ (let m = at_one made j f (map.get made j) in at_one m k g (map.get m k))
two_ones made j k f g swaps =
    let first = at_one made k g (map.get made k) in
    let second = at_one made j f (map.get made j) in
    same_map id_total id_exact _ _ (λ i.
    one_get first j f i
    ∙ ap (λ o. cond (is_eq (id_cmp i j)) (option_map f o) o) (one_get made k g i)
    ∙ both_ways (is_eq (id_cmp i j)) (is_eq (id_cmp i k)) f g swaps (map.get made i)
    ∙ sym (ap (λ o. cond (is_eq (id_cmp i k)) (option_map g o) o) (one_get made j f i))
    ∙ sym (one_get second k g i))

-- the instance of an id changed
pub one_at : (made now : FinMap id_cmp Instance) (id : IntentId) (q r : Instance) (f : Instance → Instance) → map.get made id ≡ Some q → now ≡ map.insert made id r → r ≡ f q → now ≡ at_one made id f (map.get made id)
one_at made now id q r f here is does = is ∙ ap (map.insert made id) does ∙ sym (ap (at_one made id f) here)

-- .. and where memory may be short
pub one_ok : (made now : FinMap id_cmp Instance) (id : IntentId) (q r : Instance) (f : Instance → Instance) (x : Result (Unit {0}) AllocError) → map.get made id ≡ Some q → now ≡ map.insert made id r → OnOk x (r ≡ f q) → OnOk x (now ≡ at_one made id f (map.get made id))
one_ok made now id q r f (Ok u) here is does = one_at made now id q r f here is does
one_ok made now id q r f (Err e) here is does = tt

pub one_err : (made now : FinMap id_cmp Instance) (id : IntentId) (q r : Instance) (x : Result (Unit {0}) AllocError) → map.get made id ≡ Some q → now ≡ map.insert made id r → OnErr x (r ≡ q) → OnErr x (now ≡ made)
one_err made now id q r (Ok u) here is same = tt
one_err made now id q r (Err e) here is same = is ∙ ap (map.insert made id) same ∙ same_set id_total id_exact made id q here

pub none_at : (made : FinMap id_cmp Instance) (id : IntentId) (f : Instance → Instance) → map.get made id ≡ None → made ≡ at_one made id f (map.get made id)
none_at made id f none = sym (ap (at_one made id f) none)

give_one : (p : PlainState) (c : IntentId) (x : Answer) (o : Option Instance) → give p c x o ≡ record { items = p.items; made = at_one p.made c (λ q. answered q x) o }
give_one p c x None = refl
give_one p c x (Some q) = refl

-- who waits is answered, and then the instance ends: as if it ended first
pub told_first : (p : PlainState) (id c : IntentId) (q : Instance) (o : Outcome) (one two : FinMap id_cmp Instance) → map.get p.made id ≡ Some q → one ≡ at_one p.made c (λ r. answered r (answer_of o)) (map.get p.made c) → two ≡ at_one one id (λ r. ended r o) (map.get one id) → record { items = p.items; made = two } ≡ tell (with_instance p id (ended q o)) (Some c) o
told_first p id c q o one two here first second =
    let x = answer_of o in
    let last : FinMap id_cmp Instance → FinMap id_cmp Instance = λ m. at_one m id (λ r. ended r o) (map.get m id) in
    let after : FinMap id_cmp Instance → FinMap id_cmp Instance = λ m. at_one m c (λ r. answered r x) (map.get m c) in
    let same : two ≡ after (map.insert p.made id (ended q o)) =
    second ∙ ap last first ∙ two_ones p.made id c (λ r. ended r o) (λ r. answered r x) (λ r. refl) ∙ ap (λ s. after (at_one p.made id (λ r. ended r o) s)) here in
    ap (λ m. record { items = p.items; made = m }) same ∙ sym (give_one (with_instance p id (ended q o)) c x (map.get (map.insert p.made id (ended q o)) c))

-- ---- ids have at most 63 hops

pub none_long : (made : FinMap id_cmp Instance) → made ≡ map.empty → AllShort made
none_long made is = λ id has. let none = sym (ap (λ (m : FinMap id_cmp Instance). is_some (map.get m id)) is ∙ ap is_some (get-empty id_cmp id)) ∙ has in cc

pub set_short : (made now : FinMap id_cmp Instance) (id : IntentId) (q : Instance) → AllShort made → length id.hops ≤ 63 → now ≡ map.insert made id q → AllShort now
set_short made now id q all few is = λ j has.
    elim (is_eq (id_cmp j id)) as (λ b. is_eq (id_cmp j id) ≡ b → length j.hops ≤ 63) [
      | true ↦ λ e. subst (λ (k : IntentId). length k.hops ≤ 63) (sym (same_key id_exact j id e)) few
      | false ↦ λ e. all j (sym (ap is_some (ap (λ (m : FinMap id_cmp Instance). map.get m j) is ∙ apart id_total made id j q e)) ∙ has)
    ] refl

pub one_short : (made now : FinMap id_cmp Instance) (id : IntentId) (q r : Instance) → AllShort made → map.get made id ≡ Some q → now ≡ map.insert made id r → AllShort now
one_short made now id q r all here is = set_short made now id r all (all id (ap is_some here)) is

pub rest_short : (made now : FinMap id_cmp Instance) (id : IntentId) → AllShort made → now ≡ map.remove made id → AllShort now
rest_short made now id all is = λ j has.
    elim (is_eq (id_cmp j id)) as (λ b. is_some (cond b None (map.get made j)) ≡ true → length j.hops ≤ 63) [
      | true ↦ λ h. cc
      | false ↦ λ h. all j h
    ] (sym (ap is_some (ap (λ (m : FinMap id_cmp Instance). map.get m j) is ∙ get-remove id_total made id j)) ∙ has)

-- what has no id was not made
pub no_callee : (made : FinMap id_cmp Instance) (id : IntentId) (n : ℕ) → AllShort made → has_callees id ≡ false → false ≡ is_some (map.get made (child_of id n))
no_callee made id n all none =
    elim (is_some (map.get made (child_of id n))) as (λ b. is_some (map.get made (child_of id n)) ≡ b → false ≡ b) [
      | true ↦ λ e.
          let few : length (id.hops ++ n ∷ []) ≤ 63 = all (child_of id n) e in
          let more = length-append id.hops (n ∷ []) in
          let many = ltb-false (length id.hops) 63 none in
          absurd (omega arith)
      | false ↦ λ e. refl
    ] refl

-- ---- a step

-- a read or an operation on an item
pub acts_so : (p : PlainState) (id : IntentId) (q : Instance) (e : Effect) → acts e ≡ true → map.get p.made id ≡ Some q → record { items = items_by p.items q e; made = map.insert p.made id (instance_by p.items q e) } ≡ step_by p id q e
acts_so p id q (Effect.Read t k) w here = refl
acts_so p id q (Effect.Call f a) w here = cc
acts_so p id q (Effect.Async f a) w here = cc
acts_so p id q (Effect.Return o) w here = cc
acts_so p id q e w here = operation_so p id q (op_of e) here

next_so : (items : FinMap item_cmp Value) (q : Instance) (e : Effect) → acts e ≡ true → next_of (answer_by items q e) ≡ next_by items q e
next_so items q (Effect.Async f a) w = cc
next_so items q (Effect.Return o) w = cc
next_so items q e w = refl

pub acted_so : (p r : PlainState) (id : IntentId) (q : Instance) (e : Effect) (x : Result Next AllocError) → acts e ≡ true → map.get p.made id ≡ Some q → IsActed p r id q e x → Made p r id q e x
acted_so p r id q e (Ok n) w here h = (h.0 ∙ acts_so p id q e w here, h.1 ∙ next_so p.items q e w)
acted_so p r id q e (Err z) w here h = h

-- a call that is carried out has room for its callee
pub room : (id : IntentId) → is_none (bar_made (if has_callees id then Kind.Change else Kind.Unbuilt)) ≡ true → length id.hops < 63
room id built =
    elim (has_callees id) as (λ b. has_callees id ≡ b → is_none (bar_made (if b then Kind.Change else Kind.Unbuilt)) ≡ true → length id.hops < 63) [
      | true ↦ λ e h. ltb-true (length id.hops) 63 e
      | false ↦ λ e h. cc
    ] refl built

-- an effect that is none of the three acts
pub acts_other : (e : Effect) → ((f : ℕ) (a : Value) → e ≡ Effect.Call f a → ⊥) → ((f : ℕ) (a : Value) → e ≡ Effect.Async f a → ⊥) → ((o : Outcome) → e ≡ Effect.Return o → ⊥) → acts e ≡ true
acts_other (Effect.Call f a) c s r = absurd (c f a refl)
acts_other (Effect.Async f a) c s r = absurd (s f a refl)
acts_other (Effect.Return o) c s r = absurd (r o refl)
acts_other e c s r = refl

-- ---- a call that nobody waits for

-- an instance is not its own callee
not_own : (id : IntentId) (n : ℕ) → is_eq (id_cmp id (child_of id n)) ≡ false
not_own id n =
    elim (is_eq (id_cmp id (child_of id n))) as (λ b. is_eq (id_cmp id (child_of id n)) ≡ b → b ≡ false) [
      | true ↦ λ e.
          let same : length id.hops ≡ length (id.hops ++ n ∷ []) = ap (λ (j : IntentId). length j.hops) (same_key id_exact id (child_of id n) e) in
          let more = length-append id.hops (n ∷ []) in
          absurd (omega arith)
      | false ↦ λ e. refl
    ] refl

-- its callee is made, and it is answered ..
pub sends_so : (p r : PlainState) (id : IntentId) (q : Instance) (f : ℕ) (a : Value) (now : FinMap id_cmp Instance) → map.get p.made id ≡ Some q → r ≡ with_callee p id q f a false → now ≡ at_one r.made id (λ q. answered q Answer.Done) (map.get r.made id) → record { items = r.items; made = now } ≡ step_by p id q (Effect.Async f a)
sends_so p r id q f a now here is does =
    let k = callee_of id q in
    let s = new_instance f a (Some (calls_at id q false)) in
    let after : FinMap id_cmp Instance → Option Instance → FinMap id_cmp Instance = λ m. at_one m id (λ q. answered q Answer.Done) in
    let same : now ≡ (step_by p id q (Effect.Async f a)).made =
    does ∙ ap (λ (r : PlainState). after r.made (map.get r.made id)) is ∙ ap (after (map.insert p.made k s)) (apart id_total p.made k id s (not_own id (length q.answers)) ∙ here) in
    λ i. record { items = (is i).items; made = same i }

-- .. or the callee is taken away again
pub unsent : (p r : PlainState) (id : IntentId) (q : Instance) (n f : ℕ) (a : Value) (now : FinMap id_cmp Instance) → is_some (map.get p.made (child_of id n)) ≡ false → n ≡ length q.answers → r ≡ with_callee p id q f a false → now ≡ map.remove r.made (child_of id n) → record { items = r.items; made = now } ≡ p
unsent p r id q n f a now free step is does =
    let s = new_instance f a (Some (calls_at id q false)) in
    let same : now ≡ p.made =
    does ∙ ap (λ (r : PlainState). map.remove r.made (child_of id n)) is ∙ ap (λ m. map.remove (map.insert p.made (child_of id m) s) (child_of id n)) (sym step)
    ∙ set_removed id_total id_exact p.made (child_of id n) s (none_of (map.get p.made (child_of id n)) free) in
    λ i. record { items = (is i).items; made = same i }

-- a return that is told to who waits
pub tells_so : (p : PlainState) (id c : IntentId) (q found : Instance) (w : Option IntentId) (o ends : Outcome) (x y : Answer) (one two : FinMap id_cmp Instance) → map.get p.made id ≡ Some found → w ≡ waiter found.parent → w ≡ Some c → ends ≡ o → x ≡ answer_of o → y ≡ answer_of o → one ≡ at_one p.made c (λ r. answered r x) (map.get p.made c) → two ≡ at_one one id (λ r. ended r ends) (map.get one id) → map.get p.made id ≡ Some q → Made p (record { items = p.items; made = two }) id q (Effect.Return o) (Ok (Next.Tells c y))
tells_so p id c q found w o ends x y one two there waits is same first also answers ends_so here =
    let found_is : found ≡ q = let both = sym there ∙ here in cc in
    let told : waiter q.parent ≡ Some c = ap (λ (r : Instance). waiter r.parent) (sym found_is) ∙ sym waits ∙ is in (
      told_first p id c q o one two here
          (answers ∙ ap (λ a. at_one p.made c (λ r. answered r a) (map.get p.made c)) first)
          (ends_so ∙ ap (λ z. at_one one id (λ r. ended r z) (map.get one id)) same)
          ∙ sym (caller_told (with_instance p id (ended q o)) q.parent o ∙ ap (λ w. tell (with_instance p id (ended q o)) w o) told),
      ap (λ a. Next.Tells c a) also ∙ sym (ap (λ w. next_told w o) told),
    )
