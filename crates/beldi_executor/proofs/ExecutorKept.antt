-- The machines that are kept stand for their instances.
use Rattle.beldi_executor.proofs.Names.{Acted, ActedAt, AllStand, AllocError, Answer, AreKept, Bool, Deployment, Effect, Err, FinMap, Follows, IfSome, Instance, IntentId, IsAt, IsFree, IsKept, IsReady, List, Machine, Made, Next, None, Ok, OnItem, Option, Outcome, Passes, PlainState, Result, Some, StandsAfter, StandsFor, StandsForOne, Value, [], answer_if, answer_of, answer_on, answered, ap, at_effect, at_next, callee_of, calls_at, drop, ended, eq_by_cmp_equiv, false, get-empty, give, id_cmp, id_exact, id_total, inl, inr, is_eq, is_some, item_cmp, item_in, item_of, new_instance, next_by, next_of, next_told, op_of, operated, refl, resumed, returns_stay, step_by, subst, sym, take, take-append-drop, true, value_at, waiter, waits_at, wants, wants_answer, with_callee, with_instance, ℕ, ◌++◌, ◌∙◌, ◌∷◌, ◌≡◌}
use Rattle.beldi_executor.proofs.{Finite.apart, Finite.there, Finite.gone, Finite.same_key, Finite.same_set, Made.tell, Made.caller_told, Made.none_of}
use Rattle.beldi_executor.proofs.Names.map

-- an effect that is not answered is a return
returns_so : (e : Effect) → wants_answer e ≡ false → (o : Outcome) × (e ≡ Effect.Return o)
returns_so (Effect.Return o) none = (o, refl)
returns_so e none = cc

-- a machine that takes no answer takes none of those that are left
pub stands_early : (d : Deployment) (func : ℕ) (args : Value) (inherited : Bool) (m : Machine) (answers : List Answer) (i : ℕ) → IsAt d func args inherited m (take i answers) → wants_answer m.effect ≡ false → StandsAfter d func args inherited answers m
stands_early d func args inherited m answers i h none =
    let r = returns_so m.effect none in
    let here = (at_effect d func args inherited m (take i answers) h).0 in
    let same = ap (wants d func args inherited) (sym (take-append-drop i answers)) ∙ returns_stay d func args inherited r.0 (take i answers) (drop i answers) (sym here ∙ r.1) ∙ sym r.1 in
    (sym same, λ w. cc)

pub stands_there : (d : Deployment) (func : ℕ) (args : Value) (inherited : Bool) (m : Machine) (answers : List Answer) → IsAt d func args inherited m answers → StandsAfter d func args inherited answers m
stands_there d func args inherited m answers h = ((at_effect d func args inherited m answers h).0, λ w. h)

-- ---- the machines that are kept

pub none_stand : (d : Deployment) (made : FinMap id_cmp Instance) (machines : FinMap id_cmp Machine) → machines ≡ map.empty → AllStand d made machines
none_stand d made machines is = λ id m h. let none = sym (ap (λ (ms : FinMap id_cmp Machine). map.get ms id) is ∙ get-empty id_cmp id) ∙ h in cc

is_there : (d : Deployment) (o : Option Instance) (m : Machine) → StandsForOne d o m → is_some o ≡ true
is_there d None m h = absurd h
is_there d (Some q) m h = refl

-- without one of them, whatever becomes of its instance
pub others_stand : (d : Deployment) (made now : FinMap id_cmp Instance) (a b : FinMap id_cmp Machine) (id : IntentId) → AllStand d made a → ((j : IntentId) → is_eq (id_cmp j id) ≡ false → is_some (map.get made j) ≡ true → map.get now j ≡ map.get made j) → b ≡ map.remove a id → AllStand d now b
others_stand d made now a b id all same is = λ j m h.
    let was = gone id_total a id j m (sym (ap (λ (ms : FinMap id_cmp Machine). map.get ms j) is) ∙ h) in
    subst (λ o. StandsForOne d o m) (sym (same j was.0 (is_there d (map.get made j) m (all j m was.1)))) (all j m was.1)

-- with one that stands for the instance of its id
pub one_stands : (d : Deployment) (made now : FinMap id_cmp Instance) (a b : FinMap id_cmp Machine) (id : IntentId) (m : Machine) → AllStand d made a → ((j : IntentId) → is_eq (id_cmp j id) ≡ false → is_some (map.get made j) ≡ true → map.get now j ≡ map.get made j) → StandsForOne d (map.get now id) m → b ≡ map.insert a id m → AllStand d now b
one_stands d made now a b id m all same here is = λ j n h.
    let has : map.get (map.insert a id m) j ≡ Some n = sym (ap (λ (ms : FinMap id_cmp Machine). map.get ms j) is) ∙ h in
    elim (is_eq (id_cmp j id)) as (λ b. is_eq (id_cmp j id) ≡ b → StandsForOne d (map.get now j) n) [
      | true ↦ λ e.
          let one : m ≡ n = let both = sym (there id_total a id j m e) ∙ has in cc in
          subst (λ (k : IntentId). StandsForOne d (map.get now k) n) (sym (same_key id_exact j id e)) (subst (λ (n : Machine). StandsForOne d (map.get now id) n) one here)
      | false ↦ λ e.
          let stands = all j n (sym (apart id_total a id j m e) ∙ has) in
          subst (λ o. StandsForOne d o n) (sym (same j e (is_there d (map.get made j) n stands))) stands
    ] refl

-- with one or without it
pub kept_stand : (d : Deployment) (made now : FinMap id_cmp Instance) (a b : FinMap id_cmp Machine) (id : IntentId) (m : Machine) → AllStand d made a → ((j : IntentId) → is_eq (id_cmp j id) ≡ false → is_some (map.get made j) ≡ true → map.get now j ≡ map.get made j) → StandsForOne d (map.get now id) m → IsKept a b id m → AllStand d now b
kept_stand d made now a b id m all same here (inl is) = others_stand d made now a b id all same is
kept_stand d made now a b id m all same here (inr is) = one_stands d made now a b id m all same here is

-- a root is started
pub started : (d : Deployment) (p r : PlainState) (machines : FinMap id_cmp Machine) (id : IntentId) (q : Instance) → AllStand d p.made machines → map.get p.made id ≡ None → r ≡ with_instance p id q → AllStand d r.made machines
started d p r machines id q all none is = λ j m h.
    elim (is_eq (id_cmp j id)) as (λ b. is_eq (id_cmp j id) ≡ b → StandsForOne d (map.get r.made j) m) [
      | true ↦ λ e. absurd (subst (λ o. StandsForOne d o m) (ap (map.get p.made) (same_key id_exact j id e) ∙ none) (all j m h))
      | false ↦ λ e. subst (λ o. StandsForOne d o m) (sym (ap (λ (s : PlainState). map.get s.made j) is ∙ apart id_total p.made id j q e)) (all j m h)
    ] refl

-- the machine that is kept for an instance
pub ready_so : (d : Deployment) (p : PlainState) (id : IntentId) (m : Machine) → StandsForOne d (map.get p.made id) m → IsReady d p id m
ready_so d p id m h =
    (elim (map.get p.made id) as (λ o. map.get p.made id ≡ o → StandsForOne d o m → IsReady d p id m) [
      | None ↦ λ e n. absurd n
      | Some q ↦ λ e s. record { instance = q; made = e; yet = s.0; stands = s.1 }
    ]) refl h

pub taken_so : (d : Deployment) (p : PlainState) (machines : FinMap id_cmp Machine) (id : IntentId) (o : Option Machine) → AllStand d p.made machines → o ≡ map.get machines id → IfSome o (λ m. IsReady d p id m)
taken_so d p machines id None all is = tt
taken_so d p machines id (Some m) all is = ready_so d p id m (all id m (sym is))

-- an instance that is kept may be kept again
pub ready_one : (d : Deployment) (p : PlainState) (id : IntentId) (m : Machine) → IsReady d p id m → StandsForOne d (map.get p.made id) m
ready_one d p id m h = subst (λ o. StandsForOne d o m) (sym h.made) (h.yet, h.stands)

-- with the machine that was put back
pub back_stand : (d : Deployment) (p : PlainState) (a b : FinMap id_cmp Machine) (id : IntentId) (m : Machine) → AllStand d p.made a → IsReady d p id m → IsKept a b id m → AllStand d p.made b
back_stand d p a b id m all h kept = kept_stand d p.made p.made a b id m all (λ j off has. refl) (ready_one d p id m h) kept

-- ---- a step

-- an instance makes an effect, among all instances
acted_one : (old new : FinMap item_cmp Value) (a b : FinMap id_cmp Instance) (id : IntentId) (q r : Instance) (e : Effect) (x : Result (Option Answer) AllocError) → map.get a id ≡ Some q → b ≡ map.insert a id r → Acted old new q r e x → ActedAt old new a b id q e x
acted_one old new a b id q r e (Ok o) here is h = (h.0, is ∙ ap (map.insert a id) h.1, h.2)
acted_one old new a b id q r e (Err w) here is h = (h.0, is ∙ ap (map.insert a id) h.1 ∙ same_set id_total id_exact a id q here)

pub acted_at : (old new : FinMap item_cmp Value) (a b : FinMap id_cmp Instance) (id : IntentId) (q r : Instance) (e : Effect) (x : Result (Option Answer) AllocError) → map.get a id ≡ Some q → b ≡ map.insert a id r → Acted old new q r e x → (s : Instance) → map.get a id ≡ Some s → ActedAt old new a b id s e x
acted_at old new a b id q r e x here is h s also =
    let same : q ≡ s = let both = sym here ∙ also in cc in
    subst (λ (s : Instance). ActedAt old new a b id s e x) same (acted_one old new a b id q r e x here is h)

-- the machine of an instance that was answered
pub answered_so : (d : Deployment) (q : Instance) (m : Machine) (a : Answer) → StandsFor d q m → wants_answer m.effect ≡ true → StandsFor d (answered q a) (resumed d m a)
answered_so d q m a h w = stands_there d q.func q.args (is_some q.enclosing) (resumed d m a) (q.answers ++ a ∷ []) (at_next d q.func q.args (is_some q.enclosing) m q.answers a w (h.1 w))

-- an instance is answered, and its machine goes on
goes_so : (d : Deployment) (made : FinMap id_cmp Instance) (a b : FinMap id_cmp Machine) (id : IntentId) (q : Instance) (m : Machine) (x : Answer) → AllStand d made a → q.outcome ≡ None → StandsFor d q m → wants_answer m.effect ≡ true → IsKept a b id (resumed d m x) → AllStand d (map.insert made id (answered q x)) b
goes_so d made a b id q m x all yet h w kept =
    kept_stand d made (map.insert made id (answered q x)) a b id (resumed d m x) all (λ j off has. apart id_total made id j (answered q x) off)
    (subst (λ o. StandsForOne d o (resumed d m x)) (sym (there id_total made id id (answered q x) ((eq_by_cmp_equiv id_total).refl id))) (yet, answered_so d q m x h w)) kept

-- an operation on an item, or a read
acts_so : (d : Deployment) (p : PlainState) (a b : FinMap id_cmp Machine) (id : IntentId) (m : Machine) (o : Option OnItem) → AllStand d p.made a → (h : IsReady d p id m) → wants_answer m.effect ≡ true → Follows d a b id m (next_of (answer_if p.items h.instance o)) → AllStand d (operated p id h.instance o).made b
acts_so d p a b id m None all h w kept = back_stand d p a b id m all h kept
acts_so d p a b id m (Some o) all h w kept = goes_so d p.made a b id h.instance m (answer_on p.items (item_in h.instance.func o) o.does) all h.yet h.stands w kept

-- who waits is answered, where the machine that is kept for it goes on
gives_so : (d : Deployment) (p : PlainState) (a b : FinMap id_cmp Machine) (c : IntentId) (x : Answer) (o : Option Instance) → AllStand d p.made a → map.get p.made c ≡ o → Passes d a b c x → AllStand d (give p c x o).made b
gives_so d p a b c x None all is (inl left) = others_stand d p.made p.made a b c all (λ j off has. refl) left
gives_so d p a b c x (Some q) all is (inl left) = others_stand d p.made (map.insert p.made c (answered q x)) a b c all (λ j off has. apart id_total p.made c j (answered q x) off) left
gives_so d p a b c x None all is (inr (m, at, w, kept)) = absurd (subst (λ o. StandsForOne d o m) is (all c m at))
gives_so d p a b c x (Some q) all is (inr (m, at, w, kept)) =
    let stands : StandsForOne d (Some q) m = subst (λ o. StandsForOne d o m) is (all c m at) in
    let rest = others_stand d p.made p.made a (map.remove a c) c all (λ j off has. refl) refl in
    goes_so d p.made (map.remove a c) b c q m x rest stands.0 stands.1 w kept

ends_so : (d : Deployment) (p : PlainState) (a b : FinMap id_cmp Machine) (id : IntentId) (m : Machine) (c : Option IntentId) (o : Outcome) → AllStand d p.made (map.remove a id) → Follows d a b id m (next_told c o) → AllStand d (tell p c o).made b
ends_so d p a b id m None o all is = subst (AllStand d p.made) (sym is) all
ends_so d p a b id m (Some c) o all passes = gives_so d p (map.remove a id) b c (answer_of o) (map.get p.made c) all refl passes

-- a callee is made
callee_stands : (d : Deployment) (p : PlainState) (a : FinMap id_cmp Machine) (id : IntentId) (q : Instance) (f : ℕ) (x : Value) (waits : Bool) → AllStand d p.made a → is_some (map.get p.made (callee_of id q)) ≡ false → AllStand d (with_callee p id q f x waits).made a
callee_stands d p a id q f x waits all free = started d p (with_callee p id q f x waits) a (callee_of id q) (new_instance f x (Some (calls_at id q waits))) all (none_of (map.get p.made (callee_of id q)) free) refl

-- a step keeps the machines with their instances
step_of : (d : Deployment) (p : PlainState) (a b : FinMap id_cmp Machine) (id : IntentId) (m : Machine) (e : Effect) → AllStand d p.made a → (h : IsReady d p id m) → m.effect ≡ e → waits_at p.made id h.instance e ≡ false → Follows d a b id m (next_by p.items h.instance e) → AllStand d (step_by p id h.instance e).made b
step_of d p a b id m (Effect.Read t k) all h is free goes = goes_so d p.made a b id h.instance m (Answer.Value (value_at p (item_of h.instance t k))) all h.yet h.stands (ap wants_answer is) goes
step_of d p a b id m (Effect.Call f x) all h is free goes =
    let q = h.instance in
    callee_stands d p b id q f x true (back_stand d p a b id m all h goes) free
step_of d p a b id m (Effect.Async f x) all h is free goes =
    let q = h.instance in
    goes_so d (with_callee p id q f x false).made a b id q m Answer.Done (callee_stands d p a id q f x false all free) h.yet h.stands (ap wants_answer is) goes
step_of d p a b id m (Effect.Return o) all h is free goes =
    let q = h.instance in
    let one = with_instance p id (ended q o) in
    subst (λ (r : PlainState). AllStand d r.made b) (sym (caller_told one q.parent o))
    (ends_so d one a b id m (waiter q.parent) o (others_stand d p.made one.made a (map.remove a id) id all (λ j off has. apart id_total p.made id j (ended q o) off) refl) goes)
step_of d p a b id m e all h is free goes = acts_so d p a b id m (op_of e) all h (ap wants_answer is) goes

pub step_stands : (d : Deployment) (p r : PlainState) (a b : FinMap id_cmp Machine) (id : IntentId) (m : Machine) (n : Next) → AllStand d p.made a → (h : IsFree d p id m) → Made p r id h.ready.instance m.effect (Ok n) → Follows d a b id m n → AllStand d r.made b
step_stands d p r a b id m n all h made goes =
    subst (λ (s : PlainState). AllStand d s.made b) (sym made.0)
    (step_of d p a b id m m.effect all h.ready refl (ap (waits_at p.made id h.ready.instance) h.ready.stands.0 ∙ h.free) (subst (Follows d a b id m) made.1 goes))

-- ---- calls

-- without the machine that was taken
pub rest_stand : (d : Deployment) (made : FinMap id_cmp Instance) (a b : FinMap id_cmp Machine) (id : IntentId) → AllStand d made a → b ≡ map.remove a id → AllStand d made b
rest_stand d made a b id all is = others_stand d made made a b id all (λ j off has. refl) is

-- a transaction of an instance
pub transacted : (d : Deployment) (p r : PlainState) (a b : FinMap id_cmp Machine) (id : IntentId) (m : Machine) → AllStand d p.made a → AreKept p r id → IsReady d r id m → IsKept a b id m → AllStand d r.made b
transacted d p r a b id m all others ready kept = kept_stand d p.made r.made a b id m all others (ready_one d r id m ready) kept
