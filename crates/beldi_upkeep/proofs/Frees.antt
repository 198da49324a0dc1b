-- Who stands at an Unlock holds its lock, and who returns holds none: the locks of a body are those that its answers hold, and it frees no other.
use Rattle.std.specs.Prelude.{nat_lt, not}
use Rattle.std.proofs.Common.{Bool, Err, List, None, Ok, Option, Result, Some, [], ap, append-nil, append_assoc, eq-eqb, eqb-true, false, if◌then◌else◌, is_some, refl, subst, suc, sym, true, zero, ℕ, ◌&&◌, ◌++◌, ◌+◌, ◌==◌, ◌||◌, ◌∙◌, ◌∷◌, ◌≡◌}
use Rattle.std.proofs.{lemmas.Bool.or_parts, lemmas.Cmp.tied_itself, lemmas.Slice.Eq.slice_eq-Decides}
use Rattle.std.specs.Cmp.{unsigned_Decides}
use Rattle.std.specs.Ordering.{is_eq}
use Rattle.beldi_value.specs.declared.{outcome.Code.Code, outcome.Outcome.Outcome, value.Value.Value, value.Value.TheVariants.Null}
use Rattle.beldi_tree.specs.StatementCommand.{Command, Commands, abort, async, break, call, choose, command, condwrite, lock, no_commands, read, repeat, return, set, transaction, unlock, write}
use Rattle.beldi_tree.specs.{Bindings.Bindings, Bindings.is_name, Evaluate.and_then, Evaluate.term_value, Evaluate.truth, Names.func_at, declared.deployment.Deployment.Deployment, declared.deployment.TableHead.TableHead}
use Rattle.beldi_lang.specs.Wants.{Does, Leads, Local, answered, asks, body, body_of, breaks, closed, closes, counted, does, effect_of, effect_to, ends, fault, first_local, followed, func_number, goes, inside_of, key_value, locks, looped, most_effects, or_fault, releases, run_block, set_to, table_number, tables_of, takes, transact, turns, unlocks, wants}
use Rattle.beldi_lang.specs.{HeldLocks.is_held, HeldLocks.is_lock, HeldLocks.is_none_held, HeldLocks.without, declared.effect.Answer.Answer, declared.effect.Effect.Effect, declared.state.HeldLock.HeldLock}
use Rattle.beldi_plain.specs.{Holds.held_along, Holds.held_by, Holds.held_if, Holds.holds, Item.Item, Item.item_cmp, Item.item_total, Operation.OnItem, Operation.item_in, Operation.op_of, Plain.Instance}
use Rattle.beldi_plain_laws.proofs.PlainOperations.{held_pushed, item_same}
use Rattle.beldi_histories.proofs.{Cases.by_cases, Cases.if_same, Flows.asked, Flows.held_after}
use Rattle.beldi_invariant.proofs.Cases.{false_by}
use Rattle.beldi_upkeep.specs.Freed.{FreesWhatItHolds, ReturnsHoldNone}

-- ---- no lock is held twice
abbrev Once : List HeldLock → Type 0
Once [] = Unit {0}
Once (l ∷ ls) = (is_held l.table l.key ls ≡ false) × Once ls

name_decides : (a b : List ℕ) → (is_name a b ≡ true → a ≡ b) × (a ≡ b → is_name a b ≡ true)
name_decides a b = slice_eq-Decides unsigned_Decides a b (is_name a b) refl

lock_is : (t : ℕ) (k : List ℕ) (l : HeldLock) → is_lock t k l ≡ true → (l.table ≡ t) × (l.key ≡ k)
lock_is t k l h = by_cases (l.table == t) (λ e. (eqb-true l.table t e, (name_decides l.key k).0 (sym (ap (λ b. b && is_name l.key k) e) ∙ h)))
    (λ e. let clash = sym h ∙ ap (λ b. b && is_name l.key k) e in cc)

lock_itself : (l : HeldLock) → is_lock l.table l.key l ≡ true
lock_itself l = ap (λ b. b && is_name l.key l.key) (eq-eqb l.table l.table refl) ∙ (name_decides l.key l.key).1 refl

-- two tests of one fact
alike : (a b : Bool) → (a ≡ true → b ≡ true) → (b ≡ true → a ≡ true) → a ≡ b
alike true b f g = sym (f refl)
alike false true f g = g refl
alike false false f g = refl

-- a lock, by its table and key
abbrev of : ℕ → List ℕ → HeldLock
of t k = record { table = t; key = k }

lock_back : (l m : HeldLock) → is_lock l.table l.key m ≡ true → is_lock m.table m.key l ≡ true
lock_back l m h = let e = lock_is l.table l.key m h in let same : l ≡ m = λ i. record { table = sym e.0 i; key = sym e.1 i } in subst (λ z. is_lock m.table m.key z ≡ true) (sym same) (lock_itself m)

lock_turns : (l m : HeldLock) → is_lock l.table l.key m ≡ is_lock m.table m.key l
lock_turns l m = alike (is_lock l.table l.key m) (is_lock m.table m.key l) (lock_back l m) (lock_back m l)

or_swap : (a b c : Bool) → (a || (b || c)) ≡ ((a || b) || c)
or_swap true b c = refl
or_swap false b c = refl

-- ---- the locks after a lock, and after an unlock
held_more : (t : ℕ) (k : List ℕ) (hs : List HeldLock) (l : HeldLock) → is_held t k (hs ++ l ∷ []) ≡ (is_held t k hs || is_lock t k l)
held_more t k [] l = or_false (is_lock t k l)
  where
    or_false : (b : Bool) → (b || false) ≡ b
    or_false true = refl
    or_false false = refl
held_more t k (m ∷ ms) l = ap (λ b. is_lock t k m || b) (held_more t k ms l) ∙ or_swap (is_lock t k m) (is_held t k ms) (is_lock t k l)

held_less : (t u : ℕ) (k j : List ℕ) (hs : List HeldLock) → is_held t k (without u j hs) ≡ (if is_lock t k (of u j) then false else is_held t k hs)
held_less t u k j [] = sym (if_same (is_lock t k (of u j)) false)
held_less t u k j (m ∷ ms) = by_test (is_lock u j m) refl (is_lock t k (of u j)) refl (held_less t u k j ms)
  where
    by_test : (b : Bool) → is_lock u j m ≡ b → (s : Bool) → is_lock t k (of u j) ≡ s → is_held t k (without u j ms) ≡ (if is_lock t k (of u j) then false else is_held t k ms)
        → is_held t k (if not (is_lock u j m) then m ∷ without u j ms else without u j ms) ≡ (if is_lock t k (of u j) then false else (is_lock t k m || is_held t k ms))
    by_test true e true f h = ap (λ b. is_held t k (if not b then m ∷ without u j ms else without u j ms)) e ∙ h ∙ ap (λ s. if s then false else is_held t k ms) f ∙ ap (λ s. if s then false else (is_lock t k m || is_held t k ms)) (sym f)
    by_test true e false f h =
        let same = lock_is u j m e in
        let other : is_lock t k m ≡ false = (λ i. is_lock t k (record { table = same.0 i; key = same.1 i })) ∙ f in
        ap (λ b. is_held t k (if not b then m ∷ without u j ms else without u j ms)) e ∙ h ∙ ap (λ s. if s then false else is_held t k ms) f ∙ ap (λ s. s || is_held t k ms) (sym other) ∙ ap (λ s. if s then false else (is_lock t k m || is_held t k ms)) (sym f)
    by_test false e true f h =
        let same = lock_is t k (of u j) f in
        let other : is_lock t k m ≡ false = (λ i. is_lock (sym same.0 i) (sym same.1 i) m) ∙ e in
        ap (λ b. is_held t k (if not b then m ∷ without u j ms else without u j ms)) e ∙ ap (λ s. s || is_held t k (without u j ms)) other ∙ h ∙ ap (λ s. if s then false else is_held t k ms) f ∙ ap (λ s. if s then false else (is_lock t k m || is_held t k ms)) (sym f)
    by_test false e false f h = ap (λ b. is_held t k (if not b then m ∷ without u j ms else without u j ms)) e ∙ ap (λ s. is_lock t k m || s) (h ∙ ap (λ s. if s then false else is_held t k ms) f) ∙ ap (λ s. if s then false else (is_lock t k m || is_held t k ms)) (sym f)

-- a test of an item of one function is that of its table and key
item_test : (func t u : ℕ) (k j : List ℕ) → is_eq (item_cmp (record { func = func; table = u; key = j }) (record { func = func; table = t; key = k })) ≡ is_lock t k (of u j)
item_test func t u k j = alike (is_eq (item_cmp (record { func = func; table = u; key = j }) (record { func = func; table = t; key = k }))) (is_lock t k (of u j))
    (λ e. let same = item_same (record { func = func; table = u; key = j }) (record { func = func; table = t; key = k }) e in subst (λ (y : Item). is_lock y.table y.key (of u j) ≡ true) same (lock_itself (of u j)))
    (λ e. let same = lock_is t k (of u j) e in subst (λ (y : Item). is_eq (item_cmp (record { func = func; table = u; key = j }) y) ≡ true) (λ i. record { func = func; table = same.0 i; key = same.1 i }) (ap is_eq (tied_itself item_total (record { func = func; table = u; key = j }))))

if_or : (b c : Bool) → (if b then true else c) ≡ (c || b)
if_or true true = refl
if_or true false = refl
if_or false true = refl
if_or false false = refl

-- what the answers say that is held moves as the locks do
abbrev item : ℕ → ℕ → List ℕ → Item
item func t k = record { func = func; table = t; key = k }

locks_move : (func t : ℕ) (k : List ℕ) (e : Effect) (hs : List HeldLock) → held_if (item func t k) func (op_of e) (is_held t k hs) ≡ is_held t k (held_after e hs)
locks_move func t k (Effect.Write u j v) hs = if_same (is_eq (item_cmp (item func u j) (item func t k))) (is_held t k hs)
locks_move func t k (Effect.CondWrite u j r o v) hs = if_same (is_eq (item_cmp (item func u j) (item func t k))) (is_held t k hs)
locks_move func t k (Effect.Lock u j) hs = ap (λ b. if b then true else is_held t k hs) (item_test func t u k j) ∙ if_or (is_lock t k (of u j)) (is_held t k hs) ∙ sym (held_more t k hs (of u j))
locks_move func t k (Effect.Unlock u j) hs = ap (λ b. if b then false else is_held t k hs) (item_test func t u k j) ∙ sym (held_less t u k j hs)
locks_move func t k e hs = refl

-- .. and it is of items of its own function
held_own : (x : Item) (func : ℕ) (o : Option OnItem) (b : Bool) → (b ≡ true → x.func ≡ func) → held_if x func o b ≡ true → x.func ≡ func
held_own x func None b was h = was h
held_own x func (Some o) b was h = by_test (is_eq (item_cmp (item_in func o) x)) refl h
  where
    by_test : (c : Bool) → is_eq (item_cmp (item_in func o) x) ≡ c → (if c then held_by o.does b else b) ≡ true → x.func ≡ func
    by_test true e h = ap (λ (z : Item). z.func) (sym (item_same (item_in func o) x e))
    by_test false e h = was h

-- ---- no lock is held twice
once_more : (hs : List HeldLock) (l : HeldLock) → is_held l.table l.key hs ≡ false → Once hs → Once (hs ++ l ∷ [])
once_more [] l none once = (refl, tt)
once_more (m ∷ ms) l none once =
    let k = or_parts (is_lock l.table l.key m) (is_held l.table l.key ms) none in
    (held_more m.table m.key ms l ∙ (λ i. once.0 i || (lock_turns m l ∙ k.0) i), once_more ms l k.1 once.1)

once_less : (u : ℕ) (j : List ℕ) (hs : List HeldLock) → Once hs → Once (without u j hs)
once_less u j [] once = tt
once_less u j (m ∷ ms) once = by_test (is_lock u j m) (once_less u j ms once.1)
  where
    by_test : (b : Bool) → Once (without u j ms) → Once (if not b then m ∷ without u j ms else without u j ms)
    by_test true h = h
    by_test false h = (held_less m.table u m.key j ms ∙ ap (λ b. if is_lock m.table m.key (of u j) then false else b) once.0 ∙ if_same (is_lock m.table m.key (of u j)) false, h)

without_none : (u : ℕ) (j : List ℕ) (hs : List HeldLock) → is_held u j hs ≡ false → without u j hs ≡ hs
without_none u j [] none = refl
without_none u j (m ∷ ms) none = by_test (is_lock u j m) refl (without_none u j ms)
  where
    by_test : (b : Bool) → is_lock u j m ≡ b → (is_held u j ms ≡ false → without u j ms ≡ ms) → (if not (is_lock u j m) then m ∷ without u j ms else without u j ms) ≡ m ∷ ms
    by_test true e h = let clash = sym (ap (λ b. b || is_held u j ms) e) ∙ none in absurd (cc)
    by_test false e h = ap (λ b. if not b then m ∷ without u j ms else without u j ms) e ∙ ap (λ xs. m ∷ xs) (h (sym (ap (λ b. b || is_held u j ms) e) ∙ none))

-- ---- how a body goes, with the locks that it has
-- how statements are left
data Left : Type 0 where
  at_end : Left
  at_break : Left
  at_outcome : Outcome → Left

abbrev leads_by : Left → Does
leads_by at_end s rest = goes s rest
leads_by at_break s rest = breaks s rest
leads_by (at_outcome o) s rest = ends o s rest

-- an Unlock is of a lock that is held, and a Return with none
abbrev Frees : List HeldLock → Effect → Type 0
Frees hs (Effect.Unlock t k) = is_held t k hs ≡ true
Frees hs (Effect.Return o) = hs ≡ []
Frees hs e = Unit {0}

data Track : List HeldLock → (List Answer → Leads) → Type 0 where
  left : (hs : List HeldLock) (F : List Answer → Leads) (x : Left) (s : Local) → Once s.held → s.held ≡ hs → ((ts : List Answer) → F ts ≡ leads_by x s ts) → Track hs F
  wanted : (hs : List HeldLock) (F : List Answer → Leads) (i : Bool) (e : Effect) → F [] ≡ asks i e → Frees hs e → ((a : Answer) → Track (held_after e hs) (λ ts. F (a ∷ ts))) → Track hs F
  returned : (hs : List HeldLock) (F : List Answer → Leads) (i : Bool) (o : Outcome) → hs ≡ [] → ((ts : List Answer) → F ts ≡ asks i (Effect.Return o)) → Track hs F

same_track : (hs gs : List HeldLock) (F G : List Answer → Leads) → hs ≡ gs → ((ts : List Answer) → F ts ≡ G ts) → Track hs F → Track gs G
same_track hs gs F G h g f = let same : F ≡ G = λ k ts. g ts k in subst (λ xs. Track xs G) h (subst (Track hs) same f)

abbrev TrackDoes : Does → Type 0
TrackDoes f = (s : Local) → Once s.held → Track s.held (f s)

abbrev TrackResult : Result Does Code → Type 0
TrackResult (Ok f) = TrackDoes f
TrackResult (Err c) = Unit {0}

leaves : (x : Left) → TrackDoes (leads_by x)
leaves x s once = left s.held (leads_by x s) x s once refl (λ ts. refl)

-- what follows statements: it leaves what they ask for
module _ (K : Leads → Leads) (keeps : (b : Bool) (e : Effect) → K (asks b e) ≡ asks b e) (after : (x : Left) (s : Local) → Once s.held → Track s.held (λ ts. K (leads_by x s ts))) where
  passes : (hs : List HeldLock) (F : List Answer → Leads) → Track hs F → Track hs (λ ts. K (F ts))
  passes _ _ (left hs F x s once same e) = same_track s.held hs (λ ts. K (leads_by x s ts)) (λ ts. K (F ts)) same (λ ts. ap K (sym (e ts))) (after x s once)
  passes _ _ (wanted hs F i e is frees more) = wanted hs (λ ts. K (F ts)) i e (ap K is ∙ keeps i e) frees (λ a. passes (held_after e hs) (λ ts. F (a ∷ ts)) (more a))
  passes _ _ (returned hs F i o none e) = returned hs (λ ts. K (F ts)) i o none (λ ts. ap K (e ts) ∙ keeps i (Effect.Return o))

if_track : (b : Bool) (hs : List HeldLock) (F G : List Answer → Leads) → Track hs F → Track hs G → Track hs (λ ts. if b then F ts else G ts)
if_track true hs F G f g = f
if_track false hs F G f g = g

counted_track : (f : Does) (s : Local) → Once s.held → Track s.held (f (record s { used = s.used + 1 })) → Track s.held (counted f s)
counted_track f s once h = if_track (nat_lt s.used most_effects) s.held (f (record s { used = s.used + 1 })) (fault Code.Steps s) h (leaves (at_outcome (Outcome.Fault Code.Steps)) s once)

answered_track : (n : Option (List ℕ)) (a : Answer) → TrackDoes (answered n a)
answered_track n Answer.Done s = leaves at_end s
answered_track None (Answer.Value v) s = leaves at_end s
answered_track (Some n) (Answer.Value v) s = leaves at_end (set_to n v s)
answered_track n (Answer.Fault c) s = leaves (at_outcome (Outcome.Fault c)) s
answered_track n (Answer.Aborted c) s = leaves (at_outcome (Outcome.Aborted c)) s

-- an effect, with the locks that it leaves
takes_track : (i : Bool) (n : Option (List ℕ)) (e : Effect) (h : Local → Local) (s : Local) → (h s).held ≡ held_after e s.held → Once (h s).held → Frees s.held e → Track s.held (takes i e (λ a u. answered n a (h u)) s)
takes_track i n e h s same once frees = wanted s.held (takes i e (λ a u. answered n a (h u)) s) i e refl frees (λ a. subst (λ hs. Track hs (answered n a (h s))) same (answered_track n a (h s) once))

effect_track : (i : Bool) (n : Option (List ℕ)) (e : Effect) → ((hs : List HeldLock) → hs ≡ held_after e hs) → ((hs : List HeldLock) → Frees hs e) → TrackDoes (effect_to i n e)
effect_track i n e same frees s once = counted_track (takes i e (answered n)) s once (takes_track i n e (λ u. u) (record s { used = s.used + 1 }) (same s.held) once (frees s.held))

then_track : {A : Type 0} (r : Result A Code) (f : A → Result Does Code) → ((x : A) → TrackResult (f x)) → TrackResult (and_then r f)
then_track (Ok x) f h = h x
then_track (Err c) f h = tt

or_fault_track : (r : Result Does Code) → TrackResult r → TrackDoes (or_fault r)
or_fault_track (Ok f) h s = h s
or_fault_track (Err c) h s = leaves (at_outcome (Outcome.Fault c)) s

locks_track : (i : Bool) (t : ℕ) (k : List ℕ) → TrackDoes (locks i t k)
locks_track i t k s once = by_test (is_held t k s.held) refl
  where
    h : Local → Local
    h u = record u { held = u.held ++ of t k ∷ [] }

    by_test : (b : Bool) → is_held t k s.held ≡ b → Track s.held (λ ts. if b then goes s ts else counted (takes i (Effect.Lock t k) (λ a u. answered None a (record u { held = u.held ++ of t k ∷ [] }))) s ts)
    by_test true e = leaves at_end s once
    by_test false e = counted_track (takes i (Effect.Lock t k) (λ a u. answered None a (record u { held = u.held ++ of t k ∷ [] }))) s once
        (takes_track i None (Effect.Lock t k) (λ u. record u { held = u.held ++ of t k ∷ [] }) (record s { used = s.used + 1 }) refl (once_more s.held (of t k) e once) tt)

unlocks_track : (i : Bool) (t : ℕ) (k : List ℕ) → TrackDoes (unlocks i t k)
unlocks_track i t k s once = by_test (is_held t k s.held) refl
  where
    by_test : (b : Bool) → is_held t k s.held ≡ b → Track s.held (λ ts. if b then counted (takes i (Effect.Unlock t k) (λ a u. answered None a (record u { held = without t k u.held }))) s ts else goes s ts)
    by_test true e = counted_track (takes i (Effect.Unlock t k) (λ a u. answered None a (record u { held = without t k u.held }))) s once
        (takes_track i None (Effect.Unlock t k) (λ u. record u { held = without t k u.held }) (record s { used = s.used + 1 }) refl (once_less t k s.held once) e)
    by_test false e = leaves at_end s once

-- ---- blocks
followed_track : (f : Does) → TrackDoes f → (hs : List HeldLock) (F : List Answer → Leads) → Track hs F → Track hs (λ ts. followed f (F ts))
followed_track f h = passes (followed f) (λ b e. refl) after
  where
    after : (x : Left) (s : Local) → Once s.held → Track s.held (λ ts. followed f (leads_by x s ts))
    after at_end = h
    after at_break = leaves at_break
    after (at_outcome o) = leaves (at_outcome o)

looped_track : (f : Does) → TrackDoes f → (hs : List HeldLock) (F : List Answer → Leads) → Track hs F → Track hs (λ ts. looped f (F ts))
looped_track f h = passes (looped f) (λ b e. refl) after
  where
    after : (x : Left) (s : Local) → Once s.held → Track s.held (λ ts. looped f (leads_by x s ts))
    after at_end = h
    after at_break = leaves at_end
    after (at_outcome o) = leaves (at_outcome o)

turns_track : (f : Does) → TrackDoes f → (n : ℕ) → TrackDoes (turns f n)
turns_track f h zero s once = leaves at_end s once
turns_track f h (suc n) s once = counted_track (λ s rest. looped (turns f n) (f s rest)) s once (looped_track (turns f n) (turns_track f h n) s.held (f (record s { used = s.used + 1 })) (h (record s { used = s.used + 1 }) once))

closes_track : (commit : Bool) (k : Does) → TrackDoes k → TrackDoes (closes commit k)
closes_track commit k h s once = wanted s.held (closes commit k s) true (Effect.End commit) refl tt (λ a. h s once)

module _ (f g : Does) (first : TrackDoes f) (second : TrackDoes g) where
  closed_track : (vs : Bindings) (x : Left) (s : Local) → Once s.held → Track s.held (λ ts. closed vs g (leads_by x s ts))
  closed_track vs at_end = closes_track true goes (leaves at_end)
  closed_track vs at_break = closes_track true breaks (leaves at_break)
  closed_track vs (at_outcome (Outcome.Value v)) = closes_track true (ends (Outcome.Value v)) (leaves (at_outcome (Outcome.Value v)))
  closed_track vs (at_outcome (Outcome.Fault c)) = closes_track false (ends (Outcome.Fault c)) (leaves (at_outcome (Outcome.Fault c)))
  closed_track vs (at_outcome (Outcome.Aborted c)) = closes_track false (λ t. g (record t { variables = vs })) (λ s once. second (record s { variables = vs }) once)

  abbrev start : Answer → Does
  start a s rest = closed s.variables g (f s rest)

  transact_track : TrackDoes (transact f g)
  transact_track s once =
      let u : Local = record s { used = s.used + 1 } in
      if_track (is_none_held s.held) s.held (counted (takes false Effect.Begin start) s) (fault Code.LocksHeld s)
      (counted_track (takes false Effect.Begin start) s once (wanted s.held (takes false Effect.Begin start u) false Effect.Begin refl tt (λ a. passes (closed u.variables g) (λ b e. refl) (closed_track u.variables) s.held (f u) (first u once))))
      (leaves (at_outcome (Outcome.Fault Code.LocksHeld)) s once)

module _ (d : Deployment) (ts : List TableHead) where
  mutual
    tracks : (i : Bool) (c : Command) (vs : Bindings) → TrackResult (does d ts i c vs)
    tracks i (set l n e) vs = then_track (term_value vs e) (λ v. Ok (λ s. goes (set_to n v s))) (λ v s once. leaves at_end (set_to n v s) once)
    tracks i (read l n t k) vs = then_track (key_value vs k) (λ key. Ok (effect_to i (Some n) (Effect.Read (table_number ts t) key))) (λ key. effect_track i (Some n) (Effect.Read (table_number ts t) key) (λ hs. refl) (λ hs. tt))
    tracks i (write l t k e) vs = then_track (key_value vs k) (λ key. and_then (term_value vs e) (λ v. Ok (effect_to i None (Effect.Write (table_number ts t) key v)))) (λ key. then_track (term_value vs e) (λ v. Ok (effect_to i None (Effect.Write (table_number ts t) key v))) (λ v. effect_track i None (Effect.Write (table_number ts t) key v) (λ hs. refl) (λ hs. tt)))
    tracks i (condwrite l n t k r o e) vs =
        then_track (key_value vs k) (λ key. and_then (term_value vs o) (λ w. and_then (term_value vs e) (λ v. Ok (effect_to i (Some n) (Effect.CondWrite (table_number ts t) key r w v))))) (λ key.
        then_track (term_value vs o) (λ w. and_then (term_value vs e) (λ v. Ok (effect_to i (Some n) (Effect.CondWrite (table_number ts t) key r w v)))) (λ w.
        then_track (term_value vs e) (λ v. Ok (effect_to i (Some n) (Effect.CondWrite (table_number ts t) key r w v))) (λ v. effect_track i (Some n) (Effect.CondWrite (table_number ts t) key r w v) (λ hs. refl) (λ hs. tt))))
    tracks i (call l n f e) vs = then_track (term_value vs e) (λ v. Ok (effect_to i (Some n) (Effect.Call (func_number d.funcs f) v))) (λ v. effect_track i (Some n) (Effect.Call (func_number d.funcs f) v) (λ hs. refl) (λ hs. tt))
    tracks i (async l f e) vs = then_track (term_value vs e) (λ v. Ok (effect_to i None (Effect.Async (func_number d.funcs f) v))) (λ v. effect_track i None (Effect.Async (func_number d.funcs f) v) (λ hs. refl) (λ hs. tt))
    tracks i (lock l t k) vs = then_track (key_value vs k) (λ key. Ok (locks i (table_number ts t) key)) (λ key. locks_track i (table_number ts t) key)
    tracks i (unlock l t k) vs = then_track (key_value vs k) (λ key. Ok (unlocks i (table_number ts t) key)) (λ key. unlocks_track i (table_number ts t) key)
    tracks true (transaction l b c) vs = tracks_in true b
    tracks false (transaction l b c) vs = transact_track (run_block d ts true b) (run_block d ts false c) (tracks_in true b) (tracks_in false c)
    tracks true (abort l) vs = effect_track true None Effect.Abort (λ hs. refl) (λ hs. tt)
    tracks false (abort l) vs = tt
    tracks i (break l) vs = leaves at_break
    tracks i (choose l e b c) vs = then_track (term_value vs e) (λ v. and_then (truth v) (λ test. Ok (if test then run_block d ts i b else run_block d ts i c))) (λ v. then_track (truth v) (λ test. Ok (if test then run_block d ts i b else run_block d ts i c)) (λ test. elim test as (λ t. TrackDoes (if t then run_block d ts i b else run_block d ts i c)) [ true ↦ tracks_in i b | false ↦ tracks_in i c ]))
    tracks i (repeat l n b) vs = turns_track (run_block d ts i b) (tracks_in i b) n
    tracks i (return l e) vs = then_track (term_value vs e) (λ v. Ok (ends (Outcome.Value v))) (λ v. leaves (at_outcome (Outcome.Value v)))

    tracks_in : (i : Bool) (b : Commands) → TrackDoes (run_block d ts i b)
    tracks_in i no_commands s once = leaves at_end s once
    tracks_in i (command c cs) s once = followed_track (run_block d ts i cs) (tracks_in i cs) s.held (or_fault (does d ts i c s.variables) s) (or_fault_track (does d ts i c s.variables) (tracks i c s.variables) s once)

-- ---- a body, and its releases
releases_track : (i : Bool) (o : Outcome) (hs : List HeldLock) → Once hs → Track hs (λ ts. asks i (releases o hs ts))
releases_track i o [] once = returned [] (λ ts. asks i (releases o [] ts)) i o refl (λ ts. refl)
releases_track i o (l ∷ ls) once = wanted (l ∷ ls) (λ ts. asks i (releases o (l ∷ ls) ts)) i (Effect.Unlock l.table l.key) refl (ap (λ b. b || is_held l.table l.key ls) (lock_itself l))
    (λ a. subst (λ hs. Track hs (λ ts. asks i (releases o ls ts))) (sym (ap (λ b. if not b then l ∷ without l.table l.key ls else without l.table l.key ls) (lock_itself l) ∙ without_none l.table l.key ls once.0)) (releases_track i o ls once.1))

body_track : (d : Deployment) (func : ℕ) (args : Value) (inherited : Bool) → Track [] (λ ts. asked inherited (body d (func_at d func) args inherited ts))
body_track d func args inherited =
    let o = func_at d func in
    passes (asked inherited) (λ b e. refl) after [] (body d o args inherited) (tracks_in d (tables_of o) inherited (body_of o) (first_local o args) tt)
  where
    after : (x : Left) (s : Local) → Once s.held → Track s.held (λ ts. asked inherited (leads_by x s ts))
    after at_end s = releases_track inherited (Outcome.Value Null) s.held
    after at_break s = releases_track inherited (Outcome.Value Null) s.held
    after (at_outcome o) s = releases_track inherited o s.held

-- ---- after an answer more
no_ask : (x : Left) (s : Local) (i : Bool) (e : Effect) → leads_by x s [] ≡ asks i e → ⊥
no_ask at_end s i e h = cc
no_ask at_break s i e h = cc
no_ask (at_outcome o) s i e h = cc

abbrev Steps : List HeldLock → (List Answer → Leads) → Effect → Type 0
Steps hs F e = Frees hs e × ((a : Answer) → Track (held_after e hs) (λ ts. F (a ∷ ts)))

steps : (hs : List HeldLock) (F : List Answer → Leads) → Track hs F → (i : Bool) (e : Effect) → F [] ≡ asks i e → Steps hs F e
steps _ _ (left hs F x s once same is) i e at = absurd (no_ask x s i e (sym (is []) ∙ at))
steps _ _ (wanted hs F j z is frees more) i e at = subst (Steps hs F) (ap effect_of (sym is ∙ at)) (frees, more)
steps _ _ (returned hs F j o none is) i e at = subst (Steps hs F) (ap effect_of (sym (is []) ∙ at)) (none, λ a. returned hs (λ ts. F (a ∷ ts)) j o none (λ ts. is (a ∷ ts)))

-- ---- an instance after some of its answers
module _ (d : Deployment) (q : Instance) where
  abbrev i : Bool
  i = is_some q.enclosing

  abbrev F : List Answer → List Answer → Leads
  F given ts = asked i (body d (func_at d q.func) q.args i (given ++ ts))

  abbrev e : List Answer → Effect
  e given = wants d q.func q.args i given

  record At (given : List Answer) : Type 0 where
    held : List HeldLock
    track : Track held (F given)
    same : (t : ℕ) (k : List ℕ) → held_along d (item q.func t k) q.func q.args i [] given false ≡ is_held t k held
    own : (x : Item) → held_along d x q.func q.args i [] given false ≡ true → x.func ≡ q.func

  at_first : At []
  at_first = record { held = []; track = body_track d q.func q.args i; same = λ t k. refl; own = λ x is. cc }

  wants_here : (given : List Answer) → F given [] ≡ asks (inside_of i (body d (func_at d q.func) q.args i given)) (e given)
  wants_here given = ap (λ ts. asked i (body d (func_at d q.func) q.args i ts)) (append-nil given)

  steps_at : (given : List Answer) (h : At given) → Steps h.held (F given) (e given)
  steps_at given h = steps h.held (F given) h.track (inside_of i (body d (func_at d q.func) q.args i given)) (e given) (wants_here given)

  at_next : (given : List Answer) (a : Answer) → At given → At (given ++ a ∷ [])
  at_next given a h = record {
    held = held_after (e given) h.held;
    track = same_track (held_after (e given) h.held) (held_after (e given) h.held) (λ ts. F given (a ∷ ts)) (F (given ++ a ∷ [])) refl (λ ts. ap (λ xs. asked i (body d (func_at d q.func) q.args i xs)) (sym (append_assoc given (a ∷ []) ts))) ((steps_at given h).1 a);
    same = λ t k. held_pushed d (item q.func t k) q.func q.args i [] given a false ∙ ap (held_if (item q.func t k) q.func (op_of (e given))) (h.same t k) ∙ locks_move q.func t k (e given) h.held;
    own = λ x is. held_own x q.func (op_of (e given)) (held_along d x q.func q.args i [] given false) (h.own x) (sym (held_pushed d x q.func q.args i [] given a false) ∙ is);
  }

  at_all : (given rest : List Answer) → At given → At (given ++ rest)
  at_all given [] h = subst At (sym (append-nil given)) h
  at_all given (a ∷ rest) h = subst At (append_assoc given (a ∷ []) rest) (at_all (given ++ a ∷ []) rest (at_next given a h))

pub frees_what_it_holds : FreesWhatItHolds
frees_what_it_holds d q t k is = let h = at_all d q [] q.answers (at_first d q) in h.same t k ∙ subst (Frees h.held) is (steps_at d q q.answers h).0

pub returns_hold_none : ReturnsHoldNone
returns_hold_none d q o is x =
    let h = at_all d q [] q.answers (at_first d q) in
    false_by (holds d x (Some q)) (λ e.
    let own = h.own x e in
    let none : h.held ≡ [] = subst (Frees h.held) is (steps_at d q q.answers h).0 in
    let clash = sym e ∙ (λ k. holds d (record { func = own k; table = x.table; key = x.key }) (Some q)) ∙ h.same x.table x.key ∙ ap (is_held x.table x.key) none in cc)
