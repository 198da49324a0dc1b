-- How a body goes: the effects that it wants one after another, whatever they are answered, and the locks that it holds then. No
-- effect of a transaction stands outside of one, none begins inside another, and an abort leads to the end.
use Rattle.beldi_tree.specs.StatementCommand.{write}
use Rattle.beldi_lang.specs.Wants.{answered, body_of, effect_of}
use Rattle.beldi_histories.proofs.Names.{Answer, Bindings, Bool, Cause, Code, Command, Commands, Deployment, Does, Effect, Err, HeldLock, Leads, List, Local, None, Null, Ok, Option, Outcome, Result, Some, TableHead, Value, [], abort, and_then, ap, arith, asks, async, body, break, breaks, call, choose, closed, command, condwrite, counted, does, effect_to, ends, eqb-true, false, fault, first_local, followed, func_at, func_number, goes, if◌then◌else◌, inside_of, is_held, is_none_held, key_value, length, lock, locks, looped, most_effects, nat_lt, no_commands, or_fault, read, refl, releases, repeat, return, run_block, set, set_to, subst, suc, sym, table_number, tables_of, takes, term_value, transact, transaction, true, truth, turns, unlock, unlocks, without, zero, ℕ, ◌++◌, ◌+◌, ◌∙◌, ◌∷◌, ◌≡◌}

-- where a body is: at statements with no transaction of their own open, inside a transaction of its own, at its End after an
-- abort, or at what ends the body
pub data Phase : Type 0 where
  block : Phase
  own : Phase
  aborted : Phase
  leaving : Outcome → Phase

-- an effect that a statement wants, inside a transaction or not
abbrev pub stands : Bool → Effect → Bool
stands i Effect.Begin = false
stands i (Effect.End c) = false
stands i Effect.Abort = i
stands i (Effect.Return o) = false
stands i e = true

-- the locks that are held after an effect
abbrev pub held_after : Effect → List HeldLock → List HeldLock
held_after (Effect.Lock t k) hs = hs ++ record { table = t; key = k } ∷ []
held_after (Effect.Unlock t k) hs = without t k hs
held_after e hs = hs

-- what answers lead to, of statements or of a whole body (`w`), inside a transaction or not (`i`), with these locks; at what ends
-- the body they are those that are still to be released
pub data Flow (w i : Bool) : Phase → List HeldLock → (List Answer → Leads) → Type 0 where
  goes_on : (hs : List HeldLock) (F : List Answer → Leads) (s : Local) → w ≡ false → s.held ≡ hs → ((ts : List Answer) → F ts ≡ goes s ts) → Flow w i block hs F
  breaks_off : (hs : List HeldLock) (F : List Answer → Leads) (s : Local) → w ≡ false → s.held ≡ hs → ((ts : List Answer) → F ts ≡ breaks s ts) → Flow w i block hs F
  left : (hs : List HeldLock) (F : List Answer → Leads) (o : Outcome) (s : Local) → w ≡ false → s.held ≡ hs → ((ts : List Answer) → F ts ≡ ends o s ts) → Flow w i (leaving o) hs F
  frees : (hs : List HeldLock) (F : List Answer → Leads) (o : Outcome) (l : HeldLock) (ls : List HeldLock) → w ≡ true → hs ≡ l ∷ ls → F [] ≡ asks i (Effect.Unlock l.table l.key) → ((a : Answer) → Flow w i (leaving o) ls (λ ts. F (a ∷ ts))) → Flow w i (leaving o) hs F
  returned : (hs : List HeldLock) (F : List Answer → Leads) (o : Outcome) → w ≡ true → hs ≡ [] → ((ts : List Answer) → F ts ≡ asks i (Effect.Return o)) → Flow w i (leaving o) hs F
  leaves : (hs : List HeldLock) (F : List Answer → Leads) (o : Outcome) → Flow w i (leaving o) hs F → Flow w i block hs F
  wanted : (hs : List HeldLock) (F : List Answer → Leads) (e : Effect) → F [] ≡ asks i e → stands i e ≡ true → ((a : Answer) → Flow w i block (held_after e hs) (λ ts. F (a ∷ ts)))
      → ((c : Cause) → Flow w i (leaving (Outcome.Aborted c)) (held_after e hs) (λ ts. F (Answer.Aborted c ∷ ts))) → Flow w i block hs F
  begins : (hs : List HeldLock) (F : List Answer → Leads) → i ≡ false → hs ≡ [] → F [] ≡ asks false Effect.Begin → ((a : Answer) → Flow w i own hs (λ ts. F (a ∷ ts))) → Flow w i block hs F
  inside : (hs : List HeldLock) (F : List Answer → Leads) (e : Effect) → F [] ≡ asks true e → stands true e ≡ true → ((a : Answer) → Flow w i own (held_after e hs) (λ ts. F (a ∷ ts)))
      → ((c : Cause) → Flow w i aborted (held_after e hs) (λ ts. F (Answer.Aborted c ∷ ts))) → Flow w i own hs F
  closes : (hs : List HeldLock) (F : List Answer → Leads) (c : Bool) → F [] ≡ asks true (Effect.End c) → ((a : Answer) → Flow w i block hs (λ ts. F (a ∷ ts))) → Flow w i own hs F
  aborts : (hs : List HeldLock) (F : List Answer → Leads) → F [] ≡ asks true (Effect.End false) → ((a : Answer) → Flow w i block hs (λ ts. F (a ∷ ts))) → Flow w i aborted hs F

-- the same locks, and the same at all answers
same_flow : (w i : Bool) (p : Phase) (hs gs : List HeldLock) (F G : List Answer → Leads) → hs ≡ gs → ((ts : List Answer) → F ts ≡ G ts) → Flow w i p hs F → Flow w i p gs G
same_flow w i p hs gs F G h g f = let same : F ≡ G = λ k ts. g ts k in subst (λ xs. Flow w i p xs G) h (subst (Flow w i p hs) same f)

-- ---- what follows statements: it leaves what they ask for
module _ (w i : Bool) (K : Leads → Leads) (keeps : (b : Bool) (e : Effect) → K (asks b e) ≡ asks b e) (after_goes : (s : Local) → Flow w i block s.held (λ ts. K (goes s ts))) (after_breaks : (s : Local) → Flow w i block s.held (λ ts. K (breaks s ts))) (after_ends : (o : Outcome) (s : Local) → Flow w i (leaving o) s.held (λ ts. K (ends o s ts))) where
  passes : (p : Phase) (hs : List HeldLock) (F : List Answer → Leads) → Flow false i p hs F → Flow w i p hs (λ ts. K (F ts))
  passes _ _ _ (goes_on hs F s part same e) = same_flow w i block s.held hs (λ ts. K (goes s ts)) (λ ts. K (F ts)) same (λ ts. ap K (sym (e ts))) (after_goes s)
  passes _ _ _ (breaks_off hs F s part same e) = same_flow w i block s.held hs (λ ts. K (breaks s ts)) (λ ts. K (F ts)) same (λ ts. ap K (sym (e ts))) (after_breaks s)
  passes _ _ _ (left hs F o s part same e) = same_flow w i (leaving o) s.held hs (λ ts. K (ends o s ts)) (λ ts. K (F ts)) same (λ ts. ap K (sym (e ts))) (after_ends o s)
  passes _ _ _ (frees hs F o l ls part same e more) = cc
  passes _ _ _ (returned hs F o part same e) = cc
  passes _ _ _ (leaves hs F o f) = leaves hs (λ ts. K (F ts)) o (passes (leaving o) hs F f)
  passes _ _ _ (wanted hs F e is fits more none) = wanted hs (λ ts. K (F ts)) e (ap K is ∙ keeps i e) fits (λ a. passes block (held_after e hs) (λ ts. F (a ∷ ts)) (more a)) (λ c. passes (leaving (Outcome.Aborted c)) (held_after e hs) (λ ts. F (Answer.Aborted c ∷ ts)) (none c))
  passes _ _ _ (begins hs F out free is more) = begins hs (λ ts. K (F ts)) out free (ap K is ∙ keeps false Effect.Begin) (λ a. passes own hs (λ ts. F (a ∷ ts)) (more a))
  passes _ _ _ (inside hs F e is fits more none) = inside hs (λ ts. K (F ts)) e (ap K is ∙ keeps true e) fits (λ a. passes own (held_after e hs) (λ ts. F (a ∷ ts)) (more a)) (λ c. passes aborted (held_after e hs) (λ ts. F (Answer.Aborted c ∷ ts)) (none c))
  passes _ _ _ (closes hs F c is more) = closes hs (λ ts. K (F ts)) c (ap K is ∙ keeps true (Effect.End c)) (λ a. passes block hs (λ ts. F (a ∷ ts)) (more a))
  passes _ _ _ (aborts hs F is more) = aborts hs (λ ts. K (F ts)) (ap K is ∙ keeps true (Effect.End false)) (λ a. passes block hs (λ ts. F (a ∷ ts)) (more a))

-- ---- statements
-- what is left with these locks
abbrev FlowDoes : Bool → Does → Type 0
FlowDoes i f = (s : Local) → Flow false i block s.held (f s)

abbrev FlowResult : Bool → Result Does Code → Type 0
FlowResult i (Ok f) = FlowDoes i f
FlowResult i (Err c) = Unit {0}

goes_flow : (i : Bool) → FlowDoes i goes
goes_flow i s = goes_on s.held (goes s) s refl refl (λ ts. refl)

breaks_flow : (i : Bool) → FlowDoes i breaks
breaks_flow i s = breaks_off s.held (breaks s) s refl refl (λ ts. refl)

ends_flow : (i : Bool) (o : Outcome) → FlowDoes i (ends o)
ends_flow i o s = leaves s.held (ends o s) o (left s.held (ends o s) o s refl refl (λ ts. refl))

if_flow : (i b : Bool) (hs : List HeldLock) (F G : List Answer → Leads) → Flow false i block hs F → Flow false i block hs G → Flow false i block hs (λ ts. if b then F ts else G ts)
if_flow i true hs F G f g = f
if_flow i false hs F G f g = g

counted_flow : (i : Bool) (f : Does) → FlowDoes i f → FlowDoes i (counted f)
counted_flow i f h s = if_flow i (nat_lt s.used most_effects) s.held (f (record s { used = s.used + 1 })) (fault Code.Steps s) (h (record s { used = s.used + 1 })) (ends_flow i (Outcome.Fault Code.Steps) s)

answered_flow : (i : Bool) (n : Option (List ℕ)) (a : Answer) → FlowDoes i (answered n a)
answered_flow i n Answer.Done s = goes_flow i s
answered_flow i None (Answer.Value v) s = goes_flow i s
answered_flow i (Some n) (Answer.Value v) s = goes_flow i (set_to n v s)
answered_flow i n (Answer.Fault c) s = ends_flow i (Outcome.Fault c) s
answered_flow i n (Answer.Aborted c) s = ends_flow i (Outcome.Aborted c) s

-- an effect, with the locks that it leaves
held_flow : (i : Bool) (n : Option (List ℕ)) (e : Effect) (h : Local → Local) → ((s : Local) → (h s).held ≡ held_after e s.held) → stands i e ≡ true → FlowDoes i (counted (takes i e (λ a s. answered n a (h s))))
held_flow i n e h same fits = counted_flow i (takes i e (λ a s. answered n a (h s))) (λ s. wanted s.held (takes i e (λ a s. answered n a (h s)) s) e refl fits
    (λ a. subst (λ hs. Flow false i block hs (answered n a (h s))) (same s) (answered_flow i n a (h s)))
    (λ c. left (held_after e s.held) (ends (Outcome.Aborted c) (h s)) (Outcome.Aborted c) (h s) refl (same s) (λ ts. refl)))

effect_flow : (i : Bool) (n : Option (List ℕ)) (e : Effect) → ((s : Local) → s.held ≡ held_after e s.held) → stands i e ≡ true → FlowDoes i (effect_to i n e)
effect_flow i n e same fits = held_flow i n e (λ s. s) same fits

then_flow : {A : Type 0} (i : Bool) (r : Result A Code) (f : A → Result Does Code) → ((x : A) → FlowResult i (f x)) → FlowResult i (and_then r f)
then_flow i (Ok x) f h = h x
then_flow i (Err c) f h = tt

or_fault_flow : (i : Bool) (r : Result Does Code) → FlowResult i r → FlowDoes i (or_fault r)
or_fault_flow i (Ok f) h s = h s
or_fault_flow i (Err c) h s = ends_flow i (Outcome.Fault c) s

-- ---- blocks
followed_flow : (i : Bool) (f : Does) → FlowDoes i f → (hs : List HeldLock) (F : List Answer → Leads) → Flow false i block hs F → Flow false i block hs (λ ts. followed f (F ts))
followed_flow i f h = passes false i (followed f) (λ b e. refl) h (breaks_flow i) (λ o s. left s.held (ends o s) o s refl refl (λ ts. refl)) block

looped_flow : (i : Bool) (f : Does) → FlowDoes i f → (hs : List HeldLock) (F : List Answer → Leads) → Flow false i block hs F → Flow false i block hs (λ ts. looped f (F ts))
looped_flow i f h = passes false i (looped f) (λ b e. refl) h (goes_flow i) (λ o s. left s.held (ends o s) o s refl refl (λ ts. refl)) block

turns_flow : (i : Bool) (f : Does) → FlowDoes i f → (n : ℕ) → FlowDoes i (turns f n)
turns_flow i f h zero = goes_flow i
turns_flow i f h (suc n) = counted_flow i (λ s rest. looped (turns f n) (f s rest)) (λ s. looped_flow i (turns f n) (turns_flow i f h n) s.held (f s) (h s))

-- ---- a transaction
module _ (vs : Bindings) (g : Does) (second : FlowDoes false g) where
  -- its End, with commit or without
  ended_flow : (c : Bool) (hs : List HeldLock) (F : List Answer → Leads) (k : Does) (s : Local) → FlowDoes false k → s.held ≡ hs → ((ts : List Answer) → F ts ≡ takes true (Effect.End c) (λ a. k) s ts) → Flow false false own hs F
  ended_flow c hs F k s h same e = same_flow false false own s.held hs (takes true (Effect.End c) (λ a. k) s) F same (λ ts. sym (e ts)) (closes s.held (takes true (Effect.End c) (λ a. k) s) c refl (λ a. h s))

  -- the block is left, by what ends the body
  left_flow : (hs : List HeldLock) (F : List Answer → Leads) (o : Outcome) (s : Local) → s.held ≡ hs → ((ts : List Answer) → F ts ≡ ends o s ts) → Flow false false own hs (λ ts. closed vs g (F ts))
  left_flow hs F (Outcome.Value v) s same e = ended_flow true hs (λ ts. closed vs g (F ts)) (ends (Outcome.Value v)) s (ends_flow false (Outcome.Value v)) same (λ ts. ap (closed vs g) (e ts))
  left_flow hs F (Outcome.Fault c) s same e = ended_flow false hs (λ ts. closed vs g (F ts)) (ends (Outcome.Fault c)) s (ends_flow false (Outcome.Fault c)) same (λ ts. ap (closed vs g) (e ts))
  left_flow hs F (Outcome.Aborted c) s same e = ended_flow false hs (λ ts. closed vs g (F ts)) (λ t. g (record t { variables = vs })) s (λ t. second (record t { variables = vs })) same (λ ts. ap (closed vs g) (e ts))

  own_flow : (hs : List HeldLock) (F : List Answer → Leads) (o : Outcome) → Flow false true (leaving o) hs F → Flow false false own hs (λ ts. closed vs g (F ts))
  own_flow _ _ _ (left hs F o s part same e) = left_flow hs F o s same e
  own_flow _ _ _ (frees hs F o l ls part same e more) = cc
  own_flow _ _ _ (returned hs F o part same e) = cc

  aborted_flow : (hs : List HeldLock) (F : List Answer → Leads) (c : Cause) → Flow false true (leaving (Outcome.Aborted c)) hs F → Flow false false aborted hs (λ ts. closed vs g (F ts))
  aborted_flow _ _ c (left hs F _ s part same e) =
      let k : Does = λ t. g (record t { variables = vs }) in
      same_flow false false aborted s.held hs (takes true (Effect.End false) (λ a. k) s) (λ ts. closed vs g (F ts)) same (λ ts. ap (closed vs g) (sym (e ts)))
      (aborts s.held (takes true (Effect.End false) (λ a. k) s) refl (λ a. second (record s { variables = vs })))
  aborted_flow _ _ c (frees hs F _ l ls part same e more) = cc
  aborted_flow _ _ c (returned hs F _ part same e) = cc

  closed_flow : (hs : List HeldLock) (F : List Answer → Leads) → Flow false true block hs F → Flow false false own hs (λ ts. closed vs g (F ts))
  closed_flow _ _ (goes_on hs F s part same e) = ended_flow true hs (λ ts. closed vs g (F ts)) goes s (goes_flow false) same (λ ts. ap (closed vs g) (e ts))
  closed_flow _ _ (breaks_off hs F s part same e) = ended_flow true hs (λ ts. closed vs g (F ts)) breaks s (breaks_flow false) same (λ ts. ap (closed vs g) (e ts))
  closed_flow _ _ (leaves hs F o f) = own_flow hs F o f
  closed_flow _ _ (wanted hs F e is fits more none) = inside hs (λ ts. closed vs g (F ts)) e (ap (closed vs g) is) fits (λ a. closed_flow (held_after e hs) (λ ts. F (a ∷ ts)) (more a)) (λ c. aborted_flow (held_after e hs) (λ ts. F (Answer.Aborted c ∷ ts)) c (none c))
  closed_flow _ _ (begins hs F out free is more) = cc

none_held : (hs : List HeldLock) → is_none_held hs ≡ true → hs ≡ []
none_held [] h = refl
none_held (l ∷ ls) h = let k = eqb-true (length (l ∷ ls)) 0 h in absurd (omega (arith, k))

transact_flow : (f g : Does) → FlowDoes true f → FlowDoes false g → FlowDoes false (transact f g)
transact_flow f g first second s = by_test (is_none_held s.held) refl
  where
    start : Answer → Does
    start a s rest = closed s.variables g (f s rest)

    by_test : (b : Bool) → is_none_held s.held ≡ b → Flow false false block s.held (λ ts. if b then counted (takes false Effect.Begin start) s ts else fault Code.LocksHeld s ts)
    by_test true free =
        let u : Local = record s { used = s.used + 1 } in
        if_flow false (nat_lt s.used most_effects) s.held (takes false Effect.Begin start u) (fault Code.Steps s)
        (begins s.held (takes false Effect.Begin start u) refl (none_held s.held free) refl (λ a. closed_flow u.variables g second s.held (f u) (first u)))
        (ends_flow false (Outcome.Fault Code.Steps) s)
    by_test false free = ends_flow false (Outcome.Fault Code.LocksHeld) s

-- ---- all statements
module _ (d : Deployment) (ts : List TableHead) where
  mutual
    flows : (i : Bool) (c : Command) (vs : Bindings) → FlowResult i (does d ts i c vs)
    flows i (set l n e) vs = then_flow i (term_value vs e) (λ v. Ok (λ s. goes (set_to n v s))) (λ v s. goes_flow i (set_to n v s))
    flows i (read l n t k) vs = then_flow i (key_value vs k) (λ key. Ok (effect_to i (Some n) (Effect.Read (table_number ts t) key))) (λ key. effect_flow i (Some n) (Effect.Read (table_number ts t) key) (λ s. refl) refl)
    flows i (write l t k e) vs = then_flow i (key_value vs k) (λ key. and_then (term_value vs e) (λ v. Ok (effect_to i None (Effect.Write (table_number ts t) key v)))) (λ key. then_flow i (term_value vs e) (λ v. Ok (effect_to i None (Effect.Write (table_number ts t) key v))) (λ v. effect_flow i None (Effect.Write (table_number ts t) key v) (λ s. refl) refl))
    flows i (condwrite l n t k r o e) vs =
        then_flow i (key_value vs k) (λ key. and_then (term_value vs o) (λ w. and_then (term_value vs e) (λ v. Ok (effect_to i (Some n) (Effect.CondWrite (table_number ts t) key r w v))))) (λ key.
        then_flow i (term_value vs o) (λ w. and_then (term_value vs e) (λ v. Ok (effect_to i (Some n) (Effect.CondWrite (table_number ts t) key r w v)))) (λ w.
        then_flow i (term_value vs e) (λ v. Ok (effect_to i (Some n) (Effect.CondWrite (table_number ts t) key r w v))) (λ v. effect_flow i (Some n) (Effect.CondWrite (table_number ts t) key r w v) (λ s. refl) refl)))
    flows i (call l n f e) vs = then_flow i (term_value vs e) (λ v. Ok (effect_to i (Some n) (Effect.Call (func_number d.funcs f) v))) (λ v. effect_flow i (Some n) (Effect.Call (func_number d.funcs f) v) (λ s. refl) refl)
    flows i (async l f e) vs = then_flow i (term_value vs e) (λ v. Ok (effect_to i None (Effect.Async (func_number d.funcs f) v))) (λ v. effect_flow i None (Effect.Async (func_number d.funcs f) v) (λ s. refl) refl)
    flows i (lock l t k) vs = then_flow i (key_value vs k) (λ key. Ok (locks i (table_number ts t) key)) (λ key s.
        let e = Effect.Lock (table_number ts t) key in let h : Local → Local = λ s. record s { held = s.held ++ record { table = table_number ts t; key = key } ∷ [] } in
        if_flow i (is_held (table_number ts t) key s.held) s.held (goes s) (counted (takes i e (λ a s. answered None a (h s))) s) (goes_flow i s) (held_flow i None e h (λ s. refl) refl s))
    flows i (unlock l t k) vs = then_flow i (key_value vs k) (λ key. Ok (unlocks i (table_number ts t) key)) (λ key s.
        let e = Effect.Unlock (table_number ts t) key in let h : Local → Local = λ s. record s { held = without (table_number ts t) key s.held } in
        if_flow i (is_held (table_number ts t) key s.held) s.held (counted (takes i e (λ a s. answered None a (h s))) s) (goes s) (held_flow i None e h (λ s. refl) refl s) (goes_flow i s))
    flows true (transaction l b c) vs = flows_in true b
    flows false (transaction l b c) vs = transact_flow (run_block d ts true b) (run_block d ts false c) (flows_in true b) (flows_in false c)
    flows true (abort l) vs = effect_flow true None Effect.Abort (λ s. refl) refl
    flows false (abort l) vs = tt
    flows i (break l) vs = breaks_flow i
    flows i (choose l e b c) vs = then_flow i (term_value vs e) (λ v. and_then (truth v) (λ test. Ok (if test then run_block d ts i b else run_block d ts i c))) (λ v. then_flow i (truth v) (λ test. Ok (if test then run_block d ts i b else run_block d ts i c)) (λ test. elim test as (λ t. FlowDoes i (if t then run_block d ts i b else run_block d ts i c)) [ true ↦ flows_in i b | false ↦ flows_in i c ]))
    flows i (repeat l n b) vs = turns_flow i (run_block d ts i b) (flows_in i b) n
    flows i (return l e) vs = then_flow i (term_value vs e) (λ v. Ok (ends (Outcome.Value v))) (λ v. ends_flow i (Outcome.Value v))

    flows_in : (i : Bool) (b : Commands) → FlowDoes i (run_block d ts i b)
    flows_in i no_commands s = goes_flow i s
    flows_in i (command c cs) s = followed_flow i (run_block d ts i cs) (flows_in i cs) s.held (or_fault (does d ts i c s.variables) s) (or_fault_flow i (does d ts i c s.variables) (flows i c s.variables) s)

-- ---- a body, and its releases
-- what it wants, as something that it asks for
abbrev pub asked : Bool → Leads → Leads
asked i l = asks (inside_of i l) (effect_of l)

releases_flow : (i : Bool) (o : Outcome) (hs : List HeldLock) → Flow true i (leaving o) hs (λ ts. asks i (releases o hs ts))
releases_flow i o [] = returned [] (λ ts. asks i (releases o [] ts)) o refl refl (λ ts. refl)
releases_flow i o (l ∷ ls) = frees (l ∷ ls) (λ ts. asks i (releases o (l ∷ ls) ts)) o l ls refl refl refl (λ a. releases_flow i o ls)

pub body_flow : (d : Deployment) (func : ℕ) (args : Value) (inherited : Bool) → Flow true inherited block [] (λ ts. asked inherited (body d (func_at d func) args inherited ts))
body_flow d func args inherited =
    let o = func_at d func in
    passes true inherited (asked inherited) (λ b e. refl) (λ s. leaves s.held (λ ts. asked inherited (goes s ts)) (Outcome.Value Null) (releases_flow inherited (Outcome.Value Null) s.held))
    (λ s. leaves s.held (λ ts. asked inherited (breaks s ts)) (Outcome.Value Null) (releases_flow inherited (Outcome.Value Null) s.held)) (λ o s. releases_flow inherited o s.held) block [] (body d o args inherited)
    (flows_in d (tables_of o) inherited (body_of o) (first_local o args))
