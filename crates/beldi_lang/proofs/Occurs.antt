-- The effects that a body wants are those of its statements: what holds of each effect that stands in it, and of the locks that
-- its statements leave, holds of what it wants.
use Rattle.beldi_lang.specs.Wants.{turns, run_block}
use Rattle.beldi_lang.proofs.Names.{Answer, Bindings, Bool, Code, Command, Commands, Deployment, Does, Effect, Err, HeldLock, Leads, List, Local, None, Ok, Option, Outcome, Result, Some, TableHead, Value, [], abort, and_then, answered, asks, async, body, body_of, break, breaks, call, choose, closed, closes, command, condwrite, counted, does, effect_of, effect_to, ends, false, fault, first_local, followed, func_at, func_number, goes, if◌then◌else◌, inside_of, is_held, is_inside, is_none_held, key_value, lock, locks, looped, most_effects, nat_lt, no_commands, or_fault, read, releases, repeat, return, set, set_to, suc, table_number, tables_of, takes, term_value, transact, transaction, true, truth, unlock, unlocks, wants, without, write, zero, ℕ, ◌++◌, ◌+◌, ◌∷◌}

-- ---- what is said of the locks that are held, and of each effect, inside a transaction or not

module _ (H : List HeldLock → Type 0) (Q : Bool → Effect → Type 0) where
  -- each effect that stands in the statement is so, and each of its locks and unlocks leaves the locks so
  abbrev mutual
    pub Each : Bool → Command → Type 0
    Each i (set l n e) = Unit {0}
    Each i (read l n t k) = (t : ℕ) (k : List ℕ) → Q i (Effect.Read t k)
    Each i (write l t k e) = (t : ℕ) (k : List ℕ) (v : Value) → Q i (Effect.Write t k v)
    Each i (condwrite l n t k r o e) = (t : ℕ) (k : List ℕ) (w v : Value) → Q i (Effect.CondWrite t k r w v)
    Each i (call l n f e) = (f : ℕ) (v : Value) → Q i (Effect.Call f v)
    Each i (async l f e) = (f : ℕ) (v : Value) → Q i (Effect.Async f v)
    Each i (lock l t k) = (t : ℕ) (k : List ℕ) → Q i (Effect.Lock t k) × ((hs : List HeldLock) → H hs → H (hs ++ record { table = t; key = k } ∷ []))
    Each i (unlock l t k) = (t : ℕ) (k : List ℕ) → Q i (Effect.Unlock t k) × ((hs : List HeldLock) → H hs → H (without t k hs))
    Each true (transaction l b c) = EachOf true b
    Each false (transaction l b c) = Q false Effect.Begin × ((commit : Bool) → Q true (Effect.End commit)) × EachOf true b × EachOf false c
    Each true (abort l) = Q true Effect.Abort
    Each false (abort l) = Unit {0}
    Each i (break l) = Unit {0}
    Each i (choose l e b c) = EachOf i b × EachOf i c
    Each i (repeat l n b) = EachOf i b
    Each i (return l e) = Unit {0}

    pub EachOf : Bool → Commands → Type 0
    EachOf i no_commands = Unit {0}
    EachOf i (command c cs) = Each i c × EachOf i cs

  abbrev pub Only : Leads → Type 0
  Only (asks i e) = Q i e
  Only (goes s rest) = H s.held
  Only (breaks s rest) = H s.held
  Only (ends o s rest) = H s.held

  abbrev pub OnlyDoes : Does → Type 0
  OnlyDoes f = (s : Local) (rest : List Answer) → H s.held → Only (f s rest)

  abbrev OnlyResult : Result Does Code → Type 0
  OnlyResult (Ok f) = OnlyDoes f
  OnlyResult (Err c) = Unit {0}

  then_only : {A : Type 0} (r : Result A Code) (f : A → Result Does Code) → ((x : A) → OnlyResult (f x)) → OnlyResult (and_then r f)
  then_only (Ok x) f h = h x
  then_only (Err c) f h = tt

  or_fault_only : (r : Result Does Code) → OnlyResult r → OnlyDoes (or_fault r)
  or_fault_only (Ok f) h s rest k = h s rest k
  or_fault_only (Err c) h s rest k = k

  if_only : (b : Bool) (v w : Leads) → Only v → Only w → Only (if b then v else w)
  if_only true v w g h = g
  if_only false v w g h = h

  takes_only : (i : Bool) (e : Effect) (f : Answer → Does) → Q i e → ((a : Answer) → OnlyDoes (f a)) → OnlyDoes (takes i e f)
  takes_only i e f q h s [] k = q
  takes_only i e f q h s (a ∷ rest) k = h a s rest k

  counted_only : (f : Does) → OnlyDoes f → OnlyDoes (counted f)
  counted_only f h s rest k = if_only (nat_lt s.used most_effects) (f (record s { used = s.used + 1 }) rest) (fault Code.Steps s rest) (h (record s { used = s.used + 1 }) rest k) k

  answered_only : (n : Option (List ℕ)) (a : Answer) → OnlyDoes (answered n a)
  answered_only n Answer.Done s rest k = k
  answered_only None (Answer.Value v) s rest k = k
  answered_only (Some n) (Answer.Value v) s rest k = k
  answered_only n (Answer.Fault c) s rest k = k
  answered_only n (Answer.Aborted c) s rest k = k

  effect_only : (i : Bool) (n : Option (List ℕ)) (e : Effect) → Q i e → OnlyDoes (effect_to i n e)
  effect_only i n e q = counted_only (takes i e (answered n)) (takes_only i e (answered n) q (answered_only n))

  held_only : (i : Bool) (e : Effect) (h : Local → List HeldLock) → ((s : Local) → H s.held → H (h s)) → Q i e → OnlyDoes (counted (takes i e (λ a s. answered None a (record s { held = h s }))))
  held_only i e h keeps q = counted_only (takes i e (λ a s. answered None a (record s { held = h s }))) (takes_only i e (λ a s. answered None a (record s { held = h s })) q (λ a s rest k. answered_only None a (record s { held = h s }) rest (keeps s k)))

  followed_only : (f : Does) → OnlyDoes f → (l : Leads) → Only l → Only (followed f l)
  followed_only f h (asks i e) q = q
  followed_only f h (goes s rest) q = h s rest q
  followed_only f h (breaks s rest) q = q
  followed_only f h (ends o s rest) q = q

  looped_only : (f : Does) → OnlyDoes f → (l : Leads) → Only l → Only (looped f l)
  looped_only f h (asks i e) q = q
  looped_only f h (goes s rest) q = h s rest q
  looped_only f h (breaks s rest) q = q
  looped_only f h (ends o s rest) q = q

  turns_only : (f : Does) → OnlyDoes f → (n : ℕ) → OnlyDoes (turns f n)
  turns_only f h zero s rest k = k
  turns_only f h (suc n) s rest k = counted_only (λ s rest. looped (turns f n) (f s rest)) (λ s rest k. looped_only (turns f n) (turns_only f h n) (f s rest) (h s rest k)) s rest k

  module _ (f g : Does) (begins : Q false Effect.Begin) (closing : (commit : Bool) → Q true (Effect.End commit)) (first : OnlyDoes f) (second : OnlyDoes g) where
    closes_only : (commit : Bool) (k : Does) → OnlyDoes k → OnlyDoes (closes commit k)
    closes_only commit k h = takes_only true (Effect.End commit) (λ a. k) (closing commit) (λ a. h)

    closed_only : (vs : Bindings) (l : Leads) → Only l → Only (closed vs g l)
    closed_only vs (asks i e) q = q
    closed_only vs (goes s rest) q = closes_only true goes (λ s rest k. k) s rest q
    closed_only vs (breaks s rest) q = closes_only true breaks (λ s rest k. k) s rest q
    closed_only vs (ends (Outcome.Value v) s rest) q = closes_only true (ends (Outcome.Value v)) (λ s rest k. k) s rest q
    closed_only vs (ends (Outcome.Fault c) s rest) q = closes_only false (ends (Outcome.Fault c)) (λ s rest k. k) s rest q
    closed_only vs (ends (Outcome.Aborted c) s rest) q = closes_only false (λ t. g (record t { variables = vs })) (λ t. second (record t { variables = vs })) s rest q

    transact_only : OnlyDoes (transact f g)
    transact_only s rest k =
        if_only (is_none_held s.held) (counted (takes false Effect.Begin (λ a s rest. closed s.variables g (f s rest))) s rest) (fault Code.LocksHeld s rest)
        (counted_only (takes false Effect.Begin (λ a s rest. closed s.variables g (f s rest))) (takes_only false Effect.Begin (λ a s rest. closed s.variables g (f s rest)) begins (λ a s rest k. closed_only s.variables (f s rest) (first s rest k))) s rest k) k

  module _ (d : Deployment) (ts : List TableHead) where
    mutual
      pub occurs : (i : Bool) (c : Command) (vs : Bindings) → Each i c → OnlyResult (does d ts i c vs)
      occurs i (set l n e) vs h = then_only (term_value vs e) (λ v. Ok (λ s. goes (set_to n v s))) (λ v s rest k. k)
      occurs i (read l n t k) vs h = then_only (key_value vs k) (λ key. Ok (effect_to i (Some n) (Effect.Read (table_number ts t) key))) (λ key. effect_only i (Some n) (Effect.Read (table_number ts t) key) (h (table_number ts t) key))
      occurs i (write l t k e) vs h = then_only (key_value vs k) (λ key. and_then (term_value vs e) (λ v. Ok (effect_to i None (Effect.Write (table_number ts t) key v)))) (λ key. then_only (term_value vs e) (λ v. Ok (effect_to i None (Effect.Write (table_number ts t) key v))) (λ v. effect_only i None (Effect.Write (table_number ts t) key v) (h (table_number ts t) key v)))
      occurs i (condwrite l n t k r o e) vs h =
          then_only (key_value vs k) (λ key. and_then (term_value vs o) (λ w. and_then (term_value vs e) (λ v. Ok (effect_to i (Some n) (Effect.CondWrite (table_number ts t) key r w v))))) (λ key.
          then_only (term_value vs o) (λ w. and_then (term_value vs e) (λ v. Ok (effect_to i (Some n) (Effect.CondWrite (table_number ts t) key r w v)))) (λ w.
          then_only (term_value vs e) (λ v. Ok (effect_to i (Some n) (Effect.CondWrite (table_number ts t) key r w v))) (λ v. effect_only i (Some n) (Effect.CondWrite (table_number ts t) key r w v) (h (table_number ts t) key w v))))
      occurs i (call l n f e) vs h = then_only (term_value vs e) (λ v. Ok (effect_to i (Some n) (Effect.Call (func_number d.funcs f) v))) (λ v. effect_only i (Some n) (Effect.Call (func_number d.funcs f) v) (h (func_number d.funcs f) v))
      occurs i (async l f e) vs h = then_only (term_value vs e) (λ v. Ok (effect_to i None (Effect.Async (func_number d.funcs f) v))) (λ v. effect_only i None (Effect.Async (func_number d.funcs f) v) (h (func_number d.funcs f) v))
      occurs i (lock l t k) vs h = then_only (key_value vs k) (λ key. Ok (locks i (table_number ts t) key)) (λ key s rest k. if_only (is_held (table_number ts t) key s.held) (goes s rest) _ k (held_only i (Effect.Lock (table_number ts t) key) (λ s. s.held ++ record { table = table_number ts t; key = key } ∷ []) (λ s. (h (table_number ts t) key).1 s.held) (h (table_number ts t) key).0 s rest k))
      occurs i (unlock l t k) vs h = then_only (key_value vs k) (λ key. Ok (unlocks i (table_number ts t) key)) (λ key s rest k. if_only (is_held (table_number ts t) key s.held) _ (goes s rest) (held_only i (Effect.Unlock (table_number ts t) key) (λ s. without (table_number ts t) key s.held) (λ s. (h (table_number ts t) key).1 s.held) (h (table_number ts t) key).0 s rest k) k)
      occurs true (transaction l b c) vs h = occurs_in true b h
      occurs false (transaction l b c) vs h = transact_only (run_block d ts true b) (run_block d ts false c) h.0 h.1 (occurs_in true b h.2) (occurs_in false c h.3)
      occurs true (abort l) vs h = effect_only true None Effect.Abort h
      occurs false (abort l) vs h = tt
      occurs i (break l) vs h = λ s rest k. k
      occurs i (choose l e b c) vs h = then_only (term_value vs e) (λ v. and_then (truth v) (λ test. Ok (if test then run_block d ts i b else run_block d ts i c))) (λ v. then_only (truth v) (λ test. Ok (if test then run_block d ts i b else run_block d ts i c)) (λ test. elim test as (λ t. OnlyDoes (if t then run_block d ts i b else run_block d ts i c)) [ true ↦ occurs_in i b h.0 | false ↦ occurs_in i c h.1 ]))
      occurs i (repeat l n b) vs h = turns_only (run_block d ts i b) (occurs_in i b h) n
      occurs i (return l e) vs h = then_only (term_value vs e) (λ v. Ok (ends (Outcome.Value v))) (λ v s rest k. k)

      pub occurs_in : (i : Bool) (b : Commands) → EachOf i b → OnlyDoes (run_block d ts i b)
      occurs_in i no_commands h s rest k = k
      occurs_in i (command c cs) h s rest k = followed_only (run_block d ts i cs) (occurs_in i cs h.1) (or_fault (does d ts i c s.variables) s rest) (or_fault_only (does d ts i c s.variables) (occurs i c s.variables h.0) s rest k)

  leads_only : (b : Bool) → ((o : Outcome) (hs : List HeldLock) (rest : List Answer) → H hs → Q b (releases o hs rest)) → (l : Leads) → Only l → Q (inside_of b l) (effect_of l)
  leads_only b r (asks i e) q = q
  leads_only b r (goes s rest) q = r _ s.held rest q
  leads_only b r (breaks s rest) q = r _ s.held rest q
  leads_only b r (ends o s rest) q = r o s.held rest q

  -- what a body wants is so, where each effect that stands in it is so, and each release and return with such locks
  pub wants_only : (d : Deployment) (func : ℕ) (args : Value) (inherited : Bool) (answers : List Answer) → H [] → ((o : Outcome) (hs : List HeldLock) (rest : List Answer) → H hs → Q inherited (releases o hs rest)) → EachOf inherited (body_of (func_at d func)) → Q (is_inside d func args inherited answers) (wants d func args inherited answers)
  wants_only d func args inherited answers none r h =
      let o = func_at d func in
      leads_only inherited r (body d o args inherited answers) (occurs_in d (tables_of o) inherited (body_of o) h (first_local o args) answers none)
