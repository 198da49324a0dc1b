-- What a body wants stands in it: by induction on the body, each statement with the place where it stands.
use Rattle.std.specs.Prelude.{nat_lt}
use Rattle.std.proofs.Common.{Bool, Err, List, None, Ok, Option, Result, Some, [], ap, append_assoc, false, if◌then◌else◌, length, refl, slice_get, subst, suc, sym, true, zero, ℕ, ◌++◌, ◌+◌, ◌||◌, ◌∙◌, ◌∷◌, ◌≡◌}
use Rattle.beldi_value.specs.declared.{outcome.Code.Code, outcome.Outcome.Outcome, value.Value.Value}
use Rattle.beldi_tree.specs.StatementCommand.{Command, Commands, abort, async, break, call, choose, command, commands_of, condwrite, lock, no_commands, read, repeat, return, set, transaction, unlock, write}
use Rattle.beldi_tree.specs.{Bindings.Bindings, Evaluate.and_then, Evaluate.term_value, Evaluate.truth, declared.deployment.Deployment.Deployment, declared.deployment.Func.Func, declared.deployment.TableHead.TableHead}
use Rattle.beldi_lang.specs.Wants.{Does, Leads, Local, answered, asks, body, breaks, closed, closes, counted, does, effect_of, effect_to, ends, fault, first_local, followed, func_number, goes, inside_of, key_value, locks, looped, most_effects, or_fault, releases, run_block, set_to, table_number, takes, transact, turns, unlocks}
use Rattle.beldi_lang.specs.{HeldLocks.is_held, HeldLocks.is_none_held, HeldLocks.without, declared.effect.Answer.Answer, declared.effect.Effect.Effect, declared.state.HeldLock.HeldLock}
use Rattle.beldi_check.specs.Site.{Spot, inside, outside, repeated, sites, sites_of, transacted}
use Rattle.beldi_check.specs.declared.site.Place.{Place}
use Rattle.beldi_upkeep.specs.Written.{IsOf, IsWritten, WantsAreWritten, Written}

-- ---- spots
abbrev AllSpots : (Spot → Type 0) → List Spot → Type 0
AllSpots P [] = Unit {0}
AllSpots P (s ∷ ss) = P s × AllSpots P ss

first_spots : (P : Spot → Type 0) (xs ys : List Spot) → AllSpots P (xs ++ ys) → AllSpots P xs
first_spots P [] ys h = tt
first_spots P (x ∷ xs) ys h = (h.0, first_spots P xs ys h.1)

last_spots : (P : Spot → Type 0) (xs ys : List Spot) → AllSpots P (xs ++ ys) → AllSpots P ys
last_spots P [] ys h = h
last_spots P (x ∷ xs) ys h = last_spots P xs ys h.1

-- a spot of these
abbrev IsAmong : List Spot → Spot → Type 0
IsAmong ss s = (k : ℕ) × (slice_get ss k ≡ Some s)

past_front : (xs ys : List Spot) (x : Spot) → slice_get (xs ++ x ∷ ys) (length xs) ≡ Some x
past_front [] ys x = refl
past_front (z ∷ xs) ys x = past_front xs ys x

each_among : (all front rest : List Spot) → front ++ rest ≡ all → AllSpots (IsAmong all) rest
each_among all front [] e = tt
each_among all front (s ∷ ss) e = ((length front, ap (λ xs. slice_get xs (length front)) (sym e) ∙ past_front front ss s), each_among all (front ++ s ∷ []) ss (append_assoc front (s ∷ []) ss ∙ e))

module _ (d : Deployment) (all : List Command) (inherited : Bool) where
  abbrev Q : Bool → Effect → Type 0
  Q = IsWritten d all inherited

  abbrev P : Spot → Type 0
  P = IsAmong (sites_of all)

  abbrev Only : Leads → Type 0
  Only (asks i e) = Q i e
  Only l = Unit {0}

  abbrev OnlyDoes : Does → Type 0
  OnlyDoes f = (s : Local) (rest : List Answer) → Only (f s rest)

  abbrev OnlyResult : Result Does Code → Type 0
  OnlyResult (Ok f) = OnlyDoes f
  OnlyResult (Err c) = Unit {0}

  then_only : {A : Type 0} (r : Result A Code) (f : A → Result Does Code) → ((x : A) → OnlyResult (f x)) → OnlyResult (and_then r f)
  then_only (Ok x) f h = h x
  then_only (Err c) f h = tt

  or_fault_only : (r : Result Does Code) → OnlyResult r → OnlyDoes (or_fault r)
  or_fault_only (Ok f) h s rest = h s rest
  or_fault_only (Err c) h s rest = tt

  if_only : (b : Bool) (v w : Leads) → Only v → Only w → Only (if b then v else w)
  if_only true v w g h = g
  if_only false v w g h = h

  takes_only : (i : Bool) (e : Effect) (f : Answer → Does) → Q i e → ((a : Answer) → OnlyDoes (f a)) → OnlyDoes (takes i e f)
  takes_only i e f q h s [] = q
  takes_only i e f q h s (a ∷ rest) = h a s rest

  counted_only : (f : Does) → OnlyDoes f → OnlyDoes (counted f)
  counted_only f h s rest = if_only (nat_lt s.used most_effects) (f (record s { used = s.used + 1 }) rest) (fault Code.Steps s rest) (h (record s { used = s.used + 1 }) rest) tt

  answered_only : (n : Option (List ℕ)) (a : Answer) → OnlyDoes (answered n a)
  answered_only n Answer.Done s rest = tt
  answered_only None (Answer.Value v) s rest = tt
  answered_only (Some n) (Answer.Value v) s rest = tt
  answered_only n (Answer.Fault c) s rest = tt
  answered_only n (Answer.Aborted c) s rest = tt

  effect_only : (i : Bool) (n : Option (List ℕ)) (e : Effect) → Q i e → OnlyDoes (effect_to i n e)
  effect_only i n e q = counted_only (takes i e (answered n)) (takes_only i e (answered n) q (answered_only n))

  held_only : (i : Bool) (e : Effect) (h : Local → List HeldLock) → Q i e → OnlyDoes (counted (takes i e (λ a s. answered None a (record s { held = h s }))))
  held_only i e h q = counted_only (takes i e (λ a s. answered None a (record s { held = h s }))) (takes_only i e (λ a s. answered None a (record s { held = h s })) q (λ a s rest. answered_only None a (record s { held = h s }) rest))

  followed_only : (f : Does) → OnlyDoes f → (l : Leads) → Only l → Only (followed f l)
  followed_only f h (asks i e) q = q
  followed_only f h (goes s rest) q = h s rest
  followed_only f h (breaks s rest) q = tt
  followed_only f h (ends o s rest) q = tt

  looped_only : (f : Does) → OnlyDoes f → (l : Leads) → Only l → Only (looped f l)
  looped_only f h (asks i e) q = q
  looped_only f h (goes s rest) q = h s rest
  looped_only f h (breaks s rest) q = tt
  looped_only f h (ends o s rest) q = tt

  turns_only : (f : Does) → OnlyDoes f → (n : ℕ) → OnlyDoes (turns f n)
  turns_only f h zero s rest = tt
  turns_only f h (suc n) s rest = counted_only (λ s rest. looped (turns f n) (f s rest)) (λ s rest. looped_only (turns f n) (turns_only f h n) (f s rest) (h s rest)) s rest

  module _ (f g : Does) (first : OnlyDoes f) (second : OnlyDoes g) where
    closes_only : (commit : Bool) (k : Does) → OnlyDoes k → OnlyDoes (closes commit k)
    closes_only commit k h = takes_only true (Effect.End commit) (λ a. k) tt (λ a. h)

    closed_only : (vs : Bindings) (l : Leads) → Only l → Only (closed vs g l)
    closed_only vs (asks i e) q = q
    closed_only vs (goes s rest) q = closes_only true goes (λ s rest. tt) s rest
    closed_only vs (breaks s rest) q = closes_only true breaks (λ s rest. tt) s rest
    closed_only vs (ends (Outcome.Value v) s rest) q = closes_only true (ends (Outcome.Value v)) (λ s rest. tt) s rest
    closed_only vs (ends (Outcome.Fault c) s rest) q = closes_only false (ends (Outcome.Fault c)) (λ s rest. tt) s rest
    closed_only vs (ends (Outcome.Aborted c) s rest) q = closes_only false (λ t. g (record t { variables = vs })) (λ t. second (record t { variables = vs })) s rest

    transact_only : OnlyDoes (transact f g)
    transact_only s rest =
        if_only (is_none_held s.held) (counted (takes false Effect.Begin (λ a s rest. closed s.variables g (f s rest))) s rest) (fault Code.LocksHeld s rest)
        (counted_only (takes false Effect.Begin (λ a s rest. closed s.variables g (f s rest))) (takes_only false Effect.Begin (λ a s rest. closed s.variables g (f s rest)) tt (λ a s rest. closed_only s.variables (f s rest) (first s rest))) s rest) tt

  -- ---- an effect of a statement that stands there
  module _ (p : Place) (i : Bool) (inner : i ≡ (inherited || p.in_transaction)) where
    abbrev here : (c : Command) (e : Effect) → IsOf d e c → P (p, c) → Written d all inherited i e
    here c e is at = record { number = at.0; spot = (p, c); there = at.1; inner = inner; is = is }

  or_true : (b : Bool) → true ≡ (b || true)
  or_true true = refl
  or_true false = refl

  module _ (ts : List TableHead) where
    mutual
      stand : (p : Place) (i : Bool) → i ≡ (inherited || p.in_transaction) → (c : Command) (vs : Bindings) → P (p, c) → AllSpots P (inside p c) → OnlyResult (does d ts i c vs)
      stand p i e (set l n x) vs at h = then_only (term_value vs x) (λ v. Ok (λ s. goes (set_to n v s))) (λ v s rest. tt)
      stand p i e (read l n t k) vs at h = then_only (key_value vs k) (λ key. Ok (effect_to i (Some n) (Effect.Read (table_number ts t) key))) (λ key. effect_only i (Some n) (Effect.Read (table_number ts t) key) tt)
      stand p i e (write l t k x) vs at h = then_only (key_value vs k) (λ key. and_then (term_value vs x) (λ v. Ok (effect_to i None (Effect.Write (table_number ts t) key v)))) (λ key. then_only (term_value vs x) (λ v. Ok (effect_to i None (Effect.Write (table_number ts t) key v))) (λ v. effect_only i None (Effect.Write (table_number ts t) key v) tt))
      stand p i e (condwrite l n t k r o x) vs at h =
          then_only (key_value vs k) (λ key. and_then (term_value vs o) (λ w. and_then (term_value vs x) (λ v. Ok (effect_to i (Some n) (Effect.CondWrite (table_number ts t) key r w v))))) (λ key.
          then_only (term_value vs o) (λ w. and_then (term_value vs x) (λ v. Ok (effect_to i (Some n) (Effect.CondWrite (table_number ts t) key r w v)))) (λ w.
          then_only (term_value vs x) (λ v. Ok (effect_to i (Some n) (Effect.CondWrite (table_number ts t) key r w v))) (λ v. effect_only i (Some n) (Effect.CondWrite (table_number ts t) key r w v) tt)))
      stand p i e (call l n f x) vs at h = then_only (term_value vs x) (λ v. Ok (effect_to i (Some n) (Effect.Call (func_number d.funcs f) v))) (λ v. effect_only i (Some n) (Effect.Call (func_number d.funcs f) v) (here p i e (call l n f x) (Effect.Call (func_number d.funcs f) v) refl at))
      stand p i e (async l f x) vs at h = then_only (term_value vs x) (λ v. Ok (effect_to i None (Effect.Async (func_number d.funcs f) v))) (λ v. effect_only i None (Effect.Async (func_number d.funcs f) v) (here p i e (async l f x) (Effect.Async (func_number d.funcs f) v) refl at))
      stand p i e (lock l t k) vs at h = then_only (key_value vs k) (λ key. Ok (locks i (table_number ts t) key)) (λ key s rest. if_only (is_held (table_number ts t) key s.held) (goes s rest) _ tt
          (held_only i (Effect.Lock (table_number ts t) key) (λ s. s.held ++ record { table = table_number ts t; key = key } ∷ []) (here p i e (lock l t k) (Effect.Lock (table_number ts t) key) tt at) s rest))
      stand p i e (unlock l t k) vs at h = then_only (key_value vs k) (λ key. Ok (unlocks i (table_number ts t) key)) (λ key s rest. if_only (is_held (table_number ts t) key s.held) _ (goes s rest)
          (held_only i (Effect.Unlock (table_number ts t) key) (λ s. without (table_number ts t) key s.held) tt s rest) tt)
      stand p true e (transaction l b c) vs at h = stand_in (transacted p) true (or_true inherited) b (first_spots P (sites (transacted p) b) (sites p c) h)
      stand p false e (transaction l b c) vs at h = transact_only (run_block d ts true b) (run_block d ts false c) (stand_in (transacted p) true (or_true inherited) b (first_spots P (sites (transacted p) b) (sites p c) h)) (stand_in p false e c (last_spots P (sites (transacted p) b) (sites p c) h))
      stand p true e (abort l) vs at h = effect_only true None Effect.Abort tt
      stand p false e (abort l) vs at h = tt
      stand p i e (break l) vs at h = λ s rest. tt
      stand p i e (choose l x b c) vs at h =
          let one = stand_in p i e b (first_spots P (sites p b) (sites p c) h) in
          let two = stand_in p i e c (last_spots P (sites p b) (sites p c) h) in
          then_only (term_value vs x) (λ v. and_then (truth v) (λ test. Ok (if test then run_block d ts i b else run_block d ts i c))) (λ v. then_only (truth v) (λ test. Ok (if test then run_block d ts i b else run_block d ts i c)) (λ test. elim test as (λ t. OnlyDoes (if t then run_block d ts i b else run_block d ts i c)) [ true ↦ one | false ↦ two ]))
      stand p i e (repeat l n b) vs at h = turns_only (run_block d ts i b) (stand_in (repeated p) i e b h) n
      stand p i e (return l x) vs at h = then_only (term_value vs x) (λ v. Ok (ends (Outcome.Value v))) (λ v s rest. tt)

      stand_in : (p : Place) (i : Bool) → i ≡ (inherited || p.in_transaction) → (b : Commands) → AllSpots P (sites p b) → OnlyDoes (run_block d ts i b)
      stand_in p i e no_commands h s rest = tt
      stand_in p i e (command c cs) h s rest = followed_only (run_block d ts i cs) (stand_in p i e cs (last_spots P (inside p c) (sites p cs) h.1)) (or_fault (does d ts i c s.variables) s rest)
          (or_fault_only (does d ts i c s.variables) (stand p i e c s.variables h.0 (first_spots P (inside p c) (sites p cs) h.1)) s rest)

  freed : (i : Bool) (o : Outcome) (hs : List HeldLock) (rest : List Answer) → Q i (releases o hs rest)
  freed i o [] rest = tt
  freed i o (l ∷ ls) [] = tt
  freed i o (l ∷ ls) (a ∷ rest) = freed i o ls rest

  leads_only : (l : Leads) → Only l → Q (inside_of inherited l) (effect_of l)
  leads_only (asks i e) q = q
  leads_only (goes s rest) q = freed inherited _ s.held rest
  leads_only (breaks s rest) q = freed inherited _ s.held rest
  leads_only (ends o s rest) q = freed inherited o s.held rest

or_none : (b : Bool) → b ≡ (b || false)
or_none true = refl
or_none false = refl

body_written : (d : Deployment) (f : Func) (args : Value) (inherited : Bool) (answers : List Answer) → let l = body d (Some f) args inherited answers in IsWritten d f.body inherited (inside_of inherited l) (effect_of l)
body_written d f args inherited answers =
    leads_only d f.body inherited (body d (Some f) args inherited answers)
    (stand_in d f.body inherited f.tables outside inherited (or_none inherited) (commands_of f.body) (each_among (sites_of f.body) [] (sites_of f.body) refl) (first_local (Some f) args) answers)

pub wants_written : WantsAreWritten
wants_written d n f args inherited answers at = subst (λ o. let l = body d o args inherited answers in IsWritten d f.body inherited (inside_of inherited l) (effect_of l)) (sym at) (body_written d f args inherited answers)
