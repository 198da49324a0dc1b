-- Who was called in a transaction returns an abort only where it was told one; so where all moves were plain steps, nobody was.
use Rattle.beldi_tree.specs.StatementCommand.{write}
use Rattle.beldi_lang.specs.Wants.{body_of, effect_of}
use Rattle.beldi_plain.specs.{Moves.after_move, Transaction.is_owner}
use Rattle.beldi_plain_laws.specs.WellFormedState as plain_states
use Rattle.beldi_histories.proofs.Names.{AllPlain, Answer, Bindings, Bool, Cause, Code, Command, Commands, Deployment, Does, Effect, Err, Going, HeldLock, OnCallStack, Instance, IntentId, IsIn, Leads, LeadsTo, List, Local, Move, MoveIs, None, Null, Ok, Option, Outcome, PlainState, Result, Some, TableHead, TxId, [], abort, all_in, and_then, answer_of, answer_to, answered, answers, ap, asks, async, body, break, breaks, call, callee_of, calls, calls_at, choose, command, condwrite, counted, does, effect_to, ended, ends, false, fault, first_local, followed, func_at, func_number, goes, id_total, if◌then◌else◌, inl, inr, is_aborted, is_eq, is_held, is_some, key_value, last_answer, line_moved, lock, locks, looped, most_effects, move_is, mover, nat_lt, new_member, no_commands, opened, or_fault, plain, read, refl, releases, repeat, return, returned, returns, run_block, same_some, set, set_to, slice_get, subst, suc, sym, table_number, tables_of, takes, term_value, tied_itself, transaction, true, truth, turns, tx_begun, unlock, unlocks, without, zero, ℕ, ◌++◌, ◌+◌, ◌∙◌, ◌∷◌, ◌≡◌, ◌⊎◌}
use Rattle.beldi_histories.proofs.{AbortedInside.last_is, CallStacks.set_cases, CallStacks.owner_alone, Owns.plain_lives}
use Rattle.beldi_histories.proofs.Names.map
use Rattle.beldi_histories.proofs.Names.plainly

-- its releases return what it was left by
released_by : (o : Outcome) (hs : List HeldLock) (rest : List Answer) (u : Outcome) → releases o hs rest ≡ Effect.Return u → o ≡ u
released_by o [] rest u h = cc
released_by o (l ∷ ls) [] u h = cc
released_by o (l ∷ ls) (a ∷ rest) u h = released_by o ls rest u h

-- ---- of bodies
abbrev pub Unaborted : List Answer → Type 0
Unaborted [] = Unit {0}
Unaborted (a ∷ rest) = (is_aborted a ≡ false) × Unaborted rest

abbrev is_return : Effect → Bool
is_return (Effect.Return o) = true
is_return e = false

-- what is said of each cause that was told
abbrev pub Caused : (Cause → Type 0) → List Answer → Type 0
Caused P [] = Unit {0}
Caused P (a ∷ rest) = ((c : Cause) → a ≡ Answer.Aborted c → P c) × Caused P rest

abbrev CausedBy : (Cause → Type 0) → Outcome → Type 0
CausedBy P o = (c : Cause) → o ≡ Outcome.Aborted c → P c

-- two outcomes that were aborted alike
same_cause : (c k : Cause) → Outcome.Aborted c ≡ Outcome.Aborted k → c ≡ k
same_cause c k e = cc

module _ (P : Cause → Type 0) where
  -- is so of what is left, and of what remains of the answers
  abbrev Left : Leads → Type 0
  Left (asks i e) = is_return e ≡ false
  Left (goes s rest) = Caused P rest
  Left (breaks s rest) = Caused P rest
  Left (ends o s rest) = CausedBy P o × Caused P rest

  abbrev LeftBy : Does → Type 0
  LeftBy f = (s : Local) (rest : List Answer) → Caused P rest → Left (f s rest)

  abbrev LeftResult : Result Does Code → Type 0
  LeftResult (Ok f) = LeftBy f
  LeftResult (Err c) = Unit {0}

  if_left : (b : Bool) (l k : Leads) → Left l → Left k → Left (if b then l else k)
  if_left true l k f g = f
  if_left false l k f g = g

  counted_left : (f : Does) → LeftBy f → LeftBy (counted f)
  counted_left f h s rest un = if_left (nat_lt s.used most_effects) (f (record s { used = s.used + 1 }) rest) (fault Code.Steps s rest) (h (record s { used = s.used + 1 }) rest un) ((λ k e. cc), un)

  answered_left : (n : Option (List ℕ)) (a : Answer) → ((c : Cause) → a ≡ Answer.Aborted c → P c) → LeftBy (answer_to n a)
  answered_left n (Answer.Fault c) lives s rest un = ((λ k e. cc), un)
  answered_left n (Answer.Aborted c) lives s rest un = ((λ k e. lives k (ap (λ z. Answer.Aborted z) (same_cause c k e))), un)
  answered_left n a lives s rest un = un

  takes_left : (e : Effect) (n : Option (List ℕ)) (h : Local → Local) → is_return e ≡ false → LeftBy (counted (takes true e (λ a s. answer_to n a (h s))))
  takes_left e n h other = counted_left (takes true e (λ a s. answer_to n a (h s))) by_answers
    where
      by_answers : LeftBy (takes true e (λ a s. answer_to n a (h s)))
      by_answers s [] un = other
      by_answers s (a ∷ rest) un = answered_left n a un.0 (h s) rest un.1

  then_left : {A : Type 0} (r : Result A Code) (f : A → Result Does Code) → ((x : A) → LeftResult (f x)) → LeftResult (and_then r f)
  then_left (Ok x) f h = h x
  then_left (Err c) f h = tt

  or_fault_left : (r : Result Does Code) → LeftResult r → LeftBy (or_fault r)
  or_fault_left (Ok f) h s rest un = h s rest un
  or_fault_left (Err c) h s rest un = ((λ k e. cc), un)

  followed_left : (f : Does) → LeftBy f → (l : Leads) → Left l → Left (followed f l)
  followed_left f h (goes s rest) g = h s rest g
  followed_left f h l g = g

  looped_left : (f : Does) → LeftBy f → (l : Leads) → Left l → Left (looped f l)
  looped_left f h (goes s rest) g = h s rest g
  looped_left f h l g = g

  turns_left : (f : Does) → LeftBy f → (n : ℕ) → LeftBy (turns f n)
  turns_left f h zero s rest un = un
  turns_left f h (suc n) s rest un = counted_left (λ s rest. looped (turns f n) (f s rest)) (λ s rest un. looped_left (turns f n) (turns_left f h n) (f s rest) (h s rest un)) s rest un

  module _ (d : Deployment) (ts : List TableHead) where
    mutual
      lefts : (c : Command) (vs : Bindings) → LeftResult (does d ts true c vs)
      lefts (set l n e) vs = then_left (term_value vs e) (λ v. Ok (λ s. goes (set_to n v s))) (λ v s rest un. un)
      lefts (read l n t k) vs = then_left (key_value vs k) (λ key. Ok (effect_to true (Some n) (Effect.Read (table_number ts t) key))) (λ key. takes_left (Effect.Read (table_number ts t) key) (Some n) (λ s. s) refl)
      lefts (write l t k e) vs =
          then_left (key_value vs k) (λ key. and_then (term_value vs e) (λ v. Ok (effect_to true None (Effect.Write (table_number ts t) key v)))) (λ key.
          then_left (term_value vs e) (λ v. Ok (effect_to true None (Effect.Write (table_number ts t) key v))) (λ v. takes_left (Effect.Write (table_number ts t) key v) None (λ s. s) refl))
      lefts (condwrite l n t k r o e) vs =
          then_left (key_value vs k) (λ key. and_then (term_value vs o) (λ w. and_then (term_value vs e) (λ v. Ok (effect_to true (Some n) (Effect.CondWrite (table_number ts t) key r w v))))) (λ key.
          then_left (term_value vs o) (λ w. and_then (term_value vs e) (λ v. Ok (effect_to true (Some n) (Effect.CondWrite (table_number ts t) key r w v)))) (λ w.
          then_left (term_value vs e) (λ v. Ok (effect_to true (Some n) (Effect.CondWrite (table_number ts t) key r w v))) (λ v. takes_left (Effect.CondWrite (table_number ts t) key r w v) (Some n) (λ s. s) refl)))
      lefts (call l n f e) vs = then_left (term_value vs e) (λ v. Ok (effect_to true (Some n) (Effect.Call (func_number d.funcs f) v))) (λ v. takes_left (Effect.Call (func_number d.funcs f) v) (Some n) (λ s. s) refl)
      lefts (async l f e) vs = then_left (term_value vs e) (λ v. Ok (effect_to true None (Effect.Async (func_number d.funcs f) v))) (λ v. takes_left (Effect.Async (func_number d.funcs f) v) None (λ s. s) refl)
      lefts (lock l t k) vs = then_left (key_value vs k) (λ key. Ok (locks true (table_number ts t) key)) (λ key s rest un.
          let h : Local → Local = λ s. record s { held = s.held ++ record { table = table_number ts t; key = key } ∷ [] } in
          if_left (is_held (table_number ts t) key s.held) (goes s rest) (counted (takes true (Effect.Lock (table_number ts t) key) (λ a s. answer_to None a (h s))) s rest) un (takes_left (Effect.Lock (table_number ts t) key) None h refl s rest un))
      lefts (unlock l t k) vs = then_left (key_value vs k) (λ key. Ok (unlocks true (table_number ts t) key)) (λ key s rest un.
          let h : Local → Local = λ s. record s { held = without (table_number ts t) key s.held } in
          if_left (is_held (table_number ts t) key s.held) (counted (takes true (Effect.Unlock (table_number ts t) key) (λ a s. answer_to None a (h s))) s rest) (goes s rest) (takes_left (Effect.Unlock (table_number ts t) key) None h refl s rest un) un)
      lefts (transaction l b c) vs = lefts_in b
      lefts (abort l) vs = takes_left Effect.Abort None (λ s. s) refl
      lefts (break l) vs = λ s rest un. un
      lefts (choose l e b c) vs = then_left (term_value vs e) (λ v. and_then (truth v) (λ test. Ok (if test then run_block d ts true b else run_block d ts true c))) (λ v.
          then_left (truth v) (λ test. Ok (if test then run_block d ts true b else run_block d ts true c)) (λ test. elim test as (λ t. LeftBy (if t then run_block d ts true b else run_block d ts true c)) [ true ↦ lefts_in b | false ↦ lefts_in c ]))
      lefts (repeat l n b) vs = turns_left (run_block d ts true b) (lefts_in b) n
      lefts (return l e) vs = then_left (term_value vs e) (λ v. Ok (ends (Outcome.Value v))) (λ v s rest un. ((λ k e. cc), un))

      lefts_in : (b : Commands) → LeftBy (run_block d ts true b)
      lefts_in no_commands s rest un = un
      lefts_in (command c cs) s rest un = followed_left (run_block d ts true cs) (lefts_in cs) (or_fault (does d ts true c s.variables) s rest) (or_fault_left (does d ts true c s.variables) (lefts c s.variables) s rest un)

  returns_caused : (l : Leads) → Left l → (c : Cause) → effect_of l ≡ Effect.Return (Outcome.Aborted c) → P c
  returns_caused (asks i e) h c is = let clash = sym h ∙ ap is_return is in cc
  returns_caused (goes s rest) h c is = let clash = released_by (Outcome.Value Null) s.held rest (Outcome.Aborted c) is in cc
  returns_caused (breaks s rest) h c is = let clash = released_by (Outcome.Value Null) s.held rest (Outcome.Aborted c) is in cc
  returns_caused (ends o s rest) h c is = h.0 c (released_by o s.held rest (Outcome.Aborted c) is)

  caused_by : (xs : List Answer) → ((n : ℕ) (c : Cause) → slice_get xs n ≡ Some (Answer.Aborted c) → P c) → Caused P xs
  caused_by [] h = tt
  caused_by (a ∷ xs) h = ((λ c e. h zero c (ap Some e)), caused_by xs (λ n c e. h (suc n) c e))

  caused_returned : (d : Deployment) (z : Instance) (t : TxId) (c : Cause) → z.enclosing ≡ Some t → Caused P z.answers → plainly.effect_of d z ≡ Effect.Return (Outcome.Aborted c) → P c
  caused_returned d z t c within un is =
      let o = func_at d z.func in
      returns_caused (body d o z.args true z.answers) (lefts_in d (tables_of o) (body_of o) (first_local o z.args) z.answers un) c (ap (λ b. effect_of (body d o z.args b z.answers)) (ap is_some (sym within)) ∙ is)

  -- who was called in a transaction returns an abort by a cause that it was told
  pub returned_cause : (d : Deployment) (z : Instance) (t : TxId) → z.enclosing ≡ Some t → ((n : ℕ) (c : Cause) → slice_get z.answers n ≡ Some (Answer.Aborted c) → P c) → (c : Cause) → plainly.effect_of d z ≡ Effect.Return (Outcome.Aborted c) → P c
  returned_cause d z t within told c is = caused_returned d z t c within (caused_by z.answers told) is

-- so none where none was told
uncaused : (xs : List Answer) → Unaborted xs → Caused (λ c. ⊥) xs
uncaused [] h = tt
uncaused (a ∷ xs) h = ((λ c e. let clash = sym h.0 ∙ ap is_aborted e in cc), uncaused xs h.1)

pub no_abort_returned : (d : Deployment) (z : Instance) (t : TxId) (c : Cause) → z.enclosing ≡ Some t → Unaborted z.answers → plainly.effect_of d z ≡ Effect.Return (Outcome.Aborted c) → ⊥
no_abort_returned d z t c within un is = caused_returned (λ c. ⊥) d z t c within (uncaused z.answers un) is

-- ---- of moves
unaborted_more : (xs : List Answer) (a : Answer) → Unaborted xs → is_aborted a ≡ false → Unaborted (xs ++ a ∷ [])
unaborted_more [] a h lives = (lives, tt)
unaborted_more (x ∷ xs) a h lives = (h.0, unaborted_more xs a h.1 lives)

last_lives : (xs : List Answer) (c : Cause) → Unaborted xs → last_answer xs ≡ Some (Answer.Aborted c) → ⊥
last_lives [] c h is = cc
last_lives (a ∷ []) c h is = let clash = sym h.0 ∙ ap is_aborted (same_some is) in cc
last_lives (a ∷ b ∷ rest) c h is = last_lives (b ∷ rest) c h.1 is

module _ (d : Deployment) (t : TxId) where
  -- the owner was told of no abort last, and nobody else of any
  abbrev pub Lives : IntentId → Instance → Type 0
  Lives i z = ((i ≡ t.intent) × ((c : Cause) → last_answer z.answers ≡ Some (Answer.Aborted c) → ⊥)) ⊎ Unaborted z.answers

  abbrev pub AllLive : Going → Type 0
  AllLive s = (i : IntentId) (z : Instance) → IsIn t i → map.get s.state.made i ≡ Some z → Lives i z

  lives_on : (i : IntentId) (z : Instance) (a : Answer) → is_aborted a ≡ false → Lives i z → Lives i (answered z a)
  lives_on i z a lives (inl own) = inl (own.0, λ c is. let clash = sym lives ∙ ap is_aborted (same_some (sym (last_is z.answers a) ∙ is)) in cc)
  lives_on i z a lives (inr un) = inr (unaborted_more z.answers a un lives)

  outcome_lives : (o : Outcome) → ((c : Cause) → o ≡ Outcome.Aborted c → ⊥) → is_aborted (answer_of o) ≡ false
  outcome_lives (Outcome.Aborted c) none = absurd (none c refl)
  outcome_lives o none = refl

  lives_moved : (s r : Going) → OnCallStack d t s → after_move d t plain s ≡ Some r → AllLive s → AllLive r
  lives_moved s r line step h = let z = mover d t plain s r step in by_kind z.0 z.1 (move_is d t plain s z.0 r z.1 step)
    where
      front_in : IsIn t s.active
      front_in = all_in d t s.state.made s.active line

      by_kind : (z : Instance) → map.get s.state.made s.active ≡ Some z → MoveIs d t plain s r z → AllLive r
      by_kind z made (answers a) = subst AllLive (sym a.is) (λ i w is_in has. elim (set_cases s.state.made s.active i (answered z a.answer) w has) [
        | inl same ↦ subst (Lives i) same.1 (subst (λ i. Lives i (answered z a.answer)) (sym same.0) (lives_on s.active z a.answer (plain_lives s.state.items z.func (plainly.effect_of d z) a.answer a.gives_it) (h s.active z front_in made)))
        | inr other ↦ h i w is_in other.1
      ])
      by_kind z made (calls c) = subst AllLive (sym c.is) (λ i w is_in has. elim (set_cases s.state.made (callee_of s.active z) i (new_member t c.func c.args (calls_at s.active z true)) w has) [
        | inl same ↦ subst (Lives i) same.1 (inr tt)
        | inr other ↦ h i w is_in other.1
      ])
      by_kind z made (returns e) =
          let u = returned d t plain s r z made line e in
          let over = map.insert s.state.made s.active (ended z e.outcome) in
          let within : z.enclosing ≡ Some t = ap (λ (x : Instance). x.enclosing) (same_some (sym made ∙ u.member.made)) ∙ u.member.enclosing in
          let mine = elim (h s.active z front_in made) as (λ o. Unaborted z.answers) [
            | inl own ↦ let clash = sym e.not_owner ∙ ap (is_owner t) own.0 ∙ ap is_eq (tied_itself id_total t.intent) in cc
            | inr un ↦ un
          ] in
          let lives = outcome_lives e.outcome (λ c is. no_abort_returned d z t c within mine (e.returns ∙ ap Effect.Return is)) in
          subst AllLive (sym u.is) (λ i w is_in has. elim (set_cases over u.caller i (answered u.member.waiter (answer_of e.outcome)) w has) [
            | inl same ↦ subst (Lives i) same.1 (subst (λ i. Lives i (answered u.member.waiter (answer_of e.outcome))) (sym same.0) (lives_on u.caller u.member.waiter (answer_of e.outcome) lives (h u.caller u.member.waiter (all_in d t s.state.made u.caller u.line) u.member.waits)))
            | inr other ↦ elim (set_cases s.state.made s.active i (ended z e.outcome) w other.1) [
              | inl same ↦ subst (Lives i) same.1 (inr mine)
              | inr apart ↦ h i w is_in apart.1
            ]
          ])

  lives_led : (s : Going) (moves : List Move) (l : Going) → OnCallStack d t s → AllPlain moves → LeadsTo d t s moves l → AllLive s → AllLive l
  lives_led s [] l line plains leads h = subst AllLive leads h
  lives_led s (m ∷ ms) l line plains leads h =
      let step : after_move d t plain s ≡ Some leads.0 = ap (λ w. after_move d t w s) (sym plains.0) ∙ leads.1 in
      lives_led leads.0 ms l (line_moved d t plain s leads.0 line step) plains.1 leads.2 (lives_moved s leads.0 line step h)

-- so where nothing was aborted its owner was told of no abort last
pub owner_lives : (d : Deployment) (p : PlainState) → plain_states.WellFormed d p → (id : IntentId) (q : Instance) → map.get p.made id ≡ Some q → (moves : List Move) (l : Going) → OnCallStack d (tx_begun id q) (opened p id q) → AllPlain moves → LeadsTo d (tx_begun id q) (opened p id q) moves l
    → (k : Instance) → map.get l.state.made id ≡ Some k → (c : Cause) → last_answer k.answers ≡ Some (Answer.Aborted c) → ⊥
owner_lives d p legal id q made moves l line plains leads k is c told = elim (lives_led d t (opened p id q) moves l line plains leads at_first id k (inl refl) is) [
  | inl own ↦ own.1 c told
  | inr un ↦ last_lives k.answers c un told
]
  where
    t : TxId
    t = tx_begun id q

    at_first : AllLive d (tx_begun id q) (opened p id q)
    at_first i z is_in has = elim (set_cases p.made id i (answered q Answer.Done) z has) [
      | inl same ↦ inl (same.0, λ c is. let clash = ap is_aborted (same_some (sym (last_is q.answers Answer.Done) ∙ ap (λ (y : Instance). last_answer y.answers) same.1 ∙ is)) in cc)
      | inr other ↦ absurd (other.0 (owner_alone d p legal id q made i z is_in other.1))
    ]
