-- What the body of a transfer wants, statement by statement.
use Rattle.std.proofs.Common.{◌≡◌, ℕ, ◌+◌, ℤ, Bool, true, false, cond, List, [], ◌∷◌, Option, Some, None, Result, Ok, Err, refl, ap, sym, ◌∙◌, ◌⊎◌, inl, inr}
use Rattle.std.specs.Prelude.{if◌then◌else◌, nat_lt}
use Rattle.std.specs.{Ordering.nat_cmp, Ordering.is_eq, Cmp.Lexicographic.slice_cmp, Cmp.Lexicographic.nat_list_cmp_total, FinMap.get-insert}
use Rattle.std.proofs.lemmas.Cmp.{tied_itself}
use Rattle.std.specs.FinMap as map
use Rattle.beldi_value.specs.{declared.value.Value.Value, declared.outcome.Code.Code, declared.outcome.Cause.Cause, declared.outcome.Outcome.Outcome, Same.same_value, Same.value_decides}
use Rattle.beldi_tree.specs.{Bindings.Bindings, Bindings.no_variables, StatementCommand.Commands, StatementCommand.no_commands, StatementCommand.command, StatementCommand.commands_of, StatementCommand.read, StatementCommand.write, StatementCommand.set, Term.Term, Evaluate.◌>>=◌, Evaluate.truth, Evaluate.term_value}
use Rattle.beldi_tree.specs.Term as term
use Rattle.beldi_lang.specs.{declared.effect.Effect.Effect, declared.effect.Answer.Answer}
use Rattle.beldi_lang.specs.Wants.{Does, Leads, Local, answered, closed, effect_of, effect_to, ends, fault, followed, goes, key_value, most_effects, or_fault, run_block, set_to, takes, wants}
use Rattle.beldi_bank.specs.Bank.{account, args, bank, bank_code, begins, is_new, moves, opening, returns}
use Rattle.beldi_bank.proofs.Values.{limited_kept, new_is, same_ok}

-- what a body of the bank has, which holds no lock
abbrev pub local : Bindings → ℕ → Local
local vs k = record { variables = vs; used = k; held = [] }

-- statements in its transaction
abbrev pub block : Commands → Does
block cs = run_block bank_code bank.tables true cs

-- the variables at its begin
abbrev pub first : Value → Bindings
first v = map.insert no_variables args v

-- what the body wants, by where its first block led
abbrev pub outer : Value → Leads → Effect
outer v l = effect_of (followed (run_block bank_code bank.tables false (commands_of (returns true ∷ []))) (closed (first v) (run_block bank_code bank.tables false (commands_of (returns false ∷ []))) l))

pub opened_so : (v : Value) (rest : List Answer) → wants bank_code 1 v false (Answer.Done ∷ rest) ≡ outer v (block (commands_of moves) (local (first v) 1) rest)
opened_so v rest = refl

-- ---- what is wanted after answers
abbrev pub Returns : Effect → Type 0
Returns e = (o : Outcome) × (e ≡ Effect.Return o)

-- the end of the transaction, after which it returns
abbrev pub IsOver : Bool → (List Answer → Effect) → Type 0
IsOver b f = (f [] ≡ Effect.End b) × ((a : Answer) → Returns (f (a ∷ [])))

-- an effect; where it is aborted, that is the end
abbrev pub Asks : Effect → (List Answer → Effect) → Type 0
Asks e f = (f [] ≡ e) × ((c : Cause) → IsOver false (λ rest. f (Answer.Aborted c ∷ rest)))

-- where its first block led
abbrev pub Shows : Value → (List Answer → Effect) → (List Answer → Leads) → Type 0
Shows v f g = (rest : List Answer) → f rest ≡ outer v (g rest)

-- it ends in a fault
pub record Fails (g : List Answer → Leads) : Type 0 where
  pub code : Code
  pub variables : Bindings
  pub used : ℕ
  pub is : (rest : List Answer) → g rest ≡ ends (Outcome.Fault code) (local variables used) rest

-- it asks for this effect, and then these follow
abbrev pub LeadsTo : (List Answer → Leads) → Effect → Option (List ℕ) → Commands → Bindings → ℕ → Type 0
LeadsTo g e n cs vs k = (rest : List Answer) → g rest ≡ followed (block cs) (takes true e (answered n) (local vs k) rest)

pub over_by : (v : Value) (f : List Answer → Effect) (g : List Answer → Leads) → Shows v f g → Fails g → IsOver false f
over_by v f g shows h = (shows [] ∙ ap (outer v) (h.is []), λ a. (Outcome.Fault h.code, shows (a ∷ []) ∙ ap (outer v) (h.is (a ∷ []))))

pub asks_by : (v : Value) (f : List Answer → Effect) (g : List Answer → Leads) (e : Effect) (n : Option (List ℕ)) (cs : Commands) (vs : Bindings) (k : ℕ) → Shows v f g → LeadsTo g e n cs vs k → Asks e f
asks_by v f g e n cs vs k shows h = (
  shows [] ∙ ap (outer v) (h []),
  λ c. (
    shows (Answer.Aborted c ∷ []) ∙ ap (outer v) (h (Answer.Aborted c ∷ [])),
    λ a. (Outcome.Value (Value.Bool false), shows (Answer.Aborted c ∷ a ∷ []) ∙ ap (outer v) (h (Answer.Aborted c ∷ a ∷ []))),
  ),
)

pub ends_by : (v : Value) (f : List Answer → Effect) (vs : Bindings) (k : ℕ) → Shows v f (block no_commands (local vs k)) → IsOver true f
ends_by v f vs k shows = (shows [], λ a. (Outcome.Value (Value.Bool true), shows (a ∷ [])))

-- ---- statements
module _ (line : ℕ) (n : List ℕ) (t : Term) (cs : Commands) (vs : Bindings) (k : ℕ) (few : nat_lt k most_effects ≡ true) where
  abbrev reads_by : Result (List ℕ) Code → List Answer → Leads
  reads_by r rest = followed (block cs) (or_fault (r >>= λ s. Ok (effect_to true (Some n) (Effect.Read 0 s))) (local vs k) rest)

  abbrev pub Reads : Type 0
  Reads = Fails (block (command (read line n account t) cs) (local vs k)) ⊎ ((s : List ℕ) × (key_value vs t ≡ Ok s) × LeadsTo (block (command (read line n account t) cs) (local vs k)) (Effect.Read 0 s) (Some n) cs vs (k + 1))

  read_by : (r : Result (List ℕ) Code) → key_value vs t ≡ r → Reads
  read_by (Err c) e = inl (record { code = c; variables = vs; used = k; is = λ rest. ap (λ r. reads_by r rest) e })
  read_by (Ok s) e = inr (s, e, λ rest. ap (λ r. reads_by r rest) e ∙ ap (λ b. followed (block cs) (if b then takes true (Effect.Read 0 s) (answered (Some n)) (local vs (k + 1)) rest else fault Code.Steps (local vs k) rest)) few)

  pub read_leads : Reads
  read_leads = read_by (key_value vs t) refl

module _ (line : ℕ) (t u : Term) (cs : Commands) (vs : Bindings) (k : ℕ) (few : nat_lt k most_effects ≡ true) where
  abbrev writes_by : Result (List ℕ) Code → Result Value Code → List Answer → Leads
  writes_by r q rest = followed (block cs) (or_fault (r >>= λ s. q >>= λ w. Ok (effect_to true None (Effect.Write 0 s w))) (local vs k) rest)

  abbrev pub Writes : Type 0
  Writes = Fails (block (command (write line account t u) cs) (local vs k)) ⊎ ((s : List ℕ) × (w : Value) × (key_value vs t ≡ Ok s) × (term_value vs u ≡ Ok w) × LeadsTo (block (command (write line account t u) cs) (local vs k)) (Effect.Write 0 s w) None cs vs (k + 1))

  write_by : (r : Result (List ℕ) Code) (q : Result Value Code) → key_value vs t ≡ r → term_value vs u ≡ q → Writes
  write_by (Err c) q e d = inl (record { code = c; variables = vs; used = k; is = λ rest. ap (λ r. writes_by r (term_value vs u) rest) e })
  write_by (Ok s) (Err c) e d = inl (record { code = c; variables = vs; used = k; is = λ rest. ap (λ r. writes_by r (term_value vs u) rest) e ∙ ap (λ q. writes_by (Ok s) q rest) d })
  write_by (Ok s) (Ok w) e d = inr (
    s,
    w,
    e,
    d,
    λ rest.
        ap (λ r. writes_by r (term_value vs u) rest) e ∙ ap (λ q. writes_by (Ok s) q rest) d
        ∙ ap (λ b. followed (block cs) (if b then takes true (Effect.Write 0 s w) (answered None) (local vs (k + 1)) rest else fault Code.Steps (local vs k) rest)) few,
  )

  pub write_leads : Writes
  write_leads = write_by (key_value vs t) (term_value vs u) refl refl

-- ---- an account that was never written
abbrev pub IsMoney : Value → Type 0
IsMoney Value.Null = Unit {0}
IsMoney (Value.Int z) = Unit {0}
IsMoney v = ⊥

-- what an account has that has this value
abbrev pub balance : Value → ℤ
balance (Value.Int z) = z
balance v = opening

-- the variable has this then, and others are as they were
pub record Begun (n : List ℕ) (v : Value) (vs ws : Bindings) : Type 0 where
  pub here : map.get ws n ≡ Some (Value.Int (balance v))
  pub others : (m : List ℕ) → is_eq (slice_cmp nat_cmp m n) ≡ false → map.get ws m ≡ map.get vs m

pub set_here : (vs : Bindings) (n : List ℕ) (v : Value) → map.get (map.insert vs n v) n ≡ Some v
set_here vs n v = get-insert nat_list_cmp_total vs n v n ∙ ap (λ o. cond (is_eq o) (Some v) (map.get vs n)) (tied_itself nat_list_cmp_total n)

pub set_other : (vs : Bindings) (n m : List ℕ) (v : Value) → is_eq (slice_cmp nat_cmp m n) ≡ false → map.get (map.insert vs n v) m ≡ map.get vs m
set_other vs n m v apart = get-insert nat_list_cmp_total vs n v m ∙ ap (λ b. cond b (Some v) (map.get vs m)) apart

module _ (line : ℕ) (n : List ℕ) (cs : Commands) (vs : Bindings) (k : ℕ) (v : Value) (has : map.get vs n ≡ Some v) where
  abbrev begins_by : Result Value Code → List Answer → Leads
  begins_by r rest = followed (block cs) (or_fault (r >>= λ w. truth w >>= λ b. Ok (if b then block (commands_of (set line n (term.int opening) ∷ [])) else block no_commands)) (local vs k) rest)

  -- .. where it is new
  abbrev sets_by : Result Value Code → List Answer → Leads
  sets_by r rest = followed (block cs) (followed (block no_commands) (or_fault (r >>= λ w. Ok (λ s. goes (set_to n w s))) (local vs k) rest))

  opening_is : (w : Value) → term_value vs (term.int opening) ≡ Ok w → w ≡ Value.Int opening
  opening_is w e = same_ok (Ok w) refl (sym (limited_kept (Ok (Value.Int opening)) w e))

  abbrev pub Begins : Value → Type 0
  Begins v = Fails (block (command (begins line n) cs) (local vs k)) ⊎ ((ws : Bindings) × Begun n v vs ws × ((rest : List Answer) → block (command (begins line n) cs) (local vs k) rest ≡ block cs (local ws k) rest))

  set_by : (r : Result Value Code) → term_value vs (term.int opening) ≡ r → v ≡ Value.Null → term_value vs (is_new n) ≡ Ok (Value.Bool true) → Begins v
  set_by (Err c) is null e = inl (record { code = c; variables = vs; used = k; is = λ rest. ap (λ r. begins_by r rest) e ∙ ap (λ r. sets_by r rest) is })
  set_by (Ok w) is null e = inr (
    map.insert vs n w,
    record { here = set_here vs n w ∙ ap Some (opening_is w is) ∙ ap (λ u. Some (Value.Int (balance u))) (sym null); others = λ m apart. set_other vs n m w apart },
    λ rest. ap (λ r. begins_by r rest) e ∙ ap (λ r. sets_by r rest) is,
  )

  begun_by : (b : Bool) → same_value v Value.Null ≡ b → term_value vs (is_new n) ≡ Ok (Value.Bool b) → IsMoney v → Begins v
  begun_by true same e money = set_by (term_value vs (term.int opening)) refl ((value_decides v Value.Null).0 same) e
  begun_by false same e money = inr (vs, record { here = has ∙ ap Some (whole v money same); others = λ m apart. refl }, λ rest. ap (λ r. begins_by r rest) e)
    where
      whole : (w : Value) → IsMoney w → same_value w Value.Null ≡ false → w ≡ Value.Int (balance w)
      whole Value.Null m no_more = let c = sym ((value_decides Value.Null Value.Null).1 refl) ∙ no_more in cc
      whole (Value.Int z) m no_more = refl
      whole w m no_more = absurd m

  test_by : (r : Result Value Code) → term_value vs (is_new n) ≡ r → IsMoney v → Begins v
  test_by (Err c) e money = inl (record { code = c; variables = vs; used = k; is = λ rest. ap (λ r. begins_by r rest) e })
  test_by (Ok w) e money = begun_by (same_value v Value.Null) refl (e ∙ ap Ok (new_is vs n v w has e)) money

  pub begins_leads : IsMoney v → Begins v
  begins_leads money = test_by (term_value vs (is_new n)) refl money
