-- A bank with one function, which moves an amount from one account to another. An account begins with a hundred.
--   life 1000000;
--   function bank(x) { table acct; transaction { read a = acct[x.from]; if a == null { set a = 100; }
--     read b = acct[x.to]; if b == null { set b = 100; }
--     write acct[x.from] = a - x.n; write acct[x.to] = b + x.n; } aborted { return false; } return true; }
use Rattle.std.specs.Prelude.{◌≡◌, ℕ, ℤ, pos, Bool, true, false, List, [], ◌∷◌, codes}
use Rattle.beldi_value.specs.{declared.rel.Rel.Rel, declared.value.Value.Value, Datum.text, Datum.int}
use Rattle.beldi_tree.specs.{StatementCommand.Command, StatementCommand.commands_of, StatementCommand.set, StatementCommand.read, StatementCommand.write, StatementCommand.transaction, StatementCommand.choose, StatementCommand.return, declared.deployment.Deployment.Deployment, declared.deployment.Func.Func, declared.deployment.Op.Op}
use Rattle.beldi_tree.specs.Term.{Term, name, field, compare, binary, null, boolean}
use Rattle.beldi_tree.specs.Term as term

-- ---- its names
abbrev pub account : List ℕ
account = codes "acct"

abbrev pub args : List ℕ
args = codes "x"

abbrev pub source : List ℕ
source = codes "a"

abbrev pub target : List ℕ
target = codes "b"

-- a field of the arguments
abbrev pub from : Term
from = field (name args) (codes "from")

abbrev pub to : Term
to = field (name args) (codes "to")

abbrev pub amount : Term
amount = field (name args) (codes "n")

-- ---- its statements
-- what an account begins with
abbrev pub opening : ℤ
opening = pos 100

-- an account that was never written
abbrev pub is_new : List ℕ → Term
is_new n = compare Rel.Eq (name n) null

abbrev pub begins : ℕ → List ℕ → Command
begins line n = choose line (is_new n) (commands_of (set line n (term.int opening) ∷ [])) (commands_of [])

-- what the accounts have afterwards
abbrev pub less : Term
less = binary Op.Sub (name source) amount

abbrev pub more : Term
more = binary Op.Add (name target) amount

abbrev pub moves : List Command
moves =
    read 2 source account from ∷ begins 2 source ∷
    read 3 target account to ∷ begins 3 target ∷
    write 4 account from less ∷ write 4 account to more ∷ []

abbrev pub returns : Bool → Command
returns b = return 4 (boolean b)

abbrev pub bank : Func
bank = record {
  name = codes "bank";
  param = args;
  tables = record { name = account; line = 2 } ∷ [];
  body = transaction 2 (commands_of moves) (commands_of (returns false ∷ [])) ∷ returns true ∷ [];
  line = 2;
}

abbrev pub bank_code : Deployment
bank_code = record { life = 1000000; room = 65536; funcs = bank ∷ [] }

-- ---- transfers
-- the arguments of a transfer: an amount, and two accounts that differ
pub record IsTransfer (v : Value) : Type 0 where
  pub source : List ℕ
  pub amount : ℤ
  pub target : List ℕ
  pub apart : source ≡ target → ⊥
  pub is : v ≡ Value.Rec ((codes "from", text source) ∷ (codes "n", int amount) ∷ (codes "to", text target) ∷ [])
