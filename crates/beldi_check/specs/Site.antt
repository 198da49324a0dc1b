-- The statements of a body, and where each stands.
use Rattle.std.specs.Prelude.{true, false, ℕ, List, [], ◌∷◌, ◌++◌}
use Rattle.beldi_tree.specs.StatementCommand.{Command, Commands, no_commands, command, set, read, write, condwrite, call, async, lock, unlock, transaction, abort, break, choose, repeat, return, commands_of}
use Rattle.beldi_tree.specs.Statement.{command_of}
use Rattle.beldi_check.specs.declared.site.Place.{Place}
use Rattle.beldi_check.specs.declared.site.Site as site

-- at the outside of a body
abbrev pub outside : Place
outside = record { in_repeat = false; in_transaction = false; leaves = false }

-- in a loop there
abbrev pub repeated : Place → Place
repeated p = record { in_repeat = true; in_transaction = p.in_transaction; leaves = false }

-- in the first block of a transaction there: what ends a loop around it would leave it
abbrev pub transacted : Place → Place
transacted p = record { in_repeat = p.in_repeat; in_transaction = true; leaves = p.in_repeat }

-- a statement, and where it stands
abbrev pub Spot : Type 0
Spot = Place × Command

-- the statements of a block, and of the blocks in them, in the order of the text
abbrev mutual
  pub sites : Place → Commands → List Spot
  sites p no_commands = []
  sites p (command c cs) = (p, c) ∷ (inside p c ++ sites p cs)

  pub inside : Place → Command → List Spot
  inside p (transaction l b c) = sites (transacted p) b ++ sites p c
  inside p (choose l e b c) = sites p b ++ sites p c
  inside p (repeat l n b) = sites (repeated p) b
  inside p _ = []

abbrev pub sites_of : List Command → List Spot
sites_of cs = sites outside (commands_of cs)

abbrev pub site_of : site.Site → Spot
site_of s = (s.place, command_of s.stmt.now)

-- the line of a statement
abbrev pub line_at : Command → ℕ
line_at (set l n e) = l
line_at (read l n t k) = l
line_at (write l t k e) = l
line_at (condwrite l n t k r o e) = l
line_at (call l n f e) = l
line_at (async l f e) = l
line_at (lock l t k) = l
line_at (unlock l t k) = l
line_at (transaction l b c) = l
line_at (abort l) = l
line_at (break l) = l
line_at (choose l e b c) = l
line_at (repeat l n b) = l
line_at (return l e) = l
