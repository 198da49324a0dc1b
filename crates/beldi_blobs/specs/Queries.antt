-- What the texts are compiled to.
use Rattle.std.specs.Prelude.{ℤ, pos, negsuc, false, List, [], ◌∷◌, codes, Some, None}
use Rattle.sqlite.specs.Collation.TheVariants.{Binary}
use Rattle.sqlite.specs.declared.types.Value.TheVariants.{Null, Int}
use Rattle.sqlite.specs.Query.{Query, inner, end}
use Rattle.sqlite.specs.Term.{Term, lit, col, op2}
use Rattle.sqlite.specs.Source.TheVariants.{Values}
use Rattle.sqlite.specs.Command.{Command}
use Rattle.sqlite.specs.Command.TheVariants.{Select, InsertOr, Delete}
use Rattle.sqlite_sql.specs.declared.ops.BinaryOp.TheVariants.{Compare}
use Rattle.sqlite_sql.specs.declared.ops.CompareOp.TheVariants.{Eq, Gt}
use Rattle.sqlite_value.specs.declared.keys.Key.{Key}
use Rattle.sqlite_schema.specs.declared.command.Conflict.TheVariants.{Abort}

-- a query over the rows of the table that pass one test
abbrev pub over_table : Term → List Term → List (Term × Key) → ℤ → Query
over_table test project order limit = record {
  from = inner 0 end;
  filter = test ∷ [];
  group = None;
  project = project;
  distinct = false;
  collations = [];
  order = order;
  limit = lit (Int limit);
  offset = lit (Int (pos 0));
}

-- the key is the first parameter, or is above it; and the rowid is the third
abbrev pub get_test : Term
get_test = op2 (Compare Eq Binary) (col 1 1) (col 0 0)

abbrev pub next_test : Term
next_test = op2 (Compare Gt Binary) (col 1 1) (col 0 0)

abbrev pub update_test : Term
update_test = op2 (Compare Eq Binary) (col 1 0) (col 0 2)

-- the value at a key
abbrev pub get_query : Query
get_query = over_table get_test (col 1 2 ∷ []) [] (negsuc 0)

abbrev pub get_command : Command
get_command = Select (record { lets = []; body = get_query }) (codes "v" ∷ [])

-- the first key above one, and its value
abbrev pub next_query : Query
next_query = over_table next_test (col 1 1 ∷ col 1 2 ∷ []) ((col 1 1, record { collation = Binary; descending = false }) ∷ []) (pos 1)

abbrev pub next_command : Command
next_command = Select (record { lets = []; body = next_query }) (codes "k" ∷ codes "v" ∷ [])

-- the row that has the rowid, with the new value
abbrev pub update_query : Query
update_query = over_table update_test (col 1 0 ∷ col 1 0 ∷ col 1 1 ∷ col 0 5 ∷ []) [] (negsuc 0)

abbrev pub put_terms : List Term
put_terms = lit Null ∷ col 0 0 ∷ col 0 1 ∷ []

abbrev pub put_command : Command
put_command = InsertOr 0 Abort (Values put_terms 3) (record { target = Some (1 ∷ []); update = Some (record { lets = []; body = update_query }) } ∷ [])

-- the rowid of the row at a key, which is removed
abbrev pub remove_query : Query
remove_query = over_table get_test (col 1 0 ∷ []) [] (negsuc 0)

abbrev pub remove_command : Command
remove_command = Delete 0 (record { lets = []; body = remove_query })
