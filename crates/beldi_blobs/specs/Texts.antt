-- The table, its schema and the five texts.
use Rattle.std.specs.Prelude.{true, false, [], ◌∷◌, None, codes, List, ℕ}
use Rattle.sqlite.specs.Collation.TheVariants.{Binary}
use Rattle.sqlite.specs.declared.types.Value.TheVariants.{Null}
use Rattle.sqlite.specs.Table.{Table}
use Rattle.sqlite.specs.Schema.{Schema}
use Rattle.sqlite.specs.Change.{created}
use Rattle.sqlite.specs.Kind.TheVariants.{Blob}

abbrev pub beldi : Table
beldi = record {
  name = codes "beldi";
  tree = 0;
  columns = (record { name = codes "k"; kind = Blob; is_strict = true; not_null = true; default = Null; collation = Binary })
      ∷ (record { name = codes "v"; kind = Blob; is_strict = true; not_null = true; default = Null; collation = Binary }) ∷ [];
  key = None;
  primary = 1 ∷ [];
  uniques = (1 ∷ []) ∷ [];
  orders = record { digits = 0 } ∷ [];
  checks = [];
  references = [];
  computed = [];
  stamps = record { places = []; terms = []; formats = [] };
  is_counted = false;
}

-- of an empty database, and of one that has the table alone
abbrev pub no_schema : Schema
no_schema = record { tables = []; indexes = []; views = [] }

abbrev pub one_table : Schema
one_table = created no_schema beldi

abbrev pub create_text : List ℕ
create_text = codes "CREATE TABLE IF NOT EXISTS beldi (k BLOB PRIMARY KEY NOT NULL, v BLOB NOT NULL) STRICT"

abbrev pub get_text : List ℕ
get_text = codes "SELECT v FROM beldi WHERE k = ?1"

abbrev pub put_text : List ℕ
put_text = codes "INSERT INTO beldi (k, v) VALUES (?1, ?2) ON CONFLICT (k) DO UPDATE SET v = excluded.v"

abbrev pub next_text : List ℕ
next_text = codes "SELECT k, v FROM beldi WHERE k > ?1 ORDER BY k LIMIT 1"

abbrev pub remove_text : List ℕ
remove_text = codes "DELETE FROM beldi WHERE k = ?1"
