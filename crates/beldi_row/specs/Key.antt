-- The order of keys, by the parts that they have.
use Rattle.std.specs.Prelude.{ℕ, ◌+◌, ◌*◌, ◌^◌, List, []}
use Rattle.std.specs.{Ordering.nat_cmp, Ordering.ordering_then, declared.cmp.Ordering.Ordering, Cmp.Lexicographic.slice_cmp}
use Rattle.beldi_row.specs.declared.key.Kind.{Kind, TheVariants.Intent, TheVariants.ReadLog, TheVariants.Invoke, TheVariants.Data, TheVariants.Shadow, TheVariants.Lockset}

-- the number of a kind in the order of kinds
abbrev pub rank_of : Kind → ℕ
rank_of (Intent a) = 0
rank_of (ReadLog p) = 1
rank_of (Invoke p) = 2
rank_of (Data t k r) = 3
rank_of (Shadow x t k r) = 4
rank_of (Lockset a b t k) = 5

-- the parts of a kind, 0 or [] where it has none: the ticket and the hops of the intent that it names ..
abbrev pub ticket_of : Kind → ℕ
ticket_of (Intent a) = a.ticket
ticket_of (ReadLog p) = p.intent.ticket
ticket_of (Invoke p) = p.intent.ticket
ticket_of (Data t k r) = 0
ticket_of (Shadow x t k r) = x.intent.ticket
ticket_of (Lockset a b t k) = a.ticket

abbrev pub hops_of : Kind → List ℕ
hops_of (Intent a) = a.hops
hops_of (ReadLog p) = p.intent.hops
hops_of (Invoke p) = p.intent.hops
hops_of (Data t k r) = []
hops_of (Shadow x t k r) = x.intent.hops
hops_of (Lockset a b t k) = a.hops

-- .. the step of a place, or of a transaction's begin ..
abbrev pub step_of : Kind → ℕ
step_of (Intent a) = 0
step_of (ReadLog p) = p.step
step_of (Invoke p) = p.step
step_of (Data t k r) = 0
step_of (Shadow x t k r) = x.begin
step_of (Lockset a b t k) = b

-- .. the function of a transaction ..
abbrev pub func_of : Kind → ℕ
func_of (Intent a) = 0
func_of (ReadLog p) = 0
func_of (Invoke p) = 0
func_of (Data t k r) = 0
func_of (Shadow x t k r) = x.func
func_of (Lockset a b t k) = 0

-- .. and the table, the key and the row of an item
abbrev pub table_of : Kind → ℕ
table_of (Intent a) = 0
table_of (ReadLog p) = 0
table_of (Invoke p) = 0
table_of (Data t k r) = t
table_of (Shadow x t k r) = t
table_of (Lockset a b t k) = t

abbrev pub item_of : Kind → List ℕ
item_of (Intent a) = []
item_of (ReadLog p) = []
item_of (Invoke p) = []
item_of (Data t k r) = k
item_of (Shadow x t k r) = k
item_of (Lockset a b t k) = k

abbrev pub row_of : Kind → ℕ
row_of (Intent a) = 0
row_of (ReadLog p) = 0
row_of (Invoke p) = 0
row_of (Data t k r) = r
row_of (Shadow x t k r) = r
row_of (Lockset a b t k) = 0

-- by the fields after the ticket
abbrev pub rest_cmp : Kind → Kind → Ordering
rest_cmp a b =
    ordering_then (slice_cmp nat_cmp (hops_of a) (hops_of b)) (ordering_then (nat_cmp (step_of a) (step_of b)) (ordering_then (nat_cmp (func_of a) (func_of b)) (ordering_then (nat_cmp (table_of a) (table_of b))
    (ordering_then (slice_cmp nat_cmp (item_of a) (item_of b)) (nat_cmp (row_of a) (row_of b))))))

-- kinds in their order, and then by the fields in their order
abbrev pub kind_cmp : Kind → Kind → Ordering
kind_cmp a b = ordering_then (nat_cmp (rank_of a) (rank_of b)) (ordering_then (nat_cmp (ticket_of a) (ticket_of b)) (rest_cmp a b))

-- the home, the number of the kind and the ticket, as one number
abbrev pub front_of : ℕ → Kind → ℕ
front_of home k = (home * 256 + rank_of k) * 2 ^ 32 + ticket_of k

-- the home that a row stands in, and what the row is about
pub record RowKey : Type 0 where
  pub home : ℕ
  pub kind : Kind

abbrev pub key_cmp : RowKey → RowKey → Ordering
key_cmp a b = ordering_then (nat_cmp a.home b.home) (kind_cmp a.kind b.kind)

-- the ticket of the intent that a key names, 0 where it names none
abbrev pub key_ticket : RowKey → ℕ
key_ticket k = ticket_of k.kind

-- the intent of ticket 0 in home 0
abbrev pub least_key : RowKey
least_key = record { home = 0; kind = Intent (record { ticket = 0; hops = [] }) }

-- the row of an item with this number; only an item, and a transaction's copy of one, has several
abbrev pub kind_at : Kind → ℕ → Kind
kind_at (Data t k r) n = Data t k n
kind_at (Shadow x t k r) n = Shadow x t k n
kind_at k n = k

abbrev pub at_row : RowKey → ℕ → RowKey
at_row k n = record { home = k.home; kind = kind_at k.kind n }

-- the first row of an item of a function's own table, in the home of the function
abbrev pub head_key : ℕ → ℕ → List ℕ → RowKey
head_key home table key = record { home = home; kind = Data table key 0 }
