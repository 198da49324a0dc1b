-- How a value stands to an operand.
use Rattle.std.specs.Prelude.{Bool, false, not, Option, Some, None}
use Rattle.std.specs.Ordering.{nat_cmp, int_cmp, is_eq, is_lt, is_le, is_gt, is_ge}
use Rattle.std.specs.{Cmp.Lexicographic.slice_cmp, declared.cmp.Ordering.Ordering}
use Rattle.beldi_value.specs.{declared.rel.Rel.Rel, declared.rel.Rel.TheVariants.Eq, declared.rel.Rel.TheVariants.Ne, declared.rel.Rel.TheVariants.Lt, declared.rel.Rel.TheVariants.Le, declared.rel.Rel.TheVariants.Gt, declared.rel.Rel.TheVariants.Ge, declared.value.Value.Value, declared.value.Value.TheVariants.Int, declared.value.Value.TheVariants.Text, Same.same_value}

-- the order of two whole numbers, or of two texts by their bytes
abbrev pub order_of : Value → Value → Option Ordering
order_of (Int m) (Int n) = Some (int_cmp m n)
order_of (Text s) (Text t) = Some (slice_cmp nat_cmp s t)
order_of v w = None

-- the order is one that the relation asks for
abbrev pub meets : Rel → Ordering → Bool
meets Eq o = is_eq o
meets Ne o = not (is_eq o)
meets Lt o = is_lt o
meets Le o = is_le o
meets Gt o = is_gt o
meets Ge o = is_ge o

-- there is an order, and the relation asks for it
abbrev pub is_met : Rel → Option Ordering → Bool
is_met r None = false
is_met r (Some o) = meets r o

-- equal, not equal, or in such an order
abbrev pub passes : Value → Rel → Value → Bool
passes v Eq w = same_value v w
passes v Ne w = not (same_value v w)
passes v Lt w = is_met Lt (order_of v w)
passes v Le w = is_met Le (order_of v w)
passes v Gt w = is_met Gt (order_of v w)
passes v Ge w = is_met Ge (order_of v w)
