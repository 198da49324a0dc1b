-- How SQL's operators compare blobs and rowids.
use Rattle.std.proofs.Common.{◌≡◌, ◌∙◌, ap, refl, Bool, true, false, ℕ, ℤ, List}
use Rattle.std.specs.Ordering.{is_eq, is_gt, int_cmp, nat_cmp}
use Rattle.std.specs.Cmp.Lexicographic.{slice_cmp}
use Rattle.sqlite.specs.Collation.TheVariants.{Binary}
use Rattle.sqlite.specs.declared.types.Value.TheVariants.{Int, Blob}
use Rattle.sqlite.specs.Ops.{binary, is_true, from_truth}
use Rattle.sqlite_sql.specs.declared.ops.BinaryOp.TheVariants.{Compare}
use Rattle.sqlite_sql.specs.declared.ops.CompareOp.TheVariants.{Eq, Gt}
use Rattle.sqlite_value.proofs.OrderLemmas.{value_cmp-Int, value_cmp-Blob}
use Rattle.std.specs.Prelude.{Some}

truth_is : (b : Bool) → is_true (from_truth (Some b)) ≡ b
truth_is true = refl
truth_is false = refl

pub equal_blobs : (a b : List ℕ) → is_true (binary (Compare Eq Binary) (Blob a) (Blob b)) ≡ is_eq (slice_cmp nat_cmp a b)
unfolding binary
equal_blobs a b = truth_is _ ∙ ap is_eq (value_cmp-Blob a b)

pub blob_above : (a b : List ℕ) → is_true (binary (Compare Gt Binary) (Blob a) (Blob b)) ≡ is_gt (slice_cmp nat_cmp a b)
unfolding binary
blob_above a b = truth_is _ ∙ ap is_gt (value_cmp-Blob a b)

pub equal_ids : (a b : ℤ) → is_true (binary (Compare Eq Binary) (Int a) (Int b)) ≡ is_eq (int_cmp a b)
unfolding binary
equal_ids a b = truth_is _ ∙ ap is_eq (value_cmp-Int a b)
