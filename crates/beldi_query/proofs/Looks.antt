-- A Look leaves the rows as they are, and is never refused as Full.
use Rattle.std.proofs.Common.{◌≡◌, ℕ, true, false, ◌&&◌, IsTrue, Result, Ok, Err, ◌∙◌}
use Rattle.beldi_row.{specs.Key.RowKey, specs.declared.act.Act.TheVariants.Look, specs.declared.table.TableErr.TheVariants.OutOfMemory, specs.declared.table.TableErr.TheVariants.Failed, specs.declared.table.TableErr.TheVariants.Full, specs.Table.Rows, proofs.Unchanged.looked}
use Rattle.beldi_query.specs.{Query.QueryReply, Query.CameOn, declared.query.Query.Query}

none_added : (b : _) → IsTrue (b && false) → ⊥
none_added true h = cc
none_added false h = cc

module _ (k : RowKey) (now room : ℕ) (m n : Rows) where
  pub never_full : (live most : ℕ) → CameOn (Query.Act k Look) now room (Err (Full live most)) m n → ⊥
  never_full live most h = none_added _ h.1.more

  pub look_stands : (w : Result QueryReply _) → CameOn (Query.Act k Look) now room w m n → n ≡ m
  look_stands (Ok t) h = h.0 ∙ looked now k m
  look_stands (Err OutOfMemory) h = h
  look_stands (Err Failed) h = h
  look_stands (Err (Full live most)) h = h.0
