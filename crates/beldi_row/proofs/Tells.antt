-- What is told of a table's rows.
use Rattle.std.proofs.Common.{◌≡◌, ℕ, Option, None, Some, Result, subst}
use Rattle.beldi_row.specs.{Key.RowKey, declared.act.Act.Act, declared.act.ActReplyRef.ActReplyRef, declared.table.TableErr.TableErr, Table.Rows, Table.TableState, Table.Tells, Table.Acted}

-- what follows on told rows
pub tells_map : {P Q : Rows → Rows → Type 0} (before after : Option Rows) → ((m n : Rows) → P m n → Q m n) → Tells before after P → Tells before after Q
tells_map None after f h = h
tells_map (Some m) None f h = h
tells_map (Some m) (Some n) f h = f m n h

-- an act, by what it, its key and its answer are equal to
pub acted_by : (now : ℕ) (old new : TableState) (a b : Act) (k l : RowKey) (r s : Result ActReplyRef TableErr) → a ≡ b → k ≡ l → r ≡ s
    → Acted a now k old new r → Acted b now l old new s
acted_by now old new a b k l r s act key is h =
    subst (λ (c : Act). Acted c now l old new s) act
    (subst (λ (q : RowKey). Acted a now q old new s) key
    (subst (λ (x : Result ActReplyRef TableErr). Acted a now k old new x) is h))
