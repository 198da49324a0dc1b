-- What a call of a table came to, as an answer to a query.
use denote.Bor.{Bor}
use Rattle.std.proofs.Common.{◌≡◌, ℕ, Option, None, Some, Result, Ok, Err, refl, ap, sym, subst, inl, inr, arith}
use Rattle.beldi_row.specs.Table.{Rows, TableState, Tells, Acted, ActedOn, Went, NextOn, entry_of}
use Rattle.beldi_row.{specs.Key.RowKey, specs.declared.row.Row.Row, specs.declared.act.Act.Act, specs.declared.act.ActReplyRef.ActReplyRef, specs.declared.table.TableErr.TableErr, specs.declared.table.TableErr.TheVariants.OutOfMemory, specs.declared.table.TableErr.TheVariants.Failed, specs.declared.table.TableErr.TheVariants.Full, specs.Act.act_reply_of, proofs.Tells.tells_map}
use Rattle.beldi_query.specs.{declared.query.Query.Query, Query.QueryReply, Query.replied, Query.found, Query.Came, Query.CameOn}

-- ---- an act
abbrev pub act_came : Result ActReplyRef TableErr → Result QueryReply TableErr
act_came (Ok s) = Ok (replied (act_reply_of s))
act_came (Err e) = Err e

act_on : (k : RowKey) (a : Act) (now room : ℕ) (r : Result ActReplyRef TableErr) (m n : Rows) → ActedOn a now k room m n r → CameOn (Query.Act k a) now room (act_came r) m n
act_on k a now room (Ok s) m n h = (h.0, ap replied h.1, h.2)
act_on k a now room (Err e) m n h = h

as_failed : (e : TableErr) (r s : Result QueryReply TableErr) → r ≡ Err e → s ≡ Err Failed → r ≡ s → e ≡ Failed
as_failed e r s is to h = cc

act_failed : (r : Result ActReplyRef TableErr) → act_came r ≡ Err Failed → r ≡ Err Failed
act_failed (Ok s) h = cc
act_failed (Err e) h = ap Err (as_failed e _ _ refl refl h)

act_made : (k : RowKey) (a : Act) (now : ℕ) (old new : TableState) (r : Result ActReplyRef TableErr) → Acted a now k old new r → Came (Query.Act k a) now (act_came r) old new
act_made k a now old new r h = record {
  rows = tells_map {P = λ m n. ActedOn a now k old.room m n r} {Q = λ m n. CameOn (Query.Act k a) now old.room (act_came r) m n} old.rows new.rows (act_on k a now old.room r) h.rows;
  cause = record { later = h.cause.later; failed = λ e. h.cause.failed (act_failed r e) };
  room = h.room;
  calls = inr h.calls;
}

pub acted : (q : Query) (k : RowKey) (a : Act) (now : ℕ) (old new : TableState) (r s : Result ActReplyRef TableErr) → r ≡ s → q ≡ Query.Act k a → Acted a now k old new r → Came q now (act_came s) old new
acted q k a now old new r s was is h = subst (λ (p : Query). Came p now (act_came s) old new) (sym is) (subst (λ (x : Result ActReplyRef TableErr). Came (Query.Act k a) now (act_came x) old new) was (act_made k a now old new r h))

-- ---- a step to the next row
abbrev pub next_came : Result (Option (Bor RowKey × Bor Row)) TableErr → Result QueryReply TableErr
next_came (Ok e) = Ok (found (entry_of e))
next_came (Err e) = Err e

next_on : (k : RowKey) (now room : ℕ) (r : Result (Option (Bor RowKey × Bor Row)) TableErr) (m n : Rows) → NextOn k r m n → CameOn (Query.After k) now room (next_came r) m n
next_on k now room (Ok e) m n h = (h.0, ap found h.1, λ no. cc)
next_on k now room (Err OutOfMemory) m n h = h
next_on k now room (Err Failed) m n h = h
next_on k now room (Err (Full live most)) m n h = h

next_failed : (r : Result (Option (Bor RowKey × Bor Row)) TableErr) → next_came r ≡ Err Failed → r ≡ Err Failed
next_failed (Ok s) h = cc
next_failed (Err e) h = ap Err (as_failed e _ _ refl refl h)

next_made : (k : RowKey) (now : ℕ) (old new : TableState) (r : Result (Option (Bor RowKey × Bor Row)) TableErr) → Went k old new r → Came (Query.After k) now (next_came r) old new
next_made k now old new r h = record {
  rows = tells_map {P = λ m n. NextOn k r m n} {Q = λ m n. CameOn (Query.After k) now old.room (next_came r) m n} old.rows new.rows (next_on k now old.room r) h.rows;
  cause = record { later = h.cause.later; failed = λ e. h.cause.failed (next_failed r e) };
  room = h.room;
  calls = inr h.calls;
}

pub went : (q : Query) (k : RowKey) (now : ℕ) (old new : TableState) (r s : Result (Option (Bor RowKey × Bor Row)) TableErr) → r ≡ s → q ≡ Query.After k → Went k old new r → Came q now (next_came s) old new
went q k now old new r s was is h = subst (λ (p : Query). Came p now (next_came s) old new) (sym is) (subst (λ (x : Result (Option (Bor RowKey × Bor Row)) TableErr). Came (Query.After k) now (next_came x) old new) was (next_made k now old new r h))

-- ---- nothing was asked
pub same_rows : (o : Option Rows) → Tells o o (λ m n. n ≡ m)
same_rows None = refl
same_rows (Some m) = refl

unasked_on : (q : Query) (now room : ℕ) (m n : Rows) → n ≡ m → CameOn q now room (Err OutOfMemory) m n
unasked_on (Query.Act k a) now room m n h = h
unasked_on (Query.After k) now room m n h = h

pub unasked : (q : Query) (now : ℕ) (s : TableState) → Came q now (Err OutOfMemory) s s
unasked q now s = record {
  rows = tells_map {P = λ m n. n ≡ m} {Q = λ m n. CameOn q now s.room (Err OutOfMemory) m n} s.rows s.rows (unasked_on q now s.room) (same_rows s.rows);
  cause = record { later = grind (arith); failed = λ e. cc };
  room = refl;
  calls = inl refl;
}
