-- What a call that makes one query promises, by what the query does to rows.
use Rattle.std.specs.Ordering.{is_eq}
use Rattle.std.specs.FinMap as map
use Rattle.std.proofs.Common.{◌≡◌, ℕ, true, false, cond, is_some, Option, None, Some, Ok, Err, refl, ap, sym, ◌∙◌, subst}
use Rattle.beldi_row.{specs.Key.RowKey, specs.Key.key_cmp, specs.Act.act, specs.Act.prunes, specs.declared.act.Act.Act, specs.declared.row.Row.Row, proofs.Gets.got, proofs.Gets.key_same, proofs.Removed.act_stays, proofs.Removed.spares, specs.declared.table.TableErr.TableErr, specs.declared.table.TableErr.TheVariants.OutOfMemory, specs.declared.table.TableErr.TheVariants.Failed, specs.declared.table.TableErr.TheVariants.Full, specs.Table.Rows, specs.Table.TableState, specs.Table.Tells, proofs.Tells.tells_map}
use Rattle.beldi_query.{specs.declared.query.Query.Query, specs.Query.QueryReply, specs.Query.lends, specs.Query.may_remove, specs.Query.rows_after, specs.Query.query_reply, specs.Query.CameOn, specs.Walk.Turned, specs.Walk.Leaves, specs.Walk.Promises, proofs.Lent.same_left, proofs.Lent.unheard_left}

module _ {X : Type 0} (q : Query) (now : ℕ) (g : QueryReply → X) (P : Rows → Rows → X → Type 0) (made : (m : Rows) → P m (rows_after q now m) (g (query_reply q now m))) where
  answered : (m n : Rows) (x : X) (t : QueryReply) → x ≡ g t → n ≡ rows_after q now m → t ≡ query_reply q now m → P m n x
  answered m n x t is after by = subst (λ l. P m l x) (sym after) (subst (P m (rows_after q now m)) (sym (is ∙ ap g by)) (made m))

  unheard : (m n : Rows) (e : TableErr) (t : QueryReply) → e ≡ OutOfMemory → lends t ≡ true → n ≡ rows_after q now m → t ≡ query_reply q now m → Leaves q now P m n (Err e)
  unheard m n e t is lent after by = subst (λ v. Leaves q now P m n (Err v)) (sym is) (unheard_left q now OutOfMemory t m n refl lent after by)

  refused : (p : Query) → p ≡ q → (room : ℕ) (e : TableErr) (m n : Rows) → CameOn p now room (Err e) m n → Leaves p now P m n (Err e)
  refused (Query.Act k a) is room OutOfMemory m n h = same_left OutOfMemory (Query.Act k a) now m n h
  refused (Query.Act k a) is room Failed m n h = h
  refused (Query.Act k a) is room (Full live most) m n h = (h.0, h.1.more)
  refused (Query.After k) is room OutOfMemory m n h = same_left OutOfMemory (Query.After k) now m n h
  refused (Query.After k) is room Failed m n h = h
  refused (Query.After k) is room (Full live most) m n h = absurd h

  pub promised : Promises q now g P
  promised old new (Ok x) (Ok t, h, c) = tells_map {P = λ m n. CameOn q now old.room (Ok t) m n} {Q = λ m n. P m n x} old.rows new.rows (λ m n p. answered m n x t h.1 p.0 p.1) c.rows
  promised old new (Ok x) (Err v, h, c) = absurd h
  promised old new (Err e) (Ok t, h, c) = tells_map {P = λ m n. CameOn q now old.room (Ok t) m n} {Q = λ m n. Leaves q now P m n (Err e)} old.rows new.rows (λ m n p. unheard m n e t h.1 h.2 p.0 p.1) c.rows
  promised old new (Err e) (Err v, h, c) = tells_map {P = λ m n. CameOn q now old.room (Err v) m n} {Q = λ m n. Leaves q now P m n (Err e)} old.rows new.rows
      (λ m n p. subst (λ x. Leaves q now P m n (Err x)) (sym h.1) (refused q refl old.room v m n p)) c.rows

-- .. and a turn of a walk is such a call, which answers where the walk stands and what it says
pub turned : {W X : Type 0} (q : Query) (now : ℕ) (f : QueryReply → W) (g : QueryReply → X) (P : Rows → Rows → W × X → Type 0)
    → ((m : Rows) → P m (rows_after q now m) (f (query_reply q now m), g (query_reply q now m)))
    → (w x : W) (old new : TableState) (s : X) → Turned q now f g w x old new (Ok s) → Tells old.rows new.rows (λ m n. P m n (x, s))
turned q now f g P made w x old new s (Ok t, h, c) = promised q now (λ t. (f t, g t)) P made old new (Ok (x, s)) (Ok t, (refl, λ i. (h.0 i, h.1 i)), c)
turned q now f g P made w x old new s (Err v, h, c) = absurd h

-- an act that removes no row leaves one where one is
pub row_there : (a : Act) (now : ℕ) (r : Option Row) → prunes a ≡ false → is_some r ≡ true → is_some (act a now r).0 ≡ true
row_there a now None keeps h = cc
row_there a now (Some r) keeps h = ap (λ z. is_some z.0) (act_stays a now r (spares a keeps))

-- what is so of each row that an act finds, and of the one that it leaves, where it removes none, is so of each row before such a
-- query, and after it
pub at_each : (P : Option Row → Option Row → Type 0) → ((r : Option Row) → P r r) → ((a : Act) (now : ℕ) (r : Option Row) → prunes a ≡ false → P r (act a now r).0)
    → (q : Query) → may_remove q ≡ false → (now : ℕ) (m : Rows) (k : RowKey) → P (map.get m k) (map.get (rows_after q now m) k)
at_each P same made (Query.Act k a) keeps now m l =
    let v : Option Row = (act a now (map.get m k)).0 in
    (elim (is_eq (key_cmp l k)) as (λ b. is_eq (key_cmp l k) ≡ b → P (map.get m l) (map.get (rows_after (Query.Act k a) now m) l)) [
      | true ↦ λ e. subst (P (map.get m l)) (sym (got m k l v ∙ ap (λ b. cond b v (map.get m l)) e)) (subst (λ z. P (map.get m z) v) (sym (key_same l k e)) (made a now (map.get m k) keeps))
      | false ↦ λ e. subst (P (map.get m l)) (sym (got m k l v ∙ ap (λ b. cond b v (map.get m l)) e)) (same (map.get m l))
    ]) refl
at_each P same made (Query.After k) keeps now m l = same (map.get m l)

pub rows_there : (q : Query) → may_remove q ≡ false → (now : ℕ) (m : Rows) (k : RowKey) → is_some (map.get m k) ≡ true → is_some (map.get (rows_after q now m) k) ≡ true
rows_there = at_each (λ r s. is_some r ≡ true → is_some s ≡ true) (λ r h. h) row_there
