-- What is read by a look at one row.
use Rattle.beldi_host.proofs.Names.{Acted, ActedOn, Err, Failed, IfOk, IsErrOf, Look, None, Ok, OpenErr, Option, Reads, Result, Row, RowKey, Rows, ActReplyRef, Some, TableErr, TableState, act, ap, looked, refl, subst, act_reply_of, tells_map, told_row, ℕ, ◌∙◌, ◌≡◌}
use Rattle.beldi_host.proofs.Names.map

row_told : (now : ℕ) (o : Option Row) → told_row (act Look now o).1 ≡ o
row_told now None = refl
row_told now (Some r) = refl

invariant : {X : Type 0} (x : Result X OpenErr) (s y : X) → s ≡ y → IfOk x (λ z. z ≡ s) → IfOk x (λ z. z ≡ y)
invariant (Ok x) s y e h = h ∙ e
invariant (Err e) s y p h = tt

module _ {X : Type 0} (of : Option Row → X) (k key : RowKey) (now : ℕ) (old new : TableState) (r : Result ActReplyRef TableErr) (said : ActReplyRef) (was : r ≡ Ok said) (is : key ≡ k) (h : Acted Look now key old new r) where
  told : Acted Look now k old new (Ok said)
  told = subst (λ (l : RowKey). Acted Look now l old new (Ok said)) is (subst (λ (q : Result ActReplyRef TableErr). Acted Look now key old new q) was h)

  seen_on : (x : Result X OpenErr) → IfOk x (λ z. z ≡ of (told_row (act_reply_of said))) → (m n : Rows) → ActedOn Look now k old.room m n (Ok said) → (n ≡ m) × IfOk x (λ z. z ≡ of (map.get m k))
  seen_on x right_of m n p = (p.0 ∙ looked now k m, invariant x (of (told_row (act_reply_of said))) (of (map.get m k)) (ap (λ t. of (told_row t)) p.1 ∙ ap of (row_told now (map.get m k))) right_of)

  pub seen : (x : Result X OpenErr) → (IsErrOf x Failed → ⊥) → IfOk x (λ z. z ≡ of (told_row (act_reply_of said))) → Reads (λ m z. z ≡ of (map.get m k)) old new x
  seen x sound right_of = record {
    rows = tells_map {P = λ m n. ActedOn Look now k old.room m n (Ok said)} {Q = λ m n. (n ≡ m) × IfOk x (λ z. z ≡ of (map.get m k))} old.rows new.rows (seen_on x right_of) told.rows;
    later = told.cause.later;
    failed = λ e. absurd (sound e);
    room = told.room;
  }
