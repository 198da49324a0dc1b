-- A walk along an item that writes, at each of its stages.
use Rattle.std.specs.FinMap as map
use Rattle.std.specs.Prelude.{Result, ◌-◌}
use Rattle.std.specs.declared.alloc.AllocError.{AllocError}
use Rattle.std.proofs.Common.{◌≡◌, ◌⊎◌, inl, inr, ℕ, ◌+◌, ◌≤◌, true, false, Option, Some, None, is_some, if◌then◌else◌, refl, ap, sym, ◌∙◌, subst, arith}
use Rattle.beldi_value.specs.{Id.child_of, declared.place.Owner.Owner, declared.place.Place.Place, declared.value.Value.Value}
use Rattle.beldi_tree.specs.declared.deployment.Deployment.{Deployment}
use Rattle.beldi_plain.specs.Item.{Item}
use Rattle.beldi_row.specs.{Act.act, Act.next, Act.next_or, Act.noted, Act.present, Act.ActReply, Act.prunes, Act.is_full, Act.not_full, Key.at_row, Log.blank, Log.note_at, Table.Rows, declared.act.Act.Act, declared.notes.Note.Note, declared.row.Cell.Cell, declared.row.Row.Row}
use Rattle.beldi_query.specs.{declared.query.Query.Query, Query.replied, Query.query_reply}
use Rattle.beldi_chain.specs.Chain.{Chain, chain}
use Rattle.beldi_links.specs.Links.{At, SeesAt}
use Rattle.beldi_daal.specs.{Cell.op_act, Cell.write_asks, Logged.at_of, declared.cell.CellOp.CellOp, declared.cell.WriteAt.WriteAt}
use Rattle.beldi_step.specs.HostStep.{Core}
use Rattle.beldi_step.specs.Run.{Turned, run_asks, turned_by}
use Rattle.beldi_step.specs.RunStride.{stage_to, walking}
use Rattle.beldi_step.specs.declared.{event.EventReply.EventReply, run.Begun.Begun, run.Run.Run, run.RunAt.TheVariants.Begins, run.StageOutput.StageOutput, run.Stage.Stage}
use Rattle.beldi_histories.specs.Contents.{head_key}
use Rattle.beldi_invariant.specs.Invariant.{AtStage, Knows}
use Rattle.beldi_upkeep.specs.Callees.{HasPut, HasTold}
use Rattle.beldi_kept.proofs.Elsewhere.{is_owing}
use Rattle.beldi_kept.specs.{KeptAhead.IsFollowed, KeptAhead.StaysFor, KeptRows.HasKept}
use Rattle.beldi_kept.proofs.ItemTurns as item
use Rattle.beldi_kept.proofs.ItemTurns.{noted_act, op_stays}

-- the row before the one that it makes or links
abbrev pub IsNumbered : At → Type 0
IsNumbered (At.Append n v o) = (row : ℕ) × (n ≡ row + 1)
IsNumbered (At.Link n) = (row : ℕ) × (n ≡ row + 1)
IsNumbered a = Unit {0}

pub numbered_of : (f : Chain) (p : Place) (a : At) → SeesAt f p a → IsNumbered a
numbered_of f p (At.Append n v o) s = (s.0, s.1.next)
numbered_of f p (At.Link n) s = (s.0, s.1.next)
numbered_of f p (At.Try r) s = tt
numbered_of f p At.Make s = tt

link_told : (c : Cell) (n z : ℕ) (now : ℕ) → c.next ≡ Some z → act (Act.LinkCell n) now (Some (Row.Cell c)) ≡ (Some (Row.Cell c), next z)
link_told c n z now is = ap (λ o. let y = next_or c o (if is_full c then (record c { next = Some n }, next n) else (c, not_full)) in (Some (Row.Cell y.0), y.1)) is

module _ (d : Deployment) (c : Core) (m : Rows) (h : HasKept d c m) (room old new : ℕ) (b : Core) (n : Rows) (x : Result EventReply AllocError) (i : ℕ) (r : Run) (live : map.get c.runs i ≡ Some r) (in_time : c.now ≤ r.deadline) (g : Begun) (at : r.at ≡ Begins g)
    (y : Item) (p : Place) (who : Owner) (op : CellOp) (wr : WriteAt) (asked : run_asks r ≡ write_asks (head_key y) p who op wr) (stays : StaysFor d.life r.deadline (chain m (head_key y)) (at_of wr)) (numbered : IsNumbered (at_of wr))
    (walks : (row : ℕ) → wr ≡ WriteAt.Try row → walking r ≡ Some (record { key = at_row (head_key y) row; place = Some p })) (try_at : ℕ → Stage) (tries : (row z : ℕ) → wr ≡ WriteAt.Try row → stage_to z g.stage ≡ try_at z)
    (links : (l : Rows) (k z : ℕ) → wr ≡ WriteAt.Link k → query_reply (run_asks r) c.now l ≡ replied (next z) → item.turned d c m h room old new b n x i r live in_time g at l ≡ turned_by d r g (StageOutput.On (try_at z) None))
    (quiet : (z : ℕ) → is_owing (try_at z) ≡ false) (told : (z : ℕ) → HasTold (try_at z) g.caller h.kept) (put : (z : ℕ) → HasPut (try_at z) g.machine.effect (child_of r.id g.machine.steps) h.kept)
    (here : (row z : ℕ) (u : Cell) → map.get m (at_row (head_key y) row) ≡ Some (Row.Cell u) → u.next ≡ Some z → (wr ≡ WriteAt.Try row → note_at u.log p ≡ None) → (wr ≡ WriteAt.Try row) ⊎ (wr ≡ WriteAt.Link (row + 1)) → (k : Knows d h.upkeep.invariant.histories r g) → AtStage h.kept h.upkeep.invariant.plain c.book k (try_at z) g.machine.effect g.tx) where
  abbrev Turns : Type 0
  Turns = item.Turns d c m h room old new b n x i r live in_time g at

  stays_at : (a : WriteAt) → wr ≡ a → StaysFor d.life r.deadline (chain m (head_key y)) (at_of a)
  stays_at a is = subst (λ z. StaysFor d.life r.deadline (chain m (head_key y)) (at_of z)) is stays

  asked_at : (a : WriteAt) → wr ≡ a → run_asks r ≡ write_asks (head_key y) p who op a
  asked_at a is = asked ∙ ap (write_asks (head_key y) p who op) is

  abbrev there_is : ℕ → Type 0
  there_is row = is_some (map.get h.kept (at_row (head_key y) row)) ≡ true → is_some (map.get m (at_row (head_key y) row)) ≡ true

  abbrev Made : ℕ → Act → Type 0
  Made row a = run_asks r ≡ Query.Act (at_row (head_key y) row) a

  -- both rows stay, and the same is told
  same_told : (row : ℕ) (a : Act) (t : ActReply) → Made row a → (u k : Cell) → map.get m (at_row (head_key y) row) ≡ Some (Row.Cell u) → map.get h.kept (at_row (head_key y) row) ≡ Some (Row.Cell k) → act a c.now (Some (Row.Cell u)) ≡ (Some (Row.Cell u), t) → act a c.now (Some (Row.Cell k)) ≡ (Some (Row.Cell k), t) → prunes a ≡ false → Turns
  same_told row a t asks u k is kept does did stays = item.told_alike d c m h room old new b n x i r live in_time g at
      (item.left_so d c m h room old new b n x i r live in_time g at y row a asks stays m (Some (Row.Cell u)) t is does) (item.left_so d c m h room old new b n x i r live in_time g at y row a asks stays h.kept (Some (Row.Cell k)) t kept did)
      (item.told_so d c m h room old new b n x i r live in_time g at y row a asks stays m (Some (Row.Cell u)) t is does ∙ sym (item.told_so d c m h room old new b n x i r live in_time g at y row a asks stays h.kept (Some (Row.Cell k)) t kept did))

  -- a row that is there is not made
  makes : (row : ℕ) (v : Value) (o : Option Owner) → Made row (Act.MakeCell v o blank) → there_is row → Turns
  makes row v o asks there = item.by_rows d c m h room old new b n x i r live in_time g at y row (Act.MakeCell v o blank) asks refl there (λ u k z e is kept log to ends. same_told row (Act.MakeCell v o blank) present asks u k is kept refl refl refl)

  -- a row that it tries
  tries_at : (row : ℕ) → wr ≡ WriteAt.Try row → Turns
  tries_at row is = item.by_rows d c m h room old new b n x i r live in_time g at y row (op_act p who op) (asked_at (WriteAt.Try row) is) (op_stays p who op) (item.safe_there d c m h room old new b n x i r live in_time g at y row (stays_at (WriteAt.Try row) is)) followed
    where
      followed : (u k : Cell) (z e : ℕ) → map.get m (at_row (head_key y) row) ≡ Some (Row.Cell u) → map.get h.kept (at_row (head_key y) row) ≡ Some (Row.Cell k) → u.log ≡ k.log → u.next ≡ Some z → k.next ≡ Some e → Turns
      followed u k z e there kept log to ends = by_note (note_at u.log p) refl
        where
          by_note : (o : Option Note) → note_at u.log p ≡ o → Turns
          by_note (Some w) has = same_told row (op_act p who op) (noted w) (asked_at (WriteAt.Try row) is) u k there kept (noted_act p who op c.now u w has) (noted_act p who op c.now k w (ap (λ es. note_at es p) (sym log) ∙ has)) (op_stays p who op)
          by_note None has = item.led_on d c m h room old new b n x i r live in_time g at y row (Some p) (walks row is) z e (record { cell = u; here = there; followed = to; lacks = has }) (record { cell = k; here = kept; followed = ends; lacks = ap (λ es. note_at es p) (sym log) ∙ has })
              (subst (λ w. is_owing w ≡ false) (sym (tries row z is)) (quiet z)) (subst (λ w. HasTold w g.caller h.kept) (sym (tries row z is)) (told z)) (subst (λ w. HasPut w g.machine.effect (child_of r.id g.machine.steps) h.kept) (sym (tries row z is)) (put z))
              (λ j. subst (λ w. AtStage h.kept h.upkeep.invariant.plain c.book j w g.machine.effect g.tx) (sym (tries row z is)) (here row z u there to (λ e. has) (inl is) j))

  -- a row that it links
  links_at : (k row : ℕ) → wr ≡ WriteAt.Link k → k ≡ row + 1 → IsFollowed d.life r.deadline (chain m (head_key y)) row → Turns
  links_at k row is one follows = item.by_rows d c m h room old new b n x i r live in_time g at y row (Act.LinkCell k) asks refl (item.safe_there d c m h room old new b n x i r live in_time g at y row follows.0) (λ u w z e there kept log to ends.
      item.moves d c m h room old new b n x i r live in_time g at
      (item.left_so d c m h room old new b n x i r live in_time g at y row (Act.LinkCell k) asks refl m (Some (Row.Cell u)) (next z) there (link_told u k z c.now to))
      (item.left_so d c m h room old new b n x i r live in_time g at y row (Act.LinkCell k) asks refl h.kept (Some (Row.Cell w)) (next e) kept (link_told w k e c.now ends))
      (try_at z) (quiet z) (told z) (put z) (here row z u there to (λ clash. absurd (no_try (sym is ∙ clash))) (inr (is ∙ ap WriteAt.Link one)))
      (links m k z is (item.told_so d c m h room old new b n x i r live in_time g at y row (Act.LinkCell k) asks refl m (Some (Row.Cell u)) (next z) there (link_told u k z c.now to)))
      (ap (λ (q : Turned). q.mark) (links h.kept k e is (item.told_so d c m h room old new b n x i r live in_time g at y row (Act.LinkCell k) asks refl h.kept (Some (Row.Cell w)) (next e) kept (link_told w k e c.now ends)))))
    where
      asks : Made row (Act.LinkCell k)
      asks = asked_at (WriteAt.Link k) is ∙ ap (λ z. Query.Act (at_row (head_key y) z) (Act.LinkCell k)) {x = k - 1} (omega (arith, one))

      no_try : {row : ℕ} → WriteAt.Link k ≡ WriteAt.Try row → ⊥
      no_try e = cc

  at_each : (a : WriteAt) → wr ≡ a → Turns
  at_each (WriteAt.Try row) is = tries_at row is
  at_each WriteAt.Make is = makes 0 Value.Null None (asked_at WriteAt.Make is) (item.safe_there d c m h room old new b n x i r live in_time g at y 0 (λ later. absurd (omega (arith, later))))
  at_each (WriteAt.Append k t) is =
      let row = subst (λ z. IsNumbered (at_of z)) is numbered in
      makes k t.value t.owner (asked_at (WriteAt.Append k t) is) (subst there_is (sym row.1) (item.next_there d c m h room old new b n x i r live in_time g at y row.0 (stays_at (WriteAt.Append k t) is row.0 row.1)))
  at_each (WriteAt.Link k) is =
      let row = subst (λ z. IsNumbered (at_of z)) is numbered in
      links_at k row.0 is row.1 (stays_at (WriteAt.Link k) is row.0 row.1)

  pub writes : Turns
  writes = at_each wr refl
