-- A turn that asks for a row of an item: the table may have another row than the kept one, which leads further. The run comes to a later row
-- then, as if it had been led to each between.
use Rattle.std.specs.FinMap as map
use Rattle.std.specs.Prelude.{IfOk, Ok, Result, nat_lt}
use Rattle.std.specs.declared.alloc.AllocError.{AllocError}
use Rattle.std.proofs.lemmas.List.{append-nil}
use Rattle.std.proofs.Common.{◌≡◌, inl, inr, ◌==◌, ℕ, zero, suc, ◌+◌, ◌≤◌, ◌<◌, Bool, true, false, [], Option, Some, None, is_some, if◌then◌else◌, ltb-true, refl, ap, sym, ◌∙◌, subst, arith}
use Rattle.beldi_value.specs.{Id.child_of, declared.place.Owner.Owner, declared.place.Place.Place}
use Rattle.beldi_tree.specs.declared.deployment.Deployment.{Deployment}
use Rattle.beldi_book.specs.LinearOrder.{count_changes}
use Rattle.beldi_plain.specs.Item.{Item}
use Rattle.beldi_row.specs.{Act.act, Act.at_tail, Act.prunes, Act.next_or, Act.noted, Act.noted_or, Act.ActReply, Key.RowKey, Key.at_row, Log.note_at, Table.LeadsOn, Table.Rows, declared.act.Act.Act, declared.notes.Note.Note, declared.row.Cell.Cell, declared.row.Row.Row}
use Rattle.beldi_row.proofs.Unchanged.{unchanged}
use Rattle.beldi_query.specs.{declared.query.Query.Query, Query.QueryReply, Query.replied, Query.query_reply, Query.rows_after}
use Rattle.beldi_chain.specs.Chain.{Chain, chain, next_of}
use Rattle.beldi_links.proofs.{Meets.rows_below, Ways.same_or}
use Rattle.beldi_links.specs.Links.{Linked, LinkedFrom}
use Rattle.beldi_splice.specs.Splice.{IsCellOf, IsSafeFrom, IsSafeTo, LeadsPast, LessRow}
use Rattle.beldi_splice.proofs.{Alike.first_there, Alike.unfollowed_alike, Both.follows_last, Both.there_linked}
use Rattle.beldi_daal.specs.{Cell.op_act, declared.cell.CellOp.CellOp}
use Rattle.beldi_step.specs.HostStep.{Core, EventBy, EventOn, asks, immediate, counted, ended_run, on_reply, plan, put_run, run_plan, turn_next, turned_core}
use Rattle.beldi_step.specs.EventContent.{reply_entries, reply_outcome}
use Rattle.beldi_step.specs.Run.{Turned, run_asks, run_told, turned_by}
use Rattle.beldi_step.specs.RunStride.{WalkedOn, run_to, stage_to, walked, walking}
use Rattle.beldi_step.specs.declared.{event.Event.Event, event.EventReply.EventReply, run.Begun.Begun, run.Run.Run, run.RunAt.TheVariants.Begins, run.StageOutput.StageOutput, run.Stage.Stage, run.Walking.Walking}
use Rattle.beldi_step.specs.declared.run.RunAt as standing
use Rattle.beldi_step.proofs.Stride.{walks_on}
use Rattle.beldi_histories.specs.Contents.{IsLinkedItem, head_key}
use Rattle.beldi_invariant.specs.Invariant.{AtStage, Knows}
use Rattle.beldi_upkeep.specs.{Callees.HasPut, Callees.HasTold, Upkeep.Upkeep}
use Rattle.beldi_upkeep.proofs.Together.{keeps_upkeep}
use Rattle.beldi_kept.proofs.Elsewhere.{is_owing, wanted_then}
use Rattle.beldi_kept.specs.{KeptAhead.IsFollowed, KeptRows.HasKept}
use Rattle.beldi_kept.proofs.{Elsewhere.stands_elsewhere, Elsewhere.works_still, Events.Goal, Events.as_were, Events.core_of, Events.few, Events.turns_alike, Events.turns_by, Items.act_alike, Less.GoesOn, Less.stays_on, Step.Step, Step.elsewhere, Step.upkeep_elsewhere, Step.wanted_elsewhere}

-- ---- after that turn over the kept rows these are linked
not_below : (a b : ℕ) → b ≤ a → nat_lt a b ≡ false
not_below a b most = by_test (nat_lt a b) refl
  where
    by_test : (t : Bool) → nat_lt a b ≡ t → nat_lt a b ≡ false
    by_test true e = let low = ltb-true a b e in absurd (omega (arith, low, most))
    by_test false e = e

module _ (d : Deployment) (c : Core) (kept : Rows) (u : Upkeep d c kept) (i : ℕ) (r : Run) (live : map.get c.runs i ≡ Some r) (in_time : c.now ≤ r.deadline) where
  abbrev at_rest : Core
  at_rest = elsewhere c c.cursor 0 false

  told : QueryReply
  told = query_reply (run_asks r) c.now kept

  abbrev then : Core × EventReply
  then = on_reply d (Event.Turn i) (counted at_rest) (query_reply (run_asks r) c.now kept)

  planned : plan d (Event.Turn i) at_rest ≡ asks (run_asks r)
  planned = ap (λ t. if t then run_plan (counted at_rest) i (map.get c.runs i) else immediate at_rest EventReply.Spent) few
      ∙ ap (run_plan (counted at_rest) i) live
      ∙ ap (λ t. if t then immediate (ended_run (counted at_rest) i) EventReply.Expired else asks (run_asks r)) (not_below r.deadline c.now in_time)

  on : EventOn d (suc (map.len kept)) 0 0 (Event.Turn i) at_rest kept then.0 (rows_after (run_asks r) c.now kept) (Ok then.1)
  on = subst (λ p. EventBy d (suc (map.len kept)) 0 0 (Event.Turn i) (counted at_rest) p kept then.0 (rows_after (run_asks r) c.now kept) (Ok then.1)) (sym planned)
      (Ok (query_reply (run_asks r) c.now kept), refl, (refl, refl, λ adds. omega arith), record { later = omega arith; failed = λ e. let clash = e in cc })

  pub then_linked : (y : Item) → IsLinkedItem (rows_after (run_asks r) c.now kept) y
  then_linked y = (keeps_upkeep d (suc (map.len kept)) 0 0 (Event.Turn i) at_rest then.0 kept (rows_after (run_asks r) c.now kept) (Ok then.1) (upkeep_elsewhere d c c.cursor 0 false kept u) on).invariant.rows.chains y

-- ---- acts on a cell that others follow
-- its place has a note: that is told
noted_tail : (p : Place) (c : Cell) (w : Note) (z : Cell × ActReply) → note_at c.log p ≡ Some w → at_tail p c z ≡ (c, noted w)
noted_tail p c w z is = ap (λ o. noted_or c o (next_or c c.next z)) is

pub noted_act : (p : Place) (who : Owner) (op : CellOp) (now : ℕ) (c : Cell) (w : Note) → note_at c.log p ≡ Some w → act (op_act p who op) now (Some (Row.Cell c)) ≡ (Some (Row.Cell c), noted w)
noted_act p who (CellOp.Write v) now c w is = ap (λ (z : Cell × ActReply). (Some (Row.Cell z.0), z.1)) (noted_tail p c w _ is)
noted_act p who (CellOp.Cond r o v) now c w is = ap (λ (z : Cell × ActReply). (Some (Row.Cell z.0), z.1)) (noted_tail p c w _ is)
noted_act p who CellOp.Lock now c w is = ap (λ (z : Cell × ActReply). (Some (Row.Cell z.0), z.1)) (noted_tail p c w _ is)
noted_act p who (CellOp.Free v) now c w is = ap (λ (z : Cell × ActReply). (Some (Row.Cell z.0), z.1)) (noted_tail p c w _ is)

pub op_stays : (p : Place) (who : Owner) (op : CellOp) → prunes (op_act p who op) ≡ false
op_stays p who (CellOp.Write v) = refl
op_stays p who (CellOp.Cond r o v) = refl
op_stays p who CellOp.Lock = refl
op_stays p who (CellOp.Free v) = refl

-- a number that is led to
abbrev pub IsNext : Cell → ℕ → Type 0
IsNext c z = c.next ≡ Some z

module _ (d : Deployment) (c : Core) (m : Rows) (h : HasKept d c m) (room old new : ℕ) (b : Core) (n : Rows) (x : Result EventReply AllocError) (i : ℕ) (r : Run) (live : map.get c.runs i ≡ Some r) (in_time : c.now ≤ r.deadline) (g : Begun) (at : r.at ≡ Begins g) where
  abbrev pub Turns : Type 0
  Turns = Goal d c m h room old new b n x (Event.Turn i) (asks (run_asks r)) × Goal d c m h room old new b n x (Event.Lost i) (asks (run_asks r))

  abbrev pub turned : Rows → Turned
  turned l = run_told d (count_changes c.book) r (query_reply (run_asks r) c.now l)

  -- ---- both rows stay, and the same is told
  module _ (there : rows_after (run_asks r) c.now m ≡ m) (kept : rows_after (run_asks r) c.now h.kept ≡ h.kept) where
    still : GoesOn h.gone m h.kept (rows_after (run_asks r) c.now m) (rows_after (run_asks r) c.now h.kept)
    still = subst (λ z. GoesOn h.gone m h.kept z (rows_after (run_asks r) c.now h.kept)) (sym there) (subst (GoesOn h.gone m h.kept m) (sym kept) (stays_on h.gone m h.kept h.less))

    pub told_alike : query_reply (run_asks r) c.now m ≡ query_reply (run_asks r) c.now h.kept → Turns
    told_alike same = turns_alike d c m h room old new b n x i r live (record { turned = ap (run_told d (count_changes c.book) r) same; rows = still })

    -- .. or it stands at another stage then
    module _ (w : Stage) (quiet : is_owing w ≡ false) (told : HasTold w g.caller h.kept) (put : HasPut w g.machine.effect (child_of r.id g.machine.steps) h.kept) (here : (k : Knows d h.upkeep.invariant.histories r g) → AtStage h.kept h.upkeep.invariant.plain c.book k w g.machine.effect g.tx) where
      abbrev left : Turned
      left = turned_by d r g (StageOutput.On w None)

      leaves : b ≡ turned_core (counted c) i r.id left → n ≡ m → Step d c b h.gone m h.kept n
      leaves is same = subst (λ z. Step d c z h.gone m h.kept n) (sym (is ∙ ap (λ z. record (counted c) { runs = put_run c.runs i left.next; book = z }) (append-nil c.book))) (record {
        after = h.kept;
        upkeep = upkeep_elsewhere d (record c { runs = put_run c.runs i left.next }) c.cursor (c.taken + 1) c.shut h.kept (stands_elsewhere d c h.kept h.upkeep i r g w live at quiet told put here);
        wanted = wanted_elsewhere d (record c { runs = put_run c.runs i left.next }) c.cursor (c.taken + 1) c.shut h.kept (wanted_then d c h.kept h.upkeep i r g w live at quiet told put here h.wanted);
        goes = as_were d c m h room old new b n x same;
        works = λ k s j is works. inl (works_still d c h.kept h.upkeep i r g w live at quiet told put here k s j is works);
        stay = λ k there. there;
        dates = λ k f is. is;
      })

      pub moves : turned m ≡ left → (turned h.kept).mark ≡ None → Turns
      moves goes mark = turns_by d c m h room old new b n x i r live (ap (λ (z : Turned). z.mark) goes ∙ sym mark) still
          (λ y is f rows over.
          let made : (b, y) ≡ turn_next (counted c) i r left = f ∙ ap (turn_next (counted c) i r) goes in
          inr (
            leaves (core_of made) (rows ∙ there),
            record { book = ap (λ (z : Core). z.book) (core_of made) ∙ append-nil c.book; tells = subst (λ u. IfOk u (λ y. (reply_outcome y ≡ None) × (reply_entries (Event.Turn i) y ≡ []))) (sym (is ∙ ap (λ z. Ok z.1) made)) (refl, refl) },
          ))

  -- ---- a row of an item
  module _ (y : Item) (row : ℕ) (a : Act) (asked : run_asks r ≡ Query.Act (at_row (head_key y) row) a) (stays : prunes a ≡ false) where
    abbrev pub key : RowKey
    key = at_row (head_key y) row

    -- both have it alike, and none follows it
    agrees : map.get m key ≡ map.get h.kept key → ((k : Cell) → map.get h.kept key ≡ Some (Row.Cell k) → k.next ≡ None) → Turns
    agrees same free = turns_alike d c m h room old new b n x i r live (record {
      turned = ap (λ q. run_told d (count_changes c.book) r (query_reply q c.now m)) asked ∙ ap (λ o. run_told d (count_changes c.book) r (replied (act a c.now o).1)) same ∙ sym (ap (λ q. run_told d (count_changes c.book) r (query_reply q c.now h.kept)) asked);
      rows = subst (λ q. GoesOn h.gone m h.kept (rows_after q c.now m) (rows_after q c.now h.kept)) (sym asked)
          (act_alike h.gone m h.kept h.less h.upkeep.invariant.rows.chains y row a stays c.now same (subst (λ q. IsLinkedItem (rows_after q c.now h.kept) y) asked (then_linked d c h.kept h.upkeep i r live in_time y)) free);
    })

    pub left_so : (l : Rows) (o : Option Row) (t : ActReply) → map.get l key ≡ o → act a c.now o ≡ (o, t) → rows_after (run_asks r) c.now l ≡ l
    left_so l o t is acts = ap (λ q. rows_after q c.now l) asked ∙ unchanged l key (act a c.now (map.get l key)).0 (ap (λ z. (act a c.now z).0) is ∙ ap (λ z. z.0) acts ∙ sym is)

    pub told_so : (l : Rows) (o : Option Row) (t : ActReply) → map.get l key ≡ o → act a c.now o ≡ (o, t) → query_reply (run_asks r) c.now l ≡ replied t
    told_so l o t is acts = ap (λ q. query_reply q c.now l) asked ∙ ap (λ z. replied (act a c.now z).1) is ∙ ap (λ z. replied z.1) acts

    kept_links : (k : Cell) → map.get h.kept key ≡ Some (Row.Cell k) → Linked (chain h.kept (head_key y))
    kept_links k is = by_first (map.get h.kept (head_key y)) (h.upkeep.invariant.rows.chains y)
      where
        by_first : (o : Option Row) → LinkedFrom o (chain h.kept (head_key y)) → Linked (chain h.kept (head_key y))
        by_first (Some o) l = l
        by_first None none = let clash = sym (none row) ∙ is in cc

    -- the row, if the kept one is there, is there; and what follows where one follows it
    pub by_rows : (is_some (map.get h.kept key) ≡ true → is_some (map.get m key) ≡ true) → ((u k : Cell) (z e : ℕ) → map.get m key ≡ Some (Row.Cell u) → map.get h.kept key ≡ Some (Row.Cell k) → u.log ≡ k.log → u.next ≡ Some z → k.next ≡ Some e → Turns) → Turns
    by_rows there followed = by_less (map.get m key) (map.get h.kept key) refl refl (h.less.cells y row)
      where
        by_next : (u k : Cell) (p q : Option ℕ) → map.get m key ≡ Some (Row.Cell u) → map.get h.kept key ≡ Some (Row.Cell k) → IsCellOf h.gone (chain h.kept (head_key y)) row u k → u.next ≡ p → k.next ≡ q → LeadsPast h.gone (chain h.kept (head_key y)) row p q → Turns
        by_next u k p None is kept of to ends past = agrees (unfollowed_alike h.gone (chain m (head_key y)) (chain h.kept (head_key y)) (kept_links k kept) (h.less.cells y) row k kept ends) (λ j at. one_next k j (sym kept ∙ at) ends)
          where
            one_next : (k j : Cell) → ◌≡◌ {A = Option Row} (Some (Row.Cell k)) (Some (Row.Cell j)) → k.next ≡ None → j.next ≡ None
            one_next k j e none = let same : k ≡ j = cc in ap (λ (z : Cell). z.next) (sym same) ∙ none
        by_next u k (Some z) (Some e) is kept of to ends past = followed u k z e is kept of.log to ends
        by_next u k None (Some e) is kept of to ends past = absurd past

        by_less : (o p : Option Row) → map.get m key ≡ o → map.get h.kept key ≡ p → LessRow h.gone (chain h.kept (head_key y)) row o p → Turns
        by_less None None is kept less = agrees (is ∙ sym kept) (λ k at. let clash = sym kept ∙ at in cc)
        by_less None (Some p) is kept less = let clash = sym (ap is_some is) ∙ there (ap is_some kept) in cc
        by_less (Some (Row.Cell u)) (Some (Row.Cell k)) is kept less = by_next u k u.next k.next is kept less refl refl less.next
        by_less (Some (Row.Cell u)) p is kept less = absurd less
        by_less (Some o) p is kept less = absurd less

  -- ---- a walk forward
  -- it may stand at the row of this number
  pub record IsMoved (z : ℕ) : Type 0 where
    pub quiet : is_owing (stage_to z g.stage) ≡ false
    pub told : HasTold (stage_to z g.stage) g.caller h.kept
    pub put : HasPut (stage_to z g.stage) g.machine.effect (child_of r.id g.machine.steps) h.kept
    pub here : (k : Knows d h.upkeep.invariant.histories r g) → AtStage h.kept h.upkeep.invariant.plain c.book k (stage_to z g.stage) g.machine.effect g.tx

  walked_left : (z : ℕ) → turned_by d r g (StageOutput.On (stage_to z g.stage) None) ≡ record { next = Some (walked z r); mark = None; starts = false; wait = None; reply = None }
  walked_left z = ap (λ (y : standing.RunAt). record { next = Some (record r { at = y }); mark = None; starts = false; wait = None; reply = None }) (sym (ap (run_to z) at))

  module _ (y : Item) (row : ℕ) (place : Option Place) (walks : walking r ≡ Some (record { key = at_row (head_key y) row; place = place })) where
    abbrev w : Walking
    w = record { key = at_row (head_key y) row; place = place }

    walked_on : (l : Rows) (z : ℕ) → LeadsOn l (at_row (head_key y) row) place z → WalkedOn d (count_changes c.book) r w z c.now l
    walked_on l z leads = walks_on d (count_changes c.book) r w z c.now l walks leads

    -- it is led on in both
    pub led_on : (z e : ℕ) → LeadsOn m (at_row (head_key y) row) place z → LeadsOn h.kept (at_row (head_key y) row) place e → is_owing (stage_to z g.stage) ≡ false → HasTold (stage_to z g.stage) g.caller h.kept → HasPut (stage_to z g.stage) g.machine.effect (child_of r.id g.machine.steps) h.kept
        → ((k : Knows d h.upkeep.invariant.histories r g) → AtStage h.kept h.upkeep.invariant.plain c.book k (stage_to z g.stage) g.machine.effect g.tx) → Turns
    led_on z e leads kept quiet told put here =
        let there = walked_on m z leads in
        let other = walked_on h.kept e kept in
        moves there.stands other.stands (stage_to z g.stage) quiet told put here (there.told ∙ sym (walked_left z)) (ap (λ (q : Turned). q.mark) other.told)

  -- ---- where the rows that it is led to stay
  -- the row that it stands at is there
  module _ (y : Item) where
    abbrev pub there_is : ℕ → Type 0
    there_is row = is_some (map.get h.kept (at_row (head_key y) row)) ≡ true → is_some (map.get m (at_row (head_key y) row)) ≡ true

    pub safe_there : (row : ℕ) → IsSafeFrom d.life r.deadline (chain m (head_key y)) row → there_is row
    safe_there row safe kept = same_or row 0
        (λ at. first_there h.gone (chain h.kept (head_key y)) (map.get m (at_row (head_key y) row)) (map.get h.kept (at_row (head_key y) row)) (subst (λ z. LessRow h.gone (chain h.kept (head_key y)) z (map.get m (at_row (head_key y) row)) (map.get h.kept (at_row (head_key y) row))) at (h.less.cells y row)) kept)
        (λ off. safe_some (map.get m (at_row (head_key y) row)) (safe (above row off) row ([], refl)))
      where
        above : (row : ℕ) → (row == 0) ≡ false → 0 < row
        above zero off = cc
        above (suc row) off = omega arith

        safe_some : (o : Option Row) → IsSafeTo d.life r.deadline o → is_some o ≡ true
        safe_some (Some (Row.Cell u)) safe = refl
        safe_some None safe = absurd safe
        safe_some (Some o) safe = absurd safe

    -- the row that is to follow it is there, where it is kept
    pub next_there : (row : ℕ) → IsFollowed d.life r.deadline (chain m (head_key y)) row → there_is (row + 1)
    next_there row (safe, inr after) kept = by_row (map.get m (at_row (head_key y) (row + 1))) after
      where
        by_row : (o : Option Row) → IsSafeTo d.life r.deadline o → is_some o ≡ true
        by_row (Some (Row.Cell u)) safe = refl
        by_row None safe = absurd safe
        by_row (Some o) safe = absurd safe
    next_there row (safe, inl none) kept = by_kept (map.get h.kept (at_row (head_key y) (row + 1))) refl kept
      where
        f : Chain
        f = chain h.kept (head_key y)

        by_next : (l : Linked f) (u k : Cell) (s : Row) → map.get m (at_row (head_key y) row) ≡ Some (Row.Cell u) → f row ≡ Some (Row.Cell k) → f (row + 1) ≡ Some s → u.next ≡ None → (p : Option ℕ) → k.next ≡ p → LeadsPast h.gone f row u.next p → is_some (map.get m (at_row (head_key y) (row + 1))) ≡ true
        by_next l u k s is at after ends None to past =
            let spare = follows_last f l row k s at to after in
            ap is_some (unfollowed_alike h.gone (chain m (head_key y)) f l (h.less.cells y) (row + 1) spare.0 spare.1 spare.2) ∙ ap is_some after
        by_next l u k s is at after ends (Some e) to past = absurd (subst (λ z. LeadsPast h.gone f row z (Some e)) ends past)

        by_less : (l : Linked f) (s : Row) → f (row + 1) ≡ Some s → (o p : Option Row) → map.get m (at_row (head_key y) row) ≡ o → f row ≡ p → LessRow h.gone f row o p → is_some o ≡ true → is_some (map.get m (at_row (head_key y) (row + 1))) ≡ true
        by_less l s after (Some (Row.Cell u)) (Some (Row.Cell k)) is at less some = by_next l u k s is at after (ap next_of (sym is) ∙ none) k.next refl less.next
        by_less l s after (Some (Row.Cell u)) p is at less some = absurd less
        by_less l s after (Some o) p is at less some = absurd less
        by_less l s after None p is at less some = cc

        by_kept : (o : Option Row) → f (row + 1) ≡ o → is_some o ≡ true → is_some (map.get m (at_row (head_key y) (row + 1))) ≡ true
        by_kept None after some = cc
        by_kept (Some s) after some =
            let l = there_linked f (h.upkeep.invariant.rows.chains y) (row + 1) s after in
            by_less l s after (map.get m (at_row (head_key y) row)) (f row) refl refl (h.less.cells y row) (safe_there row safe (rows_below f l (row + 1) row s after (omega arith)))
