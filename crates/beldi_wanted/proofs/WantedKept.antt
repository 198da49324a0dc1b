-- Every event keeps that spare rows are wanted: those that stay lack the same notes, and one that is made is wanted by who makes it.
use Rattle.std.specs.FinMap as map
use Rattle.std.specs.FinMap.{get-empty}
use Rattle.std.specs.Ordering.{is_eq}
use Rattle.std.proofs.Common.{◌≡◌, ◌⊎◌, ◌==◌, inl, inr, ℕ, ◌+◌, Bool, true, false, cond, Option, Some, None, is_some, length, refl, ap, sym, ◌∙◌, subst, arith}
use Rattle.std.specs.Prelude.{Result}
use Rattle.std.specs.declared.alloc.AllocError.{AllocError}
use Rattle.beldi_value.specs.declared.value.Value.{Value}
use Rattle.beldi_tree.specs.declared.deployment.Deployment.{Deployment}
use Rattle.beldi_book.specs.LinearOrder.{count_changes}
use Rattle.beldi_plain.specs.Item.{Item}
use Rattle.beldi_row.{proofs.Gets.got, proofs.Gets.key_same, specs.Act.act, specs.Key.RowKey, specs.Key.at_row, specs.Key.key_cmp, specs.Log.note_at, specs.Table.Rows, specs.Table.set_row, specs.declared.row.Row.Row}
use Rattle.beldi_query.specs.{declared.query.Query.Query, Query.rows_after}
use Rattle.beldi_chain.{proofs.Heads.item_head, specs.Chain.Chain, specs.Chain.chain, specs.Content.Content}
use Rattle.beldi_links.proofs.{LinkKeeps.row_set, Meets.rows_below, Ways.same_or}
use Rattle.beldi_links.specs.Links.{SetTo}
use Rattle.beldi_intent.specs.Intent.{bind_asks, issue_asks, root_key}
use Rattle.beldi_step.specs.{HostStep.Core, HostStep.EventOn, Run.place_of, Run.run_asks, declared.event.Event.Event, declared.event.EventReply.EventReply}
use Rattle.beldi_histories.specs.{Contents.content_of, Contents.head_key, Stands.key_in}
use Rattle.beldi_invariant.proofs.{Events.keeps_invariant, OneAnswer.answers_stay, OneEvent.one_row}
use Rattle.beldi_invariant.specs.{InvariantLaws.OneRowChanged, OneAnswer.AnswersStay, Invariant.Invariant}
use Rattle.beldi_upkeep.proofs.Shapes.{Shape, TurnOf, shape}
use Rattle.beldi_wanted.specs.Wanted.{BeginsWanted, HasSpare, IsLent, HasExpectedNote, KeepsWanted, Wanted}
use Rattle.beldi_wanted.proofs.{Frees.frees_begin, Frees.frees_kept, Growing.body_kept, Growing.grows_at, Makers.Makes, Makers.quiet, Makers.run_wants, Spares.cell_at, Spares.ended, Spares.linked_at, Spares.made_content, Spares.made_last, Spares.same_content, Spares.spare_last}

-- ---- over no rows
pub begins_wanted : BeginsWanted
begins_wanted d now = record {
  spares = λ x s. let clash = sym (get-empty key_cmp (at_row (head_key x) s.row)) ∙ s.there in cc;
  frees = frees_begin 0 now;
}

-- ---- what stays wanted
module _ (d : Deployment) (c : Core) (m n : Rows) (one : OneRowChanged c m n) (answers : AnswersStay m n) (x : Item) (same : content_of n x ≡ content_of m x) where
  carried : HasExpectedNote d m x ⊎ IsLent m x → HasExpectedNote d n x ⊎ IsLent n x
  carried (inl o) = inl (record {
    id = o.id;
    instance = o.instance;
    home = o.home;
    body = body_kept c m n one (key_in o.home o.id) _ o.body;
    answered = λ k a at. answers o.id o.instance.func k _ _ a (o.answered k a at);
    func = o.func;
    notes = o.notes;
    none = ap (λ (z : Content). note_at z.notes (place_of o.id (length o.instance.answers))) same ∙ o.none;
  })
  carried (inr o) = inr (record { tx = o.tx; owner = ap (λ (z : Content). z.owner) same ∙ o.owner })

-- ---- a row that a query makes
module _ (x : Item) (r now : ℕ) (m : Rows) (none : map.get m (at_row (head_key x) (r + 1)) ≡ None) where
  abbrev key : RowKey
  key = at_row (head_key x) (r + 1)

  makes : (q : Query) → is_some (map.get (rows_after q now m) key) ≡ true → Makes x r now q
  makes (Query.Act k a) there = by_test (is_eq (key_cmp key k)) refl (ap is_some (sym (got m k key (act a now (map.get m k)).0)) ∙ there)
    where
      by_test : (b : Bool) → is_eq (key_cmp key k) ≡ b → is_some (cond b (act a now (map.get m k)).0 (map.get m key)) ≡ true → Makes x r now (Query.Act k a)
      by_test true e there = let same = key_same key k e in (sym same, ap (λ o. is_some (act a now o).0) (sym none ∙ ap (map.get m) same) ∙ there)
      by_test false e there = let clash = sym (ap is_some none) ∙ there in cc
  makes (Query.After k) there = let clash = sym (ap is_some none) ∙ there in cc

  -- it is set, and no other
  made_set : (q : Query) → Makes x r now q → (v : Option Row) × SetTo (chain m (head_key x)) (r + 1) v (chain (rows_after q now m) (head_key x))
  made_set (Query.Act k a) made =
      let v : Option Row = (act a now (map.get m k)).0 in
      (v, subst (λ z. SetTo (chain m (head_key x)) (r + 1) v (chain (set_row m z v) (head_key x))) (sym made.0) (row_set m (head_key x) (item_head x.func x.table x.key) (r + 1) v))
  made_set (Query.After k) made = absurd made

-- ---- an event
module _ (d : Deployment) (room old new : ℕ) (e : Event) (c b : Core) (m n : Rows) (r : Result EventReply AllocError) (h : Invariant d c m) (wanted : Wanted d c m) (s : EventOn d room old new e c m b n r) (x : Item) (spare : HasSpare (chain n (head_key x))) where
  abbrev f : Chain
  f = chain m (head_key x)

  abbrev g : Chain
  g = chain n (head_key x)

  one : OneRowChanged c m n
  one = one_row d room old new e c b m n r s

  then_invariant : Invariant d b n
  then_invariant = keeps_invariant d room old new e c b m n r h s

  abbrev Goal : Type 0
  Goal = HasExpectedNote d n x ⊎ IsLent n x

  carry : content_of n x ≡ content_of m x → HasExpectedNote d m x ⊎ IsLent m x → Goal
  carry same w = carried d c m n one (answers_stay d room old new e c b m n r s) x same w

  -- the row was there before
  stayed : (y : Row) → f (spare.row + 1) ≡ Some y → Goal
  stayed y there =
      let l = linked_at f (h.rows.chains x) (spare.row + 1) (ap is_some there) in
      let here = cell_at f l spare.row (rows_below f l (spare.row + 1) spare.row y there (omega arith)) in
      let grows : (i : ℕ) → _ = λ i. grows_at c m n one (at_row (head_key x) i) in
      let before : HasSpare f = record { row = spare.row; cell = here.0; there = here.1; ends = ended f g grows spare.row here.0 spare.cell here.1 spare.there spare.ends; after = ap is_some there } in
      let last = spare_last f l before in
      carry (same_content f g grows l (ap is_some (ap (λ z. f (z + 1)) (sym last) ∙ there)) spare.cell (ap g (sym last) ∙ spare.there) spare.ends) (wanted.spares x before)

  -- the row is made
  module _ (none : f (spare.row + 1) ≡ None) where
    made_by : (q : Query) → n ≡ rows_after q c.now m → Makes x spare.row c.now q
    made_by q rows = makes x spare.row c.now m none q (subst (λ l. is_some (map.get l (at_row (head_key x) (spare.row + 1))) ≡ true) rows spare.after)

    not_next : (spare.row == (spare.row + 1)) ≡ false
    not_next = same_or spare.row (spare.row + 1) (λ e. absurd (omega (arith, e))) (λ e. e)

    by_turn : TurnOf d c.runs c.now (count_changes c.book) b.runs m n → Goal
    by_turn turn =
        let q = run_asks turn.run in
        let made = made_by q turn.rows in
        let put = made_set x spare.row c.now m none q made in
        let set : SetTo f (spare.row + 1) put.0 g = subst (λ l. SetTo f (spare.row + 1) put.0 (chain l (head_key x))) (sym turn.rows) put.1 in
        let l = linked_at f (h.rows.chains x) spare.row (ap is_some (sym (set.others spare.row not_next) ∙ spare.there)) in
        let k = linked_at g (then_invariant.rows.chains x) spare.row (ap is_some spare.there) in
        let last = made_last f g spare.row put.0 set none l k spare refl in
        carry (made_content f g spare.row put.0 set none l k spare refl)
        (run_wants d c m h x l (ap (λ z. f (z + 1)) last ∙ none) turn.run turn.number turn.live_there wanted.frees (subst (λ z. Makes x z c.now q) (sym last) made))

    by_shape : Shape d c.runs c.now (count_changes c.book) b.runs m n → Goal
    by_shape (inl still) = absurd (let clash = sym (ap is_some none) ∙ subst (λ l. is_some (map.get l (at_row (head_key x) (spare.row + 1))) ≡ true) still.rows spare.after in cc)
    by_shape (inr (inl root)) = absurd (by_asked root.query root.asked (made_by root.query root.rows))
      where
        by_asked : (q : Query) → ((t : ℕ) × (q ≡ issue_asks t)) ⊎ ((t : ℕ) × ((f : ℕ) × ((a : Value) × (q ≡ bind_asks t f a)))) → Makes x spare.row c.now q → ⊥
        by_asked q (inl is) made = quiet x spare.row c.now (root_key is.0) refl (subst (Makes x spare.row c.now) is.1 made).0
        by_asked q (inr is) made = quiet x spare.row c.now (root_key is.0) refl (subst (Makes x spare.row c.now) is.1.1.1 made).0
    by_shape (inr (inr turn)) = by_turn turn

  still_wanted : Goal
  still_wanted = by_row (f (spare.row + 1)) refl
    where
      by_row : (o : Option Row) → f (spare.row + 1) ≡ o → Goal
      by_row None none = by_shape none (shape d room old new e c b m n r s)
      by_row (Some y) there = stayed y there

pub keeps_wanted : KeepsWanted
keeps_wanted d room old new e c b m n r h wanted s = record {
  spares = λ x spare. still_wanted d room old new e c b m n r h wanted s x spare;
  frees = frees_kept d room old new e c b m n r wanted.frees s;
}
