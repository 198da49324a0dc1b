-- A turn over the table's rows is that turn over the kept ones, but for visits.
use Rattle.std.specs.FinMap as map
use Rattle.std.proofs.Common.{◌≡◌, ◌⊎◌, inl, inr, ℕ, ◌≤◌, Bool, true, false, Option, Some, None, is_some, refl, ap, sym, ◌∙◌, subst, arith}
use Rattle.beldi_value.specs.{declared.id.IntentId.IntentId, declared.outcome.Outcome.Outcome, declared.place.Caller.Caller}
use Rattle.beldi_tree.specs.declared.deployment.Deployment.{Deployment}
use Rattle.beldi_tree.specs.Names.{func_at}
use Rattle.beldi_lang.specs.declared.effect.Effect.{Effect}
use Rattle.beldi_book.specs.LinearOrder.{count_changes}
use Rattle.beldi_histories.proofs.Cases.{by_option}
use Rattle.beldi_row.specs.{Act.act, Act.call_back_to, Act.prunes, Key.RowKey, Table.Rows, declared.act.Act.Act, declared.row.Row.Row}
use Rattle.beldi_query.specs.{declared.query.Query.Query, Query.QueryReply, Query.replied, Query.query_reply, Query.rows_after}
use Rattle.beldi_invokelog.specs.InvokeLog.{call_at, call_in, invoke_key, result_in, back_of}
use Rattle.beldi_invokelog.specs.declared.invoke_log.Back as back
use Rattle.beldi_intent.specs.Intent.{body_told, intent_key}
use Rattle.beldi_step.specs.HostStep.{Core}
use Rattle.beldi_step.specs.Run.{asks_at, back_to_asks, back_output, begin_in, run_asks, run_told, stage_asks, stage_output, notify_asks, told_at, turned_by}
use Rattle.beldi_step.specs.declared.run.{Begun.Begun, Run.Run, RunAt.TheVariants.Looks, RunAt.TheVariants.Registers, RunAt.TheVariants.Begins, StageOutput.StageOutput, Stage.Stage}
use Rattle.beldi_step.specs.declared.run.RunAt as standing
use Rattle.beldi_histories.specs.Stands.{key_in}
use Rattle.beldi_invariant.specs.{FoundInside.has_finish, Invariant.Invariant}
use Rattle.beldi_upkeep.specs.{Callees.belongs_to, Checked.is_visit, WorksFor.AsksSo, WorksFor.CalledBy, WorksFor.IsApart, WorksFor.IsCaller, WorksFor.IsOfOther, WorksFor.WorksFor, WorksFor.is_visiting}
use Rattle.beldi_kept.specs.Less.{IsGone, Less, is_item}
use Rattle.beldi_kept.proofs.{Gone.IsDone, Gone.done_there, Gone.one_row, Less.GoesOn, Less.IsBare, Less.act_both, Less.act_gone, Less.binds, Less.not_item, Less.told_both}
use Rattle.beldi_upkeep.proofs.{Asking.asks_for_work, GivenBack.given_back, NewWork.work_bound}

-- whether a row of an item is asked for
abbrev pub asks_item : Query → Bool
asks_item (Query.Act k a) = is_item k.kind
asks_item (Query.After k) = false

-- ---- a turn
pub record SameTurn (d : Deployment) (c : Core) (gone : IntentId → Bool) (m kept : Rows) (r : Run) (q : Query) : Type 0 where
  pub turned : run_told d (count_changes c.book) r (query_reply q c.now m) ≡ run_told d (count_changes c.book) r (query_reply q c.now kept)
  pub rows : GoesOn gone m kept (rows_after q c.now m) (rows_after q c.now kept)

-- a row of who is gone tells no body
no_body : (now func : ℕ) (w : Option Row) → (has_finish w ≡ true) ⊎ IsBare w → body_told func (replied (act Act.Look now w).1) ≡ None
no_body now func (Some (Row.Intent i)) (inl over) = grind (arith, over)
no_body now func (Some (Row.Intent i)) (inr bare) = grind (arith, bare)
no_body now func None (inl over) = cc
no_body now func None (inr bare) = absurd bare
no_body now func (Some w) (inl over) = grind (arith, over)
no_body now func (Some w) (inr bare) = grind (arith, bare)

module _ (d : Deployment) (c : Core) (gone : IntentId → Bool) (m kept : Rows) (less : Less gone m kept) (h : Invariant d c kept) (done : (i : IntentId) → gone i ≡ true → IsDone kept i)
    (spared : (n : ℕ) (r : Run) (i : IntentId) → map.get c.runs n ≡ Some r → c.now ≤ r.deadline → WorksFor r r.at i → gone i ≡ false)
    (n : ℕ) (r : Run) (live : map.get c.runs n ≡ Some r) (in_time : c.now ≤ r.deadline) where
  -- where the rows agree
  alike : (k : RowKey) → is_item k.kind ≡ false → (a : Act) → map.get m k ≡ map.get kept k → SameTurn d c gone m kept r (Query.Act k a)
  alike k other a same = record { turned = ap (run_told d (count_changes c.book) r) (told_both gone m kept less k a c.now same); rows = act_both gone m kept less k other a c.now same }

  -- a query of whom the run works for
  plainly : (q : Query) → asks_item q ≡ false → ((k : RowKey) (a : Act) → q ≡ Query.Act k a → IsApart r r.at k a → ⊥) → is_visiting r.at ≡ false → AsksSo r r.at q → SameTurn d c gone m kept r q
  plainly (Query.Act k a) other none off so = elim (less.rows k other) [
    | inl same ↦ alike k other a same
    | inr gone_here ↦ by_of (belongs_to k.kind) refl gone_here.1
  ]
    where
      by_of : (o : Option IntentId) → belongs_to k.kind ≡ o → IsGone gone o → SameTurn d c gone m kept r (Query.Act k a)
      by_of None e of = absurd of
      by_of (Some i) e of = elim (so i e) [
        | inl works ↦ let clash = sym of ∙ spared n r i live in_time works in cc
        | inr x ↦ absurd (none k a refl x)
      ]
  plainly (Query.After k) other none off so = let clash = sym off ∙ so in cc

  -- where the rows differ, at a key of who is gone
  at_key : (k : RowKey) (a : Act) (i : IntentId) → belongs_to k.kind ≡ Some i → (map.get m k ≡ None → gone i ≡ true → SameTurn d c gone m kept r (Query.Act k a)) → SameTurn d c gone m kept r (Query.Act k a)
  at_key k a i of apart = elim (less.rows k (not_item k.kind (Some i) of refl)) [
    | inl same ↦ alike k (not_item k.kind (Some i) of refl) a same
    | inr off ↦ apart off.0 (subst (IsGone gone) of off.1)
  ]

  -- an act that adds nothing, where whatever is told leads on alike
  leads : (k : RowKey) (a : Act) (i : IntentId) → belongs_to k.kind ≡ Some i → map.get m k ≡ None → gone i ≡ true → (act a c.now None).0 ≡ None → prunes a ≡ false → binds a ≡ false
      → run_told d (count_changes c.book) r (replied (act a c.now None).1) ≡ run_told d (count_changes c.book) r (query_reply (Query.Act k a) c.now kept) → SameTurn d c gone m kept r (Query.Act k a)
  leads k a i of none off adds keeps free same = record {
    turned = ap (λ o. run_told d (count_changes c.book) r (replied (act a c.now o).1)) none ∙ same;
    rows = act_gone gone m kept less k a c.now none (subst (IsGone gone) (sym of) off) adds keeps free;
  }

  -- ---- its own row, before it has begun
  over_at : (i : IntentId) → gone i ≡ true → (home : ℕ) → is_some (map.get kept (key_in home i)) ≡ true → (has_finish (map.get kept (key_in home i)) ≡ true) ⊎ IsBare (map.get kept (key_in home i))
  over_at i off home there = let o = done i off in subst (λ k. (has_finish (map.get kept k) ≡ true) ⊎ IsBare (map.get kept k)) (one_row d c kept h i o.home home (done_there (map.get kept (key_in o.home i)) o.over) there) o.over

  none_told : (home : ℕ) → gone r.id ≡ true → body_told r.func (query_reply (Query.Act (key_in home r.id) Act.Look) c.now kept) ≡ None
  none_told home off = by_option (map.get kept (key_in home r.id)) (λ e. ap (λ w. body_told r.func (replied (act Act.Look c.now w).1)) e)
      (λ w e. no_body c.now r.func (map.get kept (key_in home r.id)) (over_at r.id off home (ap is_some e)))

  looks : r.at ≡ Looks → SameTurn d c gone m kept r (asks_at r Looks)
  looks at = at_key (intent_key r.id r.func) Act.Look r.id refl (λ none off. leads (intent_key r.id r.func) Act.Look r.id refl none off refl refl refl
      (ap (λ x. told_at d (count_changes c.book) r x (replied (act Act.Look c.now None).1)) at
      ∙ sym (ap (begin_in d r (func_at d r.func)) (none_told (intent_key r.id r.func).home off))
      ∙ sym (ap (λ x. told_at d (count_changes c.book) r x (query_reply (asks_at r Looks) c.now kept)) at)))

  -- ---- its caller's call
  module _ (g : Begun) (at : r.at ≡ Begins g) where
    turned_at : (s : Stage) → g.stage ≡ s → (t : QueryReply) → run_told d (count_changes c.book) r t ≡ turned_by d r g (stage_output r.id r.func g.caller g.tx (count_changes c.book) g.machine.steps g.machine.effect s t)
    turned_at s is t = ap (λ x. told_at d (count_changes c.book) r x t) at ∙ ap (λ w. turned_by d r g (stage_output r.id r.func g.caller g.tx (count_changes c.book) g.machine.steps g.machine.effect w t)) is

    own_row : (a : Act) → SameTurn d c gone m kept r (Query.Act (intent_key r.id r.func) a)
    own_row a = at_key (intent_key r.id r.func) a r.id refl (λ none off. let clash = sym off ∙ spared n r r.id live in_time (subst (λ x. WorksFor r x r.id) (sym at) (inl refl)) in cc)

    closes : back.Back → StageOutput
    closes b = back_output g.tx b

    given_told : (u : Outcome) (w : Option Row) → is_some (result_in (call_in w)) ≡ true → back_output g.tx (back_of (replied (act (Act.CallBack u) c.now w).1)) ≡ StageOutput.On Stage.Close None
    given_told u (Some (Row.Invoke x)) there = by_result x.result there
      where
        by_result : (o : Option Outcome) → is_some o ≡ true → back_output g.tx (back_of (replied (call_back_to u x o).1)) ≡ StageOutput.On Stage.Close None
        by_result None there = cc
        by_result (Some v) there = refl
    given_told u None there = cc
    given_told u (Some w) there = cc

    was_given : (z : Caller) → g.stage ≡ Stage.Back → g.caller ≡ Some z → gone z.place.intent ≡ true → is_some (result_in (call_at kept (invoke_key z.func z.place))) ≡ true
    was_given z stage from off = let o = done z.place.intent off in elim o.over [
      | inl fin ↦ given_back d c kept h n r g z live at stage from o.home fin
      | inr bare ↦ absurd (by_row (map.get kept (key_in o.home z.place.intent)) refl bare)
    ]
      where
        by_row : (w : Option Row) → map.get kept (key_in (done z.place.intent off).home z.place.intent) ≡ w → IsBare w → ⊥
        by_row (Some (Row.Intent x)) is none =
            let bound = work_bound d c kept h n r z.place.intent live (inr (subst (λ y. CalledBy y z.place.intent) (sym at) (subst (λ y. IsCaller y z.place.intent) (sym from) refl))) (done z.place.intent off).home x is in
            let clash = sym (ap is_some none) ∙ bound in cc
        by_row None is none = absurd none
        by_row (Some x) is none = absurd none

    gives_back : g.stage ≡ Stage.Back → (b : Option Caller) (e : Effect) → g.caller ≡ b → SameTurn d c gone m kept r (back_to_asks r.id r.func b e)
    gives_back stage (Some z) (Effect.Return u) from = at_key (invoke_key z.func z.place) (Act.CallBack u) z.place.intent refl (λ none off. leads (invoke_key z.func z.place) (Act.CallBack u) z.place.intent refl none off refl refl refl
        (turned_at Stage.Back stage (replied (act (Act.CallBack u) c.now None).1)
        ∙ sym (ap (turned_by d r g) (given_told u (map.get kept (invoke_key z.func z.place)) (was_given z stage from off)))
        ∙ sym (turned_at Stage.Back stage (query_reply (Query.Act (invoke_key z.func z.place) (Act.CallBack u)) c.now kept))))
    gives_back stage b e from = own_row Act.Look

    tells : g.stage ≡ Stage.Notify → (b : Option Caller) → SameTurn d c gone m kept r (notify_asks r.id r.func b)
    tells stage None = own_row Act.Look
    tells stage (Some z) = at_key (invoke_key z.func z.place) Act.NoteRegistered z.place.intent refl (λ none off. leads (invoke_key z.func z.place) Act.NoteRegistered z.place.intent refl none off refl refl refl
        (turned_at Stage.Notify stage (replied (act Act.NoteRegistered c.now None).1) ∙ sym (turned_at Stage.Notify stage (query_reply (Query.Act (invoke_key z.func z.place) Act.NoteRegistered) c.now kept))))

    abbrev At : Stage → Type 0
    At s = SameTurn d c gone m kept r (stage_asks r.id r.func g.caller g.tx g.machine.steps g.machine.effect s)

    elsewhere : (s : Stage) → g.stage ≡ s → asks_item (stage_asks r.id r.func g.caller g.tx g.machine.steps g.machine.effect s) ≡ false → is_visit s ≡ false → ((k : RowKey) → IsOfOther r g.caller g.tx s k → ⊥) → At s
    elsewhere s is other off none = plainly (stage_asks r.id r.func g.caller g.tx g.machine.steps g.machine.effect s) other
        (λ k a e x. none k (subst (λ w. IsOfOther r g.caller g.tx w k) is (subst (λ y. IsApart r y k a) at x)))
        (ap is_visiting at ∙ ap is_visit is ∙ off)
        (subst (λ w. AsksSo r r.at (stage_asks r.id r.func g.caller g.tx g.machine.steps g.machine.effect w)) is (subst (λ y. AsksSo r r.at (asks_at r y)) at (asks_for_work r)))

    by_stage : (s : Stage) → g.stage ≡ s → asks_item (stage_asks r.id r.func g.caller g.tx g.machine.steps g.machine.effect s) ≡ false → is_visit s ≡ false → At s
    by_stage Stage.Back is other off = gives_back is g.caller g.machine.effect refl
    by_stage Stage.Notify is other off = tells is g.caller
    by_stage (Stage.End v) is other off = cc
    by_stage s is other off = elsewhere s is other off (λ k x. x)

  -- a turn that asks for no row of an item is that turn over the kept ones
  pub same_turn : asks_item (run_asks r) ≡ false → is_visiting r.at ≡ false → SameTurn d c gone m kept r (run_asks r)
  same_turn other off = by_at r.at refl
    where
      by_at : (at : standing.RunAt) → r.at ≡ at → SameTurn d c gone m kept r (asks_at r at)
      by_at Looks at = looks at
      by_at (Registers b) at = plainly (asks_at r (Registers b)) refl (λ k a e x. subst (λ y. IsApart r y k a) at x) off (subst (λ y. AsksSo r r.at (asks_at r y)) at (asks_for_work r))
      by_at (Begins g) at = by_stage g at g.stage refl (sym (ap (λ y. asks_item (asks_at r y)) at) ∙ other) (sym (ap is_visiting at) ∙ off)
