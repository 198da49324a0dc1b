-- The turns of an operation on an item: they rest on the law that a chain is a logged cell, and on what each operation is.
use Rattle.beldi_plain.specs.declared.kind.Kind.{Kind}
use Rattle.beldi_row.specs.declared.key.Kind.TheVariants as kinds
use Rattle.beldi_daal.specs.WriteWalk.{walk_at}
use Rattle.beldi_histories.specs.Expected.{noted}
use Rattle.beldi_invariant.proofs.Names.{rows_there, write_spares, AllGrow, Answer, Answers, Begun, CellOp, ChangedAlone, Core, Deployment, DidOnce, DoneRows, Effect, Frame, Grows, Inside, Instance, IntentId, IsAnswer, IsFree, IsLinkedItem, IsTrue, Item, Histories, Knows, List, LoggedTurn, Logs, Matches, None, Note, OnItem, Place, Plain, PlainState, Query, Invariant, Rows, Run, SameShadows, WellFormedHistories, StageOutput, SeesAt, SeesPut, Some, Step, TxId, Value, WriteAt, WriteGoes, WriteWalk, [], ahead_set, answer_after, answer_noted, answers_it, ap, arith, by_op, cell_at, cell_key, cell_of, cell_op, chain, commit_in, content_of, does_so, done_note, done_output, effect_before, effect_of, enabled_step, false, free_at_operation, head_key, holds, if_answers, if◌then◌else◌, is_begin, is_eq, is_some, item_in, item_total, item_touched, kind_of, length, advanced, moved_one, no_root, no_tx, nobody_else, none_out, note_after, note_at, note_done, note_here, note_of, note_of_op, noted_answer, op_of, operate, operation_answers, operation_done, operation_step, option_and_then, other_shadows, place_of, put_asks, put_output, refl, root_key, rows_after, same_some, set_agrees, sets, slice_get, subst, sym, tied_itself, query_reply, touched_by, true, turn_next, turned_by, tx_after, tx_now, unbarred, value_at, walk_so, wants_answer, write_asks, write_goes, write_output, ℕ, ◌∙◌, ◌∷◌, ◌≡◌, Mark, Owner, Stage}
use Rattle.beldi_invariant.proofs.Moves.{AfterTurn, AfterQuery, SameRoots, change_entered, Entered, Kept, Stays}
use Rattle.beldi_invariant.proofs.Frames.{frame_done, frame_held, item_stays, items_stay, nobody_new, nobody_set, none_finish}
use Rattle.beldi_invariant.proofs.StageTurns.{effect_here, answer_here, step_here, effect_next, wants_it, fits, not_over, goes_on, held, worn, ends, stays_on, replays, steps_on, outside_here, tx_step, tx_next, plain_there, unlocked_there}
use Rattle.beldi_invariant.proofs.{Settling.settled_grown, Settling.settled_outside, Others.kept_moving, Keeping.goes_answered, Keeping.stays_by, Shown.value_here, Shown.holds_here, Shown.legal_well_formed, Shown.settled, ExpectedOutside.note_if, ExpectedOutside.note_there, ExpectedOutside.content_kept, ExpectedOutside.contents_kept, ExpectedOutside.others_list, ExpectedOutside.done_lists, KeptWellFormed.answered_kept, Outside.is_call, Grown.grows_moved}
use Rattle.beldi_invariant.proofs.Names.map

-- what is answered to an operation is what its note reads as, and of its kind
abbrev ReadsAs : Effect → OnItem → Answer → Type 0
ReadsAs e o a = (option_and_then noted_answer (noted o.does a) ≡ Some a) × (answers_it e a ≡ true)

pub noted_back : (p : Place) (e : Effect) (o : OnItem) (a : Answer) → op_of e ≡ Some o → IsAnswer p None e a → ReadsAs e o a
noted_back p e o a h is = grind arith

-- ---- what an operation does to its item's cell
abbrev IsCell : Effect → OnItem → Type 0
IsCell e o = cell_op e ≡ Some (record { table = o.table; key = o.key; op = cell_of o.does })

its_cell : (e : Effect) (o : OnItem) → op_of e ≡ Some o → IsCell e o
its_cell e o h = grind arith

-- ---- an effect that is an operation on an item: how it is entered, what it touches, and where it may stand
is_change : (id : IntentId) (e : Effect) (o : OnItem) → op_of e ≡ Some o → kind_of id e ≡ Kind.Change
is_change id e o h = grind arith

touches_it : (e : Effect) (o : OnItem) (q : Instance) → op_of e ≡ Some o → item_touched q e ≡ Some (item_in q.func o)
touches_it e o q h = grind arith

-- .. and it is no call, no end and no begin
pub is_operation : (e : Effect) (o : OnItem) → op_of e ≡ Some o → (is_call e ≡ false) × (commit_in e ≡ None) × (is_begin e ≡ false)
is_operation e o h = grind arith

-- .. its note is told as the answer that it reads as
told_back : (e : Effect) (o : OnItem) (n : Note) (a : Answer) → ReadsAs e o a → noted o.does a ≡ Some n → answer_noted e n ≡ Some a
told_back e o n a back same = ap (if_answers e) (sym (ap (option_and_then noted_answer) same) ∙ back.0) ∙ ap (λ b. if b then Some a else None) back.1

-- ---- the turn
module _ (d : Deployment) (c : Core) (m : Rows) (i : ℕ) (r : Run) (g : Begun) (h : Invariant d c m) (live : map.get c.runs i ≡ Some r) (k : Knows d h.histories r g) (finds : Inside m h.plain c.book k g.stage) (out : tx_after d r.id k.instance k.answers ≡ None)
    (e : Effect) {o : OnItem} (so : op_of e ≡ Some o) (is : g.machine.effect ≡ e) (at : WriteAt) (sees : SeesPut m r.func (place_of r.id g.machine.steps) at (cell_op e)) where
  abbrev op : CellOp
  op = cell_of o.does

  abbrev item : Item
  item = item_in r.func o

  abbrev place : Place
  place = place_of r.id g.machine.steps

  abbrev walk : WriteWalk
  walk = record { home = r.func; item = Plain o.table o.key; place = place; who = Owner.Intent r.id; op = op; at = at }

  abbrev asks : Query
  asks = write_asks (cell_key r.func o.table o.key) place (Owner.Intent r.id) op at

  -- the rows after it
  abbrev n : Rows
  n = rows_after asks c.now m

  -- the item has the note of what the step was answered
  note_is : (later : List Answer) → k.later ≡ later → note_at (content_of m item).notes place ≡ note_if item r.func e (slice_get later 0)
  note_is later left =
      note_there d m h.histories h.lock_ahead h.rows r.id k.instance k.made g.machine.steps (outside_here k out).0 (tx_step k out)
      (ap commit_in (effect_here k ∙ is) ∙ (is_operation e o so).1) item
      ∙ ap (note_if item k.instance.func (effect_before d k.instance g.machine.steps)) (answer_here k later left)
      ∙ ap (λ z. note_if item k.instance.func z (slice_get later 0)) (effect_here k ∙ is)
      ∙ ap (λ f. note_if item f e (slice_get later 0)) k.func

  note_read : (a : Answer) (rest : List Answer) → k.later ≡ a ∷ rest → note_at (content_of m item).notes place ≡ noted o.does a
  note_read a rest left = note_is (a ∷ rest) left ∙ ap (λ z. note_of item r.func z a) so ∙ ap (λ b. if is_eq b then noted o.does a else None) (tied_itself item_total item)

  abbrev After : StageOutput → Type 0
  After s = AfterTurn d h.plain c i r (turned_by d r g s) n

  module _ (same : ChangedAlone (head_key item) m n) (linked : IsLinkedItem n item) (rows_grow : AllGrow m n) where
    roots : SameRoots m n
    roots t = ap is_some (same (root_key t) (no_root t r.func (kinds.Data o.table o.key 0) refl))

    same_shadows : SameShadows m n
    same_shadows = other_shadows m n item same

    kept : content_of n item ≡ content_of m item → Stays h n
    kept held = stays_by h n same_shadows (content_kept d m n item same h.histories h.lock_ahead linked held h.rows) (λ x. others_list m n item same x (contents_kept d m n item same held x) ∙ h.values x)
        (frame_held d m h.plain h.plain h.histories h.histories (items_stay d m h.plain h.plain h.histories refl) (nobody_new d h.histories) n item same rows_grow (rows_there asks (write_spares (cell_key r.func o.table o.key) place (Owner.Intent r.id) op at) c.now m) held)
        (none_finish m n (head_key item) same d h.histories refl)

    -- it was done now: it is the instance's next
    module _ (left : k.later ≡ []) (did : DidOnce place (Owner.Intent r.id) op true (content_of m item) (content_of n item)) where
      abbrev old : Value
      old = value_at h.plain (item_in k.instance.func o)

      abbrev a : Answer
      a = answer_after o.does old

      now : effect_of d k.instance ≡ e
      now = effect_next k left ∙ is

      wants_op : op_of (effect_of d k.instance) ≡ Some o
      wants_op = ap op_of now ∙ so

      answers_so : IsAnswer place None e a
      answers_so = operation_answers place e o old so

      old_here : (content_of m item).value ≡ old
      old_here = value_here h item (no_tx r.id (content_of m item).owner (unbarred op r.id (content_of m item).owner did.1.0)) ∙ ap (λ f. value_at h.plain (item_in f o)) (sym k.func)

      told : (w : Note) → note_at (content_of n item).notes place ≡ Some w → noted o.does a ≡ Some w
      told w there = (does_so o.does).note old ∙ ap (λ v. Some (note_after op v)) (sym old_here) ∙ sym (note_here (content_of m item).notes place (note_after op (content_of m item).value) did.0)
          ∙ ap (λ x. note_at x.notes place) (sym did.1.1) ∙ there

      abbrev y : Item
      y = item_in k.instance.func o

      abbrev state : PlainState
      state = operate h.plain r.id k.instance y o.does

      abbrev next : Histories
      next = map.insert h.histories r.id (advanced d r.id k.instance a)

      there : map.get h.plain.made r.id ≡ Some k.instance
      there = plain_there d c m i r g h live k finds out e is left

      outside : tx_now d r.id k.instance ≡ None
      outside = tx_next k out left

      did_here : DoneRows m n (item_in k.instance.func o) (place_of r.id (length k.instance.answers)) op
      did_here = subst (λ s. DoneRows m n (item_in k.instance.func o) (place_of r.id s) op) (step_here k left)
          (subst (λ f. DoneRows m n (item_in f o) place op) (sym k.func) (record { same = same; linked = linked; none = did.0; free = did.1.0; here = did.1.1 }))

      open_still : k.instance.outcome ≡ None
      open_still = not_over h k left (subst (λ z. IsTrue (wants_answer z)) (sym is) (wants_it place None e a answers_so))

      -- nobody else has locked the item
      free_here : IsFree d h.plain (Step r.id)
      free_here x touched j held =
          let touches : Some item ≡ Some x =
          ap (λ f. Some (item_in f o)) (sym k.func) ∙ sym (ap (touched_by d) there ∙ touches_it (effect_of d k.instance) o k.instance wants_op) ∙ touched in
          nobody_else r.id (content_of m item).owner (unbarred op r.id (content_of m item).owner did.1.0) j
          ((h.rows.items item).owner j ∙ holds_here h item j ∙ ap (λ z. holds d z (map.get h.plain.made j)) (same_some touches) ∙ held)

      leads : Entered d c h.plain h.histories (Step r.id) state next
      leads = change_entered d c m h (Step r.id) state next refl
          (enabled_step d h.plain r.id k.instance there open_still (free_at_operation h.plain.made r.id k.instance (effect_of d k.instance) o wants_op) (is_change r.id (effect_of d k.instance) o wants_op)
          ∙ ap Some (operation_step h.plain r.id k.instance (effect_of d k.instance) o wants_op)) free_here

      -- no transaction owns its item
      unowned : (t : TxId) → (content_of m y).owner ≡ Some (Owner.Tx t) → ⊥
      unowned = no_tx r.id (content_of m y).owner (unbarred op r.id (content_of m y).owner did_here.free)

      unlocked : h.lock_ahead r.id ≡ false
      unlocked = unlocked_there d c m i r g h live k finds out e is left

      frame : Frame d m n h.plain state h.histories next
      frame = frame_done d m h.plain state h.histories next (item_stays d m h.plain state next y (sets o.does old) refl unowned) (nobody_set d h.histories r.id (advanced d r.id k.instance a) (ap is_some k.made)) n y (place_of r.id (length k.instance.answers)) op rows_grow (rows_there asks (write_spares (cell_key r.func o.table o.key) place (Owner.Intent r.id) op at) c.now m) did_here

      grows : Grows h.histories next
      grows = grows_moved d h.histories r.id k.instance a k.made

      well_formed_now : WellFormedHistories d next
      well_formed_now = answered_kept d h.histories h.well_formed r.id k.instance a k.made open_still outside (is_operation (effect_of d k.instance) o wants_op).0 (operation_answers (place_of r.id (length k.instance.answers)) (effect_of d k.instance) o old wants_op)

      rows_now : Matches d n next h.lock_ahead
      rows_now = operation_done d h.histories h.lock_ahead r.id k.instance (advanced d r.id k.instance a) old o op (does_so o.does) k.made unlocked outside wants_op (moved_one d r.id k.instance a) m n did_here (value_here h y unowned) h.rows

      kept_done : Kept h n state next h.lock_ahead
      kept_done = kept_moving h n state next h.lock_ahead
          (goes_answered h n same_shadows r.id k.instance a k.made unlocked outside state.items (λ j z other. set_agrees d m h.plain h.histories h.lock_ahead h.shadows h.extends h.well_formed h.rows (legal_well_formed h) y (sets o.does old) unowned j z))
          (ahead_set d h.histories h.lock_ahead h.ahead_at_ends h.lock_ahead r.id (advanced d r.id k.instance a) (none_out h.lock_ahead r.id unlocked)) well_formed_now rows_now (done_lists m n h.plain y o.does (place_of r.id (length k.instance.answers)) did_here h.values)
          (settled_grown d m h.plain state next leads.grows (settled_outside d m h.plain h.histories r.id k.instance k.made a outside (settled h))) grows frame (none_finish m n (head_key item) same d next refl)

      steps : After (Answers a (Some Mark.Step))
      steps = steps_on d c m i r g h live k finds out e is a Mark.Step state n left answers_so leads roots kept_done

    -- the step is done now, or was done before, by what it has been answered; the other two cannot be
    abbrev DidNow : Type 0
    DidNow = DidOnce place (Owner.Intent r.id) op true (content_of m item) (content_of n item)

    now_first : k.later ≡ [] → (w : Note) → note_at (content_of n item).notes place ≡ Some w → DidNow → After (write_output e (WriteGoes.Done w true))
    now_first left w there did = subst (λ x. After (done_output true x)) (sym (told_back e o w (a left did) (noted_back place e o (a left did) so (answers_so left did)) (told left did w there))) (steps left did)

    fits_back : (b : Answer) (rest : List Answer) → k.later ≡ b ∷ rest → ReadsAs e o b
    fits_back b rest left = noted_back place e o b so (fits d c m i r g h live k finds out e is b rest left)

    not_again : (b : Answer) (rest : List Answer) → k.later ≡ b ∷ rest → DidNow → ⊥
    not_again b rest left did = let clash = sym (fits_back b rest left).0 ∙ ap (option_and_then noted_answer) (sym (note_read b rest left) ∙ did.0) in cc

    done_now : (later : List Answer) → k.later ≡ later → (w : Note) → note_at (content_of n item).notes place ≡ Some w → DidNow → After (write_output e (WriteGoes.Done w true))
    done_now [] left w noted did = now_first left w noted did
    done_now (b ∷ rest) left w noted did = absurd (not_again b rest left did)

    not_yet : k.later ≡ [] → (w : Note) → note_at (content_of m item).notes place ≡ Some w → ⊥
    not_yet left w there = let clash = sym there ∙ note_is [] left in cc

    again : (b : Answer) (rest : List Answer) → k.later ≡ b ∷ rest → (w : Note) → note_at (content_of m item).notes place ≡ Some w → content_of n item ≡ content_of m item → After (write_output e (WriteGoes.Done w false))
    again b rest left w there same = subst (λ x. After (done_output false x)) (sym (told_back e o w b (fits_back b rest left) (sym (note_read b rest left) ∙ there))) (replays d c m i r g h live k finds out e is n b rest roots (kept same) left)

    done_before : (later : List Answer) → k.later ≡ later → (w : Note) → note_at (content_of m item).notes place ≡ Some w → content_of n item ≡ content_of m item → After (write_output e (WriteGoes.Done w false))
    done_before [] left w noted same = absurd (not_yet left w noted)
    done_before (b ∷ rest) left w noted same = again b rest left w noted same

    -- it goes on to what it sees then
    by_output : (z : WriteGoes) → Logs place (Owner.Intent r.id) op (walk_so z) (content_of m item) (content_of n item) → SeesAt (chain n (head_key item)) place (cell_at (walk_at walk z).at) → After (write_output e z)
    by_output (WriteGoes.On to) whole version = goes_on d c m i r g h live k finds out e is n (Stage.Write to) roots (kept whole) (ap is_some so, subst (SeesPut n r.func place to) (sym (its_cell e o so)) version)
    by_output WriteGoes.Stays whole version = stays_on d c m i r g h live k finds n roots (kept whole)
    by_output (WriteGoes.Done w true) l version = done_now k.later refl w l.0 l.1
    by_output (WriteGoes.Done w false) l version = done_before k.later refl w (ap (λ x. note_at x.notes place) (sym l.1) ∙ l.0) l.1
    by_output WriteGoes.NotOwner l version = ends d c m i r g h live k n roots (kept l.2)
    by_output (WriteGoes.Held w) l version = held d c m i r g h live k w n roots (kept l.2)
    by_output WriteGoes.Worn l version = worn d c m i r g h live k n roots (kept l.1)

  pub operation_turn : AfterQuery d h.plain c.now m (λ u. turn_next c i r (turned_by d r g (put_output e at (note_done e) u))) (put_asks r.id r.func g.machine.steps at (cell_op e))
  operation_turn =
      let z = write_goes (done_note op) at (query_reply asks c.now m) in
      let logged : LoggedTurn walk (walk_at walk z) m n (walk_so z) = by_op walk m n c.now (h.rows.chains item) (subst (SeesPut m r.func place at) (its_cell e o so) sees) refl in
      subst (λ x. AfterQuery d h.plain c.now m (λ u. turn_next c i r (turned_by d r g (put_output e at (note_of_op x) u))) (put_asks r.id r.func g.machine.steps at x)) (sym (its_cell e o so))
      (by_output logged.others logged.linked logged.grows z logged.logs logged.sees)
