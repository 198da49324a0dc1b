-- The turn of a run that is to decide its transaction: it puts the decision, whose entry is the transaction's commit or its abort; or the
-- decision is there.
use Rattle.beldi_book.specs.declared.entry.Entry.TheVariants.{CommittedTx}
use Rattle.beldi_plain.specs.Transaction.{opened}
use Rattle.beldi_invariant.proofs.Names.{Answer, Begun, Bool, ByTx, Core, Deployment, FellAt, Frame, IsConsistent, Grows, Inside, Instance, Intent, IntentId, IsAbort, IsCommit, IsFree, IsFreePlace, IsOpen, IsTrue, Item, Histories, Knows, List, Mark, Matches, None, OpenTx, Option, Own, OwnedAreUnmarked, Owner, OwnersCallNobody, OwnersHaveNotEnded, ParticipantsHaveRows, Place, PlainState, PutRead, Invariant, Row, RowKey, Rows, Run, WellFormedHistories, WellFormedHistory, Some, TookPart, TouchedIn, Touches, AbortedTx, TxId, EndState, Visited, [], aborts_are_entries, act, after, ahead_set, answered, ap, arith, at_calls, behind_decided, commits_are_entries, cond, content_of, decide_by_output, decided, decided_by, decided_output, decision_key, effect_after, effect_of, end_by_asks, end_mark, end_of, end_walk, ended_by, ends_alone, entries_touch, entry_of, eq-eqb, false, few_answers, first_visit, fits, here, if◌then◌else◌, inl, inr, intent_key, is_at, is_owner, is_some, key_self, recorded_none_after, recorded_set, last_answer, length, listed, log_key, advanced, moved_one, no_decision, no_note, no_root, none_out, note_at, open_of, opens_are_open, or_null, outcome_of, own_tx, transactions_are_moves, transactions_touch_their_items, place_of, refl, root_key, row_got, same_some, well_formed_decided, version_of, set_others, set_row, subst, sym, touched, true, turn_next, turned_by, tx_after, tx_begun, tx_end, txs_after, txs_by, unlocked_elsewhere, value_at, wants_answer, with_decision, with_instance, ℕ, ◌++◌, ◌<◌, ◌==◌, ◌∙◌, ◌∷◌, ◌≡◌, ◌⊎◌, Effect, EndGoes, Kind, Stage, Value}
use Rattle.beldi_invariant.proofs.Settling.{IsSettled, holders_set, latest_stays, marks_stay, one_answered, one_local_steps, one_recorded, seated_set, seated_stays, settled_grown, short_set, unended_stays}
use Rattle.beldi_invariant.proofs.Moves.{AfterAct, AfterQuery, AfterTurn, Entered, SameRoots, change_entered, still}
use Rattle.beldi_invariant.proofs.StageTurns.{at_steps, by_answer, enters_on, wanted_here, all_here, effect_next, not_over, well_formed_instance, stands_on, step_here}
use Rattle.beldi_invariant.proofs.{Ages.owns_so, Owning.own_row, Fallen.cause_in, Fallen.cause_is, Closing.closed_rows, Frames.ValuesStay, Frames.frame_log, Frames.no_finish, Frames.nobody_set, Visits.at_part, Visits.visits_found, Grown.grown_moved, Grown.grows_moved, Keeping.as_it_was, OpenOf.open_begun, OpenOf.own_begin, Others.kept_by, Others.end_here, Shown.Settled, Shown.Shows, Shown.holds_here, Shown.settled, Shown.sound}
use Rattle.beldi_invariant.proofs.Names.map

-- ---- small facts
-- its own decision is the one that is there
own_there : (c : Bool) → decided_by c c ≡ EndGoes.Decided false
own_there c = grind arith

-- the mark of a decision without commit, by what its instance was answered last
entry_fell : (id : IntentId) (n : ℕ) (u : Option Answer) (p : Place) (h : Option IntentId) → FellAt id n u p h → entry_of id (end_mark id n (cause_in u) false) ≡ AbortedTx id p h
entry_fell id n u p h f = grind arith

-- how a transaction that owns an item ended
abbrev end_under : Deployment → Histories → Option Owner → Option (ℕ × Bool)
end_under d histories (Some (ByTx t)) = tx_end d histories t
end_under d histories o = None

-- ---- an End is answered: that is no death
one_over : (d : Deployment) (m : Rows) (p : PlainState) (id : IntentId) (k : Instance) → IsSettled d m p id k → IsSettled d m p id (advanced d id k Answer.Done)
one_over d m p id k h = (one_local_steps d m p id (answered k Answer.Done) (one_answered d m p id k Answer.Done (λ c i inside dead. cc) h)).settled

-- ---- the turn
module _ (d : Deployment) (c : Core) (m : Rows) (i : ℕ) (r : Run) (g : Begun) (h : Invariant d c m) (live : map.get c.runs i ≡ Some r) (k : Knows d h.histories r g) (finds : Inside m h.plain c.book k g.stage) (o : OpenTx) (tx : g.tx ≡ Some (Own o))
    (inside_here : tx_after d r.id k.instance k.answers ≡ Some (own_tx r.id r.func o)) (open_here : open_of d k.instance k.answers ≡ Some (Own o)) (commit : Bool) (is : g.machine.effect ≡ Effect.End commit) (mk : Mark) (mark : mk ≡ end_mark r.id g.machine.steps o.cause commit) where
  abbrev own : TxId
  own = own_tx r.id r.func o

  -- the row of the decision
  abbrev key : RowKey
  key = decision_key own

  abbrev row : Option Row
  row = Some (Row.ReadLog (Value.Bool commit))

  -- its calls come next
  abbrev next_visit : EndState
  next_visit = at_calls [] None

  effect_so : effect_after d k.instance k.answers ≡ Effect.End commit
  effect_so = wanted_here k ∙ is

  begun_here : (txs_after d k.instance k.answers).begun ≡ Some o.begin
  begun_here = open_begun d k.instance k.answers ∙ ap own_begin open_here

  few : length k.answers < 30000
  few = few_answers d k.instance.func k.instance.args (is_some k.instance.enclosing) k.answers (subst (λ z. IsTrue (wants_answer z)) (sym effect_so) refl)

  well_formed_here : WellFormedHistory d r.id k.instance
  well_formed_here = well_formed_instance h k

  -- the key is that of its instance
  own_key : log_key k.instance.func (place_of r.id o.begin) ≡ key
  own_key = ap (λ f. log_key f (place_of r.id o.begin)) k.func

  -- ---- where it stands next: the decision is there, and nobody was visited yet
  next_found : (n : Rows) (p : PlainState) (histories : Histories) (lock_ahead : IntentId → Bool) → Matches d n histories lock_ahead → WellFormedHistories d histories → Settled d n p histories → tx_end d histories own ≡ Some (g.machine.steps, commit) → map.get n key ≡ row → Visited (end_walk r.id r.func o g.machine.steps commit next_visit) n
  next_found n p histories lock_ahead matches well_formed settled ended there = visits_found d n histories lock_ahead matches well_formed own (g.machine.steps, commit) ended settled.marks settled.released there

  -- what follows the act on its row
  abbrev AfterPut : Option Row → Type 0
  AfterPut w = AfterAct d h.plain m key (λ u. turn_next c i r (turned_by d r g (decide_by_output r.id r.func g.machine.steps commit mk (Some (Own o)) u))) (act (PutRead (Value.Bool commit)) c.now w)

  -- ---- behind: the decision is there
  module _ (a : Answer) (rest : List Answer) (left : k.later ≡ a ∷ rest) where
    recorded_answers : k.answers ++ a ∷ rest ≡ k.instance.answers
    recorded_answers = ap (λ ys. k.answers ++ ys) (sym left) ∙ k.run_answers

    there : map.get m key ≡ row
    there = ap (map.get m) (sym own_key) ∙ behind_decided d m h.histories h.lock_ahead h.rows r.id k.instance k.made well_formed_here k.answers a rest recorded_answers (let n = few in omega (arith, n)) o.begin commit effect_so begun_here

    ended : tx_end d h.histories own ≡ Some (g.machine.steps, commit)
    ended = ap (ended_by d o.begin) k.made ∙ end_here d k.instance k.answers a rest o.begin commit recorded_answers effect_so begun_here ∙ ap (λ z. Some (z, commit)) (sym (at_steps k))

    finds_it : AfterPut (map.get m key)
    finds_it = subst AfterPut (sym there) (still d h.plain m key row (sym there)
        (subst (λ z. AfterTurn d h.plain c i r (turned_by d r g (decided_output commit mk z)) m) (sym (own_there commit))
        (stands_on d c m i r g h live k finds is tx (Stage.End next_visit) m h.lock_ahead (λ t. refl) (as_it_was h) (refl, next_found m h.plain h.histories h.lock_ahead h.rows h.well_formed (settled h) ended there))))

  -- ---- at the front: it is put
  module _ (left : k.later ≡ []) where
    all : k.answers ≡ k.instance.answers
    all = all_here k left

    step_now : g.machine.steps ≡ length k.instance.answers
    step_now = step_here k left

    now : effect_of d k.instance ≡ Effect.End commit
    now = effect_next k left ∙ is

    begun_now : (txs_after d k.instance k.instance.answers).begun ≡ Some o.begin
    begun_now = subst (λ ts. (txs_after d k.instance ts).begun ≡ Some o.begin) all begun_here

    unlocked : h.lock_ahead r.id ≡ false
    unlocked = unlocked_elsewhere d h.histories h.lock_ahead h.ahead_at_ends r.id k.instance k.made (ap touched now)

    no_outcome : k.instance.outcome ≡ None
    no_outcome = not_over h k left (subst (λ e. IsTrue (wants_answer e)) (sym is) refl)

    -- the rows after it, and what is known then
    abbrev n : Rows
    n = set_row m key row

    abbrev over : Instance
    over = advanced d r.id k.instance Answer.Done

    abbrev next : Histories
    next = map.insert h.histories r.id over

    -- its transaction ended here, and no other one
    end_is : (b : ℕ) → end_of d over b ≡ (if b == o.begin then Some (length k.instance.answers, commit) else end_of d k.instance b)
    end_is b = (moved_one d r.id k.instance Answer.Done).ends b ∙ ap (λ e. (txs_by (length k.instance.answers) e (txs_after d k.instance k.instance.answers)).ends b) now
        ∙ ap (λ u. if is_at b u then Some (length k.instance.answers, commit) else end_of d k.instance b) begun_now

    ended_now : tx_end d next own ≡ Some (g.machine.steps, commit)
    ended_now = ap (ended_by d o.begin) (here h.histories r.id over) ∙ end_is o.begin ∙ ap (λ b. if b then Some (length k.instance.answers, commit) else end_of d k.instance o.begin) (eq-eqb o.begin o.begin refl) ∙ ap (λ z. Some (z, commit)) (sym step_now)

    -- a transaction that has ended is this one, or had before
    end_cases : (t : TxId) (z : ℕ × Bool) → tx_end d next t ≡ Some z → ((t.intent ≡ r.id) × (t.begin ≡ o.begin) × (z.0 ≡ length k.instance.answers)) ⊎ (tx_end d h.histories t ≡ Some z)
    end_cases t z e = recorded_set h.histories r.id over (λ j u. ended_by d t.begin u ≡ Some z → t.intent ≡ j → ((j ≡ r.id) × (t.begin ≡ o.begin) × (z.0 ≡ length k.instance.answers)) ⊎ (ended_by d t.begin (map.get h.histories j) ≡ Some z))
        (λ ends mine. (grind (arith, sym (end_is t.begin) ∙ ends))) (λ j other ends mine. inr ends) t.intent e refl

    -- who took part did so before
    took_before : (t : TxId) (i : IntentId) → TookPart next t i → TookPart h.histories t i
    took_before t i part = recorded_set h.histories r.id over (λ j u. u ≡ Some part.instance → TookPart h.histories t j) (λ g. record { instance = k.instance; made = k.made; enclosing = sym (moved_one d r.id k.instance Answer.Done).enclosing ∙ ap (λ (y : Instance). y.enclosing) (same_some g) ∙ part.enclosing })
        (λ j other g. record { instance = part.instance; made = g; enclosing = part.enclosing }) i part.made

    -- no note is at its places yet
    marks_now : OwnedAreUnmarked d m next
    marks_now t z x a w e owned free noted = elim (end_cases t z e) [
      | inl mine ↦ unmarked mine free
      | inr was ↦ h.marks t z x a w was owned (free_before free) noted
    ]
      where
        free_before : IsFreePlace next t z.0 a → IsFreePlace h.histories t z.0 a
        free_before (inl at) = inl at
        free_before (inr g) = inr (g.0, took_before t a.intent g.1)

        unmarked : (t.intent ≡ r.id) × (t.begin ≡ o.begin) × (z.0 ≡ length k.instance.answers) → IsFreePlace next t z.0 a → ⊥
        unmarked mine (inl at) =
            let clash = sym (no_note d m h.histories h.lock_ahead h.rows r.id k.instance k.made (let l = (subst (λ (ts : List Answer). length ts < 30000) all few) in omega (arith, l)) x unlocked)
            ∙ ap (note_at (content_of m x).notes) ((λ i. place_of (sym mine.0 i) (sym mine.2 i)) ∙ sym at) ∙ noted in cc
        unmarked mine (inr g) =
            let open_still : tx_end d h.histories t ≡ None = (λ i. ended_by d (mine.1 i) (map.get h.histories (mine.0 i))) ∙ ap (ended_by d o.begin) k.made ∙ (fits d k.instance).not_ended o.begin begun_now in
            let clash = sym (at_part d m h.histories h.lock_ahead h.rows h.well_formed t open_still a.intent (took_before t a.intent g.1) x)
            ∙ ap (λ n. note_at (content_of m x).notes (place_of a.intent n)) (sym g.0) ∙ noted in cc

    -- .. nobody is below its owner past its end
    latest_now : OwnersCallNobody d m next
    latest_now t z x i e owned below = elim (end_cases t z e) [
      | inl mine ↦ still_none (recorded_none_after d h.histories h.well_formed (record { intent = t.intent; begin = z.0; func = t.func }) (λ q made. let same = same_some (sym made ∙ ap (map.get h.histories) mine.0 ∙ k.made) in let l = ap (λ (y : Instance). length y.answers) same in let n = mine.2 in omega (arith, l, n)) i below)
      | inr was ↦ still_none (h.latest t z x i was owned below)
    ]
      where
        still_none : map.get h.histories i ≡ None → map.get next i ≡ None
        still_none none = recorded_set h.histories r.id over (λ j u. map.get h.histories j ≡ None → u ≡ None) (λ gone. let clash = sym k.made ∙ gone in cc) (λ j other gone. gone) i none

    -- .. and its owner has its row, and no outcome
    unended_now : OwnersHaveNotEnded d m next
    unended_now t z x e owned = elim (end_cases t z e) [
      | inl mine ↦ (own_there mine.0, still_open (ap (λ j. outcome_of (map.get h.histories j)) mine.0 ∙ ap outcome_of k.made ∙ no_outcome))
      | inr was ↦ let u = h.unended t z x was owned in (u.0, still_open u.1)
    ]
      where
        own_there : t.intent ≡ r.id → is_some (map.get m (intent_key t.intent t.func)) ≡ true
        own_there mine =
            let w = owns_so d m h.histories h.lock_ahead h.rows h.well_formed t x owned in
            let func : t.func ≡ r.func = w.func_is ∙ ap (λ (y : Instance). y.func) (same_some (sym w.made ∙ ap (map.get h.histories) mine ∙ k.made)) ∙ k.func in
            (λ i. is_some (map.get m (intent_key (mine i) (func i)))) ∙ own_row d m h.histories h.lock_ahead h.rows r.id k.instance k.made r.func finds.row

        still_open : outcome_of (map.get h.histories t.intent) ≡ None → outcome_of (map.get next t.intent) ≡ None
        still_open = recorded_set h.histories r.id over (λ j u. outcome_of (map.get h.histories j) ≡ None → outcome_of u ≡ None) (λ none. (moved_one d r.id k.instance Answer.Done).outcome ∙ no_outcome) (λ j other none. none) t.intent

    rows_now : Matches d n next h.lock_ahead
    rows_now = subst (λ z. Matches d (set_row m z row) next h.lock_ahead) own_key
        (decided d h.histories h.lock_ahead r.id k.instance over Answer.Done k.made (moved_one d r.id k.instance Answer.Done) unlocked commit now o.begin begun_now
        (λ j z t on apart none inside mine begin. ends_alone d h.histories h.well_formed r.id k.instance k.made (λ f v call. let clash = sym now ∙ call in cc) j z t on apart none inside mine) m h.rows)

    roots : SameRoots m n
    roots u = ap is_some (set_others m key row (root_key u) (no_root u r.func (Kind.ReadLog (place_of r.id o.begin)) refl))

    -- ---- its transaction is open
    opened_tx : IsOpen d m h.plain h.histories h.lock_ahead own
    opened_tx = opens_are_open d m h.plain h.histories h.lock_ahead r.id k.instance own (sound h) k.made no_outcome (subst (λ ts. tx_after d r.id k.instance ts ≡ Some own) all inside_here)

    begun_so : (q : Instance) → map.get h.plain.made r.id ≡ Some q → tx_begun r.id q ≡ own
    begun_so q made = ap (tx_begun r.id) (same_some (sym made ∙ opened_tx.made)) ∙ sym opened_tx.is

    -- what it wants of the entry, and of the plain state after it
    record Decision (state : PlainState) : Type 0 where
      version : version_of (entry_of r.id mk) ≡ None
      enabled : after d h.plain (entry_of r.id mk) ≡ Some state
      -- its entry touches what it owns
      its_own : (x : Item) → Touches d h.plain (entry_of r.id mk) x → (content_of m x).owner ≡ Some (ByTx own)
      goes_on : IsConsistent d n state next h.lock_ahead
      lists : (x : Item) → listed n x ≡ value_at state x

    -- the row that is put
    same_row : (b : Bool) → commit ≡ b → with_decision m own b ≡ n
    same_row b e i = set_row m key (Some (Row.ReadLog (Value.Bool (sym e i))))

    -- with commit it is the transaction's commit
    module _ (it_commits : commit ≡ true) where
      commit_of : IsCommit d m (with_decision m own true) h.plain next h.lock_ahead own
      commit_of = commits_are_entries d m h.plain h.histories h.lock_ahead own k.instance opened_tx k.made (now ∙ ap Effect.End it_commits) unlocked h.values

      commit_entry : entry_of r.id mk ≡ CommittedTx r.id
      commit_entry = ap (entry_of r.id) (mark ∙ ap (end_mark r.id g.machine.steps o.cause) it_commits)

      committed : Decision commit_of.state
      committed = record {
        version = ap version_of commit_entry;
        enabled = ap (after d h.plain) commit_entry ∙ transactions_are_moves.committed d h.plain r.id commit_of.state commit_of.commits;
        its_own = λ x t. commit_of.touched x (subst (λ u. TouchedIn d u (opened h.plain r.id commit_of.commits.instance) commit_of.commits.moves x) (begun_so commit_of.commits.instance commit_of.commits.runs.made)
            (transactions_touch_their_items.commits d h.plain r.id commit_of.state commit_of.commits x (subst (λ e. Touches d h.plain e x) commit_entry t)));
        goes_on = subst (λ z. IsConsistent d z commit_of.state next h.lock_ahead) (same_row true it_commits) commit_of.goes;
        lists = λ x. ap (λ z. listed z x) (sym (same_row true it_commits)) ∙ commit_of.lists x;
      }

    -- without, it is its abort, at what was aborted or at the End itself
    module _ (no_commit : commit ≡ false) where
      abbrev tried : PlainState
      tried = with_instance h.plain r.id (answered k.instance Answer.Done)

      its_abort : IsAbort d m (with_decision m own false) h.plain next h.lock_ahead own k.instance
      its_abort = aborts_are_entries d m h.plain h.histories h.lock_ahead own k.instance opened_tx k.made (now ∙ ap Effect.End no_commit) unlocked h.holders

      abort_entry : entry_of r.id mk ≡ AbortedTx r.id its_abort.place its_abort.holder
      abort_entry = ap (entry_of r.id) (mark ∙ (λ i. end_mark r.id (step_now i) (cause_is d r.id k.instance well_formed_here o (subst (λ ts. open_of d k.instance ts ≡ Some (Own o)) all open_here) i) (no_commit i)))
          ∙ entry_fell r.id (length k.instance.answers) (last_answer k.instance.answers) its_abort.place its_abort.holder its_abort.fell

      aborted : Decision tried
      aborted = record {
        version = ap version_of abort_entry;
        enabled = ap (after d h.plain) abort_entry ∙ transactions_are_moves.aborted d h.plain r.id its_abort.place its_abort.holder tried its_abort.aborts;
        its_own = λ x t. its_abort.touched x (subst (λ u. TouchedIn d u (opened h.plain r.id its_abort.aborts.instance) its_abort.aborts.before x) (begun_so its_abort.aborts.instance its_abort.aborts.runs.made)
            (transactions_touch_their_items.aborts d h.plain r.id its_abort.place its_abort.holder tried its_abort.aborts x (subst (λ e. Touches d h.plain e x) abort_entry t)));
        goes_on = subst (λ z. IsConsistent d z tried next h.lock_ahead) (same_row false no_commit) its_abort.goes;
        lists = λ x. ap (λ z. listed z x) (sym (same_row false no_commit)) ∙ its_abort.lists x ∙ h.values x;
      }

    -- ---- what it keeps
    puts : (state : PlainState) → Decision state → AfterPut None
    puts state by = enters_on d c m i r g h live k finds is tx (Stage.End next_visit) mk n state next over (here h.histories r.id over) (grown_moved d r.id k.instance Answer.Done) roots leads (kept_by d c m n h state next h.lock_ahead shows_now grows frame)
        (refl, next_found n state next h.lock_ahead rows_now well_formed_now settled_now ended_now (row_got m key key row ∙ ap (λ b. cond b row (map.get m key)) (key_self key)))
      where
        -- nobody holds the lock of an item that it owns
        free : IsFree d h.plain (entry_of r.id mk)
        free x touches j held = let clash = sym (ap (λ u. is_owner u (Intent j)) (by.its_own x touches)) ∙ (h.rows.items x).owner j ∙ holds_here h x j ∙ held in cc

        leads : Entered d c h.plain h.histories (entry_of r.id mk) state next
        leads = change_entered d c m h (entry_of r.id mk) state next by.version by.enabled free

        -- what another owns has the value that it had
        stays : ValuesStay d m h.plain state next
        stays t x open_still owned = ap or_null (entries_touch d h.plain state (entry_of r.id mk) by.enabled x (λ touches.
            let clash = sym open_still ∙ ap (end_under d next) (sym owned ∙ by.its_own x touches) ∙ ended_now in cc))

        frame : Frame d m n h.plain state h.histories next
        frame = frame_log d m h.plain state h.histories next stays (nobody_set d h.histories r.id over (ap is_some k.made)) r.func (place_of r.id o.begin) row refl

        grows : Grows h.histories next
        grows = grows_moved d h.histories r.id k.instance Answer.Done k.made

        well_formed_now : WellFormedHistories d next
        well_formed_now = well_formed_decided d h.histories h.well_formed r.id k.instance k.made commit now

        settled_before : Settled d m state h.histories
        settled_before = settled_grown d m h.plain state h.histories leads.grows (settled h)

        over_so : IsSettled d m state r.id over
        over_so = one_over d m state r.id k.instance (one_recorded d m state h.histories r.id k.instance k.made settled_before)

        seated_now : ParticipantsHaveRows n next
        seated_now = seated_stays d m n h.plain state h.histories next frame (seated_set d m state h.histories r.id over over_so settled_before)

        settled_now : Settled d n state next
        settled_now = record {
          marks = marks_stay d m n h.plain state h.histories next frame marks_now;
          latest = latest_stays d m n h.plain state h.histories next frame latest_now;
          unended = unended_stays d m n h.plain state h.histories next frame unended_now;
          holders = holders_set d m state h.histories r.id over over_so settled_before;
          seated = seated_now;
          released = closed_rows d c m h n state next h.lock_ahead rows_now well_formed_now grows frame seated_now (no_finish m n key (set_others m key row) d next refl);
          short = short_set d m state h.histories r.id over over_so settled_before;
        }

        shows_now : Shows d n state next h.lock_ahead
        shows_now = record {
          goes = by.goes_on;
          ahead_at_ends = ahead_set d h.histories h.lock_ahead h.ahead_at_ends h.lock_ahead r.id over (none_out h.lock_ahead r.id unlocked);
          well_formed = well_formed_now;
          rows = rows_now;
          values = by.lists;
          settled = settled_now;
        }

    puts_it : AfterPut (map.get m key)
    puts_it = subst AfterPut (sym (ap (map.get m) (sym own_key) ∙ no_decision d m h.histories h.lock_ahead h.rows r.id k.instance k.made o.begin begun_now)) (by_commit commit refl)
      where
        by_commit : (b : Bool) → commit ≡ b → AfterPut None
        by_commit true it_commits = puts (commit_of it_commits).state (committed it_commits)
        by_commit false no_commit = puts (tried no_commit) (aborted no_commit)

  -- ---- the turn, by the answers that the run lacks
  pub decide_turn : AfterQuery d h.plain c.now m (λ u. turn_next c i r (turned_by d r g (decide_by_output r.id r.func g.machine.steps commit mk (Some (Own o)) u))) (end_by_asks r.id r.func g.machine.steps commit first_visit (Some (Own o)))
  decide_turn = by_answer k puts_it finds_it
