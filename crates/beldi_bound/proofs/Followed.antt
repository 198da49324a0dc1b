-- A late run is followed: beside it lives one of its intent that was answered more, in time, unless the intent has ended.
use Rattle.beldi_bound.proofs.Ending.{knows_it}
use Rattle.beldi_bound.proofs.{Few.settling_goes, Going.events_go_on, Soundly.at_cursor, Soundly.sound_on}
use Rattle.std.specs.FinMap as map
use Rattle.std.proofs.Common.{◌≡◌, ◌⊎◌, inl, inr, ℕ, ◌+◌, ◌==◌, ◌<◌, ◌≤◌, ◌||◌, eqb-true, eq-eqb, true, false, List, Option, Some, None, is_some, Ok, refl, sym, ap, subst, ◌∙◌, arith}
use Rattle.beldi_value.specs.declared.{id.IntentId.IntentId, place.Caller.Caller, place.Place.Place}
use Rattle.beldi_tree.specs.declared.deployment.Deployment.{Deployment}
use Rattle.beldi_lang.specs.declared.effect.Effect.{Effect}
use Rattle.beldi_lang.specs.declared.machine.Machine.{Machine}
use Rattle.beldi_book.specs.{LinearOrder.count_changes, declared.entry.Entry.Entry}
use Rattle.beldi_plain.specs.Plain.{PlainState}
use Rattle.beldi_plain_laws.proofs.Maps.{same_some}
use Rattle.beldi_row.{proofs.Unchanged.looked, specs.Key.RowKey, specs.Key.at_row, specs.Table.Rows, specs.declared.act.Act.Act, specs.declared.row.IntentRow.IntentRow, specs.declared.row.Row.Row}
use Rattle.beldi_query.specs.{Query.QueryReply, Query.rows_after, Query.query_reply, declared.query.Query.Query}
use Rattle.beldi_daal.specs.Cell.{cell_key}
use Rattle.beldi_readlog.specs.ReadLog.{log_key}
use Rattle.beldi_intent.specs.Intent.{GoesOn as IntentOn, IntentGoesOn, intent_in, intent_key, is_ended}
use Rattle.beldi_histories.{proofs.Cases.by_cases, proofs.Cases.by_option, specs.Histories.Histories}
use Rattle.beldi_step.specs.{HostStep.Core, Run.asks_at, Run.place_of, Run.run_asks, Run.stage_asks, Run.stage_output, Run.Turned, Run.told_at, Run.turned_by, declared.run.Begun.Begun, declared.run.Run.Run, declared.run.RunAt.RunAt, declared.run.RunTx.RunTx, declared.run.Stage.Stage}
use Rattle.beldi_schedule.specs.{Settle.first_at, Settle.go_on, Settles.Advances, Settles.Settles, Settles.State, Settles.set_to, Settle.core_for, Settle.event_of, Settle.next_of, declared.machine.At.At, declared.machine.Standing.Standing, declared.machine.Standing.TheVariants.Over}
use Rattle.beldi_invariant.specs.{Invariant.AtStage, Invariant.Inside, Invariant.Knows, Invariant.Invariant, Invariant.StandsAt}
use Rattle.beldi_upkeep.{proofs.Overs.no_turn_over, proofs.Started.started_of_it, specs.Checked.Checked, specs.Checked.next_output, specs.Checked.next_turn}
use Rattle.beldi_bound.specs.{Ends.IsBelowEnd, Ends.IsLate, Ends.Sound, Ends.is_walk, SettleWork.has_ended, SettleWork.seat}
use Rattle.beldi_bound.proofs.{Facts.GoesOn, Facts.LatesAreFollowed, LogRows.OwnLog, LogRows.first_puts, LogRows.log_put, LogRows.new_log, LogRows.stage_puts, BoundSteps.Stays, BoundSteps.Turns, BoundSteps.next_steps}
use Rattle.beldi_bound.proofs.Lates.{GoesFrom, IsRead, StoodAt, answer_goes, begin_here, begin_no_walk, close_ends, few_steps, is_answer, same_effect, same_open, same_seat, told_there, turn_goes, turn_is, walk_stood, walks_read}

same_begun : {g f : Begun} → RunAt.Begins g ≡ RunAt.Begins f → g ≡ f
same_begun h = cc

-- ---- the invariant
-- a live run of this intent has more steps than these, and is in time
pub record FollowedBy (c : Core) (id : IntentId) (n : ℕ) : Type 0 where
  pub number : ℕ
  pub run : Run
  pub begun : Begun
  pub live : map.get c.runs number ≡ Some run
  pub same_id : run.id ≡ id
  pub at : run.at ≡ RunAt.Begins begun
  pub in_time : c.now ≤ run.deadline
  pub further : n < begun.machine.steps

abbrev pub AllFollowed : Core → Rows → Type 0
AllFollowed c m = (i : ℕ) (r : Run) (late : IsLate m r) → map.get c.runs i ≡ Some r → has_ended (map.get m (seat r)) ≡ false → FollowedBy c r.id late.begun.machine.steps

lives_on : {c b : Core} {id : IntentId} {n : ℕ} (f : FollowedBy c id n) → b.now ≡ c.now → map.get b.runs f.number ≡ Some f.run → FollowedBy b id n
lives_on f now live = record { number = f.number; run = f.run; begun = f.begun; live = live; same_id = f.same_id; at = f.at; in_time = (let le = f.in_time in omega (arith, le, now)); further = f.further }

-- the log's row of a late run
abbrev its_log : Run → Begun → RowKey
its_log r g = log_key r.func (place_of r.id g.machine.steps)

-- ---- an intent that has ended stays so
some_intent : {x y : IntentRow} → Some x ≡ Some y → x ≡ y
some_intent h = cc

goes_ended : (i j : IntentRow) → IntentOn i j → is_ended i ≡ true → is_ended j ≡ true
goes_ended i j g h = by_option i.outcome
    (λ none. by_option i.finish
    (λ rest. let clash : false ≡ true = sym (λ k. is_some (none k) || is_some (rest k)) ∙ h in cc)
    (λ t some. by_option j.outcome (λ open_still. ap (λ o. is_some o || is_some j.finish) open_still ∙ ap is_some (g.finish t some)) (λ o is. ap (λ o. is_some o || is_some j.finish) is)))
    (λ o some. ap (λ u. is_some u || is_some j.finish) (g.outcome o some))

ended_at : (r s : Option Row) → IntentGoesOn r s → has_ended r ≡ true → has_ended s ≡ true
ended_at None s h e = cc
ended_at (Some (Row.Intent i)) s h e = let j = h i refl in by_row s j.0 j.1 (goes_ended i j.0 j.2 e)
  where
    by_row : (s : Option Row) (j : IntentRow) → intent_in s ≡ Some j → is_ended j ≡ true → has_ended s ≡ true
    by_row None j is e = cc
    by_row (Some (Row.Intent k)) j is e = ap is_ended (some_intent is) ∙ e
    by_row (Some r) j is e = cc
ended_at (Some r) s h e = cc

open_before : (m n : Rows) → GoesOn m n → (k : RowKey) → has_ended (map.get n k) ≡ false → has_ended (map.get m k) ≡ false
open_before m n g k h = by_cases (has_ended (map.get m k)) (λ t. let clash : true ≡ false = sym (ended_at (map.get m k) (map.get n k) (g.intents k) t) ∙ h in cc) (λ f. f)

-- ---- nothing happened but that runs are over or started
stays_keep : (c b : Core) (m n : Rows) → Stays c m b n → AllFollowed c m → AllFollowed b n
stays_keep c b m n t all i r late live ended =
    let was : IsLate m r = record { begun = late.begun; at = late.at; walks = late.walks; kept = subst (λ z. is_some (map.get z (its_log r late.begun)) ≡ true) t.rows late.kept } in
    let f = all i r was (t.lived i r late.begun live late.at) (subst (λ z. has_ended (map.get z (seat r)) ≡ false) t.rows ended) in
    lives_on f t.now (t.lives f.number f.run f.live f.in_time)

-- ---- a stage of a read outside transactions: what it says, and where it puts its value
module _ {d : Deployment} (m : Rows) (p : PlainState) (book : List Entry) {histories : Histories} {id : IntentId} {home : ℕ} {c : Option Caller} {s : Machine} {o : Option RunTx} (k : StandsAt d histories id home c s o) where
  -- who puts its value is answered
  puts_answered : (w : Stage) (t : ℕ) (x : List ℕ) (changes : ℕ) (q : QueryReply) (y : ℕ × Place) → AtStage m p book k w (Effect.Read t x) None → log_put (stage_asks id home c None s.steps (Effect.Read t x) w) ≡ Some y → is_answer (stage_output id home c None changes s.steps (Effect.Read t x) w q) ≡ true
  puts_answered Stage.Ask t x changes q y here h = cc
  puts_answered (Stage.Walk r) t x changes q y here h = cc
  puts_answered (Stage.Keep v version) t x changes q y here h = refl
  puts_answered (Stage.Write at) t x changes q y here h = let clash = here.0 in cc
  puts_answered w t x changes q y here h = absurd here

  -- who is not answered asks for its row or looks for its value
  data Looking (w : Stage) : Type 0 where
    asking : w ≡ Stage.Ask → Looking w
    walking : (r : ℕ) → w ≡ Stage.Walk r → Looking w

  is_looking : (w : Stage) (t : ℕ) (x : List ℕ) (changes : ℕ) (q : QueryReply) → AtStage m p book k w (Effect.Read t x) None → is_answer (stage_output id home c None changes s.steps (Effect.Read t x) w q) ≡ false → Looking w
  is_looking Stage.Ask t x changes q here h = Looking.asking refl
  is_looking (Stage.Walk r) t x changes q here h = Looking.walking r refl
  is_looking (Stage.Keep v version) t x changes q here h = let clash = h in cc
  is_looking (Stage.Write at) t x changes q here h = let clash = here.0 in cc
  is_looking w t x changes q here h = absurd here

-- ---- a run made its turn
module _ (d : Deployment) (c b : Core) (m n : Rows) (sound : Sound d c m) (then_sound : Sound d b n) (goes : GoesOn m n) (t : Turns d c m b n) (all : AllFollowed c m) where
  h : Invariant d c m
  h = sound.upkeep.invariant

  checked : Checked d c m
  checked = record { invariant = sound.upkeep.invariant; rules = sound.rules; roots = started_of_it d c m sound.upkeep.started sound.starts }

  same_number : (i j : ℕ) → (i == j) ≡ false → i ≡ j → ⊥
  same_number i j apart is = let clash : true ≡ false = sym (eq-eqb i j is) ∙ apart in cc

  -- it goes on so far, or its intent has ended
  module _ (g : Begun) (at : t.run.at ≡ RunAt.Begins g) where
    knows : (k : Knows d h.histories t.run g) × Inside m h.plain c.book k g.stage
    knows = knows_it h t.number t.run g t.live at

    few : g.machine.steps ≤ 30000
    few = few_steps h t.run g knows.0

    over_ends : (next_turn d c m t.run).next ≡ None → has_ended (map.get n (seat t.run)) ≡ true
    over_ends over =
        let close = no_turn_over d c m t.run g checked (record { number = t.number; live = t.live; same_id = refl; begun = at }) over in
        subst (λ z. has_ended (map.get z (seat t.run)) ≡ true) (sym t.rows) (close_ends d c m h t.run g at knows.0 knows.1 close)

    follows : (id : IntentId) (k : ℕ) (s : Run) → t.run.id ≡ id → (next_turn d c m t.run).next ≡ Some s → (x : ℕ) → k < x → GoesFrom t.run x s → FollowedBy b id k
    follows id k s ids next x less to = record {
      number = t.number;
      run = s;
      begun = to.begun;
      live = t.own ∙ next;
      same_id = to.id ∙ ids;
      at = to.at;
      in_time = (let le = t.in_time in let now = t.now in let dead = to.deadline in omega (arith, le, now, dead));
      further = (let more = to.further in omega (arith, less, more));
    }

    said_next : (s : Run) → (next_turn d c m t.run).next ≡ Some s → (turned_by d t.run g (next_output c m t.run g)).next ≡ Some s
    said_next s next = sym (ap (λ (z : Turned). z.next) (turn_is d c m t.run g at)) ∙ next

  -- ---- a late run that lived before
  module _ (r : Run) (late : IsLate n r) (ended : has_ended (map.get n (seat r)) ≡ false) where
    abbrev f : Begun
    f = late.begun

    module _ (i : ℕ) (live : map.get c.runs i ≡ Some r) where
      mine : (k : Knows d h.histories r f) × Inside m h.plain c.book k f.stage
      mine = knows_it h i r f live late.at

      reads : IsRead f.machine.effect f.tx
      reads = walks_read m h.plain c.book mine.0 f.stage f.machine.effect f.tx late.walks mine.1.here

      not_over : (g : Begun) (at : t.run.at ≡ RunAt.Begins g) → t.run.id ≡ r.id → (next_turn d c m t.run).next ≡ None → ⊥
      not_over g at ids over = let clash : true ≡ false = sym (over_ends g at over) ∙ ap (λ k. has_ended (map.get n k)) (same_seat h t.run r g f (knows g at).0 mine.0 ids) ∙ ended in cc

      -- it was late: who follows it lives on, or made this turn
      was_late : FollowedBy c r.id f.machine.steps → FollowedBy b r.id f.machine.steps
      was_late y = by_cases (y.number == t.number) turned (λ apart. lives_on y t.now (t.lives y.number y.run (same_number y.number t.number apart) y.live))
        where
          turned : (y.number == t.number) ≡ true → FollowedBy b r.id f.machine.steps
          turned is =
              let same : y.run ≡ t.run = same_some (sym y.live ∙ ap (map.get c.runs) (eqb-true y.number t.number is) ∙ t.live) in
              let at : t.run.at ≡ RunAt.Begins y.begun = sym (ap (λ (z : Run). z.at) same) ∙ y.at in
              let ids : t.run.id ≡ r.id = sym (ap (λ (z : Run). z.id) same) ∙ y.same_id in
              by_option (next_turn d c m t.run).next (λ over. absurd (not_over y.begun at ids over))
              (λ s next. follows y.begun at r.id f.machine.steps s ids next y.begun.machine.steps y.further (turn_goes d t.run y.begun at (few y.begun at) s (next_output c m t.run y.begun) (said_next y.begun at s next)))

      -- the row is new: who put it stands at the same read, and is answered
      put_by : (g : Begun) (at : t.run.at ≡ RunAt.Begins g) → log_put (run_asks t.run) ≡ Some (r.func, place_of r.id f.machine.steps) → OwnLog t.run.id t.run.func g.tx g.machine.steps (r.func, place_of r.id f.machine.steps) → FollowedBy b r.id f.machine.steps
      put_by g at puts (OwnLog.at_begin o open_there is) =
          let ids : t.run.id ≡ r.id = sym (ap (λ (z : ℕ × Place). z.1.intent) is) in
          let begin : f.machine.effect ≡ Effect.Begin = begin_here h t.run r g f (knows g at).0 mine.0 ids o open_there (ap (λ (z : ℕ × Place). z.1.step) is) in
          let clash : Effect.Begin ≡ Effect.Read reads.table reads.key = sym begin ∙ reads.effect in cc
      put_by g at puts (OwnLog.here is) =
          let k = (knows g at).0 in
          let ids : t.run.id ≡ r.id = sym (ap (λ (z : ℕ × Place). z.1.intent) is) in
          let steps : g.machine.steps ≡ f.machine.steps = sym (ap (λ (z : ℕ × Place). z.1.step) is) in
          let effect : g.machine.effect ≡ Effect.Read reads.table reads.key = same_effect h t.run r g f k mine.0 ids steps ∙ reads.effect in
          let out : g.tx ≡ None = same_open h t.run r g f k mine.0 ids steps ∙ reads.out in
          let q = query_reply (stage_asks t.run.id t.run.func g.caller g.tx g.machine.steps g.machine.effect g.stage) c.now m in
          let here : AtStage m h.plain c.book k g.stage (Effect.Read reads.table reads.key) None = subst (λ e. AtStage m h.plain c.book k g.stage e None) effect (subst (AtStage m h.plain c.book k g.stage g.machine.effect) out (knows g at).1.here) in
          let asks : log_put (stage_asks t.run.id t.run.func g.caller None g.machine.steps (Effect.Read reads.table reads.key) g.stage) ≡ Some (r.func, place_of r.id f.machine.steps) =
          sym (λ j. log_put (stage_asks t.run.id t.run.func g.caller (out j) g.machine.steps (effect j) g.stage)) ∙ sym (ap (λ z. log_put (asks_at t.run z)) at) ∙ puts in
          let answers : is_answer (next_output c m t.run g) ≡ true =
          (λ j. is_answer (stage_output t.run.id t.run.func g.caller (out j) (count_changes c.book) g.machine.steps (effect j) g.stage q)) ∙ puts_answered m h.plain c.book k g.stage reads.table reads.key (count_changes c.book) q (r.func, place_of r.id f.machine.steps) here asks in
          by_option (next_turn d c m t.run).next (λ over. absurd (not_over g at ids over))
          (λ s next. follows g at r.id f.machine.steps s ids next (g.machine.steps + 1) (omega (arith, steps)) (answer_goes d t.run g at (few g at) s (next_output c m t.run g) answers (said_next g at s next)))

      put_now : map.get m (its_log r f) ≡ None → FollowedBy b r.id f.machine.steps
      put_now none =
          let puts = new_log (run_asks t.run) c.now m r.func (place_of r.id f.machine.steps) none (subst (λ z. is_some (map.get z (its_log r f)) ≡ true) t.rows late.kept) in
          let g = first_puts t.run t.run.at (r.func, place_of r.id f.machine.steps) puts in
          put_by g.0 g.1 puts (stage_puts t.run.id t.run.func g.0.caller g.0.machine.steps g.0.tx g.0.machine.effect g.0.stage (r.func, place_of r.id f.machine.steps) (sym (ap (λ z. log_put (asks_at t.run z)) g.1) ∙ puts))

      lived : FollowedBy b r.id f.machine.steps
      lived = by_option (map.get m (its_log r f)) put_now
          (λ v there. was_late (all i r (record { begun = f; at = late.at; walks = late.walks; kept = ap is_some there }) live (open_before m n goes (seat r) ended)))

    -- ---- its own turn left it so
    module _ (next : (next_turn d c m t.run).next ≡ Some r) (there : map.get b.runs t.number ≡ Some r) where
      then_knows : (k : Knows d then_sound.upkeep.invariant.histories r f) × Inside n then_sound.upkeep.invariant.plain b.book k f.stage
      then_knows = knows_it then_sound.upkeep.invariant t.number r f there late.at

      then_reads : IsRead f.machine.effect f.tx
      then_reads = walks_read n then_sound.upkeep.invariant.plain b.book then_knows.0 f.stage f.machine.effect f.tx late.walks then_knows.1.here

      module _ (g : Begun) (at : t.run.at ≡ RunAt.Begins g) where
        abbrev e : Effect
        e = Effect.Read then_reads.table then_reads.key

        stood : StoodAt g (next_output c m t.run g) f
        stood = walk_stood d t.run g at r f late.at late.walks (next_output c m t.run g) (said_next g at r next)

        ids : GoesFrom t.run g.machine.steps r
        ids = turn_goes d t.run g at (few g at) r (next_output c m t.run g) (said_next g at r next)

        effect : g.machine.effect ≡ e
        effect = ap (λ (z : Machine). z.effect) (sym stood.machine) ∙ then_reads.effect

        out : g.tx ≡ None
        out = sym stood.tx ∙ then_reads.out

        funcs : r.func ≡ t.run.func
        funcs = ids.func

        key : its_log r f ≡ its_log t.run g
        key = λ j. log_key (funcs j) (place_of (ids.id j) (ap (λ (z : Machine). z.steps) stood.machine j))

        seats : seat r ≡ seat t.run
        seats = λ j. intent_key (ids.id j) (funcs j)

        looks : Looking m h.plain c.book (knows g at).0 g.stage
        looks =
            let q = query_reply (stage_asks t.run.id t.run.func g.caller g.tx g.machine.steps g.machine.effect g.stage) c.now m in
            is_looking m h.plain c.book (knows g at).0 g.stage then_reads.table then_reads.key (count_changes c.book) q
            (subst (λ z. AtStage m h.plain c.book (knows g at).0 g.stage z None) effect (subst (AtStage m h.plain c.book (knows g at).0 g.stage g.machine.effect) out (knows g at).1.here))
            (sym (λ j. is_answer (stage_output t.run.id t.run.func g.caller (out j) (count_changes c.book) g.machine.steps (effect j) g.stage q)) ∙ stood.unanswered)

        -- it looked: the rows are as they were
        rows_by : (k : RowKey) → run_asks t.run ≡ Query.Act k Act.Look → n ≡ m
        rows_by k asks = t.rows ∙ ap (λ q. rows_after q c.now m) asks ∙ looked c.now k m

        asks_as : (w : Stage) → g.stage ≡ w → run_asks t.run ≡ stage_asks t.run.id t.run.func g.caller g.tx g.machine.steps e w
        asks_as w is = ap (asks_at t.run) at ∙ (λ j. stage_asks t.run.id t.run.func g.caller g.tx g.machine.steps (effect j) (is j))

        kept_before : n ≡ m → is_some (map.get m (its_log t.run g)) ≡ true
        kept_before same = (λ j. is_some (map.get (sym same j) (sym key j))) ∙ late.kept

        by_looking : Looking m h.plain c.book (knows g at).0 g.stage → FollowedBy b r.id f.machine.steps
        by_looking (Looking.asking is) =
            let kept = kept_before (rows_by (its_log t.run g) (asks_as Stage.Ask is)) in
            by_option (map.get m (its_log t.run g)) (λ none. let clash : false ≡ true = sym (ap is_some none) ∙ kept in cc)
            (λ v found. let output : is_answer (next_output c m t.run g) ≡ true = ap (λ w. is_answer (stage_output t.run.id t.run.func g.caller g.tx (count_changes c.book) g.machine.steps g.machine.effect w (query_reply (stage_asks t.run.id t.run.func g.caller g.tx g.machine.steps g.machine.effect w) c.now m))) is ∙ told_there (its_log t.run g) c.now m v found in
            let clash : true ≡ false = sym output ∙ stood.unanswered in cc)
        by_looking (Looking.walking w is) =
            let same = rows_by (at_row (cell_key t.run.func then_reads.table then_reads.key) w) (asks_as (Stage.Walk w) is) in
            let was : IsLate m t.run = record { begun = g; at = at; walks = ap is_walk is; kept = kept_before same } in
            let y = all t.number t.run was t.live (open_before m n goes (seat t.run) (ap (λ k. has_ended (map.get n k)) (sym seats) ∙ ended)) in
            let steps : f.machine.steps ≡ g.machine.steps = ap (λ (z : Machine). z.steps) stood.machine in
            by_cases (y.number == t.number)
            (λ it.
            let run : y.run ≡ t.run = same_some (sym y.live ∙ ap (map.get c.runs) (eqb-true y.number t.number it) ∙ t.live) in
            let begun : RunAt.Begins y.begun ≡ RunAt.Begins g = sym y.at ∙ ap (λ (z : Run). z.at) run ∙ at in
            let count : y.begun.machine.steps ≡ g.machine.steps = ap (λ (z : Begun). z.machine.steps) (same_begun begun) in
            let more = y.further in absurd (omega (arith, count, more)))
            (λ apart. record {
              number = y.number;
              run = y.run;
              begun = y.begun;
              live = t.lives y.number y.run (same_number y.number t.number apart) y.live;
              same_id = y.same_id ∙ sym ids.id;
              at = y.at;
              in_time = (let le = y.in_time in let now = t.now in omega (arith, le, now));
              further = (let more = y.further in omega (arith, more, steps));
            })

        left_it : FollowedBy b r.id f.machine.steps
        left_it = by_looking looks

      now_late : FollowedBy b r.id f.machine.steps
      now_late = by_begun t.run.at refl
        where
          by_begun : (x : RunAt) → t.run.at ≡ x → FollowedBy b r.id f.machine.steps
          by_begun (RunAt.Begins g) at = left_it g at
          by_begun RunAt.Looks at = absurd (begin_no_walk d t.run r f late.at late.walks (count_changes c.book) RunAt.Looks (query_reply (asks_at t.run RunAt.Looks) c.now m) refl (ap (λ z. (told_at d (count_changes c.book) t.run z (query_reply (asks_at t.run z) c.now m)).next) (sym at) ∙ next))
          by_begun (RunAt.Registers y) at = absurd (begin_no_walk d t.run r f late.at late.walks (count_changes c.book) (RunAt.Registers y) (query_reply (asks_at t.run (RunAt.Registers y)) c.now m) refl (ap (λ z. (told_at d (count_changes c.book) t.run z (query_reply (asks_at t.run z) c.now m)).next) (sym at) ∙ next))

  turns_keep : AllFollowed b n
  turns_keep i r late live ended = by_cases (i == t.number)
      (λ is. let there : map.get b.runs t.number ≡ Some r = ap (map.get b.runs) (sym (eqb-true i t.number is)) ∙ live in now_late r late ended (sym t.own ∙ there) there)
      (λ apart. lived r late ended i (t.lived i r late.begun (same_number i t.number apart) live late.at))

-- ---- along a settling in which no failure is counted
module _ (d : Deployment) (room budget : ℕ) where
  numbers : (c : Core) (m : Rows) → Sound d c m → (j : ℕ) (r : Run) → map.get c.runs j ≡ Some r → j ≤ c.last_run
  numbers c m sound j r live = (sound.upkeep.invariant.runs.numbers j (ap is_some live)).1

  one_event : (a : At) (s u : State) (z : Standing) → Sound d s.core s.rows → Advances d room budget a s u z → u.faults ≡ s.faults → IsBelowEnd u.faults → AllFollowed s.core s.rows → AllFollowed u.core u.rows
  one_event a s u z sound step same below all =
      let next = next_of s.core a in
      by_step (next_steps d room s.faults u.faults below same u.core s.rows u.rows step.answer s.core (numbers s.core s.rows sound) next step.event)
    where
      by_step : Stays s.core s.rows u.core u.rows ⊎ Turns d s.core s.rows u.core u.rows → AllFollowed u.core u.rows
      by_step (inl t) = stays_keep s.core u.core s.rows u.rows t all
      by_step (inr t) = turns_keep d s.core u.core s.rows u.rows sound (sound_on sound step)
          (events_go_on d room s.faults u.faults (event_of (next_of s.core a)) (core_for (next_of s.core a) s.core) u.core s.rows u.rows (Ok step.answer) step.event) t all

  followed_on : (z : Standing) (s : State) (y : Standing) (t : State) → Settles d room budget z s y t → Sound d s.core s.rows → t.faults ≡ s.faults → IsBelowEnd t.faults → AllFollowed s.core s.rows → AllFollowed t.core t.rows
  followed_on z s y t (Settles.stands w v) sound same below all = all
  followed_on z s y t (Settles.skips a v b q w p may rest) sound same below all = followed_on (Standing.Working b) (set_to q v) w p rest (at_cursor q sound) same below (λ i r late live ended. lives_on (all i r late live ended) refl (all i r late live ended).live)
  followed_on z s y t (Settles.goes a v w u q p step rest) sound same below all =
      let one = step.later in
      let more = (settling_goes rest).1 in
      let here : u.faults ≡ v.faults = omega (arith, one, more, same) in
      let then_same : p.faults ≡ u.faults = omega (arith, one, more, same) in
      followed_on w u q p rest (sound_on sound step) then_same below (one_event a v u w sound step here (omega (arith, below, more)) all)

pub lates_followed : LatesAreFollowed
lates_followed d room budget s t x sound none settles same below i r late live ended =
    let f = followed_on d room budget (go_on budget first_at) s (Over x) t settles sound same below (λ j k z there open_still. absurd (none j k there z)) i r late live ended in
    (f.number, f.run, f.begun, f.live, f.same_id, f.at, f.further)
