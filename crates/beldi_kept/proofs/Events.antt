-- Every event that there is: that event over the kept rows, or none, where the core is elsewhere.
use Rattle.std.specs.FinMap as map
use Rattle.std.specs.Prelude.{Ok, Err, Result, IfOk, nat_lt, ◌^◌, ◌-◌, ◌||◌}
use Rattle.std.specs.declared.alloc.AllocError.{AllocError}
use Rattle.std.proofs.lemmas.Bool.{lt-ltb}
use borrow.Author.Tests.{ltb-false}
use Rattle.std.proofs.Common.{◌≡◌, ◌⊎◌, inl, inr, ℕ, suc, ◌+◌, ◌≤◌, ◌==◌, Bool, true, false, [], Option, Some, None, if◌then◌else◌, refl, ap, sym, ◌∙◌, subst, arith}
use Rattle.beldi_value.specs.{declared.id.IntentId.IntentId, declared.value.Value.Value}
use Rattle.beldi_tree.specs.declared.deployment.Deployment.{Deployment}
use Rattle.beldi_book.specs.LinearOrder.{count_changes}
use Rattle.beldi_row.specs.{Act.act, Act.gone, Key.RowKey, Key.least_key, Table.HasCause, Table.Rows, declared.act.Act.Act, declared.table.TableErr.TableErr}
use Rattle.beldi_row.proofs.Unchanged.{unchanged}
use Rattle.beldi_query.specs.{declared.query.Query.Query, Query.CameOn, Query.QueryReply, Query.lends, Query.replied, Query.query_reply, Query.rows_after}
use Rattle.beldi_query.proofs.Lent.{refused_stand}
use Rattle.beldi_intent.specs.Intent.{root_key}
use Rattle.beldi_collect.specs.{declared.cursor.Found.Found, Collect.collect_asks, Collect.collect_output}
use Rattle.beldi_step.specs.HostStep.{Core, EventBy, EventOn, Followed, HaltOn, Plan, immediate, asks, reads_all, collect_next, counted, crash_plan, ended_run, has_run, on_reply, if_lent, is_crowded, last_moment, most_events, no_run, new_run, no_memory, plan, plan_of, refused, refused_by, restart_plan, run_next, run_plan, turn_next, unheard_next, with_run, without_run}
use Rattle.beldi_step.specs.EventContent.{reply_entries, reply_outcome}
use Rattle.beldi_step.specs.Run.{Turned, run_asks, run_told}
use Rattle.beldi_step.specs.declared.{event.Event.Event, event.EventReply.EventReply, run.Run.Run}
use Rattle.beldi_step.proofs.StepRuns.{either, of_plan, same_some}
use Rattle.beldi_kept.specs.{KeptRows.HasKept, Less.is_item, KeptLaws.IsOfKept, KeptLaws.IsQuiet}
use Rattle.beldi_kept.proofs.{KeptNewest.same_newest, Less.GoesOn, Less.act_both, Less.stays_on, Less.told_both, Step.Step, Step.by_event, Step.by_rest, Step.elsewhere, Step.gone_issued, Step.issued, Turn.SameTurn}

-- it is this event over the kept rows that leaves this core, with this answer
pub record Over (d : Deployment) (gone : IntentId → Bool) (e : Event) (c : Core) (p : Plan) (m kept : Rows) (b : Core) (n : Rows) (x : Result EventReply AllocError) : Type 0 where
  pub room : ℕ
  pub old : ℕ
  pub new : ℕ
  pub after : Rows
  pub on : EventBy d room old new e (counted c) p kept b after x
  pub goes : GoesOn gone m kept n after

abbrev is_full : TableErr → Bool
is_full (TableErr.Full live most) = true
is_full v = false

-- what a table refuses for another reason than room it may refuse over the kept rows
refuses : (q : Query) (now room : ℕ) (kept : Rows) (v : TableErr) → is_full v ≡ false → CameOn q now room (Err v) kept kept
refuses (Query.Act k a) now room kept TableErr.OutOfMemory off = refl
refuses (Query.Act k a) now room kept TableErr.Failed off = refl
refuses (Query.Act k a) now room kept (TableErr.Full live most) off = let clash : true ≡ false = off in cc
refuses (Query.After k) now room kept TableErr.OutOfMemory off = refl
refuses (Query.After k) now room kept TableErr.Failed off = refl
refuses (Query.After k) now room kept (TableErr.Full live most) off = let clash : true ≡ false = off in cc

pub core_of : {A B : Type 0} {x y : A × B} → x ≡ y → x.0 ≡ y.0
core_of h = ap (λ z. z.0) h

-- a row that is not there is not bound
bind_told : (m : Rows) (q : RowKey) (f : ℕ) (a : Value) (now : ℕ) → map.get m q ≡ None → query_reply (Query.Act q (Act.Bind f a)) now m ≡ replied gone
bind_told m q f a now none = ap (λ r. replied (act (Act.Bind f a) now r).1) none

bind_rows : (m : Rows) (q : RowKey) (f : ℕ) (a : Value) (now : ℕ) → map.get m q ≡ None → rows_after (Query.Act q (Act.Bind f a)) now m ≡ m
bind_rows m q f a now none = unchanged m q (act (Act.Bind f a) now (map.get m q)).0 (ap (λ r. (act (Act.Bind f a) now r).0) none ∙ sym none)

not_some : (b : Core) → ◌≡◌ {A = Option Core} None (Some b) → ⊥
not_some b h = cc

pub few : nat_lt 0 most_events ≡ true
few = lt-ltb 0 most_events (omega arith)

module _ (d : Deployment) (c : Core) (m : Rows) (h : HasKept d c m) (room old new : ℕ) (b : Core) (n : Rows) (x : Result EventReply AllocError) where
  abbrev k : Core
  k = counted c

  abbrev pub After : Type 0
  After = Step d c b h.gone m h.kept n

  -- it is that event, or a quiet one
  abbrev pub Sim : Event → Plan → Type 0
  Sim e p = Over d h.gone e c p m h.kept b n x ⊎ (After × IsQuiet e c b x)

  abbrev pub Goal : Event → Plan → Type 0
  Goal e p = EventBy d room old new e k p m b n x → Sim e p

  pub as_were : n ≡ m → GoesOn h.gone m h.kept n h.kept
  as_were same = subst (λ z. GoesOn h.gone m h.kept z h.kept) (sym same) (stays_on h.gone m h.kept h.less)

  -- nothing happens but that the host stands elsewhere
  rests : (q : RowKey) (t : ℕ) (s : Bool) → b ≡ elsewhere c q t s → n ≡ m → After
  rests q t s is same = subst (λ z. Step d c z h.gone m h.kept n) (sym is) (by_rest d c h.gone m h.kept n q t s h.upkeep h.wanted (as_were same))

  counts : b ≡ k → n ≡ m → After
  counts is same = rests c.cursor (c.taken + 1) c.shut is same

  -- an answer that tells nothing
  abbrev Tells : Event → Result EventReply AllocError → Type 0
  Tells e u = IfOk u (λ y. (reply_outcome y ≡ None) × (reply_entries e y ≡ []))

  quiet : (e : Event) (u : Result EventReply AllocError) → b.book ≡ c.book → Tells e u → IsQuiet e c b u
  quiet e u book tells = record { book = book; tells = tells }

  counts_only : (e : Event) (u : Result EventReply AllocError) → b ≡ k → n ≡ m → Tells e u → After × IsQuiet e c b u
  counts_only e u is same tells = (counts is same, quiet e u (ap (λ (z : Core). z.book) is) tells)

  -- where the table is full
  full_only : (e : Event) (live most : ℕ) → ◌≡◌ {A = Core × Result EventReply AllocError} (b, x) (k, Ok (EventReply.Full live most)) → n ≡ m → reply_entries e (EventReply.Full live most) ≡ [] → After × IsQuiet e c b x
  full_only e live most is same none = counts_only e x (core_of is) same (subst (Tells e) (sym (ap (λ z. z.1) is)) (refl, none))

  -- answered at once
  once : (e : Event) (y : Core) (w : EventReply) → Goal e (immediate y w)
  once e y w s = inl (record { room = room; old = old; new = new; after = h.kept; on = (s.0, refl, s.2); goes = as_were s.1 })

  -- where what is told is heard alike where it is lost, and leads to a step where it is not
  module _ (e : Event) (q : Query) (none : no_memory d e k (query_reply q c.now m) ≡ no_memory d e k (query_reply q c.now h.kept)) (goes : GoesOn h.gone m h.kept (rows_after q c.now m) (rows_after q c.now h.kept))
      (hears : (y : EventReply) → x ≡ Ok y → (b, y) ≡ on_reply d e k (query_reply q c.now m) → n ≡ rows_after q c.now m → ((b, y) ≡ on_reply d e k (query_reply q c.now h.kept) → Sim e (asks q)) → Sim e (asks q)) (full : (live most : ℕ) → (b, x) ≡ refused e k (TableErr.Full live most) → n ≡ m → Sim e (asks q)) where
    abbrev OverBy : Result EventReply AllocError → Type 0
    OverBy u = Over d h.gone e c (asks q) m h.kept b n u

    over : (u : Result EventReply AllocError) → Followed d e k (Ok (query_reply q c.now h.kept)) b u → n ≡ rows_after q c.now m → old ≤ new → OverBy u
    over u f rows later = record {
      room = suc (map.len h.kept);
      old = old;
      new = new;
      after = rows_after q c.now h.kept;
      on = (Ok (query_reply q c.now h.kept), f, (refl, refl, λ adds. omega arith), record { later = later; failed = λ e. let clash = e in cc });
      goes = subst (λ z. GoesOn h.gone m h.kept z (rows_after q c.now h.kept)) (sym rows) goes;
    }

    by_told : (w : Result QueryReply TableErr) (u : Result EventReply AllocError) → x ≡ u → Followed d e k w b u → CameOn q c.now room w m n → HasCause old new w → Sim e (asks q)
    by_told (Ok t) (Ok y) is f came s = hears y is (f ∙ ap (on_reply d e k) came.1) came.0 (λ g. inl (subst OverBy (sym is) (over (Ok y) g came.0 s.later)))
    by_told (Ok t) (Err w) is f came s = inl (subst OverBy (sym is) (over (Err w) (sym none ∙ ap (no_memory d e k) (sym came.1) ∙ f) came.0 s.later))
    by_told (Err TableErr.OutOfMemory) u is f came s = inl (subst OverBy (sym is) (record { room = room; old = old; new = new; after = h.kept; on = (Err TableErr.OutOfMemory, f, refuses q c.now room h.kept TableErr.OutOfMemory refl, s); goes = as_were (refused_stand q c.now room TableErr.OutOfMemory m n came) }))
    by_told (Err TableErr.Failed) u is f came s = inl (subst OverBy (sym is) (record { room = room; old = old; new = new; after = h.kept; on = (Err TableErr.Failed, f, refuses q c.now room h.kept TableErr.Failed refl, s); goes = as_were (refused_stand q c.now room TableErr.Failed m n came) }))
    by_told (Err (TableErr.Full live most)) u is f came s = full live most (ap (λ z. (b, z)) is ∙ f) (refused_stand q c.now room (TableErr.Full live most) m n came)

    pub asked : Goal e (asks q)
    asked s = by_told s.0 x refl s.1 s.2 s.3

  -- an act at a key where the two agree
  act_asked : (e : Event) (q : RowKey) → is_item q.kind ≡ false → (a : Act) → map.get m q ≡ map.get h.kept q → ((live most : ℕ) → (b, x) ≡ refused e k (TableErr.Full live most) → n ≡ m → Sim e (asks (Query.Act q a))) → Goal e (asks (Query.Act q a))
  act_asked e q other a agree full = let told = told_both h.gone m h.kept h.less q a c.now agree in
      asked e (Query.Act q a) (ap (no_memory d e k) told) (act_both h.gone m h.kept h.less q other a c.now agree) (λ y is f rows on. on (f ∙ ap (on_reply d e k) told)) full

  -- ---- a ticket: its row is in neither
  ticket_agrees : map.get m (root_key (c.newest + 1)) ≡ map.get h.kept (root_key (c.newest + 1))
  ticket_agrees = elim (h.less.rows (root_key (c.newest + 1)) refl) [
    | inl same ↦ same
    | inr off ↦ let low = issued d c m h (c.newest + 1) (gone_issued d c m h (c.newest + 1) off.1) in absurd (omega (arith, low))
  ]

  ticket : Goal Event.Ticket (plan_of d Event.Ticket k)
  ticket = either (Goal Event.Ticket) (c.newest == 2 ^ 32 - 1) _ _ (λ last. once Event.Ticket k EventReply.NoTicket) (λ t. act_asked Event.Ticket (root_key (c.newest + 1)) refl Act.Issue ticket_agrees (λ live most is same. inr (full_only Event.Ticket live most is same refl)))

  -- ---- a request: where the root is gone, it is told so
  request_gone : (t f : ℕ) (a : Value) (q : RowKey) → map.get m q ≡ None → Goal (Event.Request t f a) (asks (Query.Act q (Act.Bind f a)))
  request_gone t f a q none s = inr (by_told s.0 x s.1 s.2)
    where
      by_told : (w : Result QueryReply TableErr) (u : Result EventReply AllocError) → Followed d (Event.Request t f a) k w b u → CameOn (Query.Act q (Act.Bind f a)) c.now room w m n → After × IsQuiet (Event.Request t f a) c b u
      by_told (Ok v) (Ok y) g came =
          let is = g ∙ ap (on_reply d (Event.Request t f a) k) (came.1 ∙ bind_told m q f a c.now none) in
          counts_only (Event.Request t f a) (Ok y) (core_of is) (came.0 ∙ bind_rows m q f a c.now none) (subst (λ z. Tells (Event.Request t f a) (Ok z)) (sym (ap (λ z. z.1) is)) (refl, refl))
      by_told (Ok v) (Err w) g came = absurd (not_some b (sym (ap (no_memory d (Event.Request t f a) k) (came.1 ∙ bind_told m q f a c.now none)) ∙ g))
      by_told (Err v) u g came = counts_only (Event.Request t f a) u (core_of g) (refused_stand (Query.Act q (Act.Bind f a)) c.now room v m n came) (subst (Tells (Event.Request t f a)) (sym (ap (λ z. z.1) g)) (refused_tells v))
        where
          refused_tells : (v : TableErr) → Tells (Event.Request t f a) (refused_by v)
          refused_tells TableErr.OutOfMemory = tt
          refused_tells TableErr.Failed = (refl, refl)
          refused_tells (TableErr.Full live most) = (refl, refl)

  request : (t f : ℕ) (a : Value) → Goal (Event.Request t f a) (plan_of d (Event.Request t f a) k)
  request t f a = either (Goal (Event.Request t f a)) ((t == 0) || nat_lt c.newest t) _ _ (λ u. once (Event.Request t f a) k (EventReply.Unknown t)) (λ u.
      either (Goal (Event.Request t f a)) (is_crowded c) _ _ (λ u. once (Event.Request t f a) k EventReply.Crowded) (λ u. elim (h.less.rows (root_key t) refl) [
        | inl same ↦ act_asked (Event.Request t f a) (root_key t) refl (Act.Bind f a) same (λ live most is same. inr (full_only (Event.Request t f a) live most is same refl))
        | inr off ↦ request_gone t f a (root_key t) off.0
      ]))

  -- ---- the turn of a run
  module _ (i : ℕ) (r : Run) (live : map.get c.runs i ≡ Some r) where
    abbrev q : Query
    q = run_asks r

    abbrev turned : Rows → Turned
    turned l = run_told d (count_changes c.book) r (query_reply q c.now l)

    -- .. whose mark is the same, and which leads on alike or to a step
    module _ (marks : (turned m).mark ≡ (turned h.kept).mark) (rows : GoesOn h.gone m h.kept (rows_after q c.now m) (rows_after q c.now h.kept))
        (leads : (y : EventReply) → x ≡ Ok y → (b, y) ≡ turn_next k i r (turned m) → n ≡ rows_after q c.now m → ((b, y) ≡ turn_next k i r (turned h.kept) → Sim (Event.Turn i) (asks q)) → Sim (Event.Turn i) (asks q)) where
      hears : (l : Rows) → on_reply d (Event.Turn i) k (query_reply q c.now l) ≡ turn_next k i r (turned l)
      hears l = ap (run_next d k i (query_reply q c.now l)) live

      unheard : unheard_next d k i (query_reply q c.now m) (map.get c.runs i) ≡ unheard_next d k i (query_reply q c.now h.kept) (map.get c.runs i)
      unheard = ap (unheard_next d k i (query_reply q c.now m)) live ∙ ap (without_run k i r.id) marks ∙ sym (ap (unheard_next d k i (query_reply q c.now h.kept)) live)

      turn : Goal (Event.Turn i) (asks q)
      turn = asked (Event.Turn i) q (ap Some unheard) rows (λ y is f there on. leads y is (f ∙ hears m) there (λ g. on (g ∙ sym (hears h.kept)))) (λ live most is stay. inr (full_only (Event.Turn i) live most is stay refl))

      lost : Goal (Event.Lost i) (asks q)
      lost = asked (Event.Lost i) q refl rows (λ y is f there on. on (f ∙ ap (λ z. (z, EventReply.Dropped)) unheard)) (λ live most is stay. inl (record {
        room = room;
        old = 0;
        new = 1;
        after = h.kept;
        on = (Err TableErr.Failed, is, refuses q c.now room h.kept TableErr.Failed refl, record { later = omega arith; failed = λ e. omega arith });
        goes = as_were stay;
      }))

      pub turns_by : Goal (Event.Turn i) (asks q) × Goal (Event.Lost i) (asks q)
      turns_by = (turn, lost)

    -- .. which is the same turn
    pub turns_alike : SameTurn d c h.gone m h.kept r (run_asks r) → Goal (Event.Turn i) (asks q) × Goal (Event.Lost i) (asks q)
    turns_alike same = turns_by (ap (λ (z : Turned). z.mark) same.turned) same.rows (λ y is f there on. on (f ∙ ap (turn_next k i r) same.turned))

  -- ---- the intent collector
  launched : (q : RowKey) (id : IntentId) (f : ℕ) → is_crowded c ≡ false → b ≡ with_run (record k { cursor = q }) (new_run d k id f) → n ≡ m → After
  launched q id f room_there is same = subst (λ z. Step d c z h.gone m h.kept n) (sym is)
      (by_event d 0 0 0 (Event.Restart id f) c (with_run (counted (elsewhere c q 0 false)) (new_run d k id f)) h.gone m h.kept n h.kept (Ok (EventReply.Started (c.last_run + 1))) q q 0 (c.taken + 1) false c.shut h.upkeep h.wanted on (as_were same))
    where
      planned : plan d (Event.Restart id f) (elsewhere c q 0 false) ≡ immediate (with_run (counted (elsewhere c q 0 false)) (new_run d k id f)) (EventReply.Started (c.last_run + 1))
      planned = ap (λ t. if t then restart_plan d (counted (elsewhere c q 0 false)) id f else immediate (elsewhere c q 0 false) EventReply.Spent) few
          ∙ ap (λ t. if t then immediate (counted (elsewhere c q 0 false)) EventReply.Crowded else immediate (with_run (counted (elsewhere c q 0 false)) (new_run d k id f)) (EventReply.Started (c.last_run + 1))) room_there

      on : EventOn d 0 0 0 (Event.Restart id f) (elsewhere c q 0 false) h.kept (with_run (counted (elsewhere c q 0 false)) (new_run d k id f)) h.kept (Ok (EventReply.Started (c.last_run + 1)))
      on = subst (λ p. EventBy d 0 0 0 (Event.Restart id f) (counted (elsewhere c q 0 false)) p h.kept (with_run (counted (elsewhere c q 0 false)) (new_run d k id f)) h.kept (Ok (EventReply.Started (c.last_run + 1)))) (sym planned) ((refl, refl), refl, refl)

  told_so : (y z : EventReply) (a : Core) → reply_outcome z ≡ None → reply_entries Event.Ic z ≡ [] → a.book ≡ c.book → ◌≡◌ {A = Core × EventReply} (b, y) (a, z) → IsQuiet Event.Ic c b (Ok y)
  told_so y z a none entries book is = quiet Event.Ic (Ok y) (ap (λ (w : Core). w.book) (core_of is) ∙ book) (subst (λ w. Tells Event.Ic (Ok w)) (sym (ap (λ w. w.1) is)) (none, entries))

  collects : (w : Found) (y : EventReply) → (b, y) ≡ collect_next d k w → n ≡ m → After × IsQuiet Event.Ic c b (Ok y)
  collects Found.Round y is same = (rests least_key (c.taken + 1) c.shut (core_of is) same, told_so y EventReply.Round _ refl refl refl is)
  collects (Found.Passed q) y is same = (rests q (c.taken + 1) c.shut (core_of is) same, told_so y EventReply.Passed _ refl refl refl is)
  collects (Found.Unended q id f) y is same = either (λ (z : Core × EventReply). (b, y) ≡ z → After × IsQuiet Event.Ic c b (Ok y)) (has_run c.runs id) _ _ (λ t is. (rests q (c.taken + 1) c.shut (core_of is) same, told_so y EventReply.Passed _ refl refl refl is))
      (λ t. either (λ (z : Core × EventReply). (b, y) ≡ z → After × IsQuiet Event.Ic c b (Ok y)) (is_crowded c) _ _ (λ u is. (counts (core_of is) same, told_so y EventReply.Crowded _ refl refl refl is))
      (λ u is. (launched q id f u (core_of is) same, told_so y (EventReply.Launched (c.last_run + 1) id) _ refl refl refl is))) is

  collector : Goal Event.Ic (plan_of d Event.Ic k)
  collector s = inr (by_told s.0 x s.1 s.2)
    where
      refused_tells : (v : TableErr) → Tells Event.Ic (refused_by v)
      refused_tells TableErr.OutOfMemory = tt
      refused_tells TableErr.Failed = (refl, refl)
      refused_tells (TableErr.Full live most) = (refl, refl)

      by_lent : (l : Bool) → if_lent l k ≡ Some b → b ≡ k
      by_lent true e = sym (same_some e)
      by_lent false e = cc

      by_told : (w : Result QueryReply TableErr) (u : Result EventReply AllocError) → Followed d Event.Ic k w b u → CameOn (collect_asks c.cursor) c.now room w m n → After × IsQuiet Event.Ic c b u
      by_told (Ok t) (Ok y) g came = collects (collect_output t) y g came.0
      by_told (Ok t) (Err w) g came = counts_only Event.Ic (Err w) (by_lent (lends t) g) came.0 tt
      by_told (Err v) u g came = counts_only Event.Ic u (core_of g) (refused_stand (collect_asks c.cursor) c.now room v m n came) (subst (Tells Event.Ic) (sym (ap (λ z. z.1) g)) (refused_tells v))

  -- ---- a halt reads the newest ticket, which is that of the kept rows
  halt : Goal Event.Halt reads_all
  halt s = inl (record { room = room; old = old; new = new; after = h.kept; on = (s.0, s.1, reads s.0 s.2, s.3); goes = as_were s.2.0 })
    where
      reads : (w : Result ℕ TableErr) → HaltOn w m n → HaltOn w h.kept h.kept
      reads (Ok t) on = (refl, on.1 ∙ same_newest d c m h)
      reads (Err v) on = (refl, tt)

  -- ---- by the event, where the turns of runs are so
  module _ (e : Event) (turns : (i : ℕ) (r : Run) → map.get c.runs i ≡ Some r → c.now ≤ r.deadline → Goal (Event.Turn i) (asks (run_asks r)) × Goal (Event.Lost i) (asks (run_asks r))) where
    in_time_turn : (i : ℕ) (f : Event) → ((r : Run) → map.get c.runs i ≡ Some r → c.now ≤ r.deadline → Goal f (asks (run_asks r))) → (o : Option Run) → map.get c.runs i ≡ o → Goal f (run_plan k i o)
    in_time_turn i f goes None over = once f k (no_run k i)
    in_time_turn i f goes (Some r) live = either (Goal f) (nat_lt r.deadline c.now) _ _ (λ late. once f (ended_run k i) EventReply.Expired) (λ alive. goes r live (ltb-false r.deadline c.now alive))

    crash : (i : ℕ) (o : Option Run) → Goal (Event.Crash i) (crash_plan k i o)
    crash i None = once (Event.Crash i) k (no_run k i)
    crash i (Some r) = either (Goal (Event.Crash i)) (nat_lt r.deadline c.now) _ _ (λ late. once (Event.Crash i) (ended_run k i) EventReply.Expired) (λ alive. once (Event.Crash i) (ended_run k i) EventReply.Crashed)

    planned : (f : Event) → Goal f (plan_of d f k)
    planned Event.Ticket = ticket
    planned (Event.Request t f a) = request t f a
    planned (Event.Turn i) = in_time_turn i (Event.Turn i) (λ r live in_time. (turns i r live in_time).0) (map.get c.runs i) refl
    planned (Event.Lost i) = in_time_turn i (Event.Lost i) (λ r live in_time. (turns i r live in_time).1) (map.get c.runs i) refl
    planned (Event.Crash i) = crash i (map.get c.runs i)
    planned (Event.Restart id f) = either (Goal (Event.Restart id f)) (is_crowded c) _ _ (λ t. once (Event.Restart id f) k EventReply.Crowded) (λ t. once (Event.Restart id f) (with_run k (new_run d k id f)) (EventReply.Started (c.last_run + 1)))
    planned (Event.Tick t) = either (Goal (Event.Tick t)) (nat_lt last_moment (c.now + t)) _ _ (λ u. once (Event.Tick t) k EventReply.ClockEnd) (λ u. once (Event.Tick t) (record k { now = c.now + t }) (EventReply.Now (c.now + t)))
    planned Event.Ic = collector
    planned Event.Halt = halt

    all_plans : Goal e (plan d e c)
    all_plans = of_plan d e c (Goal e) (λ few. planned e) (λ shut. once e k EventReply.Shut) (once e c EventReply.Spent)

    pub step : EventOn d room old new e c m b n x → After
    step s = by_sim (all_plans s)
      where
        by_sim : Sim e (plan d e c) → After
        by_sim (inl o) = by_event d o.room o.old o.new e c b h.gone m h.kept n o.after x c.cursor b.cursor c.taken b.taken c.shut b.shut h.upkeep h.wanted o.on o.goes
        by_sim (inr still) = still.0

    -- what is answered
    pub answer : EventOn d room old new e c m b n x → IsOfKept d e c h.kept b x ⊎ IsQuiet e c b x
    answer s = by_sim (all_plans s)
      where
        by_sim : Sim e (plan d e c) → IsOfKept d e c h.kept b x ⊎ IsQuiet e c b x
        by_sim (inl o) = inl (record { room = o.room; old = o.old; new = o.new; after = o.after; on = o.on })
        by_sim (inr still) = inr still.1
