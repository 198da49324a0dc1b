-- What a desk says to a question, by the steps of its host.
use Rattle.std.specs.Prelude.{IfOk, IsErrOf}
use Rattle.std.specs.declared.alloc.AllocError.{AllocError}
use Rattle.std.proofs.Common.{Bool, Err, List, None, Ok, Result, Some, [], ap, append-nil, append_assoc, arith, false, if◌then◌else◌, inl, inr, refl, subst, sym, true, ℕ, ◌++◌, ◌∙◌, ◌∷◌, ◌≡◌, ◌≤◌}
use Rattle.beldi_value.specs.{declared.value.Value.Value, Value.datum_of}
use Rattle.beldi_tree.specs.declared.deployment.Deployment.{Deployment}
use Rattle.beldi_row.specs.{declared.table.Table.Ghosts, Table.Rose, Table.Rows}
use Rattle.beldi_step.proofs.AnyStep.{over_any_table, over_rows}
use Rattle.beldi_step.specs.{declared.event.Event.Event, declared.event.EventReply.EventReply, HostStep.EventOn, HostStep.Stepped}
use Rattle.beldi_host.specs.{declared.host.Host.Host, declared.survey.OpenErr.OpenErr, declared.survey.ReplyStatus.ReplyStatus, HostCore.core_of, Survey.Reads, Survey.is_unknown, Survey.reply_status}
use Rattle.beldi_outside.{proofs.Observed.told_map, proofs.Observed.told_then}
use Rattle.beldi_schedule.specs.{Settle.first_at, Settle.go_on, Settles.State}
use Rattle.beldi_session.proofs.{Responses.told_tells, Went.steps_before, Went.steps_then}
use Rattle.beldi_session.specs.{HostResponse.Response, HostResponse.Answered, HostResponse.BrokeOff, HostResponse.Reported, HostResponse.ReplyIs, HostResponse.Whole, HostResponse.after_request, HostResponse.goes_on, HostResponse.patience, Script.Action, Script.Call, Script.Carry, Script.Settle, Script.TellReply, Session.Does, Session.IsStep, Session.Leaves, Session.Steps, Session.Unchanged, Session.WentBy, Session.sight, declared.session.Stop.Stop}
use Rattle.beldi_gateway.specs.{declared.desk.CallReply.CallReply, declared.desk.TicketReply.TicketReply, declared.response.Response.Response as Reply, declared.response.Response.TheVariants.Call as Called, declared.response.Response.TheVariants.Ticket as Ticketed, Exchange.Question, Exchange.ask_call, Exchange.ask_ticket}
use Rattle.beldi_serve.proofs.Leading.{leads_so}
use Rattle.beldi_serve.specs.Desk.{AnswersTo, Asks, Comes, IsNoMemory, Passed, Replies, HostRelation, reply_said, request_said, said_by, state_of, ticket_said}

-- ---- one step after another
module _ (d : Deployment) (room : ℕ) (s t : State) where
  -- one response, which says this, or which leaves something to do where memory is short
  said_once : (a : Action) (y : Response) (x : Reply) → Leaves a s.core t.core y [] → IsStep d room s t y → x ≡ said_by y → AnswersTo (a ∷ []) x d room s t
  said_once a y x leaves step said = (y ∷ [], record { more = []; steps = (t, [], step, ([], leaves, refl), (refl, refl)); said = inr (refl, ([], y, refl, said)) })

  broke_once : (a : Action) (y : Response) (x : Reply) (left : List Action) → Leaves a s.core t.core y left → IsStep d room s t y → IsNoMemory x → AnswersTo (a ∷ []) x d room s t
  broke_once a y x left leaves step short = (y ∷ [], record { more = left; steps = (t, left, step, (left, leaves, sym (append-nil left)), (refl, refl)); said = inl short })

  -- a response, and then what it leaves to do
  then_answers : (u : State) (a : Action) (y : Response) (left : List Action) (x : Reply) → Leaves a s.core u.core y left → IsStep d room s u y → AnswersTo left x d room u t → AnswersTo (a ∷ []) x d room s t
  then_answers u a y left x leaves step k = (
    y ∷ k.0,
    record {
      more = k.1.more;
      steps = (u, left, step, (left, leaves, sym (append-nil left)), k.1.steps);
      said = elim k.1.said [
        | inl short ↦ inl short
        | inr says ↦ inr (says.0, (y ∷ says.1.0, says.1.1, ap (λ z. y ∷ z) says.1.2, says.1.3))
      ];
    },
  )

  -- some actions, and then others
  after_steps : (u : State) (ys : List Response) (fs gs : List Action) (x : Reply) → Steps (IsStep d room) ys fs [] s u → AnswersTo gs x d room u t → AnswersTo (fs ++ gs) x d room s t
  after_steps u ys fs gs x steps k = (
    ys ++ k.0,
    record {
      more = k.1.more;
      steps = steps_then (IsStep d room) ys k.0 (fs ++ gs) gs k.1.more s u t (steps_before (IsStep d room) gs ys fs [] s u steps) k.1.steps;
      said = elim k.1.said [
        | inl short ↦ inl short
        | inr says ↦ inr (says.0, (ys ++ says.1.0, says.1.1, ap (λ z. ys ++ z) says.1.2 ∙ sym (append_assoc ys says.1.0 (says.1.1 ∷ [])), says.1.3))
      ];
    },
  )

  -- memory was short after some of them
  short_after : (ys : List Response) (fs more gs : List Action) (x : Reply) → Steps (IsStep d room) ys fs more s t → IsNoMemory x → AnswersTo (fs ++ gs) x d room s t
  short_after ys fs more gs x steps short = (ys, record { more = more ++ gs; steps = steps_before (IsStep d room) gs ys fs more s t steps; said = inl short })

-- an event was answered so, or was out of memory
abbrev pub answered : Event → Result EventReply AllocError → Response
answered e (Ok x) = Answered Whole e x
answered e (Err w) = BrokeOff (Some e)

abbrev pub Made : Event → Result EventReply AllocError → HostRelation
Made e r d room s t = IsStep d room s t (answered e r)

step_of : (d : Deployment) (room : ℕ) (s t : State) (e : Event) (r : Result EventReply AllocError) → EventOn d room s.faults t.faults e s.core s.rows t.core t.rows r → s.faults ≤ t.faults → Made e r d room s t
step_of d room s t e (Ok x) h later = (h, later)
step_of d room s t e (Err w) h later = (h, later)

-- the reply of a ticket was read, or not
abbrev pub reply_report : ℕ → Result ReplyStatus OpenErr → Response
reply_report t (Ok x) = Reported (ReplyIs t (Some x))
reply_report t (Err OpenErr.Failed) = Reported (ReplyIs t None)
reply_report t (Err OpenErr.OutOfMemory) = BrokeOff None

abbrev pub Looked : ℕ → Result ReplyStatus OpenErr → HostRelation
Looked t r d room s u = IsStep d room s u (reply_report t r)

-- a settling was carried out
abbrev pub Settled : {X : Type 0} → List Action → Result X Stop → HostRelation
Settled fs r d room s t = (ys : List Response) × (more : List Action) × Steps (IsStep d room) ys fs more s t × IfOk r (λ x. more ≡ [])

-- a question asks this
asks_so : {q : Question} {x : Reply} (fs : List Action) → Asks q fs → (d : Deployment) (room : ℕ) (s t : State) → AnswersTo fs x d room s t → Replies q x d room s t
asks_so fs asks d room s t k = (k.0, record { actions = fs; asks = asks; answers = k.1 })

abbrev pub settled_so : {X : Type 0} → X → Result X Stop
settled_so x = Ok x

abbrev pub stopped_so : (X : Type 0) → Stop → Result X Stop
stopped_so X e = Err e

abbrev pub none_lost : Unit {0} → Result (Unit {0}) AllocError
none_lost u = Ok u

abbrev pub lost : AllocError → Result (Unit {0}) AllocError
lost w = Err w

-- ---- from one host to another
module _ {T : Type 0} {G : Ghosts T} where
  pub comes_map : {P Q : HostRelation} {a b : Host T G} → ((d : Deployment) (room : ℕ) (s t : State) → P d room s t → Q d room s t) → Comes P a b → Comes Q a b
  comes_map {P} {Q} {a} {b} f h = record {
    code = h.code;
    room = h.room;
    later = h.later;
    went = told_map {P = λ m n. P a.code (G.state a.table).room (state_of a m) (state_of b n)} {Q = λ m n. Q a.code (G.state a.table).room (state_of a m) (state_of b n)} (G.state a.table).rows (G.state b.table).rows (λ m n p. f a.code (G.state a.table).room (state_of a m) (state_of b n) p) h.went;
  }

  -- .. and on to a third
  pub comes_then : {P Q R : HostRelation} {a b c : Host T G} → ((d : Deployment) (room : ℕ) (s t u : State) → P d room s t → Q d room t u → R d room s u) → Comes P a b → Comes Q b c → Comes R a c
  comes_then {P} {Q} {R} {a} {b} {c} f h k = record {
    code = k.code ∙ h.code;
    room = k.room ∙ h.room;
    later = omega (arith, h.later, k.later);
    went = told_then {P = λ m n. P a.code (G.state a.table).room (state_of a m) (state_of b n)} {Q = λ m n. Q b.code (G.state b.table).room (state_of b m) (state_of c n)} {R = λ m n. R a.code (G.state a.table).room (state_of a m) (state_of c n)}
        (G.state a.table).rows (G.state b.table).rows (G.state c.table).rows
        (λ m n o p q. f a.code (G.state a.table).room (state_of a m) (state_of b n) (state_of c o) p (subst (λ (z : Deployment). Q z (G.state a.table).room (state_of b n) (state_of c o)) h.code (subst (λ (z : ℕ). Q b.code z (state_of b n) (state_of c o)) h.room q))) h.went k.went;
  }

  pub event_comes : (a b : Host T G) (e : Event) (r : Result EventReply AllocError) → b.code ≡ a.code → Stepped a.code e (core_of a) (core_of b) (G.state a.table) (G.state b.table) r → Comes (Made e r) a b
  event_comes a b e r code h =
      let any = over_any_table a.code e (core_of a) (core_of b) (G.state a.table) (G.state b.table) r h in
      record {
        code = code;
        room = any.room;
        later = any.later;
        went = told_map {P = λ m n. EventOn a.code (G.state a.table).room (G.state a.table).faults (G.state b.table).faults e (core_of a) m (core_of b) n r} {Q = λ m n. IsStep a.code (G.state a.table).room (state_of a m) (state_of b n) (answered e r)} (G.state a.table).rows (G.state b.table).rows
            (λ m n p. step_of a.code (G.state a.table).room (state_of a m) (state_of b n) e r p any.later)
            (told_tells (G.state a.table).rows (G.state b.table).rows (λ m n. EventOn a.code (G.state a.table).room (G.state a.table).faults (G.state b.table).faults e (core_of a) m (core_of b) n r) (over_rows a.code e (core_of a) (core_of b) (G.state a.table) (G.state b.table) r h));
      }

  pub reply_comes : (a b : Host T G) (t : ℕ) (r : Result ReplyStatus OpenErr) → b.code ≡ a.code → core_of b ≡ core_of a → Reads (λ m x. x ≡ reply_status (core_of a).newest t m) (G.state a.table) (G.state b.table) r
      → ((e : OpenErr) → r ≡ Err e → is_unknown (core_of a).newest t ≡ false) → Comes (Looked t r) a b
  reply_comes a b t r code core h issued = record {
    code = code;
    room = h.room;
    later = h.later;
    went = told_map {P = λ m n. (n ≡ m) × IfOk r (λ x. x ≡ reply_status (core_of a).newest t m)} {Q = λ m n. IsStep a.code (G.state a.table).room (state_of a m) (state_of b n) (reply_report t r)} (G.state a.table).rows (G.state b.table).rows
        (λ m n p. by_read r m n p.0 p.1 h.failed issued)
        (told_tells (G.state a.table).rows (G.state b.table).rows (λ m n. (n ≡ m) × IfOk r (λ x. x ≡ reply_status (core_of a).newest t m)) h.rows);
  }
    where
      same : (m n : Rows) → n ≡ m → Unchanged (state_of a m) (state_of b n)
      same m n is = record { core = core; rows = is; later = h.later }

      by_read : (r : Result ReplyStatus OpenErr) (m n : Rows) → n ≡ m → IfOk r (λ x. x ≡ reply_status (core_of a).newest t m) → (IsErrOf r OpenErr.Failed → Rose (G.state a.table).faults (G.state b.table).faults)
          → ((e : OpenErr) → r ≡ Err e → is_unknown (core_of a).newest t ≡ false) → IsStep a.code (G.state a.table).room (state_of a m) (state_of b n) (reply_report t r)
      by_read (Ok x) m n is said failed issued = (same m n is, said)
      by_read (Err OpenErr.Failed) m n is said failed issued = (same m n is, (failed refl, issued OpenErr.Failed refl))
      by_read (Err OpenErr.OutOfMemory) m n is said failed issued = same m n is

  -- a settling was carried out, and what it tells is dropped
  pub settled_comes : {X : Type 0} (a b : Host T G) (fs : List Action) (p q : List ℕ) (r : Result X Stop) → Does fs (sight a p None 0) (sight b q None 0) r → Comes (Settled fs r) a b
  settled_comes {X} a b fs p q r h = record {
    code = h.code;
    room = h.room;
    later = h.later;
    went = told_map {P = λ m n. WentBy a.code (G.state a.table).room fs [] (state_of a m) (state_of b n) p h.written q r} {Q = λ m n. Settled fs r a.code (G.state a.table).room (state_of a m) (state_of b n)} (G.state a.table).rows (G.state b.table).rows (λ m n w. by_end r m n w) h.went;
  }
    where
      by_end : (r : Result X Stop) (m n : Rows) → WentBy a.code (G.state a.table).room fs [] (state_of a m) (state_of b n) p h.written q r → Settled fs r a.code (G.state a.table).room (state_of a m) (state_of b n)
      by_end (Ok x) m n w = (w.responses, [], w.steps, refl)
      by_end (Err e) m n w = (w.2.responses, w.0, w.2.steps, tt)

  -- ---- a ticket's reply was looked at
  pub look_told : (a b : Host T G) (t : ℕ) (seen : ReplyStatus) → Comes (Looked t (Ok seen)) a b → Comes (AnswersTo (TellReply t ∷ []) (Called (reply_said (Some seen)))) a b
  look_told a b t seen = comes_map {P = Looked t (Ok seen)} {Q = AnswersTo (TellReply t ∷ []) (Called (reply_said (Some seen)))} {a = a} {b = b} (λ d room s u step. said_once d room s u (TellReply t) (Reported (ReplyIs t (Some seen))) (Called (reply_said (Some seen))) (refl, refl) step refl)

  pub look_failed : (a b : Host T G) (t : ℕ) → Comes (Looked t (Err OpenErr.Failed)) a b → Comes (AnswersTo (TellReply t ∷ []) (Called CallReply.Fault)) a b
  look_failed a b t = comes_map {P = Looked t (Err OpenErr.Failed)} {Q = AnswersTo (TellReply t ∷ []) (Called CallReply.Fault)} {a = a} {b = b} (λ d room s u step. said_once d room s u (TellReply t) (Reported (ReplyIs t None)) (Called CallReply.Fault) (refl, refl) step refl)

  pub look_short : (a b : Host T G) (t : ℕ) → Comes (Looked t (Err OpenErr.OutOfMemory)) a b → Comes (AnswersTo (TellReply t ∷ []) (Called CallReply.NoMemory)) a b
  look_short a b t = comes_map {P = Looked t (Err OpenErr.OutOfMemory)} {Q = AnswersTo (TellReply t ∷ []) (Called CallReply.NoMemory)} {a = a} {b = b} (λ d room s u step. broke_once d room s u (TellReply t) (BrokeOff None) (Called CallReply.NoMemory) (TellReply t ∷ []) refl step (inr refl))

  -- ---- a ticket was asked for
  pub ticket_told : (a b : Host T G) (x : EventReply) → Comes (Made Event.Ticket (Ok x)) a b → Comes (Replies ask_ticket (Ticketed (ticket_said x))) a b
  ticket_told a b x = comes_map {P = Made Event.Ticket (Ok x)} {Q = Replies ask_ticket (Ticketed (ticket_said x))} {a = a} {b = b} (λ d room s u step. asks_so (Carry Event.Ticket ∷ []) refl d room s u (said_once d room s u (Carry Event.Ticket) (Answered Whole Event.Ticket x) (Ticketed (ticket_said x)) (refl, refl) step refl))

  pub ticket_short : (a b : Host T G) (w : AllocError) → Comes (Made Event.Ticket (Err w)) a b → Comes (Replies ask_ticket (Ticketed TicketReply.NoMemory)) a b
  ticket_short a b w = comes_map {P = Made Event.Ticket (Err w)} {Q = Replies ask_ticket (Ticketed TicketReply.NoMemory)} {a = a} {b = b}
      (λ d room s u step. asks_so (Carry Event.Ticket ∷ []) refl d room s u (broke_once d room s u (Carry Event.Ticket) (BrokeOff (Some Event.Ticket)) (Ticketed TicketReply.NoMemory) (Carry Event.Ticket ∷ []) (refl, refl) step (inl refl)))

  -- ---- a function was called
  asks_call : (t f : ℕ) (v : Value) (x : Reply) (a b : Host T G) → Comes (AnswersTo (Call t f v ∷ []) x) a b → Comes (Replies (ask_call t f (datum_of v)) x) a b
  asks_call t f v x a b = comes_map {P = AnswersTo (Call t f v ∷ []) x} {Q = Replies (ask_call t f (datum_of v)) x} {a = a} {b = b} (λ d room s u k. asks_so (Call t f v ∷ []) (v, refl, refl) d room s u k)

  pub call_short : (a b : Host T G) (t f : ℕ) (v : Value) (w : AllocError) → Comes (Made (Event.Request t f v) (Err w)) a b → Comes (Replies (ask_call t f (datum_of v)) (Called CallReply.NoMemory)) a b
  call_short a b t f v w h = asks_call t f v (Called CallReply.NoMemory) a b (comes_map {P = Made (Event.Request t f v) (Err w)} {Q = AnswersTo (Call t f v ∷ []) (Called CallReply.NoMemory)} {a = a} {b = b}
      (λ d room s u step. broke_once d room s u (Call t f v) (BrokeOff (Some (Event.Request t f v))) (Called CallReply.NoMemory) (Call t f v ∷ []) (refl, refl) step (inr refl)) h)

  -- it goes on, or it does not
  pub call_told : (a b c : Host T G) (t f : ℕ) (v : Value) (x : EventReply) (said : CallReply) → Comes (Made (Event.Request t f v) (Ok x)) a b
      → (goes_on x ≡ true → Comes (AnswersTo (after_request t x) (Called said)) b c) → (goes_on x ≡ false → (c ≡ b) × (said ≡ request_said x)) → Comes (Replies (ask_call t f (datum_of v)) (Called said)) a c
  call_told a b c t f v x said h goes ends = asks_call t f v (Called said) a c (by_answer (goes_on x) refl)
    where
      by_answer : (z : Bool) → goes_on x ≡ z → Comes (AnswersTo (Call t f v ∷ []) (Called said)) a c
      by_answer true e = comes_then {P = Made (Event.Request t f v) (Ok x)} {Q = AnswersTo (after_request t x) (Called said)} {R = AnswersTo (Call t f v ∷ []) (Called said)} {a = a} {b = b} {c = c}
          (λ d room s w u step on. then_answers d room s u w (Call t f v) (Answered Whole (Event.Request t f v) x) (after_request t x) (Called said) (refl, refl) step on) h (goes e)
      by_answer false e = let k = ends e in
          subst (λ (z : Host T G). Comes (AnswersTo (Call t f v ∷ []) (Called said)) a z) (sym k.0) (comes_map {P = Made (Event.Request t f v) (Ok x)} {Q = AnswersTo (Call t f v ∷ []) (Called said)} {a = a} {b = b}
          (λ d room s u step. said_once d room s u (Call t f v) (Answered Whole (Event.Request t f v) x) (Called said) (refl, sym (ap (λ y. if y then Settle patience (go_on patience first_at) ∷ TellReply t ∷ [] else []) e)) step (ap Called k.1)) h)

  -- ---- a settling, and then the reply
  pub go_on_told : {X : Type 0} (a b c : Host T G) (f : Action) (t : ℕ) (r : X) (x : Reply) → Comes (Settled (f ∷ []) (settled_so r)) a b → Comes (AnswersTo (TellReply t ∷ []) x) b c → Comes (AnswersTo (f ∷ TellReply t ∷ []) x) a c
  go_on_told a b c f t r x = comes_then {P = Settled (f ∷ []) (settled_so r)} {Q = AnswersTo (TellReply t ∷ []) x} {R = AnswersTo (f ∷ TellReply t ∷ []) x} {a = a} {b = b} {c = c}
      (λ d room s w u settled look. after_steps d room s u w settled.0 (f ∷ []) (TellReply t ∷ []) x (subst (λ z. Steps (IsStep d room) settled.0 (f ∷ []) z s w) settled.3 settled.2) look)

  pub go_on_short : (X : Type 0) (a b : Host T G) (f : Action) (t : ℕ) (e : Stop) → Comes (Settled (f ∷ []) (stopped_so X e)) a b → Comes (AnswersTo (f ∷ TellReply t ∷ []) (Called CallReply.NoMemory)) a b
  go_on_short X a b f t e = comes_map {P = Settled (f ∷ []) (stopped_so X e)} {Q = AnswersTo (f ∷ TellReply t ∷ []) (Called CallReply.NoMemory)} {a = a} {b = b}
      (λ d room s u settled. short_after d room s u settled.0 (f ∷ []) settled.1 (TellReply t ∷ []) (Called CallReply.NoMemory) settled.2 (inr refl))

  -- ---- turns were given, and what they tell is dropped
  pub turns_given : {X : Type 0} (a b : Host T G) (fs : List Action) (x : X) → Comes (Settled fs (settled_so x)) a b → Comes (Passed fs (none_lost tt)) a b
  turns_given a b fs x = comes_map {P = Settled fs (settled_so x)} {Q = Passed fs (none_lost tt)} {a = a} {b = b} (λ d room s u k. (k.0, subst (λ z. Steps (IsStep d room) k.0 fs z s u) k.3 k.2))

  pub turns_short : (X : Type 0) (a b : Host T G) (fs : List Action) (e : Stop) (w : AllocError) → Comes (Settled fs (stopped_so X e)) a b → Comes (Passed fs (lost w)) a b
  turns_short X a b fs e w = comes_map {P = Settled fs (stopped_so X e)} {Q = Passed fs (lost w)} {a = a} {b = b} (λ d room s u k. (k.0, leads_so (IsStep d room) k.0 fs k.1 s u k.2))

  -- ---- ticks passed
  pub ticks_told : (a b : Host T G) (by : ℕ) (x : EventReply) → Comes (Made (Event.Tick by) (Ok x)) a b → Comes (Passed (Carry (Event.Tick by) ∷ []) (none_lost tt)) a b
  ticks_told a b by x = comes_map {P = Made (Event.Tick by) (Ok x)} {Q = Passed (Carry (Event.Tick by) ∷ []) (none_lost tt)} {a = a} {b = b} (λ d room s u step. (Answered Whole (Event.Tick by) x ∷ [], (u, [], step, ([], (refl, refl), refl), (refl, refl))))
