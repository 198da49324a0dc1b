-- An event that was planned, and then followed, is one step.
use Rattle.std.proofs.lemmas.List.{append-nil}
use Rattle.beldi_step.specs.{HostStep.counted, HostStep.turned_core, Run.output_of, Run.plain_output}
use Rattle.beldi_step.proofs.PutRun.{put_self}
use Rattle.std.specs.{Prelude.IfOk, Result.is_err}
use Rattle.beldi_core.specs.LiveRuns.{callee_for, made_before}
use Rattle.beldi_core.proofs.Callees.{callee_told}
use Rattle.beldi_core.proofs.Names.{AllocError, Asked, Bool, Came, Copied, Copies, Core, Deployment, Err, Event, Followed, Lost, Mark, NoMemory, None, Numbered, Ok, Option, OutOfMemory, Plan, Planned, PlannedOf, Query, Result, Run, RunMap, RunTold, EventReply, Some, StepBy, Stepped, TableErr, TableState, TellsTurn, QueryReply, Turn, TurnOutput, after_turn, ap, asks, immediate, base, count_changes, crash_plan, ended_run, entered, false, if◌then◌else◌, mark_told, marked, nat_lt, no_run, plan, reads_all, refl, remove_put, run_asks, run_next, run_plan, run_told, subst, sym, turn_in, unasked, unheard_next, ℕ, ◌∙◌, ◌≡◌}
use Rattle.beldi_core.proofs.Names.map

-- ---- the step
no_memory_by : (d : Deployment) (e : Event) (c z : Core) (r : Result EventReply AllocError) (s : TableState) (p : Plan) → NoMemory e c p z r → StepBy d e c p z s s r
no_memory_by d e c z r s (immediate b y) h = (h, refl)
no_memory_by d e c z r s (asks q) h = (Err OutOfMemory, h, unasked q c.now s)
no_memory_by d e c z r s reads_all h = absurd h

pub no_memory : (d : Deployment) (e : Event) (c z : Core) (r : Result EventReply AllocError) (s : TableState) → NoMemory e (counted c) (plan d e c) z r → Stepped d e c z s s r
no_memory d e c z r s h = no_memory_by d e (counted c) z r s (plan d e c) h

-- .. a halt's, by what is read
pub reads : (d : Deployment) (e : Event) (c b z : Core) (p : Plan) (old new : TableState) (r : Result EventReply AllocError) → (p ≡ reads_all) × (b ≡ c) → StepBy d e b reads_all z old new r → StepBy d e c p z old new r
reads d e c b z p old new r planned h = subst (λ (q : Plan). StepBy d e c q z old new r) (sym planned.0) (subst (λ (x : Core). StepBy d e x reads_all z old new r) planned.1 h)

-- ---- the answer to a turn
pub query_asked : (d k : Deployment) (e : Event) (c z : Core) (q : Query) (old new : TableState) (w : Result QueryReply TableErr) (r : Result EventReply AllocError) → k ≡ d → Followed k e (base e c) w z r → Came q c.now w old new → Asked d e c z q old new r
query_asked d k e c z q old new w r code followed came = (w, subst (λ (y : Deployment). Followed y e (base e c) w z r) code followed, came)

module _ (d : Deployment) (c z : Core) (a : RunMap) (i : ℕ) (t : QueryReply) (n : Copies) where
  unheard_by : (o : Option Run) (x : Result TurnOutput (Option Mark)) (m : Option Mark) → RunTold d (count_changes c.book) c.runs a i o t x → Copied n o → m ≡ mark_told x → z ≡ record c { runs = map.remove a i; book = marked c.book n.id m } → z ≡ unheard_next d c i t o
  unheard_by None x m h name at is = absurd h
  unheard_by (Some r) (Ok x) m h name at is =
      let s = run_told d (count_changes c.book) r t in
      is ∙ (λ k. record c { runs = map.remove (h.0 k) i; book = marked c.book (name k).id ((at ∙ ap (λ (y : TurnOutput). y.mark) h.1) k) }) ∙ ap (λ q. record c { runs = q; book = marked c.book r.id s.mark }) (remove_put c.runs i s.next)
  unheard_by (Some r) (Err m') m h name at is =
      is ∙ (λ k. record c { runs = map.remove (h.0 k) i; book = marked c.book (name k).id ((at ∙ h.1) k) }) ∙ ap (λ q. record c { runs = q; book = marked c.book r.id (run_told d (count_changes c.book) r t).mark }) (remove_put c.runs i None)

  pub unheard : (x : Result TurnOutput (Option Mark)) (m : Option Mark) → RunTold d (count_changes c.book) c.runs a i (map.get c.runs i) t x → Copied n (map.get c.runs i) → m ≡ mark_told x → z ≡ record c { runs = map.remove a i; book = marked c.book n.id m } → Followed d (Lost i) c (Ok t) z (Ok EventReply.Dropped)
  unheard x m h name at is = λ j. (unheard_by (map.get c.runs i) x m h name at is j, EventReply.Dropped)

  -- .. and where there was no memory for what follows
  unheard_made : (x : TurnOutput) → RunTold d (count_changes c.book) c.runs a i (map.get c.runs i) t (Ok x) → Copied n (map.get c.runs i) → z ≡ record c { runs = map.remove a i; book = marked c.book n.id x.mark } → Some (unheard_next d c i t (map.get c.runs i)) ≡ Some z
  unheard_made x h name is = ap Some (sym (unheard_by (map.get c.runs i) (Ok x) x.mark h name refl is))

turned_by : (d : Deployment) (c : Core) (a : RunMap) (i : ℕ) (t : QueryReply) (n : Copies) (o : Option Run) (x : TurnOutput) → RunTold d (count_changes c.book) c.runs a i o t (Ok x) → Copied n o
    → after_turn (record c { runs = a; book = marked c.book n.id x.mark }) (callee_for n.callee (map.get a i)) n.id x x.wait ≡ run_next d c i t o
turned_by d c a i t n None x h name = absurd h
turned_by d c a i t n (Some r) x h name =
    let s = run_told d (count_changes c.book) r t in
    let k = turned_core c i r.id s in
    (λ j. after_turn (record c { runs = h.0 j; book = marked c.book (name j).id (h.1 j).mark }) (callee_for (name j).callee (map.get (h.0 j) i)) (name j).id (h.1 j) (h.1 j).wait)
    ∙ ap (λ o. after_turn k (callee_for (made_before r) o) r.id (output_of s) s.wait) (put_self c.runs i s.next)
    ∙ callee_told d (count_changes c.book) r t k

turned : (d : Deployment) (c k : Core) (a : RunMap) (i : ℕ) (t : QueryReply) (n : Copies) (x : TurnOutput) (z : Core × EventReply) → RunTold d (count_changes c.book) c.runs a i (map.get c.runs i) t (Ok x) → Copied n (map.get c.runs i) → k ≡ record c { runs = a; book = marked c.book n.id x.mark }
    → z ≡ after_turn k (callee_for n.callee (map.get k.runs i)) n.id x x.wait → z ≡ run_next d c i t (map.get c.runs i)
turned d c k a i t n x z h name at is = is ∙ ap (λ (q : Core). after_turn q (callee_for n.callee (map.get q.runs i)) n.id x x.wait) at ∙ turned_by d c a i t n (map.get c.runs i) x h name

-- .. where it says no more than whether the run is over
pub plain_turn : (c : Core) (i : ℕ) (n : Copies) (x : TurnOutput) (b : Bool) → x ≡ plain_output None b → TellsTurn c i n x c (Ok (EventReply.Acted None None b None))
plain_turn c i n x b is =
    subst (λ (y : TurnOutput). TellsTurn c i n y c (Ok (EventReply.Acted None None b None))) (sym is)
    (λ j. (record c { book = sym (append-nil c.book) j }, EventReply.Acted None None b None))

-- .. which is told, or there is no memory for that
pub told_turn : (d : Deployment) (c k z : Core) (a : RunMap) (i : ℕ) (t : QueryReply) (n : Copies) (x : TurnOutput) (r : Result EventReply AllocError) → RunTold d (count_changes c.book) c.runs a i (map.get c.runs i) t (Ok x) → Copied n (map.get c.runs i)
    → k ≡ record c { runs = a } → TellsTurn k i n x z r → Followed d (Turn i) c (Ok t) z r
told_turn d c k z a i t n x (Ok y) h name at is = turned d c (entered k n x) a i t n x (z, y) h name (ap (λ q. entered q n x) at) is
told_turn d c k z a i t n x (Err e) h name at is = unheard_made d c z a i t n x h name (is ∙ ap (λ q. ended_run (entered q n x) i) at)

-- a core whose runs go without one
pub ended_core : (c k : Core) (i : ℕ) (m : Numbered) → k ≡ c → m ≡ record { runs = map.remove k.runs i; given = k.last_run } → record k { runs = m.runs; last_run = m.given } ≡ ended_run c i
ended_core c k i m same is = (λ j. record k { runs = (is j).runs; last_run = (is j).given }) ∙ ap (λ q. ended_run q i) same

-- ---- an event, known by what it is
pub planned_as : (d : Deployment) (f : Event) (c z : Core) (e : Event) (spare : ℕ) (r : Result Planned AllocError) → f ≡ e → PlannedOf d e c z spare r → PlannedOf d f c z spare r
planned_as d f c z e spare r is h = subst (λ (x : Event). PlannedOf d x c z spare r) (sym is) h

-- ---- a run that is not live
pub idle : (c : Core) (i : ℕ) (o : Option Run) (x : EventReply) → o ≡ None → x ≡ no_run c i → immediate c x ≡ crash_plan c i o
idle c i None x none is = ap (immediate c) is
idle c i (Some r) x none is = cc

-- .. and one that is, in time
asks_in_time : (c : Core) (i : ℕ) (o : Option Run) (r : Run) → o ≡ Some r → nat_lt r.deadline c.now ≡ false → run_plan c i o ≡ asks (run_asks r)
asks_in_time c i o r is early = ap (run_plan c i) is ∙ ap (λ b. if b then immediate (ended_run c i) EventReply.Expired else asks (run_asks r)) early

-- ---- a turn
pub idle_turn : (c : Core) (i : ℕ) (x : EventReply) → map.get c.runs i ≡ None → x ≡ no_run c i → run_plan c i (map.get c.runs i) ≡ immediate c x
idle_turn c i x none is = ap (run_plan c i) none ∙ ap (immediate c) (sym is)

pub turn_without_memory : (c z : Core) (i : ℕ) (r : Run) (w : AllocError) → map.get c.runs i ≡ Some r → nat_lt r.deadline c.now ≡ false → z ≡ ended_run c i → NoMemory (Turn i) c (run_plan c i (map.get c.runs i)) z (Err w)
turn_without_memory c z i r w is early ends = subst (λ (k : Plan). NoMemory (Turn i) c k z (Err w)) (sym (asks_in_time c i (map.get c.runs i) r is early)) (ap (λ (z : Core). (z, Err w)) ends)

-- .. whose answer is lost
pub lost_without_memory : (c z : Core) (i : ℕ) (w : AllocError) (k : Plan) → NoMemory (Turn i) c k z (Err w) → NoMemory (Lost i) c k z (Err w)
lost_without_memory c z i w (immediate b y) h = h
lost_without_memory c z i w (asks q) h = h
lost_without_memory c z i w reads_all h = h

-- an event that is a turn
pub is_turn : (e : Event) (i : ℕ) → Some i ≡ turn_in e → e ≡ Turn i
is_turn Event.Ticket i h = cc
is_turn (Event.Request t f a) i h = cc
is_turn (Turn n) i h = cc
is_turn (Lost n) i h = cc
is_turn (Event.Crash n) i h = cc
is_turn (Event.Restart id f) i h = cc
is_turn (Event.Tick n) i h = cc
is_turn Event.Ic i h = cc
is_turn Event.Halt i h = cc

-- .. that is answered at once
pub turn_now : (d : Deployment) (e : Event) (c z : Core) (x y : EventReply) (s : TableState) → plan d e c ≡ immediate z y → x ≡ y → Stepped d e c z s s (Ok x)
turn_now d e c z x y s planned same = subst (λ (k : Plan). StepBy d e (counted c) k z s s (Ok x)) (sym planned) ((refl, same), refl)

-- .. or asks one thing
pub turn_asked : (d : Deployment) (i : ℕ) (c b z : Core) (q : Query) (p : Plan) (old new : TableState) (r : Result EventReply AllocError) → p ≡ asks q → b ≡ c → Asked d (Turn i) b z q old new r → StepBy d (Turn i) c p z old new r
turn_asked d i c b z q p old new r planned same asked = subst (λ (k : Plan). StepBy d (Turn i) c k z old new r) (sym planned) (subst (λ (k : Core). StepBy d (Turn i) k (asks q) z old new r) same asked)

-- .. which was made, and is told with what follows
pub tells : (c k z : Core) (i : ℕ) (n : Copies) (x : TurnOutput) (r : Result EventReply AllocError) → k ≡ entered c n x → IfOk r (λ y. (z, y) ≡ after_turn k (callee_for n.callee (map.get k.runs i)) n.id x x.wait) → is_err r ≡ false → TellsTurn c i n x z r
tells c k z i n x (Ok y) made follows told = subst (λ (q : Core). (z, y) ≡ after_turn q (callee_for n.callee (map.get q.runs i)) n.id x x.wait) made follows
tells c k z i n x (Err e) made follows told = cc
