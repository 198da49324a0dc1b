-- How a service ends, by what served it.
use Rattle.beldi_row.specs.declared.table.Table.{Ghosts}
use Rattle.beldi_host.specs.{declared.host.Host.Host, HostCore.core_of}
use Rattle.beldi_session.specs.HostResponse.{responses_text}
use Rattle.beldi_serve.specs.{Desk.state_of, ServedConnections.Exchange, ServedConnections.Same, ServedConnections.Served, ServedConnections.ServedAll, ServedConnections.ServesBy, ServedConnections.Serving as Served_by, ServedConnections.World, ServedConnections.lines_from, ServedConnections.moment_of, ServedConnections.pruning, ServedConnections.responses_of, ServedConnections.sight as serve_sight, ServedConnections.tick_to, declared.connections.ServeErr.ServeErr}
use Rattle.beldi_serve.proofs.Leading.{leads_so, leads_then}
use Rattle.beldi_program.specs.{Serves.Lists, Serves.ServesHost, Service.Course, Service.ServedTo, Service.Service, Service.is_service_end, Service.listed_end, Service.served_end}
use Rattle.beldi_program.proofs.Names.{Connections, Core, Deployment, Does, Ended, Err, IsErrOf, IsStep, Leads, List, ListBook, ListTables, None, Ok, OnOk, Opened, Option, Response, Result, Rose, Rows, ServiceEnds, State, Stop, Observed, WentBy, Writes, [], ap, append-nil, append_assoc, arith, false≢true, inl, inr, opened_at, opened_core, refl, sight, subst, sym, told_map, told_same, told_tells, told_then, true, ℕ, ◌++◌, ◌∙◌, ◌∷◌, ◌≡◌, ◌≤◌}
use Rattle.beldi_program.specs.Hosted.{SessionsArePlainRuns}
use Rattle.beldi_program.proofs.Booking.{are_to, booked, booked_back, leads_to}

abbrev pub not_all : ServeErr → Result (Unit {0}) ServeErr
not_all why = Err why

abbrev served_all : Unit {0} → Result (Unit {0}) ServeErr
served_all x = Ok x

-- ---- the host's responses in all connections, one after another
module _ {C : Type 0} (tells : C → ℕ → C → Type 0) (d : Deployment) (room : ℕ) where
  one_leads : (v w : World C) (x : Exchange) → Served tells d room v w x → Leads (IsStep d room) x.responses v.state w.state
  one_leads v w x s = subst (λ ys. Leads (IsStep d room) ys v.state w.state) (sym s.responses)
      (leads_then (IsStep d room) s.ticks (s.asked ++ s.pruned) v.state s.mid w.state (leads_so (IsStep d room) s.ticks (tick_to v.state.core.now s.moment) [] v.state s.mid s.ticked)
      (leads_then (IsStep d room) s.asked s.pruned s.mid s.late w.state s.leads (leads_so (IsStep d room) s.pruned pruning [] s.late w.state s.prunes)))

  all_lead : (xs : List Exchange) (v w : World C) → ServedAll tells d room xs v w → Leads (IsStep d room) (responses_of xs) v.state w.state
  all_lead [] v w h = ap (λ (z : World C). z.state) h
  all_lead (x ∷ xs) v w h = leads_then (IsStep d room) x.responses (responses_of xs) v.state h.0.state w.state (one_leads v h.0 x h.1) (all_lead xs h.0 w h.2)

-- ---- by the ending
abbrev OfEnding : Type 0 → Type 1
OfEnding C = List Exchange → List Response → World C → Type 0

module _ {C : Type 0} (d : Deployment) (requests : ℕ) (link' : Option Connections) (written : List ℕ) (P Q : OfEnding C) (f : (xs : List Exchange) (ys : List Response) (last : World C) → P xs ys last → Q xs ys last) where
  served_map : (e : Ended) → ServedTo d requests link' written P e → ServedTo d requests link' written Q e
  served_map Ended.Done (xs, ys, last, len, are, text, link, p) = (xs, ys, last, len, are, text, link, f xs ys last p)
  served_map Ended.LinkRefused (xs, last, few, text, link, p) = (xs, last, few, text, link, f xs [] last p)
  served_map Ended.OutOfMemory (xs, ys, last, text, p) = (xs, ys, last, text, f xs ys last p)
  served_map Ended.SinkFault (xs, ys, last, text, p) = (xs, ys, last, text, f xs ys last p)
  served_map e h = absurd h

-- ---- over a host that is open
module _ {T : Type 0} {G : Ghosts T} {C : Type 0} (tells : C → ℕ → C → Type 0) (requests : ℕ) (h b : Host T G) (l0 l1 l2 : Option Connections) (c e : C) (listens : Same l0 l1) where
  abbrev Along : Rows → State → OfEnding C
  Along m t xs ys last = Course tells h.code (G.state h.table).room l0 c xs ys last (state_of h m) t

  abbrev start : Rows → World C
  start m = record { state = state_of h m; link = l1; clock = c }

  abbrev final : Rows → World C
  final n = record { state = state_of b n; link = l2; clock = e }

  same_link : (l : Option Connections) → Same l l
  same_link l = told_same (λ x y. y ≡ x) l (λ x. refl)

  -- it ended before all were served
  broke : (why : ServeErr) (m n : Rows) (written : List ℕ) → ServesBy tells h.code (G.state h.table).room {X = Unit {0}} requests written (start m) (final n) (Err why) → ServedTo h.code requests l2 written (Along m (state_of b n)) (served_end why)
  broke ServeErr.OutOfMemory m n written (xs, ys, u, text, all, leads) = (xs, ys, u, (responses_text h.code ys, ap (λ z. z ++ responses_text h.code ys) text), record { listening = l1; listens = listens; served = all; leads = leads })
  broke ServeErr.LinkRefused m n written (xs, u, few, text, all, stays) = (xs, u, inl few, text, stays.1, record { listening = l1; listens = listens; served = all; leads = stays.0 })
  broke ServeErr.SinkFault m n written (xs, front, all) = (xs, [], final n, (front.0, front.1 ∙ sym (append-nil (lines_from 1 xs))), record { listening = l1; listens = listens; served = all; leads = refl })

  -- all were served, and then the tables and the book listed
  listed_on : (a : Host T G) (r : Result (Unit {0}) Stop) (m n o : Rows) (w v q : List ℕ) → OnOk r (q ≡ []) → ServesBy tells h.code (G.state h.table).room {X = Unit {0}} requests w (start m) (final n) (Ok tt)
      → WentBy h.code (G.state h.table).room (ListTables ∷ ListBook ∷ []) [] (state_of b n) (state_of a o) [] v q r → ServedTo h.code requests l2 (w ++ v) (Along m (state_of a o)) (listed_end r)
  listed_on a (Ok u) m n o w v q empty (xs, len, text, all) went =
      let lines = ap (λ z. z ++ v) text ∙ ap (λ z. lines_from 1 xs ++ z) (sym (append-nil v) ∙ ap (λ z. v ++ z) (sym empty) ∙ went.text) in (
        xs,
        went.responses,
        final n,
        len,
        are_to h.code (G.state h.table).room went.responses (ListTables ∷ ListBook ∷ []) [] (state_of b n) (state_of a o) went.steps,
        lines,
        same_link l2,
        record { listening = l1; listens = listens; served = all; leads = leads_so (IsStep h.code (G.state h.table).room) went.responses (ListTables ∷ ListBook ∷ []) [] (state_of b n) (state_of a o) went.steps },
      )
  listed_on a (Err Stop.OutOfMemory) m n o w v q empty (xs, len, text, all) (more, rest, went) = (
    xs,
    went.responses,
    final n,
    (rest, append_assoc w v rest ∙ ap (λ z. w ++ z) went.text ∙ ap (λ z. z ++ responses_text h.code went.responses) text),
    record { listening = l1; listens = listens; served = all; leads = leads_so (IsStep h.code (G.state h.table).room) went.responses (ListTables ∷ ListBook ∷ []) more (state_of b n) (state_of a o) went.steps },
  )
  listed_on a (Err Stop.SinkFault) m n o w v q empty (xs, len, text, all) (more, rest, went) = (
    xs,
    went.responses,
    final n,
    (rest, append_assoc w v rest ∙ ap (λ z. w ++ z) went.text ∙ ap (λ z. z ++ responses_text h.code went.responses) text),
    record { listening = l1; listens = listens; served = all; leads = leads_so (IsStep h.code (G.state h.table).room) went.responses (ListTables ∷ ListBook ∷ []) more (state_of b n) (state_of a o) went.steps },
  )

-- ---- the parts of a service
-- the listings
pub lists : {K T : Type 0} {G : Ghosts T} (held : K → Option (List ℕ)) (faults : K → ℕ) (host after : Host T G) (k k' : K) (t' : T) (e : Ended) (none waiting : List ℕ) (r : Result (Unit {0}) Stop) → none ≡ [] → t' ≡ after.table → OnOk r (waiting ≡ [])
    → Does (ListTables ∷ ListBook ∷ []) (sight host none (held k) (faults k)) (sight after waiting (held k') (faults k')) r → e ≡ listed_end r → Lists held faults host k k' t' e
lists held faults host after k k' t' e none waiting r is table empty does ends = record {
  after = after;
  table = table;
  waiting = waiting;
  listed = r;
  empty = empty;
  does = subst (λ z. Does (ListTables ∷ ListBook ∷ []) (sight host z (held k) (faults k)) (sight after waiting (held k') (faults k')) r) is does;
  ends = ends;
}

module _ {K T : Type 0} {G : Ghosts T} {C : Type 0} (held : K → Option (List ℕ)) (faults : K → ℕ) (tells : C → ℕ → C → Type 0) (host : Host T G) (requests : ℕ) (c : C) where
  abbrev Goal : (l l' : Option Connections) (refused : Type 0) (k k' : K) (t' : T) (e : Ended) → Type 0
  Goal l l' refused k k' t' e = ServesHost held faults tells host requests l l' c refused k k' t' e

  -- what served it, with the names that the parts have for the host before and after
  pub served_over : (h b' b : Host T G) (l1 l2 : Option Connections) (e : C) (k k' : K) (r : Result (Unit {0}) ServeErr) → h ≡ host → b ≡ b' → Served_by tells requests (serve_sight h l1 c) (serve_sight b' l2 e) (held k) (held k') r
      → Served_by tells requests (serve_sight host l1 c) (serve_sight b l2 e) (held k) (held k') r
  served_over h b' b l1 l2 e k k' r first last s = subst (λ (z : Host T G). Served_by tells requests (serve_sight host l1 c) (serve_sight z l2 e) (held k) (held k') r) (sym last)
      (subst (λ (z : Host T G). Served_by tells requests (serve_sight z l1 c) (serve_sight b' l2 e) (held k) (held k') r) first s)

  -- the link did not listen, so no connection was served
  unserved : (l l' : Option Connections) (refused : Type 0) (k : K) (t' : T) (e : Ended) → t' ≡ host.table → ((m : Rows) → ServedTo host.code requests l' [] (λ xs ys last. Course tells host.code (G.state host.table).room l c xs ys last (state_of host m) (record { core = core_of host; rows = m; faults = (G.state host.table).faults })) e)
      → (e ≡ Ended.SinkFault → ⊥) → (e ≡ Ended.LinkRefused → refused) → is_service_end e ≡ true → Goal l l' refused k k t' e
  unserved l l' refused k t' e is none no_fault refusal ends = record {
    written = [];
    sink = told_same (λ a b. b ≡ a ++ []) (held k) (λ a. sym (append-nil a));
    went = subst (λ (x : T). Observed (G.state host.table).rows (G.state x).rows (λ m n. (core : Core) × ServedTo host.code requests l' [] (λ xs ys last. Course tells host.code (G.state host.table).room l c xs ys last (state_of host m) (record { core = core; rows = n; faults = (G.state x).faults })) e)) (sym is)
        (told_same (λ m n. (core : Core) × ServedTo host.code requests l' [] (λ xs ys last. Course tells host.code (G.state host.table).room l c xs ys last (state_of host m) (record { core = core; rows = n; faults = (G.state host.table).faults })) e) (G.state host.table).rows
        (λ m. (core_of host, none m)));
    fault = λ e. absurd (no_fault e);
    refusal = refusal;
    ends = ends;
  }

  -- .. and went nowhere
  nowhere : (l l' : Option Connections) → Same l l' → (m : Rows) → Course tells host.code (G.state host.table).room l c [] [] (record { state = state_of host m; link = l'; clock = c }) (state_of host m) (record { core = core_of host; rows = m; faults = (G.state host.table).faults })
  nowhere l l' same m = record { listening = l'; listens = same; served = refl; leads = refl }

  pub not_listening : (l l' : Option Connections) (refused : Type 0) (k : K) (t' : T) → Same l l' → t' ≡ host.table → refused → Goal l l' refused k k t' Ended.LinkRefused
  not_listening l l' refused k t' same is h =
      unserved l l' refused k t' Ended.LinkRefused is (λ m. ([], record { state = state_of host m; link = l'; clock = c }, inr refl, refl, told_same (λ x y. y ≡ x) l' (λ x. refl), nowhere l l' same m)) (λ e. cc) (λ e. h) refl

  -- memory was short for it
  pub short_for_port : (l l' : Option Connections) (refused : Type 0) (k : K) (t' : T) → Same l l' → t' ≡ host.table → Goal l l' refused k k t' Ended.OutOfMemory
  short_for_port l l' refused k t' same is =
      unserved l l' refused k t' Ended.OutOfMemory is (λ m. ([], [], record { state = state_of host m; link = l'; clock = c }, ([], refl), nowhere l l' same m)) (λ e. cc) (λ e. cc) refl

  -- it ended before all connections were served
  pub service_broke : (b : Host T G) (l0 l1 l2 : Option Connections) (e : C) (refused : Type 0) (k k' : K) (t' : T) (why : ServeErr) → Same l0 l1 → t' ≡ b.table → Served_by {X = Unit {0}} tells requests (serve_sight host l1 c) (serve_sight b l2 e) (held k) (held k') (Err why)
      → (why ≡ ServeErr.SinkFault → Rose (faults k) (faults k')) → (why ≡ ServeErr.LinkRefused → refused) → Goal l0 l2 refused k k' t' (served_end why)
  service_broke b l0 l1 l2 e refused k k' t' why same is s fault refusal = record {
    written = s.written;
    sink = s.sink;
    went = subst (λ (x : T). Observed (G.state host.table).rows (G.state x).rows (λ m n. (core : Core) × ServedTo host.code requests l2 s.written (λ xs ys last. Course tells host.code (G.state host.table).room l0 c xs ys last (state_of host m) (record { core = core; rows = n; faults = (G.state x).faults })) (served_end why))) (sym is)
        (told_map {P = λ m n. ServesBy tells host.code (G.state host.table).room {X = Unit {0}} requests s.written (start tells requests host b l0 l1 l2 c e same m) (final tells requests host b l0 l1 l2 c e same n) (Err why)}
        {Q = λ m n. (core : Core) × ServedTo host.code requests l2 s.written (λ xs ys last. Course tells host.code (G.state host.table).room l0 c xs ys last (state_of host m) (record { core = core; rows = n; faults = (G.state b.table).faults })) (served_end why)} (G.state host.table).rows (G.state b.table).rows
        (λ m n w. (core_of b, broke tells requests host b l0 l1 l2 c e same why m n s.written w)) s.passes.went);
    fault = λ is. fault (sink_why why is);
    refusal = λ is. refusal (link_why why is);
    ends = served_ends why;
  }
    where
      sink_why : (why : ServeErr) → served_end why ≡ Ended.SinkFault → why ≡ ServeErr.SinkFault
      sink_why ServeErr.OutOfMemory h = cc
      sink_why ServeErr.SinkFault h = refl
      sink_why ServeErr.LinkRefused h = cc

      link_why : (why : ServeErr) → served_end why ≡ Ended.LinkRefused → why ≡ ServeErr.LinkRefused
      link_why ServeErr.OutOfMemory h = cc
      link_why ServeErr.SinkFault h = cc
      link_why ServeErr.LinkRefused h = refl

      served_ends : (why : ServeErr) → is_service_end (served_end why) ≡ true
      served_ends ServeErr.OutOfMemory = refl
      served_ends ServeErr.SinkFault = refl
      served_ends ServeErr.LinkRefused = refl

  -- all were served
  pub service_listed : (b : Host T G) (l0 l1 l2 : Option Connections) (e : C) (refused : Type 0) (k k' k'' : K) (t' : T) (end : Ended) → Same l0 l1 → Served_by tells requests (serve_sight host l1 c) (serve_sight b l2 e) (held k) (held k') (served_all tt) → faults k ≤ faults k'
      → Lists held faults b k' k'' t' end → Goal l0 l2 refused k k'' t' end
  service_listed b l0 l1 l2 e refused k k' k'' t' end same s later x = subst (Goal l0 l2 refused k k'' t') (sym x.ends) (record {
    written = s.written ++ x.does.written;
    sink = told_then {P = λ a j. j ≡ a ++ s.written} {Q = λ a j. j ≡ a ++ x.does.written} {R = λ a j. j ≡ a ++ (s.written ++ x.does.written)} (held k) (held k') (held k'') (λ a j i v w. w ∙ ap (λ z. z ++ x.does.written) v ∙ append_assoc a s.written x.does.written) s.sink x.does.sink;
    went = subst (λ (y : T). Observed (G.state host.table).rows (G.state y).rows (λ m n. (core : Core) × ServedTo host.code requests l2 (s.written ++ x.does.written) (λ xs ys last. Course tells host.code (G.state host.table).room l0 c xs ys last (state_of host m) (record { core = core; rows = n; faults = (G.state y).faults })) (listed_end x.listed))) (sym x.table)
        (told_then {P = λ m n. ServesBy tells host.code (G.state host.table).room requests s.written (start tells requests host b l0 l1 l2 c e same m) (final tells requests host b l0 l1 l2 c e same n) (served_all tt)}
        {Q = λ m n. WentBy b.code (G.state b.table).room (ListTables ∷ ListBook ∷ []) [] (state_of b m) (state_of x.after n) [] x.does.written x.waiting x.listed}
        {R = λ m n. (core : Core) × ServedTo host.code requests l2 (s.written ++ x.does.written) (λ xs ys last. Course tells host.code (G.state host.table).room l0 c xs ys last (state_of host m) (record { core = core; rows = n; faults = (G.state x.after.table).faults })) (listed_end x.listed)}
        (G.state host.table).rows (G.state b.table).rows (G.state x.after.table).rows
        (λ m n o p q. (
          core_of x.after,
          listed_on tells requests host b l0 l1 l2 c e same x.after x.listed m n o s.written x.does.written x.waiting x.empty p
              (subst (λ (d : Deployment). WentBy d (G.state host.table).room (ListTables ∷ ListBook ∷ []) [] (state_of b n) (state_of x.after o) [] x.does.written x.waiting x.listed) s.passes.code
              (subst (λ (z : ℕ). WentBy b.code z (ListTables ∷ ListBook ∷ []) [] (state_of b n) (state_of x.after o) [] x.does.written x.waiting x.listed) s.passes.room q)),
        )) s.passes.went x.does.went);
    fault = λ is. let more = x.does.fault (stop_why x.listed is) in omega (arith, later, more);
    refusal = λ is. absurd (no_link x.listed is);
    ends = listed_ends x.listed;
  })
    where
      stop_why : (r : Result (Unit {0}) Stop) → listed_end r ≡ Ended.SinkFault → IsErrOf r Stop.SinkFault
      stop_why (Ok u) h = cc
      stop_why (Err Stop.OutOfMemory) h = cc
      stop_why (Err Stop.SinkFault) h = refl

      no_link : (r : Result (Unit {0}) Stop) → listed_end r ≡ Ended.LinkRefused → ⊥
      no_link (Ok u) h = cc
      no_link (Err Stop.OutOfMemory) h = cc
      no_link (Err Stop.SinkFault) h = cc

      listed_ends : (r : Result (Unit {0}) Stop) → is_service_end (listed_end r) ≡ true
      listed_ends (Ok u) = refl
      listed_ends (Err Stop.OutOfMemory) = refl
      listed_ends (Err Stop.SinkFault) = refl

-- ---- over the table that was handed in
module _ (plain_runs : SessionsArePlainRuns) {K T : Type 0} {G : Ghosts T} {C : Type 0} (held : K → Option (List ℕ)) (faults : K → ℕ) (tells : C → ℕ → C → Type 0) (d : Deployment) (requests : ℕ) (t : T) (host : Host T G) (l l' : Option Connections) (c0 c : C) (moment : ℕ) (told : tells c0 moment c) (refused : Type 0)
    (o : Opened d host.code (moment_of moment) (G.state t) (G.state host.table) (core_of host)) where
  -- over no rows it is a run without crashes
  served_so : (m : Rows) (n : Rows) (core : Core) (g : ℕ) (xs : List Exchange) (ys : List Response) (last : World C) → Course tells d d.room l c xs ys last (opened_at m (moment_of moment) (G.state host.table).faults) (record { core = core; rows = n; faults = g })
      → Service tells d m n (G.state t).faults g l c0 xs ys last
  served_so m n core g xs ys last course =
      let s = opened_at m (moment_of moment) (G.state host.table).faults in
      let e : State = record { core = core; rows = n; faults = g } in
      let all = leads_then (IsStep d d.room) (responses_of xs) ys s last.state e (all_lead tells d d.room xs (record { state = s; link = course.listening; clock = c }) last course.served) course.leads in
      let zs = booked d None (responses_of xs ++ ys) s e all in
      let to = leads_to d None (responses_of xs ++ ys) s e all in
      record {
        moment = moment;
        opening = c;
        told = told;
        opened = (G.state host.table).faults;
        sooner = o.later;
        core = core;
        course = course;
        booked = zs;
        are = booked_back d None (responses_of xs ++ ys) s e all;
        steps = to;
        plain = (plain_runs d zs m (moment_of moment) (G.state host.table).faults e to).0;
        joins = λ base gone left. ((plain_runs d zs m (moment_of moment) (G.state host.table).faults e to).1 base gone left).0;
      }

  opened_so : (m k : Rows) → (k ≡ m) × (core_of host ≡ opened_core m (moment_of moment)) → state_of host k ≡ opened_at m (moment_of moment) (G.state host.table).faults
  opened_so m k v = λ j. record { core = v.1 j; rows = v.0 j; faults = (G.state host.table).faults }

  ran : (k k' : K) (t' : T) (e : Ended) → ServesHost held faults tells host requests l l' c refused k k' t' e
      → (w : List ℕ) × Writes (held k) (held k') w × Observed (G.state t).rows (G.state t').rows (λ m n. ServedTo d requests l' w (Service tells d m n (G.state t).faults (G.state t').faults l c0) e)
  ran k k' t' e x = (
    x.written,
    x.sink,
    told_then {P = λ m n. (n ≡ m) × (core_of host ≡ opened_core m (moment_of moment))}
        {Q = λ m n. (core : Core) × ServedTo host.code requests l' x.written (λ xs ys last. Course tells host.code (G.state host.table).room l c xs ys last (state_of host m) (record { core = core; rows = n; faults = (G.state t').faults })) e}
        {R = λ m n. ServedTo d requests l' x.written (Service tells d m n (G.state t).faults (G.state t').faults l c0) e}
        (G.state t).rows (G.state host.table).rows (G.state t').rows
        (λ m k n v w. served_map d requests l' x.written (λ xs ys last. Course tells d d.room l c xs ys last (opened_at m (moment_of moment) (G.state host.table).faults) (record { core = w.0; rows = n; faults = (G.state t').faults })) (Service tells d m n (G.state t).faults (G.state t').faults l c0)
        (λ xs ys last. served_so m n w.0 (G.state t').faults xs ys last) e
        (subst (λ (s : State). ServedTo d requests l' x.written (λ xs ys last. Course tells d d.room l c xs ys last s (record { core = w.0; rows = n; faults = (G.state t').faults })) e) (opened_so m k v)
        (subst (λ (z : ℕ). ServedTo d requests l' x.written (λ xs ys last. Course tells d z l c xs ys last (state_of host k) (record { core = w.0; rows = n; faults = (G.state t').faults })) e) o.room_set
        (subst (λ (z : Deployment). ServedTo z requests l' x.written (λ xs ys last. Course tells z (G.state host.table).room l c xs ys last (state_of host k) (record { core = w.0; rows = n; faults = (G.state t').faults })) e) o.code_kept w.1))))
        (told_tells (G.state t).rows (G.state host.table).rows (λ m n. (n ≡ m) × (core_of host ≡ opened_core m (moment_of moment))) o.rows) x.went,
  )

  pub service_ends : (k k' : K) (t' : T) (e : Ended) → ServesHost held faults tells host requests l l' c refused k k' t' e → ServiceEnds held faults G.state tells l l' c0 refused d requests k k' t t' e
  service_ends k k' t' Ended.Done x = ran k k' t' Ended.Done x
  service_ends k k' t' Ended.LinkRefused x = (x.refusal refl, ran k k' t' Ended.LinkRefused x)
  service_ends k k' t' Ended.OutOfMemory x = inr (ran k k' t' Ended.OutOfMemory x)
  service_ends k k' t' Ended.SinkFault x = (x.fault refl, ran k k' t' Ended.SinkFault x)
  service_ends k k' t' e x = absurd (false≢true x.ends)
