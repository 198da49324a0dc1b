-- Connections one after another.
use Rattle.std.proofs.Common.{Err, List, Ok, Option, Result, [], ap, append-nil, append_assoc, arith, inl, inr, length, length-append, refl, subst, sym, ℕ, ◌++◌, ◌+◌, ◌<◌, ◌∙◌, ◌∷◌, ◌≡◌}
use Rattle.std.specs.declared.alloc.AllocError.{AllocError}
use Rattle.beldi_tree.specs.declared.deployment.Deployment.{Deployment}
use Rattle.beldi_check.specs.Rules.{number_of}
use Rattle.beldi_row.specs.{declared.table.Table.Ghosts}
use Rattle.beldi_host.specs.{declared.host.Host.Host}
use Rattle.beldi_outside.{proofs.Observed.told_map, proofs.Observed.told_same, proofs.Observed.told_then, specs.Connection.AcceptOn, specs.Connection.Connections, specs.Connection.closed, specs.Outside.Observed, specs.declared.traits.Failed.Failed}
use Rattle.beldi_schedule.specs.Settles.{State}
use Rattle.beldi_session.specs.{HostResponse.Response, Session.IsStep, Session.Leads}
use Rattle.beldi_gateway.specs.{declared.response.Refusal.Refusal, declared.response.Response.Response as Reply, declared.serve.Served.Served as Ended, declared.serve.Served.TheVariants.Status, declared.serve.Served.TheVariants.Silent, declared.serve.Served.TheVariants.Fault, Exchange.Exchanges, Exchange.Question, Serve.Answered, Serve.Broken, Serve.Serves, Serve.Whole}
use Rattle.beldi_serve.specs.{Desk.Comes, Desk.Consults, Desk.Passed, Desk.Replies, Desk.HostRelation, Desk.state_of, declared.desk.HostDesk.HostDesk, declared.connections.ServeErr.ServeErr}
use Rattle.beldi_serve.specs.ServedConnections.{ConnectsBy, Exchange, LineBy, Passes, Served, ServedAll, ServesBy, Sight, Ticks, World, ended_so, line_of, lines_from, pruning, sight, tick_to, world_at}
use Rattle.beldi_serve.proofs.Leading.{leads_so, leads_then}
use Rattle.beldi_serve.proofs.Coming.{comes_map, comes_then, lost, none_lost}

abbrev pub connects : Ended → Result Ended ServeErr
connects x = Ok x

abbrev accepted : Result (Unit {0}) Failed
accepted = Ok (record {})

abbrev pub not_connected : ServeErr → Result Ended ServeErr
not_connected e = Err e

abbrev pub not_served : (X : Type 0) → ServeErr → Result X ServeErr
not_served X e = Err e

abbrev pub all_told : {X : Type 0} → X → Result X ServeErr
all_told x = Ok x

abbrev short_so : AllocError → Result Ended AllocError
short_so w = Err w

abbrev Led : HostRelation
Led d room s u = (ys : List Response) × Leads (IsStep d room) ys s u

-- ---- one exchange, by the steps of the host
module _ {T : Type 0} {G : Ghosts T} where
  pub comes_same : {P : HostRelation} (a b : Host T G) → b ≡ a → ((d : Deployment) (room : ℕ) (s : State) → P d room s s) → Comes P a b
  comes_same {P} a b same f = subst (Comes P a) (sym same) (record {
    code = refl;
    room = refl;
    later = omega arith;
    went = told_same (λ m n. P a.code (G.state a.table).room (state_of a m) (state_of a n)) (G.state a.table).rows (λ m. f a.code (G.state a.table).room (state_of a m));
  })

  -- .. where the deployment is known
  comes_so : {P Q : HostRelation} {a b : Host T G} (k : Deployment) → ((d : Deployment) (room : ℕ) (s t : State) → P d room s t → d ≡ k → Q d room s t) → a.code ≡ k → Comes P a b → Comes Q a b
  comes_so {P} {Q} {a} {b} k f is h = record {
    code = h.code;
    room = h.room;
    later = h.later;
    went = told_map {P = λ m n. P a.code (G.state a.table).room (state_of a m) (state_of b n)} {Q = λ m n. Q a.code (G.state a.table).room (state_of a m) (state_of b n)} (G.state a.table).rows (G.state b.table).rows (λ m n p. f a.code (G.state a.table).room (state_of a m) (state_of b n) p is) h.went;
  }

  abbrev Keeps : HostDesk T G → Question → Reply → HostDesk T G → Type 0
  Keeps d q x e = Comes (Replies q x) d.host e.host

  answered_comes : (comes : Result Question Refusal) (a b : HostDesk T G) (x : Reply) → Answered Keeps comes a x b → Comes (λ d room s t. (ys : List Response) × Leads (IsStep d room) ys s t × Answered (Consults d room ys) comes s x t) a.host b.host
  answered_comes (Err r) a b x h = comes_same a.host b.host (ap (λ (z : HostDesk T G). z.host) h.1) (λ d room s. ([], refl, (h.0, refl)))
  answered_comes (Ok q) a b x h = comes_map {P = Replies q x} {Q = λ d room s t. (ys : List Response) × Leads (IsStep d room) ys s t × Consults d room ys s q x t} {a = a.host} {b = b.host} (λ d room s t says. let k = says.1.answers in (says.0, leads_so (IsStep d room) says.0 says.1.actions k.more s t k.steps, says.1)) h

  module _ (a b : HostDesk T G) (old new : Option Connections) where
    abbrev funcs : List ℕ → Option ℕ
    funcs = number_of a.host.code.funcs

    abbrev Exchanged : Result Ended AllocError → HostRelation
    Exchanged r d room s t = (ys : List Response) × Leads (IsStep d room) ys s t × Serves (number_of d.funcs) (Consults d room ys) s t old new r

    -- time passed, and there was one exchange
    abbrev Connecting : ℕ → Ended → HostRelation
    Connecting moment x d room s u = (mid : State) × (Ticks moment (none_lost tt) d room s mid × Exchanged (ended_so x) d room mid u)

    -- .. and then the log collector had its turns
    abbrev Connection : ℕ → Ended → HostRelation
    Connection moment x d room s u = (late : State) × (Connecting moment x d room s late × Passed pruning (none_lost tt) d room late u)

    whole_comes : (n : ℕ) → Whole funcs Keeps a b old new n → Comes (λ d room s t. (ys : List Response) × Leads (IsStep d room) ys s t × Whole (number_of d.funcs) (Consults d room ys) s t old new n) a.host b.host
    whole_comes n w = comes_so a.host.code (λ d room s t h is. (
      h.0,
      h.1,
      record {
        took = w.took;
        some = w.some;
        response = w.response;
        decided = record { comes = w.decided.comes; exchange = subst (λ (z : Deployment). Exchanges (number_of z.funcs) w.took w.decided.comes) (sym is) w.decided.exchange; ends = w.decided.ends; answered = h.2 };
        is = w.is;
        moves = w.moves;
      },
    )) refl (answered_comes w.decided.comes a b w.response w.decided.answered)

    broken_comes : Broken funcs Keeps a b old new → Comes (λ d room s t. (ys : List Response) × Leads (IsStep d room) ys s t × Broken (number_of d.funcs) (Consults d room ys) s t old new) a.host b.host
    broken_comes (inl u) = comes_same a.host b.host (ap (λ (z : HostDesk T G). z.host) u.same) (λ d room s. ([], refl, inl (record { took = u.took; same = refl; moves = u.moves })))
    broken_comes (inr w) = comes_so a.host.code (λ d room s t h is. (
      h.0,
      h.1,
      inr (record {
        took = w.took;
        wrote = w.wrote;
        response = w.response;
        decided = record { comes = w.decided.comes; exchange = subst (λ (z : Deployment). Exchanges (number_of z.funcs) w.took w.decided.comes) (sym is) w.decided.exchange; ends = w.decided.ends; answered = h.2 };
        front = w.front;
        moves = w.moves;
      }),
    )) refl (answered_comes w.decided.comes a b w.response w.decided.answered)

    pub exchange_comes : (r : Result Ended AllocError) → Serves funcs Keeps a b old new r → Comes (Exchanged r) a.host b.host
    exchange_comes (Ok (Status n)) h = whole_comes n h
    exchange_comes (Ok Silent) h = comes_same a.host b.host (ap (λ (z : HostDesk T G). z.host) h.0) (λ d room s. ([], refl, (refl, h.1, h.2)))
    exchange_comes (Ok Fault) h = broken_comes h
    exchange_comes (Err e) h = broken_comes h

-- ---- from one sight to another
module _ {T : Type 0} {G : Ghosts T} {C : Type 0} where
  pub passes_by : {P : Deployment → ℕ → World C → World C → Type 0} {Q : HostRelation} {a b : Host T G} (l m : Option Connections) (c e : C)
      → ((d : Deployment) (room : ℕ) (s t : State) → Q d room s t → P d room (record { state = s; link = l; clock = c }) (record { state = t; link = m; clock = e })) → Comes Q a b → Passes P (sight a l c) (sight b m e)
  passes_by {P} {Q} {a} {b} l m c e f h = record {
    code = h.code;
    room = h.room;
    later = h.later;
    went = told_map {P = λ m n. Q a.code (G.state a.table).room (state_of a m) (state_of b n)} {Q = λ m' n. P a.code (G.state a.table).room (world_at (sight a l c) m') (world_at (sight b m e) n)} (G.state a.table).rows (G.state b.table).rows
        (λ m' n q. f a.code (G.state a.table).room (state_of a m') (state_of b n) q) h.went;
  }

abbrev pub Worlds : Type 0 → Type 1
Worlds C = Deployment → ℕ → World C → World C → Type 0

module _ {C : Type 0} where
  pub passes_map : {P Q : Worlds C} {a b : Sight C} → ((d : Deployment) (room : ℕ) (v w : World C) → P d room v w → Q d room v w) → Passes P a b → Passes Q a b
  passes_map {P} {Q} {a} {b} f h = record {
    code = h.code;
    room = h.room;
    later = h.later;
    went = told_map {P = λ m n. P a.code a.table.room (world_at a m) (world_at b n)} {Q = λ m n. Q a.code a.table.room (world_at a m) (world_at b n)} a.table.rows b.table.rows (λ m n p. f a.code a.table.room (world_at a m) (world_at b n) p) h.went;
  }

  pub passes_then : {P Q R : Worlds C} {a b c : Sight C} → ((d : Deployment) (room : ℕ) (u v w : World C) → P d room u v → Q d room v w → R d room u w) → Passes P a b → Passes Q b c → Passes R a c
  passes_then {P} {Q} {R} {a} {b} {c} f h k = record {
    code = k.code ∙ h.code;
    room = k.room ∙ h.room;
    later = omega (arith, h.later, k.later);
    went = told_then {P = λ m n. P a.code a.table.room (world_at a m) (world_at b n)} {Q = λ m n. Q b.code b.table.room (world_at b m) (world_at c n)} {R = λ m n. R a.code a.table.room (world_at a m) (world_at c n)} a.table.rows b.table.rows c.table.rows
        (λ m n o p q. f a.code a.table.room (world_at a m) (world_at b n) (world_at c o) p (subst (λ (z : Deployment). Q z a.table.room (world_at b n) (world_at c o)) h.code (subst (λ (z : ℕ). Q b.code z (world_at b n) (world_at c o)) h.room q))) h.went k.went;
  }

  pub passes_nothing : {P : Worlds C} (a : Sight C) → ((d : Deployment) (room : ℕ) (v : World C) → P d room v v) → Passes P a a
  passes_nothing {P} a f = record {
    code = refl;
    room = refl;
    later = omega arith;
    went = told_same (λ m n. P a.code a.table.room (world_at a m) (world_at a n)) a.table.rows (λ m. f a.code a.table.room (world_at a m));
  }

-- ---- a connection more
module _ {C : Type 0} (tells : C → ℕ → C → Type 0) (d : Deployment) (room : ℕ) where
  pub served_on : (xs : List Exchange) (x : Exchange) (u v w : World C) → ServedAll tells d room xs u v → Served tells d room v w x → ServedAll tells d room (xs ++ x ∷ []) u w
  served_on [] x u v w h one = subst (λ z. ServedAll tells d room (x ∷ []) z w) h (w, one, refl)
  served_on (y ∷ xs) x u v w h one = (h.0, h.1, served_on xs x h.0 v w h.2 one)

pub line_last : (n : ℕ) (xs : List Exchange) (x : Exchange) → lines_from n (xs ++ x ∷ []) ≡ lines_from n xs ++ line_of (n + length xs) x.ended
line_last n [] x = append-nil (line_of n x.ended) ∙ ap (λ k. line_of k x.ended) (omega arith)
line_last n (y ∷ xs) x = ap (λ z. line_of n y.ended ++ z) (line_last (n + 1) xs x) ∙ sym (append_assoc (line_of n y.ended) (lines_from (n + 1) xs) (line_of (n + 1 + length xs) x.ended)) ∙ ap (λ k. line_of n y.ended ++ lines_from (n + 1) xs ++ line_of k x.ended) (omega arith)

-- ---- a connection
module _ {T : Type 0} {G : Ghosts T} {C : Type 0} (tells : C → ℕ → C → Type 0) where
  abbrev Serving : HostDesk T G → HostDesk T G → Option Connections → Option Connections → Result Ended AllocError → Type 0
  Serving a b l1 l2 r = Serves (number_of a.host.code.funcs) (λ d q x e. Comes (Replies q x) d.host e.host) a b l1 l2 r

  -- time passed, there was one exchange, and then the log collector had its turns
  pub connected : (h : Host T G) (a b : HostDesk T G) (f : Host T G) (l0 l1 l2 l3 : Option Connections) (c e : C) (moment : ℕ) (x : Ended) → Observed l0 l1 (AcceptOn accepted) → tells c moment e → Comes (Ticks moment (none_lost tt)) h a.host
      → Serving a b l1 l2 (ended_so x) → Observed l2 l3 (λ s t. t ≡ closed s) → Comes (Passed pruning (none_lost tt)) b.host f → Passes (λ d room v w. ConnectsBy tells d room v w (connects x)) (sight h l0 c) (sight f l3 e)
  connected h a b f l0 l1 l2 l3 c e moment x opened told ticks serves closes turns =
      passes_by {P = λ d room v w. ConnectsBy tells d room v w (connects x)} {Q = Connection a b l1 l2 moment x} {a = h} {b = f} l0 l3 c e (λ d room s u k. let w = k.1.0 in (
        w.1.0.0 ++ (w.1.1.0 ++ k.1.1.0),
        record {
          opened = l1;
          accepted = opened;
          moment = moment;
          told = told;
          ticks = w.1.0.0;
          mid = w.0;
          ticked = w.1.0.1;
          asked = w.1.1.0;
          late = k.0;
          leads = w.1.1.1;
          ended = l2;
          exchange = w.1.1.2;
          closes = closes;
          pruned = k.1.1.0;
          prunes = k.1.1.1;
          responses = refl;
        },
      )) (comes_then {P = Connecting a b l1 l2 moment x} {Q = Passed pruning (none_lost tt)} {R = Connection a b l1 l2 moment x} (λ d room s t u p q. (t, (p, q)))
      (comes_then {P = Ticks moment (none_lost tt)} {Q = Exchanged a b l1 l2 (ended_so x)} {R = Connecting a b l1 l2 moment x} (λ d room s t u p q. (t, (p, q))) ticks (exchange_comes a b l1 l2 (ended_so x) serves)) turns)

  -- it leads on, whatever came of the exchange
  exchange_leads : (h : Host T G) (a b : HostDesk T G) (l1 l2 : Option Connections) (moment : ℕ) (r : Result Ended AllocError) → Comes (Ticks moment (none_lost tt)) h a.host → Serving a b l1 l2 r → Comes Led h b.host
  exchange_leads h a b l1 l2 moment r ticks serves =
      comes_then {P = Ticks moment (none_lost tt)} {Q = Exchanged a b l1 l2 r} {R = Led} (λ d room s t u p q. (p.0 ++ q.0, leads_then (IsStep d room) p.0 q.0 s t u (leads_so (IsStep d room) p.0 (tick_to s.core.now moment) [] s t p.1) q.1)) ticks (exchange_comes a b l1 l2 r serves)

  -- memory was short in the exchange, or as time passed
  pub connect_short : (h : Host T G) (a b : HostDesk T G) (l0 l1 l2 : Option Connections) (c e : C) (moment : ℕ) (w : AllocError) → Comes (Ticks moment (none_lost tt)) h a.host
      → Serving a b l1 l2 (short_so w) → Passes (λ d room v w. ConnectsBy tells d room v w (not_connected ServeErr.OutOfMemory)) (sight h l0 c) (sight b.host l2 e)
  connect_short h a b l0 l1 l2 c e moment w ticks serves =
      passes_by {P = λ d room v w. ConnectsBy tells d room v w (not_connected ServeErr.OutOfMemory)} {Q = Led} {a = h} {b = b.host} l0 l2 c e (λ d room s u k. k) (exchange_leads h a b l1 l2 moment (short_so w) ticks serves)

  -- .. or in one of the turns that follow
  pub prune_short : (h : Host T G) (a b : HostDesk T G) (f : Host T G) (l0 l1 l2 l3 : Option Connections) (c e : C) (moment : ℕ) (x : Ended) (w : AllocError) → Comes (Ticks moment (none_lost tt)) h a.host
      → Serving a b l1 l2 (ended_so x) → Comes (Passed pruning (lost w)) b.host f → Passes (λ d room v w. ConnectsBy tells d room v w (not_connected ServeErr.OutOfMemory)) (sight h l0 c) (sight f l3 e)
  prune_short h a b f l0 l1 l2 l3 c e moment x w ticks serves turns =
      passes_by {P = λ d room v w. ConnectsBy tells d room v w (not_connected ServeErr.OutOfMemory)} {Q = Led} {a = h} {b = f} l0 l3 c e (λ d room s u k. k)
      (comes_then {P = Led} {Q = Passed pruning (lost w)} {R = Led} (λ d room s t u p q. (p.0 ++ q.0, leads_then (IsStep d room) p.0 q.0 s t u p.1 q.1)) (exchange_leads h a b l1 l2 moment (ended_so x) ticks serves) turns)

  pub tick_short : (a b : Host T G) (l0 l1 : Option Connections) (c e : C) (moment : ℕ) (w : AllocError) → Comes (Ticks moment (lost w)) a b → Passes (λ d room v w. ConnectsBy tells d room v w (not_connected ServeErr.OutOfMemory)) (sight a l0 c) (sight b l1 e)
  tick_short a b l0 l1 c e moment w = passes_by {P = λ d room v w. ConnectsBy tells d room v w (not_connected ServeErr.OutOfMemory)} {Q = Ticks moment (lost w)} l0 l1 c e (λ d room s u k. k)

-- ---- connections that were served, with their lines
module _ {C : Type 0} (tells : C → ℕ → C → Type 0) where
  abbrev pub SoFar : ℕ → List ℕ → Worlds C
  SoFar n written d room v w = (xs : List Exchange) × (length xs ≡ n) × (written ≡ lines_from 1 xs) × ServedAll tells d room xs v w

  pub none_yet : (a : Sight C) → Passes (SoFar 0 []) a a
  none_yet a = passes_nothing a (λ d room v. ([], refl, refl, refl))

  abbrev One : Ended → Worlds C
  One x d room v w = ConnectsBy tells d room v w (connects x)

  -- one more
  pub one_more : {a b c : Sight C} (n : ℕ) (written : List ℕ) (x : Ended) → Passes (SoFar n written) a b → Passes (One x) b c → Passes (SoFar (n + 1) (written ++ line_of (n + 1) x)) a c
  one_more n written x = passes_then (λ d room u v w far one. let y : Exchange = record { ended = x; responses = one.0 } in (
    far.0 ++ y ∷ [],
    length-append far.0 (y ∷ []) ∙ ap (λ z. z + 1) far.1,
    ap (λ z. z ++ line_of (n + 1) x) far.2 ∙ ap (λ z. lines_from 1 far.0 ++ line_of z x) (omega (arith, far.1)) ∙ sym (line_last 1 far.0 y),
    served_on tells d room far.0 y u v w far.3 one.1,
  ))

  -- it ends before
  pub broken_off : (X : Type 0) {a b c : Sight C} (requests n : ℕ) (written : List ℕ) (e : ServeErr) → n < requests → Passes (SoFar n written) a b → Passes (λ d room v w. ConnectsBy tells d room v w (not_connected e)) b c → Passes (λ d room v w. ServesBy tells d room requests written v w (not_served X e)) a c
  broken_off X requests n written e few = passes_then (λ d room u v w far one. by_cause e d room u v w far one)
    where
      by_cause : (e : ServeErr) (d : Deployment) (room : ℕ) (u v w : World C) → SoFar n written d room u v → ConnectsBy tells d room v w (not_connected e) → ServesBy tells d room requests written u w (not_served X e)
      by_cause ServeErr.OutOfMemory d room u v w far one = (far.0, one.0, v, far.2, far.3, one.1)
      by_cause ServeErr.LinkRefused d room u v w far one = (far.0, v, omega (arith, far.1, few), far.2, far.3, one)
      by_cause ServeErr.SinkFault d room u v w far one = absurd one

  -- its line is not written, or a front of it
  pub untold : (X Y : Type 0) {a b c : Sight C} (requests n : ℕ) (written line_front : List ℕ) (x : Ended) (e : ServeErr) → LineBy (line_of (n + 1) x) line_front (not_served Y e) → Passes (SoFar n written) a b → Passes (One x) b c
      → Passes (λ d room v w. ServesBy tells d room requests (written ++ line_front) v w (not_served X e)) a c
  untold X Y requests n written line_front x e told = passes_then (λ d room u v w far one. by_cause e told d room u v w far one)
    where
      by_cause : (e : ServeErr) → LineBy (line_of (n + 1) x) line_front (not_served Y e) → (d : Deployment) (room : ℕ) (u v w : World C) → SoFar n written d room u v → One x d room v w → ServesBy tells d room requests (written ++ line_front) u w (not_served X e)
      by_cause ServeErr.OutOfMemory none d room u v w far one =
          let s = one.1 in (
            far.0,
            s.ticks ++ (s.asked ++ s.pruned),
            v,
            ap (λ z. written ++ z) none ∙ append-nil written ∙ far.2,
            far.3,
            leads_then (IsStep d room) s.ticks (s.asked ++ s.pruned) v.state s.mid w.state (leads_so (IsStep d room) s.ticks (tick_to v.state.core.now s.moment) [] v.state s.mid s.ticked)
                (leads_then (IsStep d room) s.asked s.pruned s.mid s.late w.state s.leads (leads_so (IsStep d room) s.pruned pruning [] s.late w.state s.prunes)),
          )
      by_cause ServeErr.LinkRefused none d room u v w far one = absurd none
      by_cause ServeErr.SinkFault front d room u v w far one =
          let y : Exchange = record { ended = x; responses = one.0 } in
          (far.0 ++ y ∷ [], (front.0, append_assoc written line_front front.0 ∙ ap (λ z. written ++ z) front.1 ∙ ap (λ z. z ++ line_of (n + 1) x) far.2 ∙ ap (λ z. lines_from 1 far.0 ++ line_of z x) (omega (arith, far.1)) ∙ sym (line_last 1 far.0 y)), served_on tells d room far.0 y u v w far.3 one.1)

  -- all were served
  pub all_served : {X : Type 0} {a b : Sight C} (requests : ℕ) (written : List ℕ) (x : X) → Passes (SoFar requests written) a b → Passes (λ d room v w. ServesBy tells d room requests written v w (all_told x)) a b
  all_served requests written x = passes_map (λ d room v w far. far)
