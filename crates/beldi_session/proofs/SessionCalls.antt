-- Calls of the program one after another.
use Rattle.beldi_session.proofs.Names.{Action, Bool, Core, Deployment, Does, DoesTo, Err, Flushes, IfOk, IsErrOf, IsStep, List, Ok, OnErr, Option, OutOfMemory, Result, Rose, Rows, Sight, SinkFault, State, Stop, TableState, Observed, WentBy, [], add-one, ap, append-nil, append_assoc, arith, by_done, refl, state_at, subst, suc, sym, times, told_map, told_same, told_then, true, zero, ℕ, ◌++◌, ◌+◌, ◌-◌, ◌<◌, ◌∙◌, ◌∷◌, ◌≡◌, ◌≤◌}
use Rattle.beldi_session.proofs.Went.{fine, broken, by_stop, went_nothing, by_then, by_before, by_flush}

-- what is said of the rows before and after a call
abbrev Over : {X : Type 0} → List Action → List Action → Sight → Sight → List ℕ → Result X Stop → Rows → Rows → Type 0
Over fs left a b w r m n = WentBy a.code a.table.room fs left (state_at a m) (state_at b n) a.waiting w b.waiting r

pub does_nothing : {X : Type 0} {fs : List Action} (a : Sight) (x : X) → DoesTo fs fs a a (Ok x)
does_nothing {X} {fs} a x = record {
  written = [];
  sink = told_same (λ h k. k ≡ h ++ []) a.held (λ h. sym (append-nil h));
  went = told_same (Over fs fs a a [] (fine x)) a.table.rows (λ m. went_nothing (IsStep a.code a.table.room) a.code fs (state_at a m) a.waiting);
  code = refl;
  room = refl;
  later = omega arith;
  sink_later = omega arith;
  fault = λ e. cc;
}

pub does_no_action : (fs : List Action) → fs ≡ [] → (a : Sight) → Does fs a a (fine {X = Unit {0}} tt)
does_no_action fs none a = subst (λ z. Does z a a (fine {X = Unit {0}} tt)) (sym none) (does_nothing a tt)

rose_later : (a b c : ℕ) → a ≤ b → Rose b c → Rose a c
rose_later a b c h r = omega arith

-- one call, and another that goes on with what it left
pub does_on : {X Y : Type 0} {fs gs hs : List Action} {a b c : Sight} {x : X} {r : Result Y Stop} → DoesTo fs gs a b (Ok x) → DoesTo gs hs b c r → DoesTo fs hs a c r
does_on {X} {Y} {fs} {gs} {hs} {a} {b} {c} {x} {r} p q = record {
  written = p.written ++ q.written;
  sink = told_then {P = λ h k. k ≡ h ++ p.written} {Q = λ h k. k ≡ h ++ q.written} {R = λ h k. k ≡ h ++ (p.written ++ q.written)} a.held b.held c.held
      (λ h k j v w. w ∙ ap (λ z. z ++ q.written) v ∙ append_assoc h p.written q.written) p.sink q.sink;
  went = told_then {P = Over fs gs a b p.written (fine x)} {Q = Over gs hs b c q.written r} {R = Over fs hs a c (p.written ++ q.written) r} a.table.rows b.table.rows c.table.rows
      (λ m n o v w. by_then a.code a.table.room fs gs hs (state_at a m) (state_at b n) (state_at c o) a.waiting p.written b.waiting q.written c.waiting x r v
      (subst (λ (z : Deployment). WentBy z a.table.room gs hs (state_at b n) (state_at c o) b.waiting q.written c.waiting r) p.code (subst (λ (z : ℕ). WentBy b.code z gs hs (state_at b n) (state_at c o) b.waiting q.written c.waiting r) p.room w))) p.went q.went;
  code = q.code ∙ p.code;
  room = q.room ∙ p.room;
  later = omega (arith, p.later, q.later);
  sink_later = omega (arith, p.sink_later, q.sink_later);
  fault = λ e. rose_later a.faults b.faults c.faults p.sink_later (q.fault e);
}

-- with more to do after it
does_more : {X : Type 0} {fs left : List Action} {a b : Sight} {r : Result X Stop} (bs : List Action) → DoesTo fs left a b r → DoesTo (fs ++ bs) (left ++ bs) a b r
does_more {X} {fs} {left} {a} {b} {r} bs p = record {
  written = p.written;
  sink = p.sink;
  went = told_map {P = Over fs left a b p.written r} {Q = Over (fs ++ bs) (left ++ bs) a b p.written r} a.table.rows b.table.rows (λ m n v. by_before a.code a.table.room fs left bs (state_at a m) (state_at b n) a.waiting p.written b.waiting r v) p.went;
  code = p.code;
  room = p.room;
  later = p.later;
  sink_later = p.sink_later;
  fault = p.fault;
}

pub does_then : {X Y : Type 0} {fs bs gs : List Action} {a b c : Sight} {x : X} {r : Result Y Stop} → fs ++ bs ≡ gs → Does fs a b (Ok x) → Does bs b c r → Does gs a c r
does_then {X} {Y} {fs} {bs} {gs} {a} {b} {c} {x} {r} is p q = subst (λ z. Does z a c r) is (does_on {gs = bs} {x = x} (does_more bs p) q)

abbrev kept_stop : (X Y : Type 0) → Stop → Result Y Stop → Result X Stop
kept_stop X Y e (Ok y) = Err e
kept_stop X Y e (Err s) = Err s

same_stop : (X Y : Type 0) (e : Stop) → broken Y e ≡ Err SinkFault → broken X e ≡ Err SinkFault
same_stop X Y e v = ap (kept_stop X Y e) v

-- by the deployment, which the first one keeps
pub lines_then : {Y : Type 0} {gs : List Action} {a b e : Sight} {r : Result Y Stop} (fs : List Action) (f : Deployment → List Action) → fs ++ f a.code ≡ gs → Does fs a b (fine {X = Unit {0}} tt) → Does (f b.code) b e r → Does gs a e r
lines_then {Y} {gs} {a} {b} {e} {r} fs f is p q = does_then {fs = fs} is p (subst (λ (z : Deployment). Does (f z) b e r) p.code q)

-- a call that stopped did not do what follows either
pub does_stop : {X Y : Type 0} {fs left hs : List Action} {a b : Sight} {e : Stop} → DoesTo fs left a b (broken X e) → DoesTo fs hs a b (broken Y e)
does_stop {X} {Y} {fs} {left} {hs} {a} {b} {e} p = record { written = p.written; sink = p.sink; went = p.went; code = p.code; room = p.room; later = p.later; sink_later = p.sink_later; fault = λ v. p.fault (same_stop X Y e v) }

pub does_before : {X Y : Type 0} {fs gs : List Action} {a b : Sight} {e : Stop} (bs : List Action) → fs ++ bs ≡ gs → Does fs a b (broken X e) → Does gs a b (broken Y e)
does_before {X} {Y} {fs} {gs} {a} {b} {e} bs is p = subst (λ z. Does z a b (broken Y e)) is (does_stop {X = X} {left = bs} (does_more bs p))

-- an answer that is the same
pub does_so : {X Y : Type 0} {fs left : List Action} {a b : Sight} {x : X} (y : Y) → DoesTo fs left a b (Ok x) → DoesTo fs left a b (Ok y)
does_so {left = left} {b = b} {x = x} y p = does_on {gs = left} {x = x} p (does_nothing b y)

pub does_done : {fs : List Action} {a b : Sight} (whole : Bool) (r : Result (Unit {0}) Stop) → Does fs a b r → Does fs a b (by_done whole r)
does_done whole (Ok u) p = does_so whole p
does_done {fs} whole (Err e) p = does_stop {X = Unit {0}} p

pub done_whole : (b whole : Bool) (r : Result (Unit {0}) Stop) → b ≡ whole → IfOk (by_done whole r) (λ w. b ≡ w)
done_whole b whole (Ok u) h = h
done_whole b whole (Err e) h = tt

pub all_whole : (b : Bool) (r : Result Bool Stop) → b ≡ true → IfOk r (λ w. w ≡ true) → IfOk r (λ w. b ≡ w)
all_whole b (Ok w) h is = h ∙ sym is
all_whole b (Err e) h is = tt

-- out of memory before anything was done
pub does_none : {X : Type 0} (fs : List Action) (a : Sight) → Does fs a a (broken X OutOfMemory)
does_none {X} fs a = record {
  written = [];
  sink = told_same (λ h k. k ≡ h ++ []) a.held (λ h. sym (append-nil h));
  went = told_same (Over fs [] a a [] (broken X OutOfMemory)) a.table.rows (λ m. by_stop a.code a.table.room X fs [] (state_at a m) a.waiting a.waiting OutOfMemory);
  code = refl;
  room = refl;
  later = omega arith;
  sink_later = omega arith;
  fault = λ e. cc;
}

-- the text that waits is written
pub flushed : (d : Deployment) (c : Core) (t : TableState) (p q : List ℕ) (ha hb : Option (List ℕ)) (f g : ℕ) (r : Result (Unit {0}) Stop) → Flushes ha hb p q r → f ≤ g → OnErr r (Rose f g)
    → Does [] (record { code = d; core = c; table = t; waiting = p; held = ha; faults = f }) (record { code = d; core = c; table = t; waiting = q; held = hb; faults = g }) r
flushed d c t p q ha hb f g r h later rose = record {
  written = h.0;
  sink = h.1;
  went = told_same (λ m n. WentBy d t.room [] [] (at m) (at n) p h.0 q r) t.rows (λ m. by_flush d t.room (at m) (at m) p h.0 q r refl h.2);
  code = refl;
  room = refl;
  later = omega arith;
  sink_later = later;
  fault = at_fault r rose;
}
  where
    at : Rows → State
    at m = record { core = c; rows = m; faults = t.faults }

    at_fault : (r : Result (Unit {0}) Stop) → OnErr r (Rose f g) → IsErrOf r SinkFault → Rose f g
    at_fault (Ok u) h is = cc
    at_fault (Err e) h is = h

-- ---- one action, of which nothing is written yet
pub record Calm (a b : Sight) : Type 0 where
  pub held : b.held ≡ a.held
  pub faults : b.faults ≡ a.faults
  pub code : b.code ≡ a.code
  pub room : b.table.room ≡ a.table.room
  pub later : a.table.faults ≤ b.table.faults

pub made : {X : Type 0} (fs left : List Action) (a b : Sight) (r : Result X Stop) → Calm a b → (IsErrOf r SinkFault → ⊥) → Observed a.table.rows b.table.rows (Over fs left a b [] r) → DoesTo fs left a b r
made fs left a b r c none t = record {
  written = [];
  sink = subst (λ z. Observed a.held z (λ h k. k ≡ h ++ [])) (sym c.held) (told_same (λ h k. k ≡ h ++ []) a.held (λ h. sym (append-nil h)));
  went = t;
  code = c.code;
  room = c.room;
  later = c.later;
  sink_later = omega (arith, c.faults);
  fault = λ e. absurd (none e);
}

-- ---- turns
pub times_more : (n : ℕ) (e : Action) → times n e ++ e ∷ [] ≡ times (n + 1) e
times_more n e = more n e ∙ ap (λ k. times k e) (sym (add-one n))
  where
    more : (n : ℕ) (e : Action) → times n e ++ e ∷ [] ≡ times (suc n) e
    more zero e = refl
    more (suc n) e = ap (λ es. e ∷ es) (more n e)

times_split : (n k : ℕ) (e : Action) → times n e ++ times k e ≡ times (n + k) e
times_split zero k e = ap (λ j. times j e) (omega arith)
times_split (suc n) k e = ap (λ es. e ∷ es) (times_split n k e) ∙ ap (λ j. times j e) {x = suc (n + k)} (omega arith)

pub times_left : (n count : ℕ) (e : Action) → n < count → (times n e ++ e ∷ []) ++ times (count - (n + 1)) e ≡ times count e
times_left n count e l = ap (λ es. es ++ times (count - (n + 1)) e) (times_more n e) ∙ times_split (n + 1) (count - (n + 1)) e ∙ ap (λ j. times j e) {x = n + 1 + (count - (n + 1))} (omega arith)
