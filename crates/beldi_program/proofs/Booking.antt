-- The responses of a session, each with the book and the rows after it, and with when a collector changed a row last.
use Rattle.beldi_session.specs.HostResponse.{PruneAnswered, PruneBroke, Whole}
use Rattle.beldi_session.specs.Script.{Prune, Sweep, TellSwept}
use Rattle.beldi_serve.proofs.Leading.{leads_so}
use Rattle.beldi_program.proofs.Names.{Action, Answered, AreTo, AtFirst, Booked, BrokeOff, Call, Carry, Collect, Core, CountRows, Deployment, Follows, Working, Hosted, IsStep, IsTo, IsToSettling, Leads, LeadsTo, Leaves, List, ListBook, ListTables, Next, None, Option, Over, Refuse, ReplyAlone, Reported, Reset, Response, Rows, Session, Settle, SettlingLeaves, Some, State, Steps, StepsTo, TellReply, Turn, Went, WentBack, WentOn, [], ap, is_turn, next_of, opened_at, refl, responses_in, responses_text, subst, sym, ℕ, ◌∙◌, ◌∷◌, ◌≡◌, ◌≤◌}
use Rattle.beldi_program.specs.Hosted.{SessionsArePlainRuns, changed_by}

-- a response, with what there is after it
abbrev pub booked_at : Option ℕ → Response → State → State → Booked
booked_at was y s t = record { response = y; book = t.core.book; rows = t.rows; changed = changed_by s.core.now was y }

abbrev pub booked : (d : Deployment) (was : Option ℕ) (ys : List Response) (s t : State) → Leads (IsStep d d.room) ys s t → List Booked
booked d was [] s t x = []
booked d was (y ∷ ys) s t x = booked_at was y s x.0 ∷ booked d (changed_by s.core.now was y) ys x.0 t x.2

pub booked_back : (d : Deployment) (was : Option ℕ) (ys : List Response) (s t : State) (x : Leads (IsStep d d.room) ys s t) → responses_in (booked d was ys s t x) ≡ ys
booked_back d was [] s t x = refl
booked_back d was (y ∷ ys) s t x = ap (λ z. y ∷ z) (booked_back d (changed_by s.core.now was y) ys x.0 t x.2)

pub leads_to : (d : Deployment) (was : Option ℕ) (ys : List Response) (s t : State) (x : Leads (IsStep d d.room) ys s t) → LeadsTo d was (booked d was ys s t x) s t
leads_to d was [] s t x = x
leads_to d was (y ∷ ys) s t x = (x.0, record { step = x.1; book = refl; rows = refl; changed = refl }, leads_to d (changed_by s.core.now was y) ys x.0 t x.2)

steps_to : (d : Deployment) (was : Option ℕ) (ys : List Response) (fs more : List Action) (s t : State) (x : Steps (IsStep d d.room) ys fs more s t) → StepsTo d was (booked d was ys s t (leads_so (IsStep d d.room) ys fs more s t x)) fs more s t
unfolding leads_so
steps_to d was [] fs more s t x = x
steps_to d was (y ∷ ys) fs more s t x = (x.0, x.1, record { step = x.2; book = refl; rows = refl; changed = refl }, x.3, steps_to d (changed_by s.core.now was y) ys x.1 more x.0 t x.4)

-- ---- what the responses are to
is_to_settling : (budget : ℕ) (c : Core) (n : Next) (y : Response) (left : List Action) → SettlingLeaves budget c n y left → IsToSettling budget y left
is_to_settling budget c (Turn s i) (Answered ReplyAlone e x) left h = (ap is_turn h.0, _, h.1)
is_to_settling budget c (Turn s i) (Answered Whole e x) left h = absurd h
is_to_settling budget c (Turn s i) WentBack left h = absurd h
is_to_settling budget c (Turn s i) (Reported r) left h = absurd h
is_to_settling budget c (Turn s i) (WentOn k) left h = absurd h
is_to_settling budget c (Turn s i) (BrokeOff None) left h = absurd h
is_to_settling budget c (Turn s i) (BrokeOff (Some e)) left h = (ap is_turn h.0, _, h.1)
is_to_settling budget c (Collect s) (Answered ReplyAlone e x) left h = (ap is_turn h.0, _, h.1)
is_to_settling budget c (Collect s) (WentOn k) left h = (_, h)
is_to_settling budget c (Collect s) (BrokeOff None) left h = absurd h
is_to_settling budget c (Collect s) (BrokeOff (Some e)) left h = (ap is_turn h.0, _, h.1)
is_to_settling budget c (Collect s) (Answered Whole e x) left h = absurd h
is_to_settling budget c (Collect s) WentBack left h = absurd h
is_to_settling budget c (Collect s) (Reported r) left h = absurd h
is_to_settling budget c (Reset s) (Answered share e x) left h = absurd h
is_to_settling budget c (Reset s) WentBack left h = (_, h)
is_to_settling budget c (Reset s) (WentOn k) left h = absurd h
is_to_settling budget c (Reset s) (BrokeOff o) left h = absurd h
is_to_settling budget c (Reset s) (Reported r) left h = absurd h
is_to_settling budget c n (PruneAnswered share k x) left h = absurd (no_turn n h)
  where
    no_turn : (n : Next) → SettlingLeaves budget c n (PruneAnswered share k x) left → ⊥
    no_turn (Turn s i) h = h
    no_turn (Collect s) h = h
    no_turn (Reset s) h = h
is_to_settling budget c n (PruneBroke k) left h = absurd (no_turn n h)
  where
    no_turn : (n : Next) → SettlingLeaves budget c n (PruneBroke k) left → ⊥
    no_turn (Turn s i) h = h
    no_turn (Collect s) h = h
    no_turn (Reset s) h = h

is_to : (a : Action) (c z : Core) (y : Response) (left : List Action) → Leaves a c z y left → IsTo a y left
is_to (Carry e) c z y left h = h
is_to (Call t f v) c z y left h = h
is_to (Settle budget (Working s)) c z y left h = is_to_settling budget z (next_of c s) y left h
is_to (Settle budget (Over r)) c z y left h = h
is_to (Prune k) c z y left h = h
is_to (Sweep k budget n) c z y left h = h
is_to (TellSwept x) c z y left h = h
is_to (TellReply t) c z y left h = h
is_to CountRows c z y left h = h
is_to ListTables c z y left h = h
is_to ListBook c z y left h = h
is_to (Refuse x) c z y left h = h

is_to_first : (fs : List Action) (c z : Core) (y : Response) (left : List Action) → Follows fs c z y left → AtFirst (λ a front. IsTo a y front) fs left
is_to_first [] c z y left h = absurd h
is_to_first (a ∷ fs) c z y left h = (h.0, is_to a c z y h.0 h.1, h.2)

pub are_to : (d : Deployment) (room : ℕ) (ys : List Response) (fs more : List Action) (s t : State) → Steps (IsStep d room) ys fs more s t → AreTo ys fs more
are_to d room [] fs more s t x = x.1
are_to d room (y ∷ ys) fs more s t x = (x.1, is_to_first fs s.core x.0.core y x.1 x.3, are_to d room ys x.1 more x.0 t x.4)

-- from the rows m, over which a host was opened, by these steps
module _ (plain_runs : SessionsArePlainRuns) (d : Deployment) (actions more : List Action) (m : Rows) (opened : ℕ) (t : State) (written rest : List ℕ) (x : Went (IsStep d d.room) d actions more (opened_at m 0 opened) t [] written rest) where
  abbrev leads : Leads (IsStep d d.room) x.responses (opened_at m 0 opened) t
  leads = leads_so (IsStep d d.room) x.responses actions more (opened_at m 0 opened) t x.steps

  abbrev said_zs : List Booked
  said_zs = booked d None x.responses (opened_at m 0 opened) t leads

  pub said_back : x.responses ≡ responses_in said_zs
  said_back = sym (booked_back d None x.responses (opened_at m 0 opened) t leads)

  abbrev said_to : LeadsTo d None said_zs (opened_at m 0 opened) t
  said_to = leads_to d None x.responses (opened_at m 0 opened) t leads

  abbrev pub said : Session d actions more m t.rows written rest
  said = record {
    responses = said_zs;
    actions_are = subst (λ z. AreTo z actions more) said_back (are_to d d.room x.responses actions more (opened_at m 0 opened) t x.steps);
    text = x.text ∙ ap (responses_text d) said_back;
    plain = (plain_runs d said_zs m 0 opened t said_to).0;
  }

  pub hosted_by : (f : ℕ) → f ≤ opened → Hosted d actions more said_zs m t.rows f t.faults
  hosted_by f sooner = record {
    opened = opened;
    sooner = sooner;
    core = t.core;
    steps = steps_to d None x.responses actions more (opened_at m 0 opened) t x.steps;
    joins = λ base gone left. ((plain_runs d said_zs m 0 opened t said_to).1 base gone left).0;
    listing = λ base gone left. ((plain_runs d said_zs m 0 opened t said_to).1 base gone left).1;
  }
