-- What the responses to some actions bind, and that the last two of a whole session are the listings.
use Rattle.std.specs.List.{AllByRecursion}
use Rattle.beldi_step.{proofs.StepRuns.either, specs.EventContent.bound_of, specs.EventContent.requested}
use Rattle.std.specs.Prelude.{nat_lt, ◌+◌}
use Rattle.beldi_step.specs.declared.event.Pruned.{Pruned}
use Rattle.beldi_session.specs.{HostResponse.PruneAnswered, HostResponse.PruneBroke, HostResponse.SweptIs, HostResponse.Whole, HostResponse.after_request, HostResponse.goes_on, Script.Prune, Script.Sweep, Script.TellSwept, Script.sweep_at, Script.on_sweep_reply}
use Rattle.beldi_program.proofs.Names.{Action, Answered, AreTo, AtFirst, BookIs, BrokeOff, Call, Carry, CountRows, Event, Working, IsTo, LineRefused, List, ListBook, ListTables, None, Option, Over, Refuse, ReplyAlone, ReplyIs, Reported, Response, RowsAre, EventReply, Settle, SettledIs, Some, TablesAre, TellReply, Value, WentBack, WentOn, [], ap, append_assoc, bound_by, bound_in, is_turn, refl, subst, sym, true, ℕ, ◌++◌, ◌∙◌, ◌∷◌, ◌≡◌}

-- ---- what is bound was asked for
module _ (P : ℕ × Value → Type 0) where
  -- an action asks for such requests alone
  abbrev pub AsksSo : Action → Type 0
  AsksSo (Carry (Event.Request t f a)) = P (f, a)
  AsksSo (Call t f a) = P (f, a)
  AsksSo a = Unit {0}

  abbrev pub AskSo : List Action → Type 0
  AskSo actions = AllByRecursion AsksSo actions

  abbrev pub BoundSo : List (ℕ × (ℕ × Value)) → Type 0
  BoundSo bs = AllByRecursion (λ b. P b.1) bs

  pub asked_then : (front more : List Action) → AskSo front → AskSo more → AskSo (front ++ more)
  asked_then [] more g h = h
  asked_then (a ∷ front) more g h = (g.0, asked_then front more g.1 h)

  bound_then : (b c : List (ℕ × (ℕ × Value))) → BoundSo b → BoundSo c → BoundSo (b ++ c)
  bound_then [] c g h = h
  bound_then (x ∷ b) c g h = (g.0, bound_then b c g.1 h)

  requested_so : (e : Event) → AsksSo (Carry e) → BoundSo (requested e)
  requested_so (Event.Request t f a) h = (h, tt)
  requested_so e h = tt

  bound_event : (e : Event) (x : EventReply) → AsksSo (Carry e) → BoundSo (bound_of e x)
  bound_event e (EventReply.Bound t r) h = requested_so e h
  bound_event e x h = tt

  -- nor does what goes on after a request
  after_asks : (t : ℕ) (x : EventReply) → AskSo (after_request t x)
  after_asks t x = either AskSo (goes_on x) _ _ (λ h. (tt, (tt, tt))) (λ h. tt)

  -- a turn asks for nothing
  turn_asks : (e : Event) → is_turn e ≡ true → AsksSo (Carry e)
  turn_asks (Event.Turn i) h = tt
  turn_asks Event.Ic h = tt
  turn_asks e h = cc

  -- nor does what is left of a sweep
  sweep_at_asks : (k budget n : ℕ) → AsksSo (sweep_at k budget n)
  sweep_at_asks k budget n = either AsksSo (nat_lt n budget) _ _ (λ h. tt) (λ h. tt)

  sweep_asks : (k budget n : ℕ) (x : Pruned) → AsksSo (on_sweep_reply k budget n x)
  sweep_asks k budget n Pruned.Round = tt
  sweep_asks k budget n Pruned.Going = sweep_at_asks k budget (n + 1)
  sweep_asks k budget n Pruned.Marked = sweep_at_asks k budget (n + 1)
  sweep_asks k budget n Pruned.Skipped = sweep_at_asks k budget (n + 1)
  sweep_asks k budget n Pruned.Dangled = sweep_at_asks k budget (n + 1)
  sweep_asks k budget n Pruned.Removed = sweep_at_asks k budget (n + 1)
  sweep_asks k budget n Pruned.Dropped = sweep_at_asks k budget (n + 1)
  sweep_asks k budget n Pruned.Shut = sweep_at_asks k budget (n + 1)
  sweep_asks k budget n Pruned.Spent = sweep_at_asks k budget (n + 1)

  asks_left : (a : Action) (y : Response) (left : List Action) → IsTo a y left → AsksSo a → AskSo left × BoundSo (bound_by y)
  asks_left (Carry e) (Answered Whole f x) left h g = (subst AskSo (sym h.1) tt, bound_event f x (subst (λ z. AsksSo (Carry z)) (sym h.0) g))
  asks_left (Carry e) (BrokeOff (Some f)) left h g = (subst AskSo (sym h.1) (g, tt), tt)
  asks_left (Call t f a) (Answered Whole e x) left h g = (subst AskSo (sym h.1) (after_asks t x), bound_event e x (subst (λ z. AsksSo (Carry z)) (sym h.0) g))
  asks_left (Call t f a) (BrokeOff (Some e)) left h g = (subst AskSo (sym h.1) (g, tt), tt)
  asks_left (Settle budget (Working s)) (Answered ReplyAlone e x) left h g = (subst AskSo (sym h.2) (tt, tt), bound_event e x (turn_asks e h.0))
  asks_left (Settle budget (Working s)) WentBack left h g = (subst AskSo (sym h.1) (tt, tt), tt)
  asks_left (Settle budget (Working s)) (WentOn k) left h g = (subst AskSo (sym h.1) (tt, tt), tt)
  asks_left (Settle budget (Working s)) (BrokeOff (Some e)) left h g = (subst AskSo (sym h.2) (tt, tt), tt)
  asks_left (Settle budget (Over r)) (Reported (SettledIs q)) left h g = (subst AskSo (sym h.1) tt, tt)
  asks_left (Prune k) (PruneAnswered Whole j x) left h g = (subst AskSo (sym h.1) tt, tt)
  asks_left (Prune k) (PruneBroke j) left h g = (subst AskSo (sym h.1) (tt, tt), tt)
  asks_left (Sweep k budget n) (PruneAnswered ReplyAlone j x) left h g = (subst AskSo (sym h.1) (sweep_asks k budget n x, tt), tt)
  asks_left (Sweep k budget n) (PruneBroke j) left h g = (subst AskSo (sym h.1) (tt, tt), tt)
  asks_left (TellSwept x) (Reported (SweptIs y)) left h g = (subst AskSo (sym h.1) tt, tt)
  asks_left (TellReply t) (Reported (ReplyIs u x)) left h g = (subst AskSo (sym h.1) tt, tt)
  asks_left (TellReply t) (BrokeOff None) left h g = (subst AskSo (sym h) (tt, tt), tt)
  asks_left CountRows (Reported (RowsAre n)) left h g = (subst AskSo (sym h) tt, tt)
  asks_left ListTables (Reported (TablesAre lines)) left h g = (subst AskSo (sym h) tt, tt)
  asks_left ListTables (BrokeOff None) left h g = (subst AskSo (sym h) (tt, tt), tt)
  asks_left ListBook (Reported (BookIs lines)) left h g = (subst AskSo (sym h) tt, tt)
  asks_left (Refuse x) (Reported (LineRefused y)) left h g = (subst AskSo (sym h.1) tt, tt)
  asks_left a y left h g = absurd h

  -- what the responses to some actions bind was asked for by them
  pub bound_of_actions : (ys : List Response) (actions more : List Action) → AreTo ys actions more → AskSo actions → BoundSo (bound_in ys)
  bound_of_actions [] actions more h g = tt
  bound_of_actions (y ∷ ys) [] more h g = absurd h.1
  bound_of_actions (y ∷ ys) (a ∷ actions) more h g =
      let k = asks_left a y h.1.0 h.1.1 g.0 in
      bound_then (bound_by y) (bound_in ys) k.1 (bound_of_actions ys h.0 more h.2 (subst AskSo (sym h.1.2) (asked_then h.1.0 actions k.0 g.1)))

-- ---- actions that tell no listing
abbrev pub IsQuiet : Action → Type 0
IsQuiet (Carry e) = Unit {0}
IsQuiet (Settle budget s) = Unit {0}
IsQuiet a = ⊥

-- the responses to them
abbrev pub IsOfEvents : Response → Type 0
IsOfEvents (Answered share e x) = Unit {0}
IsOfEvents WentBack = Unit {0}
IsOfEvents (WentOn k) = Unit {0}
IsOfEvents (BrokeOff o) = Unit {0}
IsOfEvents (Reported (SettledIs r)) = Unit {0}
IsOfEvents y = ⊥

quiet_then : (front more : List Action) → AllByRecursion IsQuiet front → AllByRecursion IsQuiet more → AllByRecursion IsQuiet (front ++ more)
quiet_then [] more g h = h
quiet_then (a ∷ front) more g h = (g.0, quiet_then front more g.1 h)

quiet_left : (a : Action) (y : Response) (left : List Action) → IsTo a y left → IsQuiet a → AllByRecursion IsQuiet left × IsOfEvents y
quiet_left (Carry e) (Answered Whole f x) left h g = (subst (AllByRecursion IsQuiet) (sym h.1) tt, tt)
quiet_left (Carry e) (BrokeOff (Some f)) left h g = (subst (AllByRecursion IsQuiet) (sym h.1) (tt, tt), tt)
quiet_left (Settle budget (Working s)) (Answered ReplyAlone e x) left h g = (subst (AllByRecursion IsQuiet) (sym h.2) (tt, tt), tt)
quiet_left (Settle budget (Working s)) WentBack left h g = (subst (AllByRecursion IsQuiet) (sym h.1) (tt, tt), tt)
quiet_left (Settle budget (Working s)) (WentOn k) left h g = (subst (AllByRecursion IsQuiet) (sym h.1) (tt, tt), tt)
quiet_left (Settle budget (Working s)) (BrokeOff (Some e)) left h g = (subst (AllByRecursion IsQuiet) (sym h.2) (tt, tt), tt)
quiet_left (Settle budget (Over r)) (Reported (SettledIs q)) left h g = (subst (AllByRecursion IsQuiet) (sym h.1) tt, tt)
quiet_left (Call t f v) y left h g = absurd g
quiet_left (Prune k) y left h g = absurd g
quiet_left (Sweep k budget n) y left h g = absurd g
quiet_left (TellSwept x) y left h g = absurd g
quiet_left (TellReply t) y left h g = absurd g
quiet_left CountRows y left h g = absurd g
quiet_left ListTables y left h g = absurd g
quiet_left ListBook y left h g = absurd g
quiet_left (Refuse x) y left h g = absurd g
quiet_left a y left h g = absurd h

-- ---- the last listings
-- the responses to some actions and to two listings after them: they end with the listings, and the others tell none where the actions are quiet
pub record EndsListed (ys : List Response) (front : List Action) : Type 0 where
  pub before : List Response
  pub tables : Option (List ℕ)
  pub book : List ℕ
  pub all : ys ≡ before ++ Reported (TablesAre tables) ∷ Reported (BookIs book) ∷ []
  pub events : AllByRecursion IsQuiet front → AllByRecursion IsOfEvents before

abbrev pub listings : List Action
listings = ListTables ∷ ListBook ∷ []

book_last : (ys : List Response) (left : List Action) → left ≡ ListBook ∷ [] → AreTo ys left [] → (b : List ℕ) × (ys ≡ Reported (BookIs b) ∷ [])
book_last ys left e h = by ys (subst (λ z. AreTo ys z []) e h)
  where
    none : (zs : List Response) (l : List Action) → l ≡ [] → AreTo zs l [] → zs ≡ []
    none [] l e h = refl
    none (z ∷ zs) l e h = absurd (subst (λ k. AtFirst (λ a front. IsTo a z front) k h.0) e h.1)

    one : (y : Response) (zs : List Response) (front l : List Action) → IsTo ListBook y front → l ≡ front ++ [] → AreTo zs l [] → (b : List ℕ) × (y ∷ zs ≡ Reported (BookIs b) ∷ [])
    one (Reported (BookIs b)) zs front l h e k = (b, ap (λ z. Reported (BookIs b) ∷ z) (none zs l (e ∙ ap (λ z. z ++ []) h) k))
    one y zs front l h e k = absurd h

    by : (zs : List Response) → AreTo zs (ListBook ∷ []) [] → (b : List ℕ) × (zs ≡ Reported (BookIs b) ∷ [])
    by [] h = cc
    by (y ∷ zs) h = one y zs h.1.0 h.0 h.1.1 h.1.2 h.2

last_listings : (ys : List Response) → AreTo ys listings [] → EndsListed ys []
last_listings [] h = cc
last_listings (Reported (TablesAre o) ∷ ys) h =
    let b = book_last ys h.0 (h.1.2 ∙ ap (λ z. z ++ ListBook ∷ []) h.1.1) h.2 in
    record { before = []; tables = o; book = b.0; all = ap (λ z. Reported (TablesAre o) ∷ z) b.1; events = λ q. tt }
last_listings (BrokeOff None ∷ ys) h =
    let k = last_listings ys (subst (λ z. AreTo ys z []) (h.1.2 ∙ ap (λ z. z ++ ListBook ∷ []) h.1.1) h.2) in
    record { before = BrokeOff None ∷ k.before; tables = k.tables; book = k.book; all = ap (λ z. BrokeOff None ∷ z) k.all; events = λ q. (tt, k.events q) }
last_listings (y ∷ ys) h = absurd h.1.1

pub last_two : (ys : List Response) (front : List Action) → AreTo ys (front ++ listings) [] → EndsListed ys front
last_two ys [] h = last_listings ys h
last_two [] (a ∷ front) h = cc
last_two (y ∷ ys) (a ∷ front) h =
    let k = last_two ys (h.1.0 ++ front) (subst (λ z. AreTo ys z []) (h.1.2 ∙ sym (append_assoc h.1.0 front listings)) h.2) in
    record {
      before = y ∷ k.before;
      tables = k.tables;
      book = k.book;
      all = ap (λ z. y ∷ z) k.all;
      events = λ quiet. let q = quiet_left a y h.1.0 h.1.1 quiet.0 in (q.1, k.events (quiet_then h.1.0 front q.0 quiet.1));
    }
