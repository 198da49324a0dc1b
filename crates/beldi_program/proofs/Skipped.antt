-- What looks for a heading in the text of a session of events finds that of the listings at its end.
use Rattle.std.specs.Prelude.{codes, decimal, flat_map}
use Rattle.std.specs.List.{AllByRecursion}
use Rattle.std.proofs.Common.{if◌then◌else◌, ◌==◌}
use Rattle.beldi_value.specs.{Json.text_of, ValueText.id_text, ValueText.outcome_text, ValueText.owner_text, Value.datum_of}
use Rattle.beldi_tree.specs.Names.{func_text}
use Rattle.beldi_book.proofs.Cuts.{parts}
use Rattle.beldi_script.{proofs.ScriptLines.cut_some, specs.LineCut.unreturned}
use Rattle.beldi_generator.specs.Summary.{past}
use Rattle.beldi_session.specs.Answer.{answer_text, entry_part, numbered, outcome_line, over_part, reply_part, reply_told, run_part}
use Rattle.beldi_schedule.specs.{declared.machine.Settled.Settled}
use Rattle.beldi_session.specs.{HostResponse.PruneAnswered, HostResponse.PruneBroke, HostResponse.Whole, HostResponse.book_head, HostResponse.response_text, HostResponse.unread_line, Settled.settled_text, Settled.wait_text}
use Rattle.beldi_bank_lines.proofs.Unbroken.{text_flat}
use Rattle.beldi_program.proofs.{Asked.EndsListed, Asked.IsOfEvents, Asked.IsQuiet, Flat.AreFlat, Flat.IsFlat, Flat.decimal_flat, Flat.entry_flat, Flat.id_flat, Flat.joined, Flat.outcome_flat, Flat.owner_flat}
use Rattle.beldi_program.proofs.Names.{Action, Answered, Bool, BookIs, BrokeOff, Deployment, Entry, Event, List, None, Option, Outcome, ReplyAlone, Reported, Response, EventReply, SettledIs, Some, TablesAre, WentBack, WentOn, [], ap, append-nil, append_assoc, false, lines_of, refl, responses_text, sym, true, ℕ, ◌++◌, ◌∙◌, ◌∷◌, ◌≡◌}

-- ---- lines
-- a text that begins with the rest of a line, ended, and goes on so
abbrev Leads : List ℕ → List ℕ → Type 0
Leads text more = (w : List ℕ) × IsFlat w × (text ≡ w ++ 10 ∷ more)

ends : (more : List ℕ) → Leads (10 ∷ more) more
ends more = ([], refl, refl)

behind : (v text more : List ℕ) → IsFlat v → Leads text more → Leads (v ++ text) more
behind v text more f h = (v ++ h.0, joined v h.0 f h.1, ap (λ z. v ++ z) h.2 ∙ sym (append_assoc v h.0 (10 ∷ more)))

-- a line that begins with a byte which is no carriage return is cut with that byte in front
first_stays : (c : ℕ) (cs : List ℕ) → (c == 13) ≡ false → (l : List ℕ) × (unreturned (c ∷ cs) ≡ c ∷ l)
first_stays c [] h = ([], ap (λ t. if t then [] else c ∷ []) h)
first_stays c (d ∷ ds) h = (unreturned (d ∷ ds), refl)

-- ---- what is passed over, whatever follows
module _ {X : Type 0} (F : List (List ℕ) → X) where
  abbrev pub IsSkipped : List ℕ → Type 0
  IsSkipped text = (rest : List ℕ) → F (lines_of (text ++ rest)) ≡ F (lines_of rest)

  pub nothing : IsSkipped []
  nothing rest = refl

  pub skipped_then : (v w : List ℕ) → IsSkipped v → IsSkipped w → IsSkipped (v ++ w)
  skipped_then v w g h rest = ap (λ z. F (lines_of z)) (append_assoc v w rest) ∙ g (w ++ rest) ∙ h rest

  -- lines that begin with this byte are passed over
  abbrev pub Skips : ℕ → Type 0
  Skips c = (l : List ℕ) (ls : List (List ℕ)) → F ((c ∷ l) ∷ ls) ≡ F ls

  -- the first word of such a line
  abbrev pub IsFirst : List ℕ → Type 0
  IsFirst [] = ⊥
  IsFirst (c ∷ cs) = Skips c × ((c == 13) ≡ false) × IsFlat (c ∷ cs)

  first_line : (c : ℕ) (cs rest : List ℕ) → Skips c → (c == 13) ≡ false → IsFlat (c ∷ cs) → F (lines_of ((c ∷ cs) ++ 10 ∷ rest)) ≡ F (lines_of rest)
  first_line c cs rest o n f =
      let p = parts 10 (c ∷ cs) rest f in
      let s = first_stays c cs n in
      ap F (cut_some ((c ∷ cs) ++ 10 ∷ rest) rest p.back ∙ ap (λ v. unreturned v ∷ lines_of rest) p.front ∙ ap (λ v. v ∷ lines_of rest) s.1) ∙ o s.0 (lines_of rest)

  -- a line that begins with a word, and then more
  line_then : (word text more : List ℕ) → IsFirst word → Leads text more → IsSkipped more → IsSkipped (word ++ text)
  line_then [] text more w h g rest = absurd w
  line_then (c ∷ cs) text more w h g rest =
      ap (λ z. F (lines_of z)) (ap (λ z. ((c ∷ cs) ++ z) ++ rest) h.2 ∙ append_assoc (c ∷ cs) (h.0 ++ 10 ∷ more) rest ∙ ap (λ z. (c ∷ cs) ++ z) (append_assoc h.0 (10 ∷ more) rest) ∙ sym (append_assoc (c ∷ cs) h.0 (10 ∷ (more ++ rest))))
      ∙ first_line c (cs ++ h.0) (more ++ rest) w.0 w.1 (joined (c ∷ cs) h.0 w.2 h.1)
      ∙ g rest

  -- a line, and more that is passed over
  pub record AreLines (text : List ℕ) : Type 0 where
    pub more : List ℕ
    pub leads : Leads text more
    pub later : IsSkipped more
    pub skipped : IsSkipped text

  first_flat : (word : List ℕ) → IsFirst word → IsFlat word
  first_flat [] w = absurd w
  first_flat (c ∷ cs) w = w.2

  pub lines_then : (word text more : List ℕ) → IsFirst word → Leads text more → IsSkipped more → AreLines (word ++ text)
  lines_then word text more w h g = record { more = more; leads = behind word text more (first_flat word w) h; later = g; skipped = line_then word text more w h g }

  pub line : (word text : List ℕ) → IsFirst word → Leads text [] → AreLines (word ++ text)
  line word text w h = lines_then word text [] w h nothing

  pub word_line : (word : List ℕ) → IsFirst word → AreLines (word ++ 10 ∷ [])
  word_line word w = line word (10 ∷ []) w (ends [])

  -- a word and a text
  pub text_line : (word text : List ℕ) → IsFirst word → IsFlat text → AreLines (word ++ (text ++ 10 ∷ []))
  text_line word text w f = line word (text ++ 10 ∷ []) w (behind text (10 ∷ []) [] f (ends []))

  -- a word, a number and a text after a space
  pub spaced_line : (word text : List ℕ) (n : ℕ) → IsFirst word → IsFlat text → AreLines (word ++ (decimal n ++ (codes " " ++ (text ++ 10 ∷ []))))
  spaced_line word text n w f =
      line word (decimal n ++ (codes " " ++ (text ++ 10 ∷ []))) w
      (behind (decimal n) (codes " " ++ (text ++ 10 ∷ [])) [] (decimal_flat n) (behind (codes " ") (text ++ 10 ∷ []) [] refl (behind text (10 ∷ []) [] f (ends []))))

-- ---- the text of a session of events is passed by what looks for a heading: a line that begins with `=`
module _ (h : List ℕ) (d : Deployment) (names : AreFlat d) where
  abbrev pub IsPassed : List ℕ → Type 0
  IsPassed text = IsSkipped (past (61 ∷ h)) text

  abbrev AreTold : List ℕ → Type 0
  AreTold text = AreLines (past (61 ∷ h)) text

  abbrev IsWord : List ℕ → Type 0
  IsWord word = IsFirst (past (61 ∷ h)) word

  number_told : (word : List ℕ) (n : ℕ) → IsWord word → AreTold (numbered word n)
  number_told word n w = text_line (past (61 ∷ h)) word (decimal n) w (decimal_flat n)

  word_told : (word : List ℕ) → IsWord word → AreTold (word ++ 10 ∷ [])
  word_told word w = word_line (past (61 ∷ h)) word w

  outcome_told : (word : List ℕ) (t : ℕ) (o : Outcome) → IsWord word → AreTold (outcome_line word t o)
  outcome_told word t o w = spaced_line (past (61 ∷ h)) word (outcome_text o) t w (outcome_flat o)

  reply_passed : (o : Option (ℕ × Outcome)) → IsPassed (reply_part o)
  reply_passed None = nothing (past (61 ∷ h))
  reply_passed (Some r) = (outcome_told (codes "reply ") r.0 r.1 (λ l ls. refl, refl, refl)).skipped

  entry_part_flat : (e : Option Entry) → IsFlat (entry_part d e)
  entry_part_flat None = refl
  entry_part_flat (Some e) = entry_flat d e names

  run_part_flat : (o : Option ℕ) → IsFlat (run_part o)
  run_part_flat None = refl
  run_part_flat (Some n) = decimal_flat n

  over_part_flat : (b : Bool) → IsFlat (over_part b)
  over_part_flat false = refl
  over_part_flat true = refl

  -- a line that begins with a word, and what is behind it
  after_word : (word text : List ℕ) → IsWord word → Leads text [] → AreTold (word ++ text)
  after_word word text w f = line (past (61 ∷ h)) word text w f

  -- the lines of an answer
  pub answer_told : (x : EventReply) → AreTold (answer_text d x)
  answer_told (EventReply.Issued n) = number_told (codes "ticket ") n (λ l ls. refl, refl, refl)
  answer_told EventReply.NoTicket = word_told (codes "no-ticket") (λ l ls. refl, refl, refl)
  answer_told (EventReply.Bound t r) = after_word (codes "bound ") (decimal t ++ (codes " run " ++ (decimal r ++ codes "\n"))) (λ l ls. refl, refl, refl)
      (behind (decimal t) (codes " run " ++ (decimal r ++ codes "\n")) [] (decimal_flat t) (behind (codes " run ") (decimal r ++ codes "\n") [] refl (behind (decimal r) (codes "\n") [] (decimal_flat r) (ends []))))
  answer_told (EventReply.Running t) = number_told (codes "running ") t (λ l ls. refl, refl, refl)
  answer_told (EventReply.Replied t o) = outcome_told (codes "ended ") t o (λ l ls. refl, refl, refl)
  answer_told (EventReply.Other t f a) = after_word (codes "other ") (decimal t ++ (codes " " ++ (func_text d f ++ (codes " " ++ (text_of (datum_of a) ++ codes "\n"))))) (λ l ls. refl, refl, refl)
      (behind (decimal t) (codes " " ++ (func_text d f ++ (codes " " ++ (text_of (datum_of a) ++ codes "\n")))) [] (decimal_flat t)
      (behind (codes " ") (func_text d f ++ (codes " " ++ (text_of (datum_of a) ++ codes "\n"))) [] refl
      (behind (func_text d f) (codes " " ++ (text_of (datum_of a) ++ codes "\n")) [] (names f)
      (behind (codes " ") (text_of (datum_of a) ++ codes "\n") [] refl
      (behind (text_of (datum_of a)) (codes "\n") [] (text_flat (datum_of a)) (ends []))))))
  answer_told (EventReply.Gone t) = number_told (codes "gone ") t (λ l ls. refl, refl, refl)
  answer_told (EventReply.Unknown t) = number_told (codes "unknown ") t (λ l ls. refl, refl, refl)
  answer_told (EventReply.Acted e started over r) =
      lines_then (past (61 ∷ h)) (codes "acted") (entry_part d e ++ (run_part started ++ (over_part over ++ (codes "\n" ++ reply_part r)))) (reply_part r) (λ l ls. refl, refl, refl)
      (behind (entry_part d e) (run_part started ++ (over_part over ++ (codes "\n" ++ reply_part r))) (reply_part r) (entry_part_flat e)
      (behind (run_part started) (over_part over ++ (codes "\n" ++ reply_part r)) (reply_part r) (run_part_flat started)
      (behind (over_part over) (codes "\n" ++ reply_part r) (reply_part r) (over_part_flat over) (ends (reply_part r)))))
      (reply_passed r)
  answer_told (EventReply.Held o) = text_line (past (61 ∷ h)) (codes "held ") (owner_text o) (λ l ls. refl, refl, refl) (owner_flat o)
  answer_told (EventReply.NotYet id) = text_line (past (61 ∷ h)) (codes "waits ") (id_text id) (λ l ls. refl, refl, refl) (id_flat id)
  answer_told (EventReply.Full live room) = spaced_line (past (61 ∷ h)) (codes "full ") (decimal room) live (λ l ls. refl, refl, refl) (decimal_flat room)
  answer_told EventReply.Worn = word_told (codes "worn") (λ l ls. refl, refl, refl)
  answer_told EventReply.Crowded = word_told (codes "crowded 1024") (λ l ls. refl, refl, refl)
  answer_told EventReply.Expired = word_told (codes "expired") (λ l ls. refl, refl, refl)
  answer_told EventReply.NoRun = word_told (codes "no-run") (λ l ls. refl, refl, refl)
  answer_told EventReply.RunOver = word_told (codes "run-over") (λ l ls. refl, refl, refl)
  answer_told EventReply.Dropped = word_told (codes "dropped") (λ l ls. refl, refl, refl)
  answer_told EventReply.Crashed = word_told (codes "crashed") (λ l ls. refl, refl, refl)
  answer_told (EventReply.Started r) = number_told (codes "run ") r (λ l ls. refl, refl, refl)
  answer_told EventReply.Passed = word_told (codes "passed") (λ l ls. refl, refl, refl)
  answer_told (EventReply.Launched r id) = spaced_line (past (61 ∷ h)) (codes "launched run ") (id_text id) r (λ l ls. refl, refl, refl) (id_flat id)
  answer_told EventReply.Round = word_told (codes "round") (λ l ls. refl, refl, refl)
  answer_told (EventReply.Now n) = number_told (codes "now ") n (λ l ls. refl, refl, refl)
  answer_told EventReply.ClockEnd = word_told (codes "clock-end") (λ l ls. refl, refl, refl)
  answer_told EventReply.Halted = word_told (codes "halted") (λ l ls. refl, refl, refl)
  answer_told EventReply.Shut = word_told (codes "shut") (λ l ls. refl, refl, refl)
  answer_told EventReply.Spent = word_told (codes "spent") (λ l ls. refl, refl, refl)

  reply_told_passed : (x : EventReply) → IsPassed (reply_told x)
  reply_told_passed (EventReply.Acted e started over r) = reply_passed r
  reply_told_passed x = nothing (past (61 ∷ h))

  waiting_passed : (w : ℕ × EventReply) → IsPassed (wait_text d w)
  waiting_passed w =
      let a = answer_told w.1 in
      (lines_then (past (61 ∷ h)) (codes "run ") (decimal w.0 ++ (codes " " ++ answer_text d w.1)) a.more (λ l ls. refl, refl, refl)
      (behind (decimal w.0) (codes " " ++ answer_text d w.1) a.more (decimal_flat w.0) (behind (codes " ") (answer_text d w.1) a.more refl a.leads)) a.later).skipped

  all_passed : (ws : List (ℕ × EventReply)) → IsPassed (flat_map (wait_text d) ws)
  all_passed [] = nothing (past (61 ∷ h))
  all_passed (w ∷ ws) = skipped_then (past (61 ∷ h)) (wait_text d w) (flat_map (wait_text d) ws) (waiting_passed w) (all_passed ws)

  settled_passed : (r : Settled) → IsPassed (settled_text d r)
  settled_passed (Settled.All n) = (number_told (codes "settled ") n (λ l ls. refl, refl, refl)).skipped
  settled_passed (Settled.Unsettled n) = (number_told (codes "unsettled ") n (λ l ls. refl, refl, refl)).skipped
  settled_passed (Settled.Spent n) = (number_told (codes "spent ") n (λ l ls. refl, refl, refl)).skipped
  settled_passed (Settled.Shut n) = (number_told (codes "shut ") n (λ l ls. refl, refl, refl)).skipped
  settled_passed (Settled.Stuck n ws) = skipped_then (past (61 ∷ h)) (numbered (codes "stuck ") n) (flat_map (wait_text d) ws) (number_told (codes "stuck ") n (λ l ls. refl, refl, refl)).skipped (all_passed ws)

  -- inside a settling
  alone_passed : (e : Event) (x : EventReply) → IsPassed (response_text d (Answered ReplyAlone e x))
  alone_passed Event.Ic x = nothing (past (61 ∷ h))
  alone_passed e x = reply_told_passed x

  response_passed : (y : Response) → IsOfEvents y → IsPassed (response_text d y)
  response_passed (Answered Whole e x) o = (answer_told x).skipped
  response_passed (Answered ReplyAlone e x) o = alone_passed e x
  response_passed WentBack o = nothing (past (61 ∷ h))
  response_passed (WentOn k) o = nothing (past (61 ∷ h))
  response_passed (BrokeOff e) o = nothing (past (61 ∷ h))
  response_passed (Reported (SettledIs r)) o = settled_passed r
  response_passed (Reported r) o = absurd o
  response_passed (PruneAnswered share k x) o = absurd o
  response_passed (PruneBroke k) o = absurd o

  pub past_events : (ys more : List Response) → AllByRecursion IsOfEvents ys → past (61 ∷ h) (lines_of (responses_text d (ys ++ more))) ≡ past (61 ∷ h) (lines_of (responses_text d more))
  past_events [] more o = refl
  past_events (y ∷ ys) more o = response_passed y o.0 (responses_text d (ys ++ more)) ∙ past_events ys more o.1

-- ---- a session of events that ends with the two listings
-- what is told below the heading of the tables
abbrev pub listed_text : Option (List ℕ) → List ℕ
listed_text None = unread_line
listed_text (Some lines) = lines

-- the text of the two listings below the heading of the tables
abbrev pub last_text : Option (List ℕ) → List ℕ → List ℕ
last_text tables book = listed_text tables ++ (book_head ++ book)

abbrev pub lists : Option (List ℕ) → List ℕ → List Response
lists tables book = Reported (TablesAre tables) ∷ Reported (BookIs book) ∷ []

module _ (d : Deployment) where
  below_tables : (tables : Option (List ℕ)) (book : List ℕ) → past (codes "== tables") (lines_of (responses_text d (lists tables book))) ≡ lines_of (last_text tables book)
  below_tables None book = ap (λ z. lines_of (unread_line ++ (book_head ++ z))) (append-nil book)
  below_tables (Some lines) book = ap (λ z. lines_of (lines ++ (book_head ++ z))) (append-nil book)

  -- what is told below the heading of the tables in the text of such a session
  pub ends_so : (ys : List Response) (front : List Action) (e : EndsListed ys front) → AreFlat d → AllByRecursion IsQuiet front → past (codes "== tables") (lines_of (responses_text d ys)) ≡ lines_of (last_text e.tables e.book)
  ends_so ys front e names quiet =
      ap (λ z. past (codes "== tables") (lines_of (responses_text d z))) e.all
      ∙ past_events (codes "= tables") d names e.before (lists e.tables e.book) (e.events quiet) ∙ below_tables e.tables e.book
