-- How the program ends.
use Rattle.std.specs.Prelude.{IfOk}
use Rattle.beldi_program.proofs.Names.{Accepted, AsRead, BareEnds, Bool, ByStatus, Check, CheckEnds, Command, CommandEnds, Connections, Core, Cut, Deployment, Does, DoneBy, Ended, Ends, Err, Failed, Gen, GeneratedEnds, HasEnded, IsErrOf, IsPrefixOf, Line, List, LongOn, None, NothingDone, Numbered, Ok, OnOk, OpenErr, Opened, Option, OutOfMemory, ReadAllOn, ReadEnds, Refusal, Refused, Result, Rose, Rows, Run, ServeEnds, ServiceEnds, Serving, ServingEnds, SessionEnds, Sight, SinkFault, SinkState, Some, Serve, SourceAsRead, SourceCommandEnds, SourceEnds, State, Stop, SummedUp, TableState, TextEnds, Observed, TookPrefix, Untouched, Vec, WentBy, Whole, WordsAsRead, Writes, WroteOn, [], actions_in, ap, arith, check_at, check_by, counted, counted_on, end_of, false, false≢true, fine, first_line, generated, inl, inr, is_bare_source, is_none, is_ok, is_whole, is_whole_asked, is_whole_by, is_whole_source, kept, kept_faults, length, max_source, new_sink, opened_at, opened_core, reads_source, refl, refusal_text, said_at, script_of, source_at, state_at, status_of, subst, subst₂, suc, summary_text, sym, tested, told_map, told_same, told_tells, told_then, true, usage, with_line, zero, ℕ, ◌&&◌, ◌+◌, ◌-◌, ◌^◌, ◌∙◌, ◌∷◌, ◌≡◌, ◌≤◌, ◌⊎◌}
use Rattle.beldi_program.specs.Hosted.{SessionsArePlainRuns}
use Rattle.beldi_program.proofs.Booking.{hosted_by, said}
use Rattle.beldi_program.proofs.Names.map

-- ---- a text that was written, or a front of it
pub front : (a b : Option (List ℕ)) (text : List ℕ) (e : Failed) → Observed a b (WroteOn text (Err e)) → (w : List ℕ) × IsPrefixOf w text × Writes a b w
front None b text e h = ([], (text, refl), tt)
front (Some x) None text e h = absurd h
front (Some x) (Some y) text e h = (h.0, h.1, h.3)

-- ---- a session
abbrev pub SessionBy : {X : Type 0} → Result X Stop → Deployment → List Numbered → Rows → Rows → ℕ → ℕ → List ℕ → Type 0
SessionBy (Ok x) d lines m n f g w = Whole d lines m n f g w
SessionBy (Err why) d lines m n f g w = Cut d lines m n f g w

module _ (plain_runs : SessionsArePlainRuns) (d : Deployment) (lines : List Numbered) (m n : Rows) (f opened g : ℕ) (sooner : f ≤ opened) (core : Core) (w q : List ℕ) where
  -- where it ends
  abbrev at_end : State
  at_end = record { core = core; rows = n; faults = g }

  session : {X : Type 0} (r : Result X Stop) → OnOk r (q ≡ []) → WentBy d d.room (actions_in d lines) [] (opened_at m 0 opened) at_end [] w q r → SessionBy r d lines m n f g w
  session (Ok x) none h =
      let k = subst (λ z. WentBy d d.room (actions_in d lines) [] (opened_at m 0 opened) at_end [] w z (fine x)) none h in
      record {
        session = said plain_runs d (actions_in d lines) [] m opened at_end w [] k;
        hosted = hosted_by plain_runs d (actions_in d lines) [] m opened at_end w [] k f sooner;
      }
  session (Err why) none h = record {
    more = h.0;
    rest = h.1;
    session = said plain_runs d (actions_in d lines) h.0 m opened at_end w h.1 h.2;
    hosted = hosted_by plain_runs d (actions_in d lines) h.0 m opened at_end w h.1 h.2 f sooner;
  }

-- a host that was opened over a table, and the script that it carried out
pub hosted : (plain_runs : SessionsArePlainRuns) {X : Type 0} (d : Deployment) (t : TableState) (a b : Sight) (lines : List Numbered) (r : Result X Stop) → Opened d a.code 0 t a.table a.core → a.waiting ≡ [] → OnOk r (b.waiting ≡ []) → Does (actions_in a.code lines) a b r
    → (w : List ℕ) × Writes a.held b.held w × Observed t.rows b.table.rows (λ m n. SessionBy r d lines m n t.faults b.table.faults w)
hosted plain_runs d t a b lines r o none end x = (
  x.written,
  x.sink,
  told_then {P = λ m n. (n ≡ m) × (a.core ≡ opened_core m 0)} {Q = λ m n. WentBy a.code a.table.room (actions_in a.code lines) [] (state_at a m) (state_at b n) a.waiting x.written b.waiting r} {R = λ m n. SessionBy r d lines m n t.faults b.table.faults x.written} t.rows a.table.rows b.table.rows
      (λ m n j v w. session plain_runs d lines m j t.faults a.table.faults b.table.faults o.later b.core x.written b.waiting r end (begun m n j v w)) (told_tells t.rows a.table.rows (λ m n. (n ≡ m) × (a.core ≡ opened_core m 0)) o.rows) x.went,
)
  where
    begun : (m n j : Rows) → (n ≡ m) × (a.core ≡ opened_core m 0) → WentBy a.code a.table.room (actions_in a.code lines) [] (state_at a n) (state_at b j) a.waiting x.written b.waiting r → WentBy d d.room (actions_in d lines) [] (opened_at m 0 a.table.faults) (state_at b j) [] x.written b.waiting r
    begun m n j v w =
        subst (λ (p : List ℕ). WentBy d d.room (actions_in d lines) [] (opened_at m 0 a.table.faults) (state_at b j) p x.written b.waiting r) none
        (subst (λ (c : Core). WentBy d d.room (actions_in d lines) [] (record { core = c; rows = m; faults = a.table.faults }) (state_at b j) a.waiting x.written b.waiting r) v.1
        (subst (λ (k : Rows). WentBy d d.room (actions_in d lines) [] (record { core = a.core; rows = k; faults = a.table.faults }) (state_at b j) a.waiting x.written b.waiting r) v.0
        (subst (λ (z : ℕ). WentBy d z (actions_in d lines) [] (state_at a n) (state_at b j) a.waiting x.written b.waiting r) o.room_set
        (subst (λ (z : Deployment). WentBy z a.table.room (actions_in z lines) [] (state_at a n) (state_at b j) a.waiting x.written b.waiting r) o.code_kept w))))

-- ---- the parts of the program
-- the source was read whole
pub was_read : (o a : Option (List ℕ)) (v : Vec ℕ) (bytes : List ℕ) → bytes ≡ v.items → Observed o a (ReadAllOn max_source (Ok v)) → Observed o a (λ b c. (b ≡ bytes) × (c ≡ []))
was_read o a v bytes same h = told_map {P = ReadAllOn max_source (Ok v)} {Q = λ b c. (b ≡ bytes) × (c ≡ [])} o a (λ b c x. (sym (same ∙ x.0), x.1)) h

-- a source has no fault just where no line of it, and not its deployment, is refused
counted_whole : (d : Deployment) (n : ℕ) (ls : List Numbered) → is_ok (counted d n ls) ≡ is_whole d ls
counted_whole d n [] = refl
counted_whole d n (l ∷ ls) = by_line (said_at d l) (λ m. counted_whole d m ls)
  where
    by_line : (o : Result Line Refusal) → ((m : ℕ) → is_ok (counted d m ls) ≡ is_whole d ls) → is_ok (counted_on n o (λ m. counted d m ls)) ≡ (is_ok o && is_whole d ls)
    by_line (Ok said) later = later (with_line n said)
    by_line (Err x) later = refl

tested_whole : (d : Deployment) (o : Result ℕ Refusal) → is_ok (tested d o) ≡ is_ok o
tested_whole d (Ok n) = refl
tested_whole d (Err x) = refl

is_checked : (bytes : List ℕ) (o : Result Accepted Refusal) → is_ok (check_by bytes o) ≡ is_whole_source bytes o
is_checked bytes (Ok p) = tested_whole p.code (counted p.code 0 (script_of bytes p)) ∙ counted_whole p.code 0 (script_of bytes p)
is_checked bytes (Err x) = refl

-- how a source that was read does not end
abbrev pub is_read_end : Ended → Bool
is_read_end Ended.Usage = false
is_read_end Ended.SourceFault = false
is_read_end Ended.TooLong = false
is_read_end e = true

module _ {K : Type 0} (held : K → Option (List ℕ)) (faults : K → ℕ) where
  -- a text that is all that is said
  text_read : (text : List ℕ) (end : Ended) (k k' : K) (e : Ended) → is_read_end end ≡ true → TextEnds held faults text end k k' e → is_read_end e ≡ true
  text_read text end k k' Ended.SinkFault r x = refl
  text_read text end k k' Ended.OutOfMemory r x = refl
  text_read text end k k' e r x = ap is_read_end x.0 ∙ r

  text_as : (whole : Bool) (text : List ℕ) (end : Ended) (k k' : K) (e : Ended) → AsRead whole end → TextEnds held faults text end k k' e → AsRead whole e
  text_as whole text end k k' Ended.SinkFault a x = tt
  text_as whole text end k k' Ended.OutOfMemory a x = tt
  text_as whole text end k k' e a x = subst (AsRead whole) (sym x.0) a

  -- a source that was tested
  pub untold : (o : Result (List ℕ) Refusal) (k : K) → CheckEnds held faults o k k Ended.OutOfMemory
  untold (Ok text) k = refl
  untold (Err y) k = refl

  checked_read : (o : Result (List ℕ) Refusal) (k k' : K) (e : Ended) → CheckEnds held faults o k k' e → is_read_end e ≡ true
  checked_read (Ok text) k k' e x = text_read text Ended.Done k k' e refl x
  checked_read (Err y) k k' e x = text_read (refusal_text y) Ended.Refused k k' e refl x

  checked_as : (whole : Bool) (o : Result (List ℕ) Refusal) (k k' : K) (e : Ended) → is_ok o ≡ whole → CheckEnds held faults o k k' e → AsRead whole e
  checked_as whole (Ok text) k k' e is x = text_as whole text Ended.Done k k' e (sym is) x
  checked_as whole (Err y) k k' e is x = text_as whole (refusal_text y) Ended.Refused k k' e (sym is) x

  checked_rose : (o : Result (List ℕ) Refusal) (k k' : K) → CheckEnds held faults o k k' Ended.SinkFault → Rose (faults k) (faults k')
  checked_rose (Ok text) k k' x = x.0
  checked_rose (Err y) k k' x = x.0

  checked_link : (o : Result (List ℕ) Refusal) (k k' : K) → CheckEnds held faults o k k' Ended.LinkRefused → ⊥
  checked_link (Ok text) k k' x = let clash = x.0 in cc
  checked_link (Err y) k k' x = let clash = x.0 in cc

  checked_opens : (o : Result (List ℕ) Refusal) (k k' : K) → CheckEnds held faults o k k' Ended.TableFault → ⊥
  checked_opens (Ok text) k k' x = let clash = x.0 in cc
  checked_opens (Err y) k k' x = let clash = x.0 in cc

module _ {K T : Type 0} (held : K → Option (List ℕ)) (faults : K → ℕ) (state : T → TableState) where
  pub session_ends : (d : Deployment) (lines : List Numbered) (k k' : K) (t t' : T) (r : Result Bool Stop) → IfOk r (λ whole. is_whole d lines ≡ whole) → (IsErrOf r SinkFault → Rose (faults k) (faults k'))
      → (w : List ℕ) × Writes (held k) (held k') w × Observed (state t).rows (state t').rows (λ m n. SessionBy r d lines m n (state t).faults (state t').faults w) → SessionEnds held faults state d lines k k' t t' (end_of r)
  session_ends d lines k k' t t' (Ok true) whole fault x = (whole, x)
  session_ends d lines k k' t t' (Ok false) whole fault x = (whole, x)
  session_ends d lines k k' t t' (Err OutOfMemory) whole fault x = inr x
  session_ends d lines k k' t t' (Err SinkFault) whole fault x = (fault refl, x)

  pub not_opened : (k : K) (t t' : T) (why : OpenErr) → Refused (state t) (state t') why → NothingDone held faults state k k t t'
  not_opened k t t' why h = (refl, told_tells (state t).rows (state t').rows (λ m n. n ≡ m) h.rows, h.later)

  -- out of memory before anything was done
  pub unread_source : (bytes : List ℕ) (o : Result Accepted Refusal) (k : K) (t : T) → SourceEnds held faults state bytes o k k t t Ended.OutOfMemory
  unread_source bytes (Ok p) k t = inl (refl, told_same (λ m n. n ≡ m) (state t).rows (λ m. refl), omega arith)
  unread_source bytes (Err x) k t = (refl, refl)

  ends_read : (bytes : List ℕ) (o : Result Accepted Refusal) (k k' : K) (t t' : T) (e : Ended) → SourceEnds held faults state bytes o k k' t t' e → is_read_end e ≡ true
  ends_read bytes (Ok p) k k' t t' Ended.Done x = refl
  ends_read bytes (Ok p) k k' t t' Ended.OutOfMemory x = refl
  ends_read bytes (Ok p) k k' t t' Ended.SinkFault x = refl
  ends_read bytes (Ok p) k k' t t' Ended.Refused x = refl
  ends_read bytes (Ok p) k k' t t' Ended.TableFault x = refl
  ends_read bytes (Ok p) k k' t t' e x = absurd x
  ends_read bytes (Err y) k k' t t' e x = text_read held faults (refusal_text y) Ended.Refused k k' e refl x.1

  as_read : (bytes : List ℕ) (o : Result Accepted Refusal) (k k' : K) (t t' : T) (e : Ended) → SourceEnds held faults state bytes o k k' t t' e → AsRead (is_whole_source bytes o) e
  as_read bytes (Ok p) k k' t t' Ended.Done x = x.0
  as_read bytes (Ok p) k k' t t' Ended.Refused x = x.0
  as_read bytes (Ok p) k k' t t' Ended.Usage x = x
  as_read bytes (Ok p) k k' t t' e x = tt
  as_read bytes (Err y) k k' t t' e x = text_as held faults false (refusal_text y) Ended.Refused k k' e refl x.1

  table_rose : (bytes : List ℕ) (o : Result Accepted Refusal) (k k' : K) (t t' : T) → SourceEnds held faults state bytes o k k' t t' Ended.TableFault
      → Rose (state t).faults (state t').faults × (Observed (state t).rows (state t').rows (λ m n. n ≡ m) × (k' ≡ k))
  table_rose bytes (Ok p) k k' t t' x = (x.0, (x.1.1, x.1.0))
  table_rose bytes (Err y) k k' t t' x = let clash = x.1.0 in cc

  sink_rose : (bytes : List ℕ) (o : Result Accepted Refusal) (k k' : K) (t t' : T) → SourceEnds held faults state bytes o k k' t t' Ended.SinkFault → Rose (faults k) (faults k')
  sink_rose bytes (Ok p) k k' t t' x = x.0
  sink_rose bytes (Err y) k k' t t' x = x.1.0

  not_refused : (bytes : List ℕ) (o : Result Accepted Refusal) (k k' : K) (t t' : T) → SourceEnds held faults state bytes o k k' t t' Ended.LinkRefused → ⊥
  not_refused bytes (Ok p) k k' t t' x = x
  not_refused bytes (Err y) k k' t t' x = let clash = x.1.0 in cc

-- what is so of a service, however it is served
pub record IsProper {K T : Type 0} (held : K → Option (List ℕ)) (faults : K → ℕ) (state : T → TableState) (refused : Type 0) (serving : ServingEnds K T) : Type 0 where
  pub read : (bytes : List ℕ) (requests : ℕ) (k k' : K) (t t' : T) (e : Ended) → serving bytes requests k k' t t' e → is_read_end e ≡ true
  pub as_read : (bytes : List ℕ) (requests : ℕ) (k k' : K) (t t' : T) (e : Ended) → serving bytes requests k k' t t' e → AsRead (is_bare_source bytes (source_at bytes)) e
  pub rose : (bytes : List ℕ) (requests : ℕ) (k k' : K) (t t' : T) → serving bytes requests k k' t t' Ended.SinkFault → Rose (faults k) (faults k')
  pub opens : (bytes : List ℕ) (requests : ℕ) (k k' : K) (t t' : T) → serving bytes requests k k' t t' Ended.TableFault → Rose (state t).faults (state t').faults × (Observed (state t).rows (state t').rows (λ m n. n ≡ m) × (k' ≡ k))
  pub refuses : (bytes : List ℕ) (requests : ℕ) (k k' : K) (t t' : T) → serving bytes requests k k' t t' Ended.LinkRefused → refused

module _ {K T : Type 0} (held : K → Option (List ℕ)) (faults : K → ℕ) (state : T → TableState) (refused : Type 0) (serving : ServingEnds K T) (proper : IsProper held faults state refused serving) where
  -- by the command
  done_read : (c : Command) (bytes : List ℕ) (k k' : K) (t t' : T) (e : Ended) → DoneBy held faults state serving c bytes k k' t t' e → is_read_end e ≡ true
  done_read Run bytes k k' t t' e x = ends_read held faults state bytes (source_at bytes) k k' t t' e x
  done_read Check bytes k k' t t' e x = checked_read held faults (check_at bytes) k k' e x.1
  done_read (Serve port requests) bytes k k' t t' e x = proper.read bytes requests k k' t t' e x
  done_read (Gen seed n) bytes k k' t t' e x = absurd x

  done_as : (c : Command) (bytes : List ℕ) (k k' : K) (t t' : T) (e : Ended) → DoneBy held faults state serving c bytes k k' t t' e → AsRead (is_whole_by c bytes) e
  done_as Run bytes k k' t t' e x = as_read held faults state bytes (source_at bytes) k k' t t' e x
  done_as Check bytes k k' t t' e x = checked_as held faults (is_whole_source bytes (source_at bytes)) (check_at bytes) k k' e (is_checked bytes (source_at bytes)) x.1
  done_as (Serve port requests) bytes k k' t t' e x = proper.as_read bytes requests k k' t t' e x
  done_as (Gen seed n) bytes k k' t t' e x = absurd x

  pub done_rose : (c : Command) (bytes : List ℕ) (k k' : K) (t t' : T) → DoneBy held faults state serving c bytes k k' t t' Ended.SinkFault → Rose (faults k) (faults k')
  done_rose Run bytes k k' t t' x = sink_rose held faults state bytes (source_at bytes) k k' t t' x
  done_rose Check bytes k k' t t' x = checked_rose held faults (check_at bytes) k k' x.1
  done_rose (Serve port requests) bytes k k' t t' x = proper.rose bytes requests k k' t t' x
  done_rose (Gen seed n) bytes k k' t t' x = absurd x

  pub not_hosted : (c : Command) (bytes : List ℕ) (k k' : K) (t t' : T) → DoneBy held faults state serving c bytes k k' t t' Ended.TableFault
      → Rose (state t).faults (state t').faults × (Observed (state t).rows (state t').rows (λ m n. n ≡ m) × (k' ≡ k))
  not_hosted Run bytes k k' t t' x = table_rose held faults state bytes (source_at bytes) k k' t t' x
  not_hosted Check bytes k k' t t' x = absurd (checked_opens held faults (check_at bytes) k k' x.1)
  not_hosted (Serve port requests) bytes k k' t t' x = proper.opens bytes requests k k' t t' x
  not_hosted (Gen seed n) bytes k k' t t' x = absurd x

  -- the link refuses only a service
  done_refused : (c : Command) (bytes : List ℕ) (k k' : K) (t t' : T) → DoneBy held faults state serving c bytes k k' t t' Ended.LinkRefused → refused
  done_refused (Serve port requests) bytes k k' t t' x = proper.refuses bytes requests k k' t t' x
  done_refused Run bytes k k' t t' x = absurd (not_refused held faults state bytes (source_at bytes) k k' t t' x)
  done_refused Check bytes k k' t t' x = absurd (checked_link held faults (check_at bytes) k k' x.1)
  done_refused (Gen seed n) bytes k k' t t' x = absurd x

-- ---- a service
module _ {K T : Type 0} (held : K → Option (List ℕ)) (faults : K → ℕ) (state : T → TableState) {C : Type 0} (tells : C → ℕ → C → Type 0) (link link' : Option Connections) (clock : C) (refused : Type 0) where
  abbrev pub Served : ServingEnds K T
  Served = Serving held faults state tells link link' clock refused

  abbrev Service : Accepted → ℕ → K → K → T → T → Ended → Type 0
  Service p requests k k' t t' e = ServiceEnds held faults state tells link link' clock refused p.code requests k k' t t' e

  -- by the first line after the deployment
  module _ (bytes : List ℕ) (requests : ℕ) (k k' : K) (t t' : T) (e : Ended) (P : Type 0) (hosted : (p : Accepted) → is_bare_source bytes (Ok p) ≡ true → Service p requests k k' t t' e → P)
      (told : (o : Result Accepted Refusal) (x : Refusal) → is_bare_source bytes o ≡ false → (t' ≡ t) × TextEnds held faults (refusal_text x) Ended.Refused k k' e → P) where
    by_line : (p : Accepted) (o : Option Refusal) → first_line (script_of bytes p) ≡ o → BareEnds held faults state tells link link' clock refused p requests o k k' t t' e → P
    by_line p None is x = hosted p (ap is_none is) x
    by_line p (Some y) is x = told (Ok p) y (ap is_none is) x

    by_source : (o : Result Accepted Refusal) → ServeEnds held faults state tells link link' clock refused bytes requests o k k' t t' e → P
    by_source (Ok p) x = by_line p (first_line (script_of bytes p)) refl x
    by_source (Err y) x = told (Err y) y refl x

  service_read : (p : Accepted) (requests : ℕ) (k k' : K) (t t' : T) (e : Ended) → Service p requests k k' t t' e → is_read_end e ≡ true
  service_read p requests k k' t t' Ended.Done x = refl
  service_read p requests k k' t t' Ended.OutOfMemory x = refl
  service_read p requests k k' t t' Ended.SinkFault x = refl
  service_read p requests k k' t t' Ended.LinkRefused x = refl
  service_read p requests k k' t t' Ended.TableFault x = refl
  service_read p requests k k' t t' e x = absurd x

  service_as : (whole : Bool) (p : Accepted) (requests : ℕ) (k k' : K) (t t' : T) (e : Ended) → whole ≡ true → Service p requests k k' t t' e → AsRead whole e
  service_as whole p requests k k' t t' Ended.Done is x = is
  service_as whole p requests k k' t t' Ended.Refused is x = absurd x
  service_as whole p requests k k' t t' Ended.Usage is x = absurd x
  service_as whole p requests k k' t t' e is x = tt

  -- by what the source says
  as_bare : (bytes : List ℕ) (requests : ℕ) (k k' : K) (t t' : T) (e : Ended) (o : Result Accepted Refusal) → ServeEnds held faults state tells link link' clock refused bytes requests o k k' t t' e → AsRead (is_bare_source bytes o) e
  as_bare bytes requests k k' t t' e (Ok p) x = by_first (first_line (script_of bytes p)) x
    where
      by_first : (o : Option Refusal) → BareEnds held faults state tells link link' clock refused p requests o k k' t t' e → AsRead (is_none o) e
      by_first None x = service_as true p requests k k' t t' e refl x
      by_first (Some y) x = text_as held faults false (refusal_text y) Ended.Refused k k' e refl x.1
  as_bare bytes requests k k' t t' e (Err y) x = text_as held faults false (refusal_text y) Ended.Refused k k' e refl x.1

  -- out of memory before anything was done
  pub unread_served : (bytes : List ℕ) (requests : ℕ) (o : Result Accepted Refusal) (k : K) (t : T) → ServeEnds held faults state tells link link' clock refused bytes requests o k k t t Ended.OutOfMemory
  unread_served bytes requests (Ok p) k t = by (first_line (script_of bytes p))
    where
      by : (o : Option Refusal) → BareEnds held faults state tells link link' clock refused p requests o k k t t Ended.OutOfMemory
      by None = inl (refl, told_same (λ m n. n ≡ m) (state t).rows (λ m. refl), omega arith)
      by (Some x) = (refl, refl)
  unread_served bytes requests (Err x) k t = (refl, refl)

  pub is_proper : IsProper held faults state refused Served
  is_proper = record {
    read = λ bytes requests k k' t t' e x. by_source bytes requests k k' t t' e (is_read_end e ≡ true) (λ p is y. service_read p requests k k' t t' e y) (λ o y is z. text_read held faults (refusal_text y) Ended.Refused k k' e refl z.1) (source_at bytes) x;
    as_read = λ bytes requests k k' t t' e x. as_bare bytes requests k k' t t' e (source_at bytes) x;
    rose = λ bytes requests k k' t t' x. by_source bytes requests k k' t t' Ended.SinkFault (Rose (faults k) (faults k')) (λ p is y. y.0) (λ o y is z. z.1.0) (source_at bytes) x;
    opens = λ bytes requests k k' t t' x. by_source bytes requests k k' t t' Ended.TableFault (Rose (state t).faults (state t').faults × (Observed (state t).rows (state t').rows (λ m n. n ≡ m) × (k' ≡ k))) (λ p is y. (y.0, (y.1.1, y.1.0))) (λ o y is z. let clash = z.1.0 in cc) (source_at bytes) x;
    refuses = λ bytes requests k k' t t' x. by_source bytes requests k k' t t' Ended.LinkRefused refused (λ p is y. y.0) (λ o y is z. let clash = z.1.0 in cc) (source_at bytes) x;
  }

-- ---- generated work
module _ {K : Type 0} (held : K → Option (List ℕ)) (faults : K → ℕ) (n : ℕ) (text : List ℕ) (k k' : K) where
  summed_read : (end e : Ended) → is_read_end end ≡ true → SummedUp held faults n text end k k' e → is_read_end e ≡ true
  summed_read Ended.Done e r x = text_read held faults (summary_text n text) Ended.Done k k' e refl x
  summed_read Ended.Refused e r x = text_read held faults text Ended.Refused k k' e refl x
  summed_read Ended.SinkFault e r x = ap is_read_end x.0
  summed_read end e r x = ap is_read_end x.0 ∙ r

  summed_rose : (end : Ended) → SummedUp held faults n text end k k' Ended.SinkFault → Rose (faults k) (faults k')
  summed_rose Ended.Done x = x.0
  summed_rose Ended.Refused x = x.0
  summed_rose end x = let clash = x.0 in cc

  summed_opens : (end : Ended) → SummedUp held faults n text end k k' Ended.TableFault → (end ≡ Ended.TableFault) × (k' ≡ k)
  summed_opens Ended.Done x = let clash = x.0 in cc
  summed_opens Ended.Refused x = let clash = x.0 in cc
  summed_opens Ended.SinkFault x = let clash = x.0 in cc
  summed_opens end x = (sym x.0, x.1)

module _ {K T : Type 0} (held : K → Option (List ℕ)) (faults : K → ℕ) (state : T → TableState) (seed n : ℕ) (k k' : K) (t t' : T) where
  -- the session of a source that is the generated one
  pub generated_by : (e ended : Ended) (bytes text : List ℕ) (first sink : SinkState) → bytes ≡ generated seed n → first ≡ new_sink [] (2 ^ 64 - 1) → text ≡ sink.bytes
      → SourceEnds kept kept_faults state bytes (source_at bytes) first sink t t' ended → SummedUp held faults n text ended k k' e → GeneratedEnds held faults state seed n k k' t t' e
  generated_by e ended bytes text first sink is made same session told = inr (record {
    sink = sink;
    ended = ended;
    session = subst₂ (λ (b : List ℕ) (f : SinkState). SourceEnds kept kept_faults state b (source_at b) f sink t t' ended) is made session;
    told = subst (λ (z : List ℕ). SummedUp held faults n z ended k k' e) same told;
  })

  generated_read : (e : Ended) → GeneratedEnds held faults state seed n k k' t t' e → is_read_end e ≡ true
  generated_read e (inl x) = ap is_read_end x.0
  generated_read e (inr x) = summed_read held faults n x.sink.bytes k k' x.ended e (ends_read kept kept_faults state (generated seed n) (source_at (generated seed n)) _ x.sink t t' x.ended x.session) x.told

  generated_rose : GeneratedEnds held faults state seed n k k' t t' Ended.SinkFault → Rose (faults k) (faults k')
  generated_rose (inl x) = let clash = x.0 in cc
  generated_rose (inr x) = summed_rose held faults n x.sink.bytes k k' x.ended x.told

  generated_refused : GeneratedEnds held faults state seed n k k' t t' Ended.LinkRefused → ⊥
  generated_refused (inl x) = let clash = x.0 in cc
  generated_refused (inr x) = by_session x.ended x.session x.told
    where
      by_session : (ended : Ended) → SourceEnds kept kept_faults state (generated seed n) (source_at (generated seed n)) (new_sink [] (2 ^ 64 - 1)) x.sink t t' ended → SummedUp held faults n x.sink.bytes ended k k' Ended.LinkRefused → ⊥
      by_session Ended.Done s t = let clash = t.0 in cc
      by_session Ended.Refused s t = let clash = t.0 in cc
      by_session Ended.SinkFault s t = let clash = t.0 in cc
      by_session Ended.LinkRefused s u = not_refused kept kept_faults state (generated seed n) (source_at (generated seed n)) (new_sink [] (2 ^ 64 - 1)) x.sink t t' s
      by_session end s t = let clash = t.0 in cc

  generated_opens : GeneratedEnds held faults state seed n k k' t t' Ended.TableFault → Rose (state t).faults (state t').faults × (Observed (state t).rows (state t').rows (λ m n. n ≡ m) × (k' ≡ k))
  generated_opens (inl x) = let clash = x.0 in cc
  generated_opens (inr x) =
      let o = summed_opens held faults n x.sink.bytes k k' x.ended x.told in
      let w = table_rose kept kept_faults state (generated seed n) (source_at (generated seed n)) _ x.sink t t' (subst (λ z. SourceEnds kept kept_faults state (generated seed n) (source_at (generated seed n)) (new_sink [] (2 ^ 64 - 1)) x.sink t t' z) o.0 x.session) in
      (w.0, (w.1.0, o.1))

-- ---- memory ran out before a command was read
module _ {S K T : Type 0} (left : S → Option (List ℕ)) (source_faults : S → ℕ) (held : K → Option (List ℕ)) (faults : K → ℕ) (state : T → TableState) (serving : ServingEnds K T) (s : S) (k : K) (t : T) where
  short_source : (c : Command) → SourceCommandEnds left source_faults held faults state serving c s s k k t t Ended.OutOfMemory
  short_source c = inl (told_same (TookPrefix (max_source + 1)) (left s) (λ b. ([], refl, omega arith)), refl, refl)

  pub short_words : (words : Option Command) → Ends left source_faults held faults state serving words s s k k t t Ended.OutOfMemory
  short_words None = (refl, refl, refl)
  short_words (Some (Gen seed n)) = (refl, inl (refl, refl, refl))
  short_words (Some c) = short_source c

-- ---- what is read off the ending
module _ {S K T : Type 0} (left : S → Option (List ℕ)) (source_faults : S → ℕ) (held : K → Option (List ℕ)) (faults : K → ℕ) (state : T → TableState) (refused : Type 0) (serving : ServingEnds K T) (proper : IsProper held faults state refused serving) (s s' : S) (k k' : K) (t t' : T) where
  pub command_ends : (c : Command) (e : Ended) → ReadEnds left source_faults held faults state serving c s s' k k' t t' e → SourceCommandEnds left source_faults held faults state serving c s s' k k' t t' e
  command_ends c Ended.OutOfMemory x = inr x
  command_ends c Ended.Usage x = let clash = done_read held faults state refused serving proper c x.0 k k' t t' Ended.Usage x.3 in cc
  command_ends c Ended.SourceFault x = let clash = done_read held faults state refused serving proper c x.0 k k' t t' Ended.SourceFault x.3 in cc
  command_ends c Ended.TooLong x = let clash = done_read held faults state refused serving proper c x.0 k k' t t' Ended.TooLong x.3 in cc
  command_ends c e x = x

  -- what is so of each command that reads the source, and of generated work
  by_command : (e : Ended) (P : Type 0) → ((c : Command) → SourceCommandEnds left source_faults held faults state serving c s s' k k' t t' e → P) → ((seed n : ℕ) → GeneratedEnds held faults state seed n k k' t t' e → P)
      → (c : Command) → CommandEnds left source_faults held faults state serving c s s' k k' t t' e → P
  by_command e P f g Run x = f Run x
  by_command e P f g Check x = f Check x
  by_command e P f g (Serve port requests) x = f (Serve port requests) x
  by_command e P f g (Gen seed n) x = g seed n x.1

  pub not_command : (o : Option Command) → Ends left source_faults held faults state serving o s s' k k' t t' Ended.Usage → o ≡ None
  not_command (Some c) x = absurd (by_command Ended.Usage ⊥ (λ c x. x) (λ seed n x. let clash = generated_read held faults state seed n k k' t t' Ended.Usage x in cc) c x)
  not_command None x = refl

  other_words : (e : Ended) → TextEnds held faults usage Ended.Usage k k' e → (status_of e ≡ 2) ⊎ (status_of e ≡ 4) ⊎ (status_of e ≡ 1)
  other_words Ended.SinkFault x = inr (inl refl)
  other_words Ended.OutOfMemory x = inr (inr refl)
  other_words e x = inl (ap status_of x.0)

  pub usage_told : (o : Option Command) (e : Ended) → o ≡ None → Ends left source_faults held faults state serving o s s' k k' t t' e → (t' ≡ t) × ((status_of e ≡ 2) ⊎ (status_of e ≡ 4) ⊎ (status_of e ≡ 1))
  usage_told (Some c) e h x = cc
  usage_told None e h x = (x.1, other_words e x.2)

  pub unread : (o : Option Command) (e : Ended) → reads_source o ≡ false → Ends left source_faults held faults state serving o s s' k k' t t' e → s' ≡ s
  unread (Some Run) e h x = cc
  unread (Some Check) e h x = cc
  unread (Some (Serve port requests)) e h x = cc
  unread (Some (Gen seed n)) e h x = x.0
  unread None e h x = x.0

  pub source_fault : (o : Option Command) → Ends left source_faults held faults state serving o s s' k k' t t' Ended.SourceFault → Rose (source_faults s) (source_faults s')
  source_fault (Some c) x = by_command Ended.SourceFault (Rose (source_faults s) (source_faults s')) (λ c x. x.0) (λ seed n x. let clash = generated_read held faults state seed n k k' t t' Ended.SourceFault x in cc) c x
  source_fault None x = let clash = x.2.0 in cc

  pub sink_fault : (o : Option Command) → Ends left source_faults held faults state serving o s s' k k' t t' Ended.SinkFault → Rose (faults k) (faults k')
  sink_fault (Some c) x = by_command Ended.SinkFault (Rose (faults k) (faults k')) (λ c x. done_rose held faults state refused serving proper c x.0 k k' t t' x.3) (λ seed n x. generated_rose held faults state seed n k k' t t' x) c x
  sink_fault None x = x.2.0

  pub link_refusal : (o : Option Command) → Ends left source_faults held faults state serving o s s' k k' t t' Ended.LinkRefused → refused
  link_refusal (Some c) x = by_command Ended.LinkRefused refused (λ c x. done_refused held faults state refused serving proper c x.0 k k' t t' x.3) (λ seed n x. absurd (generated_refused held faults state seed n k k' t t' x)) c x
  link_refusal None x = let clash = x.2.0 in cc

  pub open_fault : (o : Option Command) → Ends left source_faults held faults state serving o s s' k k' t t' Ended.TableFault → Rose (state t).faults (state t').faults × (Observed (state t).rows (state t').rows (λ m n. n ≡ m) × (k' ≡ k))
  open_fault (Some c) x = by_command Ended.TableFault _ (λ c x. not_hosted held faults state refused serving proper c x.0 k k' t t' x.3) (λ seed n x. generated_opens held faults state seed n k k' t t' x) c x
  open_fault None x = let clash = x.2.0 in cc

  pub untouched : (o : Option Command) (e : Ended) → Ends left source_faults held faults state serving o s s' k k' t t' e → Untouched e (t' ≡ t) (Observed (state t).rows (state t').rows (λ m n. n ≡ m)) (k' ≡ k)
  untouched (Some c) Ended.SourceFault x = by_command Ended.SourceFault ((t' ≡ t) × (k' ≡ k)) (λ c x. (x.2, x.3)) (λ seed n x. let clash = generated_read held faults state seed n k k' t t' Ended.SourceFault x in cc) c x
  untouched (Some c) Ended.TooLong x = by_command Ended.TooLong ((t' ≡ t) × (k' ≡ k)) (λ c x. (x.1, x.2)) (λ seed n x. let clash = generated_read held faults state seed n k k' t t' Ended.TooLong x in cc) c x
  untouched o Ended.TableFault x = (open_fault o x).1
  untouched None Ended.SourceFault x = let clash = x.2.0 in cc
  untouched None Ended.TooLong x = let clash = x.2.0 in cc
  untouched o e x = tt

  -- to test a source leaves the table
  pub tested_leaves : (e : Ended) → Ends left source_faults held faults state serving (Some Check) s s' k k' t t' e → t' ≡ t
  tested_leaves Ended.Usage x = absurd x
  tested_leaves Ended.SourceFault x = x.2
  tested_leaves Ended.TooLong x = x.1
  tested_leaves Ended.OutOfMemory x = elim x [
    | inl y ↦ y.1
    | inr y ↦ y.3.0
  ]
  tested_leaves e x = x.3.0

  abbrev Long : Ended → Type 0
  Long e = Observed (left s) (left s') (λ b c. LongOn b c e)

  short : (e : Ended) → is_read_end e ≡ true → (b c bytes : List ℕ) → length bytes ≤ max_source → b ≡ bytes → LongOn b c e
  short Ended.TooLong is b c bytes l same = cc
  short e is b c bytes l same = inl (subst (λ (z : List ℕ). length z ≤ max_source) (sym same) l)

  read_short : (c : Command) (e : Ended) → ReadEnds left source_faults held faults state serving c s s' k k' t t' e → Long e
  read_short c e x = told_map {P = λ b c. (b ≡ x.0) × (c ≡ [])} {Q = λ b c. LongOn b c e} (left s) (left s') (λ b a v. short e (done_read held faults state refused serving proper c x.0 k k' t t' e x.3) b a x.0 x.1 v.0) x.2

  source_long : (c : Command) (e : Ended) → SourceCommandEnds left source_faults held faults state serving c s s' k k' t t' e → Long e
  source_long c Ended.Usage x = absurd x
  source_long c Ended.SourceFault x = told_map {P = TookPrefix max_source} {Q = λ b c. LongOn b c Ended.SourceFault} (left s) (left s') (λ b c v. inr (inl refl)) x.1
  source_long c Ended.TooLong x = x.0
  source_long c Ended.OutOfMemory x = elim x [
    | inl y ↦ told_map {P = TookPrefix (max_source + 1)} {Q = λ b c. LongOn b c Ended.OutOfMemory} (left s) (left s') (λ b c v. inr (inr refl)) y.0
    | inr y ↦ read_short c Ended.OutOfMemory y
  ]
  source_long c e x = read_short c e x

  pub too_long : (o : Option Command) (e : Ended) → reads_source o ≡ true → Ends left source_faults held faults state serving o s s' k k' t t' e → Long e
  too_long None e h x = cc
  too_long (Some Run) e h x = source_long Run e x
  too_long (Some Check) e h x = source_long Check e x
  too_long (Some (Serve port requests)) e h x = source_long (Serve port requests) e x
  too_long (Some (Gen seed n)) e h x = cc

  read_as : (c : Command) (o a : Option (List ℕ)) (bytes : List ℕ) (e : Ended) → Observed o a (λ b c. (b ≡ bytes) × (c ≡ [])) → AsRead (is_whole_by c bytes) e → SourceAsRead c o e
  read_as c None a bytes e t h = tt
  read_as c (Some b) None bytes e t h = absurd t
  read_as c (Some b) (Some d) bytes e t h = subst (λ z. AsRead (is_whole_by c z) e) (sym t.0) h

  any_read : (c : Command) (o : Option (List ℕ)) (e : Ended) → ((whole : Bool) → AsRead whole e) → SourceAsRead c o e
  any_read c None e h = tt
  any_read c (Some b) e h = h (is_whole_by c b)

  read_refused : (c : Command) (e : Ended) → ReadEnds left source_faults held faults state serving c s s' k k' t t' e → SourceAsRead c (left s) e
  read_refused c e x = read_as c (left s) (left s') x.0 e x.2 (done_as held faults state refused serving proper c x.0 k k' t t' e x.3)

  source_refused : (c : Command) (e : Ended) → SourceCommandEnds left source_faults held faults state serving c s s' k k' t t' e → SourceAsRead c (left s) e
  source_refused c Ended.Usage x = absurd x
  source_refused c Ended.SourceFault x = any_read c (left s) Ended.SourceFault (λ w. tt)
  source_refused c Ended.TooLong x = any_read c (left s) Ended.TooLong (λ w. tt)
  source_refused c Ended.OutOfMemory x = any_read c (left s) Ended.OutOfMemory (λ w. tt)
  source_refused c e x = read_refused c e x

  pub read_refused_by : (o : Option Command) (e : Ended) → reads_source o ≡ true → Ends left source_faults held faults state serving o s s' k k' t t' e → WordsAsRead o (left s) e
  read_refused_by None e h x = cc
  read_refused_by (Some Run) e h x = source_refused Run e x
  read_refused_by (Some Check) e h x = source_refused Check e x
  read_refused_by (Some (Serve port requests)) e h x = source_refused (Serve port requests) e x
  read_refused_by (Some (Gen seed n)) e h x = cc

-- ---- the status
abbrev decode : ℕ → Ended
decode zero = Ended.Done
decode (suc zero) = Ended.OutOfMemory
decode (suc (suc zero)) = Ended.Usage
decode (suc (suc (suc zero))) = Ended.SourceFault
decode (suc (suc (suc (suc zero)))) = Ended.SinkFault
decode (suc (suc (suc (suc (suc zero))))) = Ended.Refused
decode (suc (suc (suc (suc (suc (suc zero)))))) = Ended.LinkRefused
decode (suc (suc (suc (suc (suc (suc (suc zero))))))) = Ended.TooLong
decode n = Ended.TableFault

decoded : (e : Ended) → decode (status_of e) ≡ e
decoded Ended.Done = refl
decoded Ended.OutOfMemory = refl
decoded Ended.Usage = refl
decoded Ended.SourceFault = refl
decoded Ended.SinkFault = refl
decoded Ended.Refused = refl
decoded Ended.LinkRefused = refl
decoded Ended.TooLong = refl
decoded Ended.TableFault = refl

-- a status has one ending
pub same_end : (e f : Ended) → status_of e ≡ status_of f → e ≡ f
same_end e f h = sym (decoded e) ∙ ap decode h ∙ decoded f

-- ---- a source that is not refused
module _ (c : Command) (b : List ℕ) (P Q R : Type 0) (p : P → ⊥) (q : Q → ⊥) (r : R → ⊥) (short : length b ≤ max_source) (whole : is_whole_by c b ≡ true) where
  done_or_short : (e : Ended) → AsRead (is_whole_by c b) e → (after : List ℕ) → LongOn b after e → (e ≡ Ended.SourceFault → P) → (e ≡ Ended.SinkFault → Q) → (e ≡ Ended.LinkRefused → R) → (status_of e ≡ 0) ⊎ (status_of e ≡ 1) ⊎ (status_of e ≡ 8)
  done_or_short Ended.Done a after l s t u = inl refl
  done_or_short Ended.OutOfMemory a after l s t u = inr (inl refl)
  done_or_short Ended.Usage a after l s t u = absurd a
  done_or_short Ended.SourceFault a after l s t u = absurd (p (s refl))
  done_or_short Ended.SinkFault a after l s t u = absurd (q (t refl))
  done_or_short Ended.Refused a after l s t u = absurd (false≢true (sym a ∙ whole))
  done_or_short Ended.LinkRefused a after l s t u = absurd (r (u refl))
  done_or_short Ended.TooLong a after l s t u = absurd (omega (arith, short, l.0))
  done_or_short Ended.TableFault a after l s t u = inr (inr refl)

pub completed : (words : Option Command) (o a : Option (List ℕ)) (e : Ended) (P Q R : Type 0) → WordsAsRead words o e → Observed o a (λ b c. LongOn b c e) → (e ≡ Ended.SourceFault → P) → (e ≡ Ended.SinkFault → Q) → (e ≡ Ended.LinkRefused → R) → (P → ⊥) → (Q → ⊥) → (R → ⊥)
    → Observed o a (λ b c. length b ≤ max_source → is_whole_asked words b ≡ true → (status_of e ≡ 0) ⊎ (status_of e ≡ 1) ⊎ (status_of e ≡ 8))
completed words None a e P Q R read l s t u p q r = tt
completed words (Some b) None e P Q R read l s t u p q r = l
completed None (Some b) (Some c) e P Q R read l s t u p q r = λ short whole. cc
completed (Some w) (Some b) (Some c) e P Q R read l s t u p q r = λ short whole. done_or_short w b P Q R p q r short whole e read c l s t u

-- ---- what the clauses of `top` say is read off how the program ended, and the status
module _ {S K T : Type 0} {left : S → Option (List ℕ)} {source_faults : S → ℕ} {held : K → Option (List ℕ)} {faults : K → ℕ} {state : T → TableState} {serving : ServingEnds K T} {words : Option Command} {s s' : S} {k k' : K} {t t' : T} {e : Ended} {refused : Type 0} (proper : IsProper held faults state refused serving)
    (x : HasEnded left source_faults held faults state serving words s s' k k' t t' e) (n : ℕ) (is : n ≡ status_of e) where
  by_ending : (f : Ended) → e ≡ f → Ends left source_faults held faults state serving words s s' k k' t t' f
  by_ending f h = subst (Ends left source_faults held faults state serving words s s' k k' t t') h x.ends

  by_status : (f : Ended) → n ≡ status_of f → Ends left source_faults held faults state serving words s s' k k' t t' f
  by_status f h = by_ending f (same_end e f (sym is ∙ h))

  pub usage_at : (n ≡ 2 → words ≡ None) × (words ≡ None → (n ≡ 2) ⊎ (n ≡ 4) ⊎ (n ≡ 1))
  usage_at = (
    λ h. not_command left source_faults held faults state refused serving proper s s' k k' t t' words (by_status Ended.Usage h),
    λ h. subst (λ (z : ℕ). (z ≡ 2) ⊎ (z ≡ 4) ⊎ (z ≡ 1)) (sym is) (usage_told left source_faults held faults state refused serving proper s s' k k' t t' words e h x.ends).1,
  )

  pub source_fault_at : n ≡ 3 → Rose (source_faults s) (source_faults s')
  source_fault_at h = source_fault left source_faults held faults state refused serving proper s s' k k' t t' words (by_status Ended.SourceFault h)

  pub sink_fault_at : n ≡ 4 → Rose (faults k) (faults k')
  sink_fault_at h = sink_fault left source_faults held faults state refused serving proper s s' k k' t t' words (by_status Ended.SinkFault h)

  pub open_fault_at : n ≡ 8 → Rose (state t).faults (state t').faults
  open_fault_at h = (open_fault left source_faults held faults state refused serving proper s s' k k' t t' words (by_status Ended.TableFault h)).0

  pub session_at : ByStatus n (Ends left source_faults held faults state serving words s s' k k' t t')
  session_at = (e, is, x.ends)

  pub too_long_at : reads_source words ≡ true → ByStatus n (λ e. Observed (left s) (left s') (λ b c. LongOn b c e))
  too_long_at h = (e, is, too_long left source_faults held faults state refused serving proper s s' k k' t t' words e h x.ends)

  pub link_refused_at : n ≡ 6 → refused
  link_refused_at h = link_refusal left source_faults held faults state refused serving proper s s' k k' t t' words (by_status Ended.LinkRefused h)

  pub refused_at : reads_source words ≡ true → ByStatus n (λ e. WordsAsRead words (left s) e)
  refused_at h = (e, is, read_refused_by left source_faults held faults state refused serving proper s s' k k' t t' words e h x.ends)

  pub untouched_at : ByStatus n (λ e. Untouched e (t' ≡ t) (Observed (state t).rows (state t').rows (λ m n. n ≡ m)) (k' ≡ k))
  untouched_at = (e, is, untouched left source_faults held faults state refused serving proper s s' k k' t t' words e x.ends)

  pub unread_at : (reads_source words ≡ false → s' ≡ s) × (words ≡ None → t' ≡ t)
  unread_at = (λ h. unread left source_faults held faults state refused serving proper s s' k k' t t' words e h x.ends, λ h. (usage_told left source_faults held faults state refused serving proper s s' k k' t t' words e h x.ends).0)

  pub complete_at : reads_source words ≡ true → (Rose (source_faults s) (source_faults s') → ⊥) → (Rose (faults k) (faults k') → ⊥) → (refused → ⊥)
      → Observed (left s) (left s') (λ b c. length b ≤ max_source → is_whole_asked words b ≡ true → (n ≡ 0) ⊎ (n ≡ 1) ⊎ (n ≡ 8))
  complete_at h p q r =
      subst (λ (z : ℕ). Observed (left s) (left s') (λ b c. length b ≤ max_source → is_whole_asked words b ≡ true → (z ≡ 0) ⊎ (z ≡ 1) ⊎ (z ≡ 8))) (sym is)
      (completed words (left s) (left s') e (Rose (source_faults s) (source_faults s')) (Rose (faults k) (faults k')) refused (read_refused_by left source_faults held faults state refused serving proper s s' k k' t t' words e h x.ends) (too_long left source_faults held faults state refused serving proper s s' k k' t t' words e h x.ends)
      (λ f. source_fault left source_faults held faults state refused serving proper s s' k k' t t' words (by_ending Ended.SourceFault f))
      (λ f. sink_fault left source_faults held faults state refused serving proper s s' k k' t t' words (by_ending Ended.SinkFault f))
      (λ f. link_refusal left source_faults held faults state refused serving proper s s' k k' t t' words (by_ending Ended.LinkRefused f)) p q r)

  pub tested_at : words ≡ Some Check → t' ≡ t
  tested_at h = tested_leaves left source_faults held faults state refused serving proper s s' k k' t t' e (subst (λ o. Ends left source_faults held faults state serving o s s' k k' t t' e) h x.ends)
