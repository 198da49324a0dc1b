-- How the program ends: the cause of each way of ending, and what it leaves of the source, the sink and the table.
use Rattle.std.specs.Prelude.{◌≡◌, ◌⊎◌, ◌≤◌, ◌<◌, ◌+◌, ◌-◌, ◌^◌, ℕ, length, Bool, true, false, is_none, List, [], drop, Option, Some, None, Result, Ok, Err, codes}
use Rattle.beldi_tree.specs.declared.deployment.Deployment.{Deployment}
use Rattle.beldi_row.specs.Table.{Rows, TableState}
use Rattle.beldi_outside.specs.{Connection.Connections, Memory.SinkState, Memory.new_sink, Outside.IsPrefixOf, Outside.Observed, Outside.Rose, Outside.TookPrefix, Outside.max_source, declared.transfer.ReadErr.ReadErr}
use Rattle.beldi_command.specs.declared.command.Command.{Command, TheVariants.Run, TheVariants.Check, TheVariants.Serve, TheVariants.Gen}
use Rattle.beldi_generator.specs.{Generated.generated, Summary.summary_text}
use Rattle.beldi_session.specs.{declared.refusal.Refusal.Refusal, declared.source.Accepted.Accepted, declared.session.Stop.Stop, Refusal.refusal_text, Script.Action, Script.actions_in, Script.is_whole, Session.Writes, Source.Numbered, Source.first_line, Source.script_of, Source.source_at, Check.check_at}
use Rattle.beldi_program.specs.{declared.program.Ended.Ended, Hosted.Hosted, PlainRun.Session, Service.ServedTo, Service.Service}

abbrev pub usage : List ℕ
usage = codes "usage: beldi [--db PATH] run | check | serve --port P --requests M | gen SEED N\n"

-- ---- a session over a deployment, from the rows m to the rows n, with the text that was written: what was said, and how the host
-- moved to it. The numbers f and g are the table's count of failures before and after.
-- all actions of the lines were done, and all text was written
pub record Whole (d : Deployment) (lines : List Numbered) (m n : Rows) (f g : ℕ) (written : List ℕ) : Type 0 where
  pub session : Session d (actions_in d lines) [] m n written []
  pub hosted : Hosted d (actions_in d lines) [] session.responses m n f g

-- the first actions were done, but for `more`, and a front of the text was written; then it stopped
pub record Cut (d : Deployment) (lines : List Numbered) (m n : Rows) (f g : ℕ) (written : List ℕ) : Type 0 where
  pub more : List Action
  pub rest : List ℕ
  pub session : Session d (actions_in d lines) more m n written rest
  pub hosted : Hosted d (actions_in d lines) more session.responses m n f g

-- ---- by how the program ended. A sink is seen by what it got and its faults ..
module _ {K : Type 0} (held : K → Option (List ℕ)) (faults : K → ℕ) where
  -- all of a text was written
  abbrev pub Wrote : List ℕ → K → K → Type 0
  Wrote text k k' = Writes (held k) (held k') text

  -- the sink failed, and a front of the text was written
  abbrev pub WroteFront : List ℕ → K → K → Type 0
  WroteFront text k k' = Rose (faults k) (faults k') × ((written : List ℕ) × IsPrefixOf written text × Wrote written k k')

  -- this text is all that is said, and then the program ends so, unless the sink failed or memory ran out
  abbrev pub TextEnds : List ℕ → Ended → K → K → Ended → Type 0
  TextEnds text end k k' Ended.SinkFault = WroteFront text k k'
  TextEnds text end k k' Ended.OutOfMemory = k' ≡ k
  TextEnds text end k k' e = (e ≡ end) × Wrote text k k'

  -- a source was tested: by what it comes to, that is told, or its refusal
  abbrev pub CheckEnds : Result (List ℕ) Refusal → K → K → Ended → Type 0
  CheckEnds (Ok text) k k' e = TextEnds text Ended.Done k k' e
  CheckEnds (Err x) k k' e = TextEnds (refusal_text x) Ended.Refused k k' e

  -- generated work with so many requests: by how the session of its source ended, with that session's text. Of a whole one the
  -- summary alone is told.
  abbrev pub SummedUp : ℕ → List ℕ → Ended → K → K → Ended → Type 0
  SummedUp n text Ended.Done k k' e = TextEnds (summary_text n text) Ended.Done k k' e
  SummedUp n text Ended.Refused k k' e = TextEnds text Ended.Refused k k' e
  SummedUp n text Ended.SinkFault k k' e = (e ≡ Ended.OutOfMemory) × (k' ≡ k)
  SummedUp n text end k k' e = (e ≡ end) × (k' ≡ k)

abbrev pub unread_by : ReadErr → Ended
unread_by ReadErr.OutOfMemory = Ended.OutOfMemory
unread_by ReadErr.Failed = Ended.SourceFault
unread_by ReadErr.TooLong = Ended.TooLong

-- the commands that read a source
abbrev pub reads : Command → Bool
reads (Gen seed n) = false
reads c = true

abbrev pub reads_source : Option Command → Bool
reads_source None = false
reads_source (Some c) = reads c

-- a sink in memory: what it got, and its faults
abbrev pub kept : SinkState → Option (List ℕ)
kept s = Some s.bytes

abbrev pub kept_faults : SinkState → ℕ
kept_faults s = s.plan.faults

-- .. a table by its state
module _ {K T : Type 0} (held : K → Option (List ℕ)) (faults : K → ℕ) (state : T → TableState) where
  -- nothing was done or written
  abbrev pub NothingDone : K → K → T → T → Type 0
  NothingDone k k' t t' = (k' ≡ k) × Observed (state t).rows (state t').rows (λ m n. n ≡ m) × ((state t).faults ≤ (state t').faults)

  -- a session and its text: the one that the sink got, where it tells it; and what came of the rows, where they are told
  abbrev pub Ran : (Rows → Rows → ℕ → ℕ → List ℕ → Type 0) → K → K → T → T → Type 0
  Ran Leads k k' t t' = (written : List ℕ) × Writes (held k) (held k') written × Observed (state t).rows (state t').rows (λ m n. Leads m n (state t).faults (state t').faults written)

  -- the lines of a deployment are carried out
  abbrev pub SessionEnds : Deployment → List Numbered → K → K → T → T → Ended → Type 0
  SessionEnds d lines k k' t t' Ended.Done = (is_whole d lines ≡ true) × Ran (Whole d lines) k k' t t'
  SessionEnds d lines k k' t t' Ended.Refused = (is_whole d lines ≡ false) × Ran (Whole d lines) k k' t t'
  SessionEnds d lines k k' t t' Ended.OutOfMemory = NothingDone k k' t t' ⊎ Ran (Cut d lines) k k' t t'
  SessionEnds d lines k k' t t' Ended.SinkFault = Rose (faults k) (faults k') × Ran (Cut d lines) k k' t t'
  SessionEnds d lines k k' t t' Ended.TableFault = Rose (state t).faults (state t').faults × NothingDone k k' t t'
  SessionEnds d lines k k' t t' e = ⊥

  -- by what the source says: its deployment was read, keeps every rule and can be carried out; or it is refused
  abbrev pub SourceEnds : List ℕ → Result Accepted Refusal → K → K → T → T → Ended → Type 0
  SourceEnds bytes (Ok p) k k' t t' e = SessionEnds p.code (script_of bytes p) k k' t t' e
  SourceEnds bytes (Err x) k k' t t' e = (t' ≡ t) × TextEnds held faults (refusal_text x) Ended.Refused k k' e

  -- connections are served over a deployment, from a link to another and from a clock on; the link refused only where `refused` is so
  module _ {C : Type 0} (tells : C → ℕ → C → Type 0) (link link' : Option Connections) (clock : C) (refused : Type 0) where
    abbrev pub ServiceRan : Deployment → ℕ → Ended → K → K → T → T → Type 0
    ServiceRan d requests e k k' t t' = Ran (λ m n f g written. ServedTo d requests link' written (Service tells d m n f g link clock) e) k k' t t'

    abbrev pub ServiceEnds : Deployment → ℕ → K → K → T → T → Ended → Type 0
    ServiceEnds d requests k k' t t' Ended.Done = ServiceRan d requests Ended.Done k k' t t'
    ServiceEnds d requests k k' t t' Ended.LinkRefused = refused × ServiceRan d requests Ended.LinkRefused k k' t t'
    ServiceEnds d requests k k' t t' Ended.OutOfMemory = NothingDone k k' t t' ⊎ ServiceRan d requests Ended.OutOfMemory k k' t t'
    ServiceEnds d requests k k' t t' Ended.SinkFault = Rose (faults k) (faults k') × ServiceRan d requests Ended.SinkFault k k' t t'
    ServiceEnds d requests k k' t t' Ended.TableFault = Rose (state t).faults (state t').faults × NothingDone k k' t t'
    ServiceEnds d requests k k' t t' e = ⊥

    -- .. over a source: its deployment was read and keeps every rule, and no line of a script follows it; or it is refused
    abbrev pub BareEnds : Accepted → ℕ → Option Refusal → K → K → T → T → Ended → Type 0
    BareEnds p requests None k k' t t' e = ServiceEnds p.code requests k k' t t' e
    BareEnds p requests (Some x) k k' t t' e = (t' ≡ t) × TextEnds held faults (refusal_text x) Ended.Refused k k' e

    abbrev pub ServeEnds : List ℕ → ℕ → Result Accepted Refusal → K → K → T → T → Ended → Type 0
    ServeEnds bytes requests (Ok p) k k' t t' e = BareEnds p requests (first_line (script_of bytes p)) k k' t t' e
    ServeEnds bytes requests (Err x) k k' t t' e = (t' ≡ t) × TextEnds held faults (refusal_text x) Ended.Refused k k' e

    abbrev pub Serving : List ℕ → ℕ → K → K → T → T → Ended → Type 0
    Serving bytes requests k k' t t' e = ServeEnds bytes requests (source_at bytes) k k' t t' e

-- what serving a source comes to
abbrev pub ServingEnds : Type 0 → Type 0 → Type 1
ServingEnds K T = List ℕ → ℕ → K → K → T → T → Ended → Type 0

module _ {K T : Type 0} (held : K → Option (List ℕ)) (faults : K → ℕ) (state : T → TableState) (serving : ServingEnds K T) where
  -- by the command, once the source was read. To test it leaves the table as it was handed in.
  abbrev pub DoneBy : Command → List ℕ → K → K → T → T → Ended → Type 0
  DoneBy (Serve port requests) bytes k k' t t' e = serving bytes requests k k' t t' e
  DoneBy Run bytes k k' t t' e = SourceEnds held faults state bytes (source_at bytes) k k' t t' e
  DoneBy Check bytes k k' t t' e = (t' ≡ t) × CheckEnds held faults (check_at bytes) k k' e
  DoneBy c bytes k k' t t' e = ⊥

-- generated work: a session of the generated source, with a sink in memory, is summed up; or memory ran out before it
module _ {K T : Type 0} (held : K → Option (List ℕ)) (faults : K → ℕ) (state : T → TableState) where
  pub record Generated (seed n : ℕ) (k k' : K) (t t' : T) (e : Ended) : Type 0 where
    pub sink : SinkState
    pub ended : Ended
    pub session : SourceEnds kept kept_faults state (generated seed n) (source_at (generated seed n)) (new_sink [] (2 ^ 64 - 1)) sink t t' ended
    pub told : SummedUp held faults n sink.bytes ended k k' e

  abbrev pub GeneratedEnds : ℕ → ℕ → K → K → T → T → Ended → Type 0
  GeneratedEnds seed n k k' t t' e = ((e ≡ Ended.OutOfMemory) × (k' ≡ k) × (t' ≡ t)) ⊎ Generated seed n k k' t t' e

-- .. and a source by the bytes that it has left and its faults
module _ {S K T : Type 0} (left : S → Option (List ℕ)) (source_faults : S → ℕ) (held : K → Option (List ℕ)) (faults : K → ℕ) (state : T → TableState) (serving : ServingEnds K T) where
  -- the source was read: these are all of its bytes, and no more than it may have
  abbrev pub ReadEnds : Command → S → S → K → K → T → T → Ended → Type 0
  ReadEnds c s s' k k' t t' e = (bytes : List ℕ) × (length bytes ≤ max_source) × Observed (left s) (left s') (λ b c. (b ≡ bytes) × (c ≡ [])) × DoneBy held faults state serving c bytes k k' t t' e

  -- a command that reads the source: it is read, unless it failed, has more bytes than it may, of which just one more was taken, or
  -- memory ran out; then nothing is done or written
  abbrev pub SourceCommandEnds : Command → S → S → K → K → T → T → Ended → Type 0
  SourceCommandEnds c s s' k k' t t' Ended.Usage = ⊥
  SourceCommandEnds c s s' k k' t t' Ended.SourceFault = Rose (source_faults s) (source_faults s') × Observed (left s) (left s') (TookPrefix max_source) × (t' ≡ t) × (k' ≡ k)
  SourceCommandEnds c s s' k k' t t' Ended.TooLong = Observed (left s) (left s') (λ b c. (max_source < length b) × (c ≡ drop (max_source + 1) b)) × (t' ≡ t) × (k' ≡ k)
  SourceCommandEnds c s s' k k' t t' Ended.OutOfMemory = (Observed (left s) (left s') (TookPrefix (max_source + 1)) × (t' ≡ t) × (k' ≡ k)) ⊎ ReadEnds c s s' k k' t t' Ended.OutOfMemory
  SourceCommandEnds c s s' k k' t t' e = ReadEnds c s s' k k' t t' e

  -- the words are those of a command: generated work reads nothing of the source
  abbrev pub CommandEnds : Command → S → S → K → K → T → T → Ended → Type 0
  CommandEnds (Gen seed n) s s' k k' t t' e = (s' ≡ s) × GeneratedEnds held faults state seed n k k' t t' e
  CommandEnds c s s' k k' t t' e = SourceCommandEnds c s s' k k' t t' e

  -- by what the words ask for: none of the commands, and the usage is told; or one of them
  abbrev pub Ends : Option Command → S → S → K → K → T → T → Ended → Type 0
  Ends (Some c) s s' k k' t t' e = CommandEnds c s s' k k' t t' e
  Ends None s s' k k' t t' e = (s' ≡ s) × (t' ≡ t) × TextEnds held faults usage Ended.Usage k k' e

-- the program ended so
pub record HasEnded {S K T : Type 0} (left : S → Option (List ℕ)) (source_faults : S → ℕ) (held : K → Option (List ℕ)) (faults : K → ℕ) (state : T → TableState) (serving : ServingEnds K T) (words : Option Command) (s s' : S) (k k' : K) (t t' : T) (e : Ended) : Type 0 where
  pub ends : Ends left source_faults held faults state serving words s s' k k' t t' e

-- ---- the status
abbrev pub status_of : Ended → ℕ
status_of Ended.Done = 0
status_of Ended.OutOfMemory = 1
status_of Ended.Usage = 2
status_of Ended.SourceFault = 3
status_of Ended.SinkFault = 4
status_of Ended.Refused = 5
status_of Ended.LinkRefused = 6
status_of Ended.TooLong = 7
status_of Ended.TableFault = 8

abbrev pub end_of : Result Bool Stop → Ended
end_of (Ok true) = Ended.Done
end_of (Ok false) = Ended.Refused
end_of (Err Stop.OutOfMemory) = Ended.OutOfMemory
end_of (Err Stop.SinkFault) = Ended.SinkFault

-- the status is that of an ending of which P holds
abbrev pub ByStatus : ℕ → (Ended → Type 0) → Type 0
ByStatus status P = (e : Ended) × (status ≡ status_of e) × P e

-- the source has more than it may, and just one byte more than it may have was taken
abbrev pub LongOn : List ℕ → List ℕ → Ended → Type 0
LongOn b c Ended.TooLong = (max_source < length b) × (c ≡ drop (max_source + 1) b)
LongOn b c e = length b ≤ max_source ⊎ (e ≡ Ended.SourceFault) ⊎ (e ≡ Ended.OutOfMemory)

-- nothing of the source is refused: neither its deployment nor a line of its script
abbrev pub is_whole_source : List ℕ → Result Accepted Refusal → Bool
is_whole_source bytes (Err x) = false
is_whole_source bytes (Ok p) = is_whole p.code (script_of bytes p)

-- .. also where it is served: then no line of a script follows the deployment
abbrev pub is_bare_source : List ℕ → Result Accepted Refusal → Bool
is_bare_source bytes (Err x) = false
is_bare_source bytes (Ok p) = is_none (first_line (script_of bytes p))

abbrev pub is_whole_by : Command → List ℕ → Bool
is_whole_by (Serve port requests) bytes = is_bare_source bytes (source_at bytes)
is_whole_by c bytes = is_whole_source bytes (source_at bytes)

-- only a source that is not refused is carried out whole, and only one that is refused is answered so; the words were right
abbrev pub AsRead : Bool → Ended → Type 0
AsRead whole Ended.Done = whole ≡ true
AsRead whole Ended.Refused = whole ≡ false
AsRead whole Ended.Usage = ⊥
AsRead whole e = Unit {0}

abbrev pub SourceAsRead : Command → Option (List ℕ) → Ended → Type 0
SourceAsRead c None e = Unit {0}
SourceAsRead c (Some b) e = AsRead (is_whole_by c b) e

-- by what the words ask for
abbrev pub WordsAsRead : Option Command → Option (List ℕ) → Ended → Type 0
WordsAsRead None o e = Unit {0}
WordsAsRead (Some c) o e = SourceAsRead c o e

abbrev pub is_whole_asked : Option Command → List ℕ → Bool
is_whole_asked None bytes = false
is_whole_asked (Some c) bytes = is_whole_by c bytes

-- the words ask to serve
abbrev pub serves : Option Command → Bool
serves (Some (Serve port requests)) = true
serves o = false

-- an ending before the host was opened: by it the table is the one that was handed in, or has its rows, and the sink was
-- not called
abbrev pub Untouched : Ended → Type 0 → Type 0 → Type 0 → Type 0
Untouched Ended.SourceFault table rows sink = table × sink
Untouched Ended.TooLong table rows sink = table × sink
Untouched Ended.TableFault table rows sink = rows × sink
Untouched e table rows sink = Unit {0}
