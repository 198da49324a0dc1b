-- A sweep of a log collector of a host over rows that are told, and what is promised of it.
use Rattle.std.specs.Prelude.{◌≡◌, ℕ, zero, suc, ◌+◌, ◌<◌, ◌≤◌, Bool, true, false, length, Ok}
use Rattle.beldi_tree.specs.declared.deployment.Deployment.{Deployment}
use Rattle.beldi_prune.specs.{Collectors.collector_at, Prune.first_collector}
use Rattle.beldi_sweep.specs.{Rounds.begun_turns, Rounds.turns_of, SweptRows.AreAdriftBy, SweptRows.AreLongAdrift, SweptRows.AreTidy, SweptRows.AreTrimmed, SweptRows.IsIdle}
use Rattle.beldi_step.specs.{HostStep.Core, HostStep.most_events, Prunes.PrunesOn, declared.event.Pruned.Pruned}
use Rattle.beldi_schedule.specs.Settles.{State}
use Rattle.beldi_bound.specs.Ends.{IsBelowEnd}
use Rattle.beldi_kept.specs.Safe.{IsSafe}
use Rattle.beldi_tidy.specs.Tidy.{HaveOneBehind}

-- ---- its turns
-- one, and what it said
abbrev pub Turn : Deployment → ℕ → State → State → Pruned → Type 0
Turn d k s t x = PrunesOn d s.faults t.faults k s.core s.rows t.core t.rows (Ok x)

abbrev pub ends_round : Pruned → Bool
ends_round Pruned.Round = true
ends_round x = false

-- so many, of which none ends the round
abbrev pub Turns : Deployment → ℕ → ℕ → State → State → Type 0
Turns d k zero s t = t ≡ s
Turns d k (suc n) s t = (u : State) × (x : Pruned) × Turns d k n s u × Turn d k u t x × (ends_round x ≡ false)

-- .. and, where it ended, one more, which ends it
abbrev pub Sweeps : Deployment → ℕ → ℕ → Bool → State → State → Type 0
Sweeps d k turns false s t = Turns d k turns s t
Sweeps d k turns true s t = (u : State) × Turns d k turns s u × Turn d k u t Pruned.Round

-- ---- what is promised
-- nothing kept a turn from the rows: the table counted no failure, and the host was neither shut nor spent
pub record IsUntroubled (turns : ℕ) (s t : State) : Type 0 where
  pub faults : t.faults ≡ s.faults
  pub below : IsBelowEnd t.faults
  pub serves : s.core.shut ≡ false
  pub events : s.core.taken + turns < most_events

-- the collector of this number stands before all rows
abbrev pub IsFirst : ℕ → Core → Type 0
IsFirst k c = collector_at c.collectors k ≡ first_collector

-- all intents are idle
abbrev pub AllIdle : Deployment → State → Type 0
AllIdle d s = IsIdle s.core.newest d.life s.core.now s.rows

pub record Promises (d : Deployment) (k turns : ℕ) (over : Bool) (s t : State) : Type 0 where
  -- whatever the rows are, it takes at most the turns of a round, and then the one that ends it, with its collector before all rows
  pub few : turns ≤ begun_turns s.rows (collector_at s.core.collectors k).at + turns_of s.rows
  pub ended : over ≡ true → IsFirst k t.core
  -- what is adrift is so since this moment at the latest, where what was so before is
  pub moments : AreAdriftBy s.core.now s.rows → AreAdriftBy t.core.now t.rows
  -- once all intents are idle they stay so, and one that began before all rows leaves trimmed rows ..
  pub idle : AllIdle d s → AllIdle d t
  pub trims : over ≡ true → AllIdle d s → IsFirst k s.core → AreTrimmed t.core.newest t.rows
  -- .. and tidy ones, with at most two of an item, where they were trimmed, and each that was adrift was so for more than a life
  pub tidies : over ≡ true → AllIdle d s → IsFirst k s.core → AreTrimmed s.core.newest s.rows → AreLongAdrift d.life s.core.now s.rows → AreTidy t.core.newest t.rows × HaveOneBehind t.rows

-- so it is of a host with the invariant
abbrev pub SweepsAsPromised : Type 0
SweepsAsPromised = (d : Deployment) (k turns : ℕ) (over : Bool) (s t : State) → IsSafe d s.core s.rows → length s.core.collectors ≡ 8 → Sweeps d k turns over s t → IsUntroubled turns s t → Promises d k turns over s t

-- ---- three sweeps
-- a whole one of a host with the invariant, that nothing troubled
pub record Swept (d : Deployment) (k : ℕ) (s t : State) : Type 0 where
  pub invariant : IsSafe d s.core s.rows
  pub eight : length s.core.collectors ≡ 8
  pub turns : ℕ
  pub path : Sweeps d k turns true s t
  pub free : IsUntroubled turns s t

-- between two the moment rises, and nothing else is done
pub record Rests (s t : State) : Type 0 where
  pub rows : t.rows ≡ s.rows
  pub newest : t.core.newest ≡ s.core.newest
  pub collectors : t.core.collectors ≡ s.core.collectors
  pub later : s.core.now ≤ t.core.now

-- once all intents are idle, three of one collector leave tidy rows, wherever that stood, where the third begins more than a life after the second
abbrev pub ThreeSweepsTidy : Type 0
ThreeSweepsTidy = (d : Deployment) (k : ℕ) (a b c e f g : State) → AllIdle d a → AreAdriftBy a.core.now a.rows → Swept d k a b → Rests b c → Swept d k c e → Rests e f → e.core.now + d.life < f.core.now → Swept d k f g → AreTidy g.core.newest g.rows × HaveOneBehind g.rows
