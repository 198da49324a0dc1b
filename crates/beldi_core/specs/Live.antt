-- The live runs, of which the first lies apart.
use Rattle.std.specs.Prelude.{◌≡◌, ℕ, ◌≤◌, ◌==◌, ◌&&◌, nat_lt, Bool, is_some, Option, Some, None}
use Rattle.std.specs.BTreeMap.{BTreeMap}
use Rattle.std.specs.FinMap as map
use Rattle.beldi_step.specs.declared.run.Run.{Run}
use Rattle.beldi_core.specs.{LiveRuns.RunMap, declared.live.First.First}

-- the map that the entries of a tree make
abbrev pub map_of : BTreeMap ℕ Run → RunMap
map_of t = map.from_entries t.entries

-- with the first one
abbrev pub with_run : ℕ → Option Run → RunMap → RunMap
with_run n None m = m
with_run n (Some r) m = map.insert m n r

abbrev pub with_first : First → RunMap → RunMap
with_first f m = with_run f.number f.run m

-- no other run has so small a number; without a first one there is none
abbrev pub IsLeast : ℕ → Option Run → RunMap → Type 0
IsLeast n None m = m ≡ map.empty
IsLeast n (Some r) m = (i : ℕ) → i ≤ n → map.get m i ≡ None

abbrev pub IsFirst : First → RunMap → Type 0
IsFirst f m = IsLeast f.number f.run m

abbrev pub begins_with : ℕ → First → Bool
begins_with n f = (f.number == n) && is_some f.run

abbrev pub begins_past : ℕ → First → Bool
begins_past n f = nat_lt n f.number && is_some f.run
