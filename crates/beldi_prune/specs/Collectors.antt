-- Eight log collectors, as a list.
use Rattle.std.specs.Prelude.{ℕ, ◌%◌, List, get_or, replicate, slice_set}
use Rattle.beldi_prune.specs.Prune.{first_collector}
use Rattle.beldi_prune.specs.declared.collector.LogCollector.{LogCollector}

-- each stands before all rows
abbrev pub first_collectors : List LogCollector
first_collectors = replicate 8 first_collector

-- numbers go round
abbrev pub collector_at : List LogCollector → ℕ → LogCollector
collector_at cs n = get_or cs (n % 8) first_collector

abbrev pub set_collector : List LogCollector → ℕ → LogCollector → List LogCollector
set_collector cs n w = slice_set cs (n % 8) w
