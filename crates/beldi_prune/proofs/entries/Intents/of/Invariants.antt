use Rattle.std.proofs.Common.{◌≡◌, ◌++◌, drop}
use Rattle.std.specs.Option.{option_copied}
use Rattle.beldi_prune.specs.CellEntries.{intents_from, intents_of}
use Rattle.beldi_prune.proofs.entries.Intents.of.Given as goal

-- the intents that were put, with those of the entries that are left, are all
abbrev pub invariant-loop-entry : goal.invariant-loop-entry
invariant-loop-entry l = l.ids.items ++ intents_from (option_copied l.before) (drop l.entry-index l.entry-items) ≡ intents_of l.log
