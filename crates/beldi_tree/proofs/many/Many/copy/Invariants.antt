use Rattle.beldi_tree.proofs.{Names.nat_cmp, Names.slice_cmp, Copies.IsCopied}
use Rattle.beldi_tree.proofs.many.Many.copy.Given as goal

-- the names that are left, with those that are copied, are all names
abbrev pub invariant-loop-name : goal.invariant-loop-name
invariant-loop-name l = IsCopied (slice_cmp nat_cmp) l.copy l.self l.name-iterator
