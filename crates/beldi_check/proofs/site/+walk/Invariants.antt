use Rattle.beldi_check.proofs.Names.{block_size, command_of, command_size, commands_of, drop, map, site_of, sites, statements_view, ◌++◌, ◌≡◌}
use Rattle.beldi_check.proofs.site.+walk.Given as goal

abbrev pub decreases-list_block : goal.decreases-list_block
decreases-list_block l = block_size l.block.now

abbrev pub decreases-list_inside : goal.decreases-list_inside
decreases-list_inside l = command_size (command_of l.stmt.now)

-- the sites so far, with those of the rest, are all of them
abbrev pub invariant-list_block-loop-stmt : goal.invariant-list_block-loop-stmt
invariant-list_block-loop-stmt l = map site_of l.found.items ++ sites l.place (commands_of (statements_view (drop l.stmt-index l.stmt-items))) ≡ map site_of l.initial.found.items ++ sites l.place (commands_of (statements_view l.stmt-items))
