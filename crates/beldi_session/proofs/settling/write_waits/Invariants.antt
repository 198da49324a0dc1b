use Rattle.beldi_session.proofs.Names.{drop, flat_map, wait_text, ◌++◌, ◌≡◌}
use Rattle.beldi_session.proofs.settling.write_waits.Given as goal

abbrev pub invariant-loop-run : goal.invariant-loop-run
invariant-loop-run l = l.out ++ flat_map (wait_text l.code) (drop l.run-index l.run-items) ≡ l.fn.out ++ flat_map (wait_text l.code) l.run-items
