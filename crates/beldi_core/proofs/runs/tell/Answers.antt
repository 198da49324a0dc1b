use Rattle.beldi_core.proofs.Names.{ends_run, query_reply_of, rules, sym}
use Rattle.beldi_core.proofs.Names.map
use Rattle.beldi_core.proofs.RunMaps.{run_was_told, kept_told}
use Rattle.beldi_core.proofs.runs.tell.Goals as goal

pub returns-clause-resume : goal.returns-clause-resume
returns-clause-resume c =
    let s = c.resume-result.new.run in
    run_was_told c.args.code.now c.args.changes c.args.live.now (map.insert c.args.live.now c.args.number s) c.settle.new.live c.args.number c.get_mut.result.now s (query_reply_of c.args.heard) c.resume-result.result
    (sym c.get_mut.ensures.value) (search rules) (search rules) c.resume-result.ensures.turns

pub returns-clause-kept : goal.returns-clause-kept
returns-clause-kept c = λ g h.
    let s = c.resume-result.new.run in
    kept_told g c.args.live.now (map.insert c.args.live.now c.args.number s) c.settle.new.live c.args.counts.now c.settle.new.counts c.args.number c.get_mut.result.now s (ends_run c.resume-result.result)
    (sym c.get_mut.ensures.value) c.resume-result.ensures.id (search rules) (search rules) (search rules) h
