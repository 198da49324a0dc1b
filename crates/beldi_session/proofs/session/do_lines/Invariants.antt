use Rattle.beldi_session.proofs.Names.{Action, Does, List, actions_in, is_whole, length, lines_of, numbered, sight, ◌++◌, ◌≡◌}
use Rattle.beldi_session.proofs.Went.{fine}
use Rattle.beldi_session.proofs.session.do_lines.Given as goal

abbrev pub invariant-loop-rest : goal.invariant-loop-rest
invariant-loop-rest g l =
    let k = g.K.Sink in
    let d = l.fn.host.code in
    let lines = numbered l.first (lines_of l.script) in
    let left = numbered l.number (lines_of l.rest) in
    record {
      done : List Action;
      all : done ++ actions_in d left ≡ actions_in d lines;
      did : Does done (sight l.fn.host l.fn.waiting (k.held l.fn.sink) (k.faults l.fn.sink)) (sight l.host l.waiting (k.held l.sink) (k.faults l.sink)) (fine {X = Unit {0}} tt);
      whole : is_whole d left ≡ is_whole d lines;
    }

abbrev pub decreases-loop-rest : goal.decreases-loop-rest
decreases-loop-rest g l = length l.rest
