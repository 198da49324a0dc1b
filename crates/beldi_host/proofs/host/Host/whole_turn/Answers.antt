use Rattle.beldi_host.proofs.Names.{AllocError, EventReply, Result, Stepped, Turn, core_of, subst, sym}
use Rattle.beldi_host.proofs.host.Host.whole_turn.Goals as goal

pub returns-clause-step : goal.returns-clause-step
returns-clause-step g c =
    let t = g.T.Table in
    let h = c.args.self.now in
    let k = c.take_turn-said.new.self in
    subst (λ (r : Result EventReply AllocError). Stepped h.code (Turn c.args.run) (core_of h) (core_of k) (t.state h.table) (t.state k.table) r) (sym c.whole.ensures) c.take_turn-said.ensures.step
