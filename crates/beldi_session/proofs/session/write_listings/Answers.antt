use Rattle.beldi_session.proofs.Names.{ListBook, ListTables, [], append-nil, core_of, ◌∷◌}
use Rattle.beldi_session.proofs.SessionCalls.{does_then, flushed}
use Rattle.beldi_session.proofs.session.write_listings.Goals as goal

pub returns-in-Ok-clause-does : goal.returns-in-Ok-clause-does
returns-in-Ok-clause-does g c =
    let k = g.K.Sink in
    let t = g.T.Table in
    let h = c.do_listings.new.host in
    let sink = c.do_listings.new.sink in
    does_then {fs = ListTables ∷ ListBook ∷ []} (append-nil (ListTables ∷ ListBook ∷ [])) c.in-Ok.ensures.does
    (flushed h.code (core_of h) (t.state h.table) c.do_listings.new.waiting c.flush.new.waiting (k.held sink) (k.held c.flush.new.sink) (k.faults sink) (k.faults c.flush.new.sink) c.flush.result c.flush.ensures.text c.flush.ensures.later c.flush.ensures.fault)
