use Rattle.beldi_session.proofs.Names.{Does, ListBook, ListTables, Ok, [], core_of, refl, sight, subst, sym, true, ◌∷◌}
use Rattle.beldi_session.proofs.SessionCalls.{does_then, does_before, does_done, flushed}
use Rattle.beldi_session.proofs.session.do_listings.Goals as goal

pub returns-in-Ok-flush_if_long-clause-does : goal.returns-in-Ok-flush_if_long-clause-does
returns-in-Ok-flush_if_long-clause-does g c =
    let k = g.K.Sink in
    let new = c.list_tables.new.host in
    let f = c.flush_if_long.ensures in
    let a = sight c.args.host.now c.args.waiting.now (k.held c.args.sink.now) (k.faults c.args.sink.now) in
    let e = sight c.list_book.new.host c.list_book.new.out (k.held c.flush_if_long.new.sink) (k.faults c.flush_if_long.new.sink) in
    subst (λ r. Does (ListTables ∷ ListBook ∷ []) a e r) (sym c.done.ensures)
    (does_done true c.list_book.result (does_then {fs = ListTables ∷ []} refl
    (does_then {fs = ListTables ∷ []} {gs = ListTables ∷ []} refl (c.in-Ok.ensures (k.held c.args.sink.now) (k.faults c.args.sink.now))
    (flushed new.code (core_of new) (g.T.Table.state new.table) c.list_tables.new.out c.flush_if_long.new.waiting (k.held c.args.sink.now) (k.held c.flush_if_long.new.sink) (k.faults c.args.sink.now) (k.faults c.flush_if_long.new.sink) (Ok tt) c.in-Ok-flush_if_long.ensures.text f.later c.in-Ok-flush_if_long.ensures.fault))
    (c.list_book.ensures (k.held c.flush_if_long.new.sink) (k.faults c.flush_if_long.new.sink))))

pub returns-in-Err-flush_if_long-clause-does : goal.returns-in-Err-flush_if_long-clause-does
returns-in-Err-flush_if_long-clause-does g c =
    let k = g.K.Sink in
    let new = c.list_tables.new.host in
    let f = c.in-Err-flush_if_long.ensures in
    does_before {fs = ListTables ∷ []} (ListBook ∷ []) refl
    (does_then {fs = ListTables ∷ []} {gs = ListTables ∷ []} refl (c.in-Ok.ensures (k.held c.args.sink.now) (k.faults c.args.sink.now))
    (flushed new.code (core_of new) (g.T.Table.state new.table) c.list_tables.new.out c.flush_if_long.new.waiting (k.held c.args.sink.now) (k.held c.flush_if_long.new.sink) (k.faults c.args.sink.now) (k.faults c.flush_if_long.new.sink) _ f.text f.later f.fault))

pub returns-in-Err-clause-does : goal.returns-in-Err-clause-does
returns-in-Err-clause-does g c =
    let k = g.K.Sink in
    does_before {fs = ListTables ∷ []} (ListBook ∷ []) refl (c.in-Err.ensures (k.held c.args.sink.now) (k.faults c.args.sink.now))
