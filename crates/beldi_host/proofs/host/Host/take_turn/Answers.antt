use Rattle.beldi_host.proofs.Names.{AskingRun, Err, Turn, core_in, core_of, counted, declined_reply, immediate, no_memory, plan, refl, reply_in, turn_asked, turn_now, ◌≡◌}
use Rattle.beldi_host.proofs.host.Host.take_turn.Goals as goal

pub ask_turn-requires : goal.ask_turn-requires
ask_turn-requires g c =
    let h = c.args.self.now in
    let k = c.plan_turn.new.self in
    let f = c.in-Ok-Asks in
    let asking : AskingRun c.args.run (counted (core_of h)) (core_in k) k.book.spare f.query f.copies (plan h.code (Turn c.args.run) (core_of h)) = rw f.field-0-is at (f.ensures h.code) in
    asking.ready

pub returns-in-Ok-Declined-clause-step : goal.returns-in-Ok-Declined-clause-step
returns-in-Ok-Declined-clause-step g c =
    let h = c.args.self.now in
    let k = c.plan_turn.new.self in
    let f = c.in-Ok-Declined in
    let planned : plan h.code (Turn c.args.run) (core_of h) ≡ immediate (core_in k) (declined_reply f.why) = rw f.field-0-is at (f.ensures h.code) in
    turn_now h.code (Turn c.args.run) (core_of h) (core_in k) (declined_reply f.why) (declined_reply f.why) (g.T.Table.state h.table) planned refl

pub returns-in-Ok-Asks-clause-step : goal.returns-in-Ok-Asks-clause-step
returns-in-Ok-Asks-clause-step g c =
    let t = g.T.Table in
    let h = c.args.self.now in
    let k = c.plan_turn.new.self in
    let z = c.ask_turn.new.self in
    let f = c.in-Ok-Asks in
    let asking : AskingRun c.args.run (counted (core_of h)) (core_in k) k.book.spare f.query f.copies (plan h.code (Turn c.args.run) (core_of h)) = rw f.field-0-is at (f.ensures h.code) in
    turn_asked h.code c.args.run (counted (core_of h)) (core_in k) (core_of z) f.query (plan h.code (Turn c.args.run) (core_of h)) (t.state h.table) (t.state z.table) (reply_in c.ask_turn.new.told c.ask_turn.result) asking.is asking.core c.ask_turn.ensures.asked

pub returns-in-Err-clause-step : goal.returns-in-Err-clause-step
returns-in-Err-clause-step g c =
    let h = c.args.self.now in
    no_memory h.code (Turn c.args.run) (core_in h.core) (core_in c.plan_turn.new.self) (Err c.in-Err.why) (g.T.Table.state h.table) (c.in-Err.ensures h.code)
