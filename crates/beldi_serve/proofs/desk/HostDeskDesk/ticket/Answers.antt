use Rattle.std.proofs.Common.{Err, Ok, subst, sym}
use Rattle.beldi_step.specs.declared.event.Event.{Event}
use Rattle.beldi_gateway.specs.{declared.desk.TicketReply.TicketReply, declared.response.Response.TheVariants.Ticket as Ticketed, Exchange.ask_ticket}
use Rattle.beldi_serve.specs.Desk.{Comes, Replies}
use Rattle.beldi_serve.proofs.Coming.{event_comes, ticket_short, ticket_told}
use Rattle.beldi_serve.proofs.desk.HostDeskDesk.ticket.Goals as goal

pub returns-in-Ok : goal.returns-in-Ok
returns-in-Ok g c =
    let e = c.in-Ok.ensures in
    let a = c.args.self.now.host in
    let b = c.event.new.self in
    subst (λ (x : TicketReply). Comes (Replies ask_ticket (Ticketed x)) a b) (sym c.ticket_said-said.ensures) (ticket_told a b c.in-Ok.seen (event_comes a b Event.Ticket (Ok c.in-Ok.seen) e.code e.step))

pub returns-in-Err : goal.returns-in-Err
returns-in-Err g c =
    let e = c.in-Err.ensures in
    let a = c.args.self.now.host in
    let b = c.event.new.self in
    ticket_short a b c.in-Err.field-0 (event_comes a b Event.Ticket (Err c.in-Err.field-0) e.code e.step)
