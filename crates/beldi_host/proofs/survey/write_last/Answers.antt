use Rattle.beldi_host.proofs.Names.{None, Ok, Option, Some, ap, append-nil, sym, ◌++◌, ◌∙◌, ◌≡◌}
use Rattle.beldi_chain.specs.Chain.{chain}
use Rattle.beldi_host.proofs.{HostLines.held_after, HostLines.last_whole, HostSteps.reads_so, HostSteps.reads_then}
use Rattle.beldi_host.specs.LastRow.{IsLast}
use Rattle.beldi_host.specs.Survey.{last_line, owned_after}
use Rattle.beldi_host.specs.declared.last_row.Held.{Held}
use Rattle.beldi_host.proofs.survey.write_last.Goals as goal

pub returns-in-Ok-None : goal.returns-in-Ok-None
returns-in-Ok-None g c =
    let t = g.T.Table in
    let d = c.args.code.now in
    let text = c.args.text.now in
    let k = c.args.key.now in
    reads_so (λ m (h : Option Held). IsLast (chain m k) h) (λ m (u : Unit {0}). text ≡ text ++ last_line d m k.home k.kind) (t.state c.args.table.now) (t.state c.last_row.new.table) (Ok None) (Ok tt) (λ e. cc)
    (λ m p. sym (append-nil text) ∙ ap (λ s. text ++ s) (sym (last_whole d m k.home k.kind None p))) (rw c.in-Ok-None.field-0-is at c.in-Ok-None.ensures)

pub returns-in-Ok : goal.returns-in-Ok
returns-in-Ok g c =
    let t = g.T.Table in
    let d = c.args.code.now in
    let text = c.args.text.now in
    let mid = c.write_held-seen.new.text in
    let new = c.write_owned.new.text in
    let k = c.args.key.now in
    let h : Held = c.in-Ok-Some.held in
    let o = c.in-Ok.owned in
    reads_then (λ m (h : Option Held). IsLast (chain m k) h) (λ m (u : Unit {0}). new ≡ owned_after d m k.home k.kind (o, mid)) (λ m (u : Unit {0}). new ≡ text ++ last_line d m k.home k.kind)
    (t.state c.args.table.now) (t.state c.last_row.new.table) (t.state c.write_owned.new.table) (Some h) c.write_owned.result (λ m u p q. held_after d m text mid new k.home k.kind h o c.in-Ok.ensures p q)
    (rw c.in-Ok-Some.field-0-is at c.in-Ok-Some.ensures) c.write_owned.ensures
