use Rattle.beldi_host.proofs.Names.{Bool, Ok, Value, false, is_committed, owned_value, true, value_in, ◌≡◌}
use Rattle.beldi_chain.specs.Chain.{chain, tail}
use Rattle.beldi_host.proofs.{HostSteps.reads_so, HostSteps.reads_then, HostLines.owned_committed, HostLines.owned_open}
use Rattle.beldi_host.proofs.Names.map
use Rattle.beldi_host.proofs.survey.owned_value.Goals as goal

pub returns-in-Ok-true : goal.returns-in-Ok-true
returns-in-Ok-true g c =
    let t = g.T.Table in
    let o = c.args.owned in
    reads_then (λ m (b : Bool). b ≡ is_committed (map.get m o.decision)) (λ m (v : Value). v ≡ value_in (tail (chain m o.shadow)) o.value) (λ m (v : Value). v ≡ owned_value m o.decision o.shadow o.value)
    (t.state c.args.table.now) (t.state c.is_committed.new.table) (t.state c.shadow_value.new.table) true c.shadow_value.result (λ m v p q. owned_committed m o.decision o.shadow o.value v p q)
    (rw c.in-Ok-true.field-0-test at c.in-Ok-true.ensures) c.shadow_value.ensures

pub returns-in-Ok-false : goal.returns-in-Ok-false
returns-in-Ok-false g c =
    let t = g.T.Table in
    let o = c.args.owned in
    reads_so (λ m (b : Bool). b ≡ is_committed (map.get m o.decision)) (λ m (v : Value). v ≡ owned_value m o.decision o.shadow o.value)
    (t.state c.args.table.now) (t.state c.is_committed.new.table) (Ok false) (Ok o.value) (λ e. cc) (λ m p. owned_open m o.decision o.shadow o.value p)
    (rw c.in-Ok-false.field-0-test at c.in-Ok-false.ensures)
