use Rattle.beldi_table.proofs.Indexes.{none_past, none_to, first_open}
use Rattle.beldi_table.proofs.map_table.MapTableTable.opens.Goals as goal

pub returns-in-Some-clause-told : goal.returns-in-Some-clause-told
returns-in-Some-clause-told c =
    let t = c.args.self.now in
    none_to t.rows t.open_keys c.args.after.now c.in-Some.key.now c.range.result c.next.new.self t.indexed (c.range.ensures.in_range tt) c.in-Some.ensures.steps

pub returns-in-Some-clause-first : goal.returns-in-Some-clause-first
returns-in-Some-clause-first c =
    let t = c.args.self.now in
    first_open t.rows t.open_keys c.args.after.now c.in-Some.key.now c.range.result c.next.new.self t.indexed (c.range.ensures.in_range tt) c.in-Some.ensures.steps

pub returns-in-None-clause-told : goal.returns-in-None-clause-told
returns-in-None-clause-told c =
    let t = c.args.self.now in
    none_past t.rows t.open_keys c.args.after.now c.range.result t.indexed (c.range.ensures.in_range tt) c.in-None.ensures.steps.0
