use Rattle.beldi_executor.proofs.{Names.Item, Names.ap, Names.set_item, Names.sym, Names.◌∙◌, ByTable.not_null}
use Rattle.beldi_executor.proofs.items.Items.set.Goals as goal

pub returns-in-Null-clause-ok : goal.returns-in-Null-clause-ok
returns-in-Null-clause-ok c =
    let x : Item = record { func = c.args.func; table = c.args.table; key = c.args.key } in
    c.unset.ensures ∙ ap (set_item c.args.self.now x) (sym c.in-Null.is)

pub returns-clause-ok : goal.returns-clause-ok
returns-clause-ok c =
    let x : Item = record { func = c.args.func; table = c.args.table; key = c.args.key } in
    c.in_ok-put.ensures.ok.1 ∙ not_null c.args.self.now x c.args.value c.in_default.not-Null
