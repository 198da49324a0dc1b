use Rattle.std.proofs.Common.{option_copied}
use Rattle.beldi_executor.proofs.{Names.Item, Names.ap, Names.at_key, Names.sym, Names.◌∙◌, ByTable.get_items}
use Rattle.beldi_executor.proofs.Names.map
use Rattle.beldi_executor.proofs.items.Items.get.Goals as goal

pub returns-in-Some : goal.returns-in-Some
returns-in-Some c =
    let x : Item = record { func = c.args.func; table = c.args.table; key = c.args.key.now } in
    c.get-in-Some.ensures ∙ ap (at_key x.key) (ap option_copied (sym c.in-Some.is) ∙ c.get.ensures) ∙ sym (get_items c.self.inside.tables x) ∙ ap (λ m. map.get m x) c.self.view_is

pub returns-in-None : goal.returns-in-None
returns-in-None c =
    let x : Item = record { func = c.args.func; table = c.args.table; key = c.args.key.now } in
    ap (at_key x.key) (ap option_copied (sym c.in-None.is) ∙ c.get.ensures) ∙ sym (get_items c.self.inside.tables x) ∙ ap (λ m. map.get m x) c.self.view_is
