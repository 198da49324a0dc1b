use Rattle.beldi_executor.proofs.Names.{ap, get_made, key_exact, key_total, set_made, sym, ◌∙◌}
use Rattle.beldi_executor.proofs.Names.map
use Rattle.beldi_executor.proofs.cells.Cells.put.Goals as goal

pub returns-clause-ok : goal.returns-clause-ok
returns-clause-ok c =
    let entries = c.self.inside.entries.entries in (
      c.in-Ok.ensures.old ∙ sym (get_made key_total entries c.args.key) ∙ ap (λ m. map.get m c.args.key) c.self.view_is,
      set_made key_total key_exact entries c.insert.new.self.entries c.args.key c.args.value c.in-Ok.ensures.updates.0 ∙ ap (λ m. map.insert m c.args.key c.args.value) c.self.view_is,
    )

pub returns-in-Err-clause-err : goal.returns-in-Err-clause-err
returns-in-Err-clause-err c = (
  ap map.from_entries c.in-Err.ensures.err ∙ c.self.view_is,
  ap (λ m. map.get m c.args.key) (sym c.self.view_is) ∙ get_made key_total c.self.inside.entries.entries c.args.key ∙ c.in-Err.ensures.absent,
)
