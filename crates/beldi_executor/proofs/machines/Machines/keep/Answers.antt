use Rattle.beldi_executor.proofs.Names.{ap, get_made, id_exact, id_total, inl, inr, set_made, sym, ◌∙◌}
use Rattle.beldi_executor.proofs.{Finite.absent_removed, machines.Machines.keep.Goals.in-Ok, machines.Machines.keep.Goals.in-Err}
use Rattle.beldi_executor.proofs.Names.map
use Rattle.beldi_executor.proofs.machines.Machines.keep.Goals as goal

pub returns : goal.returns
returns c = elim c.match-insert.branch [
  | in-Ok w ↦ inr (set_made id_total id_exact c.self.inside.entries.entries c.insert.new.self.entries c.args.id c.args.machine w.in-Ok.ensures.updates.0 ∙ ap (λ m. map.insert m c.args.id c.args.machine) c.self.view_is)
  | in-Err w ↦
      let none = ap (λ m. map.get m c.args.id) (sym c.self.view_is) ∙ get_made id_total c.self.inside.entries.entries c.args.id ∙ w.in-Err.ensures.absent in
      inl (ap map.from_entries w.in-Err.ensures.err ∙ c.self.view_is ∙ sym (absent_removed id_total id_exact c.args.self.now c.args.id none))
]
