use Rattle.beldi_executor.proofs.Names.{Did, Entry, subst, sym}
use Rattle.beldi_executor.proofs.plain.Plain.carry_out.Goals as goal

pub returns-in-Read-clause-did : goal.returns-in-Read-clause-did
returns-in-Read-clause-did c =
    subst (λ (e : Entry). Did c.args.self.now.code e c.args.self.now.state c.enter.new.self.state c.enter.result) (sym c.in-Read.is) (c.enter.ensures.did c.in-Read.version)
