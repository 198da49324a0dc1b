use Rattle.beldi_core.proofs.{Names.Bor, Names.Run, Names.ap, Names.option_map, Names.refl, Names.ℕ, Least.next_is}
use Rattle.beldi_core.proofs.live.next_in.Goals as goal

pub returns-in-Some : goal.returns-in-Some
returns-in-Some c = next_is c.args.number c.args.rest.now.entries c.range.result c.next.new.self c.next.result c.range.ensures.ordered (c.range.ensures.between tt) c.next.ensures.steps _ _ refl (ap (option_map (λ (e : Bor ℕ × Bor Run). e.0.now)) c.in-Some.is)

pub returns-in-None : goal.returns-in-None
returns-in-None c = next_is c.args.number c.args.rest.now.entries c.range.result c.next.new.self c.next.result c.range.ensures.ordered (c.range.ensures.between tt) c.next.ensures.steps _ _ refl (ap (option_map (λ (e : Bor ℕ × Bor Run). e.0.now)) c.in-None.is)
