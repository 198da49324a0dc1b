use Rattle.std.proofs.Common.{ap, rules, ◌∙◌}
use Rattle.beldi_core.proofs.Names.{RunMap, map_of, nat_cmp-IsAntisymmetric, nat_cmp_total, one_set, with_run}
use Rattle.beldi_core.proofs.Lives.{first_of_none, least_pushed, pushed}
use Rattle.beldi_core.proofs.Names.map
use Rattle.beldi_core.proofs.live.Live.push.Goals as goal

pub invariant_of-self : goal.invariant_of-self
invariant_of-self c = λ i few. first_of_none c.self.inside.first.number c.self.inside.first.run (map_of c.self.inside.rest) (search rules) c.self.invariant i

pub invariant_of-self-in-Ok : goal.invariant_of-self-in-Ok
invariant_of-self-in-Ok c =
    let f = c.self.inside.first in
    let put = one_set nat_cmp_total nat_cmp-IsAntisymmetric c.self.inside.rest.entries c.insert.new.self.entries c.args.number c.args.run c.in-Ok.ensures.updates.0 in
    rw put (least_pushed f.number f.run (map_of c.self.inside.rest) c.args.number c.args.run (search rules) (λ i p. ap (λ (a : RunMap). map.get a i) c.self.view_is ∙ c.requires i p) c.self.invariant)

pub returns-in-Ok-clause-ok : goal.returns-in-Ok-clause-ok
returns-in-Ok-clause-ok c =
    let f = c.self.inside.first in
    ap (with_run f.number f.run) (one_set nat_cmp_total nat_cmp-IsAntisymmetric c.self.inside.rest.entries c.insert.new.self.entries c.args.number c.args.run c.in-Ok.ensures.updates.0)
    ∙ pushed f.number f.run (map_of c.self.inside.rest) c.args.number c.args.run (λ i p. ap (λ (a : RunMap). map.get a i) c.self.view_is ∙ c.requires i p) ∙ ap (λ (a : RunMap). map.insert a c.args.number c.args.run) c.self.view_is
