use Rattle.std.proofs.Common.{None, ap, sym, ◌∙◌}
use Rattle.beldi_core.proofs.Names.{RunMap, get_rows, map_of, nat_cmp-IsAntisymmetric, nat_cmp_total, one_gone, with_first, with_run}
use Rattle.beldi_core.proofs.Lives.{first_left, got_first, got_other, least_removed, put_other}
use Rattle.beldi_core.proofs.Names.map
use Rattle.beldi_core.specs.declared.live.First.{First}
use Rattle.beldi_core.proofs.live.Live.take.Goals as goal

pub invariant_of-self : goal.invariant_of-self
invariant_of-self c =
    let f = c.self.inside.first in
    let left = one_gone nat_cmp_total nat_cmp-IsAntisymmetric c.self.inside.rest.entries c.remove.new.self.entries c.args.number c.remove.ensures.updates.0 in
    rw left (least_removed f.number f.run (map_of c.self.inside.rest) c.args.number c.self.invariant)

pub returns-then-not-begins_with-clause-run : goal.returns-then-not-begins_with-clause-run
returns-then-not-begins_with-clause-run c =
    let f = c.self.inside.first in
    let is = sym c.begins_with.ensures ∙ c.if-not-begins_with.true in
    c.remove.ensures.value ∙ sym (get_rows nat_cmp_total nat_cmp-IsAntisymmetric c.self.inside.rest.entries c.args.number) ∙ sym (got_other f.number f.run (map_of c.self.inside.rest) c.args.number is)
    ∙ ap (λ (a : RunMap). map.get a c.args.number) c.self.view_is

pub returns-then-not-begins_with-clause-rest : goal.returns-then-not-begins_with-clause-rest
returns-then-not-begins_with-clause-rest c =
    let f = c.self.inside.first in
    let is = sym c.begins_with.ensures ∙ c.if-not-begins_with.true in
    ap (with_run f.number f.run) (one_gone nat_cmp_total nat_cmp-IsAntisymmetric c.self.inside.rest.entries c.remove.new.self.entries c.args.number c.remove.ensures.updates.0)
    ∙ put_other f.number f.run (map_of c.self.inside.rest) c.args.number None is ∙ ap (λ (a : RunMap). map.remove a c.args.number) c.self.view_is

pub returns-clause-run : goal.returns-clause-run
returns-clause-run c =
    let f = c.self.inside.first in
    ap (λ (x : First). x.run) c.replace.ensures.value ∙ sym (got_first f.number f.run (map_of c.self.inside.rest) c.args.number (sym c.begins_with.ensures ∙ c.if-not-begins_with.false)) ∙ ap (λ (a : RunMap). map.get a c.args.number) c.self.view_is

pub returns-clause-rest : goal.returns-clause-rest
returns-clause-rest c =
    let f = c.self.inside.first in
    ap (λ (x : First). with_first x (map_of c.take_first.new.rest)) c.replace.ensures.after ∙ c.take_first.ensures.all
    ∙ first_left f.number f.run (map_of c.self.inside.rest) c.args.number (sym c.begins_with.ensures ∙ c.if-not-begins_with.false) c.self.invariant ∙ ap (λ (a : RunMap). map.remove a c.args.number) c.self.view_is
