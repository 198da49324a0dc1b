use Rattle.std.proofs.Common.{Some, ap, option_copied, sym, ◌∙◌}
use Rattle.beldi_core.proofs.Names.{RunMap, get_rows, map_of, nat_cmp-IsAntisymmetric, nat_cmp_total}
use Rattle.beldi_core.proofs.Lives.{got_first, got_other}
use Rattle.beldi_core.proofs.Names.map
use Rattle.beldi_core.proofs.live.Live.get.Goals as goal

pub returns-then-begins_with : goal.returns-then-begins_with
returns-then-begins_with c =
    let f = c.self.inside.first in
    c.first_run.ensures ∙ sym (got_first f.number f.run (map_of c.self.inside.rest) c.args.number (sym c.begins_with.ensures ∙ c.if-begins_with.true)) ∙ ap (λ (a : RunMap). map.get a c.args.number) c.self.view_is

pub returns-in-Some : goal.returns-in-Some
returns-in-Some c =
    let f = c.self.inside.first in
    ap Some c.get-in-Some.ensures ∙ sym (ap option_copied c.in-Some.is) ∙ c.get.ensures.value ∙ sym (get_rows nat_cmp_total nat_cmp-IsAntisymmetric c.self.inside.rest.entries c.args.number)
    ∙ sym (got_other f.number f.run (map_of c.self.inside.rest) c.args.number (sym c.begins_with.ensures ∙ c.if-begins_with.false)) ∙ ap (λ (a : RunMap). map.get a c.args.number) c.self.view_is

pub returns-in-None : goal.returns-in-None
returns-in-None c =
    let f = c.self.inside.first in
    sym (ap option_copied c.in-None.is) ∙ c.get.ensures.value ∙ sym (get_rows nat_cmp_total nat_cmp-IsAntisymmetric c.self.inside.rest.entries c.args.number)
    ∙ sym (got_other f.number f.run (map_of c.self.inside.rest) c.args.number (sym c.begins_with.ensures ∙ c.if-begins_with.false)) ∙ ap (λ (a : RunMap). map.get a c.args.number) c.self.view_is
