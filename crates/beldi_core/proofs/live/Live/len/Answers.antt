use Rattle.std.proofs.Common.{ap, if◌then◌else◌, is_some, rules, sym, ◌+◌, ◌≡◌, ◌∙◌}
use Rattle.beldi_core.proofs.Names.{RunMap, len_rows, map_of, nat_cmp-IsAntisymmetric, nat_cmp_total}
use Rattle.beldi_core.proofs.Lives.{count}
use Rattle.beldi_core.proofs.Names.map
use Rattle.beldi_core.proofs.live.Live.len.Goals as goal

pub returns : goal.returns
returns c =
    let f = c.self.inside.first in
    let rest = c.len.ensures.len ∙ sym (len_rows nat_cmp_total nat_cmp-IsAntisymmetric c.self.inside.rest.entries c.len.ensures.ordered) in
    let more : c.from.result ≡ (if is_some f.run then 1 else 0) = search rules in
    (λ i. rest i + more i) ∙ sym (count f.number f.run (map_of c.self.inside.rest) c.self.invariant) ∙ ap (λ (a : RunMap). map.len a) c.self.view_is
