use Rattle.beldi_core.proofs.{Names.get_rows, Names.nat_cmp-IsAntisymmetric, Names.nat_cmp_total, Names.◌∙◌, Least.none_behind}
use Rattle.beldi_core.proofs.live.take_first.Goals as goal

pub returns-in-Some-clause-first : goal.returns-in-Some-clause-first
returns-in-Some-clause-first c = λ i few. get_rows nat_cmp_total nat_cmp-IsAntisymmetric c.pop_first.new.self.entries i ∙ none_behind c.in-Some.number i c.pop_first.new.self.entries few c.in-Some.ensures.all_above
