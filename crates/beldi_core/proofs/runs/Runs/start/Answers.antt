use Rattle.beldi_core.proofs.{Names.Numbered, Names.ap, Names.arith, Names.◌∙◌, Counting.count_few, RunMaps.begun, RunMaps.back}
use Rattle.beldi_core.proofs.runs.Runs.start.Goals as goal

pub begin-requires : goal.begin-requires
begin-requires c =
    let few = count_few c.self.inside.given c.self.inside.live c.self.inside.counts c.args.run.id c.self.invariant in
    let same = ap (λ (v : Numbered). v.given) c.self.view_is in
    omega (arith, few, same, c.requires)

pub invariant_of-self-2 : goal.invariant_of-self-2
invariant_of-self-2 c = begun c.self.inside.given c.self.inside.live c.begin.new.live c.self.inside.counts c.begin.new.counts c.args.run c.self.invariant (c.in_ok-begin.ensures).ok (c.in_ok-begin.ensures).counted

pub returns-clause-back : goal.returns-clause-back
returns-clause-back c = back c.self.inside.given c.self.inside.live c.begin.new.live c.args.run c.self.invariant.given_all c.in_ok-begin.ensures.ok ∙ c.self.view_is
