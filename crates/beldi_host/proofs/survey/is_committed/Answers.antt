use Rattle.beldi_host.proofs.{Names.Ok, Names.is_committed, Names.refl, Looks.seen}
use Rattle.beldi_host.proofs.survey.is_committed.Goals as goal

pub returns : goal.returns
returns g c =
    let t = g.T.Table in
    seen is_committed c.args.decision c.args.decision c.args.now (t.state c.args.table.now) (t.state c.act.follows.lender-at-none) c.act.result c.in_ok-said.said c.in_ok-said.was
    refl c.act.follows.holds-at-none (Ok c.says_commit.result) (λ e. cc) c.says_commit.ensures
