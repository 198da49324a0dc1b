use Rattle.beldi_executor.proofs.{Names.refl, Names.tx_begun, ExecutorWhole.opens, ExecutorWhole.comes_draft, ExecutorWhole.committed_so_ok, ExecutorWhole.committed_so_err}
use Rattle.beldi_executor.proofs.state.State.commit_tx.Goals as goal

pub reset-requires : goal.reset-requires
reset-requires c =
    let q = c.requires.0.instance in
    let here = c.requires.0.made in
    let g = opens q c.requires here (c.actor-active.ensures q here) c.in-Ok.ensures in
    (comes_draft c.args.code.now (tx_begun c.args.id q) c.args.self.now q c.commit.new.draft _ _ c.commit.new.self c.in-Err-commit.why
    (c.in-Err-commit.ensures (tx_begun c.args.id q) c.args.self.now q q g.goes g.begins g.here)).undone.room

pub returns-in-Err-commit : goal.returns-in-Err-commit
returns-in-Err-commit c = λ q here.
    let p = c.args.self.now in
    let t = tx_begun c.args.id q in
    let g = opens q c.requires here (c.actor-active.ensures q here) c.in-Ok.ensures in
    committed_so_err c.args.code.now p c.args.id q c.commit.new.draft _ g.start c.commit.new.self c.reset.new.self c.in-Err-commit.why
    (c.in-Err-commit.ensures t p q q g.goes g.begins g.here) (λ draft. c.reset.ensures t p q draft refl)

pub returns : goal.returns
returns c = λ q here.
    let p = c.args.self.now in
    let g = opens q c.requires here (c.actor-active.ensures q here) c.in-Ok.ensures in
    committed_so_ok c.args.code.now p c.args.id q c.commit.new.draft _ g.start c.commit.new.self c.keep.new.self c.in-Ok-commit.active
    (c.in-Ok-commit.ensures (tx_begun c.args.id q) p q q g.goes g.begins g.here) c.keep.ensures
