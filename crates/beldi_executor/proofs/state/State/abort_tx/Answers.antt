use Rattle.beldi_executor.proofs.Names.{false, is_holder, option_copied, refl, rules, true, tx_begun, ◌≡◌}
use Rattle.beldi_executor.proofs.ExecutorWhole.{opens, comes_draft, not_older, aborted_so_ok, aborted_so_err}
use Rattle.beldi_executor.proofs.state.State.abort_tx.Goals as goal

pub reset-requires : goal.reset-requires
reset-requires c =
    let q = c.requires.0.instance in
    let here = c.requires.0.made in
    let g = opens q c.requires here (c.actor-active.ensures q here) c.in-Ok.ensures in
    (comes_draft c.args.code.now (tx_begun c.args.id q) c.args.self.now q c.abort.new.draft _ _ c.abort.new.self c.in-Err-abort.why
    (c.in-Err-abort.ensures (tx_begun c.args.id q) c.args.self.now q q g.goes g.begins g.here)).undone.room

pub returns-in-Err-abort : goal.returns-in-Err-abort
returns-in-Err-abort c = λ q here.
    let p = c.args.self.now in
    let t = tx_begun c.args.id q in
    let g = opens q c.requires here (c.actor-active.ensures q here) c.in-Ok.ensures in
    aborted_so_err c.args.code.now p c.args.id q c.abort.new.draft _ g.start c.args.place.now (option_copied c.args.holder) c.abort.new.self c.reset.new.self c.in-Err-abort.why
    (c.in-Err-abort.ensures t p q q g.goes g.begins g.here) (λ draft. c.reset.ensures t p q draft refl)

pub reset-requires-then-not-older : goal.reset-requires-then-not-older
reset-requires-then-not-older c =
    let q = c.requires.0.instance in
    let here = c.requires.0.made in
    let g = opens q c.requires here (c.actor-active.ensures q here) c.in-Ok.ensures in
    (c.in-Ok-abort.ensures (tx_begun c.args.id q) c.args.self.now q q g.goes g.begins g.here).0.draft.undone.room

pub returns-then-not-older : goal.returns-then-not-older
returns-then-not-older c = λ q here.
    let p = c.args.self.now in
    let t = tx_begun c.args.id q in
    let g = opens q c.requires here (c.actor-active.ensures q here) c.in-Ok.ensures in
    let comes = c.in-Ok-abort.ensures t p q q g.goes g.begins g.here in
    let young : is_holder p c.args.id (option_copied c.args.holder) ≡ false = search rules in
    not_older c.args.code.now p c.args.id q c.abort.new.draft _ g.start c.args.place.now (option_copied c.args.holder) c.abort.new.self c.reset-then-not-older.new.self c.in-Ok-abort.active
    comes young (c.reset-then-not-older.ensures t p q comes.0.draft refl)

pub undo-requires : goal.undo-requires
undo-requires c =
    let q = c.requires.0.instance in
    let here = c.requires.0.made in
    let g = opens q c.requires here (c.actor-active.ensures q here) c.in-Ok.ensures in
    (c.in-Ok-abort.ensures (tx_begun c.args.id q) c.args.self.now q q g.goes g.begins g.here).0.draft.undone.room

pub returns : goal.returns
returns c = λ q here.
    let p = c.args.self.now in
    let g = opens q c.requires here (c.actor-active.ensures q here) c.in-Ok.ensures in
    let old : is_holder p c.args.id (option_copied c.args.holder) ≡ true = search rules in
    aborted_so_ok c.args.code.now p c.args.id q c.abort.new.draft _ g.start c.args.place.now (option_copied c.args.holder) c.abort.new.self c.undo.new.self c.in-Ok-abort.active
    (c.in-Ok-abort.ensures (tx_begun c.args.id q) p q q g.goes g.begins g.here) old c.undo.ensures
