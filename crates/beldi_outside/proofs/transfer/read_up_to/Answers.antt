use Rattle.std.proofs.Common.{rules, ◌≡◌, ◌+◌, Err, sym, subst}
use Rattle.beldi_outside.{specs.Outside.Observed, specs.Outside.ReadAllOn, specs.declared.transfer.ReadErr.TheVariants.OutOfMemory, proofs.Transfers.lost}
use Rattle.beldi_outside.proofs.transfer.read_up_to.Goals as goal

pub returns-in_err-extend_from_slice-clause-bytes :
    goal.returns-in_err-extend_from_slice-clause-bytes
returns-in_err-extend_from_slice-clause-bytes g c =
    let s = g.S.Source in
    let first = s.left c.args.source.now in
    let last = s.left c.read.new.self in
    let r = c.from_residual-in_err-extend_from_slice.result in
    let is : r ≡ Err OutOfMemory = search rules in
    subst (λ x. Observed first last (ReadAllOn c.args.most x)) (sym is)
    (lost (c.args.most + 1) c.in_ok-count.count c.loop-piece.bytes.items c.read.new.buf first (s.left c.loop-piece.source) last (search rules) c.loop-piece.invariant.bytes c.in_ok-count.ensures.bytes)
