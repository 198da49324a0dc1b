use Rattle.beldi_syntax.proofs.Names.{ReadsText, ap, drop, length, parts_at, subst, sym, take, to_script, ◌∙◌, ◌≤◌}
use Rattle.beldi_syntax.proofs.Pieces.{script_fits}
use Rattle.beldi_syntax.proofs.reading.read_deployment.Goals as goal

pub split_at-requires : goal.split_at-requires
split_at-requires c = subst (λ n. n ≤ length c.args.bytes.now) (sym c.in_ok-count.ensures) (script_fits 0 c.args.bytes.now)

pub returns : goal.returns
returns c =
    subst (λ t. ReadsText (parts_at c.args.bytes.now t (drop (to_script 0 c.args.bytes.now) c.args.bytes.now)) c.read_parts.result) (c.split_at.ensures.front ∙ ap (λ n. take n c.args.bytes.now) c.in_ok-count.ensures)
    (subst (λ a. ReadsText (parts_at c.args.bytes.now c.split_at.result.0.now a) c.read_parts.result) (c.split_at.ensures.back ∙ ap (λ n. drop n c.args.bytes.now) c.in_ok-count.ensures) c.read_parts.ensures)
