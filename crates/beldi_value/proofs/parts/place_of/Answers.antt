use Rattle.beldi_value.proofs.Names.{ap, arith, fields_view, rules, take, ◌++◌, ◌∙◌}
use Rattle.beldi_value.proofs.Fields.{below_it, at_it, after_it, view_length}
use Rattle.beldi_value.proofs.parts.place_of.Goals as goal

pub returns-in-Less : goal.returns-in-Less
returns-in-Less c =
    let fs = c.args.fields.now in
    let i = c.loop-i.i in
    (omega (arith, view_length fs), λ d. c.loop-i.invariant d ∙ ap (λ gs. take i (fields_view fs) ++ gs) (below_it fs c.args.key.now i c.index-fields-i.result d (omega arith) c.index-fields-i.is (search rules)))

pub returns-in-Equal : goal.returns-in-Equal
returns-in-Equal c =
    let fs = c.args.fields.now in
    let i = c.loop-i.i in
    (omega (arith, view_length fs), λ d. c.loop-i.invariant d ∙ ap (λ gs. take i (fields_view fs) ++ gs) (at_it fs c.args.key.now i c.index-fields-i.result d (omega arith) c.index-fields-i.is (search rules)))

pub loop-i-preserved : goal.loop-i-preserved
loop-i-preserved c =
    let fs = c.args.fields.now in
    λ d. c.loop-i.invariant d ∙ after_it fs c.args.key.now c.loop-i.i c.index-fields-i.result d (omega arith) c.index-fields-i.is (search rules)
