use Rattle.beldi_value.proofs.{Names.ap, Names.option_map, Names.slice_get, Names.value_of, Names.◌∙◌, Fields.item_back}
use Rattle.beldi_value.proofs.value.Values.item.Goals as goal

pub returns : goal.returns
returns c =
    let n = c.args.place in
    c.value_at.ensures ∙ item_back c.as_slice.result.now n ∙ ap (λ ds. option_map value_of (slice_get ds n)) c.as_slice.ensures
