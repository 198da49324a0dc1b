use Rattle.beldi_bytes.proofs.ByteLists.{is_next_lemma}
use Rattle.beldi_bytes.proofs.value_in.is_next.Goals as goal

pub returns-in-Some : goal.returns-in-Some
returns-in-Some c = is_next_lemma c.as_slice.result.now c.in-Some.last.now _ _ _ c.cmp.result c.as_slice.ensures c.in-Some.ensures.value c.in-Some.ensures.item.3.0 c.requires c.is_lt.ensures c.cmp.ensures
