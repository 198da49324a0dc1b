use Rattle.beldi_generator.proofs.Requests.{three}
use Rattle.beldi_generator.proofs.generator.write_front.Goals as goal

pub returns : goal.returns
returns c = three _ _ _ _ _ _ _ _ c.in_ok-push_text.ensures.ok c.in_ok-push_number.ensures.ok c.push_text-2.ensures.ok
