use Rattle.beldi_value.proofs.{Names.arith, Names.common_steps, Names.field_at, Fields.found_back}
use Rattle.beldi_value.proofs.value.Rec.get.Goals as goal

pub returns-then-is_eq : goal.returns-then-is_eq
returns-then-is_eq c = found_back c.field-item.result.1 (field_at c.args.key.now c.args.self.now) (grind (arith, common_steps))
