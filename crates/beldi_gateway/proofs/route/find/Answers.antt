use Rattle.beldi_gateway.proofs.Paths.{no_text, found_value}
use Rattle.beldi_gateway.proofs.route.find.Goals as goal

pub returns-in_default : goal.returns-in_default
returns-in_default c = no_text c.args.router.now c.args.path.now c.in_default.ensures.cases.0

pub returns-in-Ok-at : goal.returns-in-Ok-at
returns-in-Ok-at c = found_value c.args.router.now c.args.path.now c.in-Ok.path.now _ c.in-Ok.ensures.cases.0 c.in-Ok.ensures.cases.1 c.in-Ok-at.ensures.found
