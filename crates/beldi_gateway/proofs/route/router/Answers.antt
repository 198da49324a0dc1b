use Rattle.matchit.proofs.OnLiterals.{matchit_on_literals}
use Rattle.beldi_gateway.proofs.route.router.Goals as goal

pub returns-4 : goal.returns-4
unfolding matchit_on_literals
returns-4 c =
    let a = c.in-Ok-or_drop.ensures in
    let b = c.in-Ok-or_drop-2.ensures in
    let d = rw (b.1, a.1, c.new-router.ensures) at c.in-Ok-or_drop-3.ensures in
    d.1
