-- Responses that lead from a state of the host to another: those of the steps to some actions, and one run of them after another.
use Rattle.std.proofs.Common.{List, [], ◌∷◌, ◌++◌, subst}
use Rattle.beldi_schedule.specs.Settles.{State}
use Rattle.beldi_session.specs.{HostResponse.Response, Script.Action, Session.Leads, Session.Steps}

unfoldable pub leads_so : (P : State → State → Response → Type 0) (ys : List Response) (fs more : List Action) (s t : State) → Steps P ys fs more s t → Leads P ys s t
leads_so P [] fs more s t x = x.0
leads_so P (y ∷ ys) fs more s t x = (x.0, x.2, leads_so P ys x.1 more x.0 t x.4)

pub leads_then : (P : State → State → Response → Type 0) (xs ys : List Response) (s t u : State) → Leads P xs s t → Leads P ys t u → Leads P (xs ++ ys) s u
leads_then P [] ys s t u x y = subst (λ z. Leads P ys z u) x y
leads_then P (r ∷ xs) ys s t u x y = (x.0, x.1, leads_then P xs ys x.0 t u x.2 y)
