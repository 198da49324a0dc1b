-- The routes, by what `matchit` makes of them, and the parts of their paths.
use Rattle.std.specs.Prelude.{ℕ, List, [], drop, codes, Option, None, Some, option_map, if◌then◌else◌, Result, Ok, Err}
use Rattle.std.specs.Str.{is_utf8}
use Rattle.matchit.specs.{Rows.RowsOf, Order.placed, Router.RouteOf, Router.route_from, Route.Scan, Route.parse_route, Seek.first, declared.error.InsertError.InsertError}
use Rattle.beldi_value.specs.ByteCut.{before, after}
use Rattle.beldi_gateway.specs.declared.route.Endpoint.{Endpoint, TheVariants.Tickets, TheVariants.Call, TheVariants.Reply}

abbrev pub Routes : Type 0
Routes = RowsOf (RouteOf Endpoint)

abbrev pub with_scan : Result Scan InsertError → Endpoint → Routes → Routes
with_scan (Ok s) e rs = placed (s.pattern, route_from s e) rs
with_scan (Err why) e rs = rs

abbrev pub with_route : List ℕ → Endpoint → Routes → Routes
with_route text e rs = with_scan (parse_route text) e rs

-- all routes
abbrev pub routes : Routes
routes = with_route (codes "/reply/{ticket}") Reply (with_route (codes "/call/{function}/{ticket}") Call (with_route (codes "/tickets") Tickets []))

-- the one method of each
abbrev pub method_of : Endpoint → List ℕ
method_of Tickets = codes "POST"
method_of Call = codes "POST"
method_of Reply = codes "GET"

abbrev pub found_in : Routes → List ℕ → Option Endpoint
found_in rs path = if is_utf8 path then option_map (λ r. r.value) (first rs path) else None

-- what a path is for
abbrev pub endpoint_at : List ℕ → Option Endpoint
endpoint_at path = found_in routes path

-- the path of a target ends at `?`
abbrev pub path_of : List ℕ → List ℕ
path_of target = before 63 target

abbrev pub rest_or_none : Option (List ℕ) → List ℕ
rest_or_none None = []
rest_or_none (Some rest) = rest

-- of a path `/call/FUNCTION/TICKET` and of a path `/reply/TICKET`
abbrev pub function_part : List ℕ → List ℕ
function_part path = before 47 (drop 6 path)

abbrev pub ticket_part : Endpoint → List ℕ → List ℕ
ticket_part Tickets path = []
ticket_part Call path = rest_or_none (after 47 (drop 6 path))
ticket_part Reply path = drop 7 path
