-- What the parts of a service leave, over a host that is open.
use Rattle.std.specs.Prelude.{◌≡◌, ℕ, true, List, [], ◌∷◌, Option, Result, OnOk}
use Rattle.beldi_row.specs.{declared.table.Table.Ghosts}
use Rattle.beldi_step.specs.HostStep.{Core}
use Rattle.beldi_host.specs.{declared.host.Host.Host}
use Rattle.beldi_outside.specs.{Connection.Connections, Outside.Rose, Outside.Observed}
use Rattle.beldi_session.specs.{Script.ListBook, Script.ListTables, Session.Does, Session.Writes, Session.sight, declared.session.Stop.Stop}
use Rattle.beldi_serve.specs.Desk.{state_of}
use Rattle.beldi_program.specs.{Service.Course, Service.ServedTo, Service.is_service_end, Service.listed_end, declared.program.Ended.Ended}

-- the tables and the book were listed, and the table is given back
pub record Lists {K T : Type 0} {G : Ghosts T} (held : K → Option (List ℕ)) (faults : K → ℕ) (host : Host T G) (k k' : K) (t' : T) (e : Ended) : Type 0 where
  pub after : Host T G
  pub table : t' ≡ after.table
  pub waiting : List ℕ
  pub listed : Result (Unit {0}) Stop
  pub empty : OnOk listed (waiting ≡ [])
  pub does : Does (ListTables ∷ ListBook ∷ []) (sight host [] (held k) (faults k)) (sight after waiting (held k') (faults k')) listed
  pub ends : e ≡ listed_end listed

-- connections were served over a host, and the table is given back
pub record ServesHost {K T C : Type 0} {G : Ghosts T} (held : K → Option (List ℕ)) (faults : K → ℕ) (tells : C → ℕ → C → Type 0) (host : Host T G) (requests : ℕ) (link link' : Option Connections) (clock : C) (refused : Type 0) (k k' : K) (t' : T) (e : Ended) : Type 0 where
  pub written : List ℕ
  pub sink : Writes (held k) (held k') written
  pub went : Observed (G.state host.table).rows (G.state t').rows (λ m n. (core : Core) × ServedTo host.code requests link' written (λ xs ys last. Course tells host.code (G.state host.table).room link clock xs ys last (state_of host m) (record { core = core; rows = n; faults = (G.state t').faults })) e)
  pub fault : e ≡ Ended.SinkFault → Rose (faults k) (faults k')
  pub refusal : e ≡ Ended.LinkRefused → refused
  pub ends : is_service_end e ≡ true
