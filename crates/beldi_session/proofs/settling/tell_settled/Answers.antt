use Rattle.beldi_session.proofs.Names.{Does, IsReport, OnOk, Over, Settle, SettledIs, [], arith, refl, report_text, sight, state_at, subst, sym, ◌++◌, ◌∷◌, ◌≡◌}
use Rattle.beldi_session.proofs.Responses.{reported, tells_same}
use Rattle.beldi_session.proofs.settling.tell_settled.Goals as goal

pub returns : goal.returns
returns g c = λ held faults.
    let wrote = c.write_settled.result in
    let settled = c.args.settled.now in
    let act = Settle c.args.budget (Over settled) in
    let a = sight c.args.host.now c.args.out.now held faults in
    let b = sight c.args.host.now c.write_settled.new.out held faults in
    let y = SettledIs settled in
    subst (λ r. Does (act ∷ []) a b r) (sym c.appended.ensures)
    (reported a b (record { held = refl; faults = refl; code = refl; room = refl; later = omega arith }) refl (λ m. y) act wrote (λ m. (refl, refl))
    (tells_same a.table.rows (λ m. OnOk wrote (b.waiting ≡ a.waiting ++ report_text a.code y) × IsReport a.code (state_at a m) (state_at b m) y)
    (λ m. (subst (λ d. OnOk wrote (b.waiting ≡ a.waiting ++ report_text d y)) c.code.ensures c.write_settled.ensures, tt))))
