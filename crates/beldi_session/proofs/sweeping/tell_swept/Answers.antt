use Rattle.beldi_session.proofs.Names.{Does, IsReport, OnOk, SweptIs, TellSwept, [], arith, refl, report_text, sight, state_at, subst, sym, ◌++◌, ◌∷◌, ◌≡◌}
use Rattle.beldi_session.proofs.Responses.{reported, tells_same}
use Rattle.beldi_session.proofs.sweeping.tell_swept.Goals as goal

pub returns : goal.returns
returns g c = λ held faults.
    let wrote = c.write_swept.result in
    let act = TellSwept c.args.swept in
    let a = sight c.args.host.now c.args.out.now held faults in
    let b = sight c.args.host.now c.write_swept.new.out held faults in
    let y = SweptIs c.args.swept in
    subst (λ r. Does (act ∷ []) a b r) (sym c.appended.ensures)
    (reported a b (record { held = refl; faults = refl; code = refl; room = refl; later = omega arith }) refl (λ m. y) act wrote (λ m. (refl, refl))
    (tells_same a.table.rows (λ m. OnOk wrote (b.waiting ≡ a.waiting ++ report_text a.code y) × IsReport a.code (state_at a m) (state_at b m) y) (λ m. (c.write_swept.ensures, tt))))
