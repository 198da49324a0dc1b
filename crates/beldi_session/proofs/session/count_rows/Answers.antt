use Rattle.beldi_session.proofs.Names.{CountRows, Does, IsCount, OnOk, RowsAre, [], arith, refl, sight, subst, sym, ◌++◌, ◌∷◌, ◌≡◌}
use Rattle.beldi_session.proofs.Responses.{reported, counted_rows}
use Rattle.beldi_session.proofs.session.count_rows.Goals as goal

pub returns : goal.returns
returns g c = λ held faults.
    let n = c.from.result in
    let wrote = c.write_numbered.result in
    let a = sight c.args.host.now c.args.out.now held faults in
    let b = sight c.args.host.now c.write_numbered.new.out held faults in
    subst (λ r. Does (CountRows ∷ []) a b r) (sym c.appended.ensures)
    (reported a b (record { held = refl; faults = refl; code = refl; room = refl; later = omega arith }) refl (λ m. RowsAre n) CountRows wrote (λ m. refl)
    (counted_rows a.table.rows n (OnOk wrote (b.waiting ≡ a.waiting ++ _)) (subst (λ k. IsCount a.table.rows k) (sym c.from.ensures) c.rows.ensures) c.write_numbered.ensures))
