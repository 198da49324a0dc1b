use Rattle.beldi_session.proofs.Names.{Book, BookIs, Does, IsReport, ListBook, OnOk, [], arith, book_text, refl, report_text, sight, state_at, subst, sym, ◌++◌, ◌∷◌, ◌≡◌}
use Rattle.beldi_session.proofs.Responses.{reported, tells_same}
use Rattle.beldi_session.proofs.session.list_book.Goals as goal

pub returns : goal.returns
returns g c = λ held faults.
    let wrote = c.write_book.result in
    let a = sight c.args.host.now c.args.out.now held faults in
    let b = sight c.args.host.now c.write_book.new.out held faults in
    let y = BookIs (book_text a.code a.core.book) in
    subst (λ r. Does (ListBook ∷ []) a b r) (sym c.appended.ensures)
    (reported a b (record { held = refl; faults = refl; code = refl; room = refl; later = omega arith }) refl (λ m. y) ListBook wrote (λ m. refl)
    (tells_same a.table.rows (λ m. OnOk wrote (b.waiting ≡ a.waiting ++ report_text a.code y) × IsReport a.code (state_at a m) (state_at b m) y)
    (λ m. (
      subst (λ d. OnOk wrote (b.waiting ≡ a.waiting ++ report_text d (BookIs (book_text d a.core.book)))) c.code.ensures
          (subst (λ (k : Book). OnOk wrote (b.waiting ≡ a.waiting ++ report_text c.code.result.now (BookIs (book_text c.code.result.now k.entries)))) c.book.ensures.book c.write_book.ensures),
      refl,
    ))))
