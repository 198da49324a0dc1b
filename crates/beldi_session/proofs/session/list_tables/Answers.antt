use Rattle.beldi_session.proofs.Names.{Does, Err, IsReport, ListTables, None, Ok, OnOk, Rows, Some, TablesAre, [], ap, arith, refl, report_text, sight, state_at, subst, sym, tables_text, ◌++◌, ◌∷◌, ◌≡◌}
use Rattle.beldi_session.proofs.Responses.{reported, unreported, read_rows, read_as, read_failed, tells_still, under_head, unread_under}
use Rattle.beldi_session.proofs.session.list_tables.Goals as goal

pub returns-in-Ok-tables : goal.returns-in-Ok-tables
returns-in-Ok-tables g c = λ held faults.
    let e = c.in-Ok-tables.ensures in
    let old = c.args.host.now in
    let out = c.push_text.new.self in
    let a = sight old c.args.out.now held faults in
    let b = sight c.tables.new.self c.tables.new.out held faults in
    let y = λ (m : Rows). TablesAre (Some (tables_text old.code m)) in
    reported a b (record { held = refl; faults = refl; code = e.code; room = e.reads.room; later = e.reads.later }) e.core y ListTables (Ok tt) (λ m. refl)
    (read_as a b (λ m u. c.tables.new.out ≡ out ++ tables_text old.code m) tt (λ m n. (b.waiting ≡ a.waiting ++ report_text a.code (y m)) × IsReport a.code (state_at a m) (state_at b n) (y m))
    (λ m n same is. (under_head a.waiting out b.waiting (tables_text old.code m) c.in-Ok.ensures.ok is, refl)) e.reads)

pub returns-in-Err-Failed : goal.returns-in-Err-Failed
returns-in-Err-Failed g c = λ held faults.
    let f = c.in-Err-Failed in
    let e = f.ensures in
    let old = c.args.host.now in
    let out = c.push_text.new.self in
    let wrote = c.push_text-in-Err-Failed.result in
    let a = sight old c.args.out.now held faults in
    let b = sight c.tables.new.self c.push_text-in-Err-Failed.new.self held faults in
    let y = TablesAre None in
    subst (λ r. Does (ListTables ∷ []) a b r) (sym c.appended.ensures)
    (reported a b (record { held = refl; faults = refl; code = e.code; room = e.reads.room; later = e.reads.later }) e.core (λ m. y) ListTables wrote (λ m. refl)
    (read_failed a b (λ m u. c.tables.new.out ≡ out ++ tables_text old.code m) f.field-0 (λ m n. OnOk wrote (b.waiting ≡ a.waiting ++ report_text a.code y) × IsReport a.code (state_at a m) (state_at b n) y)
    (λ m n. (unread_under a.waiting out c.tables.new.out b.waiting wrote c.in-Ok.ensures.ok e.err c.push_text-in-Err-Failed.ensures.ok, e.reads.failed (ap Err f.field-0-is))) e.reads))

pub returns-in-Err-OutOfMemory : goal.returns-in-Err-OutOfMemory
returns-in-Err-OutOfMemory g c = λ held faults.
    let e = c.in-Err-OutOfMemory.ensures in
    let a = sight c.args.host.now c.args.out.now held faults in
    let b = sight c.tables.new.self c.tables.new.out held faults in
    unreported a b (record { held = refl; faults = refl; code = e.code; room = e.reads.room; later = e.reads.later }) e.core ListTables refl (read_rows a b (λ m u. c.tables.new.out ≡ c.push_text.new.self ++ tables_text c.args.host.now.code m) (Err c.in-Err-OutOfMemory.field-0) e.reads)

pub returns-in-Err : goal.returns-in-Err
returns-in-Err g c = λ held faults.
    let a = sight c.args.host.now c.args.out.now held faults in
    let b = sight c.args.host.now c.push_text.new.self held faults in
    unreported a b (record { held = refl; faults = refl; code = refl; room = refl; later = omega arith }) refl ListTables refl (tells_still a.table.rows)
