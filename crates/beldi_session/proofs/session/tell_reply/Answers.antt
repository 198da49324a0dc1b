use Rattle.beldi_session.proofs.Names.{Does, Err, IsReport, None, OnOk, ReplyIs, ReplyStatus, Rows, Some, TellReply, [], ap, refl, reply_status, report_text, sight, state_at, subst, sym, ◌++◌, ◌∷◌, ◌≡◌}
use Rattle.beldi_session.proofs.Responses.{reported, unreported, read_rows, read_as, read_failed}
use Rattle.beldi_session.proofs.session.tell_reply.Goals as goal

pub returns-in-Ok : goal.returns-in-Ok
returns-in-Ok g c = λ held faults.
    let ticket = c.args.ticket in
    let seen = c.in-Ok.seen in
    let wrote = c.write_reply_status.result in
    let e = c.in-Ok.ensures in
    let a = sight c.args.host.now c.args.out.now held faults in
    let b = sight c.reply.new.self c.write_reply_status.new.out held faults in
    let P = λ (m : Rows) (x : ReplyStatus). x ≡ reply_status a.core.newest ticket m in
    let y = ReplyIs ticket (Some seen) in
    subst (λ r. Does (TellReply ticket ∷ []) a b r) (sym c.appended-told.ensures)
    (reported a b (record { held = refl; faults = refl; code = e.code; room = e.reads.room; later = e.reads.later }) e.core (λ m. y) (TellReply ticket) wrote (λ m. (refl, refl))
    (read_as a b P seen (λ m n. OnOk wrote (b.waiting ≡ a.waiting ++ report_text a.code y) × IsReport a.code (state_at a m) (state_at b n) y) (λ m n same is. (c.write_reply_status.ensures, is)) e.reads))

pub returns-in-Err-Failed : goal.returns-in-Err-Failed
returns-in-Err-Failed g c = λ held faults.
    let ticket = c.args.ticket in
    let wrote = c.push_text.result in
    let f = c.in-Err-Failed in
    let e = f.ensures in
    let a = sight c.args.host.now c.args.out.now held faults in
    let b = sight c.reply.new.self c.push_text.new.self held faults in
    let P = λ (m : Rows) (x : ReplyStatus). x ≡ reply_status a.core.newest ticket m in
    let y = ReplyIs ticket None in
    subst (λ r. Does (TellReply ticket ∷ []) a b r) (sym c.appended.ensures)
    (reported a b (record { held = refl; faults = refl; code = e.code; room = e.reads.room; later = e.reads.later }) e.core (λ m. y) (TellReply ticket) wrote (λ m. (refl, refl))
    (read_failed a b P f.field-0 (λ m n. OnOk wrote (b.waiting ≡ a.waiting ++ report_text a.code y) × IsReport a.code (state_at a m) (state_at b n) y) (λ m n. (c.push_text.ensures.ok, (e.reads.failed (ap Err f.field-0-is), e.issued))) e.reads))

pub returns-in-Err-OutOfMemory : goal.returns-in-Err-OutOfMemory
returns-in-Err-OutOfMemory g c = λ held faults.
    let e = c.in-Err-OutOfMemory.ensures in
    let a = sight c.args.host.now c.args.out.now held faults in
    let b = sight c.reply.new.self c.args.out.now held faults in
    unreported a b (record { held = refl; faults = refl; code = e.code; room = e.reads.room; later = e.reads.later }) e.core (TellReply c.args.ticket) refl (read_rows a b (λ (m : Rows) (x : ReplyStatus). x ≡ reply_status a.core.newest c.args.ticket m) (Err c.in-Err-OutOfMemory.field-0) e.reads)
