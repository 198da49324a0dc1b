use Rattle.beldi_txn.proofs.Names.{Callees, IfOk, Member, ap, call_after, calls_goes, end_goes, entry_of, subst, sym, query_reply_of, true, ◌∙◌, ◌≡◌}
use Rattle.beldi_txn.proofs.end.hear_call.Goals as goal

pub returns-in-Some-clause-ok : goal.returns-in-Some-clause-ok
returns-in-Some-clause-ok c =
    subst (λ z. IfOk c.next_call.result (λ g. g ≡ z))
    (ap (calls_goes c.args.end (c.in_ok-id-in-Found.id, c.in_ok-id-in-Found.func) c.args.path.now) (sym c.in-Some.is ∙ c.invokes_told.ensures)
    ∙ ap (λ (p : Member). calls_goes c.args.end p c.args.path.now (call_after p.1 p.0 (entry_of c.in-Found.found))) c.in_ok-id-in-Found.ensures
    ∙ ap (λ h. end_goes c.args.tx.now c.args.end true c.args.path.now Callees (query_reply_of h)) (sym c.in-Found.is))
    (c.next_call.ensures c.in_ok-id-in-Found.func)
