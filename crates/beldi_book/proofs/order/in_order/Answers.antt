use Rattle.beldi_book.proofs.Names.{Entry, IfOk, List, ap, ap₂, drop_all, put_all_in, subst, sym, woven, ◌∙◌, ◌≡◌}
use Rattle.beldi_book.proofs.ReadPlaces.{by_places}
use Rattle.beldi_book.proofs.order.in_order.Goals as goal

pub returns : goal.returns
returns c =
    let es = c.args.entries.now in
    let put = ap (put_all_in c.loop-entry.places.items) (sym (drop_all _ _ c.loop-entry-test.false)) ∙ c.loop-entry.invariant.all in
    subst (λ (xs : List Entry). IfOk c.woven.result (λ v. v.items ≡ xs)) (ap₂ woven c.in_ok-changes.ensures put ∙ by_places es) c.woven.ensures
