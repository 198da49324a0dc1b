use Rattle.beldi_book.proofs.Names.{[], ap, ap₂, arith, get_or, put_by_version, version_of, slice_set, sym, ◌++◌, ◌∙◌, ◌∷◌}
use Rattle.beldi_book.proofs.{ReadPlaces.put_inside, ReadPlaces.put_last, order.put_in.Goals.then-version-last, order.put_in.Goals.else-version-last}
use Rattle.beldi_book.proofs.order.put_in.Goals as goal

pub returns-in_ok-push-clause-places : goal.returns-in_ok-push-clause-places
returns-in_ok-push-clause-places c =
    let ps = c.args.places.now.items in
    let at = c.if-version-last.at in
    let version = c.in-Read.version in
    let e = c.args.entry.now in
    let d = c.index_mut.result.now in
    let long = c.len-last.ensures in
    let some = c.requires in
    let pushed = c.in_ok-push.ensures ∙ ap₂ (λ p x. p ++ x ∷ []) c.index_mut.ensures.value c.in_ok-copy.ensures in
    let placed = ap (λ o. put_by_version o e ps) (sym (ap version_of c.in-Read.is)) in
    elim c.if-version-last.branch [
      | then-version-last w ↦ let less = w.if-version-last.true in let is = w.at-is in ap (λ n. slice_set ps n c.push.new.self) is ∙ put_inside version e ps d c.push.new.self (omega arith) (pushed ∙ ap (λ n. get_or ps n d ++ e ∷ []) is) ∙ placed
      | else-version-last w ↦ let less = w.if-version-last.false in let is = w.at-is in put_last at version e ps d c.push.new.self (omega arith) (omega arith) pushed ∙ placed
    ]
