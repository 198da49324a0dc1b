use Rattle.beldi_book.proofs.Names.{ap, arith, bool_byte, count_changes, sym, ◌+◌, ◌∙◌}
use Rattle.beldi_book.proofs.Orders.{few, counted, at_most_one}
use Rattle.beldi_book.proofs.book.Book.push.Goals as goal

pub overflow_add-self : goal.overflow_add-self
overflow_add-self c =
    let room = rw (← c.self.view_is) at c.requires in
    let most = few c.self.inside.entries.items in
    let one = at_most_one c.is_change.result c.from.result c.from.ensures in
    let is = c.self.invariant in
    omega arith

pub invariant_of-self : goal.invariant_of-self
invariant_of-self c =
    ap (λ k. c.self.inside.changes + k) c.from.ensures ∙ ap (λ n. n + bool_byte c.is_change.result) c.self.invariant
    ∙ sym (counted c.self.inside.entries.items c.args.entry c.is_change.result c.is_change.ensures) ∙ ap count_changes (sym c.push_reserved.ensures.items)
