use Rattle.beldi_book.proofs.{Names.ap, Names.count_changes, Names.length, Names.linear, Names.sym, Names.◌∙◌, Orders.linear_changes}
use Rattle.beldi_book.proofs.book.Book.linear.Goals as goal

pub invariant_of-result : goal.invariant_of-result
invariant_of-result c =
    c.self.invariant ∙ ap length (sym (linear_changes c.self.inside.entries.items)) ∙ ap (λ es. count_changes (linear es)) (sym c.as_slice.ensures.value) ∙ ap count_changes (sym c.in_ok-in_order.ensures)
