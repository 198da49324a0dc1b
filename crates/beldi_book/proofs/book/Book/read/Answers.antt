use Rattle.beldi_book.proofs.Names.{Entry, IsEntryOf, IsLineOf, List, Option, ap, option_copied, subst, sym, ℕ, ◌∙◌}
use Rattle.beldi_book.proofs.{Cuts.rest_shorter, Books.SoFar, Books.line_read}
use Rattle.beldi_book.proofs.book.Book.read.Goals as goal

pub loop-rest-smaller : goal.loop-rest-smaller
loop-rest-smaller c = rest_shorter 10 c.loop-rest.rest.now c.in-Some.more.now (sym c.cut_at.ensures.rest ∙ ap option_copied c.in-Some.is)

pub loop-rest-preserved : goal.loop-rest-preserved
loop-rest-preserved c =
    let code = c.args.code.now in
    let e = c.in-Ok-Some.entry in
    let next = sym c.cut_at.ensures.rest ∙ ap option_copied c.in-Some.is in
    let is : IsEntryOf code c.cut_at.result.0.now c.in-Ok-Some.field-0 = c.in-Ok-Some.ensures in
    let line : IsLineOf code c.cut_at.result.0.now e = subst (λ (o : Option Entry). IsEntryOf code c.cut_at.result.0.now o) c.in-Ok-Some.field-0-is is in
    subst (λ (es : List Entry). SoFar code c.args.text.now c.in-Some.more.now es) (sym c.in-Ok.ensures)
    (line_read code c.args.text.now c.loop-rest.rest.now c.in-Some.more.now c.loop-rest.book.entries e c.loop-rest.invariant next (subst (λ (w : List ℕ). IsLineOf code w e) c.cut_at.ensures.front line))
