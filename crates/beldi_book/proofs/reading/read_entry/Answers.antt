use Rattle.beldi_book.proofs.Names.{Entry, IsEntryOf, IsStart, Option, ap, codes, is_name, option_copied, other_at, sym, ◌∙◌, ◌≡◌}
use Rattle.beldi_book.proofs.Starts.{one_word, start_line, other_line, ok_also}
use Rattle.beldi_book.proofs.reading.read_entry.Goals as goal

pub returns-in_default : goal.returns-in_default
returns-in_default c = one_word c.args.code.now c.args.line.now (sym c.cut_at.ensures.rest ∙ ap option_copied c.in_default.is)

pub returns-then-is_word : goal.returns-then-is_word
returns-then-is_word c =
    let code = c.args.code.now in
    let line = c.args.line.now in
    let words = c.in-Some.words.now in
    let more = sym c.cut_at.ensures.rest ∙ ap option_copied c.in-Some.is in
    let first = ap (λ w. is_name w (codes "start")) (sym c.cut_at.ensures.front) ∙ sym c.if-is_word.ensures in
    ok_also c.read_start.result (IsStart code words) (IsEntryOf code line) (λ o. start_line code line words o first more) c.read_start.ensures

pub returns-else-is_word : goal.returns-else-is_word
returns-else-is_word c =
    let code = c.args.code.now in
    let line = c.args.line.now in
    let words = c.in-Some.words.now in
    let more = sym c.cut_at.ensures.rest ∙ ap option_copied c.in-Some.is in
    let first = ap (λ w. is_name w (codes "start")) (sym c.cut_at.ensures.front) ∙ sym c.if-is_word.ensures in
    ok_also c.read_other.result (λ (o : Option Entry). o ≡ other_at c.cut_at.result.0.now words) (IsEntryOf code line) (λ o is. other_line code line words o first more (is ∙ ap (λ w. other_at w words) c.cut_at.ensures.front)) c.read_other.ensures
