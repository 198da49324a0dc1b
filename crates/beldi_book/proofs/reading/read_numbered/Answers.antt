use Rattle.beldi_book.proofs.Names.{IsArgs, None, Option, Some, Value, ap, func_at, numeral_at, option_copied, subst, sym, ◌∙◌}
use Rattle.beldi_book.proofs.Starts.{no_number_rest, no_number, is_there, numbered, not_none, is_none}
use Rattle.beldi_book.proofs.reading.read_numbered.Goals as goal

pub returns-in_default : goal.returns-in_default
returns-in_default c = no_number_rest c.args.code.now c.args.words.now (sym c.cut_at.ensures.rest ∙ ap option_copied c.in_default.is)

pub returns-in_default-read_numeral : goal.returns-in_default-read_numeral
returns-in_default-read_numeral c =
    no_number c.args.code.now c.args.words.now (ap (numeral_at 65535) (sym c.cut_at.ensures.front) ∙ sym c.read_numeral.ensures ∙ c.in_default-read_numeral.is)

pub returns-then-is_some : goal.returns-then-is_some
returns-then-is_some c =
    let number = ap (numeral_at 65535) (sym c.cut_at.ensures.front) ∙ sym c.read_numeral.ensures ∙ c.in-Some-read_numeral.is in
    is_there c.args.code.now c.args.words.now c.in-Some-read_numeral.number number (not_none c.func_at.result (func_at c.args.code.now c.in-Some-read_numeral.number) c.func_at.ensures (sym c.if-is_some.ensures))

pub returns-in-Some-2 : goal.returns-in-Some-2
returns-in-Some-2 c =
    let m = c.in-Some-read_numeral.number in
    let number = ap (numeral_at 65535) (sym c.cut_at.ensures.front) ∙ sym c.read_numeral.ensures ∙ c.in-Some-read_numeral.is in
    let more = sym c.cut_at.ensures.rest ∙ ap option_copied c.in-Some.is in
    let lacks = is_none c.func_at.result (func_at c.args.code.now m) c.func_at.ensures (sym c.if-is_some.ensures) in
    numbered c.args.code.now c.args.words.now c.in-Some.json.now m (Some c.in-Some-2.args) more number lacks (subst (λ (o : Option Value). IsArgs c.in-Some.json.now o) c.in-Some-2.is c.in_ok-args.ensures)

pub returns-in-None : goal.returns-in-None
returns-in-None c =
    let m = c.in-Some-read_numeral.number in
    let number = ap (numeral_at 65535) (sym c.cut_at.ensures.front) ∙ sym c.read_numeral.ensures ∙ c.in-Some-read_numeral.is in
    let more = sym c.cut_at.ensures.rest ∙ ap option_copied c.in-Some.is in
    let lacks = is_none c.func_at.result (func_at c.args.code.now m) c.func_at.ensures (sym c.if-is_some.ensures) in
    numbered c.args.code.now c.args.words.now c.in-Some.json.now m None more number lacks (subst (λ (o : Option Value). IsArgs c.in-Some.json.now o) c.in-None.is c.in_ok-args.ensures)
