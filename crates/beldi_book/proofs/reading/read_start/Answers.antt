use Rattle.beldi_book.proofs.Names.{IsCall, Option, Value, ap, option_copied, small_at, subst, sym, ℕ, ◌∙◌}
use Rattle.beldi_book.proofs.Starts.{no_start_rest, no_ticket, no_call_there, is_start}
use Rattle.beldi_book.proofs.reading.read_start.Goals as goal

pub returns-in_default : goal.returns-in_default
returns-in_default c = no_start_rest c.args.code.now c.args.words.now (sym c.cut_at.ensures.rest ∙ ap option_copied c.in_default.is)

pub returns-in_default-read_small : goal.returns-in_default-read_small
returns-in_default-read_small c = no_ticket c.args.code.now c.args.words.now (ap small_at (sym c.cut_at.ensures.front) ∙ sym c.read_small.ensures ∙ c.in_default-read_small.is)

pub returns-in-Some-2 : goal.returns-in-Some-2
returns-in-Some-2 c =
    let more = sym c.cut_at.ensures.rest ∙ ap option_copied c.in-Some.is in
    let ticket = ap small_at (sym c.cut_at.ensures.front) ∙ sym c.read_small.ensures ∙ c.in-Some-read_small.is in
    let call = subst (λ (o : Option (ℕ × Value)). IsCall c.args.code.now c.in-Some.call.now o) c.in-Some-2.is c.in_ok-func.ensures in
    is_start c.args.code.now c.args.words.now c.in-Some.call.now c.in-Some-read_small.ticket (c.in-Some-2.func, c.in-Some-2.args) more ticket call

pub returns-in-None : goal.returns-in-None
returns-in-None c =
    let more = sym c.cut_at.ensures.rest ∙ ap option_copied c.in-Some.is in
    no_call_there c.args.code.now c.args.words.now c.in-Some.call.now more (subst (λ (o : Option (ℕ × Value)). IsCall c.args.code.now c.in-Some.call.now o) c.in-None.is c.in_ok-func.ensures)
