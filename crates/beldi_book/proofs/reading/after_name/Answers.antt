use Rattle.beldi_book.proofs.Starts.{names, no_name, no_space}
use Rattle.beldi_book.proofs.reading.after_name.Goals as goal

pub returns-in-Some-strip_prefix : goal.returns-in-Some-strip_prefix
returns-in-Some-strip_prefix c =
    let front = c.in-Some.ensures.cases in
    let space = c.in-Some-strip_prefix.ensures.cases in
    names c.args.name.now c.args.words.now c.in-Some.rest.now c.in-Some-strip_prefix.json.now front.0 front.1 space.0 space.1

pub returns-in-None-strip_prefix : goal.returns-in-None-strip_prefix
returns-in-None-strip_prefix c =
    let front = c.in-Some.ensures.cases in
    no_space c.args.name.now c.args.words.now c.in-Some.rest.now front.0 front.1 c.in-None-strip_prefix.ensures.cases

pub returns-in-None : goal.returns-in-None
returns-in-None c = no_name c.args.name.now c.args.words.now c.in-None.ensures.cases
