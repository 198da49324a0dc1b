use Rattle.beldi_book.proofs.{Names.Follows, Names.IsArgs, Starts.follows, Starts.ok_also}
use Rattle.beldi_book.proofs.reading.read_after.Goals as goal

pub returns-in-Some : goal.returns-in-Some
returns-in-Some c =
    let name = c.args.name.now in
    let words = c.args.words.now in
    ok_also c.read_args.result (IsArgs c.in-Some.json.now) (Follows name words) (λ o. follows name words c.in-Some.json.now o c.in-Some.ensures) c.read_args.ensures
