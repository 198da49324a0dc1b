use Rattle.beldi_value.proofs.Names.{List, Ok, arith, int, read_of, rules, subst, sym, ℕ, ◌≡◌}
use Rattle.beldi_value.proofs.{Ints.alone, ReadAgain.read_again, Within.int_within}
use Rattle.beldi_value.proofs.read.int_read.Goals as goal

pub returns-clause-read : goal.returns-clause-read
returns-clause-read c =
    let again = subst (λ (bs : List ℕ). read_of bs ≡ Ok (int c.args.number)) (alone c.args.number c.args.bytes.now c.requires) (read_again (int c.args.number) (omega arith) (sym (int_within c.args.number (omega arith)))) in
    search (rules, again)

pub returns-clause-within : goal.returns-clause-within
returns-clause-within c = let within = sym (int_within c.args.number (omega arith)) in search (rules, within)
