use Rattle.beldi_value.proofs.{Names.arith, Names.drop, Names.sym, Names.◌*◌, Names.◌+◌, Names.◌∙◌, Numbers.more_number, Numbers.more_digits, Numbers.no_more_digits, Numbers.too_large}
use Rattle.beldi_value.proofs.number.read_number.Goals as goal

pub returns-then-not-is_ascii_digit : goal.returns-then-not-is_ascii_digit
returns-then-not-is_ascii_digit c = no_more_digits c.args.most c.loop-byte.byte-index c.args.bytes.now c.loop-byte-test.true c.loop-byte.invariant.digits c.if-not-is_ascii_digit.ensures.value

pub returns-in_err-number : goal.returns-in_err-number
returns-in_err-number c =
    let next = c.loop-byte.number * 10 + c.from-digit.result in
    let more = more_number c.loop-byte.number next c.loop-byte.byte-index c.args.bytes.now c.loop-byte-test.true c.loop-byte.invariant.number (omega arith) in
    c.from_residual.ensures ∙ sym (too_large c.args.most next c.args.bytes.now (drop (c.loop-byte.byte-index + 1) c.args.bytes.now) more (omega (arith, c.in_err-number.ensures)))

pub returns-then-number-most : goal.returns-then-number-most
returns-then-number-most c =
    let more = more_number c.loop-byte.number c.in_ok-number.number c.loop-byte.byte-index c.args.bytes.now c.loop-byte-test.true c.loop-byte.invariant.number (omega (arith, c.in_ok-number.ensures)) in
    sym (too_large c.args.most c.in_ok-number.number c.args.bytes.now (drop (c.loop-byte.byte-index + 1) c.args.bytes.now) more c.if-number-most.true)

pub loop-byte-preserved : goal.loop-byte-preserved
loop-byte-preserved c = record {
  number = more_number c.loop-byte.number c.in_ok-number.number c.loop-byte.byte-index c.args.bytes.now c.loop-byte-test.true c.loop-byte.invariant.number (omega (arith, c.in_ok-number.ensures));
  digits = more_digits c.loop-byte.byte-index c.args.bytes.now c.loop-byte-test.true c.loop-byte.invariant.digits c.if-not-is_ascii_digit.ensures.value;
  small = c.if-number-most.false;
}
