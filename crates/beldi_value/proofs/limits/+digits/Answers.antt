use Rattle.beldi_value.proofs.Names.{[], ap, arith, decimal, decimal_digit, decimal_step, length, length-append, length-decimal-le, sym, ◌%◌, ◌+◌, ◌/◌, ◌∷◌}
use Rattle.beldi_value.proofs.limits.+digits.Goals as goal

pub returns-then-number-lt10 : goal.returns-then-number-lt10
returns-then-number-lt10 t c = record { len = sym (ap length (decimal_digit c.args.number (omega arith))); few = omega arith }

pub overflow_add-result : goal.overflow_add-result
overflow_add-result t c = omega (arith, c.digits.ensures.few)

pub returns-else-number-lt10 : goal.returns-else-number-lt10
returns-else-number-lt10 t c =
    let n = c.args.number in
    let step = ap length (decimal_step n (omega arith) (omega arith)) in
    let more = length-append (decimal (n / 10)) ((48 + n % 10) ∷ []) in
    record {
      len = omega (arith, c.digits.ensures.len, step, more);
      few = omega (arith, c.digits.ensures.len, step, more, length-decimal-le 20 n (omega arith) (omega arith) (omega arith));
    }
