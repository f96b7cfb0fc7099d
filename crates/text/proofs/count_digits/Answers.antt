use Rattle.std.proofs.Common.{rules, arith}
use Rattle.text.proofs.Decimal.{digits_few, one_digit, two_digits, two_more}
use Rattle.text.proofs.count_digits.Goals as goal

pub overflow_add-count : goal.overflow_add-count
overflow_add-count c = record { fits = omega (arith, c.loop-rest.invariant, digits_few 20 c.args.n) }

pub loop-rest-preserved : goal.loop-rest-preserved
loop-rest-preserved c =
    let l = c.loop-rest in
    omega (arith, l.invariant, two_more l.rest (search rules) (search rules))

pub returns-then-rest-lt10 : goal.returns-then-rest-lt10
returns-then-rest-lt10 c = let l = c.loop-rest in omega (arith, l.invariant, one_digit l.rest (search rules))

pub overflow_add-result : goal.overflow_add-result
overflow_add-result c = record { fits = omega (arith, c.loop-rest.invariant, digits_few 20 c.args.n) }

pub returns-else-rest-lt10 : goal.returns-else-rest-lt10
returns-else-rest-lt10 c = let l = c.loop-rest in omega (arith, l.invariant, two_digits l.rest (search rules) (search rules))
