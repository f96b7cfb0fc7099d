use native.Mathlib.Omega.{arith}
use Rattle.text.proofs.Numbers.{line_room, numbers_fit, end_fits, line_done}
use Rattle.text.proofs.put_line.Goals as goal

pub put-after_word-requires : goal.put-after_word-requires
put-after_word-requires c = omega (arith, line_room c.args.word.now c.args.numbers.now c.args.at _ c.requires)

pub put_numbers-end-requires : goal.put_numbers-end-requires
put_numbers-end-requires c =
    numbers_fit c.args.numbers.now c.requires c.put-after_word.ensures

pub bounds-out-end : goal.bounds-out-end
bounds-out-end c =
    end_fits c.args.numbers.now c.requires c.put-after_word.ensures c.put_numbers-end.ensures

pub returns : goal.returns
returns c =
    line_done c.args.numbers.now c.requires c.put-after_word.ensures c.put_numbers-end.ensures
