use Rattle.std.proofs.Common.{◌<◌, ◌^◌, arith}
use Rattle.text_words.proofs.NumberLemmas.{room-for_digit}
use Rattle.text_words.proofs.reading.decimal_value.Goals as goal

pub overflow_mul-number : goal.overflow_mul-number
overflow_mul-number c =
    let room : c.loop-code.number < 10 ^ 9 =
    room-for_digit 10 9 c.loop-code.code-index c.loop-code.number (omega arith) (omega arith)
    c.loop-code.invariant.small in omega arith

pub overflow_add-number : goal.overflow_add-number
overflow_add-number c =
    let room : c.loop-code.number < 10 ^ 9 =
    room-for_digit 10 9 c.loop-code.code-index c.loop-code.number (omega arith) (omega arith)
    c.loop-code.invariant.small in omega (arith, c.in-Some.ensures.small)
