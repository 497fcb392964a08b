use Rattle.std.proofs.Common.{arith, refl, append_assoc}
use Rattle.text_words.proofs.DecimalLemmas.{decimal_more, length_more}
use Rattle.text_words.proofs.writing.+put_decimal.Goals as goal

pub put_decimal-requires : goal.put_decimal-requires
put_decimal-requires t c =
    let more = length_more c.args.n (omega (arith, c.if-n-lt10.false)) (omega (arith, c.ranges.n.fits)) in
    (omega (arith, c.decreases, c.if-n-lt10.false), omega (arith, more, c.requires.room))

pub put_digit-requires-else-n-lt10-clause-room : goal.put_digit-requires-else-n-lt10-clause-room
put_digit-requires-else-n-lt10-clause-room t c =
    let more = length_more c.args.n (omega (arith, c.if-n-lt10.false)) (omega (arith, c.ranges.n.fits)) in
    omega (arith, more, c.requires.room, c.put_decimal.ensures.len)

pub returns-else-n-lt10-clause-bytes : goal.returns-else-n-lt10-clause-bytes
returns-else-n-lt10-clause-bytes t c =
    let more = decimal_more c.args.n (omega (arith, c.if-n-lt10.false)) (omega (arith, c.ranges.n.fits)) in
    rw (c.put_digit-else-n-lt10.ensures.bytes, c.put_decimal.ensures.bytes, append_assoc, more) refl

pub returns-else-n-lt10-clause-len : goal.returns-else-n-lt10-clause-len
returns-else-n-lt10-clause-len t c =
    let more = length_more c.args.n (omega (arith, c.if-n-lt10.false)) (omega (arith, c.ranges.n.fits)) in
    omega (arith, more, c.put_decimal.ensures.len, c.put_digit-else-n-lt10.ensures.len)
