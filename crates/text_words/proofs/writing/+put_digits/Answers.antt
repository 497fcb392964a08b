use Rattle.std.proofs.Common.{◌≡◌, arith, refl, append_assoc, append-nil}
use Rattle.text_words.proofs.HexLemmas.{low_front, low_none}
use Rattle.text_words.proofs.writing.+put_digits.Goals as goal

pub returns-then-count-gt0-clause-bytes : goal.returns-then-count-gt0-clause-bytes
returns-then-count-gt0-clause-bytes t c =
    let front = low_front c.args.count c.args.n (omega (arith, c.if-count-gt0.true)) in
    rw (c.put_digit.ensures.bytes, c.put_digits.ensures.bytes, append_assoc, front) refl

pub returns-else-count-gt0-clause-bytes : goal.returns-else-count-gt0-clause-bytes
returns-else-count-gt0-clause-bytes t c =
    let none : c.args.count ≡ 0 = omega (arith, c.if-count-gt0.false) in
    rw (none, low_none c.args.n, append-nil c.args.line.now.bytes) refl
