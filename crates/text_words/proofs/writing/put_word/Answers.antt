use Rattle.std.proofs.Common.{arith, refl, append_assoc}
use Rattle.text_words.proofs.HexLemmas.{hex_low}
use Rattle.text_words.proofs.writing.put_word.Goals as goal

pub returns-clause-bytes : goal.returns-clause-bytes
returns-clause-bytes c =
    let digits = hex_low 7 c.args.n (omega arith) (omega (arith, c.ranges.n.fits)) in
    rw (c.put_digits.ensures.bytes, c.put_text.ensures.bytes, append_assoc, ← digits) refl
