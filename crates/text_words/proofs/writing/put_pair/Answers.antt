use Rattle.std.proofs.Common.{rules, ◌≡◌, arith, refl}
use Rattle.text_words.proofs.HexLemmas.{hex_low}
use Rattle.text_words.proofs.writing.put_pair.Goals as goal

pub returns-clause-bytes : goal.returns-clause-bytes
returns-clause-bytes c =
    let same : c.from.result ≡ c.args.n = search rules in
    rw (c.put_digits.ensures.bytes, same, hex_low 1 c.args.n (omega arith) (omega (arith, c.ranges.n.fits))) refl
