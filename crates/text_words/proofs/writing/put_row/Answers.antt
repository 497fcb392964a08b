use Rattle.std.proofs.Common.{rules, ◌≡◌, ◌^◌, ◌<◌, arith, refl, append_assoc}
use Rattle.text_words.proofs.HexLemmas.{hex_low, row_long}
use Rattle.text_words.proofs.writing.put_row.Goals as goal
use Rattle.text_words.proofs.writing.put_row.Goals.{then-row-lt4096, else-row-lt4096}

pub returns-clause-bytes : goal.returns-clause-bytes
returns-clause-bytes c =
    let same : c.from.result ≡ c.args.row = search rules in
    elim c.if-row-lt4096.branch [
      | then-row-lt4096 w ↦
          let digits = hex_low 2 c.args.row (omega arith) (omega (arith, w.if-row-lt4096)) in
          rw (c.put_digits.ensures.bytes, c.put_text.ensures.bytes, append_assoc, w.count-is, same, digits) refl
      | else-row-lt4096 w ↦
          let digits = row_long c.args.row (omega (arith, w.if-row-lt4096)) (omega (arith, c.ranges.row.fits)) in
          rw (c.put_digits.ensures.bytes, c.put_text.ensures.bytes, append_assoc, w.count-is, same, digits) refl
    ]
