use Rattle.std.proofs.Common.{ℕ, ◌+◌, ◌-◌, ◌∙◌, ap, sym, List}
use Rattle.cli_otp.specs.Setting.{first_bits, rows_set}
use Rattle.cli_otp.proofs.WordLemmas.{bits-end, bits-more}
use Rattle.cli_otp.proofs.writing.set_secure_rows.Goals as goal

pub loop-place-preserved : goal.loop-place-preserved
loop-place-preserved c =
    ap (λ (words : List ℕ). rows_set words (first_bits (0x040 + (c.loop-place.place + 1)) (8 - (c.loop-place.place + 1))))
    c.set_row.ensures
    ∙ sym (bits-more c.loop-place.words.items 0x040 8 c.loop-place.place c.loop-place-test.true)
    ∙ c.loop-place.invariant

pub returns : goal.returns
returns c =
    sym (bits-end c.loop-place.words.items 0x040 8 c.loop-place.place c.loop-place-test.false)
    ∙ c.loop-place.invariant
