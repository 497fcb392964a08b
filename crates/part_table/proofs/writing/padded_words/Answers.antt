use Rattle.std.proofs.Common.{◌≡◌, ◌+◌, ◌/◌, ◌∙◌, sym, arith, length}
use Rattle.part_table.proofs.WrittenLemmas.{padded_words}
use Rattle.part_table.proofs.writing.padded_words.Goals as goal

pub returns-clause-value : goal.returns-clause-value
returns-clause-value c =
    let size : length c.args.name.now / 4 + 1 ≡ (length c.args.name.now + 4) / 4 = omega arith in
    size ∙ sym (padded_words c.args.name.now)

pub returns-clause-bytes : goal.returns-clause-bytes
returns-clause-bytes c = λ i. omega (arith, c.type_inv.name i)
