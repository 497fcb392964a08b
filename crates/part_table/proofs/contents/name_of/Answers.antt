use Rattle.std.proofs.Common.{sym, ◌∙◌, arith}
use Rattle.part_table.proofs.ReadLemmas.{named}
use Rattle.part_table.proofs.contents.name_of.Goals as goal

pub returns-then-has_name : goal.returns-then-has_name
returns-then-has_name c =
    named c.args.flags c.name_length.result c.name_at-at.result c.name_words.result c.args.words.now c.name_in.result
    (sym c.has_name.ensures
    ∙ c.if-has_name.true) c.name_at-at.ensures.value c.name_words.ensures.value c.name_length.ensures.value
    (omega (arith, c.requires, c.name_at-at.ensures.value, c.name_words.ensures.value)) c.name_in.ensures
