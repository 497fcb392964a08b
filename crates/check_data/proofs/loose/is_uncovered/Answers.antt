use Rattle.std.proofs.Common.{◌∙◌, ap, sym}
use Rattle.std.specs.Prelude.{not}
use Rattle.check_data.specs.Loose.{is_written_byte}
use Rattle.check_data.proofs.CodeLemmas.{and-else, and-then}
use Rattle.check_data.proofs.loose.is_uncovered.Goals as goal

pub returns-then-is_written_byte : goal.returns-then-is_written_byte
returns-then-is_written_byte c = λ loop is.
    and-then _ _ _
    (ap is_written_byte (sym c.byte_at.ensures) ∙ (sym c.is_written_byte.ensures ∙ c.if-is_written_byte.true))
    (ap not (c.covers.ensures loop is))

pub returns-else-is_written_byte : goal.returns-else-is_written_byte
returns-else-is_written_byte c = λ loop is.
    and-else _ _ _ (c.is_written_byte.ensures ∙ ap is_written_byte c.byte_at.ensures) c.if-is_written_byte.false
