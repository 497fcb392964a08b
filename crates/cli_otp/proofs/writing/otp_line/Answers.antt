use Rattle.std.proofs.Common.{ℕ, ◌∙◌, ◌++◌, ap, codes, decimal, string_bytes}
use Rattle.cli_course.specs.Outcomes.{line}
use Rattle.cli_explain.specs.Texts.{otp_text}
use Rattle.cli_otp.proofs.WordLemmas.{told-line}
use Rattle.cli_otp.proofs.writing.otp_line.Goals as goal

pub returns : goal.returns
returns c =
    told-line c.counted_line.result string_bytes _ _ _ _
    (c.deref.ensures ∙ (c.in_ok-told.ensures
    ∙ ap (λ (size : ℕ). otp_text c.args.spec.now.rollback_required c.args.spec.now.flash_off size)
    c.slot_size-size.ensures))
    (ap (λ (n : ℕ). codes " rows=" ++ line (decimal n)) c.requires.count) c.counted_line.ensures
