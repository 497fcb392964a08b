use Rattle.std.specs.Prelude.{length}
use Rattle.picoboot_cmd.specs.Checks.{status_of}
use Rattle.picoboot_cmd.proofs.RefusedLemmas.{refused-nothing}
use Rattle.picoboot_cmd.proofs.laws.a_refused_command_does_nothing.Goals as goal

pub returns : goal.returns
returns c = λ content t busy cmd payload.
    refused-nothing (status_of (length content.flash) content.otp t busy cmd payload) content cmd payload
