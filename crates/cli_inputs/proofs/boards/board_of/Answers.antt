use Rattle.std.proofs.Common.{ap, Err}
use Rattle.cli_inputs.proofs.BoardLemmas.{only-memory}
use Rattle.cli_inputs.proofs.boards.board_of.Goals as goal

pub want_of_memory-requires : goal.want_of_memory-requires
want_of_memory-requires c =
    only-memory c.in-Err.error _ _ _ c.args.flash.whole c.args.otp.count c.args.otp.narrow
    (λ h. c.in-Err.ensures.flash_length.0 (ap Err h))
    (λ h. (c.in-Err.ensures.otp_length.0 (ap Err h)).1)
    (λ row h. ((c.in-Err.ensures.wide_row row).0 (ap Err h)).2)
