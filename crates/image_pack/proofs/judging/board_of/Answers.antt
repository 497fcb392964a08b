use Rattle.std.proofs.Common.{ap, Err, length}
use Rattle.image_pack.proofs.BoardLemmas.{only-memory}
use Rattle.image_pack.proofs.judging.board_of.Goals as goal

pub want_of_memory-requires : goal.want_of_memory-requires
want_of_memory-requires c =
    only-memory c.in-Err.error (length c.args.flash.items) c.args.rows.items c.requires.flash c.requires.rows
    (λ h. c.in-Err.ensures.flash_length.0 (ap Err h))
    (λ h. (c.in-Err.ensures.otp_length.0 (ap Err h)).1)
    (λ row h. ((c.in-Err.ensures.wide_row row).0 (ap Err h)).2)
