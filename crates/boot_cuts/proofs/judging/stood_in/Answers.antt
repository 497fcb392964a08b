use Rattle.std.proofs.Common.{◌∙◌, sym}
use Rattle.pico_board.specs.MemBoard.{state_of}
use Rattle.boot_cuts.proofs.ClassLemmas.{held-by}
use Rattle.boot_cuts.proofs.judging.stood_in.Goals as goal

pub has_bytes_of-requires-clause-held : goal.has_bytes_of-requires-clause-held
has_bytes_of-requires-clause-held c =
    held-by (state_of c.args.base.now).content c.args.cpu c.args.image.now
    (sym c.stands_in.ensures.exact ∙ c.if-not-stands_in.false)
