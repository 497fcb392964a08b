use Rattle.std.proofs.Common.{◌+◌, ◌*◌, ◌/◌, ◌≤◌, length, sym, subst}
use Rattle.picoboot_cmd.proofs.PassingLemmas.{pages-inside}
use Rattle.picoboot_cmd.proofs.working.do_command.Goals as goal

pub program_payload-requires-clause-range : goal.program_payload-requires-clause-range
program_payload-requires-clause-range g c =
    let is_content = g.met.B.Board.is_content c.args.board.now in
    subst (λ at. 256 * (at / 256 + (length c.args.payload.now + 255) / 256)
    ≤ length (g.B.Board.state c.args.board.now).content.flash) (sym c.offset-in-5.ensures)
    (pages-inside _ c.args.cmd.now c.args.payload.now c.in-5.is c.requires.ready is_content.flash_length.whole)
