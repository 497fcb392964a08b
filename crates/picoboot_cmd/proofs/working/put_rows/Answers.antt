use Rattle.std.proofs.Common.{◌++◌, arith, subst}
use Rattle.std.specs.Prelude.{slice_range}
use Rattle.block_codec.specs.Words.{bytes_of, word_bytes}
use Rattle.picoboot_cmd.proofs.PutListLemmas.{row-put}
use Rattle.picoboot_cmd.proofs.working.put_rows.Goals as goal

pub loop-row-preserved : goal.loop-row-preserved
unfolding word_bytes
loop-row-preserved g c = λ before held.
    let is_content = g.met.B.Board.is_content c.args.board.now in
    subst (λ bytes. g.R.Reply.stands_for c.put.new.self bytes)
    (row-put (g.B.Board.state c.args.board.now).content.otp before c.to_le_bytes.result c.args.first c.loop-row.row
    c.otp_read.result c.loop-row.auto.row (omega (arith, c.loop-row-test.true, c.requires.range, is_content.otp_length))
    c.otp_read.ensures.value c.to_le_bytes.ensures)
    (c.put.ensures (before ++ bytes_of (slice_range (g.B.Board.state c.args.board.now).content.otp c.args.first
    c.loop-row.row)) (c.loop-row.invariant before held))
