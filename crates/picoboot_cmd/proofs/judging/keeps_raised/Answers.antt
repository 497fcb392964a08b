use Rattle.std.proofs.Common.{◌+◌, ◌∙◌, sym, arith}
use Rattle.std.proofs.lemmas.Grind.{common_steps}
use Rattle.block_codec.specs.Words.{words_of}
use Rattle.block_codec.proofs.WordLemmas.{length-words_of}
use Rattle.picoboot_cmd.proofs.WordListLemmas.{keeps-first, keeps-next, keeps-end}
use Rattle.picoboot_cmd.proofs.judging.keeps_raised.Goals as goal

pub returns-then-raised-word_at : goal.returns-then-raised-word_at
returns-then-raised-word_at g c =
    let count = length-words_of c.args.payload.now in
    let first = keeps-first (words_of c.args.payload.now) c.loop-k.k (g.B.Board.state c.args.board.now).content.otp
    (c.args.row + c.loop-k.k) (omega (arith, count, c.loop-k-test.true)) in
    let all = c.loop-k.invariant in
    let raised = c.otp_read-raised.ensures.value in
    let word = c.word_at.ensures in
    grind (arith, common_steps, first, all, raised, word)

pub loop-k-preserved : goal.loop-k-preserved
loop-k-preserved g c =
    let count = length-words_of c.args.payload.now in
    sym (keeps-next (words_of c.args.payload.now) (g.B.Board.state c.args.board.now).content.otp c.args.row c.loop-k.k
    c.otp_read-raised.result c.word_at.result (omega (arith, count, c.loop-k-test.true)) c.otp_read-raised.ensures.value
    c.word_at.ensures c.if-raised-word_at.false)
    ∙ c.loop-k.invariant

pub returns : goal.returns
returns g c =
    let count = length-words_of c.args.payload.now in
    sym (keeps-end (words_of c.args.payload.now) c.loop-k.k (g.B.Board.state c.args.board.now).content.otp
    (c.args.row + c.loop-k.k) (omega (arith, count, c.loop-k-test.false))) ∙ c.loop-k.invariant
