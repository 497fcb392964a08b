use Rattle.std.proofs.Common.{arith, sym}
use Rattle.std.proofs.lemmas.Grind.{common_steps}
use Rattle.std.proofs.lemmas.Result.{err_from_is_err_and}
use Rattle.block_codec.specs.Words.{words_of}
use Rattle.block_codec.proofs.WordLemmas.{length-words_of}
use Rattle.pico_board.proofs.StepLemmas.{DoesAll-none, DoesAll-step, DoesAll-cut}
use Rattle.picoboot_cmd.proofs.StepListLemmas.{raises-first, raises-end}
use Rattle.picoboot_cmd.proofs.WordListLemmas.{row_words-first}
use Rattle.picoboot_cmd.proofs.working.raise_rows.Goals as goal

pub returns-in_err-raise : goal.returns-in_err-raise
returns-in_err-raise g c =
    let count = length-words_of c.args.words.now in
    let lost = err_from_is_err_and c.from_residual.result c.from_residual.ensures.1 in
    let more = raises-first (words_of c.args.words.now) c.args.first c.loop-k.k
    (omega (arith, count, c.loop-k-test.true)) in
    rw (lost.1) (c.loop-k.invariant.rest _ _ (rw (more, sym c.word_at.ensures) (DoesAll-cut _ c.in_err-raise.ensures)))

pub loop-k-preserved : goal.loop-k-preserved
loop-k-preserved g c =
    let count = length-words_of c.args.words.now in
    let more = raises-first (words_of c.args.words.now) c.args.first c.loop-k.k
    (omega (arith, count, c.loop-k-test.true)) in
    let first = row_words-first (words_of c.args.words.now) c.loop-k.k (omega (arith, count, c.loop-k-test.true)) in
    let bits = c.loop-k.invariant.bits in
    record {
      power = c.in_ok-raise.ensures.power;
      bits = grind (arith, common_steps, first, bits);
      rest = λ ok u after.
          c.loop-k.invariant.rest ok u (rw (more, sym c.word_at.ensures) (DoesAll-step c.in_ok-raise.ensures after));
    }

pub returns : goal.returns
returns g c =
    let count = length-words_of c.args.words.now in
    let end = raises-end (words_of c.args.words.now) c.args.first c.loop-k.k
    (omega (arith, count, c.loop-k-test.false)) in
    c.loop-k.invariant.rest _ _ (rw end (DoesAll-none _ c.loop-k.invariant.power))
