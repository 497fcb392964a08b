use Rattle.std.proofs.Common.{◌∙◌, sym, arith}
use Rattle.block_codec.specs.Words.{words_of}
use Rattle.block_codec.proofs.WordLemmas.{length-words_of}
use Rattle.picoboot_cmd.proofs.WordListLemmas.{row_words-end}
use Rattle.picoboot_cmd.proofs.judging.are_row_words.Goals as goal

pub returns : goal.returns
returns c =
    let count = length-words_of c.args.payload.now in
    sym (row_words-end (words_of c.args.payload.now) c.loop-k.k (omega (arith, count))) ∙ c.loop-k.invariant
