use Rattle.std.proofs.Common.{◌==◌, ap}
use Rattle.block_codec.specs.Words.{word_of}
use Rattle.block_codec.specs.Blocks.{start_word}
use Rattle.block_codec.proofs.reading.is_block_start.Goals as goal

pub returns : goal.returns
unfolding word_of
returns c = record { exact = ap (λ n. n == start_word) c.read_u32.ensures }
