-- By computing.
use Rattle.std.proofs.Common.{refl}
use Rattle.sha2.specs.Sha256.{compress, digest_bytes, first_words, hash_after, rounds, schedule, sha256}
use Rattle.block_codec.specs.Blocks.{frame}
use Rattle.block_codec.specs.Reading.{block_at, front_block, item_words}
use Rattle.block_codec.specs.Items.{size_of}
use Rattle.block_codec.specs.Words.{word_bytes, word_of}
use Rattle.block_loop.specs.Loop.{block_from, follow, loop_of}
use Rattle.image_def.specs.Definition.{def_of}
use Rattle.load_map.specs.Covered.{covered_digest}
use Rattle.image_check.specs.Image.{image_in}
use Rattle.image_check.proofs.examples.digest.digests_of_loads.Goals as goal

pub returns-clause-stored : goal.returns-clause-stored
unfolding first_words schedule rounds compress hash_after digest_bytes sha256 covered_digest image_in def_of loop_of
    follow block_from block_at front_block item_words frame size_of word_of word_bytes
returns-clause-stored c = refl

pub returns-clause-other : goal.returns-clause-other
unfolding first_words schedule rounds compress hash_after digest_bytes sha256 covered_digest image_in def_of loop_of
    follow block_from block_at front_block item_words frame size_of word_of word_bytes
returns-clause-other c = refl

pub returns-clause-clear : goal.returns-clause-clear
unfolding first_words schedule rounds compress hash_after digest_bytes sha256 covered_digest image_in def_of loop_of
    follow block_from block_at front_block item_words frame size_of word_of word_bytes
returns-clause-clear c = refl

pub returns-clause-both : goal.returns-clause-both
unfolding first_words schedule rounds compress hash_after digest_bytes sha256 covered_digest image_in def_of loop_of
    follow block_from block_at front_block item_words frame size_of word_of word_bytes
returns-clause-both c = refl
