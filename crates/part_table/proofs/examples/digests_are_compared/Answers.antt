-- By computing, the digest too.
use Rattle.std.proofs.Common.{refl}
use Rattle.block_codec.specs.Blocks.{frame}
use Rattle.block_codec.specs.Items.{size_of}
use Rattle.block_codec.specs.Words.{word_bytes, word_of}
use Rattle.sha2.specs.Sha256.{compress, digest_bytes, first_words, hash_after, rounds, schedule, sha256}
use Rattle.part_table.proofs.examples.digests_are_compared.Goals as goal

pub returns-clause-right : goal.returns-clause-right
unfolding frame size_of word_bytes first_words schedule rounds compress hash_after digest_bytes sha256 word_of
returns-clause-right c = refl

pub returns-clause-wrong : goal.returns-clause-wrong
unfolding frame size_of word_bytes first_words schedule rounds compress hash_after digest_bytes sha256 word_of
returns-clause-wrong c = refl

pub returns-clause-wrong_last : goal.returns-clause-wrong_last
unfolding frame size_of word_bytes first_words schedule rounds compress hash_after digest_bytes sha256 word_of
returns-clause-wrong_last c = refl

pub returns-clause-later : goal.returns-clause-later
unfolding frame size_of word_bytes first_words schedule rounds compress hash_after digest_bytes sha256 word_of
returns-clause-later c = refl

pub returns-clause-written : goal.returns-clause-written
unfolding frame size_of word_bytes first_words schedule rounds compress hash_after digest_bytes sha256 word_of
returns-clause-written c = refl
