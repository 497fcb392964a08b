use Rattle.std.proofs.Common.{refl, append_assoc}
use Rattle.std.specs.List.{flat_map}
use Rattle.block_codec.specs.Blocks.{block_words}
use Rattle.block_codec.specs.Words.{bytes_of}
use Rattle.load_map.specs.Covered.{covered_digest, covered_load, masked_words}
use Rattle.std.proofs.Common.{take}
use Rattle.load_map.proofs.laws.the_covered_text.Goals as goal

pub returns-clause-load : goal.returns-clause-load
returns-clause-load c = λ w load loads b n k. append_assoc (covered_load w load) (flat_map (covered_load w) loads)
    (bytes_of (take n (masked_words (block_words b) k)))

pub returns-clause-words : goal.returns-clause-words
returns-clause-words c = λ w b n k. refl

pub returns-clause-digest : goal.returns-clause-digest
unfolding covered_digest
returns-clause-digest c = λ w b def loads. refl
