use Rattle.std.proofs.Common.{refl}
use Rattle.std.specs.Fmt.{padded_integral, digits, char_count}
use Rattle.sha2.specs.Sha256.{first_words, schedule, rounds, compress, hash_after, digest_bytes, sha256}
use Rattle.cli_tools.proofs.examples.lines_of_tools.Goals as goal

pub returns-clause-uf2 : goal.returns-clause-uf2
unfolding padded_integral digits char_count
returns-clause-uf2 c = refl

pub returns-clause-plan : goal.returns-clause-plan
unfolding padded_integral digits char_count
returns-clause-plan c = refl

pub returns-clause-load : goal.returns-clause-load
unfolding padded_integral digits char_count
returns-clause-load c = refl

pub returns-clause-made : goal.returns-clause-made
unfolding padded_integral digits char_count first_words schedule rounds compress hash_after digest_bytes sha256
returns-clause-made c = refl
