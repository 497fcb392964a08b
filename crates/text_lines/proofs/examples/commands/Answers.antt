use Rattle.std.proofs.Common.{refl}
use Rattle.std.specs.Fmt.{padded_integral, digits, char_count}
use Rattle.sha2.specs.Sha256.{first_words, schedule, rounds, compress, hash_after, digest_bytes, sha256}
use Rattle.text_lines.proofs.examples.commands.Goals as goal

pub returns-clause-xip : goal.returns-clause-xip
unfolding padded_integral digits char_count
returns-clause-xip c = refl

pub returns-clause-refused : goal.returns-clause-refused
unfolding padded_integral digits char_count
returns-clause-refused c = refl

pub returns-clause-read : goal.returns-clause-read
unfolding padded_integral digits char_count first_words schedule rounds compress hash_after digest_bytes sha256
returns-clause-read c = refl

pub returns-clause-info : goal.returns-clause-info
unfolding padded_integral digits char_count first_words schedule rounds compress hash_after digest_bytes sha256
returns-clause-info c = refl

pub returns-clause-otp_read : goal.returns-clause-otp_read
unfolding padded_integral digits char_count first_words schedule rounds compress hash_after digest_bytes sha256
returns-clause-otp_read c = refl

pub returns-clause-not_served : goal.returns-clause-not_served
unfolding padded_integral digits char_count
returns-clause-not_served c = refl

pub returns-clause-write : goal.returns-clause-write
unfolding padded_integral digits char_count
returns-clause-write c = refl
