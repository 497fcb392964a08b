use Rattle.std.proofs.Common.{refl}
use Rattle.block_codec.specs.Words.{word_bytes}
use Rattle.ram_start.proofs.examples.ranges_of_a_reboot.Goals as goal

pub returns-clause-word : goal.returns-clause-word
unfolding word_bytes
returns-clause-word c = refl

pub returns-clause-short : goal.returns-clause-short
unfolding word_bytes
returns-clause-short c = refl

pub returns-clause-unaligned : goal.returns-clause-unaligned
unfolding word_bytes
returns-clause-unaligned c = refl

pub returns-clause-odd_length : goal.returns-clause-odd_length
unfolding word_bytes
returns-clause-odd_length c = refl

pub returns-clause-whole : goal.returns-clause-whole
unfolding word_bytes
returns-clause-whole c = refl

pub returns-clause-past : goal.returns-clause-past
unfolding word_bytes
returns-clause-past c = refl

pub returns-clause-flash : goal.returns-clause-flash
unfolding word_bytes
returns-clause-flash c = refl
