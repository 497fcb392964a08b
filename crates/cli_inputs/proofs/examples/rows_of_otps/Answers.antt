use Rattle.std.proofs.Common.{refl}
use Rattle.block_codec.specs.Words.{word_of}
use Rattle.cli_inputs.specs.Forms.{otp_of}
use Rattle.cli_inputs.proofs.examples.rows_of_otps.Goals as goal

pub returns-clause-own : goal.returns-clause-own
unfolding otp_of word_of
returns-clause-own c = refl

pub returns-clause-behind : goal.returns-clause-behind
unfolding otp_of word_of
returns-clause-behind c = refl

pub returns-clause-last : goal.returns-clause-last
unfolding otp_of word_of
returns-clause-last c = refl

pub returns-clause-past : goal.returns-clause-past
unfolding otp_of word_of
returns-clause-past c = refl
