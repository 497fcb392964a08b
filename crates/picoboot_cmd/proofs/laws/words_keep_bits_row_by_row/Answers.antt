use Rattle.picoboot_cmd.proofs.RaisedBitLemmas.{keeps-bits, keeps-from_bits}
use Rattle.picoboot_cmd.proofs.laws.words_keep_bits_row_by_row.Goals as goal

pub returns : goal.returns
returns c = λ otp row words. (keeps-bits otp row words, keeps-from_bits otp row words)
