use Rattle.std.proofs.Common.{◌≡◌, ◌==◌, count_by, not, take}
use Rattle.cli_otp.proofs.writing.set_rows_in.Given as goal

abbrev pub invariant-loop-word : goal.invariant-loop-word
invariant-loop-word l = l.count ≡ count_by (λ word. not (word == 0)) (take l.word-index l.words)
