use Rattle.std.proofs.Common.{ℕ, ◌∙◌, ◌==◌, ap, count_by, not, List}
use Rattle.cli_otp.specs.Setting.{rows_set}
use Rattle.cli_otp.proofs.WordLemmas.{count-is}
use Rattle.cli_otp.proofs.writing.set_count.Goals as goal

pub returns : goal.returns
returns c =
    c.set_rows_in.ensures
    ∙ ap (λ (words : List ℕ). count_by (λ word. not (word == 0)) words)
    (c.deref.ensures.value ∙ (c.set_rows.ensures
    ∙ ap (λ (words : List ℕ). rows_set words c.args.pairs.now) c.in_ok-words.ensures))
    ∙ count-is c.args.pairs.now
