use Rattle.std.proofs.Common.{refl}
use Rattle.std.specs.Fmt.{padded_integral, digits, char_count}
use Rattle.check_lines.specs.Counting.{caveat_seen}
use Rattle.check_lines.proofs.examples.counting.lines_of_caveats.Goals as goal

pub returns-clause-former : goal.returns-clause-former
unfolding caveat_seen padded_integral digits char_count
returns-clause-former c = refl

pub returns-clause-at_end : goal.returns-clause-at_end
unfolding caveat_seen padded_integral digits char_count
returns-clause-at_end c = refl

pub returns-clause-cuts : goal.returns-clause-cuts
unfolding caveat_seen padded_integral digits char_count
returns-clause-cuts c = refl

pub returns-clause-both : goal.returns-clause-both
unfolding caveat_seen padded_integral digits char_count
returns-clause-both c = refl
