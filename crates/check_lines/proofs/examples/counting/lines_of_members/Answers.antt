use Rattle.std.proofs.Common.{refl}
use Rattle.check_lines.specs.Counting.{unmet_line}
use Rattle.check_lines.proofs.examples.counting.lines_of_members.Goals as goal

pub returns-clause-effect : goal.returns-clause-effect
unfolding unmet_line
returns-clause-effect c = refl

pub returns-clause-records : goal.returns-clause-records
unfolding unmet_line
returns-clause-records c = refl

pub returns-clause-written : goal.returns-clause-written
unfolding unmet_line
returns-clause-written c = refl

pub returns-clause-keep : goal.returns-clause-keep
unfolding unmet_line
returns-clause-keep c = refl

pub returns-clause-data_ : goal.returns-clause-data_
unfolding unmet_line
returns-clause-data_ c = refl

pub returns-clause-cuts : goal.returns-clause-cuts
unfolding unmet_line
returns-clause-cuts c = refl

pub returns-clause-version : goal.returns-clause-version
unfolding unmet_line
returns-clause-version c = refl

pub returns-clause-fallback : goal.returns-clause-fallback
unfolding unmet_line
returns-clause-fallback c = refl

pub returns-clause-again : goal.returns-clause-again
unfolding unmet_line
returns-clause-again c = refl

pub returns-clause-covered : goal.returns-clause-covered
unfolding unmet_line
returns-clause-covered c = refl

pub returns-clause-hash : goal.returns-clause-hash
unfolding unmet_line
returns-clause-hash c = refl

pub returns-clause-no_rows : goal.returns-clause-no_rows
unfolding unmet_line
returns-clause-no_rows c = refl

pub returns-clause-session : goal.returns-clause-session
unfolding unmet_line
returns-clause-session c = refl

pub returns-clause-boot : goal.returns-clause-boot
unfolding unmet_line
returns-clause-boot c = refl

pub returns-clause-buy : goal.returns-clause-buy
unfolding unmet_line
returns-clause-buy c = refl

pub returns-clause-caveats_ : goal.returns-clause-caveats_
unfolding unmet_line
returns-clause-caveats_ c = refl
