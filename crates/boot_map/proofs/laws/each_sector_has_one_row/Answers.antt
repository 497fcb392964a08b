use Rattle.boot_map.proofs.StartLemmas.{sector-in, sector-once}
use Rattle.boot_map.proofs.laws.each_sector_has_one_row.Goals as goal

pub returns-clause-some : goal.returns-clause-some
returns-clause-some a = λ c cpu m s right is lt. sector-in c cpu m right is s lt

pub returns-clause-one : goal.returns-clause-one
returns-clause-one a = λ c cpu m j k s x y right is one two has also.
    sector-once c cpu m right is j k s x y one two has also
