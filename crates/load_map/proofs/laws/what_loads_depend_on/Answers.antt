use Rattle.load_map.proofs.BlockWordLemmas.{same-loads_of, trial-loads_of, map-words}
use Rattle.load_map.proofs.laws.what_loads_depend_on.Goals as goal

pub returns-clause-entries : goal.returns-clause-entries
returns-clause-entries c = same-loads_of

pub returns-clause-trial : goal.returns-clause-trial
returns-clause-trial c = λ base n in_place b c i j image map other at_i at_j some is_map same. trial-loads_of base n
    in_place b c i j image map other at_i at_j (map-words map is_map) some same
