use Rattle.load_map.proofs.LongerWindowLemmas.{loads_of-longer}
use Rattle.load_map.proofs.laws.a_longer_window_has_the_same_loads.Goals as goal

pub returns : goal.returns
returns c = loads_of-longer
