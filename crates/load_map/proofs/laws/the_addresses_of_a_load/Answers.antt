use Rattle.load_map.proofs.GivenLaws.{holds-range}
use Rattle.load_map.proofs.laws.the_addresses_of_a_load.Goals as goal

pub returns : goal.returns
returns c = holds-range
