use Rattle.elf_pack.proofs.BinaryLemmas.{map-elsewhere, map-ends, map-reached, map-segment}
use Rattle.elf_pack.proofs.laws.the_binary_of_flash_segments_is_an_address_map.Goals as goal

pub returns-clause-segment : goal.returns-clause-segment
returns-clause-segment c = map-segment

pub returns-clause-elsewhere : goal.returns-clause-elsewhere
returns-clause-elsewhere c = map-elsewhere

pub returns-clause-ends : goal.returns-clause-ends
returns-clause-ends c = map-ends

pub returns-clause-reached : goal.returns-clause-reached
returns-clause-reached c = map-reached
