use Rattle.svg_map.proofs.MapLemmas.{map-reads, map-times}
use Rattle.svg_map.proofs.laws.marks_are_those_of_the_windows.Goals as goal

pub returns-clause-words : goal.returns-clause-words
returns-clause-words c = map-reads

pub returns-clause-count : goal.returns-clause-count
returns-clause-count c = map-times
