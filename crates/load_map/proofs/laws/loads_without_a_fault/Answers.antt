use Rattle.load_map.proofs.SoundLoadLemmas.{sound-loads_of, counted-loads_of}
use Rattle.load_map.proofs.laws.loads_without_a_fault.Goals as goal

pub returns-clause-stored : goal.returns-clause-stored
returns-clause-stored c = λ base n in_place b item loads is. (sound-loads_of base n in_place b item loads is).stored

pub returns-clause-clear : goal.returns-clause-clear
returns-clause-clear c = λ base n in_place b item loads is. (sound-loads_of base n in_place b item loads is).clear

pub returns-clause-right : goal.returns-clause-right
returns-clause-right c = λ base n in_place b item loads is. (sound-loads_of base n in_place b item loads is).right

pub returns-clause-count : goal.returns-clause-count
returns-clause-count c = counted-loads_of
