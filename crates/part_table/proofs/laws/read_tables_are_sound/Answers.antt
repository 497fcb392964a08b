-- By the lemmas on tables.
use Rattle.part_table.proofs.TableLemmas.{faultless_from_table_of, sound_from_faultless}
use Rattle.part_table.proofs.laws.read_tables_are_sound.Goals as goal

pub returns-clause-faultless : goal.returns-clause-faultless
returns-clause-faultless c = faultless_from_table_of

pub returns-clause-sound : goal.returns-clause-sound
returns-clause-sound c = sound_from_faultless
