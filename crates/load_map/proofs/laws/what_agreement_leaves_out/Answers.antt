use Rattle.load_map.proofs.AgreementLemmas.{AgreeOn-set, AgreeOn-clear}
use Rattle.load_map.proofs.BlockWordLemmas.{HaveSameEntries-set}
use Rattle.load_map.proofs.laws.what_agreement_leaves_out.Goals as goal

pub returns-clause-byte : goal.returns-clause-byte
returns-clause-byte c = AgreeOn-set

pub returns-clause-clear : goal.returns-clause-clear
returns-clause-clear c = AgreeOn-clear

pub returns-clause-word : goal.returns-clause-word
returns-clause-word c = HaveSameEntries-set
