use Rattle.std.specs.Prelude.{true, false}
use Rattle.load_map.proofs.EntryLaws.{fault-storage, fault-runtime, fault-covers}
use Rattle.load_map.proofs.laws.an_entrys_faults.Goals as goal

pub returns-clause-storage : goal.returns-clause-storage
returns-clause-storage c = fault-storage

pub returns-clause-runtime : goal.returns-clause-runtime
returns-clause-runtime c = fault-runtime

pub returns-clause-covers : goal.returns-clause-covers
returns-clause-covers c = λ s b absolute before entry load is right covers. fault-covers s b absolute before entry
    load true is right covers

pub returns-clause-none : goal.returns-clause-none
returns-clause-none c = λ s b absolute before entry load is right covers. fault-covers s b absolute before entry load
    false is right covers
