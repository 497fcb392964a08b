-- By the fields of the relation.
use Rattle.std.proofs.Common.{refl}
use Rattle.sector_pool.proofs.laws.handing_over_is_of_every_sector.Goals as goal

pub returns-clause-mine : goal.returns-clause-mine
returns-clause-mine c = λ had k old new differs hands. differs (hands.mine k refl)

pub returns-clause-fresh : goal.returns-clause-fresh
returns-clause-fresh c = λ k old new differs hands. differs (hands.fresh k refl (λ same. cc same))

pub returns-clause-back : goal.returns-clause-back
returns-clause-back c = λ k old new differs hands. differs (hands.back k refl (λ same. cc same))

pub returns-clause-others : goal.returns-clause-others
returns-clause-others c = λ had has j old new not_had not_has differs hands. differs (hands.others j not_had not_has)

pub returns-clause-bytes : goal.returns-clause-bytes
returns-clause-bytes c = λ had has j old new not_had not_has out differs hands.
    differs (hands.kept j not_had not_has out)
