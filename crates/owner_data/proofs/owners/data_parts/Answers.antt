use Rattle.std.proofs.Common.{ap, ◌∙◌}
use Rattle.owner_data.specs.Owners.{data_parts}
use Rattle.owner_data.proofs.DataLemmas.{data_within}
use Rattle.owner_data.proofs.owners.data_parts.Goals as goal

pub returns-clause-inside : goal.returns-clause-inside
returns-clause-inside c =
    data_within c.args.table.now.parts.items c.args.owner c.args.second c.data_of.result.items
    (c.data_of.ensures ∙ ap (λ ps. data_parts ps c.args.owner c.args.second) c.as_slice.ensures.value)
