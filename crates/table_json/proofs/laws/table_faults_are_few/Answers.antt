use Rattle.std.proofs.Common.{refl}
use Rattle.part_table.specs.declared.table.TableFault.TheVariants.{BadItem, Permissions, Hash}
use Rattle.table_json.proofs.FewFaultLemmas.{text_other}
use Rattle.table_json.proofs.laws.table_faults_are_few.Goals as goal

pub returns-clause-items : goal.returns-clause-items
returns-clause-items c = λ d is. (text_other d BadItem is).items refl

pub returns-clause-permissions : goal.returns-clause-permissions
returns-clause-permissions c = λ d i is. (text_other d (Permissions i) is).permissions i refl

pub returns-clause-hash : goal.returns-clause-hash
returns-clause-hash c = λ d is. (text_other d Hash is).hash refl
