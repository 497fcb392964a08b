use Rattle.boot_map.proofs.MapLemmas.{mappable}
use Rattle.boot_map.proofs.OnlyLemmas.{windows-only}
use Rattle.boot_map.proofs.WindowLemmas.{windows-right}
use Rattle.boot_map.proofs.laws.one_list_of_windows.Goals as goal

pub returns-clause-mappable : goal.returns-clause-mappable
returns-clause-mappable a = mappable

pub returns-clause-right : goal.returns-clause-right
returns-clause-right a = windows-right

pub returns-clause-only : goal.returns-clause-only
returns-clause-only a = λ t n z windows able are. windows-only t n z able windows are
