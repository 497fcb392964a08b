use Rattle.std.proofs.Common.{ap}
use Rattle.std.specs.Prelude.{slice_index}
use Rattle.ram_start.specs.Sram.{zero_ram}
use Rattle.boot_machine.proofs.examples.play.where_runs_begin.Goals as goal

pub returns-clause-written : goal.returns-clause-written
unfolding zero_ram
returns-clause-written c = λ fresh. let same = ap (λ ram. slice_index ram 0) (fresh.1) in cc same
