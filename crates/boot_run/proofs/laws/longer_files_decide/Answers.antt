use Rattle.cli_inputs.proofs.InputLemmas.{outcome-cut}
use Rattle.boot_run.specs.Inputs.{inputs_of}
use Rattle.boot_run.specs.Commands.{work_of}
use Rattle.boot_run.proofs.laws.longer_files_decide.Goals as goal

pub returns : goal.returns
returns c = λ command. outcome-cut (inputs_of command) (work_of command)
