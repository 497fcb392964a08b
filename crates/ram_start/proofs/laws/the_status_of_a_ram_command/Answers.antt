use Rattle.std.proofs.Common.{refl}
use Rattle.picoboot_cmd.proofs.FirstFailingLemmas.{to-answer}
use Rattle.ram_start.specs.Serving.{ram_checks, ram_status}
use Rattle.ram_start.proofs.laws.the_status_of_a_ram_command.Goals as goal

pub returns : goal.returns
returns c = λ content ram cpu busy cmd payload.
    to-answer (ram_checks content ram cpu busy cmd payload) (ram_status content ram cpu busy cmd payload) refl
