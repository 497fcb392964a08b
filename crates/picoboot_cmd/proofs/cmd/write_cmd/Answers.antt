use Rattle.std.proofs.Common.{◌≡◌, Ok, subst, sym}
use Rattle.picoboot_cmd.specs.Commands.{command_in}
use Rattle.picoboot_cmd.proofs.CommandByteLemmas.{read-back}
use Rattle.picoboot_cmd.proofs.cmd.write_cmd.Goals as goal

pub returns-clause-again : goal.returns-clause-again
returns-clause-again c =
    subst (λ bytes. command_in bytes ≡ Ok c.args.cmd.now) (sym c.spelled.ensures.bytes)
    (read-back c.args.cmd.now c.spelled.ensures.token c.spelled.ensures.transfer)
