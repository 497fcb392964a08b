use Rattle.picoboot_cmd.proofs.ReadArgumentLemmas.{read-alone}
use Rattle.picoboot_cmd.proofs.laws.arguments_are_read_by_their_size.Goals as goal

pub returns : goal.returns
returns c = read-alone
