use Rattle.std.proofs.Common.{◌-◌, ap}
use Rattle.std.specs.Option.{option_map}
use Rattle.picoboot_cmd.proofs.SectorLemmas.{allowed-none}
use Rattle.picoboot_cmd.proofs.judging.all_allowed.Goals as goal

pub returns-in-None : goal.returns-in-None
returns-in-None c =
    allowed-none _ c.args.right c.args.first (c.args.end - c.args.first) (ap (option_map (λ t. t.now)) c.in-None.is)
