use Rattle.std.proofs.Common.{append-nil}
use Rattle.script_plan.proofs.loading.send_boot.Goals as goal

pub returns : goal.returns
returns c = rw append-nil (rw (← c.update.ensures) c.send.ensures)
