use Rattle.std.proofs.Common.{None}
use Rattle.boot_machine.proofs.RoomLemmas.{room-free}
use Rattle.boot_machine.proofs.stepping.buy_choice.Goals as goal

pub buy-requires-clause-lease : goal.buy-requires-clause-lease
buy-requires-clause-lease g c = room-free _ None c.requires.room
