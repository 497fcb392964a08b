use Rattle.std.proofs.Common.{None}
use Rattle.boot_machine.proofs.EntryLemmas.{steady-entered}
use Rattle.boot_machine.specs.declared.parts.Parts.{Parts}
use Rattle.boot_machine.proofs.RoomLemmas.{room-free, room-kept}
use Rattle.boot_machine.proofs.entering.boot_into.Goals as goal

pub boot-requires-clause-lease : goal.boot-requires-clause-lease
boot-requires-clause-lease g c = room-free _ None c.drop_download.ensures.room

pub returns-in-Ok-Bootsel-clause-steady : goal.returns-in-Ok-Bootsel-clause-steady
returns-in-Ok-Bootsel-clause-steady g c =
    let mid = c.drop_download.new.parts in
    let parts : Parts _ = record {
      board = c.boot.new.board;
      pool = c.boot.new.pool;
      download = mid.download;
      ram = mid.ram;
      cpu = mid.cpu;
      state = mid.state;
      membership = mid.membership;
      found = mid.found;
    } in
    steady-entered g.B.Board.state parts c.enter_bootsel.new.parts c.enter_bootsel.ensures
    c.in-Ok-Bootsel.ensures.steps.power c.drop_download.ensures.none
    (room-kept _ _ None c.in-Ok-Bootsel.ensures.kept c.drop_download.ensures.room)
