use Rattle.std.proofs.Common.{None, subst, sym}
use Rattle.std.specs.Prelude.{IsTrue}
use Rattle.boot_machine.specs.declared.parts.Parts.{Parts}
use Rattle.boot_machine.specs.declared.state.State.TheVariants.{Off}
use Rattle.boot_machine.proofs.EntryLemmas.{steady-entered}
use Rattle.boot_machine.proofs.RoomLemmas.{room-new}
use Rattle.boot_machine.proofs.machine.Machine.bootsel.Goals as goal

pub invariant_of-result : goal.invariant_of-result
invariant_of-result g c =
    let parts : Parts _ = record {
      board = c.new.result;
      pool = c.args.pool;
      download = c.args.download;
      ram = c.args.ram;
      cpu = c.args.cpu;
      state = Off;
      membership = None;
      found = None;
    } in
    steady-entered g.B.Board.state parts _ c.enter_bootsel.ensures
    (subst (λ board. IsTrue (g.B.Board.state board).powered) (sym c.new.ensures) c.requires.power) c.requires.none
    (room-new c.args.pool c.requires.leases)
