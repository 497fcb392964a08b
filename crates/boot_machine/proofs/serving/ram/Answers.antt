use Rattle.std.proofs.Common.{ap, ◌∙◌, sym}
use Rattle.boot_machine.specs.Standing.{is_on}
use Rattle.boot_machine.proofs.HostingLemmas.{ram-served}
use Rattle.boot_machine.proofs.RoomLemmas.{room-free, room-kept}
use Rattle.boot_machine.proofs.SteadinessLemmas.{steady-host, steady-ram}
use Rattle.boot_machine.proofs.serving.ram.Goals as goal

pub serve_ram-outcome-requires-clause-lease : goal.serve_ram-outcome-requires-clause-lease
serve_ram-outcome-requires-clause-lease g c = room-free _ _ c.requires.steady.room

pub run_ram-requires : goal.run_ram-requires
run_ram-requires g c = record { room = room-kept _ _ _ c.serve_ram-outcome.ensures.kept c.requires.steady.room }

pub returns-in-Some-clause-steady : goal.returns-in-Some-clause-steady
returns-in-Some-clause-steady g c =
    steady-ram g.B.Board.state _ c.run_ram.new.parts c.in-Some.image c.run_ram.ensures
    (c.requires.steady.power (ap is_on c.requires.bootsel))

pub returns-in-None-clause-serves : goal.returns-in-None-clause-serves
returns-in-None-clause-serves g c = λ host is.
    let old = c.args.parts.now in
    ram-served g.B.Board.state g.B.Board.history old host c.serve_ram-outcome.new.pool c.serve_ram-outcome.new.ram
    c.args.cmd.now c.args.payload.now c.busy-busy.result c.serve_ram-outcome.result.outcome
    (c.requires.steady.power (ap is_on c.requires.bootsel)) c.busy-busy.ensures
    c.serve_ram-outcome.ensures.kept c.serve_ram-outcome.ensures.ram
    (sym c.serve_ram-outcome.ensures.start ∙ c.in-None.is) c.serve_ram-outcome.ensures.outcome is

pub returns-in-None-clause-steady : goal.returns-in-None-clause-steady
returns-in-None-clause-steady g c =
    steady-host g.B.Board.state c.args.parts.now c.serve_ram-outcome.new.pool c.serve_ram-outcome.new.ram
    c.requires.steady c.requires.bootsel c.serve_ram-outcome.ensures.kept
