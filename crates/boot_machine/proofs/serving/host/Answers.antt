use Rattle.std.proofs.Common.{ap}
use Rattle.boot_machine.specs.Standing.{is_bootsel}
use Rattle.boot_machine.proofs.SteadinessLemmas.{steady-board, steady-left}
use Rattle.boot_machine.proofs.serving.host.Goals as goal

pub serve_host-requires-clause-sound : goal.serve_host-requires-clause-sound
serve_host-requires-clause-sound g c = c.requires.steady.found (ap is_bootsel c.requires.bootsel)

pub returns-in-Ok-clause-steady : goal.returns-in-Ok-clause-steady
returns-in-Ok-clause-steady g c =
    steady-board g.B.Board.state c.args.parts.now c.serve_host.new.board c.requires.steady c.requires.bootsel
    c.in-Ok.ensures.steps.power c.in-Ok.ensures.steps.size

pub returns-in-Err-clause-steady : goal.returns-in-Err-clause-steady
returns-in-Err-clause-steady g c = steady-left g.B.Board.state _ c.lost.new.parts c.lost.ensures.parts
