use Rattle.std.proofs.Common.{ap}
use Rattle.boot_machine.specs.Serving.{places}
use Rattle.boot_machine.specs.Standing.{is_bootsel}
use Rattle.boot_machine.proofs.PlacingLemmas.{block-lost, block-ok, block-place, steady-block}
use Rattle.boot_machine.proofs.serving.block.Goals as goal

pub place_block-requires-clause-sound : goal.place_block-requires-clause-sound
place_block-requires-clause-sound g c = c.requires.steady.found (ap is_bootsel c.requires.bootsel)

pub returns-in-Ok-clause-serves : goal.returns-in-Ok-clause-serves
returns-in-Ok-clause-serves g c = λ host is.
    block-ok g.B.Board.state g.B.Board.history c.args.parts.now host _ c.place_block.new.board c.place_block.new.pool
    c.place_block.new.download c.in-Ok.served (block-place host c.args.block.now _) is
    (c.in-Ok.ensures.served host is.found is.placing)

pub returns-in-Ok-clause-steady : goal.returns-in-Ok-clause-steady
returns-in-Ok-clause-steady g c =
    steady-block g.B.Board.state g.B.Board.history c.args.parts.now
    (λ host. places (g.B.Board.state c.args.parts.now.board).content c.args.parts.now.cpu host c.args.block.now)
    c.place_block.new.board c.place_block.new.pool c.place_block.new.download c.in-Ok.served c.requires.steady
    c.requires.bootsel c.in-Ok.ensures.served c.in-Ok.ensures.room c.in-Ok.ensures.target

pub returns-in-Err-clause-serves : goal.returns-in-Err-clause-serves
returns-in-Err-clause-serves g c = λ host is.
    let gone =
    block-lost g.B.Board.state g.B.Board.history c.args.parts.now c.lost.new.parts _ c.place_block.new.board
    c.place_block.new.pool c.place_block.new.download c.in-Err.field-0 _
    (c.in-Err.ensures.served host is.found is.placing) c.lost.ensures.parts c.lost.ensures.lost in
    rw c.lost.ensures.none gone
