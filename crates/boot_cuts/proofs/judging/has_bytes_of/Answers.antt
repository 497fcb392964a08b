use Rattle.pico_board.specs.Content.{window_bytes}
use Rattle.pico_board.specs.MemBoard.{state_of}
use Rattle.boot_sweep.proofs.ResultLemmas.{same-exactly}
use Rattle.boot_cuts.proofs.judging.has_bytes_of.Goals as goal

pub returns : goal.returns
returns c =
    let b = (state_of c.args.base.now).content in
    let d = (state_of c.args.board.now).content in
    let window = c.args.image.now.window in
    same-exactly c.args.cpu (window_bytes b window) (window_bytes d window) c.args.image.now c.same_content.result
    c.requires.held c.same_content.ensures
