use Rattle.pico_board.specs.MemBoard.{state_of}
use Rattle.check_data.proofs.CodeLemmas.{bytes-differ}
use Rattle.check_data.proofs.others.has_other_bytes.Goals as goal

pub returns : goal.returns
returns c =
    bytes-differ (state_of c.args.one.now).content (state_of c.args.two.now).content c.args.window c.same_range.result
    c.requires.in_one c.requires.in_two c.same_range.ensures
