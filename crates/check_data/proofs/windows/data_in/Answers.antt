use Rattle.std.proofs.Common.{length, subst, sym, ◌+◌, ◌≤◌}
use Rattle.std.specs.Prelude.{All}
use Rattle.pico_board.specs.MemBoard.{state_of}
use Rattle.pico_board.specs.declared.window.Window.{Window}
use Rattle.check_data.proofs.InsideLemmas.{data-inside}
use Rattle.check_data.proofs.windows.data_in.Goals as goal

pub returns-in-Some-clause-inside : goal.returns-in-Some-clause-inside
returns-in-Some-clause-inside c =
    let n = length (state_of c.args.board.now).content.flash in
    subst (λ ws. All (λ (w : Window). w.start + w.len ≤ n) ws) (sym c.data_of.ensures)
    (data-inside n c.args.board.now.sizes.flash_length.whole c.in-Some.found.table c.in-Some.ensures.sound
    c.in-Start.choice)
