use Rattle.std.proofs.Common.{length, subst, sym, ◌+◌, ◌≤◌}
use Rattle.std.specs.Prelude.{All}
use Rattle.pico_board.specs.MemBoard.{state_of}
use Rattle.pico_board.specs.declared.window.Window.{Window}
use Rattle.boot_tape.specs.Moving.{moves_from}
use Rattle.check_data.specs.Ends.{AreWithin}
use Rattle.check_data.proofs.InsideLemmas.{told-inside}
use Rattle.check_data.proofs.windows.data_windows.Goals as goal

pub returns-clause-inside : goal.returns-clause-inside
returns-clause-inside c =
    let n = length (state_of c.args.ends.now.start.now).content.flash in
    let former = c.data_in-former.ensures.inside in
    let finished = subst (λ m. All (λ (w : Window). w.start + w.len ≤ m) c.data_in-finished.result.items)
    c.requires.ready.end_long c.data_in-finished.ensures.inside in
    subst (λ xs. AreWithin n xs) (sym c.in_ok-told.ensures)
    (told-inside n (moves_from c.args.moves.now) _ _
    (subst (λ ws. All (λ (w : Window). w.start + w.len ≤ n) ws) (sym c.as_slice.ensures.value) former)
    (subst (λ ws. All (λ (w : Window). w.start + w.len ≤ n) ws) (sym c.as_slice-2.ensures.value) finished))
