use Rattle.std.proofs.Common.{subst, sym, length}
use Rattle.pico_board.specs.MemBoard.{state_of}
use Rattle.pico_board.specs.Content.{window_bytes}
use Rattle.pico_board.specs.declared.boot.BootKind.TheVariants.{Normal}
use Rattle.image_check.specs.Image.{defined_in}
use Rattle.boot_rules.specs.Chosen.{Chosen}
use Rattle.boot_sweep.proofs.ResultLemmas.{start-inside}
use Rattle.boot_tape.specs.Moving.{done_steps, moves_from}
use Rattle.check_data.specs.Ends.{AreInside}
use Rattle.check_data.proofs.InsideLemmas.{loose-inside}
use Rattle.check_data.proofs.loose.loose_bytes.Goals as goal

pub loose_of-requires-clause-inside : goal.loose_of-requires-clause-inside
loose_of-requires-clause-inside c =
    let z = (state_of c.args.end.now).content in
    start-inside z c.args.cpu c.in-Start.choice c.args.end.now.sizes
    (subst (λ x. Chosen z c.args.cpu Normal x) c.in-Start.is c.requires.chosen)

pub returns-in_ok-found-in-Start-clause-inside : goal.returns-in_ok-found-in-Start-clause-inside
returns-in_ok-found-in-Start-clause-inside c =
    let z = (state_of c.args.end.now).content in
    let w = c.in-Start.choice.image.window in
    let inside = start-inside z c.args.cpu c.in-Start.choice c.args.end.now.sizes
    (subst (λ x. Chosen z c.args.cpu Normal x) c.in-Start.is c.requires.chosen) in
    subst (λ xs. AreInside (length z.flash) xs) (sym c.in_ok-found-in-Start.ensures)
    (loose-inside z.flash (done_steps (moves_from c.args.moves.now)) w (window_bytes z w) (length z.flash) inside
    (defined_in c.args.cpu (window_bytes z w)))
