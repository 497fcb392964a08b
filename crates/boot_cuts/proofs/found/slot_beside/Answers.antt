use Rattle.std.proofs.Common.{◌∙◌, List, None, ap, length, subst, sym}
use Rattle.std.specs.List.{AllByRecursion}
use Rattle.pico_board.specs.declared.Step.{Step}
use Rattle.pico_board.specs.MemBoard.{state_of}
use Rattle.boot_sweep.specs.Verdicts.{LiesIn}
use Rattle.boot_sweep.proofs.KnownLemmas.{lies-in}
use Rattle.boot_tape.specs.Moving.{moves_from}
use Rattle.boot_cuts.proofs.BesideLemmas.{all-beside, length-moves, none-beside}
use Rattle.boot_cuts.proofs.WalkLemmas.{moves-lie}
use Rattle.boot_cuts.proofs.found.slot_beside.Goals as goal

pub returns-then-steps-moves-clause-moves : goal.returns-then-steps-moves-clause-moves
returns-then-steps-moves-clause-moves c =
    all-beside c.slot_of.result (moves_from c.args.moves.now)
    (sym (ap (λ (xs : List Step). length xs) c.requires.steps)
    ∙ (c.if-steps-moves.true ∙ sym (length-moves c.args.moves.now)))
    (subst (λ (xs : List Step). AllByRecursion (LiesIn c.slot_of.result) xs) c.requires.steps
    (lies-in (state_of c.args.board.now).content c.args.cpu c.args.steps.now c.slot_of.result c.slot_of.ensures))

pub returns-then-steps-moves-clause-lies : goal.returns-then-steps-moves-clause-lies
returns-then-steps-moves-clause-lies c =
    moves-lie c.slot_of.result (moves_from c.args.moves.now) (returns-then-steps-moves-clause-moves c)

pub returns-else-steps-moves-clause-moves : goal.returns-else-steps-moves-clause-moves
returns-else-steps-moves-clause-moves c = none-beside (moves_from c.args.moves.now)

pub returns-else-steps-moves-clause-lies : goal.returns-else-steps-moves-clause-lies
returns-else-steps-moves-clause-lies c =
    moves-lie None (moves_from c.args.moves.now) (returns-else-steps-moves-clause-moves c)
