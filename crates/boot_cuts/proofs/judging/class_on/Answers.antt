use Rattle.std.proofs.Common.{subst, sym}
use Rattle.pico_board.specs.MemBoard.{state_of}
use Rattle.pico_board.specs.declared.boot.BootKind.TheVariants.{Normal}
use Rattle.boot_rules.specs.Chosen.{Chosen}
use Rattle.boot_rules.proofs.DecisionLemmas.{decision-chosen}
use Rattle.boot_sweep.proofs.ResultLemmas.{start-inside}
use Rattle.boot_cuts.proofs.judging.class_on.Goals as goal

pub is_as_on-requires-clause-chosen : goal.is_as_on-requires-clause-chosen
is_as_on-requires-clause-chosen c =
    subst (λ x. Chosen (state_of c.args.ends.now.start.now).content c.args.ends.now.ends.cpu Normal x)
    (sym c.requires.ends.former)
    (decision-chosen (state_of c.args.ends.now.start.now).content c.args.ends.now.ends.cpu Normal)

pub is_as_on-requires-then-is_mended-clause-chosen : goal.is_as_on-requires-then-is_mended-clause-chosen
is_as_on-requires-then-is_mended-clause-chosen c =
    subst (λ x. Chosen (state_of c.args.ends.now.ends.board.now).content c.args.ends.now.ends.cpu Normal x)
    (sym c.requires.ends.finished)
    (decision-chosen (state_of c.args.ends.now.ends.board.now).content c.args.ends.now.ends.cpu Normal)

pub start_class-requires-clause-inside : goal.start_class-requires-clause-inside
start_class-requires-clause-inside c =
    let d = (state_of c.args.board.now).content in
    start-inside d c.args.ends.now.ends.cpu c.in-Start.choice c.args.board.now.sizes
    (subst (λ x. Chosen d c.args.ends.now.ends.cpu Normal x) c.in-Start.is c.requires.chosen)
