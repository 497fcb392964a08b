use Rattle.std.proofs.Common.{subst}
use Rattle.pico_board.specs.MemBoard.{state_of}
use Rattle.pico_board.specs.declared.boot.BootKind.TheVariants.{Normal}
use Rattle.boot_rules.specs.Chosen.{Chosen}
use Rattle.boot_sweep.proofs.ResultLemmas.{start-holds, start-inside}
use Rattle.boot_cuts.proofs.judging.has_image_of.Goals as goal

pub has_bytes_of-requires-clause-inside : goal.has_bytes_of-requires-clause-inside
has_bytes_of-requires-clause-inside c =
    let b = (state_of c.args.base.now).content in
    start-inside b c.args.cpu c.in-Start.choice c.args.base.now.sizes
    (subst (λ x. Chosen b c.args.cpu Normal x) c.in-Start.is c.requires.chosen)

pub has_bytes_of-requires-clause-held : goal.has_bytes_of-requires-clause-held
has_bytes_of-requires-clause-held c =
    let b = (state_of c.args.base.now).content in
    start-holds b c.args.cpu c.in-Start.choice
    (subst (λ x. Chosen b c.args.cpu Normal x) c.in-Start.is c.requires.chosen)
