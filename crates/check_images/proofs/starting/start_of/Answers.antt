use Rattle.std.proofs.Common.{subst, false}
use Rattle.pico_board.specs.MemBoard.{state_of}
use Rattle.pico_board.specs.declared.boot.BootKind.TheVariants.{Normal}
use Rattle.boot_rules.specs.Chosen.{Chosen}
use Rattle.boot_sweep.proofs.ResultLemmas.{start-inside}
use Rattle.boot_session.proofs.ConfinedLaws.{normal-valid}
use Rattle.check_images.proofs.starting.start_of.Goals as goal

pub facts_of-requires-clause-inside : goal.facts_of-requires-clause-inside
facts_of-requires-clause-inside c =
    let z = (state_of c.args.end.now).content in
    start-inside z c.args.cpu c.in-Start.choice c.args.end.now.sizes
    (subst (λ x. Chosen z c.args.cpu Normal x) c.in-Start.is c.requires.chosen)

pub facts_of-requires-clause-valid : goal.facts_of-requires-clause-valid
facts_of-requires-clause-valid c =
    let z = (state_of c.args.end.now).content in (
      false,
      normal-valid z c.args.cpu c.in-Start.choice
          (subst (λ x. Chosen z c.args.cpu Normal x) c.in-Start.is c.requires.chosen),
    )

pub returns-in-Start : goal.returns-in-Start
returns-in-Start c =
    let z = (state_of c.args.end.now).content in
    let chosen = subst (λ x. Chosen z c.args.cpu Normal x) c.in-Start.is c.requires.chosen in record {
      choice = c.in-Start.choice;
      chosen = chosen;
      image = c.facts_of.ensures false (normal-valid z c.args.cpu c.in-Start.choice chosen);
    }
