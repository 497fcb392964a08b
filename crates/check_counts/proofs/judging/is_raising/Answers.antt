use Rattle.std.proofs.Common.{ap, subst, sym, ◌∙◌}
use Rattle.pico_board.specs.declared.boot.BootKind.TheVariants.{Normal}
use Rattle.pico_board.specs.MemBoard.{state_of}
use Rattle.boot_rules.specs.declared.decision.Decision.{Decision}
use Rattle.boot_rules.specs.Chosen.{Chosen}
use Rattle.boot_rules.proofs.DecisionLemmas.{decision-chosen}
use Rattle.boot_cuts.specs.declared.answers.Answer.{Answer}
use Rattle.check_counts.specs.Judging.{sides_by}
use Rattle.check_counts.proofs.JudgeLemmas.{raising-then}
use Rattle.check_counts.proofs.judging.is_raising.Goals as goal

pub boot_raises-requires-clause-chosen : goal.boot_raises-requires-clause-chosen
boot_raises-requires-clause-chosen c =
    let d = (state_of c.args.board.now).content in
    let cpu = c.args.counting.now.ends.ends.cpu in (
      cpu,
      subst (λ (e : Decision). Chosen d cpu Normal e) (sym (ap (λ (a : Answer). a.decision) c.requires.answer))
          (decision-chosen d cpu Normal),
    )

pub returns-then-is_same_class : goal.returns-then-is_same_class
returns-then-is_same_class c =
    let d = (state_of c.args.board.now).content in
    let cpu = c.args.counting.now.ends.ends.cpu in
    raising-then (sides_by c.args.counting.now) d c.args.answer.now c.boot_raises.result c.requires.answer
    (sym c.is_same_class.ensures ∙ c.if-is_same_class.true)
    (c.boot_raises.ensures cpu
    (subst (λ (e : Decision). Chosen d cpu Normal e) (sym (ap (λ (a : Answer). a.decision) c.requires.answer))
    (decision-chosen d cpu Normal)))
