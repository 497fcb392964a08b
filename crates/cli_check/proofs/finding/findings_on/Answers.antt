use Rattle.std.proofs.Common.{◌∙◌, List, ap, subst, sym}
use Rattle.pico_board.specs.declared.Step.{Step}
use Rattle.pico_board.specs.declared.boot.BootKind.TheVariants.{Normal}
use Rattle.pico_board.specs.Content.{Content}
use Rattle.pico_board.specs.MemBoard.{state_of}
use Rattle.boot_rules.specs.Choosing.{decision_in}
use Rattle.boot_rules.specs.Chosen.{Chosen}
use Rattle.boot_rules.proofs.DecisionLemmas.{decision-chosen}
use Rattle.boot_script.specs.Scripts.{script_events}
use Rattle.boot_cuts.proofs.FoundLemmas.{steps-found}
use Rattle.check_images.specs.Raising.{raise_count}
use Rattle.check_records.specs.Again.{again_by}
use Rattle.check_records.specs.Unerased.{first_unerased}
use Rattle.cli_check.specs.Findings.{images_from}
use Rattle.cli_check.proofs.FoundLemmas.{found-told}
use Rattle.cli_check.proofs.TraceLemmas.{images-told, steps-few}
use Rattle.cli_check.proofs.finding.findings_on.Goals as goal

pub images_found-requires-clause-former : goal.images_found-requires-clause-former
images_found-requires-clause-former c =
    let content = (state_of c.args.board.now).content in
    let events = script_events c.args.script.now.bytes.now in
    let counted = c.in_ok-windows.ensures.counted events c.requires.trace in
    subst (λ d. Chosen content c.args.cpu Normal d) (sym counted.former) (decision-chosen content c.args.cpu Normal)

pub images_found-requires-clause-finished : goal.images_found-requires-clause-finished
images_found-requires-clause-finished c =
    let z = (state_of c.args.trace.now.board).content in
    let events = script_events c.args.script.now.bytes.now in
    let counted = c.in_ok-windows.ensures.counted events c.requires.trace in
    subst (λ d. Chosen z c.args.cpu Normal d)
    (ap (λ (x : Content). decision_in x c.args.cpu Normal) c.requires.trace.content ∙ sym counted.finished)
    (decision-chosen z c.args.cpu Normal)

pub raise_count-raised-requires : goal.raise_count-raised-requires
raise_count-raised-requires c =
    let content = (state_of c.args.board.now).content in
    let events = script_events c.args.script.now.bytes.now in
    steps-few content c.args.cpu events c.args.trace.now c.requires.trace c.deref-3.result.now
    (c.deref-3.ensures.value
    ∙ steps-found content c.args.cpu events c.args.trace.now c.in_ok-steps.steps.items c.deref.result.now
    c.requires.trace c.deref.ensures.value c.in_ok-steps.ensures)

pub returns : goal.returns
returns c =
    let content = (state_of c.args.board.now).content in
    let cpu = c.args.cpu in
    let events = script_events c.args.script.now.bytes.now in
    let is = c.requires.trace in
    let cuts = c.in_ok-windows.cuts in
    let counted = c.in_ok-windows.ensures.counted events is in
    let steps = steps-found content cpu events c.args.trace.now c.in_ok-steps.steps.items c.deref.result.now is
    c.deref.ensures.value c.in_ok-steps.ensures in
    found-told content cpu events c.args.pattern.bytes.now
    (record {
      cuts = cuts;
      images = c.in_ok-images.images;
      windows = c.in_ok-windows.windows;
      records = c.in_ok-records.records;
      again = c.in_ok-again.again;
      raised = c.raise_count-raised.result;
      laws = c.in_ok-laws.laws;
      script = c.script_caveats-caveats.result;
    })
    (record {
      windows = c.in_ok-windows.ensures.windows events is;
      counted = counted;
      images = images-told content cpu events c.args.trace.now is (images_from c.in_ok-images.images) cuts.end_class
          counted.end_class c.in_ok-images.ensures;
      records = c.in_ok-records.ensures content cpu is;
      again = c.in_ok-again.ensures
          ∙ ap (λ (xs : List Step). again_by (first_unerased xs) cuts.counts.other_table c.in_ok-records.records.begins
          cuts.counts.other_class) (c.deref-2.ensures.value ∙ steps);
      raised = c.raise_count-raised.ensures
          ∙ ap (λ (xs : List Step). raise_count xs) (c.deref-3.ensures.value ∙ steps);
      session = c.in_ok-laws.ensures.session;
      boot = c.in_ok-laws.ensures.boot;
      buy = c.in_ok-laws.ensures.buy;
      script = c.script_caveats-caveats.ensures content cpu is;
    })
