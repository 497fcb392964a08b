use Rattle.std.proofs.Common.{◌∙◌, ap, refl}
use Rattle.pico_board.specs.declared.boot.BootKind.TheVariants.{Normal}
use Rattle.pico_board.specs.Content.{Content}
use Rattle.pico_board.specs.MemBoard.{state_of}
use Rattle.boot_rules.specs.Choosing.{decision_in}
use Rattle.boot_tape.specs.Traces.{trace}
use Rattle.boot_cuts.specs.Classing.{class_of}
use Rattle.boot_cuts.proofs.FoundLemmas.{end-found, torn-found}
use Rattle.check_counts.specs.Tallies.{tally_of}
use Rattle.check_counts.proofs.TallyLemmas.{counts-of-trace}
use Rattle.check_counts.proofs.counting.counts_of.Goals as goal

pub images_of-requires-clause-knows : goal.images_of-requires-clause-knows
images_of-requires-clause-knows c = c.none-before.ensures.knows (state_of c.args.board.now).content

pub images_of-requires-2-clause-knows : goal.images_of-requires-2-clause-knows
images_of-requires-2-clause-knows c = c.none-after.ensures.knows (state_of c.args.trace.now.board).content

pub returns : goal.returns
returns c = λ events is.
    let start = (state_of c.args.board.now).content in
    let z = (state_of c.args.trace.now.board).content in
    let cpu = c.args.cpu in
    let torn = c.deref-2.result.now in
    let torn_is = torn-found start cpu events c.args.trace.now torn c.deref.result.now is c.deref.ensures.value
    (c.deref-2.ensures.value ∙ c.in_ok-torn.ensures) in record {
      former = c.decide_by.ensures.function;
      finished = c.decide_by-2.ensures.function ∙ ap (λ (x : Content). decision_in x cpu Normal) is.content;
      end_class = c.class_on-end_class.ensures.exact
          ∙ (end-found start z torn cpu c.decide_by.result c.decide_by-2.result c.decide_by.ensures.function c.decide_by-2.ensures.function
          ∙ (ap (λ (x : Content). class_of start x torn cpu x) is.content
          ∙ ap (λ x. class_of start (trace start cpu events).last x cpu (trace start cpu events).last) torn_is));
      counts = counts-of-trace start cpu events c.args.pattern.now c.args.windows.now c.args.loose.now c.args.trace.now z
          torn c.deref-5.result.now (tally_of c.in_ok-counts.counts) is c.deref-5.ensures.value refl torn_is
          c.in_ok-counts.ensures.told;
    }
