use Rattle.std.proofs.Common.{◌∙◌, None, ap, length, refl, subst, sym}
use Rattle.std.specs.Prelude.{map}
use Rattle.image_check.specs.Digests.{Knows as KnowsDigests}
use Rattle.boot_sweep.specs.Verdicts.{Knows}
use Rattle.boot_sweep.proofs.KnownLemmas.{first-known}
use Rattle.boot_cuts.specs.Beside.{AreMovesBeside}
use Rattle.pico_board.specs.declared.boot.BootKind.TheVariants.{Normal}
use Rattle.boot_rules.specs.Choosing.{decision_in}
use Rattle.boot_cuts.specs.Answers.{answer_of}
use Rattle.boot_cuts.specs.Classing.{class_of}
use Rattle.boot_cuts.specs.Contents.{cut_contents}
use Rattle.boot_tape.specs.Moving.{moves_from, traced_by}
use Rattle.boot_cuts.specs.Runs.{runs_of}
use Rattle.boot_tape.specs.Traces.{trace}
use Rattle.pico_board.specs.Content.{Content}
use Rattle.pico_board.specs.declared.mem_board.MemBoard.{MemBoard}
use Rattle.pico_board.specs.MemBoard.{state_of}
use Rattle.boot_cuts.proofs.FoundLemmas.{end-found, moves-few, moves-inside, runs-found, steps-found, torn-found}
use Rattle.boot_cuts.proofs.found.cuts_of.Goals as goal

pub images_of-requires-clause-knows : goal.images_of-requires-clause-knows
images_of-requires-clause-knows c = c.none-before.ensures.knows (state_of c.args.board).content

pub images_of-requires-2-clause-knows : goal.images_of-requires-2-clause-knows
images_of-requires-2-clause-knows c = c.none-after.ensures.knows (state_of c.args.trace.now.board).content

pub give_digests-requires : goal.give_digests-requires
give_digests-requires c = record {
  knows = subst (λ d. KnowsDigests c.decide_by.new.digests d)
      (sym (ap (λ (b : MemBoard). (state_of b).content) c.new-beside.ensures ∙ c.in_ok-copy.ensures.same))
      c.decide_by.ensures.knows;
}

pub runs_on-requires-clause-range : goal.runs_on-requires-clause-range
runs_on-requires-clause-range c =
    moves-inside (state_of c.args.board).content c.args.cpu c.requires.trace.0 c.args.trace.now c.deref-8.result.now
    (length (state_of c.give_digests.new.self).content.flash) c.requires.trace.1 c.deref-8.ensures.value
    (ap (λ (b : MemBoard). length (state_of b).content.flash) (c.give_digests.ensures.same ∙ c.new-beside.ensures)
    ∙ ap (λ (x : Content). length x.flash) c.in_ok-copy.ensures.same)

pub runs_on-requires-clause-few : goal.runs_on-requires-clause-few
runs_on-requires-clause-few c =
    moves-few (state_of c.args.board).content c.args.cpu c.requires.trace.0 c.args.trace.now c.deref-8.result.now
    c.requires.trace.1 c.deref-8.ensures.value

pub runs_on-requires-clause-known : goal.runs_on-requires-clause-known
runs_on-requires-clause-known c =
    let start = (state_of c.args.board).content in
    subst (λ d. Knows start c.args.cpu c.decide_by.result c.decide_by-2.result c.slot_beside-slot.result None d)
    (sym (ap (λ (b : MemBoard). (state_of b).content) (c.give_digests.ensures.same ∙ c.new-beside.ensures)
    ∙ c.in_ok-copy.ensures.same))
    (first-known start c.args.cpu c.decide_by.result c.decide_by-2.result c.deref-6.result.now c.slot_beside-slot.result
    c.args.board.sizes c.slot_beside-slot.ensures.slot)

pub runs_on-requires-clause-slot : goal.runs_on-requires-clause-slot
runs_on-requires-clause-slot c =
    subst (λ ms. AreMovesBeside c.slot_beside-slot.result ms) (c.deref-7.ensures.value ∙ sym c.deref-8.ensures.value)
    c.slot_beside-slot.ensures.moves

pub returns : goal.returns
returns c = λ events is.
    let start = (state_of c.args.board).content in
    let z = (state_of c.args.trace.now.board).content in
    let cpu = c.args.cpu in
    let torn = c.deref-2.result.now in
    let torn_is = torn-found start cpu events c.args.trace.now torn c.deref.result.now is c.deref.ensures.value
    (c.deref-2.ensures.value ∙ c.in_ok-torn.ensures) in record {
      short = is.short;
      numbers = c.in_ok-numbers.ensures ∙ (c.deref-9.ensures.value ∙ is.numbers);
      steps = steps-found start cpu events c.args.trace.now c.in_ok-steps.steps.items c.deref-5.result.now is
          c.deref-5.ensures.value c.in_ok-steps.ensures;
      runs = runs-found start z torn cpu events c.args.pattern.now c.args.trace.now c.in_ok-runs.runs.items
          c.deref-8.result.now is c.deref-8.ensures.value refl torn_is
          (c.in_ok-runs.ensures.told
          ∙ ap (λ x. runs_of (map (answer_of start z torn cpu) (cut_contents c.args.pattern.now
          (traced_by x (moves_from c.deref-8.result.now)))))
          (ap (λ (b : MemBoard). (state_of b).content) (c.give_digests.ensures.same ∙ c.new-beside.ensures)
          ∙ c.in_ok-copy.ensures.same));
      former = c.decide_by.ensures.function;
      finished = c.decide_by-2.ensures.function ∙ ap (λ x. decision_in x cpu Normal) is.content;
      end_ = c.class_on-end.ensures.exact
          ∙ (end-found start z torn cpu c.decide_by.result c.decide_by-2.result c.decide_by.ensures.function c.decide_by-2.ensures.function
          ∙ (ap (λ x. class_of start x torn cpu x) is.content
          ∙ ap (λ x. class_of start (trace start cpu events).last x cpu (trace start cpu events).last) torn_is));
    }
