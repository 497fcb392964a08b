use Rattle.std.proofs.Common.{◌∙◌, ◌++◌, ap, length}
use Rattle.std.specs.Prelude.{Vec}
use Rattle.std.specs.declared.alloc.Global.{Global}
use Rattle.pico_board.specs.Content.{Content}
use Rattle.pico_board.specs.MemBoard.{state_of}
use Rattle.boot_sweep.specs.declared.results.CutResult.{CutResult}
use Rattle.boot_sweep.specs.declared.results.StepResults.{StepResults}
use Rattle.boot_sweep.specs.Comparing.{result_by}
use Rattle.boot_sweep.specs.StepResults.{results_from}
use Rattle.boot_sweep.proofs.KnownLemmas.{first-known, lies-in}
use Rattle.boot_sweep.proofs.StepCutLemmas.{results-taken, steps-after, steps-in, steps-lie}
use Rattle.boot_sweep.proofs.sweeping.results_of.Goals as goal

pub each_cut-requires-clause-range : goal.each_cut-requires-clause-range
each_cut-requires-clause-range g c =
    steps-in (length (state_of c.args.board.now).content.flash) c.args.steps.now c.requires.range

pub each_cut-requires-clause-known : goal.each_cut-requires-clause-known
each_cut-requires-clause-known g c =
    let x = (state_of c.args.board.now).content in
    let ends = c.args.ends.now in (
      x,
      tt,
      first-known x ends.cpu ends.former ends.finished c.args.steps.now c.slot_of-slot.result c.args.board.now.sizes
          c.slot_of-slot.ensures,
    )

pub each_cut-requires-clause-slot : goal.each_cut-requires-clause-slot
each_cut-requires-clause-slot g c =
    steps-lie c.slot_of-slot.result c.args.steps.now
    (lies-in (state_of c.args.board.now).content c.args.ends.now.cpu c.args.steps.now c.slot_of-slot.result
    c.slot_of-slot.ensures)

pub returns-clause-results : goal.returns-clause-results
returns-clause-results g c =
    let x = (state_of c.args.board.now).content in
    let ends = c.args.ends.now in
    let steps = c.args.steps.now in
    let pattern = c.args.pattern.now in
    let judge : Content → CutResult = λ d. result_by ends.former ends.finished ends.cpu d
    (g.Z.Board.state ends.board.now).content in
    results-taken (λ (v : Vec StepResults Global). v.items) judge pattern c.new-results.result x steps
    c.each_cut.new.found c.in_ok-each_cut.ensures.taken
    ∙ ap (λ xs. xs ++ results_from judge pattern x steps) c.new-results.ensures.items

pub returns-clause-done : goal.returns-clause-done
returns-clause-done g c =
    c.in_ok-each_cut.ensures.done ∙ steps-after (state_of c.args.board.now).content c.args.steps.now
