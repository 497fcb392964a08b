use Rattle.std.proofs.Common.{◌≤◌, length, arith, sym, ◌∙◌}
use Rattle.part_table.specs.TableOf.{has_table}
use Rattle.block_loop.proofs.PlaceLemmas.{as-many}
use Rattle.slot_caveats.proofs.SeenLemmas.{first-here, first-more, first-none}
use Rattle.boot_caveats.proofs.reading.first_table.Goals as goal

pub returns-then-has_table : goal.returns-then-has_table
returns-then-has_table g c = λ loop is.
    first-here has_table loop c.loop-i.i c.block_of-block.result (c.block_of-block.ensures.exact loop is)
    (sym c.has_table.ensures ∙ c.if-has_table.true) (c.loop-i.invariant loop is)

pub loop-i-preserved : goal.loop-i-preserved
loop-i-preserved g c = λ loop is.
    first-more has_table loop c.loop-i.i c.block_of-block.result (c.block_of-block.ensures.exact loop is)
    (sym c.has_table.ensures ∙ c.if-has_table.false) (c.loop-i.invariant loop is)

pub returns : goal.returns
returns g c = λ loop is.
    let few : length loop ≤ c.loop-i.i =
    omega (
      arith,
      as-many (g.V.View.bytes c.args.view.now) c.args.found.now c.requires.loop_ loop is,
      c.loop-i-test.false,
      c.count-i-end.ensures.value,
    ) in
    first-none has_table loop c.loop-i.i few (c.loop-i.invariant loop is)
