use Rattle.std.proofs.Common.{◌≡◌, ◌+◌, ◌-◌, ◌/◌, suc, length, arith}
use Rattle.cli_scripts.proofs.BlockLemmas.{copied-more}
use Rattle.cli_scripts.proofs.copying.push_blocks.Goals as goal

pub loop-preserved : goal.loop-preserved
loop-preserved c =
    let split = c.in-Some.ensures.cases in
    let n = length c.args.uf2.now / 512 - (c.loop.counter + 1) in
    let more : length c.args.uf2.now / 512 - c.loop.counter ≡ suc n = omega (arith, c.loop-test.true) in
    let room = c.loop.invariant.inside in
    let long = split.2 in record {
      inside = omega (arith, more, room, long);
      same = copied-more n _ c.loop.script.items c.write_event.new.out.items c.loop.rest.now c.in-Some.block.now
          c.in-Some.behind.now _ more split.0 split.1 c.in_ok-write_event.ensures.ok c.loop.invariant.same;
    }
