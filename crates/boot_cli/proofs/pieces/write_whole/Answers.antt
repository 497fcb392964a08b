use Rattle.std.proofs.Common.{◌++◌, take}
use Rattle.std.proofs.KnownBytes.{Appends-trans}
use Rattle.boot_cli.proofs.PieceLemmas.{front-more, in-part}
use Rattle.boot_cli.proofs.pieces.write_whole.Goals as goal

pub loop-rest-preserved : goal.loop-rest-preserved
loop-rest-preserved g c = record {
  front = c.loop-rest.invariant.front ++ take c.write_piece-count.result c.loop-rest.rest.now;
  whole = front-more c.args.bytes.now c.loop-rest.invariant.front c.loop-rest.rest.now c.write_piece-count.result
      c.loop-rest.invariant.whole;
  took = Appends-trans _ _ _ c.loop-rest.invariant.front
      (take c.write_piece-count.result c.loop-rest.rest.now) c.loop-rest.invariant.took
      c.write_piece-count.ensures.taken;
}

pub returns-then-count-eq0-clause-part : goal.returns-then-count-eq0-clause-part
returns-then-count-eq0-clause-part g c = λ failed.
    in-part _ _ _ c.args.bytes.now c.loop-rest.invariant.front c.loop-rest.rest.now c.write_piece-count.result
    c.loop-rest.invariant.whole
    c.loop-rest.invariant.took c.if-count-eq0.true c.write_piece-count.ensures.taken
