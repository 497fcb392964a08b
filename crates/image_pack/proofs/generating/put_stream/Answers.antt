use Rattle.std.proofs.Common.{◌+◌, ◌-◌, ◌/◌, ◌^◌, ◌∷◌, ◌++◌, [], ◌∙◌, ap, sym, arith}
use Rattle.image_pack.specs.Streams.{stream}
use Rattle.image_pack.proofs.StreamLemmas.{stream-end, stream-more}
use Rattle.image_pack.proofs.generating.put_stream.Goals as goal

pub loop-i-preserved : goal.loop-i-preserved
loop-i-preserved c = record {
  so_far =
      ap (λ x. c.push.new.self.items ++ stream (c.args.count - (c.loop-i._i + 1)) x) c.next_of-x.ensures
      ∙ stream-more c.loop-i.out.items c.push.new.self.items c.args.count c.loop-i._i c.loop-i.x c.loop-i-test.true
      (c.in_ok-push.ensures.items ∙ ap (λ x. c.loop-i.out.items ++ x / 2 ^ 24 ∷ []) c.next_of-x.ensures)
      ∙ c.loop-i.invariant.so_far;
  long = omega (arith, c.in_ok-push.ensures.len, c.loop-i.invariant.long);
}

pub returns-clause-items : goal.returns-clause-items
returns-clause-items c =
    sym (stream-end c.loop-i.out.items c.args.count c.loop-i._i c.loop-i.x c.loop-i-test.false)
    ∙ c.loop-i.invariant.so_far
