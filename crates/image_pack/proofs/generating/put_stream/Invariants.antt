-- What is appended and the rest of the stream are the whole stream.
use Rattle.std.proofs.Common.{◌≡◌, ◌+◌, ◌-◌, ◌++◌, length}
use Rattle.image_pack.specs.Streams.{stream}
use Rattle.image_pack.proofs.generating.put_stream.Given as goal

abbrev pub invariant-loop-i : goal.invariant-loop-i
invariant-loop-i l = record {
  so_far : l.out.items ++ stream (l.count - l._i) l.x ≡ l.fn.out.items ++ stream l.count l.seed;
  long : length l.out.items ≡ length l.fn.out.items + l._i;
}
