-- So many bytes 0 stand behind the name.
use Rattle.std.proofs.Common.{◌≡◌, ◌+◌, ◌∷◌, ◌++◌, length, replicate}
use Rattle.info_reply.proofs.bytes.put_padded.Given as goal

abbrev pub invariant-loop-i : goal.invariant-loop-i
invariant-loop-i l = record {
  so_far : l.bytes.items ≡ l.fn.bytes.items ++ length l.name ∷ l.name ++ replicate l._i 0;
  long : length l.bytes.items ≡ length l.fn.bytes.items + 1 + length l.name + l._i;
}
