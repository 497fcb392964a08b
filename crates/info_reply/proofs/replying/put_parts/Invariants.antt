-- The words of the partitions so far are appended.
use Rattle.std.proofs.Common.{◌≡◌, ◌+◌, ◌*◌, ◌++◌, length, take, flat_map}
use Rattle.block_codec.specs.Words.{bytes_of}
use Rattle.info_reply.specs.Infos.{location_and_flags}
use Rattle.info_reply.proofs.replying.put_parts.Given as goal

abbrev pub invariant-loop-part : goal.invariant-loop-part
invariant-loop-part l = record {
  so_far : l.bytes.items ≡ l.fn.bytes.items ++ bytes_of (flat_map location_and_flags (take l.part-index l.parts));
  long : length l.bytes.items ≡ length l.fn.bytes.items + 8 * l.part-index;
}
