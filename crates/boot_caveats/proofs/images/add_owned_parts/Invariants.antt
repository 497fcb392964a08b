use Rattle.std.proofs.Common.{◌≡◌, ◌++◌}
use Rattle.std.specs.List.{filter_map, range_with_len}
use Rattle.sector_pool.specs.Keeping.{KeepsOut}
use Rattle.image_check.specs.Digests.{Knows}
use Rattle.boot_caveats.specs.ImageCaveats.{owned_image}
use Rattle.boot_caveats.proofs.images.add_owned_parts.Given as goal

abbrev pub invariant-loop-i : goal.invariant-loop-i
invariant-loop-i g l = record {
  kept : KeepsOut l.fn.pool l.pool;
  knows : Knows l.digests (g.B.Board.state l.board).content;
  listed : l.list.items ≡ l.initial.list.items
      ++ filter_map (owned_image (g.B.Board.state l.board).content l.cpu l.parts) (range_with_len 0 l.i);
}
