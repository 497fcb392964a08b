-- The former bytes stand at the front, and the blocks up to here behind them.
use Rattle.std.proofs.Common.{◌≡◌, ◌++◌, map}
use Rattle.std.specs.List.{flat_map, range_with_len}
use Rattle.uf2_place.specs.Blocks.{written_block}
use Rattle.uf2_place.specs.Files.{file_block}
use Rattle.uf2_place.proofs.writing.append_blocks.Given as goal

abbrev pub invariant-loop-number : goal.invariant-loop-number
invariant-loop-number l =
    l.out.items ≡ l.fn.out.items ++ flat_map written_block
    (map (file_block l.image l.family) (range_with_len 0 l.number))
