-- Worked sessions on the second slot of a pair, reckoned by hand from the rules.
use Rattle.std.specs.Prelude.{ℕ, ◌+◌, ◌*◌, List}
use Rattle.uf2_place.specs.Blocks.{written_block}
use Rattle.boot_script.specs.Events.{EventView}

-- block 0 or 1 of a download of two blocks of rp2350-arm-s, with this page
abbrev pub update_block : ℕ → List ℕ → EventView
update_block number page = EventView.Uf2 (written_block (record {
  flags = 0x2000;
  address = 0x10000000 + 256 * number;
  number = number;
  count = 2;
  family = 0xe48bff59;
  page = page;
}))
