-- What a judge of the contents that cuts leave knows, and what it tells of a content.
use Rattle.std.specs.Prelude.{◌≡◌, ℕ}
use Rattle.pico_board.specs.MemBoard.{state_of}
use Rattle.pico_board.specs.Content.{Content}
use Rattle.boot_rules.specs.Tables.{table_in}
use Rattle.boot_cuts.specs.Judging.{AreEnds}
use Rattle.check_data.specs.Ends.{AreInside, AreWithin}
use Rattle.check_counts.specs.declared.judging.Counting.{Counting}
use Rattle.check_counts.specs.Facts.{Facts, Sides, facts_of}

abbrev pub sides_by : Counting → Sides
sides_by counting = record {
  first = (state_of counting.ends.start.now).content;
  last = (state_of counting.ends.ends.board.now).content;
  torn = counting.ends.torn.now;
  cpu = counting.ends.ends.cpu;
  windows = counting.windows.now;
  loose = counting.loose.now;
}

-- the ends are those of boards with a flash of n bytes, in which the windows with data and the
-- loose bytes lie, and the table is that of the first of them
pub record IsReady (counting : Counting) (n : ℕ) : Type 0 where
  pub ends : AreEnds counting.ends n
  pub windows : AreWithin n counting.windows.now
  pub loose : AreInside n counting.loose.now
  pub table : counting.table ≡ table_in (state_of counting.ends.start.now).content

-- what is told of a content
abbrev pub told : Counting → Content → Facts
told counting d = facts_of (sides_by counting) d
