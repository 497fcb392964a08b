-- Data for worked examples: a flash of 16 KiB with a slot that starts, another slot, and a free
-- stretch.
use Rattle.std.specs.Prelude.{[], ◌∷◌, List, codes, false, true}
use Rattle.svg_map.specs.Maps.{MapBarView}

abbrev pub started_slot : MapBarView
started_slot = record {
  window = record { start = 0; len = 4096 };
  words = codes "0x10000000 to 0x10000fff slot 0 version=1.0 rollback=0 pair A with 1";
  free = false;
  starts = true;
}

abbrev pub unstarted_slot : MapBarView
unstarted_slot = record {
  window = record { start = 4096; len = 4096 };
  words = codes "0x10001000 to 0x10001fff slot 1 fault=loop no-block pair B with 0";
  free = false;
  starts = false;
}

abbrev pub free_window : MapBarView
free_window = record {
  window = record { start = 8192; len = 8192 };
  words = codes "0x10002000 to 0x10003fff free";
  free = true;
  starts = false;
}

-- words of 80 bytes
abbrev pub whole_line : MapBarView
whole_line = record {
  window = record { start = 0; len = 4096 };
  words = codes "0x10000000 to 0x10000fff partition 0 name=a families=0x4 version=1.00 rollback=0";
  free = false;
  starts = true;
}

-- words of 81 bytes, the last word of which stands in a line of its own
abbrev pub two_lines : MapBarView
two_lines = record {
  window = record { start = 0; len = 4096 };
  words = codes "0x10000000 to 0x10000fff partition 0 name=ab families=0x4 version=1.00 rollback=0";
  free = false;
  starts = true;
}

abbrev pub three_windows : List MapBarView
three_windows = started_slot ∷ unstarted_slot ∷ free_window ∷ []
