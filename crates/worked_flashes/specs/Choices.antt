-- Worked starts in a pair of slots and alone, and targets. The examples of several crates take
-- them.
use Rattle.std.specs.Prelude.{◌-◌, Bool, true, false, Some, None}
use Rattle.pico_board.specs.declared.window.Window.{Window}
use Rattle.image_def.specs.declared.started.Started.{Started}
use Rattle.part_table.specs.declared.target.Target.{Target}
use Rattle.slot_choice.specs.declared.unit.Member.TheVariants.{A, B}
use Rattle.slot_choice.specs.declared.choice.Choice.{Choice}
use Rattle.slot_choice.specs.Examples.{window_at}
use Rattle.worked_flashes.specs.Images.{image_of_version, in_a, in_b, plain_image}

-- the start of an image in the pair's A, and in its B
abbrev pub starts_a : Bool → Started → Choice
starts_a updated s = record {
  image = s;
  member = A;
  other = Some (window_at 0x20000 0x1e000);
  updated = updated;
}

abbrev pub starts_b : Bool → Started → Choice
starts_b updated s = record {
  image = s;
  member = B;
  other = Some (window_at 0x2000 0x1e000);
  updated = updated;
}

-- the start of an image in a unit alone
abbrev pub starts_alone : Bool → Started → Choice
starts_alone updated s = record { image = s; member = A; other = None; updated = updated }

-- a target of this window: it is gated or not, and stays in BOOTSEL or not
abbrev pub to : Window → Bool → Bool → Target
to w gated stay = record { window = w; gated = gated; stay = stay }

-- the start of a trial image in the whole of a flash of two sectors, before it is bought
abbrev pub running_trial : Choice
running_trial = starts_alone true (plain_image (window_at 0 0x2000) 0x20000001 true)

-- the start of version 1.9 in A, and that of version 1.10 in B
abbrev pub former_start : Choice
former_start = starts_a false (in_a 1 9 false)

abbrev pub finished_start : Choice
finished_start = starts_b false (in_b 1 10 false)

-- the A and the B of the small pair; the starts of version 1.9 in A and of version 1.10 in B
abbrev pub small_first : Window
small_first = window_at 0x2000 0x2000

abbrev pub small_slot : Window
small_slot = window_at 0x4000 0x2000

abbrev pub small_former : Choice
small_former = record {
  image = image_of_version small_first 1 9 false;
  member = A;
  other = Some small_slot;
  updated = false;
}

abbrev pub small_finished : Choice
small_finished = record {
  image = image_of_version small_slot 1 10 false;
  member = B;
  other = Some small_first;
  updated = false;
}
