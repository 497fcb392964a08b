-- The same image in another window, and after its trial bit was cleared, as a buy leaves it (RP2350
-- Datasheet, chapter 5, Bootrom, "Try before you buy").
use Rattle.std.specs.Prelude.{◌≡◌, ◌≢◌, ℕ, ◌+◌, ◌*◌, ◌%◌, ◌^◌, false, List, length, slice_index}
use Rattle.pico_board.specs.declared.window.Window.{Window}
use Rattle.image_def.specs.declared.started.Started.{Started}
use Rattle.image_def.specs.Trial.{trial_cleared, untried}
use Rattle.image_check.specs.declared.examining.Defined.{Defined}

-- the record of the same image in another window
abbrev pub moved_to : Window → Started → Started
moved_to window s = record {
  window = window;
  block = s.block;
  image_at = s.image_at;
  pc = s.pc;
  sp = s.sp;
  limit = s.limit;
  version = s.version;
  rollback = s.rollback;
  rows = s.rows;
  trial = s.trial;
}

-- the record of the same image without its trial bit
abbrev pub bought : Started → Started
bought s = record {
  window = s.window;
  block = s.block;
  image_at = s.image_at;
  pc = s.pc;
  sp = s.sp;
  limit = s.limit;
  version = s.version;
  rollback = s.rollback;
  rows = s.rows;
  trial = false;
}

-- the definition's block with its trial bit cleared, and what it then says
abbrev pub untried_image : Defined → Defined
untried_image image = record { block = trial_cleared image.block; def = untried image.def }

-- where the IMAGE_TYPE item of an image stands in its window
abbrev pub place_of : Defined → ℕ
place_of image = image.block.at + 4 * image.def.image_word

-- v has the bytes of w, but the trial bit of the IMAGE_TYPE item at this offset is clear. It is the
-- topmost bit of the item's fourth byte
pub record ClearsTrialBit (w v : List ℕ) (at : ℕ) : Type 0 where
  pub long : length v ≡ length w
  pub cleared : slice_index v (at + 3) ≡ slice_index w (at + 3) % 2 ^ 7
  pub others : (i : ℕ) → i ≢ at + 3 → slice_index v i ≡ slice_index w i
