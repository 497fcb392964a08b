-- Worked cuts on contents of a few bytes, which the examples of this crate take.
use Rattle.std.specs.Prelude.{ℕ, ◌+◌, ◌-◌, ◌*◌, ◌∷◌, [], ◌++◌, List, false, length, pos, replicate}
use Rattle.pico_board.specs.declared.Step.{Step}
use Rattle.pico_board.specs.declared.Step.TheVariants.{Raise}
use Rattle.pico_board.specs.Content.{Content}
use Rattle.block_codec.specs.Blocks.{BlockView}
use Rattle.block_codec.specs.Words.{bytes_of}
use Rattle.image_def.specs.declared.started.Started.{Started}
use Rattle.slot_choice.specs.Examples.{window_at}
use Rattle.boot_rules.specs.declared.decision.Decision.{Decision}
use Rattle.boot_rules.specs.declared.decision.Decision.TheVariants.{Start, Bootsel}
use Rattle.boot_rules.specs.declared.decision.Fall.TheVariants.{FlashOff, NoImage}
use Rattle.worked_flashes.specs.Choices.{starts_alone}
use Rattle.worked_flashes.specs.Images.{arm_type, plain_image, window_with}
use Rattle.boot_cuts.specs.declared.answers.Answer.{Answer}
use Rattle.cut_class.specs.declared.class.Class.{Class}
use Rattle.boot_cuts.specs.declared.runs.Run.{Run}

-- a flash that is an Arm image of 28 bytes, which begins at this PC
abbrev pub tiny : ℕ → Content
tiny pc = record { flash = window_with pc (arm_type ∷ []) 0; otp = [] }

-- the start of that image
abbrev pub start_at : ℕ → Decision
start_at pc = Start (starts_alone false (plain_image (window_at 0 28) pc false))

-- the contents before and after a script, and the decisions on them
abbrev pub before : Content
before = tiny 0x20000001

abbrev pub finished : Content
finished = tiny 0x20000003

abbrev pub first_start : Decision
first_start = start_at 0x20000001

abbrev pub last_start : Decision
last_start = start_at 0x20000003

abbrev pub falls : Decision
falls = Bootsel NoImage

abbrev pub falls_otherwise : Decision
falls_otherwise = Bootsel FlashOff

abbrev pub told : Class → Decision → Answer
told class decision = record { class = class; decision = decision }

-- the run of these cuts with this answer
abbrev pub run_to : ℕ → ℕ → Answer → Run
run_to first last answer = record { first = first; last = last; answer = answer }

-- an Arm image without a load map in a flash of one page
abbrev pub page_of : ℕ → Content
page_of pc =
    record { flash = window_with pc (arm_type ∷ []) 0 ++ replicate 228 0xff; otp = [] }

-- a flash of one page without an image
abbrev pub bare_page : Content
bare_page = record { flash = replicate 256 0xff; otp = [] }

-- the start of that image, and the image
abbrev pub page_image : ℕ → Started
page_image pc = plain_image (window_at 0 256) pc false

abbrev pub page_start : ℕ → Decision
page_start pc = Start (starts_alone false (page_image pc))

-- The words of an Arm image with these items in its first block, of which the second block has
-- one item that is passed over. The first block has the size n, and the second one ends with this
-- word, at offset n + 28.
abbrev pub two_blocks : List ℕ → ℕ → ℕ → List ℕ
two_blocks items n end =
    0x20082000 ∷ 0x20000001 ∷ 0xffffded3 ∷ items
    ++ ((0xff + 256 * length items) ∷ n ∷ 0xab123579 ∷ 0xffffded3 ∷ 0x000001fe ∷ 0x000001ff
    ∷ (0x100000000 - n) ∷ end ∷ [])

-- a flash that is such an image without a load map, and these bytes behind its last block
abbrev pub two_with : ℕ → List ℕ → Content
two_with end behind =
    record { flash = bytes_of (two_blocks (arm_type ∷ []) 20 end) ++ behind; otp = [] }

-- one with a load map without entries
abbrev pub two_mapped : List ℕ → Content
two_mapped behind = record {
  flash = bytes_of (two_blocks (arm_type ∷ 0x00000106 ∷ []) 24 0xab123579) ++ behind;
  otp = [];
}

-- a flash that is an image with one block, and a byte behind it
abbrev pub one_with : ℕ → Content
one_with behind =
    record { flash = window_with 0x20000001 (arm_type ∷ []) 0 ++ behind ∷ []; otp = [] }

-- the image of such a flash of n bytes
abbrev pub long_image : ℕ → Started
long_image n = plain_image (window_at 0 n) 0x20000001 false

-- 40 bytes, and one more
abbrev pub forty_and : ℕ → List ℕ
forty_and last = replicate 40 0 ++ last ∷ []

-- a block of 20 bytes at this offset
abbrev pub block_at : ℕ → BlockView
block_at x = record { at = x; items = 0 ∷ []; link = pos 0 }

-- two rows, and what two raises leave of them
abbrev pub rows : ℕ → ℕ → Content
rows a b = record { flash = []; otp = a ∷ b ∷ [] }

abbrev pub raises : List Step
raises = Raise 0 6 ∷ Raise 1 8 ∷ []
