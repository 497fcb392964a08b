-- Sessions that write the page of an image's first block last: Staged.
use Rattle.std.specs.Prelude.{◌≡◌, ◌≢◌, ⊤, ℕ, ◌+◌, ◌/◌, ◌==◌, not, Bool, true, List, [], ◌∷◌, ◌++◌}
use Rattle.std.specs.List.{AllByRecursion}
use Rattle.pico_board.specs.declared.Step.{Step}
use Rattle.pico_board.specs.declared.step.Step.TheVariants.{Erase, Program, Raise}
use Rattle.pico_board.specs.declared.boot.Cpu.{Cpu}
use Rattle.pico_board.specs.declared.window.Window.{Window}
use Rattle.pico_board.specs.Content.{Content, window_bytes}
use Rattle.pico_board.specs.Sessions.{Gated}
use Rattle.pico_board.specs.Steps.{after_all}
use Rattle.block_codec.specs.Blocks.{BlockView}
use Rattle.block_loop.specs.Loop.{IsFirstBlock, IsLoop}
use Rattle.image_def.specs.declared.started.Started.{Started}
use Rattle.image_check.specs.Valid.{Valid}
use Rattle.boot_sweep.specs.Firms.{HasNoOtherBlock}

-- the step programs no byte of this page
abbrev pub IsOffPage : ℕ → Step → Type 0
IsOffPage page (Erase s) = ⊤
IsOffPage page (Program p bytes) = p ≢ page
IsOffPage page (Raise r bits) = ⊤

-- the steps are gated on the window. After them the window has an image that is valid for the
-- processor with trial allowed, and each block that stands there below 4096 is a block of its loop.
-- The last step, and no step before it, programs the page that holds the first byte of the first
-- block
pub record Staged (c : Content) (steps : List Step) (w : Window) (cpu : Cpu) : Type 0 where
  pub gated : Gated steps w
  pub image : Started
  pub valid : Valid (after_all c steps) w cpu true image
  pub loop : List BlockView
  pub closes : IsLoop (window_bytes (after_all c steps) w) loop
  pub alone : HasNoOtherBlock (window_bytes (after_all c steps) w) loop
  pub first : BlockView
  pub begins : IsFirstBlock (window_bytes (after_all c steps) w) first
  pub before : List Step
  pub bytes : List ℕ
  pub last : steps ≡ before ++ Program ((w.start + first.at) / 256) bytes ∷ []
  pub off : AllByRecursion (IsOffPage ((w.start + first.at) / 256)) before

-- the last step, and none before it, programs the page
abbrev pub EndsOn : ℕ → List Step → Type 0
EndsOn page steps =
    (before : List Step) × (bytes : List ℕ) × (steps ≡ before ++ Program page bytes ∷ [])
    × AllByRecursion (IsOffPage page) before

-- the step programs no byte of this page, as a function
abbrev pub is_off_page : ℕ → Step → Bool
is_off_page page (Erase s) = true
is_off_page page (Program p bytes) = not (p == page)
is_off_page page (Raise r bits) = true
