-- The armed cut of a board that tells its cut, as a test bench has it.
use Rattle.std.specs.Prelude.{◌≡◌, ℕ, ◌+◌, ◌-◌, ◌*◌, ◌%◌, ◌≤◌, ◌==◌, Bool, true, false, if◌then◌else◌, Option, None, Some, List, [], ◌∷◌, length, slice_index, slice_set, bit_and, bit_or, bit_xor}
use Rattle.pico_board.specs.Content.{Content}
use Rattle.pico_board.specs.Steps.{Step, Erase, Program, Raise, changed, after}

-- a cut that is armed: how many steps complete before the cut, and whether it falls within the
-- next step or before it; a cut within a step leaves the pattern
pub record Cut : Type 0 where
  pub left : ℕ
  pub within : Bool
  pub pattern : List ℕ

-- the cut after so many completed steps, within the next one or before it, of this pattern
abbrev pub cut_with : ℕ → Bool → List ℕ → Cut
cut_with left within pattern = record { left = left; within = within; pattern = pattern }

-- a cut within a step has a pattern of 1 to 4096 bytes, and a cut before a step has none
abbrev pub IsPattern : Bool → List ℕ → Type 0
IsPattern true pattern = (1 ≤ length pattern) × (length pattern ≤ 4096)
IsPattern false pattern = length pattern ≡ 0

-- the byte at place i of the pattern, repeated without end
abbrev pub pattern_at : List ℕ → ℕ → ℕ
pattern_at pattern i = slice_index pattern (i % length pattern)

-- the first three bytes of the repeated pattern as a little-endian number
abbrev pub pattern_row : List ℕ → ℕ
pattern_row pattern =
    pattern_at pattern 0 + 256 * pattern_at pattern 1 + 65536 * pattern_at pattern 2

-- what a cut within the step leaves: of an erase the pattern's bytes, of a program
-- `old & (d | pattern)`, and of a raise `row | (bits & !pattern)`, where `!` is the complement of
-- 24 bits
abbrev pub torn_by : List ℕ → Content → Step → Content
torn_by pattern c (Erase s) =
    record { flash = changed (λ i b. pattern_at pattern i) (4096 * s) 4096 c.flash; otp = c.otp }
torn_by pattern c (Program p d) =
    record {
      flash = changed (λ i b. bit_and b (bit_or (slice_index d i) (pattern_at pattern i)))
          (256 * p) 256 c.flash;
      otp = c.otp;
    }
torn_by pattern c (Raise r b) =
    record {
      flash = c.flash;
      otp = slice_set c.otp r
          (bit_or (slice_index c.otp r) (bit_and b (bit_xor (pattern_row pattern) 0xff_ffff)));
    }

-- what the cut leaves when it falls due in the step: before the step nothing has changed
abbrev pub cut_by : Cut → Content → Step → Content
cut_by cut c step = if cut.within then torn_by cut.pattern c step else c

-- what a board that tells its armed cut answers and leaves
pub record CutOutcome : Type 0 where
  pub answer : Bool
  pub content : Content
  pub armed : Option Cut

-- the cut with one step fewer to come before it
abbrev pub nearer : Cut → Cut
nearer cut = record { left = cut.left - 1; within = cut.within; pattern = cut.pattern }

-- a step: power is lost exactly where the cut has no step left; then what the cut does is left,
-- and no cut is armed; a completed step takes one from the steps left
abbrev pub cut_step : Option Cut → Content → Step → CutOutcome
cut_step None c step = record { answer = true; content = after c step; armed = None }
cut_step (Some cut) c step =
    if cut.left == 0 then record { answer = false; content = cut_by cut c step; armed = None }
    else record { answer = true; content = after c step; armed = Some (nearer cut) }

-- the rest of the steps where power was not lost
abbrev pub unless_cut : CutOutcome → (Option Cut → Content → CutOutcome) → CutOutcome
unless_cut o rest = if o.answer then rest o.armed o.content else o

-- a list of steps, in their order, up to the one in which power is lost
abbrev pub cut_steps : List Step → Option Cut → Content → CutOutcome
cut_steps [] cut c = record { answer = true; content = c; armed = cut }
cut_steps (step ∷ steps) cut c = unless_cut (cut_step cut c step) (cut_steps steps)
