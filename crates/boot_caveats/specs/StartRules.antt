-- What is to be looked up of the image that a boot starts, as rules.
use Rattle.std.specs.Prelude.{◌≡◌, ◌≢◌, ℕ, ◌+◌, ◌*◌, ◌^◌, ◌≤◌, List, [], ◌∷◌, ◌++◌, length, Some}
use Rattle.std.specs.List.{AllByRecursion}
use Rattle.pico_board.specs.declared.window.Window.{Window}
use Rattle.pico_board.specs.Content.{Content, window_bytes}
use Rattle.block_codec.specs.Blocks.{BlockView}
use Rattle.block_loop.specs.Loop.{IsLoop}
use Rattle.image_def.specs.declared.started.Started.{Started}
use Rattle.otp_roll.specs.Rows.{majority}
use Rattle.part_table.specs.TableOf.{has_table}
use Rattle.slot_choice.specs.declared.choice.Choice.{Choice}
use Rattle.boot_rules.specs.declared.decision.Decision.{Decision}
use Rattle.boot_rules.specs.declared.decision.Decision.TheVariants.{Start}
use Rattle.slot_caveats.specs.declared.caveat.Caveat.{Caveat}
use Rattle.slot_caveats.specs.declared.caveat.Caveat.TheVariants.{TableInImage, RollbackRows, RollbackFull, RollbackGap}
use Rattle.slot_caveats.specs.Listing.{AreBoth, IsFirstWith, IsOfOne}
use Rattle.boot_caveats.specs.ChoiceRules.{StartsIn}

-- a block of the loop of a window has a PARTITION_TABLE item; the first such block in loop order
-- stands at this offset
pub record HasTableAt (bytes : List ℕ) (at : ℕ) : Type 0 where
  pub loop : List BlockView
  pub block : BlockView
  pub closes : IsLoop bytes loop
  pub first : IsFirstWith has_table loop block
  pub place : block.at ≡ at

-- the decision is a start, and the loop of its window has a table
abbrev pub IsTableInImage : Content → Decision → List Caveat → Type 0
IsTableInImage c d =
    IsOfOne
    (λ (place : Window × ℕ). StartsIn d place.0 × HasTableAt (window_bytes c place.0) place.1)
    (λ place. TableInImage place.0 place.1)

-- the decision is a start of an image that lists rows
pub record StartsWithRows (d : Decision) (s : Started) : Type 0 where
  pub choice : Choice
  pub starts : d ≡ Start choice
  pub image : choice.image ≡ s
  pub lists : s.rows.items ≢ []

-- the decision is such a start in a window
abbrev pub IsRollbackRows : Decision → List Caveat → Type 0
IsRollbackRows d =
    IsOfOne (λ w. (s : Started) × StartsWithRows d s × (s.window ≡ w)) RollbackRows

-- the decision is such a start, and the image's rollback version is 24 times the number of its
-- rows
abbrev pub IsRollbackFull : Decision → List Caveat → Type 0
IsRollbackFull d =
    IsOfOne
    (λ w. (s : Started) × StartsWithRows d s × (s.rollback ≡ Some (24 * length s.rows.items))
    × (s.window ≡ w)) RollbackFull

-- the majority of a row and the two after it is one less than a power of two; it has 24 bits
abbrev pub IsFilled : List ℕ → ℕ → Type 0
IsFilled otp row = (k : ℕ) × (k ≤ 24) × (majority otp row + 1 ≡ 2 ^ k)

-- the row is the first, in listed order, whose majority is not one less than a power of two
pub record IsFirstGap (otp rows : List ℕ) (row : ℕ) : Type 0 where
  pub before : List ℕ
  pub behind : List ℕ
  pub whole : rows ≡ before ++ row ∷ behind
  pub here : IsFilled otp row → ⊥
  pub earlier : AllByRecursion (λ r. IsFilled otp r) before

-- the decision is such a start, and this is the first such row
abbrev pub IsRollbackGap : List ℕ → Decision → List Caveat → Type 0
IsRollbackGap otp d =
    IsOfOne (λ row. (s : Started) × StartsWithRows d s × IsFirstGap otp s.rows.items row)
    RollbackGap

-- the three caveats of the rows of the image that starts
abbrev pub AreRowCaveats : List ℕ → Decision → List Caveat → Type 0
AreRowCaveats otp d =
    AreBoth (IsRollbackRows d) (AreBoth (IsRollbackFull d) (IsRollbackGap otp d))
