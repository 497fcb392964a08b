-- What a download stands for, and what `accept` leaves of it.
use Rattle.std.specs.Prelude.{◌≡◌, ◌≢◌, Bool, true, false, ◌≤◌, if◌then◌else◌, Result, Ok, Err, Option, None, Some, List, [], ◌∷◌, ◌++◌, length}
use Rattle.pico_board.specs.declared.Step.{Step}
use Rattle.pico_board.specs.Board.{State, DoesAll}
use Rattle.part_table.specs.declared.Target.{Target}
use Rattle.sector_pool.specs.Pool.{Pool}
use Rattle.uf2_place.specs.declared.block.Uf2.{Uf2}
use Rattle.uf2_place.specs.declared.answer.Accepted.{Accepted}
use Rattle.uf2_place.specs.declared.answer.Accepted.TheVariants.{Taken, Done}
use Rattle.uf2_place.specs.declared.answer.PlaceFault.{PlaceFault}
use Rattle.uf2_place.specs.declared.answer.PlaceFault.TheVariants.{PowerLost}
use Rattle.part_table.specs.declared.Table.{Table}
use Rattle.uf2_place.specs.declared.answer.Ruling.{Ruling}
use Rattle.uf2_place.specs.declared.answer.Ruling.TheVariants.{Answered}
use Rattle.uf2_place.specs.Rulings.{ruling}
use Rattle.uf2_place.specs.declared.current.Current.{Current}
use Rattle.uf2_place.specs.Downloads.{Follows}
use Rattle.uf2_place.specs.Marks.{MarksView}
use Rattle.uf2_place.specs.Placement.{grown, is_whole_download}

-- what contracts see of a download: the current one, where there is one; which numbers it has
-- taken; and which sectors it has erased
pub record DownloadView : Type 0 where
  pub current : Option Current
  pub marks : MarksView

-- the download stands for the blocks: it has begun into this target and is not done, so there is a
-- block and more are to come; what is kept of the download is what the blocks make of it
pub record StandsFor (d : DownloadView) (pool : Pool) (t : Target)
    (blocks : List Uf2) : Type 0 where
  pub some : blocks ≢ []
  pub current : Current
  pub is : d.current ≡ Some current
  pub target : current.target ≡ t
  pub more : 1 ≤ current.left
  pub follows : Follows pool d.marks current blocks

-- the ruling on a block by what the download keeps and the flash of the board
abbrev pub rules : State → Option Table → Option Target → DownloadView → Uf2 → Ruling
rules s table given d b = ruling (length s.content.flash) table given d.marks.numbers d.current b

-- an answer that the ruling gives at once, and that leaves everything as it was
abbrev pub AnswersAtOnce : Ruling → Result Accepted PlaceFault → Type 0 → Type 0
AnswersAtOnce ruling answer Unchanged =
    (early : Result Accepted PlaceFault) → ruling ≡ Answered early → (answer ≡ early) × Unchanged

-- the answer does not say that power was lost
abbrev pub has_power : Result Accepted PlaceFault → Bool
has_power (Err PowerLost) = false
has_power answer = true

-- the answer after the steps of the blocks are done, or power was lost in them
abbrev pub answer_after : Bool → Target → List Uf2 → Result Accepted PlaceFault
answer_after true t blocks = if is_whole_download blocks then Ok (Done t) else Ok Taken
answer_after false t blocks = Err PowerLost

-- The list of the former blocks has one block more. The board does the steps that this adds, all
-- of them or until power is lost. Where more blocks are to come the download then stands for the
-- new list. Where the download is done or power was lost, none is current.
pub record Places {B : Type 0} (state : B → State) (history : B → List Step → Type 0) (t : Target)
    (former : List Uf2) (b : Uf2) (old : B) (answer : Result Accepted PlaceFault) (new : B)
    (d : DownloadView) (pool : Pool) : Type 0 where
  pub steps : DoesAll state history old (grown t former (former ++ b ∷ [])) (has_power answer) new
  pub answered : answer ≡ answer_after (has_power answer) t (former ++ b ∷ [])
  pub taken : answer ≡ Ok Taken → StandsFor d pool t (former ++ b ∷ [])
  pub ended : answer ≢ Ok Taken → d.current ≡ None
