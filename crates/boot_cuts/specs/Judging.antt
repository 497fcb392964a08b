-- Where a script leads from and to.
use Rattle.std.specs.Prelude.{◌≡◌, ℕ, IsTrue, List, map, length}
use Rattle.pico_board.specs.declared.boot.BootKind.TheVariants.{Normal}
use Rattle.pico_board.specs.Content.{Content}
use Rattle.pico_board.specs.MemBoard.{state_of}
use Rattle.boot_rules.specs.Choosing.{decision_in}
use Rattle.boot_cuts.specs.declared.answers.Answer.{Answer}
use Rattle.boot_cuts.specs.declared.judging.Ends.{Ends}
use Rattle.boot_cuts.specs.Answers.{answer_of}
use Rattle.boot_cuts.specs.Contents.{cut_contents}
use Rattle.boot_cuts.specs.Standings.{AreStanding}
use Rattle.boot_tape.specs.Moving.{MoveView, traced_by}

-- both boards have power and a flash of this length, and the decisions and the images that stand in
-- windows are theirs
pub record AreEnds (ends : Ends) (long : ℕ) : Type 0 where
  pub start_power : IsTrue (state_of ends.start.now).powered
  pub end_power : IsTrue (state_of ends.ends.board.now).powered
  pub start_long : length (state_of ends.start.now).content.flash ≡ long
  pub end_long : length (state_of ends.ends.board.now).content.flash ≡ long
  pub former : ends.ends.former ≡ decision_in (state_of ends.start.now).content ends.ends.cpu Normal
  pub finished : ends.ends.finished
      ≡ decision_in (state_of ends.ends.board.now).content ends.ends.cpu Normal
  pub stood : AreStanding (state_of ends.start.now).content ends.ends.cpu ends.stood.now
  pub left : AreStanding (state_of ends.ends.board.now).content ends.ends.cpu ends.left.now

-- the answer on a content
abbrev pub judge : Ends → Content → Answer
judge ends d =
    answer_of (state_of ends.start.now).content (state_of ends.ends.board.now).content
    ends.torn.now ends.ends.cpu d

-- the answers of the cuts of what a script does, from the content c on
abbrev pub told_answers : Ends → List ℕ → Content → List MoveView → List Answer
told_answers ends pattern c moves = map (judge ends) (cut_contents pattern (traced_by c moves))
