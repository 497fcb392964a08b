-- The answers of cuts in the words of their rule.
use Rattle.std.specs.Prelude.{⊤, List, [], ◌∷◌}
use Rattle.pico_board.specs.declared.boot.Cpu.{Cpu}
use Rattle.pico_board.specs.declared.boot.BootKind.TheVariants.{Normal}
use Rattle.pico_board.specs.Content.{Content}
use Rattle.boot_rules.specs.Chosen.{Chosen}
use Rattle.boot_sweep.specs.Moving.{MoveView}
use Rattle.boot_cuts.specs.declared.answers.Answer.{Answer}
use Rattle.boot_cuts.specs.Classes.{IsClass}

-- the answer of a cut that leaves d, in a script that leads from c to z with these moves. It is
-- the decision of a normal boot on d, and the class by its six sentences.
pub record IsAnswer (c z : Content) (moves : List MoveView) (cpu : Cpu) (d : Content)
    (answer : Answer) : Type 0 where
  pub decision : Chosen d cpu Normal answer.decision
  pub class : IsClass c z moves d cpu answer.class

-- the answers of cuts that leave these contents, in their order
abbrev pub AreAnswers : Content → Content → List MoveView → Cpu → List Content → List Answer
    → Type 0
AreAnswers c z moves cpu [] [] = ⊤
AreAnswers c z moves cpu [] (answer ∷ answers) = ⊥
AreAnswers c z moves cpu (d ∷ contents) [] = ⊥
AreAnswers c z moves cpu (d ∷ contents) (answer ∷ answers) =
    IsAnswer c z moves cpu d answer × AreAnswers c z moves cpu contents answers
