-- The answer of a cut, and the answers of the cuts of a script.
use Rattle.std.specs.Prelude.{ℕ, List, map}
use Rattle.pico_board.specs.declared.Step.{Step}
use Rattle.pico_board.specs.declared.boot.Cpu.{Cpu}
use Rattle.pico_board.specs.declared.boot.BootKind.TheVariants.{Normal}
use Rattle.pico_board.specs.Content.{Content}
use Rattle.boot_rules.specs.Choosing.{decision_in}
use Rattle.boot_script.specs.Events.{EventView}
use Rattle.boot_cuts.specs.declared.answers.Answer.{Answer}
use Rattle.boot_cuts.specs.Classing.{class_of}
use Rattle.boot_cuts.specs.Contents.{cut_contents}
use Rattle.boot_cuts.specs.Tears.{left_torn}
use Rattle.boot_tape.specs.Traces.{Trace, trace}

-- the answer of a cut that leaves d, in a script that leads from c to z and leaves these steps
-- torn. It is its class, and the decision of a normal boot on d.
abbrev pub answer_of : Content → Content → List Step → Cpu → Content → Answer
answer_of c z torn cpu d = record {
  class = class_of c z torn cpu d;
  decision = decision_in d cpu Normal;
}

-- the answers of the cuts of a trace from the content c on, in their order
abbrev pub answers_of : Content → Cpu → List ℕ → Trace → List Answer
answers_of c cpu pattern t =
    map (answer_of c t.last (left_torn t.moves) cpu) (cut_contents pattern t.done)

-- the answers of the cuts of a script
abbrev pub answers : Content → Cpu → List EventView → List ℕ → List Answer
answers c cpu events pattern = answers_of c cpu pattern (trace c cpu events)

-- the answer of the content that the script leaves
abbrev pub end_answer : Content → Cpu → List EventView → Answer
end_answer c cpu events =
    answer_of c (trace c cpu events).last (left_torn (trace c cpu events).moves) cpu
    (trace c cpu events).last
