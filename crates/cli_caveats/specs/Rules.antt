-- What is right for `caveats`, by the rules.
use Rattle.std.specs.Prelude.{◌≡◌, List, []}
use Rattle.pico_board.specs.declared.boot.Cpu.{Cpu}
use Rattle.pico_board.specs.declared.boot.BootKind.{BootKind}
use Rattle.pico_board.specs.Content.{Content}
use Rattle.boot_rules.specs.declared.decision.Decision.{Decision}
use Rattle.boot_rules.specs.Chosen.{Chosen}
use Rattle.slot_caveats.specs.declared.caveat.Caveat.{Caveat}
use Rattle.boot_caveats.specs.Rules.{AreCaveats}
use Rattle.cli_course.specs.Outcomes.{AnswerView}
use Rattle.cli_boot.specs.Rules.{decided_status}
use Rattle.cli_caveats.specs.Texts.{caveats_text}

-- `caveats`: the outcome prints the one decision that the rules name, and then exactly the caveats
-- whose conditions hold, in their order
pub record IsCaveatsOf (c : Content) (cpu : Cpu) (kind : BootKind) (o : AnswerView) : Type 0 where
  pub decision : Decision
  pub caveats : List Caveat
  pub chosen : Chosen c cpu kind decision
  pub listed : AreCaveats c cpu kind caveats
  pub status : o.status ≡ decided_status decision
  pub text : o.text ≡ caveats_text decision caveats
  pub files : o.files ≡ []
