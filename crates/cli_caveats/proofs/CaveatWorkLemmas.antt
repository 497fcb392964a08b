-- The work of `caveats` is right by the rules.
use Rattle.std.proofs.Common.{◌≡◌, ℕ, List, [], refl, sym, ap, ◌∙◌}
use Rattle.std.specs.Prelude.{⊤, ◌++◌}
use Rattle.std.specs.List.{flat_map}
use Rattle.pico_board.specs.Files.{File}
use Rattle.boot_rules.specs.Chosen.{Chosen}
use Rattle.cli_course.specs.declared.status.Status.{Status}
use Rattle.text_lines.specs.Texts.{decision_line}
use Rattle.pico_board.specs.declared.boot.Cpu.{Cpu}
use Rattle.pico_board.specs.declared.boot.BootKind.{BootKind}
use Rattle.pico_board.specs.Content.{Content}
use Rattle.boot_rules.specs.declared.decision.Decision.{Decision}
use Rattle.boot_rules.specs.Choosing.{decision_in}
use Rattle.boot_rules.proofs.DecisionLemmas.{chosen-decision, decision-chosen}
use Rattle.slot_caveats.specs.declared.caveat.Caveat.{Caveat}
use Rattle.boot_caveats.specs.Caveats.{caveats_in}
use Rattle.boot_caveats.proofs.CaveatLemmas.{caveats-only, caveats-right}
use Rattle.cli_course.specs.Outcomes.{AnswerView, answered_status, worked}
use Rattle.cli_inputs.specs.Rules.{IsByRules}
use Rattle.cli_inputs.proofs.WorkLemmas.{same-outcome, never-refuses}
use Rattle.cli_boot.specs.Works.{is_fall}
use Rattle.cli_boot.specs.Rules.{decided_status}
use Rattle.cli_boot.proofs.BoardWorkLemmas.{answer-not_refused, fall-status}
use Rattle.cli_caveats.specs.Rules.{IsCaveatsOf}
use Rattle.cli_caveats.specs.Texts.{caveat_line, caveats_text}
use Rattle.cli_caveats.specs.Works.{caveats_work}

caveats-right-of : (c : Content) (cpu : Cpu) (kind : BootKind)
    → IsCaveatsOf c cpu kind (worked (caveats_work c cpu kind))
caveats-right-of c cpu kind = record {
  decision = decision_in c cpu kind;
  caveats = caveats_in c cpu kind;
  chosen = decision-chosen c cpu kind;
  listed = caveats-right c cpu kind;
  status = fall-status (decision_in c cpu kind);
  text = refl;
  files = refl;
}

-- an outcome with this decision and these caveats
told : Decision → List Caveat → AnswerView
told d list = record { status = decided_status d; text = caveats_text d list; files = [] }

caveats-only-of : (c : Content) (cpu : Cpu) (kind : BootKind) (o : AnswerView) → IsCaveatsOf c cpu kind o
    → o ≡ worked (caveats_work c cpu kind)
unfolding told
caveats-only-of c cpu kind o right =
    same-outcome o (decided_status right.decision) (caveats_text right.decision right.caveats) [] right.status
    right.text
    right.files
    ∙ (ap (λ d. told d right.caveats) (chosen-decision c cpu kind right.decision right.chosen)
    ∙ (ap (told (decision_in c cpu kind)) (caveats-only c cpu kind right.caveats right.listed)
    ∙ sym (ap
    (λ s. record { status = s; text = caveats_text (decision_in c cpu kind) (caveats_in c cpu kind); files = [] })
    (fall-status (decision_in c cpu kind)))))

-- `caveats` is right by its rules
pub caveats-works : (c : Content) (cpu : Cpu) (kind : BootKind)
    → IsByRules ⊤ (caveats_work c cpu kind) (λ name fault. ⊥) (IsCaveatsOf c cpu kind)
caveats-works c cpu kind =
    never-refuses ⊤ (caveats_work c cpu kind) (IsCaveatsOf c cpu kind) (λ need. caveats-right-of c cpu kind)
    (caveats-only-of c cpu kind) (answer-not_refused (is_fall (decision_in c cpu kind)))

-- an outcome by what its parts are
pub answered : (c : Content) (cpu : Cpu) (kind : BootKind) (s : Status) (text lines : List ℕ) (files : List File)
    (d : Decision) (list : List Caveat) → s ≡ answered_status (is_fall d) → text ≡ decision_line d ++ lines
    → lines ≡ flat_map caveat_line list → files ≡ [] → Chosen c cpu kind d → list ≡ caveats_in c cpu kind
    → record { status = s; text = text; files = files } ≡ worked (caveats_work c cpu kind)
answered c cpu kind s text lines files d list e0 e1 e2 e3 chosen e5 =
    same-outcome (record { status = s; text = text; files = files }) (answered_status (is_fall d))
    (caveats_text d list) []
    e0 (e1 ∙ ap (λ l. decision_line d ++ l) e2) e3
    ∙ (ap (λ x. record { status = answered_status (is_fall x); text = caveats_text x list; files = [] })
    (chosen-decision c cpu kind d chosen)
    ∙ ap (λ x. record {
      status = answered_status (is_fall (decision_in c cpu kind));
      text = caveats_text (decision_in c cpu kind) x;
      files = [];
    }) e5)
