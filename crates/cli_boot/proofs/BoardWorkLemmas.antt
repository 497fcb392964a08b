-- The work of the commands on a board is right by the rules.
use Rattle.std.proofs.Common.{◌≡◌, ℕ, ◌∙◌, Bool, true, false, List, [], ◌∷◌, ◌++◌, Result, Ok, Err, refl, sym, ap, subst, inl, inr}
use Rattle.std.specs.Prelude.{⊤}
use Rattle.std.specs.List.{flat_map}
use Rattle.pico_board.specs.declared.boot.Cpu.{Cpu}
use Rattle.pico_board.specs.declared.boot.BootKind.{BootKind}
use Rattle.pico_board.specs.declared.window.Window.{Window}
use Rattle.pico_board.specs.Content.{Content, window_bytes}
use Rattle.image_def.specs.declared.started.Started.{Started}
use Rattle.image_check.specs.declared.why.Why.{Why}
use Rattle.image_check.specs.Addressing.{in_flash}
use Rattle.image_check.specs.Image.{image_at}
use Rattle.image_check.proofs.LawLemmas.{valid-at, at-valid, answered-why, why-exactly}
use Rattle.boot_rules.specs.declared.decision.Decision.{Decision}
use Rattle.boot_rules.specs.declared.decision.Decision.TheVariants.{Start, Bootsel as FallsToBootsel}
use Rattle.boot_rules.specs.Tables.{table_in}
use Rattle.boot_rules.specs.Choosing.{decision_in}
use Rattle.boot_rules.specs.Chosen.{Chosen}
use Rattle.boot_rules.proofs.DecisionLemmas.{decision-chosen, chosen-decision, chosen-not_below}
use Rattle.cli_course.specs.declared.status.Status.TheVariants.{Done, Input as Refused}
use Rattle.cli_course.specs.Outcomes.{AnswerView, answered_status, line, worked}
use Rattle.text_lines.specs.Texts.{decision_line, image_text, table_text}
use Rattle.cli_inputs.specs.Rules.{IsByRules}
use Rattle.cli_inputs.proofs.WorkLemmas.{same-outcome, never-refuses}
use Rattle.cli_boot.specs.Works.{is_fall, boot_work, info_work, data_work, window_line, windows_in, decided_data, data_line}
use Rattle.cli_boot.specs.Rules.{decided_status, IsBootOutcome, IsLineOf, AreLinesOf, IsInfoOutcome, IsDataOutcome}

-- a decision's outcome
abbrev pub decided : Decision → AnswerView
decided d = record { status = decided_status d; text = decision_line d; files = [] }

pub fall-status : (d : Decision) → answered_status (is_fall d) ≡ decided_status d
fall-status (Start choice) = refl
fall-status (FallsToBootsel fall) = refl

pub worked-decided : (c : Content) (cpu : Cpu) (kind : BootKind)
    → worked (boot_work c cpu kind) ≡ decided (decision_in c cpu kind)
worked-decided c cpu kind =
    ap (λ s. record { status = s; text = decision_line (decision_in c cpu kind); files = [] })
    (fall-status (decision_in c cpu kind))

boot-right : (c : Content) (cpu : Cpu) (kind : BootKind) → IsBootOutcome c cpu kind (worked (boot_work c cpu kind))
boot-right c cpu kind = record {
  decision = decision_in c cpu kind;
  chosen = decision-chosen c cpu kind;
  above = λ choice starts. chosen-not_below c cpu kind choice
      (subst (λ (d : Decision). Chosen c cpu kind d) starts (decision-chosen c cpu kind));
  status = fall-status (decision_in c cpu kind);
  text = refl;
  files = refl;
}

data-right : (c : Content) (cpu : Cpu) (kind : BootKind) → IsDataOutcome c cpu kind (worked (data_work c cpu kind))
data-right c cpu kind = record {
  decision = decision_in c cpu kind;
  chosen = decision-chosen c cpu kind;
  status = fall-status (decision_in c cpu kind);
  text = refl;
  files = refl;
}

line-right : (c : Content) (cpu : Cpu) (w : Window) → IsLineOf c cpu w (window_line c cpu w)
line-right c cpu w = go (image_at c w cpu false) refl
  where
    go : (r : Result Started Why) → image_at c w cpu false ≡ r → IsLineOf c cpu w (window_line c cpu w)
    go (Ok s) is = inl (s, valid-at c w cpu false s is, ap (λ r. line (image_text w r)) is)
    go (Err y) is =
        inr (y, answered-why in_flash w cpu false c.otp (window_bytes c w) y is, ap (λ r. line (image_text w r)) is)

lines-right : (c : Content) (cpu : Cpu) (ws : List Window) → AreLinesOf c cpu ws (flat_map (window_line c cpu) ws)
lines-right c cpu [] = refl
lines-right c cpu (w ∷ ws) =
    (window_line c cpu w, flat_map (window_line c cpu) ws, line-right c cpu w, lines-right c cpu ws, refl)

info-right : (c : Content) (cpu : Cpu) → IsInfoOutcome c cpu (worked (info_work c cpu))
info-right c cpu = record {
  lines = flat_map (window_line c cpu) (windows_in c cpu);
  windows = lines-right c cpu (windows_in c cpu);
  status = refl;
  text = refl;
  files = refl;
}

boot-only : (c : Content) (cpu : Cpu) (kind : BootKind) (o : AnswerView) → IsBootOutcome c cpu kind o
    → o ≡ worked (boot_work c cpu kind)
boot-only c cpu kind o right =
    same-outcome o (decided_status right.decision) (decision_line right.decision) [] right.status right.text right.files
    ∙ (ap decided (chosen-decision c cpu kind right.decision right.chosen) ∙ sym (worked-decided c cpu kind))

line-only : (c : Content) (cpu : Cpu) (w : Window) (text : List ℕ) → IsLineOf c cpu w text → text ≡ window_line c cpu w
line-only c cpu w text (inl (s, valid, is)) =
    is ∙ sym (ap (λ r. line (image_text w r)) (at-valid c w cpu false s valid))
line-only c cpu w text (inr (why, not, is)) =
    is ∙ sym (ap (λ r. line (image_text w r)) ((why-exactly in_flash w cpu false c.otp (window_bytes c w) why).0 not))

lines-only : (c : Content) (cpu : Cpu) (ws : List Window) (text : List ℕ) → AreLinesOf c cpu ws text
    → text ≡ flat_map (window_line c cpu) ws
lines-only c cpu [] text is = is
lines-only c cpu (w ∷ ws) text (first, rest, one, others, is) =
    is ∙ (ap (λ x. x ++ rest) (line-only c cpu w first one) ∙ ap (λ x. window_line c cpu w ++ x)
    (lines-only c cpu ws rest others))

info-only : (c : Content) (cpu : Cpu) (o : AnswerView) → IsInfoOutcome c cpu o → o ≡ worked (info_work c cpu)
info-only c cpu o right =
    same-outcome o Done _ [] right.status
    (right.text ∙ ap (λ x. line (table_text (table_in c)) ++ x)
    (lines-only c cpu (windows_in c cpu) right.lines right.windows)) right.files

-- the outcome of data by its decision
told-data : Content → Decision → AnswerView
told-data c d =
    record { status = decided_status d; text = decision_line d ++ flat_map data_line (decided_data c d); files = [] }

data-only : (c : Content) (cpu : Cpu) (kind : BootKind) (o : AnswerView) → IsDataOutcome c cpu kind o
    → o ≡ worked (data_work c cpu kind)
unfolding told-data
data-only c cpu kind o right =
    same-outcome o (decided_status right.decision) _ [] right.status right.text right.files
    ∙ (ap (told-data c) (chosen-decision c cpu kind right.decision right.chosen)
    ∙ sym (ap
    (λ s. record {
      status = s;
      text = decision_line (decision_in c cpu kind) ++ flat_map data_line (decided_data c (decision_in c cpu kind));
      files = [];
    }) (fall-status (decision_in c cpu kind))))

-- an answer is no refusal
pub answer-not_refused : (falls : Bool) → answered_status falls ≡ Refused → ⊥
answer-not_refused true h = cc
answer-not_refused false h = cc

-- `boot`, `info` and `data` are right by their rules
pub boot-works : (c : Content) (cpu : Cpu) (kind : BootKind)
    → IsByRules ⊤ (boot_work c cpu kind) (λ name fault. ⊥) (IsBootOutcome c cpu kind)
boot-works c cpu kind =
    never-refuses ⊤ (boot_work c cpu kind) (IsBootOutcome c cpu kind) (λ need. boot-right c cpu kind)
    (boot-only c cpu kind) (answer-not_refused (is_fall (decision_in c cpu kind)))

pub info-works : (c : Content) (cpu : Cpu)
    → IsByRules ⊤ (info_work c cpu) (λ name fault. ⊥) (IsInfoOutcome c cpu)
info-works c cpu =
    never-refuses ⊤ (info_work c cpu) (IsInfoOutcome c cpu) (λ need. info-right c cpu) (info-only c cpu) (λ h. cc)

pub data-works : (c : Content) (cpu : Cpu) (kind : BootKind)
    → IsByRules ⊤ (data_work c cpu kind) (λ name fault. ⊥) (IsDataOutcome c cpu kind)
data-works c cpu kind =
    never-refuses ⊤ (data_work c cpu kind) (IsDataOutcome c cpu kind) (λ need. data-right c cpu kind)
    (data-only c cpu kind) (answer-not_refused (is_fall (decision_in c cpu kind)))
