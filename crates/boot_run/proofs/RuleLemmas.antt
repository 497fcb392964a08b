-- The outcome of each command is right by the rules, and no other is.
use Rattle.std.proofs.Common.{◌≡◌, ◌↔◌, ℕ, ◌==◌, Bool, true, false, cond, List, [], ◌∷◌, length, Option, Some, None, refl, sym, ◌∙◌, ap, subst, Result, Ok, Err, arith}
use Rattle.std.specs.Prelude.{⊤, nat_lt}
use Rattle.pico_board.specs.declared.boot.Cpu.{Cpu}
use Rattle.pico_board.specs.declared.boot.BootKind.{BootKind}
use Rattle.pico_board.specs.Content.{Content}
use Rattle.pico_board.specs.Files.{File}
use Rattle.boot_rules.specs.declared.decision.Decision.{Decision}
use Rattle.boot_rules.specs.declared.decision.Decision.TheVariants.{Start, Bootsel as FallsToBootsel}
use Rattle.boot_rules.specs.Choosing.{decision_in}
use Rattle.boot_rules.specs.Chosen.{Chosen}
use Rattle.boot_rules.proofs.DecisionLemmas.{decision-chosen, chosen-decision}
use Rattle.cli_course.specs.declared.status.Status.TheVariants.{Input as Refused, Bootsel}
use Rattle.cli_course.specs.Outcomes.{AreOfBytes, AnswerView, Answers, found, outcome_found, Work, Refuses, Judges, worked}
use Rattle.cli_course.proofs.ReadLemmas.{found-long}
use Rattle.cli_words.specs.Rows.{CommandLineView, command_line, Boot}
use Rattle.cli_words.specs.declared.rows.Verb.{Verb}
use Rattle.cli_words.specs.declared.rows.Verb.TheVariants as verbs
use Rattle.cli_words.specs.Values.{ValuesView}
use Rattle.cli_words.specs.Usages.{usage_text, help_text, release_line}
use Rattle.cli_inputs.specs.declared.forms.Form.TheVariants.{Flash, Otp, OtpText}
use Rattle.cli_inputs.specs.Forms.{HasForm, content_of_files}
use Rattle.cli_inputs.specs.Inputs.{readings, first_input_fault, unless_refused}
use Rattle.cli_inputs.specs.Rules.{AreFormed, IsByRules}
use Rattle.cli_inputs.proofs.ContentLemmas.{formed-content}
use Rattle.cli_inputs.proofs.InputLemmas.{Judged, all_formed, one_faulty, judged-first, formed-none, readings-long}
use Rattle.cli_inputs.specs.Jsons.{otp_read, spec_read, table_read}
use Rattle.cli_inputs.proofs.JsonLemmas.{otp-gives}
use Rattle.cli_inputs.proofs.WorkLemmas.{work-obeys, work-only, work-refused, never-refuses, needs-more, formed-long, of-one, of-two, of-three, of-four}
use Rattle.cli_boot.specs.Rules.{decided_status}
use Rattle.cli_boot.proofs.BoardWorkLemmas.{boot-works, info-works, data-works}
use Rattle.cli_explain.proofs.ReasonWorkLemmas.{explain-works}
use Rattle.cli_check.proofs.CheckRuleLemmas.{asked-works, check-works}
use Rattle.check_require.specs.Requires.{default_require}
use Rattle.cli_check.proofs.CutsRuleLemmas.{cuts-works}
use Rattle.cli_caveats.proofs.CaveatWorkLemmas.{caveats-works}
use Rattle.cli_map.proofs.MapWorkLemmas.{map-works}
use Rattle.cli_otp.proofs.OtpWorkLemmas.{otp-works}
use Rattle.cli_scripts.proofs.ReplayRuleLemmas.{replay-works}
use Rattle.cli_sweep.proofs.ChartRuleLemmas.{chart-works}
use Rattle.cli_sweep.proofs.FirmRuleLemmas.{firm-works}
use Rattle.cli_sweep.proofs.SweepRuleLemmas.{sweep-works}
use Rattle.cli_scripts.proofs.CopyRuleLemmas.{copy-works}
use Rattle.cli_scripts.proofs.TextRuleLemmas.{list-works, write-works}
use Rattle.cli_tools.proofs.ElfLemmas.{elf-works}
use Rattle.cli_tools.proofs.SealCaseLemmas.{seal-works, table-works}
use Rattle.cli_tools.proofs.ToolLemmas.{uf2-works, script-works, gen-works}
use Rattle.cli_stage.proofs.StageRuleLemmas.{stage-works}
use Rattle.boot_run.specs.Inputs.{inputs_of}
use Rattle.boot_run.specs.Commands.{row_work, work_of, command_outcome, outcome_on, IsRefusedCommand, Asks, needs_bytes, NeedsBytes, judges, is_verdict, IsRefusedWork, IsRowRefused, IsRight, IsRowRight, Tells, Obeys, FallsOn}
use Rattle.part_table.specs.declared.target.Target.{Target}
use Rattle.script_plan.specs.declared.writing.WriteOrder.{WriteOrder}
use Rattle.script_plan.specs.declared.writing.WriteOrder.TheVariants.{FirstLast, Ascending}
use Rattle.cli_otp.specs.OtpWords.{otp_work}
use Rattle.cli_scripts.specs.TextWorks.{read_work}
use Rattle.cli_sweep.specs.ChartWorks.{drawn_work}
use Rattle.cli_sweep.specs.FirmWorks.{firm_work, judged_work as firm_judged}
use Rattle.cli_sweep.specs.SweepWorks.{swept_work}
use Rattle.cli_tools.specs.Elfs.{elf_work, packed_work}
use Rattle.cli_tools.specs.Tools.{seal_work, table_work, judged_work as seal_judged}
use Rattle.cli_tools.specs.ToolWorks.{target_work}
use Rattle.cli_stage.specs.StageWorks.{file_work, judged_work as stage_judged, stage_work, target_work as stage_target}

-- a told text is right
told-works : (text : List ℕ) → IsByRules ⊤ (Answers false text []) (λ name fault. ⊥) (Tells text)
told-works text = never-refuses ⊤ (Answers false text []) (Tells text) (λ need. refl) (λ o right. right) (λ h. cc)

-- what holds of five inputs
of-five : (P : List (List ℕ) → Type 0) → ((a b c d e : List ℕ) → P (a ∷ b ∷ c ∷ d ∷ e ∷ [])) → (read : List (List ℕ))
    → length read ≡ 5 → P read
of-five P all [] long = absurd (omega arith)
of-five P all (a ∷ read) long = of-four (λ rest. P (a ∷ rest)) (all a) read (omega arith)

-- on inputs that have their forms the work of a row's command is right by the rules
abbrev IsRowRuled : Verb → ValuesView → List (List ℕ) → Type 0
IsRowRuled verb v read =
    AreFormed (inputs_of (command_line verb v)) read
    → IsByRules (NeedsBytes (command_line verb v) read) (row_work verb v read) (IsRowRefused verb v read)
    (IsRowRight verb v read)

row-works : (verb : Verb) (v : ValuesView) (read : List (List ℕ)) → length read ≡ length (inputs_of (command_line verb v))
    → IsRowRuled verb v read
row-works verbs.Boot v = of-two (IsRowRuled verbs.Boot v) (λ f g all. boot-works (content_of_files f g) v.cpu v.kind)
row-works verbs.Info v = of-two (IsRowRuled verbs.Info v) (λ f g all. info-works (content_of_files f g) v.cpu)
row-works verbs.OwnedData v =
    of-two (IsRowRuled verbs.OwnedData v) (λ f g all. data-works (content_of_files f g) v.cpu v.kind)
row-works verbs.Explain v =
    of-two (IsRowRuled verbs.Explain v) (λ f g all. explain-works (content_of_files f g) v.cpu v.kind)
row-works verbs.Caveats v =
    of-two (IsRowRuled verbs.Caveats v) (λ f g all. caveats-works (content_of_files f g) v.cpu v.kind)
row-works verbs.Map v =
    of-two (IsRowRuled verbs.Map v) (λ f g all.
    needs-more (λ (small : AreOfBytes (f ∷ g ∷ [])). formed-content f g all.0 all.1.0 small.0)
    (map-works (content_of_files f g) v.cpu v.out))
row-works verbs.Replay v =
    of-three (IsRowRuled verbs.Replay v) (λ f g s all.
    needs-more (λ (small : AreOfBytes (f ∷ g ∷ s ∷ [])). (small.0, small.1.1.0))
    (replay-works f g s v.out_flash v.out_otp v.cpu all.1.1.0))
row-works verbs.Sweep v =
    of-four (IsRowRuled verbs.Sweep v) (λ f g s p all.
    needs-more (λ (small : AreOfBytes (f ∷ g ∷ s ∷ p ∷ [])).
    (formed-content f g all.0 all.1.0 small.0, small.1.1.1.0))
    (sweep-works (content_of_files f g) v.cpu v.file s p))
row-works verbs.Chart v =
    of-four (IsRowRuled verbs.Chart v) (λ f g s p all.
    needs-more (λ (small : AreOfBytes (f ∷ g ∷ s ∷ p ∷ [])). formed-content f g all.0 all.1.0 small.0)
    (chart-works (content_of_files f g) v.cpu v.file v.out s p))
row-works verbs.Cuts v =
    of-four (IsRowRuled verbs.Cuts v) (λ f g s p all.
    cuts-works (content_of_files f g) v.cpu v.file s p all.1.1.0)
row-works verbs.Check v =
    of-four (IsRowRuled verbs.Check v) (λ f g s p all.
    needs-more (λ (small : AreOfBytes (f ∷ g ∷ s ∷ p ∷ [])). formed-content f g all.0 all.1.0 small.0)
    (check-works (content_of_files f g) v.cpu v.file s p default_require))
row-works verbs.CheckAsked v =
    of-five (IsRowRuled verbs.CheckAsked v) (λ f g s p r all.
    needs-more (λ (small : AreOfBytes (f ∷ g ∷ s ∷ p ∷ r ∷ [])). formed-content f g all.0 all.1.0 small.0)
    (asked-works (content_of_files f g) v.cpu v.file s p r all.1.1.1.1.0))
row-works verbs.Seal v =
    of-two (IsRowRuled verbs.Seal v) (λ b s all. seal-works v.file v.spec v.out b s all.1.0)
row-works verbs.Elf v =
    of-two (IsRowRuled verbs.Elf v) (λ e s all.
    needs-more (λ (small : AreOfBytes (e ∷ s ∷ [])). small.0) (elf-works v.file v.spec v.out e s all.1.0))
row-works verbs.Firm v = of-one (IsRowRuled verbs.Firm v) (λ i all. firm-works v.file i v.cpu)
row-works verbs.Table v = of-one (IsRowRuled verbs.Table v) (λ j all. table-works v.out j all.0)
row-works verbs.OtpFile v =
    of-one (IsRowRuled verbs.OtpFile v) (λ j all. otp-works OtpText otp_read (λ t has. has.1) otp-gives v.out j all.0)
row-works verbs.Uf2 v = of-one (IsRowRuled verbs.Uf2 v) (λ i all. uf2-works v.file v.out i v.family)
row-works verbs.Plan v =
    of-three (IsRowRuled verbs.Plan v) (λ f g i all. script-works FirstLast v.file v.out i (content_of_files f g) v.cpu)
row-works verbs.Load v =
    of-three (IsRowRuled verbs.Load v) (λ f g i all. script-works Ascending v.file v.out i (content_of_files f g) v.cpu)
row-works verbs.Stage v =
    of-three (IsRowRuled verbs.Stage v) (λ f g i all. stage-works v.file v.out i (content_of_files f g) v.cpu)
row-works verbs.Copy v = of-one (IsRowRuled verbs.Copy v) (λ u all. copy-works v.out u all.0)
row-works verbs.ListScript v = of-one (IsRowRuled verbs.ListScript v) (λ s all. list-works s all.0)
row-works verbs.WriteScript v =
    of-one (IsRowRuled verbs.WriteScript v) (λ t all. write-works v.file v.out [] t all.0)
row-works verbs.WriteImageScript v =
    of-two (IsRowRuled verbs.WriteImageScript v) (λ t i all. write-works v.file v.out i t all.0)
row-works verbs.Gen v = λ read long all. gen-works v.number
row-works verbs.Usage v = λ read long all. told-works usage_text
row-works verbs.ShortUsage v = λ read long all. told-works usage_text
row-works verbs.WordUsage v = λ read long all. told-works usage_text
row-works verbs.Help v = λ read long all. told-works (help_text v.command)
row-works verbs.Release v = λ read long all. told-works release_line

works : (command : CommandLineView) (read : List (List ℕ)) → AreFormed (inputs_of command) read
    → IsByRules (NeedsBytes command read) (work_of command read) (IsRefusedWork command read) (IsRight command read)
works command read all =
    row-works command.verb command.values read (formed-long (inputs_of command) read all) all

-- the outcome of each command on the bytes of its inputs is right by the rules
pub obeys : (command : CommandLineView) (read : List (List ℕ)) → length read ≡ length (inputs_of command)
    → NeedsBytes command read → Obeys command read (command_outcome command read)
obeys command =
    work-obeys (inputs_of command) (NeedsBytes command) (work_of command) (IsRefusedWork command) (IsRight command)
    (works command)

-- only the outcome of a command is right
pub only : (command : CommandLineView) (read : List (List ℕ)) (o : AnswerView) → Obeys command read o
    → o ≡ command_outcome command read
only command =
    work-only (inputs_of command) (NeedsBytes command) (work_of command) (IsRefusedWork command) (IsRight command)
    (works command)

-- the status is Input exactly where an input breaks its form, or the work refuses one
pub refused-exactly : (command : CommandLineView) (read : List (List ℕ)) → length read ≡ length (inputs_of command)
    → ((command_outcome command read).status ≡ Refused) ↔ IsRefusedCommand command read
refused-exactly command =
    work-refused (inputs_of command) (NeedsBytes command) (work_of command) (IsRefusedWork command) (IsRight command)
    (works command)

-- inputs of bytes serve every command
pub bytes-serve : (command : CommandLineView) (read : List (List ℕ)) → AreOfBytes read → NeedsBytes command read
bytes-serve command read small = go (needs_bytes command.verb)
  where
    go : (needs : Bool) → Asks needs read
    go true = small
    go false = tt

-- a work that answers or refuses
abbrev pub IsPlain : Work → Type 0
IsPlain (Answers falls text files) = ⊤
IsPlain (Refuses name fault) = ⊤
IsPlain (Judges verdict text) = ⊥

pub plain-status : (w : Work) → IsPlain w → is_verdict (worked w).status ≡ false
plain-status (Answers true text files) plain = refl
plain-status (Answers false text files) plain = refl
plain-status (Refuses name fault) plain = refl
plain-status (Judges verdict text) plain = absurd plain

-- a work by cases
by-option : {A : Type 0} (work : Option A → Work) → IsPlain (work None) → ((x : A) → IsPlain (work (Some x)))
    → (o : Option A) → IsPlain (work o)
by-option work none some None = none
by-option work none some (Some x) = some x

by-result : {A E : Type 0} (work : Result A E → Work) → ((x : A) → IsPlain (work (Ok x)))
    → ((e : E) → IsPlain (work (Err e))) → (r : Result A E) → IsPlain (work r)
by-result work ok err (Ok x) = ok x
by-result work ok err (Err e) = err e

by-test : (t : Bool) (v w : Work) → IsPlain v → IsPlain w → IsPlain (cond t v w)
by-test true v w left right = left
by-test false v w left right = right

firm-plain : (name image : List ℕ) (cpu : Cpu) → IsPlain (firm_work name image cpu)
firm-plain name [] cpu = tt
firm-plain name (b ∷ bytes) cpu =
    by-result (firm_judged name (b ∷ bytes) cpu) (λ started. tt) (λ why. tt) _

target-plain : (order : WriteOrder) (name out image : List ℕ) (target : Option Target)
    → IsPlain (target_work order target name out image)
target-plain order name out image None = tt
target-plain order name out image (Some target) =
    by-test (length image == 0) _ _ tt (by-test (nat_lt target.window.len (length image)) _ _ tt tt)

stage-plain : (name out image : List ℕ) (c : Content) (cpu : Cpu) → IsPlain (stage_work c cpu name out image)
stage-plain name out image c cpu =
    by-option (stage_target c cpu name out image) tt (λ (target : Target).
    by-test (length image == 0) _ _ tt (by-test (nat_lt target.window.len (length image)) _ _ tt
    (by-option (file_work c cpu target.window name out image)
    (by-result (stage_judged c cpu target.window name out image _) (λ started. tt) (λ why. tt) _) (λ fault. tt) _))) _

-- a command that judges nothing has such a work
abbrev IsRowPlain : Verb → ValuesView → List (List ℕ) → Type 0
IsRowPlain verb v read = IsPlain (row_work verb v read)

row-plain : (verb : Verb) (v : ValuesView) → judges verb ≡ false → (read : List (List ℕ))
    → length read ≡ length (inputs_of (command_line verb v)) → IsRowPlain verb v read
row-plain verbs.Boot v h = of-two (IsRowPlain verbs.Boot v) (λ f g. tt)
row-plain verbs.Info v h = of-two (IsRowPlain verbs.Info v) (λ f g. tt)
row-plain verbs.OwnedData v h = of-two (IsRowPlain verbs.OwnedData v) (λ f g. tt)
row-plain verbs.Explain v h = of-two (IsRowPlain verbs.Explain v) (λ f g. tt)
row-plain verbs.Caveats v h = of-two (IsRowPlain verbs.Caveats v) (λ f g. tt)
row-plain verbs.Map v h = of-two (IsRowPlain verbs.Map v) (λ f g. tt)
row-plain verbs.Replay v h = of-three (IsRowPlain verbs.Replay v) (λ f g s. tt)
row-plain verbs.Sweep v h =
    of-four (IsRowPlain verbs.Sweep v) (λ f g s p. by-option (swept_work v.file _) tt (λ e. tt) _)
row-plain verbs.Chart v h =
    of-four (IsRowPlain verbs.Chart v) (λ f g s p. by-option (drawn_work v.file v.out _ _) tt (λ e. tt) _)
row-plain verbs.Cuts v h = cc
row-plain verbs.Check v h = cc
row-plain verbs.CheckAsked v h = cc
row-plain verbs.Seal v h =
    of-two (IsRowPlain verbs.Seal v) (λ b s. by-result (seal_work v.file v.spec v.out b)
    (λ asked. by-option (seal_judged v.file v.spec v.out b asked) tt (λ e. tt) _) (λ e. tt) (spec_read s))
row-plain verbs.Elf v h =
    of-two (IsRowPlain verbs.Elf v) (λ e s. by-result (elf_work v.file v.spec v.out e)
    (λ asked. by-option (packed_work v.file v.spec v.out e asked) tt (λ f. tt) _) (λ f. tt) (spec_read s))
row-plain verbs.Firm v h = of-one (IsRowPlain verbs.Firm v) (λ i. firm-plain v.file i v.cpu)
row-plain verbs.Table v h =
    of-one (IsRowPlain verbs.Table v) (λ j. by-result (table_work v.out) (λ t. tt) (λ e. tt) (table_read j))
row-plain verbs.OtpFile v h =
    of-one (IsRowPlain verbs.OtpFile v) (λ j. by-result (otp_work v.out) (λ spec. tt) (λ e. tt) (otp_read j))
row-plain verbs.Uf2 v h = of-one (IsRowPlain verbs.Uf2 v) (λ i. by-test (length i == 0) _ _ tt tt)
row-plain verbs.Plan v h =
    of-three (IsRowPlain verbs.Plan v) (λ f g i. target-plain FirstLast v.file v.out i _)
row-plain verbs.Load v h =
    of-three (IsRowPlain verbs.Load v) (λ f g i. target-plain Ascending v.file v.out i _)
row-plain verbs.Stage v h =
    of-three (IsRowPlain verbs.Stage v) (λ f g i. stage-plain v.file v.out i (content_of_files f g) v.cpu)
row-plain verbs.Copy v h = of-one (IsRowPlain verbs.Copy v) (λ u. tt)
row-plain verbs.ListScript v h = of-one (IsRowPlain verbs.ListScript v) (λ s. tt)
row-plain verbs.WriteScript v h =
    of-one (IsRowPlain verbs.WriteScript v)
    (λ t. by-result (read_work v.file v.out) (λ es. tt) (λ e. tt) _)
row-plain verbs.WriteImageScript v h =
    of-two (IsRowPlain verbs.WriteImageScript v)
    (λ t i. by-result (read_work v.file v.out) (λ es. tt) (λ e. tt) _)
row-plain verbs.Gen v h = λ read long. tt
row-plain verbs.Usage v h = λ read long. tt
row-plain verbs.ShortUsage v h = λ read long. tt
row-plain verbs.WordUsage v h = λ read long. tt
row-plain verbs.Help v h = λ read long. tt
row-plain verbs.Release v h = λ read long. tt

pub plain : (command : CommandLineView) → judges command.verb ≡ false → (read : List (List ℕ))
    → length read ≡ length (inputs_of command) → IsPlain (work_of command read)
plain command = row-plain command.verb command.values

-- the outcome on files that have all inputs is right
pub whole-right : (command : CommandLineView) (files : List File) (read : List (List ℕ))
    → found files (readings (inputs_of command)) ≡ Some read → NeedsBytes command read
    → Obeys command read (outcome_on (Some command) files)
whole-right command files read there small =
    subst (Obeys command read) (sym (ap (outcome_found (command_outcome command)) there))
    (obeys command read
    (found-long files (readings (inputs_of command)) read there ∙ readings-long (inputs_of command)) small)

fall-then : (f g : List ℕ) (cpu : Cpu) (kind : BootKind) (d : Decision)
    → decision_in (content_of_files f g) cpu kind ≡ d
    → decided_status d ≡ Bootsel
    → HasForm Flash f → HasForm Otp g → FallsOn f g cpu kind
fall-then f g cpu kind (Start choice) is h flash otp = cc
fall-then f g cpu kind (FallsToBootsel fall) is h flash otp = record {
  fall = fall;
  flash = flash;
  otp = otp;
  chosen = subst (λ (d : Decision). Chosen (content_of_files f g) cpu kind d) is
      (decision-chosen (content_of_files f g) cpu kind);
}

falls-then : (flash otp f g : List ℕ) (cpu : Cpu) (kind : BootKind) (w : AnswerView)
    → w.status ≡ decided_status (decision_in (content_of_files f g) cpu kind)
    → (o : Option AnswerView) → Judged (inputs_of (Boot flash otp cpu kind)) (f ∷ g ∷ []) o → (unless_refused o w).status ≡ Bootsel
    → FallsOn f g cpu kind
falls-then flash otp f g cpu kind w is None (all_formed all) h =
    fall-then f g cpu kind (decision_in (content_of_files f g) cpu kind) refl (sym is ∙ h) all.0 all.1.0
falls-then flash otp f g cpu kind w is (Some _) (one_faulty name fault first) h = cc

then-falls : (flash otp f g : List ℕ) (cpu : Cpu) (kind : BootKind) (w : AnswerView)
    → w.status ≡ decided_status (decision_in (content_of_files f g) cpu kind)
    → FallsOn f g cpu kind → (unless_refused (first_input_fault (inputs_of (Boot flash otp cpu kind)) (f ∷ g ∷ [])) w).status
    ≡ Bootsel
then-falls flash otp f g cpu kind w is falls =
    ap (λ o. (unless_refused o w).status)
    (formed-none (inputs_of (Boot flash otp cpu kind)) (f ∷ g ∷ []) (falls.flash, (falls.otp, tt)))
    ∙ (is ∙ ap decided_status
    (sym (chosen-decision (content_of_files f g) cpu kind (FallsToBootsel falls.fall) falls.chosen)))

-- a boot ends with Bootsel exactly where the rules name a fall
pub falls-exactly : (flash otp f g : List ℕ) (cpu : Cpu) (kind : BootKind) (w : AnswerView)
    → w.status ≡ decided_status (decision_in (content_of_files f g) cpu kind)
    → ((unless_refused (first_input_fault (inputs_of (Boot flash otp cpu kind)) (f ∷ g ∷ [])) w).status
    ≡ Bootsel) ↔ FallsOn f g cpu kind
falls-exactly flash otp f g cpu kind w is = (
  falls-then flash otp f g cpu kind w is (first_input_fault (inputs_of (Boot flash otp cpu kind)) (f ∷ g ∷ []))
      (judged-first (inputs_of (Boot flash otp cpu kind)) (f ∷ g ∷ []) refl),
  then-falls flash otp f g cpu kind w is,
)
