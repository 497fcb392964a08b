-- The commands: the work of each on the bytes of its inputs, which gives the outcome of a run; and
-- what is right for it by the rules. This project's own, over the rules of a boot.
use Rattle.std.specs.Prelude.{ℕ, Bool, true, false, List, [], ◌∷◌, Option, Some, None, Result, Ok, Err, ◌≡◌, ⊤}
use Rattle.pico_board.specs.Files.{File}
use Rattle.cli_course.specs.Outcomes.{LimitedInputView, AnswerView, Work, Answers, not_understood, found, outcome_found, AreOfBytes}
use Rattle.cli_words.specs.Rows.{CommandLineView, command_line}
use Rattle.cli_words.specs.Values.{ValuesView, values_from}
use Rattle.cli_words.specs.declared.rows.Verb.{Verb}
use Rattle.cli_words.specs.declared.rows.Verb.TheVariants as verbs
use Rattle.cli_words.specs.declared.values.Values.{Values}
use Rattle.cli_words.specs.Usages.{usage_text, help_text, release_line}
use Rattle.cli_inputs.specs.Forms.{content_of_files, HasForm}
use Rattle.cli_inputs.specs.Jsons.{spec_read, table_read, otp_read}
use Rattle.cli_course.specs.declared.answers.Answer.{Answer}
use Rattle.cli_course.specs.Views.{answer_from}
use Rattle.cli_inputs.specs.declared.fail.InputFail.{InputFail}
use Rattle.cli_inputs.specs.Inputs.{Tells as TellsRefusal, readings, outcome_by}
use Rattle.boot_run.specs.Inputs.{inputs_of}
use Rattle.cli_boot.specs.Works.{boot_work, info_work, data_work}
use Rattle.cli_explain.specs.Works.{explain_work}
use Rattle.check_require.specs.Requires.{default_require}
use Rattle.check_require.specs.Texts.{require_read}
use Rattle.cli_check.specs.CheckRules.{IsAskedOf, IsCheckOf, IsCheckRefused}
use Rattle.cli_check.specs.CheckWorks.{asked_work, check_work}
use Rattle.cli_check.specs.CutsRules.{IsCutsOf, IsCutsRefused}
use Rattle.cli_check.specs.CutsWorks.{cuts_work}
use Rattle.cli_caveats.specs.Works.{caveats_work}
use Rattle.cli_map.specs.Works.{map_work}
use Rattle.cli_otp.specs.OtpOutcomes.{IsOtpOf}
use Rattle.cli_otp.specs.OtpWords.{otp_work}
use Rattle.cli_scripts.specs.ReplayWorks.{replay_work}
use Rattle.cli_sweep.specs.ChartWorks.{chart_work}
use Rattle.cli_sweep.specs.FirmWorks.{firm_work}
use Rattle.cli_scripts.specs.Copies.{copy_work}
use Rattle.cli_scripts.specs.TextWorks.{list_work, write_work}
use Rattle.cli_sweep.specs.SweepWorks.{sweep_work}
use Rattle.cli_tools.specs.Elfs.{elf_work, IsElfOf, IsElfRefused}
use Rattle.cli_tools.specs.Tools.{seal_work, table_work}
use Rattle.script_plan.specs.declared.writing.WriteOrder.TheVariants.{FirstLast, Ascending}
use Rattle.cli_tools.specs.ToolWorks.{uf2_work, script_work, gen_work}
use Rattle.cli_stage.specs.StageWorks.{stage_work}
use Rattle.pico_board.specs.declared.boot.Cpu.{Cpu}
use Rattle.pico_board.specs.declared.boot.BootKind.{BootKind}
use Rattle.pico_board.specs.Puts.{IsPut, SinkState}
use Rattle.boot_rules.specs.declared.decision.Decision.{Decision}
use Rattle.boot_rules.specs.declared.decision.Decision.TheVariants.{Bootsel as FallsToBootsel}
use Rattle.boot_rules.specs.declared.decision.Fall.{Fall}
use Rattle.boot_rules.specs.Chosen.{Chosen}
use Rattle.cli_course.specs.declared.status.Status.{Status}
use Rattle.cli_course.specs.declared.status.Status.TheVariants.{Done, Unbootable, Mixed, NoEffect, Refused, Unmet}
use Rattle.text_lines.specs.Texts.{decision_line}
use Rattle.cli_inputs.specs.declared.forms.Form.TheVariants.{Flash, Otp}
use Rattle.cli_inputs.specs.Rules.{AreFormed, IsRefusedFor, IsWorked}
use Rattle.cli_boot.specs.Rules.{decided_status, IsBootOutcome, IsInfoOutcome, IsDataOutcome}
use Rattle.cli_explain.specs.Rules.{IsExplainOf}
use Rattle.cli_caveats.specs.Rules.{IsCaveatsOf}
use Rattle.cli_map.specs.Rules.{IsMapOf}
use Rattle.cli_scripts.specs.ReplayRules.{IsReplayOf}
use Rattle.cli_scripts.specs.TextRules.{IsCopyOf, IsListOf, IsTextRefused, IsWrittenOf}
use Rattle.cli_sweep.specs.ChartRules.{IsChartOf}
use Rattle.cli_sweep.specs.SweepRules.{IsFirmOf, IsFirmRefused, IsSweepOf, IsSweepRefused}
use Rattle.cli_tools.specs.Seals.{IsUnsealed}
use Rattle.cli_tools.specs.SealRules.{IsSealedOf, IsTableOf}
use Rattle.cli_tools.specs.ToolRules.{IsUf2Refused, IsUf2Of, IsTargetRefused, IsScriptOf, IsGenOf}
use Rattle.cli_stage.specs.StageRules.{IsStageRefused, IsStageOf}

-- the work of a row's command, by the values of its arguments, on the bytes of its inputs
abbrev pub row_work : Verb → ValuesView → List (List ℕ) → Work
row_work verbs.Boot v (f ∷ g ∷ []) = boot_work (content_of_files f g) v.cpu v.kind
row_work verbs.Info v (f ∷ g ∷ []) = info_work (content_of_files f g) v.cpu
row_work verbs.OwnedData v (f ∷ g ∷ []) = data_work (content_of_files f g) v.cpu v.kind
row_work verbs.Explain v (f ∷ g ∷ []) = explain_work (content_of_files f g) v.cpu v.kind
row_work verbs.Caveats v (f ∷ g ∷ []) = caveats_work (content_of_files f g) v.cpu v.kind
row_work verbs.Map v (f ∷ g ∷ []) = map_work (content_of_files f g) v.cpu v.out
row_work verbs.Replay v (f ∷ g ∷ s ∷ []) =
    replay_work (content_of_files f g) v.cpu s v.out_flash v.out_otp
row_work verbs.Sweep v (f ∷ g ∷ s ∷ p ∷ []) = sweep_work (content_of_files f g) v.cpu v.file s p
row_work verbs.Chart v (f ∷ g ∷ s ∷ p ∷ []) =
    chart_work (content_of_files f g) v.cpu v.file v.out s p
row_work verbs.Cuts v (f ∷ g ∷ s ∷ p ∷ []) = cuts_work (content_of_files f g) v.cpu v.file s p
row_work verbs.Check v (f ∷ g ∷ s ∷ p ∷ []) =
    check_work (content_of_files f g) v.cpu v.file s p default_require
row_work verbs.CheckAsked v (f ∷ g ∷ s ∷ p ∷ r ∷ []) =
    asked_work (content_of_files f g) v.cpu v.file s p (require_read r)
row_work verbs.Seal v (b ∷ s ∷ []) = seal_work v.file v.spec v.out b (spec_read s)
row_work verbs.Elf v (e ∷ s ∷ []) = elf_work v.file v.spec v.out e (spec_read s)
row_work verbs.Firm v (i ∷ []) = firm_work v.file i v.cpu
row_work verbs.Table v (j ∷ []) = table_work v.out (table_read j)
row_work verbs.OtpFile v (j ∷ []) = otp_work v.out (otp_read j)
row_work verbs.Uf2 v (i ∷ []) = uf2_work v.file v.family v.out i
row_work verbs.Plan v (f ∷ g ∷ i ∷ []) =
    script_work FirstLast (content_of_files f g) v.cpu v.file v.out i
row_work verbs.Load v (f ∷ g ∷ i ∷ []) =
    script_work Ascending (content_of_files f g) v.cpu v.file v.out i
row_work verbs.Stage v (f ∷ g ∷ i ∷ []) = stage_work (content_of_files f g) v.cpu v.file v.out i
row_work verbs.Copy v (u ∷ []) = copy_work v.out u
row_work verbs.ListScript v (s ∷ []) = list_work s
row_work verbs.WriteScript v (t ∷ []) = write_work v.file v.out [] t
row_work verbs.WriteImageScript v (t ∷ i ∷ []) = write_work v.file v.out i t
row_work verbs.Gen v read = gen_work v.number
row_work verbs.Usage v read = Answers false usage_text []
row_work verbs.ShortUsage v read = Answers false usage_text []
row_work verbs.WordUsage v read = Answers false usage_text []
row_work verbs.Help v read = Answers false (help_text v.command) []
row_work verbs.Release v read = Answers false release_line []
-- on another number of inputs than it has a command does nothing
row_work verb v read = Answers false [] []

-- the work of a command
abbrev pub work_of : CommandLineView → List (List ℕ) → Work
work_of command = row_work command.verb command.values

-- the outcome of a command on the bytes of its inputs
abbrev pub command_outcome : CommandLineView → List (List ℕ) → AnswerView
command_outcome command read = outcome_by (inputs_of command) (work_of command) read

-- the result of the work on a row's command: the answer has the command's outcome; or a file gives
-- no value, and its refusal is the outcome; or there was no memory
abbrev pub IsDone : Verb → Values → List (List ℕ) → Result Answer InputFail → Type 0
IsDone verb values read (Ok answer) =
    answer_from answer ≡ command_outcome (command_line verb (values_from values)) read
IsDone verb values read (Err fail) =
    TellsRefusal fail (Some (command_outcome (command_line verb (values_from values)) read))

-- what is read for the arguments: nothing where they are no command
abbrev pub inputs_in : Option CommandLineView → List LimitedInputView
inputs_in None = []
inputs_in (Some command) = readings (inputs_of command)

-- the outcome of the arguments on the bytes of the inputs
abbrev pub outcome_in : Option CommandLineView → List (List ℕ) → AnswerView
outcome_in None read = not_understood
outcome_in (Some command) read = command_outcome command read

-- the outcome of the arguments on these files
abbrev pub outcome_on : Option CommandLineView → List File → AnswerView
outcome_on command files = outcome_found (outcome_in command) (found files (inputs_in command))

-- the work of a row's command refuses the input of this name with this fault
abbrev pub IsRowRefused : Verb → ValuesView → List (List ℕ) → List ℕ → List ℕ → Type 0
IsRowRefused verbs.Sweep v (f ∷ g ∷ s ∷ p ∷ []) name fault =
    IsSweepRefused v.file (content_of_files f g) v.cpu s name fault
IsRowRefused verbs.Chart v (f ∷ g ∷ s ∷ p ∷ []) name fault =
    IsSweepRefused v.file (content_of_files f g) v.cpu s name fault
IsRowRefused verbs.Cuts v (f ∷ g ∷ s ∷ p ∷ []) name fault =
    IsCutsRefused v.file (content_of_files f g) v.cpu s name fault
IsRowRefused verbs.Check v (f ∷ g ∷ s ∷ p ∷ []) name fault =
    IsCheckRefused v.file (content_of_files f g) v.cpu s name fault
IsRowRefused verbs.CheckAsked v (f ∷ g ∷ s ∷ p ∷ r ∷ []) name fault =
    IsCheckRefused v.file (content_of_files f g) v.cpu s name fault
IsRowRefused verbs.Seal v (b ∷ s ∷ []) name fault = IsUnsealed v.file v.spec b s name fault
IsRowRefused verbs.Elf v (e ∷ s ∷ []) name fault = IsElfRefused v.file v.spec e s name fault
IsRowRefused verbs.Firm v (i ∷ []) name fault = IsFirmRefused v.file i v.cpu name fault
IsRowRefused verbs.Uf2 v (i ∷ []) name fault = IsUf2Refused v.file i name fault
IsRowRefused verbs.WriteScript v (t ∷ []) name fault = IsTextRefused v.file [] t name fault
IsRowRefused verbs.WriteImageScript v (t ∷ i ∷ []) name fault = IsTextRefused v.file i t name fault
IsRowRefused verbs.Plan v (f ∷ g ∷ i ∷ []) name fault =
    IsTargetRefused (content_of_files f g) v.cpu v.file i name fault
IsRowRefused verbs.Load v (f ∷ g ∷ i ∷ []) name fault =
    IsTargetRefused (content_of_files f g) v.cpu v.file i name fault
IsRowRefused verbs.Stage v (f ∷ g ∷ i ∷ []) name fault =
    IsStageRefused (content_of_files f g) v.cpu v.file i name fault
IsRowRefused _ v read name fault = ⊥

-- the work of a command refuses the input of this name with this fault
abbrev pub IsRefusedWork : CommandLineView → List (List ℕ) → List ℕ → List ℕ → Type 0
IsRefusedWork command = IsRowRefused command.verb command.values

-- an input of the command is refused
abbrev pub IsRefusedCommand : CommandLineView → List (List ℕ) → Type 0
IsRefusedCommand command read = (name : List ℕ) × (fault : List ℕ)
    × IsRefusedFor (inputs_of command) (IsRefusedWork command read) read name fault

-- the outcome prints a text, is no fall and writes no file
abbrev pub Tells : List ℕ → AnswerView → Type 0
Tells text o = o ≡ record { status = Done; text = text; files = [] }

-- the outcome is right for a row's command on inputs that have their forms
abbrev pub IsRowRight : Verb → ValuesView → List (List ℕ) → AnswerView → Type 0
IsRowRight verbs.Boot v (f ∷ g ∷ []) o = IsBootOutcome (content_of_files f g) v.cpu v.kind o
IsRowRight verbs.Info v (f ∷ g ∷ []) o = IsInfoOutcome (content_of_files f g) v.cpu o
IsRowRight verbs.OwnedData v (f ∷ g ∷ []) o = IsDataOutcome (content_of_files f g) v.cpu v.kind o
IsRowRight verbs.Explain v (f ∷ g ∷ []) o = IsExplainOf (content_of_files f g) v.cpu v.kind o
IsRowRight verbs.Caveats v (f ∷ g ∷ []) o = IsCaveatsOf (content_of_files f g) v.cpu v.kind o
IsRowRight verbs.Map v (f ∷ g ∷ []) o = IsMapOf (content_of_files f g) v.cpu v.out o
IsRowRight verbs.Replay v (f ∷ g ∷ s ∷ []) o =
    IsReplayOf (content_of_files f g) v.cpu s v.out_flash v.out_otp o
IsRowRight verbs.Sweep v (f ∷ g ∷ s ∷ p ∷ []) o = IsSweepOf (content_of_files f g) v.cpu s p o
IsRowRight verbs.Chart v (f ∷ g ∷ s ∷ p ∷ []) o =
    IsChartOf (content_of_files f g) v.cpu v.out s p o
IsRowRight verbs.Cuts v (f ∷ g ∷ s ∷ p ∷ []) o = IsCutsOf (content_of_files f g) v.cpu s p o
IsRowRight verbs.Check v (f ∷ g ∷ s ∷ p ∷ []) o =
    IsCheckOf (content_of_files f g) v.cpu s p default_require o
IsRowRight verbs.CheckAsked v (f ∷ g ∷ s ∷ p ∷ r ∷ []) o =
    IsAskedOf (content_of_files f g) v.cpu s p r o
IsRowRight verbs.Seal v (b ∷ s ∷ []) o = IsSealedOf v.out b s o
IsRowRight verbs.Elf v (e ∷ s ∷ []) o = IsElfOf v.out e s o
IsRowRight verbs.Firm v (i ∷ []) o = IsFirmOf i v.cpu o
IsRowRight verbs.Table v (j ∷ []) o = IsTableOf v.out j o
IsRowRight verbs.OtpFile v (j ∷ []) o = IsOtpOf v.out j o
IsRowRight verbs.Uf2 v (i ∷ []) o = IsUf2Of i v.family v.out o
IsRowRight verbs.Plan v (f ∷ g ∷ i ∷ []) o =
    IsScriptOf FirstLast (content_of_files f g) v.cpu i v.out o
IsRowRight verbs.Load v (f ∷ g ∷ i ∷ []) o =
    IsScriptOf Ascending (content_of_files f g) v.cpu i v.out o
IsRowRight verbs.Stage v (f ∷ g ∷ i ∷ []) o = IsStageOf (content_of_files f g) v.cpu i v.out o
IsRowRight verbs.Copy v (u ∷ []) o = IsCopyOf u v.out o
IsRowRight verbs.ListScript v (s ∷ []) o = IsListOf s o
IsRowRight verbs.WriteScript v (t ∷ []) o = IsWrittenOf [] t v.out o
IsRowRight verbs.WriteImageScript v (t ∷ i ∷ []) o = IsWrittenOf i t v.out o
IsRowRight verbs.Gen v read o = IsGenOf v.number o
IsRowRight verbs.Usage v read o = Tells usage_text o
IsRowRight verbs.ShortUsage v read o = Tells usage_text o
IsRowRight verbs.WordUsage v read o = Tells usage_text o
IsRowRight verbs.Help v read o = Tells (help_text v.command) o
IsRowRight verbs.Release v read o = Tells release_line o
IsRowRight verb v read o = ⊥

-- the outcome is right for a command on inputs that have their forms
abbrev pub IsRight : CommandLineView → List (List ℕ) → AnswerView → Type 0
IsRight command = IsRowRight command.verb command.values

-- The outcome is right for a command on the bytes of its inputs. It names the first input that
-- breaks its form; or, where each has its form, the input that the work refuses. Otherwise it is
-- right by the command's own rules.
abbrev pub Obeys : CommandLineView → List (List ℕ) → AnswerView → Type 0
Obeys command read o =
    IsWorked (inputs_of command) (IsRefusedWork command read) (IsRight command read) read o

-- these commands ask that their inputs are of bytes: the picture of a flash and the check of an
-- update, since a content is of bytes; a replay, a sweep and its picture, since power that is lost
-- in an erase leaves bytes; and the packing of an ELF file, since its entry is a word; the other
-- commands ask nothing
abbrev pub needs_bytes : Verb → Bool
needs_bytes verbs.Map = true
needs_bytes verbs.Replay = true
needs_bytes verbs.Sweep = true
needs_bytes verbs.Chart = true
needs_bytes verbs.Check = true
needs_bytes verbs.CheckAsked = true
needs_bytes verbs.Elf = true
needs_bytes _ = false

-- what is asked of the bytes of inputs
abbrev pub Asks : Bool → List (List ℕ) → Type 0
Asks true read = AreOfBytes read
Asks false read = ⊤

abbrev pub NeedsBytes : CommandLineView → List (List ℕ) → Type 0
NeedsBytes command read = Asks (needs_bytes command.verb) read

-- these commands judge a script, so they may end with a verdict
abbrev pub judges : Verb → Bool
judges verbs.Cuts = true
judges verbs.Check = true
judges verbs.CheckAsked = true
judges _ = false

-- a status of a verdict that is no pass
abbrev pub is_verdict : Status → Bool
is_verdict Unbootable = true
is_verdict Mixed = true
is_verdict NoEffect = true
is_verdict Refused = true
is_verdict Unmet = true
is_verdict _ = false

-- each input has its form, and what is right for the command ends with this status
pub record IsRightWith (command : CommandLineView) (read : List (List ℕ)) (status : Status)
    : Type 0 where
  pub formed : AreFormed (inputs_of command) read
  pub o : AnswerView
  pub right : IsRight command read o
  pub ends : o.status ≡ status

-- a run named a decision: it ended with its status, and put its line
abbrev pub Names : Decision → Status → SinkState → SinkState → Type 0
Names d status before after =
    (status ≡ decided_status d) × IsPut before.bytes (decision_line d) after.bytes

-- the files have their forms, and the rules name a fall to BOOTSEL
pub record FallsOn (f g : List ℕ) (cpu : Cpu) (kind : BootKind) : Type 0 where
  pub fall : Fall
  pub flash : HasForm Flash f
  pub otp : HasForm Otp g
  pub chosen : Chosen (content_of_files f g) cpu kind (FallsToBootsel fall)
