-- What a run says, by the ways in which it ends.
use Rattle.std.proofs.Common.{◌≡◌, ◌⊎◌, ◌↔◌, ℕ, true, IsTrue, List, [], ◌∷◌, length, Option, Some, None, refl, sym, ◌∙◌, ap, subst, inl, inr}
use Rattle.pico_board.specs.declared.boot.Cpu.{Cpu}
use Rattle.pico_board.specs.declared.boot.BootKind.{BootKind}
use Rattle.pico_board.specs.declared.boot.BootKind.TheVariants.{Normal}
use Rattle.pico_board.specs.declared.window.Window.{Window}
use Rattle.pico_board.specs.declared.Step.{Step}
use Rattle.pico_board.specs.Steps.{after_all}
use Rattle.boot_session.specs.CutSessions.{CutSession, ConfinedSession, StartsFinished, StartsThere}
use Rattle.boot_session.proofs.ConfinedLaws.{confined-session}
use Rattle.boot_session.proofs.GatedLaws.{gated-decision}
use Rattle.pico_board.specs.Board.{Rose}
use Rattle.pico_board.specs.Content.{Content}
use Rattle.pico_board.specs.Files.{File, StoreState, Access, file_of}
use Rattle.pico_board.specs.Puts.{SinkState, Put, IsPut}
use Rattle.image_check.specs.NotBelow.{NotBelow}
use Rattle.slot_choice.specs.declared.choice.Choice.{Choice}
use Rattle.boot_rules.specs.declared.decision.Decision.{Decision}
use Rattle.boot_rules.specs.declared.decision.Decision.TheVariants.{Start}
use Rattle.boot_rules.specs.Chosen.{Chosen}
use Rattle.boot_rules.proofs.DecisionLemmas.{chosen-decision, chosen-not_below}
use Rattle.cli_course.specs.declared.status.Status.{Status}
use Rattle.cli_course.specs.declared.status.Status.TheVariants.{Words, Input as Refused, ReadFault, WriteFault, OutputFault, Memory}
use Rattle.cli_inputs.specs.declared.forms.Form.TheVariants.{Flash, Otp}
use Rattle.cli_words.specs.Rows.{CommandLineView, Boot}
use Rattle.cli_inputs.specs.Forms.{HasForm, content_of_files}
use Rattle.text_lines.specs.Texts.{decision_line}
use Rattle.cli_boot.specs.Works.{boot_work}
use Rattle.cli_course.specs.Outcomes.{AnswerView, outcome_found, found, found_next, worked, is_finished}
use Rattle.boot_run.specs.Inputs.{inputs_of}
use Rattle.boot_run.specs.Commands.{work_of, inputs_in, outcome_in, outcome_on, command_outcome, Names, Obeys, IsRefusedCommand}
use Rattle.cli_inputs.specs.Inputs.{unless_refused, readings}
use Rattle.cli_boot.specs.Rules.{decided_status}
use Rattle.cli_course.specs.Courses.{Runs}
use Rattle.cli_course.specs.Ends.{AreRead, LacksOne, DoesRun, ShowsOutcome, LeftAt}
use Rattle.boot_run.proofs.RuleLemmas.{bytes-serve, obeys, refused-exactly}
use Rattle.cli_course.proofs.ReadLemmas.{are-found, not-lacking, read-bytes}
use Rattle.cli_inputs.proofs.InputLemmas.{outcome-text, outcome-cut, formed-none, readings-long}
use Rattle.cli_boot.proofs.BoardWorkLemmas.{decided, worked-decided}
use Rattle.cli_course.proofs.EndLemmas.{RunEnd, run-end, room, unread, cut_short, whole, put_fault, put_memory, Finished, end-finished}

-- each outcome ends with a text
pub outcome-finished : (command : Option CommandLineView) (read : List (List ℕ))
    → is_finished (outcome_in command read).status ≡ true
outcome-finished None read = refl
outcome-finished (Some command) read = (outcome-text (inputs_of command) (work_of command) read).0

pub outcome-words : (command : Option CommandLineView) (read : List (List ℕ)) → (outcome_in command read).status ≡ Words
    → command ≡ None
outcome-words None read h = refl
outcome-words (Some command) read h = absurd ((outcome-text (inputs_of command) (work_of command) read).1 h)

-- the outcome of what is read of told files is that of the files
pub outcome-told : (command : Option CommandLineView) (files : List File) (read : List (List ℕ))
    → AreRead (Some files) (inputs_in command) read
    → outcome_in command read ≡ outcome_on command files
outcome-told None files [] are = refl
outcome-told None files (bytes ∷ read) are = absurd are
outcome-told (Some command) files read are =
    let f = are-found files (readings (inputs_of command)) read are in
    ap (command_outcome command) f.is
    ∙ (outcome-cut (inputs_of command) (work_of command) f.whole (f.long ∙ readings-long (inputs_of command)) ∙ sym
    (ap (outcome_found (command_outcome command)) f.are))

-- the outcome of a boot on told files that have their forms is the decision that the rules name
pub boot-told : (flash otp f g : List ℕ) (cpu : Cpu) (kind : BootKind) (files : List File) (d : Decision)
    (command : Option CommandLineView)
    → command ≡ Some (Boot flash otp cpu kind) → file_of files flash ≡ Some f → file_of files otp ≡ Some g
    → HasForm Flash f → HasForm Otp g → Chosen (content_of_files f g) cpu kind d → outcome_on command files ≡ decided d
boot-told flash otp f g cpu kind files d command asks is_f is_g flash_form otp_form chosen =
    let boot : CommandLineView = Boot flash otp cpu kind in
    let there : found files (readings (inputs_of boot)) ≡ Some (f ∷ g ∷ []) =
    ap (λ h. found_next h (found_next (file_of files otp) (Some []))) is_f ∙ ap
    (λ h. found_next (Some f) (found_next h (Some []))) is_g in
    ap (λ c. outcome_on c files) asks
    ∙ (ap (outcome_found (command_outcome boot)) there
    ∙ (ap (λ o. unless_refused o (worked (boot_work (content_of_files f g) cpu kind)))
    (formed-none (inputs_of boot) (f ∷ g ∷ []) (flash_form, (otp_form, tt)))
    ∙ (worked-decided (content_of_files f g) cpu kind ∙ ap decided
    (sym (chosen-decision (content_of_files f g) cpu kind d chosen)))))

-- how a run of this command, or of other words, ends
pub run-ends : {S : Type 0} {state : S → StoreState} {history : S → List Access → Type 0} {K : Type 0}
    {shown : K → SinkState} {taken : K → List Put → Type 0} {old new : S} {before after : K} {status : Status}
    (command : Option CommandLineView)
    → Runs state history shown taken (inputs_in command) (outcome_in command) old before status new after
    → RunEnd state history shown taken (inputs_in command) (outcome_in command) old before status new after
run-ends command runs = run-end _ _ _ _ (inputs_in command) (outcome_in command) _ _ _ _ _ runs

module _ {S : Type 0} (state : S → StoreState) (history : S → List Access → Type 0) {K : Type 0} (shown : K → SinkState)
    (taken : K → List Put → Type 0)
    (command : Option CommandLineView) (old new : S) (before after : K) (status : Status) where
  abbrev pub Ends : Type 0
  Ends = RunEnd state history shown taken (inputs_in command) (outcome_in command) old before status new after

  done : Ends → is_finished status ≡ true
      → Finished state history shown taken (inputs_in command) (outcome_in command)
      (outcome-finished command) old before status new after
  done ends h =
      end-finished state history shown taken (inputs_in command) (outcome_in command)
      (outcome-finished command) old new before after status ends h

  pub run-told : Ends → (files : List File) → (state old).files ≡ Some files → is_finished status ≡ true
      → ShowsOutcome (outcome_on command files) (state old) (shown before) status (state new) (shown after)
  run-told ends files told h =
      let f = done ends h in
      let same : outcome_in command f.read ≡ outcome_on command files =
      outcome-told command files f.read (subst (λ t. AreRead t (inputs_in command) f.read) told f.are) in
      subst (λ o. ShowsOutcome o (state old) (shown before) status (state new) (shown after)) same
      (record { answer = f.is; text = f.does.puts.bytes; files = f.saved })

  pub run-boot : Ends → (flash otp f g : List ℕ) (cpu : Cpu) (kind : BootKind) (files : List File) (d : Decision)
      → command ≡ Some (Boot flash otp cpu kind) → (state old).files ≡ Some files → file_of files flash ≡ Some f
      → file_of files otp ≡ Some g
      → HasForm Flash f → HasForm Otp g → is_finished status ≡ true → Chosen (content_of_files f g) cpu kind d
      → (status ≡ decided_status d) × IsPut (shown before).bytes (decision_line d) (shown after).bytes
      × ((choice : Choice) → d ≡ Start choice → NotBelow (content_of_files f g).otp choice.image)
  run-boot ends flash otp f g cpu kind files d asks told is_f is_g flash_form otp_form h chosen =
      let same = boot-told flash otp f g cpu kind files d command asks is_f is_g flash_form otp_form chosen in
      let t = subst (λ o. ShowsOutcome o (state old) (shown before) status (state new) (shown after)) same
      (run-told ends files told h) in (
        t.answer,
        t.text,
        λ choice starts. chosen-not_below (content_of_files f g) cpu kind choice
            (subst (λ (e : Decision). Chosen (content_of_files f g) cpu kind e) starts chosen),
      )

  pub run-session : Ends → (flash otp f g : List ℕ) (cpu : Cpu) (files : List File) (c : Content) (w : Window)
      (steps : List Step) (former : Decision)
      → command ≡ Some (Boot flash otp cpu Normal) → (state old).files ≡ Some files → file_of files flash ≡ Some f
      → file_of files otp ≡ Some g → HasForm Flash f → HasForm Otp g → is_finished status ≡ true
      → CutSession c w cpu steps (content_of_files f g) former
      → Names former status (shown before) (shown after)
      ⊎ ((whole : StartsFinished (after_all c steps) (content_of_files f g) cpu)
      × Names (Start whole.choice) status (shown before) (shown after))
  run-session ends flash otp f g cpu files c w steps former asks told is_f is_g flash_form otp_form h lost =
      elim (gated-decision c w cpu steps (content_of_files f g) former lost) [
        | inl same ↦ inl (named former same)
        | inr finished ↦ inr (finished, named (Start finished.choice) finished.here)
      ]
    where
      named : (d : Decision) → Chosen (content_of_files f g) cpu Normal d → Names d status (shown before) (shown after)
      named d chosen =
          let is = run-boot ends flash otp f g cpu Normal files d asks told is_f is_g flash_form otp_form h chosen in
          (is.0, is.1)

  pub run-confined : Ends → (flash otp f g : List ℕ) (cpu : Cpu) (files : List File) (c : Content) (w : Window)
      (steps : List Step) (former : Decision)
      → command ≡ Some (Boot flash otp cpu Normal) → (state old).files ≡ Some files → file_of files flash ≡ Some f
      → file_of files otp ≡ Some g → HasForm Flash f → HasForm Otp g → is_finished status ≡ true
      → ConfinedSession c w cpu steps (content_of_files f g) former
      → Names former status (shown before) (shown after)
      ⊎ ((there : StartsThere (content_of_files f g) w cpu)
      × Names (Start there.choice) status (shown before) (shown after))
  run-confined ends flash otp f g cpu files c w steps former asks told is_f is_g flash_form otp_form h session =
      elim (confined-session c w cpu steps (content_of_files f g) former session) [
        | inl same ↦ inl (named former same)
        | inr there ↦ inr (there, named (Start there.choice) there.chosen)
      ]
    where
      named : (d : Decision) → Chosen (content_of_files f g) cpu Normal d → Names d status (shown before) (shown after)
      named d chosen =
          let is = run-boot ends flash otp f g cpu Normal files d asks told is_f is_g flash_form otp_form h chosen in
          (is.0, is.1)

  pub run-lacking : Ends → (files : List File) → (state old).files ≡ Some files
      → LacksOne (Some files) (inputs_in command)
      → (status ≡ ReadFault) ⊎ (status ≡ Memory)
  run-lacking ends files told lacks = go ends
    where
      no : (read : List (List ℕ)) → AreRead (state old).files (inputs_in command) read → ⊥
      no read are =
          not-lacking files (inputs_in command) read (subst (λ t. AreRead t (inputs_in command) read) told are) lacks

      go : Ends → (status ≡ ReadFault) ⊎ (status ≡ Memory)
      go (room is same kept) = inr is
      go (unread is some same kept rose lack) = inl is
      go (cut_short cut same why) = absurd (no cut.read cut.are_read)
      go (whole read are long saved does is) = absurd (no read are)
      go (put_fault short is) = absurd (no short.read short.are_read)
      go (put_memory short is) = absurd (no short.read short.are_read)

  pub run-words : Ends → status ≡ Words → command ≡ None
  run-words (room is same kept) h = let e : Memory ≡ Words = sym is ∙ h in cc
  run-words (unread is some same kept rose lack) h = let e : ReadFault ≡ Words = sym is ∙ h in cc
  run-words (cut_short cut same (inl (is, rose, not))) h = let e : WriteFault ≡ Words = sym is ∙ h in cc
  run-words (cut_short cut same (inr is)) h = let e : Memory ≡ Words = sym is ∙ h in cc
  run-words (whole read are long saved does is) h = outcome-words command read (sym is ∙ h)
  run-words (put_fault short is) h = let e : OutputFault ≡ Words = sym is ∙ h in cc
  run-words (put_memory short is) h = let e : Memory ≡ Words = sym is ∙ h in cc

  pub run-no_command : Ends → command ≡ None → (status ≡ Words) ⊎ ((status ≡ OutputFault) ⊎ (status ≡ Memory))
  run-no_command (room is same kept) none = inr (inr is)
  run-no_command (unread is some same kept rose lack) none = absurd (some (ap inputs_in none))
  run-no_command (cut_short cut same why) none =
      absurd (let left : LeftAt (state old).files [] (state new).files = subst
      (λ c. LeftAt (state old).files (outcome_in c cut.read).files (state new).files) none cut.left in left)
  run-no_command (whole read are long saved does is) none = inl (is ∙ ap (λ c. (outcome_in c read).status) none)
  run-no_command (put_fault short is) none = inr (inl is)
  run-no_command (put_memory short is) none = inr (inr is)

  abbrev pub Complete : Type 0
  Complete = (is_finished status ≡ true) ⊎ ((status ≡ Memory)
      ⊎ (Rose (state old).read_faults (state new).read_faults
      ⊎ (Rose (state old).write_faults (state new).write_faults ⊎ Rose (shown before).faults (shown after).faults)))

  pub run-complete : Ends → Complete
  run-complete (room is same kept) = inr (inl is)
  run-complete (unread is some same kept rose lack) = inr (inr (inl rose))
  run-complete (cut_short cut same (inl (is, rose, not))) = inr (inr (inr (inl rose)))
  run-complete (cut_short cut same (inr is)) = inr (inl is)
  run-complete (whole read are long saved does is) = inl (ap is_finished is ∙ outcome-finished command read)
  run-complete (put_fault short is) = inr (inr (inr (inr (short.puts.fault refl))))
  run-complete (put_memory short is) = inr (inl is)

  pub run-steady : Ends → IsTrue (state old).steady → IsTrue (shown before).steady
      → (LacksOne (state old).files (inputs_in command) → ⊥)
      → (is_finished status ≡ true) ⊎ (status ≡ Memory)
  run-steady (room is same kept) s k lacks = inr is
  run-steady (unread is some same kept rose lack) s k lacks = absurd (lacks (lack s))
  run-steady (cut_short cut same (inl (is, rose, not))) s k lacks = absurd (not s)
  run-steady (cut_short cut same (inr is)) s k lacks = inr is
  run-steady (whole read are long saved does is) s k lacks = inl (ap is_finished is ∙ outcome-finished command read)
  run-steady (put_fault short is) s k lacks = absurd (short.puts.steady k refl)
  run-steady (put_memory short is) s k lacks = inr is

  -- what the rules say of a command's run that puts its whole text
  pub record RunObeys (c : CommandLineView) : Type 0 where
    pub read : List (List ℕ)
    pub o : AnswerView
    pub right : Obeys c read o
    pub answer : status ≡ o.status
    pub input : (status ≡ Refused) ↔ IsRefusedCommand c read
    pub does : DoesRun state history shown taken (readings (inputs_of c)) read o old before new after

  pub run-obeys : Ends → (c : CommandLineView) → command ≡ Some c → is_finished status ≡ true → RunObeys c
  run-obeys ends c asks h =
      let f = done ends h in
      let long : length f.read ≡ length (inputs_of c) =
      f.long ∙ (ap (λ x. length (inputs_in x)) asks ∙ readings-long (inputs_of c)) in
      let is : status ≡ (command_outcome c f.read).status = f.is ∙ ap (λ x. (outcome_in x f.read).status) asks in
      let exactly = refused-exactly c f.read long in
      record {
        read = f.read;
        o = command_outcome c f.read;
        right = obeys c f.read long
            (bytes-serve c f.read (read-bytes (state old).files (inputs_in command) f.read f.are));
        answer = is;
        input = (λ e. exactly.0 (sym is ∙ e), λ r. is ∙ exactly.1 r);
        does = subst
            (λ x. DoesRun state history shown taken (inputs_in x) f.read
            (outcome_in x f.read) old before new after) asks f.does;
      }
