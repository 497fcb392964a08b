-- The work of a replay is right by the rules.
use Rattle.std.proofs.Common.{◌≡◌, ℕ, ◌-◌, ◌<◌, ◌++◌, replicate, ◌∙◌, List, length, None, refl, sym, ap, arith}
use Rattle.std.proofs.lemmas.List.Elements.{All-append, All-replicate}
use Rattle.pico_board.specs.declared.boot.Cpu.{Cpu}
use Rattle.pico_board.specs.Content.{Content}
use Rattle.boot_script.specs.Scripts.{events_read, script_events}
use Rattle.boot_script.proofs.WalkLemmas.{events-read}
use Rattle.cli_course.specs.declared.status.Status.TheVariants.{Done}
use Rattle.cli_course.specs.Outcomes.{AreBytes, AnswerView, worked}
use Rattle.cli_inputs.specs.declared.forms.Form.TheVariants.{Script}
use Rattle.cli_inputs.specs.Forms.{HasForm, content_of_files, filled_flash, filled_length}
use Rattle.cli_inputs.specs.Rules.{IsByRules}
use Rattle.cli_inputs.proofs.WorkLemmas.{same-outcome, never-refuses}
use Rattle.boot_machine.specs.Plays.{Played, played, powerless}
use Rattle.cli_scripts.specs.ReplayWorks.{event_lines, end_line, content_files, replay_work}
use Rattle.cli_scripts.specs.ReplayRules.{IsReplayOf}
use Rattle.boot_machine.proofs.PlayLemmas.{plays-only}
use Rattle.boot_machine.proofs.TornLemmas.{played-plays}
use Rattle.cli_scripts.proofs.TornLemmas.{script-bytes}

-- a flash that is filled is of bytes
filled-bytes : (f : List ℕ) → AreBytes f → AreBytes (filled_flash f)
unfolding filled_flash
filled-bytes f small =
    All-append (λ b. b < 256) f (replicate (filled_length (length f) - length f) 255) small
    (All-replicate (λ b. b < 256) (filled_length (length f) - length f) 255 (omega arith))

replay-right : (f g s out_flash out_otp : List ℕ) (cpu : Cpu) → AreBytes f → AreBytes s → HasForm Script s
    → IsReplayOf (content_of_files f g) cpu s out_flash out_otp
    (worked (replay_work (content_of_files f g) cpu s out_flash out_otp))
replay-right f g s out_flash out_otp cpu small of form =
    let reads = events-read s form in record {
      happened = script_events s;
      reads = reads;
      last = (played (powerless (content_of_files f g) cpu) (script_events s)).last;
      outcomes = (played (powerless (content_of_files f g) cpu) (script_events s)).outcomes;
      plays = played-plays (powerless (content_of_files f g) cpu) (script_events s)
          (record { cut = None; told = refl; pattern = tt; flash = filled-bytes f small })
          (script-bytes s (script_events s) of reads);
      status = refl;
      text = refl;
      files = refl;
    }

-- what was played, as an outcome
told-replay : Played → List ℕ → List ℕ → AnswerView
told-replay p flash otp = record {
  status = Done;
  text = event_lines 0 p.outcomes ++ end_line p.last.place;
  files = content_files flash otp p.last.content;
}

replay-only : (c : Content) (cpu : Cpu) (s flash otp : List ℕ) (o : AnswerView) → IsReplayOf c cpu s flash otp o
    → o ≡ worked (replay_work c cpu s flash otp)
unfolding told-replay
replay-only c cpu s flash otp o right =
    let p = plays-only (powerless c cpu) None right.happened right.last right.outcomes refl right.plays in
    let same : right.happened ≡ script_events s = sym (ap events_read right.reads) in
    same-outcome o Done _ _ right.status right.text right.files
    ∙ (ap (λ x. told-replay (record { last = x; outcomes = right.outcomes }) flash otp) p.machine
    ∙ (ap (λ ts. told-replay (record { last = (played (powerless c cpu) right.happened).last; outcomes = ts }) flash otp)
    p.told
    ∙ ap (λ es. told-replay (played (powerless c cpu) es) flash otp) same))

-- `replay` is right by its rules, where its files are of bytes, since power that is lost in an erase leaves bytes
pub replay-works : (f g s out_flash out_otp : List ℕ) (cpu : Cpu) → HasForm Script s
    → IsByRules (AreBytes f × AreBytes s) (replay_work (content_of_files f g) cpu s out_flash out_otp)
    (λ name fault. ⊥) (IsReplayOf (content_of_files f g) cpu s out_flash out_otp)
replay-works f g s out_flash out_otp cpu form =
    never-refuses (AreBytes f × AreBytes s) (replay_work (content_of_files f g) cpu s out_flash out_otp)
    (IsReplayOf (content_of_files f g) cpu s out_flash out_otp)
    (λ small. replay-right f g s out_flash out_otp cpu small.0 small.1 form)
    (replay-only (content_of_files f g) cpu s out_flash out_otp) (λ h. cc)
