-- What is found on the boards before a script and after it is what the functions say of its trace.
use Rattle.std.proofs.Common.{◌≡◌, ◌∙◌, ℕ, ◌<◌, ◌^◌, List, length, refl, ap, arith}
use Rattle.std.proofs.lemmas.List.{length-map}
use Rattle.pico_board.specs.declared.Step.{Step}
use Rattle.pico_board.specs.declared.boot.Cpu.{Cpu}
use Rattle.pico_board.specs.declared.boot.BootKind.TheVariants.{Normal}
use Rattle.pico_board.specs.Content.{Content}
use Rattle.pico_board.specs.MemBoard.{state_of}
use Rattle.boot_rules.specs.declared.decision.Decision.{Decision}
use Rattle.boot_rules.specs.Choosing.{decision_in}
use Rattle.boot_script.specs.Events.{EventView}
use Rattle.boot_machine.specs.Plays.{powerless}
use Rattle.cut_class.specs.declared.class.Class.{Class}
use Rattle.boot_cuts.specs.Answers.{end_answer}
use Rattle.boot_sweep.specs.Moving.{MoveView}
use Rattle.boot_tape.specs.declared.notes.Note.{Note}
use Rattle.boot_tape.specs.declared.trace.Trace.{Trace}
use Rattle.boot_tape.specs.Moving.{moves_from}
use Rattle.boot_tape.specs.Playing.{IsTraceOf}
use Rattle.boot_tape.specs.Traces.{Traced, trace, trace_steps}
use Rattle.check_data.specs.declared.found.DataWindow.{DataWindow}
use Rattle.check_data.specs.Loose.{loose_bytes, loose_in}
use Rattle.check_data.specs.Windows.{data_windows, data_windows_by}
use Rattle.check_laws.specs.OwnLaws.{BootMade, BuyMade, IsBootKept, IsBootLaw, IsBuyKept, IsBuyLaw, boot_kept, boots_in, buys_in, raises_own}
use Rattle.check_laws.proofs.MadeLemmas.{boot-law, buy-law}
use Rattle.check_laws.proofs.WriteLawLemmas.{one-law}
use Rattle.check_require.specs.declared.report.LawOfWrites.{LawOfWrites}
use Rattle.cli_check.specs.Finding.{images_by, images_of, loose_of, windows_of, writes_of}
use Rattle.cli_check.specs.Findings.{ImagesView}

-- the laws of the writes of boots and of buys
pub boot-told : (c : Content) (cpu : Cpu) (events : List EventView) (law : LawOfWrites) → IsBootLaw c cpu events law
    → law ≡ (writes_of c cpu events).boot
boot-told c cpu events law is =
    one-law (λ (made : BootMade). made.done) (λ made. boot_kept made.before cpu made.kind made.done) (IsBootKept cpu)
    (boots_in (powerless c cpu) events) law (writes_of c cpu events).boot is
    (boot-law c cpu events (writes_of c cpu events) refl)

pub buy-told : (c : Content) (cpu : Cpu) (events : List EventView) (law : LawOfWrites) → IsBuyLaw c cpu events law
    → law ≡ (writes_of c cpu events).buy
buy-told c cpu events law is =
    one-law (λ (made : BuyMade). made.done) (λ made. raises_own made.before cpu made.choice.image made.done)
    (IsBuyKept cpu) (buys_in (powerless c cpu) events) law (writes_of c cpu events).buy is
    (buy-law c cpu events (writes_of c cpu events) refl)

-- of a trace that is that of a script
module _ (c : Content) (cpu : Cpu) (events : List EventView) (t : Trace) (is : IsTraceOf c cpu events t) where
  abbrev z : Content
  z = (state_of t.board).content

  -- its steps are few
  pub steps-few : (steps : List Step) → steps ≡ trace_steps (trace c cpu events).done → length steps < 2 ^ 32
  steps-few steps same =
      let long : length steps ≡ length (trace c cpu events).done =
      ap (λ (xs : List Step). length xs) same ∙ length-map (trace c cpu events).done (λ (t : Traced). t.step) in
      let short = is.short in
      omega (arith, long, short)

  -- the windows with data
  pub windows-told : (former finished : Decision) (moves : List MoveView) (told : List DataWindow)
      → former ≡ decision_in c cpu Normal → finished ≡ decision_in z cpu Normal → moves ≡ moves_from t.moves.items
      → told ≡ data_windows_by moves c z former finished → told ≡ windows_of c cpu events
  windows-told former finished moves told first last same found =
      found
      ∙ (ap (λ d. data_windows_by moves c z d finished) first
      ∙ (ap (λ d. data_windows_by moves c z (decision_in c cpu Normal) d) last
      ∙ (ap (λ ms. data_windows c z cpu ms) (same ∙ is.moves)
      ∙ ap (λ (x : Content). data_windows c x cpu (trace c cpu events).moves) is.content)))

  -- the loose bytes
  pub loose-told : (finished : Decision) (moves : List MoveView) (told : List ℕ) → finished ≡ decision_in z cpu Normal
      → moves ≡ moves_from t.moves.items → told ≡ loose_in z cpu moves finished
      → told ≡ loose_of c cpu events
  loose-told finished moves told last same found =
      found
      ∙ (ap (loose_in z cpu moves) last
      ∙ (ap (λ ms. loose_bytes z cpu ms) (same ∙ is.moves)
      ∙ ap (λ (x : Content). loose_bytes x cpu (trace c cpu events).moves) is.content))

  -- what the script does to the images
  pub images-told : (found : ImagesView) (class : Class) → class ≡ (end_answer c cpu events).class
      → found ≡ images_by c z cpu (moves_from t.moves.items) t.notes.items class → found ≡ images_of c cpu events
  images-told found class ends told =
      told
      ∙ (ap (λ (x : Content). images_by c x cpu (moves_from t.moves.items) t.notes.items class) is.content
      ∙ (ap (λ (ms : List MoveView). images_by c (trace c cpu events).last cpu ms t.notes.items class) is.moves
      ∙ (ap (λ (ns : List Note). images_by c (trace c cpu events).last cpu (trace c cpu events).moves ns class) is.notes
      ∙ ap (λ (k : Class). images_by c (trace c cpu events).last cpu (trace c cpu events).moves
      (trace c cpu events).notes k) ends)))
