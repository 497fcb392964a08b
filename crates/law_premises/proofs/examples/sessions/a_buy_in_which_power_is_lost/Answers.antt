-- By computing.
use Rattle.std.proofs.Common.{◌≡◌, ◌<◌, ℕ, List, [], ◌∷◌, false, Err, Ok, None, Some, inl, inr, refl, sym, subst, arith, ◌∙◌, All}
use Rattle.std.specs.Fmt.{padded_integral, digits, char_count}
use Rattle.std.proofs.lemmas.Option.{none-some}
use Rattle.pico_board.specs.declared.Step.TheVariants.{Erase}
use Rattle.pico_board.specs.declared.boot.BootKind.TheVariants.{Update}
use Rattle.pico_board.specs.declared.boot.Cpu.TheVariants.{Arm}
use Rattle.pico_board.specs.declared.window.Window.{Window}
use Rattle.pico_board.specs.Content.{Content, IsContent}
use Rattle.pico_board.specs.Steps.{IsCutAt, after}
use Rattle.block_codec.specs.Blocks.{frame}
use Rattle.block_codec.specs.Items.{size_of}
use Rattle.block_codec.specs.Reading.{block_at, front_block, item_words}
use Rattle.block_codec.specs.Words.{word_bytes, word_of}
use Rattle.block_loop.specs.Loop.{block_from, follow, loop_of}
use Rattle.image_def.specs.Definition.{def_of}
use Rattle.image_check.specs.declared.why.Why.TheVariants.{NoBlock}
use Rattle.image_check.specs.Image.{image_at, image_in}
use Rattle.image_check.proofs.LawLemmas.{at-valid}
use Rattle.trial_buy.specs.Buying.{page_programs}
use Rattle.boot_rules.specs.AccidentalImages.{HasNoAccidentalImage}
use Rattle.boot_rules.specs.Choosing.{decision_in}
use Rattle.boot_rules.specs.Starts.{IsOfUnit}
use Rattle.boot_rules.specs.Tables.{table_in}
use Rattle.boot_rules.proofs.AccidentalImageLemmas.{empty-free}
use Rattle.boot_script.specs.Events.{EventView}
use Rattle.text_lines.specs.declared.outcome.EventOutcome.{EventOutcome}
use Rattle.text_lines.specs.declared.outcome.EventOutcome.TheVariants.{PowerLost}
use Rattle.boot_machine.specs.Machines.{MachineView}
use Rattle.boot_machine.specs.Moves.{Moves, Plays}
use Rattle.boot_machine.specs.Plays.{IsTelling, moved_machine, played, powerless}
use Rattle.law_boot_cuts.specs.Crashes.{IsUnitWindow}
use Rattle.law_boot_cuts.specs.Examples.{whole_unit}
use Rattle.law_boot_cuts.specs.Running.{buys}
use Rattle.worked_flashes.specs.Choices.{running_trial}
use Rattle.worked_flashes.proofs.ContentLemmas.{all_below, content-by, torn-before}
use Rattle.law_premises.specs.Examples.{armed_machine, first_program, lost_machine, trial_flash}
use Rattle.law_premises.proofs.examples.sessions.a_buy_in_which_power_is_lost.Goals as goal

abbrev start : MachineView
start = powerless trial_flash Arm

abbrev events : List EventView
events = EventView.PowerOn ∷ EventView.Reset (Update 0x10000000) ∷ EventView.Cut 1 false [] ∷ []

right : IsContent trial_flash
unfolding all_below word_bytes
right = content-by trial_flash 0x2000 refl refl refl refl refl refl refl

no-bytes : All (λ b. b < 256) []
no-bytes = λ i d lt. absurd (omega (arith, lt))

telling : IsTelling start
telling = record { cut = None; told = refl; pattern = tt; flash = right.flash_bytes }

telling-armed : IsTelling armed_machine
telling-armed = record {
  cut = Some (record { left = 1; within = false; pattern = [] });
  told = refl;
  pattern = no-bytes;
  flash = right.flash_bytes;
}

last : (played start events).last ≡ armed_machine
unfolding moved_machine decision_in padded_integral digits char_count table_in image_in def_of loop_of follow block_from
    block_at front_block item_words frame size_of word_of word_bytes
last = refl

next : (moved_machine armed_machine EventView.Buy).next ≡ lost_machine
unfolding moved_machine page_programs word_bytes
next = refl

told : (moved_machine armed_machine EventView.Buy).outcome ≡ PowerLost
unfolding moved_machine page_programs word_bytes
told = refl

unit : IsOfUnit trial_flash Arm running_trial whole_unit
unfolding table_in loop_of follow block_from block_at front_block item_words frame size_of word_of word_bytes
unit = record { place = 0; tried = refl; stands = refl; other = refl }

cut : IsCutAt trial_flash (buys armed_machine running_trial) 1 first_program lost_machine.content
unfolding page_programs
cut = record { stands = refl; torn = torn-before (after trial_flash (Erase 0)) lost_machine.content _ _ refl }

no-table : table_in trial_flash ≡ None
unfolding table_in loop_of follow block_from block_at front_block item_words frame size_of word_of word_bytes
no-table = refl

no-table-left : table_in lost_machine.content ≡ None
unfolding table_in loop_of follow block_from block_at front_block item_words frame size_of word_of word_bytes
no-table-left = refl

none : image_at lost_machine.content running_trial.image.window Arm false ≡ Err NoBlock
unfolding image_in def_of loop_of follow block_from block_at front_block item_words frame size_of word_of word_bytes
none = refl

lone : (z : Content) → HasNoAccidentalImage trial_flash z lost_machine.content running_trial.image.window Arm
lone z = empty-free trial_flash z lost_machine.content running_trial.image.window Arm (no-table-left ∙ sym no-table)
    (λ s valid.
    let e : Err NoBlock ≡ Ok s = sym none ∙ at-valid lost_machine.content running_trial.image.window Arm false s valid
    in cc)

in-unit : (z : Content) (v : Window) → IsUnitWindow running_trial v
    → HasNoAccidentalImage trial_flash z lost_machine.content v Arm
in-unit z v (inl is) =
    subst (λ (w : Window). HasNoAccidentalImage trial_flash z lost_machine.content w Arm) (sym is) (lone z)
in-unit z v (inr other) = absurd (none-some v other)

pub returns : goal.returns
returns c =
    let moved = (c.told_moves_are_determined.ensures.moves armed_machine EventView.Buy telling-armed tt).0 in
    let lost : Moves armed_machine EventView.Buy lost_machine PowerLost =
    subst (λ (n : MachineView). Moves armed_machine EventView.Buy n PowerLost) next
    (subst (λ (outcome : EventOutcome). Moves armed_machine EventView.Buy (moved_machine armed_machine EventView.Buy).next
    outcome) told moved) in
    record {
      run = record {
        events = events;
        outcomes = (played start events).outcomes;
        fresh = tt;
        plays =
            subst (λ (n : MachineView). Plays start events n (played start events).outcomes) last
            (c.told_plays_are_determined.ensures.plays start events telling (tt, (tt, (no-bytes, tt))));
        runs = refl;
        trial = refl;
      };
      content = right;
      lost = lost;
      unit = unit;
      place = 1;
      cut = cut;
      no_accident = λ v is confined. in-unit _ v is;
    }
