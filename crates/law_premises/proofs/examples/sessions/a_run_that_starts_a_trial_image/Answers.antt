-- By computing.
use Rattle.std.proofs.Common.{◌≡◌, List, [], ◌∷◌, None, refl, subst}
use Rattle.std.specs.Fmt.{padded_integral, digits, char_count}
use Rattle.pico_board.specs.declared.boot.BootKind.TheVariants.{Update}
use Rattle.pico_board.specs.declared.boot.Cpu.TheVariants.{Arm}
use Rattle.block_codec.specs.Blocks.{frame}
use Rattle.block_codec.specs.Items.{size_of}
use Rattle.block_codec.specs.Reading.{block_at, front_block, item_words}
use Rattle.block_codec.specs.Words.{word_bytes, word_of}
use Rattle.block_loop.specs.Loop.{block_from, follow, loop_of}
use Rattle.image_def.specs.Definition.{def_of}
use Rattle.image_check.specs.Image.{image_in}
use Rattle.boot_rules.specs.Choosing.{decision_in}
use Rattle.boot_rules.specs.Tables.{table_in}
use Rattle.boot_script.specs.Events.{EventView}
use Rattle.boot_machine.specs.Machines.{MachineView}
use Rattle.boot_machine.specs.Moves.{Plays}
use Rattle.boot_machine.specs.Plays.{IsTelling, moved_machine, played, powerless}
use Rattle.worked_flashes.proofs.ContentLemmas.{all_below, below-all}
use Rattle.law_premises.specs.Examples.{trial_flash, trial_machine}
use Rattle.law_premises.proofs.examples.sessions.a_run_that_starts_a_trial_image.Goals as goal

abbrev start : MachineView
start = powerless trial_flash Arm

abbrev events : List EventView
events = EventView.PowerOn ∷ EventView.Reset (Update 0x10000000) ∷ []

telling : IsTelling start
unfolding all_below word_bytes
telling = record { cut = None; told = refl; pattern = tt; flash = below-all 256 trial_flash.flash refl }

last : (played start events).last ≡ trial_machine
unfolding moved_machine decision_in padded_integral digits char_count table_in image_in def_of loop_of follow block_from
    block_at front_block item_words frame size_of word_of word_bytes
last = refl

pub returns : goal.returns
returns c = record {
  events = events;
  outcomes = (played start events).outcomes;
  fresh = tt;
  plays =
      subst (λ (n : MachineView). Plays start events n (played start events).outcomes) last
      (c.told_plays_are_determined.ensures.plays start events telling (tt, (tt, tt)));
  runs = refl;
  trial = refl;
}
