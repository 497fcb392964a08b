-- By computing.
use Rattle.std.proofs.Common.{◌≡◌, false, None, Some, refl, sym, ◌∙◌, arith}
use Rattle.std.specs.Prelude.{slice_index}
use Rattle.std.proofs.Math.Dec.{lit≤}
use Rattle.boot_rules.specs.Tables.{table_in}
use Rattle.boot_rules.specs.Choosing.{decision_in}
use Rattle.image_check.specs.Image.{image_in}
use Rattle.image_def.specs.Definition.{def_of}
use Rattle.block_loop.specs.Loop.{loop_of, follow, block_from}
use Rattle.block_codec.specs.Blocks.{frame}
use Rattle.block_codec.specs.Reading.{block_at, front_block, item_words}
use Rattle.block_codec.specs.Items.{size_of}
use Rattle.block_codec.specs.Words.{word_of, word_bytes}
use Rattle.pico_board.specs.declared.boot.Cpu.TheVariants.{Arm}
use Rattle.pico_board.specs.declared.boot.BootKind.TheVariants.{Normal}
use Rattle.pico_board.specs.declared.window.Window.{Window}
use Rattle.pico_board.specs.Content.{window_bytes}
use Rattle.image_def.specs.declared.started.Started.{Started}
use Rattle.image_check.specs.Changes.{bought}
use Rattle.image_check.specs.SameImage.{SameImage}
use Rattle.image_check.specs.Valid.{Valid}
use Rattle.image_check.proofs.LawLemmas.{same-image, valid-at, valid-holds}
use Rattle.image_check.proofs.SameLemmas.{same-storage}
use Rattle.slot_choice.specs.Examples.{window_at}
use Rattle.boot_rules.specs.declared.decision.Decision.TheVariants.{Bootsel, Start}
use Rattle.boot_rules.specs.declared.decision.Fall.TheVariants.{NoImage}
use Rattle.boot_rules.specs.Chosen.{Chosen}
use Rattle.boot_rules.specs.Picking.{pick}
use Rattle.boot_rules.proofs.DecisionLemmas.{chosen-exactly}
use Rattle.worked_flashes.specs.Flashes.{bare_sector, plain_sector, whole_flash_of}
use Rattle.worked_flashes.specs.Choices.{running_trial}
use Rattle.law_boot_cuts.specs.Examples.{whole_unit}
use Rattle.law_boot_cuts.specs.Crashes.{settled_choice}
use Rattle.law_boot_cuts.proofs.examples.both_have_the_bought_image.Goals as goal

abbrev whole : Window
whole = window_at 0 0x2000

abbrev image : Started
image = bought running_trial.image

starts-there : decision_in (whole_flash_of (plain_sector 0)) Arm Normal ≡ Start (settled_choice running_trial)
unfolding table_in decision_in image_in def_of loop_of follow block_from block_at front_block item_words frame size_of
    word_of word_bytes
starts-there = refl

starts-bare : decision_in (whole_flash_of bare_sector) Arm Normal ≡ Bootsel NoImage
unfolding table_in decision_in image_in def_of loop_of follow block_from block_at front_block item_words frame size_of
    word_of word_bytes
starts-bare = refl

pick-there : pick (whole_flash_of (plain_sector 0)) whole_unit Arm ≡ Some image
unfolding table_in decision_in image_in def_of loop_of follow block_from block_at front_block item_words frame size_of
    word_of word_bytes
pick-there = refl

pick-bare : pick (whole_flash_of bare_sector) whole_unit Arm ≡ None
unfolding table_in decision_in image_in def_of loop_of follow block_from block_at front_block item_words frame size_of
    word_of word_bytes
pick-bare = refl

valid-there : Valid (whole_flash_of (plain_sector 0)) whole Arm false image
unfolding table_in decision_in image_in def_of loop_of follow block_from block_at front_block item_words frame size_of
    word_of word_bytes
valid-there = valid-at (whole_flash_of (plain_sector 0)) whole Arm false image refl

chosen-there : Chosen (whole_flash_of (plain_sector 0)) Arm Normal (Start (settled_choice running_trial))
chosen-there = (chosen-exactly (whole_flash_of (plain_sector 0)) Arm Normal (Start (settled_choice running_trial))).1
    (sym starts-there)

same-there : SameImage (whole_flash_of (plain_sector 0)) (whole_flash_of (plain_sector 0)) image Arm
same-there = same-image (whole_flash_of (plain_sector 0)) (whole_flash_of (plain_sector 0)) image Arm
    (valid-holds (whole_flash_of (plain_sector 0)) whole Arm false image valid-there) refl

never-bare : Chosen (whole_flash_of bare_sector) Arm Normal (Start (settled_choice running_trial)) → ⊥
never-bare h =
    let e : Start (settled_choice running_trial) ≡ Bootsel NoImage =
    (chosen-exactly (whole_flash_of bare_sector) Arm Normal (Start (settled_choice running_trial))).0 h ∙ starts-bare
    in cc

never-picked : pick (whole_flash_of bare_sector) whole_unit Arm ≡ Some image → ⊥
never-picked h = let e : Some image ≡ None = sym h ∙ pick-bare in cc

last-byte : SameImage (whole_flash_of (plain_sector 0)) (whole_flash_of (plain_sector 1)) image Arm → ⊥
unfolding table_in decision_in image_in def_of loop_of follow block_from block_at front_block item_words frame size_of
    word_of word_bytes
last-byte same =
    let one = window_bytes (whole_flash_of (plain_sector 0)) whole in
    let two = window_bytes (whole_flash_of (plain_sector 1)) whole in
    let agree = same-storage Arm one two image same _ refl _ refl in
    let e : slice_index two 0xfff ≡ slice_index one 0xfff = agree 0xfff (lit≤ tt) (lit≤ tt) in
    absurd (omega (arith, e))

pub returns-clause-starts : goal.returns-clause-starts
returns-clause-starts c = record { here = chosen-there; after = chosen-there; same = same-there }

pub returns-clause-not_here : goal.returns-clause-not_here
returns-clause-not_here c = λ both. never-bare both.here

pub returns-clause-not_after : goal.returns-clause-not_after
returns-clause-not_after c = λ both. never-bare both.after

pub returns-clause-not_same : goal.returns-clause-not_same
returns-clause-not_same c = λ both. last-byte both.same

pub returns-clause-picked : goal.returns-clause-picked
returns-clause-picked c = record { here = pick-there; after = pick-there; same = same-there }

pub returns-clause-not_picked : goal.returns-clause-not_picked
returns-clause-not_picked c = λ both. never-picked both.here

pub returns-clause-not_picked_after : goal.returns-clause-not_picked_after
returns-clause-not_picked_after c = λ both. never-picked both.after

pub returns-clause-not_picked_same : goal.returns-clause-not_picked_same
returns-clause-not_picked_same c = λ both. last-byte both.same
