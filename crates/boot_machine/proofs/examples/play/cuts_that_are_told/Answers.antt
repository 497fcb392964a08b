-- By computing.
use Rattle.std.proofs.Common.{refl, inl, inr}
use Rattle.std.specs.Fmt.{padded_integral, digits, char_count}
use Rattle.pico_board.specs.declared.Step.TheVariants.{Erase}
use Rattle.pico_board.specs.Content.{IsContent}
use Rattle.pico_board.specs.Steps.{after}
use Rattle.pico_board.proofs.ContentLemmas.{flash_bytes-after}
use Rattle.pico_board.proofs.TornStepLemmas.{Torn-before}
use Rattle.boot_machine.specs.Examples.{erased_flash}
use Rattle.worked_flashes.proofs.ContentLemmas.{all_below, content-by}
use Rattle.boot_machine.proofs.examples.play.cuts_that_are_told.Goals as goal

right : IsContent erased_flash
unfolding all_below
right = content-by erased_flash 0x2000 refl refl refl refl refl refl refl

pub returns-clause-before : goal.returns-clause-before
unfolding padded_integral digits char_count
returns-clause-before c = inr (record {
  content = inl (Torn-before erased_flash (Erase 0) right.flash_bytes);
  armed_cut = record { answer = refl; left = refl; next = refl };
  cpu = refl;
  place = refl;
  told = refl;
})

pub returns-clause-second : goal.returns-clause-second
unfolding padded_integral digits char_count
returns-clause-second c = inr (record {
  content =
      inr (inl (Torn-before (after erased_flash (Erase 0)) (Erase 1)
      (flash_bytes-after erased_flash (Erase 0) right.flash_bytes)));
  armed_cut = record { answer = refl; left = refl; next = refl };
  cpu = refl;
  place = refl;
  told = refl;
})

pub returns-clause-behind : goal.returns-clause-behind
unfolding padded_integral digits char_count
returns-clause-behind c = inl (record {
  content = refl;
  armed_cut = record { answer = refl; left = refl; next = refl };
  cpu = refl;
  place = refl;
  told = refl;
})
