use Rattle.std.proofs.Common.{◌≡◌, ◌∙◌, Bool, false, List, [], ◌∷◌, Option, Some, None, ap}
use Rattle.std.specs.Prelude.{if◌then◌else◌}
use Rattle.std.proofs.lemmas.List.Elements.{All-from_recursion}
use Rattle.pico_board.specs.declared.Step.{Step}
use Rattle.pico_board.specs.declared.boot.BootKind.TheVariants.{Normal}
use Rattle.pico_board.specs.Content.{Content}
use Rattle.pico_board.specs.Cuts.{Cut, cut_with}
use Rattle.slot_choice.specs.declared.choice.Choice.{Choice}
use Rattle.trial_buy.specs.Buying.{buy_steps}
use Rattle.text_lines.specs.declared.outcome.EventOutcome.TheVariants as event_outcomes
use Rattle.boot_machine.specs.Machines.{FromFlash, Running}
use Rattle.boot_machine.specs.Moves.{bought_choice, stays_with}
use Rattle.boot_tape.specs.CutMoves.{cut_moves}
use Rattle.boot_tape.specs.Moving.{done_steps}
use Rattle.check_laws.specs.OwnLaws.{BootMade, BuyMade}
use Rattle.check_laws.proofs.examples.writes.boots_and_buys_of_a_script.Goals as goal

-- the boot, and the buy, that does what is done of these steps
boots : Content → Option Cut → List Step → List BootMade
boots c cut steps =
    record { before = c; kind = Normal; done = done_steps (cut_moves cut steps).moves } ∷ []

buys : Content → Choice → List Step → List BuyMade
buys c choice steps = record {
  before = c;
  choice = choice;
  done = done_steps (cut_moves (Some (cut_with 1 false [])) steps).moves;
} ∷ []

pub returns-clause-boot : goal.returns-clause-boot
unfolding boots
returns-clause-boot c = λ content cpu one two does. ap (boots content None) does

pub returns-clause-cut : goal.returns-clause-cut
unfolding boots
returns-clause-cut c = λ content cpu one two does. ap (boots content (Some (cut_with 1 false []))) does

pub returns-clause-buy : goal.returns-clause-buy
unfolding buys
returns-clause-buy c = λ content cpu choice one two trial does.
    ap (λ (b : Bool). buys content choice (if b then record {
      steps = buy_steps content cpu choice;
      place = Running (FromFlash (bought_choice choice));
      outcome = event_outcomes.Bought;
    } else stays_with (Running (FromFlash choice)) event_outcomes.NothingToBuy).steps) trial
    ∙ ap (buys content choice) does

pub returns-clause-boots : goal.returns-clause-boots
returns-clause-boots c = λ content cpu. All-from_recursion (λ (b : BootMade). b.done ≡ []) [] tt

pub returns-clause-buys : goal.returns-clause-buys
returns-clause-buys c = λ content cpu. All-from_recursion (λ (b : BuyMade). b.done ≡ []) [] tt
