-- What a line `law session=staged` brings to the laws on staged sessions.
use Rattle.std.proofs.Common.{◌≡◌, List, ◌∷◌, ◌++◌}
use Rattle.pico_board.specs.declared.Step.{Step}
use Rattle.pico_board.specs.declared.boot.BootKind.TheVariants.{Normal}
use Rattle.pico_board.specs.declared.boot.Cpu.{Cpu}
use Rattle.pico_board.specs.declared.window.Window.{Window}
use Rattle.pico_board.specs.Content.{Content, IsContent}
use Rattle.pico_board.specs.Steps.{Torn, after_all}
use Rattle.boot_rules.specs.Choosing.{decision_in}
use Rattle.boot_rules.proofs.DecisionLemmas.{decision-chosen}
use Rattle.boot_script.specs.Events.{EventView}
use Rattle.boot_sweep.specs.Firms.{Stray}
use Rattle.check_laws.specs.declared.found.SessionFound.TheVariants as found
use Rattle.check_laws.specs.Hosts.{first_content}
use Rattle.check_laws.specs.SessionLaws.{IsSessionLaw, host_steps}
use Rattle.check_laws.proofs.FirstLemmas.{first-content}
use Rattle.check_laws.proofs.LawLemmas.{staged-told, starts-outside}
use Rattle.law_staged.specs.Staged.{StagedSession, StartsAsBefore}
use Rattle.law_staged.proofs.StagedLemmas.{staged-cut, staged-torn}

staged-session : (c : Content) (cpu : Cpu) (events : List EventView) (w : Window) → IsContent c
    → IsSessionLaw c cpu events (found.Staged w)
    → StagedSession (first_content c cpu) w cpu (host_steps c cpu events) (decision_in (first_content c cpu) cpu Normal)
staged-session c cpu events w right told =
    let law = staged-told c cpu events w told in record {
      right = first-content c cpu right;
      boot_member = law.0.keeps.slot.boot_member;
      former = decision-chosen (first_content c cpu) cpu Normal;
      elsewhere = starts-outside (first_content c cpu) cpu (host_steps c cpu events) w law.0;
      staged = law.1;
    }

pub told-cut : (c : Content) (cpu : Cpu) (events : List EventView) (w : Window) (done others : List Step) (step : Step)
    → IsContent c → IsSessionLaw c cpu events (found.Staged w) → host_steps c cpu events ≡ done ++ step ∷ others
    → StartsAsBefore (first_content c cpu) (after_all (first_content c cpu) done) cpu
    (decision_in (first_content c cpu) cpu Normal)
told-cut c cpu events w done others step right told split =
    staged-cut (first_content c cpu) w cpu (host_steps c cpu events) done others step
    (decision_in (first_content c cpu) cpu Normal) (staged-session c cpu events w right told) split

pub told-torn : (c : Content) (cpu : Cpu) (events : List EventView) (w : Window) (done others : List Step)
    (first step next : Step) (d : Content) → IsContent c → IsSessionLaw c cpu events (found.Staged w)
    → host_steps c cpu events ≡ (first ∷ done) ++ step ∷ next ∷ others
    → Torn (after_all (first_content c cpu) (first ∷ done)) step d
    → (Stray (after_all (first_content c cpu) (host_steps c cpu events)) d w → ⊥)
    → StartsAsBefore (first_content c cpu) d cpu (decision_in (first_content c cpu) cpu Normal)
told-torn c cpu events w done others first step next d right told split torn clean =
    staged-torn (first_content c cpu) w cpu (host_steps c cpu events) done others first step next d
    (decision_in (first_content c cpu) cpu Normal) (staged-session c cpu events w right told) split torn clean
