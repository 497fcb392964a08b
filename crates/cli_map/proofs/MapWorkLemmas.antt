-- `map` is right by its rules.
use Rattle.std.proofs.Common.{◌≡◌, ℕ, ◌∙◌, List, length, refl, ap}
use Rattle.pico_board.specs.declared.boot.Cpu.{Cpu}
use Rattle.pico_board.specs.Content.{Content, IsContent}
use Rattle.boot_map.specs.declared.maps.FlashMap.{FlashMap}
use Rattle.boot_map.specs.Maps.{map_in}
use Rattle.boot_map.proofs.MapLemmas.{map-only as only-map, map-right as right-map}
use Rattle.cli_course.specs.declared.status.Status.TheVariants.{Done}
use Rattle.cli_course.specs.Outcomes.{AnswerView, worked}
use Rattle.cli_inputs.specs.Rules.{IsByRules}
use Rattle.cli_inputs.proofs.WorkLemmas.{same-outcome, never-refuses}
use Rattle.cli_map.specs.Rules.{IsMapOf}
use Rattle.cli_map.specs.Works.{drawn_work, map_work}

map-right : (c : Content) (cpu : Cpu) (out : List ℕ) → IsContent c → IsMapOf c cpu out (worked (map_work c cpu out))
map-right c cpu out right = record {
  right = right;
  shown = map_in c cpu;
  mapped = right-map c cpu right;
  status = refl;
  text = refl;
  files = refl;
}

map-only : (c : Content) (cpu : Cpu) (out : List ℕ) (o : AnswerView) → IsMapOf c cpu out o
    → o ≡ worked (map_work c cpu out)
map-only c cpu out o is =
    same-outcome o Done _ _ is.status is.text is.files
    ∙ ap (λ (m : FlashMap). worked (drawn_work (length c.flash) m out))
    (only-map c cpu is.shown is.right is.mapped)

-- `map` is right by its rules
pub map-works : (c : Content) (cpu : Cpu) (out : List ℕ)
    → IsByRules (IsContent c) (map_work c cpu out) (λ name fault. ⊥) (IsMapOf c cpu out)
map-works c cpu out =
    never-refuses (IsContent c) (map_work c cpu out) (IsMapOf c cpu out) (map-right c cpu out) (map-only c cpu out)
    (λ h. cc)
