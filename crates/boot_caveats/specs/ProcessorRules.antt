-- Which images that a boot comes to are for the other processor, as rules.
use Rattle.std.specs.Prelude.{◌≡◌, ◌⊎◌, List, [], ◌∷◌, ◌++◌, map, Contains, Err}
use Rattle.pico_board.specs.declared.boot.Cpu.{Cpu}
use Rattle.pico_board.specs.declared.boot.BootKind.{BootKind}
use Rattle.pico_board.specs.declared.window.Window.{Window}
use Rattle.pico_board.specs.Content.{Content}
use Rattle.image_def.specs.declared.started.Started.{Started}
use Rattle.image_check.specs.declared.why.Why.{Why}
use Rattle.image_check.specs.Valid.{Valid}
use Rattle.boot_rules.specs.declared.decision.Decision.{Decision}
use Rattle.boot_rules.specs.declared.decision.Decision.TheVariants.{Bootsel}
use Rattle.boot_rules.specs.declared.decision.Fall.TheVariants.{NoImage}
use Rattle.boot_rules.specs.Chosen.{Chosen}
use Rattle.slot_caveats.specs.declared.caveat.Caveat.{Caveat}
use Rattle.slot_caveats.specs.declared.caveat.Caveat.TheVariants.{OtherProcessor}
use Rattle.slot_caveats.specs.Listing.{IsOfOne}
use Rattle.boot_caveats.specs.ChoiceCaveats.{other_cpu}
use Rattle.boot_caveats.specs.ChoiceRules.{StartsIn}
use Rattle.boot_caveats.specs.ProcessorCaveats.{LookedMember}

-- a member has no image that counts, and its window is valid for the other processor, with trial
-- allowed exactly where it is for the processor
pub record IsOther (c : Content) (cpu : Cpu) (m : LookedMember) : Type 0 where
  pub why : Why
  pub image : Started
  pub lacks : m.image ≡ Err why
  pub valid : Valid c m.window (other_cpu cpu) m.trial image

-- the windows of such members, in their order
abbrev pub AreOthers : Content → Cpu → List LookedMember → List Window → Type 0
AreOthers c cpu [] ws = ws ≡ []
AreOthers c cpu (m ∷ ms) ws =
    (IsOther c cpu m
    × ((rest : List Window) × (ws ≡ m.window ∷ rest) × AreOthers c cpu ms rest))
    ⊎ ((IsOther c cpu m → ⊥) × AreOthers c cpu ms ws)

-- the decision is that no image starts; the decision of the same kind for the other processor is a
-- start of the image of a window that is none of these
abbrev pub IsOtherStart : Content → Cpu → BootKind → Decision → List Window → List Caveat → Type 0
IsOtherStart c cpu kind d ws =
    IsOfOne
    (λ w. (d ≡ Bootsel NoImage)
    × ((other : Decision) × Chosen c (other_cpu cpu) kind other × StartsIn other w)
    × (Contains ws w → ⊥))
    OtherProcessor

-- first the windows of such members, and then that of the decision for the other processor
abbrev pub AreOtherProcessors : Content → Cpu → BootKind → Decision → List LookedMember
    → List Caveat → Type 0
AreOtherProcessors c cpu kind d members list =
    (ws : List Window) × (rest : List Caveat) × AreOthers c cpu members ws
    × IsOtherStart c cpu kind d ws rest × (list ≡ map OtherProcessor ws ++ rest)
