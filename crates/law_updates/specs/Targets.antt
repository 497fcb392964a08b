-- Where the blocks of a script go that is played on two contents, c and d: on c as the host meant
-- it, on d after a loss of power.
use Rattle.std.specs.Prelude.{◌≡◌, ◌⊎◌, ⊤, ℕ, Bool, false, MatchBool, List, [], ◌∷◌, length, Option, Some, None, Result, Ok, Err}
use Rattle.pico_board.specs.declared.boot.Cpu.{Cpu}
use Rattle.pico_board.specs.declared.boot.BootKind.{BootKind}
use Rattle.pico_board.specs.Content.{Content}
use Rattle.pico_board.specs.Steps.{after_all}
use Rattle.uf2_place.specs.declared.block.Uf2.{Uf2}
use Rattle.uf2_place.specs.declared.block.Uf2Fault.{Uf2Fault}
use Rattle.uf2_place.specs.Blocks.{uf2_of}
use Rattle.uf2_place.specs.Rulings.{is_skipped}
use Rattle.boot_rules.specs.Targets.{target_of}
use Rattle.boot_script.specs.Events.{EventView}
use Rattle.boot_machine.specs.Machines.{Host, Placing, StateView, Off, InBootsel, Running}
use Rattle.boot_machine.specs.Serving.{is_hosted, is_like, served_event, table_of_found}

-- the block continues the download of which BOOTSEL knows
abbrev pub continues_download : Option Placing → Uf2 → Bool
continues_download None b = false
continues_download (Some placing) b = is_like placing.blocks b

-- The block asks for the target of its family, whether it is then taken or refused: in a flash of n
-- bytes it is not skipped, and it continues no download.
pub record AsksTarget (n : ℕ) (host : Host) (b : Uf2) : Type 0 where
  pub kept : is_skipped n b ≡ false
  pub begins : continues_download host.placing b ≡ false

-- a block that is read asks for the target of this family
abbrev pub IsAsked : ℕ → Host → ℕ → Result Uf2 Uf2Fault → Type 0
IsAsked n host family (Ok b) = AsksTarget n host b × (b.family ≡ family)
IsAsked n host family (Err fault) = ⊥

abbrev pub AsksFor : ℕ → Host → ℕ → EventView → Type 0
AsksFor n host family (EventView.Uf2 block) = IsAsked n host family (uf2_of block)
AsksFor n host family event = ⊥

-- what follows an event that asks for no boot and stays in BOOTSEL, if it does
abbrev pub then_on : (Host → Type 0) → Option BootKind → StateView → Type 0
then_on rest (Some kind) place = ⊤
then_on rest None Off = ⊤
then_on rest None (Running program) = ⊤
then_on rest None (InBootsel host) = rest host

-- a family that the event asks for has the same target on both contents
pub record HasSameTarget (c d : Content) (cpu : Cpu) (host : Host) (event : EventView)
    : Type 0 where
  pub same : (family : ℕ) → AsksFor (length c.flash) host family event
      → target_of d (table_of_found host.found) cpu family
      ≡ target_of c (table_of_found host.found) cpu family

-- each block that asks for a target, as the events are played on c, has the same one as they are
-- played on d
abbrev pub HaveSameTargets : Content → Content → Cpu → Host → List EventView → Type 0
HaveSameTargets c d cpu host [] = ⊤
HaveSameTargets c d cpu host (event ∷ events) =
    MatchBool (is_hosted event) (let s = served_event c cpu host event in
    HasSameTarget c d cpu host event
    × then_on (λ next. HaveSameTargets (after_all c s.steps)
    (after_all d (served_event d cpu host event).steps) cpu next events) s.boot s.place)
    (HaveSameTargets c d cpu host events)

-- no block asks for a target, as the events are played on c
abbrev pub NoneAsks : Content → Cpu → Host → List EventView → Type 0
NoneAsks c cpu host [] = ⊤
NoneAsks c cpu host (event ∷ events) =
    MatchBool (is_hosted event) (let s = served_event c cpu host event in
    ((family : ℕ) → AsksFor (length c.flash) host family event → ⊥)
    × then_on (λ next. NoneAsks (after_all c s.steps) cpu next events) s.boot s.place)
    (NoneAsks c cpu host events)

-- One block asks for a target, for that of this family, or none does. On neither content an event
-- before it does a step.
abbrev pub AsksOnce : Content → Content → Cpu → ℕ → Host → List EventView → Type 0
AsksOnce c d cpu family host [] = ⊤
AsksOnce c d cpu family host (event ∷ events) =
    MatchBool (is_hosted event) (let s = served_event c cpu host event in
    (AsksFor (length c.flash) host family event
    × then_on (λ next. NoneAsks (after_all c s.steps) cpu next events) s.boot s.place)
    ⊎ (((other : ℕ) → AsksFor (length c.flash) host other event → ⊥) × (s.steps ≡ [])
    × ((served_event d cpu host event).steps ≡ [])
    × then_on (λ next. AsksOnce c d cpu family next events) s.boot s.place))
    (AsksOnce c d cpu family host events)
