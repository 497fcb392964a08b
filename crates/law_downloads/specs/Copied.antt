-- The session of a host that copies the UF2 file of an image to the board's drive, and what the
-- image's window holds then.
use Rattle.std.specs.Prelude.{◌≡◌, ⊤, ℕ, ◌+◌, ◌-◌, ◌*◌, ◌/◌, ◌<◌, ◌≤◌, true, All, List, [], ◌∷◌, ◌++◌, length, drop, replicate, Some}
use Rattle.pico_board.specs.declared.Step.{Step}
use Rattle.pico_board.specs.declared.boot.BootKind.TheVariants.{Normal}
use Rattle.pico_board.specs.declared.boot.Cpu.{Cpu}
use Rattle.pico_board.specs.declared.window.Window.{Window}
use Rattle.pico_board.specs.Content.{Content, IsContent}
use Rattle.pico_board.specs.Sessions.{Unfinished}
use Rattle.pico_board.specs.Steps.{CutOf, after_all}
use Rattle.part_table.specs.declared.table.Right.TheVariants.{BootWrite}
use Rattle.part_table.specs.declared.Target.{Target}
use Rattle.part_table.specs.Rights.{allowed_by}
use Rattle.uf2_place.specs.Files.{file_bytes}
use Rattle.slot_choice.specs.declared.choice.Choice.{Choice}
use Rattle.boot_rules.specs.declared.decision.Decision.TheVariants.{Start}
use Rattle.boot_rules.specs.Chosen.{Chosen, IsBootMember}
use Rattle.boot_rules.specs.Starts.{table_of_content}
use Rattle.boot_rules.specs.Tables.{table_in}
use Rattle.boot_rules.specs.Targets.{is_executable, target_of}
use Rattle.boot_rules.specs.AccidentalImages.{HasNoAccidentalImage}
use Rattle.boot_session.specs.Scripts.{script_session}
use Rattle.script_text.specs.Reading.{script_of}
use Rattle.cli_scripts.specs.Copies.{blocks_in, copy_events}

-- the script of `copy` for a UF2 file
abbrev pub copied_script : List ℕ → List ℕ
copied_script file = script_of (copy_events (blocks_in (length file / 512) file))

-- the session on a content of the script of `copy`; its file is the one of this family and image
abbrev pub copied_session : Content → Cpu → ℕ → List ℕ → List Step
copied_session c cpu family image = script_session c cpu (copied_script (file_bytes image family))

-- every sector of the window has boot write by the content's table
abbrev pub MayWriteAll : Content → Window → Type 0
MayWriteAll c w = (s : ℕ) → w.start ≤ 4096 * s → 4096 * s < w.start + w.len
    → allowed_by (table_of_content c) s BootWrite ≡ true

-- an executable family has this target by the content's own table; the target is gated, and every
-- sector of its window has boot write; the image is not empty, and no longer than the window
pub record IsDownload (c : Content) (cpu : Cpu) (family : ℕ) (target : Target)
    (image : List ℕ) : Type 0 where
  pub right : IsContent c
  pub executable : is_executable family ≡ true
  pub aimed : target_of c (table_of_content c) cpu family ≡ Some target
  pub gated : target.gated ≡ true
  pub rights : MayWriteAll c target.window
  pub bytes : All (λ b. b < 256) image
  pub some : 0 < length image
  pub room : length image ≤ target.window.len

-- how many bytes the whole sectors have that hold so many bytes
abbrev pub in_sectors : ℕ → ℕ
in_sectors n = 4096 * ((n + 4095) / 4096)

-- the bytes of a window that held other bytes before: the image, then 0xff to the end of the
-- image's last sector, and then what the window held
abbrev pub downloaded : List ℕ → List ℕ → List ℕ
downloaded image before =
    image ++ (replicate (in_sectors (length image) - length image) 255
    ++ drop (in_sectors (length image)) before)

-- power is lost in the download of an image into a member of a boot unit's pair, and this leaves
-- d: the whole session leaves the table that there was, or leaves none (same table); where d is
-- unfinished, it has the former table and no accidental image in the target's window
pub record IsCutDownload (c : Content) (cpu : Cpu) (family : ℕ) (target : Target)
    (image : List ℕ) (d : Content) : Type 0 where
  pub download : IsDownload c cpu family target image
  pub boot_member : IsBootMember c target.window cpu
  pub cut : CutOf c (copied_session c cpu family image) d
  pub table : table_in (after_all c (copied_session c cpu family image)) ≡ table_in c
  pub no_accident : Unfinished c (copied_session c cpu family image) target.window d
      → HasNoAccidentalImage c (after_all c (copied_session c cpu family image)) d target.window cpu

-- the decision of a normal boot on c is a start in the other member of the pair; the decision on
-- the cut content d is the same
pub record IsLostUpdate (c : Content) (cpu : Cpu) (family : ℕ) (target : Target)
    (image : List ℕ) (choice : Choice) (d : Content) : Type 0 where
  pub lost : IsCutDownload c cpu family target image d
  pub former : Chosen c cpu Normal (Start choice)
  pub beside : choice.image.window ≡ lost.boot_member.other
  pub same : Chosen d cpu Normal (Start choice)

-- each content is left by such a loss of power on the one before it
abbrev pub AreLostUpdates : Content → Cpu → ℕ → Target → List ℕ → Choice → List Content → Type 0
AreLostUpdates c cpu family target image choice [] = ⊤
AreLostUpdates c cpu family target image choice (d ∷ ds) =
    IsLostUpdate c cpu family target image choice d
    × AreLostUpdates d cpu family target image choice ds

-- the last of these contents, and the first content where there are none
abbrev pub last_of : Content → List Content → Content
last_of c [] = c
last_of c (d ∷ ds) = last_of d ds
