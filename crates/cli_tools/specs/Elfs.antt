-- The work of `elf`: the sealed image of an ELF file, or why there is none.
use Rattle.std.specs.Prelude.{◌≡◌, ℕ, false, List, [], ◌++◌, length, Option, Some, None, option_map, Result, Ok, Err, codes, decimal}
use Rattle.std.specs.Option.{option_or}
use Rattle.pico_board.specs.declared.boot.Cpu.{Cpu}
use Rattle.pico_board.specs.declared.boot.BootKind.TheVariants.{Normal}
use Rattle.image_def.specs.declared.started.Started.{Started}
use Rattle.image_check.specs.Changes.{moved_to}
use Rattle.slot_choice.specs.declared.choice.Choice.{Choice}
use Rattle.boot_rules.specs.declared.decision.Decision.TheVariants.{Start}
use Rattle.boot_rules.specs.Chosen.{Chosen}
use Rattle.boot_rules.specs.Tables.{table_in}
use Rattle.image_pack.specs.declared.spec.SealSpec.{SealSpec}
use Rattle.image_pack.specs.Faults.{IsSealed, block_offset}
use Rattle.image_pack.specs.Sealing.{sealed_text}
use Rattle.table_json.specs.declared.fault.JsonFault.{JsonFault}
use Rattle.elf_pack.specs.declared.fault.ElfFault.{ElfFault}
use Rattle.elf_pack.specs.declared.fault.ElfFault.TheVariants.{NotElf, FileType, Processor, Headers, Segment, Empty, TooMany, Mixed, Overlap, Seal, Memory}
use Rattle.elf_pack.specs.Binaries.{elf_binary}
use Rattle.elf_pack.specs.Faults.{HasBinary, IsImageFault}
use Rattle.elf_pack.specs.Judging.{elf_fault}
use Rattle.elf_pack.specs.Whole.{IsElfWhole}
use Rattle.cli_course.specs.declared.status.Status.TheVariants.{Done}
use Rattle.cli_course.specs.Outcomes.{AnswerView, Work, Answers, Refuses, one_file}
use Rattle.cli_inputs.specs.Forms.{content_of_files, filled_flash}
use Rattle.cli_inputs.specs.Jsons.{IsSpecText}
use Rattle.cli_tools.specs.Seals.{blamed, seal_error, seal_text, sealed_line}
use Rattle.cli_tools.specs.Tools.{no_work}

-- why an ELF file has no sealed image; the last text is never the reason
abbrev pub elf_text : ElfFault → List ℕ
elf_text NotElf = codes "elf not-elf"
elf_text FileType = codes "elf type"
elf_text Processor = codes "elf processor"
elf_text Headers = codes "elf headers"
elf_text (Segment i) = codes "elf segment " ++ decimal i
elf_text Empty = codes "elf empty"
elf_text (TooMany n) = codes "elf too-many " ++ decimal n
elf_text (Mixed i) = codes "elf mixed " ++ decimal i
elf_text (Overlap i j) = codes "elf overlap " ++ (decimal i ++ (codes " " ++ decimal j))
elf_text (Seal error) = seal_text error
elf_text Memory = codes "memory"

-- the input that is refused for a fault: the spec where it is wrong, or else the ELF file
abbrev pub elf_blamed : List ℕ → List ℕ → ElfFault → List ℕ
elf_blamed elf spec (Seal error) = blamed elf spec error
elf_blamed elf spec fault = elf

-- the first fault of an ELF file and a spec: of the file, and then of its binary
unfoldable pub image_fault : List ℕ → SealSpec → Option ElfFault
image_fault e spec =
    option_or (elf_fault spec.cpu e) (option_map Seal (seal_error (elf_binary spec.cpu e) spec))

-- an ELF file is refused by its fault, or its sealed image is written
abbrev pub packed_work : List ℕ → List ℕ → List ℕ → List ℕ → SealSpec → Option ElfFault → Work
packed_work elf spec out e asked (Some fault) =
    Refuses (elf_blamed elf spec fault) (elf_text fault)
packed_work elf spec out e asked None =
    Answers false (sealed_line (length (sealed_text (elf_binary asked.cpu e) asked))
    (block_offset (elf_binary asked.cpu e)))
    (one_file out (sealed_text (elf_binary asked.cpu e) asked))

-- the work on a binary or an ELF file by the spec that a text gives; no work where the text is at
-- fault
abbrev pub elf_work : List ℕ → List ℕ → List ℕ → List ℕ → Result SealSpec JsonFault → Work
elf_work elf spec out e (Ok asked) = packed_work elf spec out e asked (image_fault e asked)
elf_work elf spec out e (Err fault) = no_work

-- a board has this file, filled with 0xff, as its flash, and an OTP of zeros: its normal boot
-- starts the image s, in the whole flash
pub record StartsAlone (file : List ℕ) (cpu : Cpu) (s : Started) : Type 0 where
  pub choice : Choice
  pub chosen : Chosen (content_of_files file []) cpu Normal (Start choice)
  pub image : choice.image ≡ moved_to (record { start = 0; len = length (filled_flash file) }) s

-- `elf`: the ELF file is packed by the spec that the text gives; its sealed image is whole: the
-- image is valid where it stands and gives the bytes of the file's segments; written to a flash of
-- its own it starts by a normal boot, where it is no trial and has no partition table in its
-- bytes; the outcome prints a line on the image and writes it
pub record IsElfOf (out e s : List ℕ) (o : AnswerView) : Type 0 where
  pub asked : SealSpec
  pub says : IsSpecText s asked
  pub binary : HasBinary asked.cpu e
  pub sealed : IsSealed (elf_binary asked.cpu e) asked
  pub whole : IsElfWhole e asked
  pub starts : asked.trial ≡ false
      → table_in (content_of_files (sealed_text (elf_binary asked.cpu e) asked) []) ≡ None
      → StartsAlone (sealed_text (elf_binary asked.cpu e) asked) asked.cpu sealed.started
  pub status : o.status ≡ Done
  pub text : o.text ≡ sealed_line (length (sealed_text (elf_binary asked.cpu e) asked))
      (block_offset (elf_binary asked.cpu e))
  pub files : o.files ≡ one_file out (sealed_text (elf_binary asked.cpu e) asked)

-- an ELF file is refused by the spec that a text gives: this input is refused for its first fault,
-- with this text
pub record IsElfRefused (elf spec e s name fault : List ℕ) : Type 0 where
  pub asked : SealSpec
  pub says : IsSpecText s asked
  pub error : ElfFault
  pub wrong : IsImageFault e asked error
  pub blames : name ≡ elf_blamed elf spec error
  pub tells : fault ≡ elf_text error
