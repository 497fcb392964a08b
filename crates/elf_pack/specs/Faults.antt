-- Why an ELF file is refused: the first of these conditions, in the order of the fault's variants.
use Rattle.std.specs.Prelude.{◌≡◌, ◌≢◌, ◌⊎◌, ℕ, ◌+◌, ◌*◌, ◌<◌, ◌≤◌, List, [], ◌∷◌, ◌++◌, length, take}
use Rattle.std.specs.List.{AllByRecursion}
use Rattle.load_map.specs.declared.addresses.TheConstants.{SRAM_END, SRAM_START}
use Rattle.pico_board.specs.Content.{flash_base}
use Rattle.pico_board.specs.declared.boot.Cpu.{Cpu}
use Rattle.image_pack.specs.declared.spec.SealError.{SealError}
use Rattle.image_pack.specs.declared.spec.SealError.TheVariants.{Memory as SealMemory}
use Rattle.image_pack.specs.declared.spec.SealSpec.{SealSpec}
use Rattle.image_pack.specs.Faults.{IsSealFault}
use Rattle.elf_pack.specs.declared.fault.ElfFault.{ElfFault}
use Rattle.elf_pack.specs.declared.fault.ElfFault.TheVariants.{NotElf, FileType, Processor, Headers, Segment, Empty, TooMany, Mixed, Overlap, Seal, Memory}
use Rattle.elf_pack.specs.declared.segment.Segment.{Segment as OneSegment}
use Rattle.elf_pack.specs.Binaries.{elf_binary}
use Rattle.elf_pack.specs.Fields.{file_type, header_count, header_size, headers_at, identification, machine, machine_of}
use Rattle.elf_pack.specs.Segments.{flash_end, segments}

-- the file has at least 52 bytes; it begins with the identification of a 32-bit ELF file with the
-- lowest byte first
pub record IsElf (elf : List ℕ) : Type 0 where
  pub long : 52 ≤ length elf
  pub identified : take 7 elf ≡ identification

-- there are no program headers, or each has 32 bytes and they lie in the file
abbrev pub AreHeadersInside : List ℕ → Type 0
AreHeadersInside elf =
    (header_count elf ≡ 0)
    ⊎ ((header_size elf ≡ 32) × (headers_at elf + 32 * header_count elf ≤ length elf))

-- the header of the file is right for a processor
pub record IsRightHead (cpu : Cpu) (elf : List ℕ) : Type 0 where
  pub begins : IsElf elf
  pub executable : file_type elf ≡ 2
  pub processor : machine elf ≡ machine_of cpu
  pub headers : AreHeadersInside elf

-- a segment lies wholly in the addresses of flash, or wholly in SRAM
abbrev pub IsInFlash : OneSegment → Type 0
IsInFlash s = (flash_base ≤ s.address) × (s.address + s.size ≤ flash_end)

abbrev pub IsInSram : OneSegment → Type 0
IsInSram s = (SRAM_START ≤ s.address) × (s.address + s.size ≤ SRAM_END)

-- a segment's bytes lie in a file of n bytes, and its addresses in flash or in SRAM
abbrev pub IsPlacedSegment : ℕ → OneSegment → Type 0
IsPlacedSegment n s = (s.offset + s.size ≤ n) × (IsInFlash s ⊎ IsInSram s)

-- two segments both lie in flash, or both in SRAM
abbrev pub AreTogether : OneSegment → OneSegment → Type 0
AreTogether s t = (IsInFlash s × IsInFlash t) ⊎ (IsInSram s × IsInSram t)

-- the address is one of the segment's
abbrev pub HasAddress : ℕ → OneSegment → Type 0
HasAddress address s = (s.address ≤ address) × (address < s.address + s.size)

-- two segments have an address in common
abbrev pub Share : OneSegment → OneSegment → Type 0
Share s t = (address : ℕ) × HasAddress address s × HasAddress address t

-- x is the first element that is not as asked
pub record IsFirstNot {X : Type 0} (Asked : X → Type 0) (xs : List X) (x : X) : Type 0 where
  pub before : List X
  pub behind : List X
  pub whole : xs ≡ before ++ x ∷ behind
  pub here : Asked x → ⊥
  pub earlier : AllByRecursion Asked before

-- no two of the segments share an address
abbrev pub AreSegmentsApart : List OneSegment → Type 0
AreSegmentsApart [] = Unit {0}
AreSegmentsApart (s ∷ xs) = AllByRecursion (λ t. Share s t → ⊥) xs × AreSegmentsApart xs

-- s is the first that shares an address with a later one, and t the first later one that shares an
-- address with s
abbrev pub IsFirstOverlap : List OneSegment → OneSegment → OneSegment → Type 0
IsFirstOverlap [] s t = ⊥
IsFirstOverlap (x ∷ xs) s t =
    ((x ≡ s) × IsFirstNot (λ y. Share x y → ⊥) xs t)
    ⊎ (AllByRecursion (λ y. Share x y → ⊥) xs × IsFirstOverlap xs s t)

-- the segments lie where the first one does
abbrev pub AreAllTogether : List OneSegment → Type 0
AreAllTogether [] = Unit {0}
AreAllTogether (s ∷ xs) = AllByRecursion (AreTogether s) xs

-- the first segment that does not lie where the first one of all does, in flash or in SRAM
abbrev pub IsFirstMixed : List OneSegment → OneSegment → Type 0
IsFirstMixed [] t = ⊥
IsFirstMixed (s ∷ xs) t = IsFirstNot (AreTogether s) xs t

-- the header is right, and each segment lies in the file and in flash or SRAM
pub record IsLaidOut (cpu : Cpu) (elf : List ℕ) : Type 0 where
  pub head : IsRightHead cpu elf
  pub placed : AllByRecursion (IsPlacedSegment (length elf)) (segments elf)

-- the file is laid out, and there are 1 to 29 segments, all in flash or all in SRAM
pub record IsTogether (cpu : Cpu) (elf : List ℕ) : Type 0 where
  pub laid : IsLaidOut cpu elf
  pub some : segments elf ≢ []
  pub few : length (segments elf) ≤ 29
  pub together : AreAllTogether (segments elf)

-- the segments are together, and no two of them share an address: the file has a binary
pub record HasBinary (cpu : Cpu) (elf : List ℕ) : Type 0 where
  pub all : IsTogether cpu elf
  pub apart : AreSegmentsApart (segments elf)

-- the condition of each fault of the file, which says that none of those before it holds; Seal and
-- Memory are no faults of the file
abbrev pub IsElfFault : Cpu → List ℕ → ElfFault → Type 0
IsElfFault cpu elf NotElf = IsElf elf → ⊥
IsElfFault cpu elf FileType = IsElf elf × (file_type elf ≢ 2)
IsElfFault cpu elf Processor =
    IsElf elf × (file_type elf ≡ 2) × (machine elf ≢ machine_of cpu)
IsElfFault cpu elf Headers =
    IsElf elf × (file_type elf ≡ 2) × (machine elf ≡ machine_of cpu)
    × (AreHeadersInside elf → ⊥)
IsElfFault cpu elf (Segment i) =
    IsRightHead cpu elf
    × ((s : OneSegment) × IsFirstNot (IsPlacedSegment (length elf)) (segments elf) s
    × (i ≡ s.number))
IsElfFault cpu elf Empty = IsLaidOut cpu elf × (segments elf ≡ [])
IsElfFault cpu elf (TooMany n) =
    IsLaidOut cpu elf × (29 < n) × (n ≡ length (segments elf))
IsElfFault cpu elf (Mixed i) =
    IsLaidOut cpu elf × (length (segments elf) ≤ 29)
    × ((s : OneSegment) × IsFirstMixed (segments elf) s × (i ≡ s.number))
IsElfFault cpu elf (Overlap i j) =
    IsTogether cpu elf
    × ((s : OneSegment) × (t : OneSegment) × IsFirstOverlap (segments elf) s t × (i ≡ s.number)
    × (j ≡ t.number))
IsElfFault cpu elf (Seal e) = ⊥
IsElfFault cpu elf Memory = ⊥

-- the condition of each refusal of a sealed image: a fault of the file, or its binary is not
-- sealed
abbrev pub IsImageFault : List ℕ → SealSpec → ElfFault → Type 0
IsImageFault elf spec (Seal e) =
    HasBinary spec.cpu elf × IsSealFault (elf_binary spec.cpu elf) spec e
IsImageFault elf spec e = IsElfFault spec.cpu elf e

-- why a sealed image was refused, as a fault of its file
abbrev pub unsealed : SealError → ElfFault
unsealed SealMemory = Memory
unsealed e = Seal e
