-- Why bytes begin with no event, and the order in which that is judged.
use Rattle.std.specs.Prelude.{ℕ, ◌≡◌, ◌⊎◌, ◌+◌, ◌<◌, ◌≤◌, ◌==◌, List, [], if◌then◌else◌, length, drop, slice_index}
use Rattle.byteorder.specs.Endian.{little_number}
use Rattle.boot_script.specs.declared.event.ScriptFault.{ScriptFault}
use Rattle.boot_script.specs.declared.event.ScriptFault.TheVariants.{Kind, Short, Pattern}
use Rattle.boot_script.specs.declared.kinds.TheConstants.{COMMAND, UF2, CUT, RESET, BUY, RESET_NORMAL, RESET_BOOTSEL, RESET_UPDATE}

-- how many bytes each event of this first byte has, whatever they are
abbrev pub fixed_size : ℕ → ℕ
fixed_size kind =
    if kind == COMMAND then 37
    else if kind == UF2 then 513
    else if kind == CUT then 8
    else if kind == RESET then 6
    else 1

-- the fixed bytes of an event are there
pub record HasFixed (bs : List ℕ) : Type 0 where
  pub some : 1 ≤ length bs
  pub kind : slice_index bs 0 ≤ BUY
  pub long : fixed_size (slice_index bs 0) ≤ length bs

-- the first byte names no event
pub record HasNoKind (bs : List ℕ) : Type 0 where
  pub some : 1 ≤ length bs
  pub kind : BUY < slice_index bs 0

-- the first byte names an event whose fixed bytes run past the end
pub record LacksFixed (bs : List ℕ) : Type 0 where
  pub some : 1 ≤ length bs
  pub kind : slice_index bs 0 ≤ BUY
  pub short : length bs < fixed_size (slice_index bs 0)

-- a reset may have this kind byte and this base
abbrev pub IsReset : ℕ → ℕ → Type 0
IsReset kind base =
    (kind ≡ RESET_UPDATE) ⊎ ((base ≡ 0) × ((kind ≡ RESET_NORMAL) ⊎ (kind ≡ RESET_BOOTSEL)))

-- a cut may have this part byte and a pattern of this size
abbrev pub IsCut : ℕ → ℕ → Type 0
IsCut part size = ((part ≡ 0) × (size ≡ 0)) ⊎ ((part ≡ 1) × (1 ≤ size) × (size ≤ 4096))

-- the kind and the base of a reset are none
pub record HasBadReset (bs : List ℕ) : Type 0 where
  pub fixed : HasFixed bs
  pub reset : slice_index bs 0 ≡ RESET
  pub bad : ¬ (IsReset (slice_index bs 1) (little_number 4 (drop 2 bs)))

-- the part and the pattern's size of a cut are none
pub record HasBadCut (bs : List ℕ) : Type 0 where
  pub fixed : HasFixed bs
  pub cut : slice_index bs 0 ≡ CUT
  pub bad : ¬ (IsCut (slice_index bs 5) (little_number 2 (drop 6 bs)))

-- how many bytes stand after the fixed ones: those of a command's payload, or of a cut's pattern
abbrev pub rest_size : List ℕ → ℕ
rest_size bs =
    if slice_index bs 0 == COMMAND then little_number 4 (drop 33 bs)
    else if slice_index bs 0 == CUT then little_number 2 (drop 6 bs)
    else 0

-- the fixed bytes are there and right, and a payload or a pattern runs past the end
pub record LacksRest (bs : List ℕ) : Type 0 where
  pub fixed : HasFixed bs
  pub fits : slice_index bs 0 ≡ CUT → IsCut (slice_index bs 5) (little_number 2 (drop 6 bs))
  pub short : length bs < fixed_size (slice_index bs 0) + rest_size bs

-- the fault of the bytes that stand at the offset: the first byte is judged first; then whether
-- the fixed bytes are there; then their values; and last whether a payload or a pattern is there
abbrev pub IsEventFault : ℕ → List ℕ → ScriptFault → Type 0
IsEventFault at bs (Kind place) = (place ≡ at) × (HasNoKind bs ⊎ HasBadReset bs)
IsEventFault at bs (Short place) = (place ≡ at) × ((bs ≡ []) ⊎ (LacksFixed bs ⊎ LacksRest bs))
IsEventFault at bs (Pattern place) = (place ≡ at) × HasBadCut bs
