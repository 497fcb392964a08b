-- The bytes of an event.
use Rattle.std.specs.Prelude.{ℕ, Bool, List, [], ◌∷◌, ◌++◌, ◌≡◌, take, if◌then◌else◌, length}
use Rattle.byteorder.specs.Endian.{little_bytes}
use Rattle.pico_board.specs.declared.boot.BootKind.{BootKind}
use Rattle.pico_board.specs.declared.boot.BootKind.TheVariants.{Normal, Bootsel, Update}
use Rattle.boot_script.specs.declared.kinds.TheConstants.{END, COMMAND, UF2, CUT, POWER_ON, RESET, BUY, RESET_NORMAL, RESET_BOOTSEL, RESET_UPDATE}
use Rattle.boot_script.specs.Events.{EventView, End, Command, Uf2, Cut, PowerOn, Reset, Buy, base_of}

-- the byte that says whether a cut falls within its step or before it
abbrev pub cut_part_byte : Bool → ℕ
cut_part_byte within = if within then 1 else 0

-- the kind byte of a reset
abbrev pub reset_byte : BootKind → ℕ
reset_byte Normal = RESET_NORMAL
reset_byte Bootsel = RESET_BOOTSEL
reset_byte (Update base) = RESET_UPDATE

-- the bytes of an event: its first byte, its fixed parts, the length of its payload or pattern,
-- and then the payload or pattern
abbrev pub written_event : EventView → List ℕ
written_event End = END ∷ []
written_event (Command command payload) =
    COMMAND ∷ (command ++ (little_bytes 4 (length payload) ++ payload))
written_event (Uf2 block) = UF2 ∷ block
written_event (Cut left within pattern) =
    CUT ∷ (little_bytes 4 left ++ (cut_part_byte within
    ∷ (little_bytes 2 (length pattern) ++ pattern)))
written_event PowerOn = POWER_ON ∷ []
written_event (Reset kind) = RESET ∷ (reset_byte kind ∷ little_bytes 4 (base_of kind))
written_event Buy = BUY ∷ []

-- the former bytes stand at the front
abbrev pub IsKept : List ℕ → List ℕ → Type 0
IsKept old new = take (length old) new ≡ old
