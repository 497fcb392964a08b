-- Info commands, and the answers to them.
use Rattle.std.specs.Prelude.{ℕ, Bool, Option, List, ◌∷◌, ◌++◌, replicate}
use Rattle.byteorder.specs.Endian.{little_bytes}
use Rattle.pico_board.specs.declared.boot.Cpu.TheVariants.{Arm, Riscv}
use Rattle.part_table.specs.declared.table.Table.{Table}
use Rattle.part_table.specs.declared.target.Target.{Target}
use Rattle.picoboot_cmd.specs.declared.Cmd.{Cmd}
use Rattle.picoboot_cmd.specs.Checks.{first_failing}
use Rattle.info_reply.specs.declared.ask.Ask.{Ask}
use Rattle.info_reply.specs.declared.ask.Device.{Device}
use Rattle.info_reply.specs.declared.kinds.TheConstants.{INFO}
use Rattle.info_reply.specs.Asks.{reply_checks}
use Rattle.info_reply.specs.Infos.{info_of}

-- an info command with token 1 of this argument size and transfer length; what is not read is 0xaa
abbrev pub sized_info : ℕ → ℕ → ℕ → ℕ → Cmd
sized_info arg_size transfer kind argument = record {
  token = 1;
  id = INFO;
  arg_size = arg_size;
  transfer = transfer;
  args = kind ∷ 0xaa ∷ 0xaa ∷ 0xaa ∷ (little_bytes 4 argument ++ replicate 8 0xaa);
}

abbrev pub info : ℕ → ℕ → ℕ → Cmd
info transfer kind argument = sized_info 16 transfer kind argument

-- the board with a flash of 262,144 bytes, slots of 4096 bytes, and row 0x048 = 2
abbrev pub arm_device : Device
arm_device = record { flash_len = 262144; cpu = Arm; flags = 2; slot = 4096 }

abbrev pub riscv_device : Device
riscv_device = record { flash_len = 8192; cpu = Riscv; flags = 3; slot = 131072 }

-- sectors 32 to 61
abbrev pub target_with : Bool → Bool → Target
target_with gated stay =
    record { window = record { start = 0x20000; len = 0x1e000 }; gated = gated; stay = stay }

-- the words on the Arm board with a table in slot 1
abbrev pub words_on : Option Table → Option Target → Ask → List ℕ
words_on t target ask = info_of arm_device 1 t target ask

-- the status there of a command with this transfer length
abbrev pub status_on : Option Table → Option Target → Ask → ℕ → ℕ
status_on t target ask transfer =
    first_failing (reply_checks t ask (words_on t target ask) (info transfer 0 0))
