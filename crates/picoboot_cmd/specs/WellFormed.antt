-- Commands that a host sends to write an image and to start it.
use Rattle.std.specs.Prelude.{◌≡◌, ℕ, ◌+◌, ◌*◌, ◌/◌, ◌<◌, ◌≤◌, true, Option, List, length}
use Rattle.pico_board.specs.Content.{flash_base}
use Rattle.part_table.specs.declared.table.Right.TheVariants.{BootWrite}
use Rattle.part_table.specs.declared.table.Table.{Table}
use Rattle.part_table.specs.Rights.{allowed_by}
use Rattle.picoboot_cmd.specs.declared.cmd.Cmd.{Cmd}
use Rattle.picoboot_cmd.specs.declared.kinds.TheConstants.{ERASE, REBOOT, WRITE}
use Rattle.picoboot_cmd.specs.Arguments.{address, reboot_flags, size}
use Rattle.picoboot_cmd.specs.Checks.{are_reboot_flags}

-- each byte of a range of the flash lies in a sector that may be written
abbrev pub MayWrite : Option Table → ℕ → ℕ → Type 0
MayWrite t at n = (i : ℕ) → i < n → allowed_by t ((at + i) / 4096) BootWrite ≡ true

-- an erase of the k sectors from sector s on, in a flash of n bytes; these sectors may be written
pub record IsErase (n : ℕ) (t : Option Table) (s k : ℕ) (cmd : Cmd) : Type 0 where
  pub id : cmd.id ≡ ERASE
  pub arg_size : cmd.arg_size ≡ 8
  pub transfer : cmd.transfer ≡ 0
  pub address : address cmd ≡ flash_base + 4096 * s
  pub size : size cmd ≡ 4096 * k
  pub inside : 4096 * (s + k) ≤ n
  pub allowed : MayWrite t (4096 * s) (4096 * k)

-- a write of the payload to the pages from page p on, in a flash of n bytes; these pages may be
-- written
pub record IsWrite (n : ℕ) (t : Option Table) (p : ℕ) (payload : List ℕ) (cmd : Cmd) : Type 0 where
  pub id : cmd.id ≡ WRITE
  pub arg_size : cmd.arg_size ≡ 8
  pub transfer : cmd.transfer ≡ length payload
  pub address : address cmd ≡ flash_base + 256 * p
  pub size : size cmd ≡ length payload
  pub inside : 256 * p + length payload ≤ n
  pub allowed : MayWrite t (256 * p) (length payload)

-- a reboot with flags that it takes
pub record IsReboot (cmd : Cmd) : Type 0 where
  pub id : cmd.id ≡ REBOOT
  pub arg_size : cmd.arg_size ≡ 16
  pub transfer : cmd.transfer ≡ 0
  pub flags : are_reboot_flags (reboot_flags cmd) ≡ true
