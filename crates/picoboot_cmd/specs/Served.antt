-- What a command does: its status, its steps, its reply, and the boot that it asks for.
use Rattle.std.specs.Prelude.{◌≡◌, true, ℕ, ◌+◌, ◌/◌, ◌%◌, ◌==◌, Bool, Option, Some, None, List, [], if◌then◌else◌, length, slice_range}
use Rattle.pico_board.specs.declared.boot.BootKind.{BootKind}
use Rattle.pico_board.specs.declared.boot.BootKind.TheVariants.{Normal, Bootsel, Update}
use Rattle.pico_board.specs.declared.Step.{Step}
use Rattle.pico_board.specs.Content.{Content}
use Rattle.block_codec.specs.Words.{bytes_of, words_of}
use Rattle.part_table.specs.declared.table.Table.{Table}
use Rattle.picoboot_cmd.specs.declared.applying.Done.{Done}
use Rattle.picoboot_cmd.specs.declared.cmd.Cmd.{Cmd}
use Rattle.picoboot_cmd.specs.declared.kinds.TheConstants.{ERASE, READ, WRITE, REBOOT, OTP_READ, OTP_WRITE}
use Rattle.picoboot_cmd.specs.Arguments.{size, offset, reboot_flags, reboot_p0, first_row, row_count}
use Rattle.picoboot_cmd.specs.Checks.{status_of, has_transfer, is_aligned, is_inside, has_valid_arguments}
use Rattle.picoboot_cmd.specs.Pages.{programs}
use Rattle.picoboot_cmd.specs.Rows.{word_raises}
use Rattle.picoboot_cmd.specs.Sectors.{erases}

-- the steps, ascending: an erase erases its sectors; a write programs the pages of its payload; a
-- write of OTP rows raises by the words of its payload
abbrev pub command_steps : Cmd → List ℕ → List Step
command_steps cmd payload =
    if cmd.id == ERASE then erases (offset cmd / 4096) (size cmd / 4096)
    else if cmd.id == WRITE then programs (offset cmd / 256) payload
    else if cmd.id == OTP_WRITE then word_raises (first_row cmd) (words_of payload)
    else []

-- the reply: the bytes that are read, and of OTP rows each as a word
abbrev pub reply_of : Content → Cmd → List ℕ
reply_of c cmd =
    if cmd.id == READ then slice_range c.flash (offset cmd) (offset cmd + size cmd)
    else if cmd.id == OTP_READ then
    bytes_of (slice_range c.otp (first_row cmd) (first_row cmd + row_count cmd))
    else []

-- the boot that the flags of a reboot ask for
abbrev pub boot_by : ℕ → ℕ → BootKind
boot_by flags p0 =
    if flags % 16 == 0 then Normal else if flags % 16 == 2 then Bootsel else Update p0

abbrev pub boot_of : Cmd → Option BootKind
boot_of cmd =
    if cmd.id == REBOOT then Some (boot_by (reboot_flags cmd) (reboot_p0 cmd)) else None

-- the status, the steps, the reply and the boot
pub record ServedCommand : Type 0 where
  pub status : ℕ
  pub steps : List Step
  pub reply : List ℕ
  pub boot : Option BootKind

-- a command with this status: with another status than 0 it does nothing
abbrev pub served_by_status : ℕ → Content → Cmd → List ℕ → ServedCommand
served_by_status status c cmd payload =
    if status == 0 then
    record {
      status = 0;
      steps = command_steps cmd payload;
      reply = reply_of c cmd;
      boot = boot_of cmd;
    }
    else record { status = status; steps = []; reply = []; boot = None }

-- what a command does on a board of this content, with this table, while a download is busy or not
abbrev pub served_on : Content → Option Table → Bool → Cmd → List ℕ → ServedCommand
served_on c t busy cmd payload =
    served_by_status (status_of (length c.flash) c.otp t busy cmd payload) c cmd payload

-- what the call answers of a served command
abbrev pub done_of : ServedCommand → Done
done_of s = record { status = s.status; boot = s.boot }

-- a command passes those checks that its work needs, in a flash of n bytes
pub record IsReady (n : ℕ) (cmd : Cmd) (payload : List ℕ) : Type 0 where
  pub transfer : has_transfer cmd payload ≡ true
  pub aligned : is_aligned cmd ≡ true
  pub inside : is_inside cmd n ≡ true
  pub arguments : has_valid_arguments cmd payload ≡ true
