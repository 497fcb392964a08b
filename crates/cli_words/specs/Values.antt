-- The values of a command's arguments, and what names the boot type.
use Rattle.std.specs.Prelude.{ℕ, ◌==◌, ◌&&◌, if◌then◌else◌, List, [], length, take, drop, Option, Some, None, option_map, codes, bytes_eq}
use Rattle.pico_board.specs.declared.boot.Cpu.{Cpu}
use Rattle.pico_board.specs.declared.boot.Cpu.TheVariants.{Arm}
use Rattle.pico_board.specs.declared.boot.BootKind.{BootKind}
use Rattle.pico_board.specs.declared.boot.BootKind.TheVariants.{Normal, Bootsel, Update}
use Rattle.text_words.specs.Reading.{hex_value}
use Rattle.cli_words.specs.declared.values.Values.{Values}

-- the values of a command's arguments, with its names as bytes of text
pub record ValuesView : Type 0 where
  pub cpu : Cpu
  pub kind : BootKind
  pub flash : List ℕ
  pub otp : List ℕ
  pub file : List ℕ
  pub pattern : List ℕ
  pub require : List ℕ
  pub spec : List ℕ
  pub image : List ℕ
  pub out_flash : List ℕ
  pub out_otp : List ℕ
  pub out : List ℕ
  pub family : ℕ
  pub number : ℕ
  pub command : List ℕ

-- the values where there is no argument
abbrev pub no_values : ValuesView
no_values = record {
  cpu = Arm;
  kind = Normal;
  flash = [];
  otp = [];
  file = [];
  pattern = [];
  require = [];
  spec = [];
  image = [];
  out_flash = [];
  out_otp = [];
  out = [];
  family = 0;
  number = 0;
  command = [];
}

-- the values that those of the code stand for
abbrev pub values_from : Values → ValuesView
values_from v = record {
  cpu = v.cpu;
  kind = v.kind;
  flash = v.flash.now;
  otp = v.otp.now;
  file = v.file.now;
  pattern = v.pattern.now;
  require = v.require.now;
  spec = v.spec.now;
  image = v.image.now;
  out_flash = v.out_flash.now;
  out_otp = v.out_otp.now;
  out = v.out.now;
  family = v.family;
  number = v.number;
  command = v.command.now;
}

-- the base of an update: `update=0x` and eight hexadecimal digits
abbrev pub update_base : List ℕ → Option ℕ
update_base word =
    if length word == 17 && bytes_eq (take 9 word) (codes "update=0x")
    then hex_value 0 (drop 9 word)
    else None

-- the argument of a boot type
abbrev pub boot_kind_of : List ℕ → Option BootKind
boot_kind_of word =
    if bytes_eq word (codes "normal") then Some Normal
    else if bytes_eq word (codes "bootsel") then Some Bootsel
    else option_map Update (update_base word)
