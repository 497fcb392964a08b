-- An image in RAM (RP2350 Datasheet, chapter 5, Bootrom; this project's own where the datasheet is
-- open).
use Rattle.std.specs.Prelude.{ℕ, false, List, length, Result}
use Rattle.pico_board.specs.declared.boot.Cpu.{Cpu}
use Rattle.pico_board.specs.declared.window.Window.{Window}
use Rattle.pico_board.specs.Content.{Content}
use Rattle.image_def.specs.declared.started.Started.{Started}
use Rattle.image_check.specs.declared.why.Why.{Why}
use Rattle.image_check.specs.Addressing.{in_ram}
use Rattle.image_check.specs.Image.{image_in}
use Rattle.image_check.specs.Valid.{IsValidImage}
use Rattle.image_check.specs.WhyNot.{IsWhyNot}

-- the window of a range of addresses
abbrev pub ram_window : ℕ → List ℕ → Window
ram_window base bytes = record { start = base; len = length bytes }

-- ValidRam: all rules of a valid image hold of the bytes, which are seen from the base on. Each
-- load map entry is used where it stands, and no trial image is allowed
abbrev pub ValidRam : Content → List ℕ → ℕ → Cpu → Started → Type 0
ValidRam c bytes base cpu s =
    IsValidImage (in_ram base) (ram_window base bytes) cpu false c.otp bytes s

-- WhyNotRam: the first rule of a valid image that the bytes fail, which are seen from the base on,
-- no trial image allowed
abbrev pub WhyNotRam : Content → List ℕ → ℕ → Cpu → Why → Type 0
WhyNotRam c bytes base cpu y = IsWhyNot (in_ram base) cpu false c.otp bytes y

-- the image of bytes that are seen from the base on, or the first rule that they fail
abbrev pub ram_image : Content → List ℕ → ℕ → Cpu → Result Started Why
ram_image c bytes base cpu = image_in (in_ram base) (ram_window base bytes) cpu false c.otp bytes
