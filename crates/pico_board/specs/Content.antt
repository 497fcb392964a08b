-- The contents of a board and the windows of its flash.
-- Source: RP2350 Datasheet, chapters 5 (Bootrom) and 13 (OTP). The limits on the length of the
-- flash are this project's own.
use Rattle.std.specs.Prelude.{◌≡◌, ◌⊎◌, ℕ, ◌+◌, ◌%◌, ◌^◌, ◌<◌, ◌≤◌, List, length, slice_range, All}
use Rattle.pico_board.specs.declared.window.TheConstants.{FLASH_BASE, MOST_FLASH_BYTES}
use Rattle.pico_board.specs.declared.window.Window.{Window}

-- what a board holds: the bytes of its flash and the rows of its OTP
pub record Content : Type 0 where
  pub flash : List ℕ
  pub otp : List ℕ

-- a flash has whole sectors of 4096 bytes, at least two of them and at most 4096 (RP2350
-- Datasheet, section 4.4: 16 MiB a chip select)
pub record IsFlashLength (n : ℕ) : Type 0 where
  pub whole : n % 4096 ≡ 0
  pub least : 8192 ≤ n
  pub most : n ≤ MOST_FLASH_BYTES

-- a content has a flash of whole sectors, made of bytes, and 4096 rows of 24 bits (RP2350
-- Datasheet, chapter 13, OTP)
pub record IsContent (c : Content) : Type 0 where
  pub flash_length : IsFlashLength (length c.flash)
  pub flash_bytes : All (λ b. b < 256) c.flash
  pub otp_length : length c.otp ≡ 4096
  pub otp_rows : All (λ v. v < 2 ^ 24) c.otp

-- the address at which the first byte of a flash window is seen (RP2350 Datasheet, section 2.2,
-- Address map)
abbrev pub flash_base : ℕ
flash_base = FLASH_BASE

-- the list of the flash bytes of the window
abbrev pub window_bytes : Content → Window → List ℕ
window_bytes c w = slice_range c.flash w.start (w.start + w.len)

-- the windows share no byte, since one ends before the other begins
abbrev pub AreApart : Window → Window → Type 0
AreApart w v = (w.start + w.len ≤ v.start) ⊎ (v.start + v.len ≤ w.start)
