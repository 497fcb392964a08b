-- Erased bytes: flash that was erased reads as 0xff (RP2350 Datasheet, chapter 5, Bootrom).
use Rattle.std.specs.Prelude.{◌≡◌, ℕ, ◌<◌, ◌≤◌, List, length, slice_index}

-- each byte is 0xff
abbrev pub AreErased : List ℕ → Type 0
AreErased bytes = (i : ℕ) → i < length bytes → slice_index bytes i ≡ 255

-- each byte from one offset to before another is 0xff
abbrev pub IsErasedFrom : List ℕ → ℕ → ℕ → Type 0
IsErasedFrom w from end_ = (i : ℕ) → from ≤ i → i < end_ → slice_index w i ≡ 255
