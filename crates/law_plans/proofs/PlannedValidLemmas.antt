-- An image that is valid in a window filled with 0xff after its end is valid in planned bytes.
use Rattle.std.proofs.Common.{◌≡◌, ℕ, ◌+◌, ◌-◌, ◌%◌, ◌<◌, ◌≤◌, Bool, List, length, replicate, get_or, refl, sym, ◌∙◌, arith}
use Rattle.std.proofs.lemmas.List.{get_or-append_right, get_or_append_left}
use Rattle.pico_board.specs.declared.window.TheConstants.{MOST_FLASH_BYTES}
use Rattle.pico_board.specs.declared.boot.Cpu.{Cpu}
use Rattle.pico_board.specs.declared.window.Window.{Window}
use Rattle.block_codec.specs.Blocks.{BlockAt, BlockView, block_size}
use Rattle.block_codec.specs.Erased.{IsErasedFrom}
use Rattle.image_def.specs.declared.started.Started.{Started}
use Rattle.load_map.specs.Stored.{AreStoredIn}
use Rattle.image_check.specs.Addressing.{in_flash}
use Rattle.image_check.specs.Valid.{IsValidImage}
use Rattle.image_pack.specs.Filling.{padded, round_up}
use Rattle.law_plans.specs.Written.{HasNoLowBlockPast, planned}
use Rattle.law_plans.proofs.KeptBlockLemmas.{stands-back}
use Rattle.law_plans.proofs.KeptLemmas.{IsKept, kept-valid}
use Rattle.law_plans.proofs.PlannedLemmas.{erased-byte, length-padded, length-planned, length-written, low-inside, planned-same}

-- the bytes filled with 0xff
pub padded-same : (n : ℕ) (xs : List ℕ) (i : ℕ) → i < length xs → get_or (padded n xs) i 0 ≡ get_or xs i 0
padded-same n xs i lt = get_or_append_left xs (replicate (n - length xs) 255) 0 i lt

pub padded-erased : (n : ℕ) (xs : List ℕ) → length xs ≤ n
    → IsErasedFrom (padded n xs) (length xs) (length (padded n xs))
padded-erased n xs room i from to =
    let long = length-padded n xs room in
    get_or-append_right xs (replicate (n - length xs) 255) (length xs) i 0 refl from
    ∙ erased-byte (n - length xs) (i - length xs) (omega (arith, from, to, long))

last-sector : (n len : ℕ) → n ≤ len → len % 4096 ≡ 0 → round_up 4096 n ≤ len
last-sector n len room whole = omega (arith, room, whole)

module _ (w : Window) (image old : List ℕ) (whole : w.len % 4096 ≡ 0) (most : w.len ≤ MOST_FLASH_BYTES)
    (room : length image ≤ w.len) (was : length old ≡ w.len)
    (none : HasNoLowBlockPast (round_up 4096 (length image)) (planned image old)) where
  pub long : length (planned image old) ≡ length (padded w.len image)
  long =
      let one = length-padded w.len image room in
      let written = length-written image in
      let reach = last-sector (length image) w.len room whole in
      length-planned image old (omega (arith, written, reach, was)) ∙ was ∙ sym one

  pub few : length (padded w.len image) ≤ MOST_FLASH_BYTES
  few = let one = length-padded w.len image room in omega (arith, one, most)

  pub same-front : (i : ℕ) → i < length image → get_or (planned image old) i 0 ≡ get_or (padded w.len image) i 0
  same-front i lt = planned-same image old i lt ∙ sym (padded-same w.len image i lt)

  -- a block in the first sector of the planned bytes stands there too where 0xff fills the window
  pub planned-block : (x : ℕ) (b : BlockView) → x < 4096 → BlockAt (planned image old) x b
      → (x + block_size b ≤ length image) × BlockAt (padded w.len image) x b
  planned-block x b low at =
      let ends = low-inside image old none x b low at in (
        ends,
        stands-back (padded w.len image) (planned image old) (length image) long same-front x b ends at,
      )

  abbrev pub Kept : (cpu : Cpu) (trial : Bool) (otp : List ℕ) (s : Started)
      → IsValidImage in_flash w cpu trial otp (padded w.len image) s → Type 0
  Kept cpu trial otp s v =
      IsKept (padded w.len image) (planned image old) (length image) long few (padded-erased w.len image room)
      same-front (low-inside image old none) w cpu trial otp s v

  pub planned-valid : (cpu : Cpu) (trial : Bool) (otp : List ℕ) (s : Started)
      (v : IsValidImage in_flash w cpu trial otp (padded w.len image) s)
      → AreStoredIn (length image) v.sound.loads → Kept cpu trial otp s v
  planned-valid cpu trial otp s v stored =
      kept-valid (padded w.len image) (planned image old) (length image) long few (padded-erased w.len image room)
      same-front (low-inside image old none) w cpu trial otp s v stored
