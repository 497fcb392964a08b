-- Why 512 bytes are no UF2 block, each reason by itself, and which of them is answered.
-- Source: the UF2 specification (github.com/microsoft/uf2); the order is this project's own.
use Rattle.std.specs.Prelude.{◌≡◌, ◌≢◌, ◌⊎◌, ℕ, ◌%◌, ◌<◌, ◌≤◌, List}
use Rattle.uf2_place.specs.declared.block.Uf2Fault.{Uf2Fault}
use Rattle.uf2_place.specs.declared.block.Uf2Fault.TheVariants.{Magic, Payload, Alignment, Number}
use Rattle.uf2_place.specs.declared.block.TheConstants.{START, SECOND, END, PAYLOAD, MOST_BLOCKS}
use Rattle.uf2_place.specs.Blocks.{word_at}

-- one of the three magic words differs
abbrev pub HasBadMagic : List ℕ → Type 0
HasBadMagic bytes =
    (word_at bytes 0 ≢ START) ⊎ ((word_at bytes 4 ≢ SECOND) ⊎ (word_at bytes 508 ≢ END))

-- the payload has another size
abbrev pub HasBadPayload : List ℕ → Type 0
HasBadPayload bytes = word_at bytes 16 ≢ PAYLOAD

-- the address is no multiple of 256
abbrev pub HasBadAddress : List ℕ → Type 0
HasBadAddress bytes = word_at bytes 12 % 256 ≢ 0

-- the count is 0 or above 65,536, or the number is not below the count
abbrev pub HasBadNumber : List ℕ → Type 0
HasBadNumber bytes =
    (word_at bytes 24 ≡ 0)
    ⊎ ((MOST_BLOCKS < word_at bytes 24) ⊎ (word_at bytes 24 ≤ word_at bytes 20))

-- the fault of the bytes: each comes where its reason holds and none before it does
abbrev pub IsUf2Fault : List ℕ → Uf2Fault → Type 0
IsUf2Fault bytes Magic = HasBadMagic bytes
IsUf2Fault bytes Payload = ¬ (HasBadMagic bytes) × HasBadPayload bytes
IsUf2Fault bytes Alignment = ¬ (HasBadMagic bytes) × ¬ (HasBadPayload bytes) × HasBadAddress bytes
IsUf2Fault bytes Number =
    ¬ (HasBadMagic bytes) × ¬ (HasBadPayload bytes) × ¬ (HasBadAddress bytes) × HasBadNumber bytes
