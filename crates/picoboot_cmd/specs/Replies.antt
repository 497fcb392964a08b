-- What a reply that keeps a count and a digest stands for.
use Rattle.std.specs.Prelude.{◌≡◌, ℕ, ◌-◌, ◌^◌, min, List, length}
use Rattle.sha2.specs.Hashers.{Holds256}
use Rattle.picoboot_cmd.specs.declared.reply.HashReply.{HashReply}

-- the count is the number of the bytes, which saturates at 2^32 - 1, and the hasher holds them
pub record HasTakenBytes (r : HashReply) (bytes : List ℕ) : Type 0 where
  pub count : r.count ≡ min (length bytes) (2 ^ 32 - 1)
  pub hasher : Holds256 r.hasher bytes
