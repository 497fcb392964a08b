-- A padded name is whole words.
use Rattle.std.proofs.Common.{◌≡◌, ℕ, ◌+◌, ◌*◌, ◌/◌, ◌<◌, List, length, get_or, arith, length-append}
use Rattle.std.proofs.lemmas.List.{length-replicate}
use Rattle.block_codec.specs.Words.{bytes_of, words_of}
use Rattle.part_table.specs.Written.{padded_name}
use Rattle.part_table.proofs.WrittenLemmas.{bytes_back, padded_bytes}

padded_length : (name : List ℕ) → length (padded_name name) ≡ 4 * ((length name + 4) / 4)
padded_length name = simp (length-append, length-replicate) (omega arith)

-- the bytes of a name's words are the padded name
pub name-back : (name : List ℕ) → length name < 128 → ((i : ℕ) → get_or name i 0 < 256)
    → bytes_of (words_of (padded_name name)) ≡ padded_name name
name-back name short bytes =
    bytes_back ((length name + 4) / 4) (padded_name name) (padded_length name) (padded_bytes name short bytes)
