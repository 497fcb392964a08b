-- The digest of the worked image whose load map leaves a byte out.
use Rattle.std.proofs.Common.{◌≡◌, ℕ, ◌/◌, List, [], ◌∷◌, drop, length, refl, ◌∙◌}
use Rattle.sha2.specs.Sha256.{compress, digest_bytes, first_words, hash_after, initial_hash_256, padded_message, rounds, schedule, sha256}
use Rattle.block_codec.specs.Blocks.{frame}
use Rattle.block_codec.specs.Words.{word_bytes}
use Rattle.load_map.specs.Covered.{covered}
use Rattle.law_plans.specs.Examples.{clipped, clipped_items}
use Rattle.law_plans.proofs.DigestLemmas.{AreHashes, digest-is, last_hash}
use Rattle.law_plans.proofs.FirmExampleLemmas.{back_block, front_load}

abbrev message : List ℕ
message = covered clipped (front_load 0xfff ∷ []) (back_block clipped_items) 8 1

-- the hash values after each eight blocks
abbrev hashes : List (List ℕ)
hashes =
    (0xc9a4cb9f ∷ 0x79937119 ∷ 0x06b6f787 ∷ 0xb119a164 ∷ 0x59270ff4 ∷ 0x82b8f9c5 ∷ 0x118725cb ∷ 0x6d2dd51a ∷ [])
    ∷ (0x34f7f677 ∷ 0x43dc9d2d ∷ 0x850f2d07 ∷ 0x9b354646 ∷ 0x8cb64a9c ∷ 0xcabd7de7 ∷ 0xccbe2ea5 ∷ 0x9006a80c ∷ [])
    ∷ (0x609a0518 ∷ 0xc16b3d10 ∷ 0x906bee0f ∷ 0x85a1872a ∷ 0x306b402e ∷ 0xda69be84 ∷ 0xa6dbda9d ∷ 0xe2c013e6 ∷ [])
    ∷ (0xd80a509d ∷ 0xb1818e13 ∷ 0x414e8191 ∷ 0x976e89bf ∷ 0xe39e1f44 ∷ 0xc6f8fd64 ∷ 0x79953564 ∷ 0xba729dca ∷ [])
    ∷ (0xbeeaffb5 ∷ 0xaefe24d2 ∷ 0xedb0f8df ∷ 0xab5fdc6b ∷ 0xb9606e9c ∷ 0x7c0e48a7 ∷ 0x49029135 ∷ 0xd49e5496 ∷ [])
    ∷ (0x28dc0d6b ∷ 0x24a1979c ∷ 0x38486e76 ∷ 0xfd129cd1 ∷ 0xf3cbd7c6 ∷ 0x35ef5b6d ∷ 0x8eea1a81 ∷ 0xdeafb3cd ∷ [])
    ∷ (0xab43af5d ∷ 0xacc745a6 ∷ 0x5ffeff28 ∷ 0xd3355636 ∷ 0xd4c97bf3 ∷ 0xc493fa1b ∷ 0x3f497bd8 ∷ 0xbfde81e1 ∷ [])
    ∷ (0x1fe6cad0 ∷ 0x6df79f81 ∷ 0x7fd2f83f ∷ 0x328709c7 ∷ 0x1b59cdcf ∷ 0xa5f85317 ∷ 0x0ea3c84b ∷ 0xa7f722e7 ∷ []) ∷ []

-- the hash value after the last block
abbrev end : List ℕ
end = 0xf6f82104 ∷ 0xb4ffcce2 ∷ 0x324b6caa ∷ 0xbae14e37 ∷ 0x60d3b173 ∷ 0x5dff1164 ∷ 0xfbd2239d ∷ 0x20bf5ea8 ∷ []

abbrev pub clipped_digest : List ℕ
clipped_digest =
    246 ∷ 248 ∷ 33 ∷ 4 ∷ 180 ∷ 255 ∷ 204 ∷ 226 ∷ 50 ∷ 75 ∷ 108 ∷ 170 ∷ 186 ∷ 225 ∷ 78 ∷ 55 ∷ 96 ∷ 211 ∷ 177 ∷ 115
    ∷ 93 ∷ 255 ∷ 17 ∷ 100 ∷ 251 ∷ 210 ∷ 35 ∷ 157 ∷ 32 ∷ 191 ∷ 94 ∷ 168 ∷ []

blocks : length (padded_message message) / 64 ≡ 65
unfolding frame word_bytes
blocks = refl

hashed : AreHashes (padded_message message) 0 initial_hash_256 hashes
unfolding first_words schedule rounds compress hash_after frame word_bytes
hashed = (refl, (refl, (refl, (refl, (refl, (refl, (refl, (refl, tt))))))))

last : hash_after (last_hash initial_hash_256 hashes) (drop 4096 (padded_message message)) 1 ≡ end
unfolding first_words schedule rounds compress hash_after frame word_bytes
last = refl

bytes : digest_bytes end 8 ≡ clipped_digest
unfolding digest_bytes
bytes = refl

pub clipped-digest : sha256 (covered clipped (front_load 0xfff ∷ []) (back_block clipped_items) 8 1) ≡ clipped_digest
clipped-digest = digest-is message hashes end blocks hashed last ∙ bytes
