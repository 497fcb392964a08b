-- The digest of the worked image whose load map begins with another entry.
use Rattle.std.proofs.Common.{◌≡◌, ℕ, ◌/◌, List, [], ◌∷◌, drop, length, refl, ◌∙◌}
use Rattle.sha2.specs.Sha256.{compress, digest_bytes, first_words, hash_after, initial_hash_256, padded_message, rounds, schedule, sha256}
use Rattle.block_codec.specs.Blocks.{frame}
use Rattle.block_codec.specs.Words.{word_bytes}
use Rattle.load_map.specs.Covered.{covered}
use Rattle.law_plans.specs.Examples.{cleared_blocks, cleared_items}
use Rattle.law_plans.proofs.DigestLemmas.{AreHashes, digest-is, last_hash}
use Rattle.law_plans.proofs.FirmExampleLemmas.{back_block, clear_load, front_load}

abbrev message : List ℕ
message = covered cleared_blocks (clear_load ∷ front_load 0x1000 ∷ []) (back_block cleared_items) 11 1

-- the hash values after each eight blocks
abbrev hashes : List (List ℕ)
hashes =
    (0x6b812f1c ∷ 0x20a47ac5 ∷ 0xb6360698 ∷ 0xa560d2d8 ∷ 0x4bcf2522 ∷ 0xadbabaa2 ∷ 0x6d3b4c4b ∷ 0x1f2fc9d6 ∷ [])
    ∷ (0x326e517f ∷ 0x97ffc1c7 ∷ 0x55f8e253 ∷ 0x51e2641f ∷ 0x75da94bf ∷ 0x90f0a465 ∷ 0xfa0282dc ∷ 0xf6501253 ∷ [])
    ∷ (0x2ae3ea9f ∷ 0x575f2d78 ∷ 0x8ee972ac ∷ 0x2983f66d ∷ 0xf3a01bdd ∷ 0x2691fc6f ∷ 0xdcc50b4d ∷ 0x84c3b96f ∷ [])
    ∷ (0x9d70fe3e ∷ 0x26844e8d ∷ 0x32c0e57f ∷ 0xfaff21e1 ∷ 0x59981f59 ∷ 0xcbbedc03 ∷ 0x9150cfa4 ∷ 0x99bce185 ∷ [])
    ∷ (0xdd1228e3 ∷ 0x6cd65bf4 ∷ 0x8a21df8f ∷ 0x92880cb6 ∷ 0x7bcb376a ∷ 0x962e97d8 ∷ 0xcd5a897a ∷ 0x48ec7c34 ∷ [])
    ∷ (0xa52492a8 ∷ 0xa534c3a1 ∷ 0x13b26d87 ∷ 0xaf920c30 ∷ 0xaffbc042 ∷ 0xd678df78 ∷ 0x719fcc3c ∷ 0x6d7c3958 ∷ [])
    ∷ (0x87719af9 ∷ 0x8a26aee9 ∷ 0xb7545d1e ∷ 0x9b22213f ∷ 0x60dbb325 ∷ 0x1e95b35b ∷ 0xf18cdae1 ∷ 0xe3303d36 ∷ [])
    ∷ (0x2ea8ec4b ∷ 0xe1827f32 ∷ 0xa5518987 ∷ 0x259c6298 ∷ 0x6a6becfd ∷ 0x1fb13486 ∷ 0x1168ef47 ∷ 0x4065dc13 ∷ []) ∷ []

-- the hash value after the last block
abbrev end : List ℕ
end = 0x97d1f4a1 ∷ 0x63e67d40 ∷ 0xaa04c8a4 ∷ 0xf9e536e2 ∷ 0xbc1fc32c ∷ 0x81e2425a ∷ 0xe8d45a90 ∷ 0xc577bf9f ∷ []

abbrev pub cleared_digest : List ℕ
cleared_digest =
    151 ∷ 209 ∷ 244 ∷ 161 ∷ 99 ∷ 230 ∷ 125 ∷ 64 ∷ 170 ∷ 4 ∷ 200 ∷ 164 ∷ 249 ∷ 229 ∷ 54 ∷ 226 ∷ 188 ∷ 31 ∷ 195 ∷ 44
    ∷ 129 ∷ 226 ∷ 66 ∷ 90 ∷ 232 ∷ 212 ∷ 90 ∷ 144 ∷ 197 ∷ 119 ∷ 191 ∷ 159 ∷ []

blocks : length (padded_message message) / 64 ≡ 65
unfolding frame word_bytes
blocks = refl

hashed : AreHashes (padded_message message) 0 initial_hash_256 hashes
unfolding first_words schedule rounds compress hash_after frame word_bytes
hashed = (refl, (refl, (refl, (refl, (refl, (refl, (refl, (refl, tt))))))))

last : hash_after (last_hash initial_hash_256 hashes) (drop 4096 (padded_message message)) 1 ≡ end
unfolding first_words schedule rounds compress hash_after frame word_bytes
last = refl

bytes : digest_bytes end 8 ≡ cleared_digest
unfolding digest_bytes
bytes = refl

pub cleared-digest : sha256
    (covered cleared_blocks (clear_load ∷ front_load 0x1000 ∷ []) (back_block cleared_items) 11 1) ≡ cleared_digest
cleared-digest = digest-is message hashes end blocks hashed last ∙ bytes
