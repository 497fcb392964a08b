-- The digest of the worked image with another block.
use Rattle.std.proofs.Common.{◌≡◌, ℕ, ◌/◌, List, [], ◌∷◌, drop, length, refl, ◌∙◌}
use Rattle.sha2.specs.Sha256.{compress, digest_bytes, first_words, hash_after, initial_hash_256, padded_message, rounds, schedule, sha256}
use Rattle.block_codec.specs.Blocks.{frame}
use Rattle.block_codec.specs.Words.{word_bytes}
use Rattle.load_map.specs.Covered.{covered}
use Rattle.law_plans.specs.Examples.{crowded, crowded_items}
use Rattle.law_plans.proofs.DigestLemmas.{AreHashes, digest-is, last_hash}
use Rattle.law_plans.proofs.FirmExampleLemmas.{back_block, front_load}

abbrev message : List ℕ
message = covered crowded (front_load 0x1000 ∷ []) (back_block crowded_items) 8 1

-- the hash values after each eight blocks
abbrev hashes : List (List ℕ)
hashes =
    (0xc9a4cb9f ∷ 0x79937119 ∷ 0x06b6f787 ∷ 0xb119a164 ∷ 0x59270ff4 ∷ 0x82b8f9c5 ∷ 0x118725cb ∷ 0x6d2dd51a ∷ [])
    ∷ (0xe4a980ca ∷ 0xeef281e9 ∷ 0x56fc9d58 ∷ 0x613b6aa8 ∷ 0x22bcb9e0 ∷ 0xfe4103c7 ∷ 0xab24401f ∷ 0xd3304352 ∷ [])
    ∷ (0xd8fa5423 ∷ 0xc2237659 ∷ 0x5ebbbb06 ∷ 0xc900bf22 ∷ 0x33e61369 ∷ 0xe74d986a ∷ 0xf57a6690 ∷ 0x311073bd ∷ [])
    ∷ (0xe470a2cf ∷ 0x3239d26f ∷ 0xe03650a6 ∷ 0x6304c898 ∷ 0xb1fcacc8 ∷ 0xa15593b9 ∷ 0x9efb8b77 ∷ 0xf3554c89 ∷ [])
    ∷ (0x6bb9335c ∷ 0x383ea873 ∷ 0x25c9c745 ∷ 0x037bdd50 ∷ 0xdfe25540 ∷ 0x861a0589 ∷ 0x423e27a9 ∷ 0x4025f922 ∷ [])
    ∷ (0xd4303135 ∷ 0x6d9508dd ∷ 0xa07a1ca7 ∷ 0x2d75f225 ∷ 0x2a5b7e8e ∷ 0x9f93e9c2 ∷ 0x933c704d ∷ 0x68452184 ∷ [])
    ∷ (0xf89a2768 ∷ 0xec078887 ∷ 0x20a27bdf ∷ 0xbca435ee ∷ 0x602def92 ∷ 0xff28a39b ∷ 0x1d9c291f ∷ 0x2fe16308 ∷ [])
    ∷ (0x0a074680 ∷ 0x38a73846 ∷ 0xcad0ee79 ∷ 0x8cddb264 ∷ 0xf2025b14 ∷ 0x6bd44a14 ∷ 0x652227bc ∷ 0xfa0df245 ∷ []) ∷ []

-- the hash value after the last block
abbrev end : List ℕ
end = 0xbe2f6c6d ∷ 0x2ec59a20 ∷ 0xa99c5477 ∷ 0x9197642d ∷ 0xf2abaf79 ∷ 0x1d274942 ∷ 0xab8a8ae6 ∷ 0x195463e0 ∷ []

abbrev pub crowded_digest : List ℕ
crowded_digest =
    190 ∷ 47 ∷ 108 ∷ 109 ∷ 46 ∷ 197 ∷ 154 ∷ 32 ∷ 169 ∷ 156 ∷ 84 ∷ 119 ∷ 145 ∷ 151 ∷ 100 ∷ 45 ∷ 242 ∷ 171 ∷ 175 ∷ 121
    ∷ 29 ∷ 39 ∷ 73 ∷ 66 ∷ 171 ∷ 138 ∷ 138 ∷ 230 ∷ 25 ∷ 84 ∷ 99 ∷ 224 ∷ []

blocks : length (padded_message message) / 64 ≡ 65
unfolding frame word_bytes
blocks = refl

hashed : AreHashes (padded_message message) 0 initial_hash_256 hashes
unfolding first_words schedule rounds compress hash_after frame word_bytes
hashed = (refl, (refl, (refl, (refl, (refl, (refl, (refl, (refl, tt))))))))

last : hash_after (last_hash initial_hash_256 hashes) (drop 4096 (padded_message message)) 1 ≡ end
unfolding first_words schedule rounds compress hash_after frame word_bytes
last = refl

bytes : digest_bytes end 8 ≡ crowded_digest
unfolding digest_bytes
bytes = refl

pub crowded-digest : sha256 (covered crowded (front_load 0x1000 ∷ []) (back_block crowded_items) 8 1) ≡ crowded_digest
crowded-digest = digest-is message hashes end blocks hashed last ∙ bytes
