-- The digest of a message, by the hash values after each eight of its blocks.
use Rattle.std.proofs.Common.{◌≡◌, ℕ, zero, suc, ◌+◌, ◌*◌, ◌/◌, List, [], ◌∷◌, drop, take, length, refl, sym, ap, ◌∙◌, arith}
use Rattle.std.specs.Prelude.{⊤}
use Rattle.std.proofs.lemmas.List.{drop-drop}
use Rattle.sha2.specs.Sha256.{compress, digest_bytes, hash_after, initial_hash_256, padded_message, sha256}

-- the blocks behind the first n are hashed from the hash value of those
hash-from : (h p : List ℕ) (n k : ℕ) → hash_after h p (n + k) ≡ hash_after (hash_after h p n) (drop (n * 64) p) k
unfolding hash_after
hash-from h p n zero = let e : n + 0 ≡ n = omega arith in ap (hash_after h p) e
hash-from h p n (suc k) =
    let e : n + suc k ≡ suc (n + k) = omega arith in
    let place : (n + k) * 64 ≡ n * 64 + k * 64 = omega arith in
    ap (hash_after h p) e
    ∙ ap (λ x. compress x (take 64 (drop ((n + k) * 64) p))) (hash-from h p n k)
    ∙ ap (λ x. compress (hash_after (hash_after h p n) (drop (n * 64) p) k) (take 64 x))
    (ap (λ m. drop m p) place ∙ sym (drop-drop (k * 64) (n * 64) p))

-- from the hash value of the first n blocks to that of the first n + k
hash-on : (p : List ℕ) (n k : ℕ) (h t : List ℕ) → hash_after initial_hash_256 p n ≡ h
    → hash_after h (drop (n * 64) p) k ≡ t → hash_after initial_hash_256 p (n + k) ≡ t
hash-on p n k h t before next =
    hash-from initial_hash_256 p n k ∙ ap (λ x. hash_after x (drop (n * 64) p) k) before ∙ next

-- from the hash value h of the first n blocks of the padded message p on, these are the hash values
-- after each eight blocks more
abbrev pub AreHashes : List ℕ → ℕ → List ℕ → List (List ℕ) → Type 0
AreHashes p n h [] = ⊤
AreHashes p n h (t ∷ ts) = (hash_after h (drop (n * 64) p) 8 ≡ t) × AreHashes p (n + 8) t ts

-- the last of these hash values, and the first one where there are none
abbrev pub last_hash : List ℕ → List (List ℕ) → List ℕ
last_hash h [] = h
last_hash h (t ∷ ts) = last_hash t ts

hash-all : (p : List ℕ) (n : ℕ) (h : List ℕ) (ts : List (List ℕ)) → hash_after initial_hash_256 p n ≡ h
    → AreHashes p n h ts → hash_after initial_hash_256 p (n + 8 * length ts) ≡ last_hash h ts
hash-all p n h [] before all = let e : n + 8 * 0 ≡ n = omega arith in ap (hash_after initial_hash_256 p) e ∙ before
hash-all p n h (t ∷ ts) before all =
    let e : n + 8 * suc (length ts) ≡ n + 8 + 8 * length ts = omega arith in
    ap (hash_after initial_hash_256 p) e ∙ hash-all p (n + 8) t ts (hash-on p n 8 h t before all.0) all.1

none : (p : List ℕ) → hash_after initial_hash_256 p 0 ≡ initial_hash_256
unfolding hash_after
none p = refl

-- the digest of a message whose padded blocks are those of the hash values and one more, after which
-- the hash value is t
pub digest-is : (message : List ℕ) (ts : List (List ℕ)) (t : List ℕ)
    → length (padded_message message) / 64 ≡ 8 * length ts + 1
    → AreHashes (padded_message message) 0 initial_hash_256 ts
    → hash_after (last_hash initial_hash_256 ts) (drop (8 * length ts * 64) (padded_message message)) 1 ≡ t
    → sha256 message ≡ digest_bytes t 8
unfolding sha256
digest-is message ts t blocks all last =
    let p : List ℕ = padded_message message in
    let count : 8 * length ts ≡ 0 + 8 * length ts = omega arith in
    let front : hash_after initial_hash_256 p (8 * length ts) ≡ last_hash initial_hash_256 ts =
    ap (hash_after initial_hash_256 p) count ∙ hash-all p 0 initial_hash_256 ts (none p) all in
    ap (λ n. digest_bytes (hash_after initial_hash_256 p n) 8) blocks
    ∙ ap (λ h. digest_bytes h 8) (hash-on p (8 * length ts) 1 (last_hash initial_hash_256 ts) t front last)
