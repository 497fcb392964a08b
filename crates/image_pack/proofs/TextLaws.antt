-- What a sealed image has of its binary, and what its digest covers.
use Rattle.std.proofs.Common.{◌≡◌, ◌⊎◌, ℕ, ◌+◌, ◌-◌, ◌<◌, ◌≤◌, List, ◌∷◌, ◌++◌, length, take, drop, replicate, get_or, Some, None, false, filter, map, refl, ap, ◌∙◌, inl, inr, arith, append_assoc, length-append, length-drop, get_or-drop}
use Rattle.std.specs.List.{flat_map}
use Rattle.std.proofs.lemmas.List.{drop_at, get_or-take, get_or_append_left, length-take-le, take_at}
use Rattle.std.proofs.Math.Seq.{get_or-append_right}
use Rattle.block_codec.specs.Blocks.{start_word}
use Rattle.block_codec.specs.Words.{bytes_of, word_bytes}
use Rattle.block_codec.proofs.WordLemmas.{length-word_bytes}
use Rattle.load_map.specs.declared.load.Load.{Load}
use Rattle.load_map.specs.Addresses.{in_sram}
use Rattle.image_pack.specs.declared.parts.Parts.{Parts}
use Rattle.image_pack.specs.declared.spec.SealSpec.{SealSpec}
use Rattle.image_pack.specs.Sealing.{covered_part, digest_text, hashed_items, own_load, own_loads, relinked}
use Rattle.image_pack.specs.Within.{IsWithin}

pub relinked-none : (bytes : List ℕ) → relinked bytes None ≡ bytes
unfolding relinked
relinked-none bytes = refl

-- bytes with four of them replaced
module _ (bytes four : List ℕ) (at : ℕ) (size : length four ≡ 4) (room : at + 4 ≤ length bytes) where
  front : length (take at bytes) ≡ at
  front = length-take-le at bytes (omega (arith, room))

  pub replaced-long : length (take at bytes ++ (four ++ drop (at + 4) bytes)) ≡ length bytes
  replaced-long =
      let a = length-append (take at bytes) (four ++ drop (at + 4) bytes) in
      let b = length-append four (drop (at + 4) bytes) in
      let c = length-drop (at + 4) bytes in
      omega (arith, a, b, c, front, size, room)

  pub replaced-here : take 4 (drop at (take at bytes ++ (four ++ drop (at + 4) bytes))) ≡ four
  replaced-here =
      ap (λ xs. take 4 xs) (drop_at (take at bytes) (four ++ drop (at + 4) bytes) at front)
      ∙ take_at four (drop (at + 4) bytes) 4 size

  pub replaced-below : (i : ℕ) → i < at → get_or (take at bytes ++ (four ++ drop (at + 4) bytes)) i 0 ≡ get_or bytes i 0
  replaced-below i lt =
      get_or_append_left (take at bytes) (four ++ drop (at + 4) bytes) 0 i (omega (arith, lt, front))
      ∙ get_or-take at bytes i 0 lt

  pub replaced-above : (i : ℕ) → at + 4 ≤ i
      → get_or (take at bytes ++ (four ++ drop (at + 4) bytes)) i 0 ≡ get_or bytes i 0
  replaced-above i le =
      let k = i - length (take at bytes) in
      let place : at + 4 + (k - length four) ≡ i = omega (arith, le, front, size) in
      get_or-append_right (take at bytes) (four ++ drop (at + 4) bytes) i 0 (omega (arith, le, front))
      ∙ get_or-append_right four (drop (at + 4) bytes) k 0 (omega (arith, le, front, size))
      ∙ get_or-drop (at + 4) bytes (k - length four) 0 ∙ ap (λ n. get_or bytes n 0) place

-- a new block covers the bytes before it first
pub covered-first : (spec : SealSpec) (bytes entry : List ℕ) (loads : List Load) (at : ℕ)
    → (rest : List ℕ) × (digest_text spec bytes entry (own_loads (length bytes) at loads) ≡ bytes ++ rest)
covered-first spec bytes entry loads at =
    let own = own_loads (length bytes) at loads in
    let others = flat_map (covered_part bytes)
    (map (own_load at) (filter (λ (load : Load). in_sram load.runtime load.size) loads)) in
    let words = bytes_of (start_word ∷ hashed_items spec false (length bytes) entry own) in
    let whole : take (length bytes) (bytes ++ replicate (length bytes) 255) ≡ bytes =
    take_at bytes (replicate (length bytes) 255) (length bytes) refl in
    (others ++ words, ap (λ xs. xs ++ others ++ words) whole ∙ append_assoc bytes others words)

-- the link word of the last block, and what is kept
module _ (bytes : List ℕ) (p : Parts) (within : IsWithin p (length bytes)) where
  pub relinked-long : length (relinked bytes (Some p)) ≡ length bytes
  unfolding relinked
  relinked-long =
      replaced-long bytes (word_bytes (length bytes - p.last)) p.link_at (length-word_bytes (length bytes - p.last))
      within.link

  pub relinked-here : take 4 (drop p.link_at (relinked bytes (Some p))) ≡ word_bytes (length bytes - p.last)
  unfolding relinked
  relinked-here =
      replaced-here bytes (word_bytes (length bytes - p.last)) p.link_at (length-word_bytes (length bytes - p.last))
      within.link

  pub relinked-others : (i : ℕ) → (i < p.link_at) ⊎ (p.link_at + 4 ≤ i)
      → get_or (relinked bytes (Some p)) i 0 ≡ get_or bytes i 0
  unfolding relinked
  relinked-others i (inl below) =
      replaced-below bytes (word_bytes (length bytes - p.last)) p.link_at (length-word_bytes (length bytes - p.last))
      within.link i below
  relinked-others i (inr above) =
      replaced-above bytes (word_bytes (length bytes - p.last)) p.link_at (length-word_bytes (length bytes - p.last))
      within.link i above
