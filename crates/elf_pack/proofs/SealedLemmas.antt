-- The bytes of a sealed image are its binary's, but for the link that was rewritten.
use Rattle.std.proofs.Common.{◌≡◌, ◌⊎◌, ℕ, ◌+◌, ◌-◌, ◌<◌, ◌≤◌, List, ◌++◌, length, get_or, replicate, ap, ◌∙◌, arith, length-append}
use Rattle.std.proofs.lemmas.List.{get_or_append_left}
use Rattle.block_codec.specs.Blocks.{frame}
use Rattle.block_codec.specs.Words.{bytes_of}
use Rattle.image_pack.specs.declared.spec.SealSpec.{SealSpec}
use Rattle.image_pack.specs.Faults.{IsSealed}
use Rattle.image_pack.specs.Filling.{round_up, whole_sectors, whole_words}
use Rattle.image_pack.specs.Sealing.{sealed_text}
use Rattle.image_pack.proofs.ReadBackLemmas.{items, kept, link, long_kept, parts, small, text_is}
use Rattle.image_pack.proofs.TextLaws.{relinked-others}
use Rattle.image_pack.proofs.WithinLemmas.{IsWithin-parts}

module _ (binary : List ℕ) (spec : SealSpec) (sealed : IsSealed binary spec) (f : List ℕ) where
  abbrev text : List ℕ
  text = sealed_text binary spec

  abbrev new_bytes : List ℕ
  new_bytes = bytes_of (frame (items binary spec sealed) (link binary spec sealed))

  abbrev fill : List ℕ
  fill = replicate (round_up 4096 (length text) - length text) 255

  abbrev words_fill : List ℕ
  words_fill = replicate (round_up 4 (length binary) - length binary) 255

  pub long_words : length binary ≤ length (whole_words binary)
  long_words = let sum = length-append binary words_fill in omega (arith, sum)

  pub long_text : length (whole_words binary) ≤ length text
  long_text =
      let all = ap length (text_is binary spec sealed) in
      let sum = length-append (kept binary spec sealed) new_bytes in
      omega (arith, all, sum, long_kept binary spec sealed)

  pub long_window : length text ≤ length (whole_sectors text ++ f)
  long_window =
      let filled = length-append text fill in
      let more = length-append (whole_sectors text) f in
      omega (arith, filled, more)

  -- the byte at an offset of the binary
  pub kept-at : (k : ℕ) → k < length binary
      → (k < (parts binary spec sealed).link_at) ⊎ ((parts binary spec sealed).link_at + 4 ≤ k)
      → get_or (whole_sectors text ++ f) k 0 ≡ get_or binary k 0
  kept-at k lt out =
      let filled = length-append text fill in
      let within = IsWithin-parts binary spec.cpu (parts binary spec sealed) (small binary spec sealed)
      sealed.short.sealable.read in
      get_or_append_left (whole_sectors text) f 0 k (omega (arith, lt, long_words, long_text, filled))
      ∙ get_or_append_left text fill 0 k (omega (arith, lt, long_words, long_text))
      ∙ ap (λ xs. get_or xs k 0) (text_is binary spec sealed)
      ∙ get_or_append_left (kept binary spec sealed) new_bytes 0 k
      (omega (arith, lt, long_words, long_kept binary spec sealed))
      ∙ relinked-others (whole_words binary) (parts binary spec sealed) within k out
      ∙ get_or_append_left binary words_fill 0 k lt
