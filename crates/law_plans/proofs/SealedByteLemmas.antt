-- A sealed image has bytes, where its binary has.
use Rattle.std.proofs.Common.{ℕ, ◌+◌, ◌-◌, ◌<◌, List, ◌++◌, length, take, drop, replicate, refl, sym, subst, inl, inr, arith}
use Rattle.std.proofs.lemmas.Bool.{cases_lt}
use Rattle.std.proofs.lemmas.List.{get_or-append_right, get_or-replicate, get_or_append_left, get_or_past, length-replicate}
use Rattle.block_codec.specs.Blocks.{frame}
use Rattle.block_codec.specs.Words.{bytes_of, word_bytes}
use Rattle.block_codec.proofs.WordLemmas.{AreBytes, AreBytes-bytes_of, AreBytes-drop, AreBytes-take, AreBytes-word_bytes}
use Rattle.image_pack.specs.declared.spec.SealSpec.{SealSpec}
use Rattle.image_pack.specs.Faults.{IsSealed}
use Rattle.image_pack.specs.Filling.{round_up, whole_words}
use Rattle.image_pack.specs.Sealing.{relinked, sealed_text}
use Rattle.image_pack.proofs.ReadBackLemmas as back

both : (xs ys : List ℕ) → AreBytes xs → AreBytes ys → AreBytes (xs ++ ys)
both xs ys first second i = elim (cases_lt i (length xs)) [
  | inl lt ↦ subst (λ b. b < 256) (sym (get_or_append_left xs ys 0 i lt)) (first i)
  | inr past ↦ subst (λ b. b < 256) (sym (get_or-append_right xs ys (length xs) i 0 refl past)) (second (i - length xs))
]

filling : (n : ℕ) → AreBytes (replicate n 255)
filling n i = elim (cases_lt i n) [
  | inl lt ↦ subst (λ b. b < 256)
      (sym (get_or-replicate n i 255 0 (let long = length-replicate {A = ℕ} n 255 in omega (arith, lt, long))))
      (omega arith)
  | inr past ↦ subst (λ b. b < 256)
      (sym (get_or_past (replicate n 255) i 0 (let long = length-replicate {A = ℕ} n 255 in omega (arith, past, long))))
      (omega arith)
]

module _ (binary : List ℕ) (spec : SealSpec) (sealed : IsSealed binary spec) (small : AreBytes binary) where
  abbrev words : List ℕ
  words = whole_words binary

  abbrev at : ℕ
  at = (back.parts binary spec sealed).link_at

  abbrev last : ℕ
  last = (back.parts binary spec sealed).last

  words-bytes : AreBytes words
  words-bytes =
      both binary (replicate (round_up 4 (length binary) - length binary) 255) small
      (filling (round_up 4 (length binary) - length binary))

  kept-bytes : AreBytes (back.kept binary spec sealed)
  unfolding relinked
  kept-bytes =
      both (take at words) (word_bytes (length words - last) ++ drop (at + 4) words)
      (AreBytes-take at words words-bytes)
      (AreBytes-word_bytes (length words - last) (drop (at + 4) words) (AreBytes-drop (at + 4) words words-bytes))

  pub text-bytes : AreBytes (sealed_text binary spec)
  text-bytes =
      let block = bytes_of (frame (back.items binary spec sealed) (back.link binary spec sealed)) in
      subst AreBytes (sym (back.text_is binary spec sealed))
      (both (back.kept binary spec sealed) block kept-bytes
      (AreBytes-bytes_of (frame (back.items binary spec sealed) (back.link binary spec sealed))))
