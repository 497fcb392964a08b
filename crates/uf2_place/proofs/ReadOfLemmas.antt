-- What a block is read of: its first 288 bytes and its last word.
use Rattle.std.proofs.Common.{◌≡◌, ℕ, suc, ◌+◌, ◌%◌, ◌==◌, ◌&&◌, not, if◌then◌else◌, Result, Ok, Err, List, [], ◌∷◌, take, drop, refl, sym, ap, ◌∙◌}
use Rattle.std.specs.Prelude.{slice_range}
use Rattle.std.proofs.lemmas.List.{drop-take}
use Rattle.byteorder.specs.Endian.{little_number}
use Rattle.uf2_place.specs.declared.block.Uf2.{Uf2}
use Rattle.uf2_place.specs.declared.block.Uf2Fault.{Uf2Fault}
use Rattle.uf2_place.specs.declared.block.Uf2Fault.TheVariants.{Magic, Payload, Alignment, Number}
use Rattle.uf2_place.specs.declared.block.TheConstants.{START, SECOND, END, PAYLOAD}
use Rattle.uf2_place.specs.Blocks.{is_number, uf2_of, word_at}

-- a word is read of four bytes
pub front-word : (m : ℕ) (xs : List ℕ) → little_number 4 (take (suc (suc (suc (suc m)))) xs) ≡ little_number 4 xs
front-word m [] = refl
front-word m (a ∷ []) = refl
front-word m (a ∷ b ∷ []) = refl
front-word m (a ∷ b ∷ c ∷ []) = refl
front-word m (a ∷ b ∷ c ∷ d ∷ xs) = refl

module _ (n : ℕ) (one other : List ℕ) (front : take n one ≡ take n other) where
  pub same-part : (at m : ℕ) → at + m ≡ n → take m (drop at one) ≡ take m (drop at other)
  same-part at m e =
      sym (drop-take at m one) ∙ ap (λ k. drop at (take k one)) e ∙ ap (drop at) front
      ∙ sym (ap (λ k. drop at (take k other)) e) ∙ drop-take at m other

  pub same-word : (at m : ℕ) → at + suc (suc (suc (suc m))) ≡ n → word_at one at ≡ word_at other at
  same-word at m e =
      sym (front-word m (drop at one)) ∙ ap (little_number 4) (same-part at (suc (suc (suc (suc m)))) e)
      ∙ front-word m (drop at other)

-- the answer by the words of the bytes and their page
abbrev pub answer : ℕ → ℕ → ℕ → ℕ → ℕ → ℕ → ℕ → ℕ → ℕ → List ℕ → Result Uf2 Uf2Fault
answer start second flags address payload number count family end page =
    if not (start == START && (second == SECOND && end == END)) then Err Magic
    else if not (payload == PAYLOAD) then Err Payload
    else if not (address % 256 == 0) then Err Alignment
    else if not (is_number number count) then Err Number
    else Ok (record {
      flags = flags;
      address = address;
      number = number;
      count = count;
      family = family;
      page = page;
    })

pub read-of : (one other : List ℕ) → take 288 one ≡ take 288 other → slice_range one 508 512 ≡ slice_range other 508 512
    → uf2_of one ≡ uf2_of other
read-of one other front last =
    let start = same-word 288 one other front 0 284 refl in
    let second = same-word 288 one other front 4 280 refl in
    let flags = same-word 288 one other front 8 276 refl in
    let address = same-word 288 one other front 12 272 refl in
    let payload = same-word 288 one other front 16 268 refl in
    let number = same-word 288 one other front 20 264 refl in
    let count = same-word 288 one other front 24 260 refl in
    let family = same-word 288 one other front 28 256 refl in
    let page = same-part 288 one other front 32 256 refl in
    let end : word_at one 508 ≡ word_at other 508 =
    sym (front-word 0 (drop 508 one)) ∙ ap (little_number 4) last ∙ front-word 0 (drop 508 other) in
    λ t. answer (start t) (second t) (flags t) (address t) (payload t) (number t) (count t) (family t) (end t) (page t)
