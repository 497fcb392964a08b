-- What is written of a block is read back.
use Rattle.std.proofs.Common.{◌≡◌, ℕ, ◌+◌, ◌^◌, ◌<◌, true, Ok, List, [], ◌++◌, length, take, drop, arith, refl, sym, ap, ◌∙◌}
use Rattle.std.specs.Prelude.{replicate, slice_range}
use Rattle.std.proofs.Math.Seq.{drop-append-add, take-append_seam}
use Rattle.std.proofs.lemmas.List.{drop-drop, length-append}
use Rattle.std.proofs.lemmas.Grind.{common_steps}
use Rattle.byteorder.specs.Endian.{little_number}
use Rattle.byteorder.specs.Numbers.{little_number-reads_back}
use Rattle.uf2_place.specs.declared.block.Uf2.{Uf2}
use Rattle.uf2_place.specs.declared.block.TheConstants.{END}
use Rattle.uf2_place.specs.Blocks.{IsUf2, uf2_of, has_magic, uf2_fields, word_at, word_bytes, written_block}

drop-past : (xs ys : List ℕ) (n k : ℕ) → length xs ≡ n → drop (n + k) (xs ++ ys) ≡ drop k ys
drop-past xs ys n k long = rw (← long) (drop-append-add xs ys k)

take-all : (xs ys : List ℕ) (n : ℕ) → length xs ≡ n → take n (xs ++ ys) ≡ xs
take-all xs ys n long = rw (← long) (take-append_seam xs ys)

written-first : (b : Uf2) → word_at (written_block b) 0 ≡ 0x0a324655
unfolding written_block word_bytes
written-first b = refl

written-second : (b : Uf2) → word_at (written_block b) 4 ≡ 0x9e5d5157
unfolding written_block word_bytes
written-second b = refl

written-flags : (b : Uf2) → b.flags < 2 ^ 32 → word_at (written_block b) 8 ≡ b.flags
unfolding written_block word_bytes
written-flags b lt = little_number-reads_back 4 b.flags [] lt

written-address : (b : Uf2) → b.address < 2 ^ 32 → word_at (written_block b) 12 ≡ b.address
unfolding written_block word_bytes
written-address b lt = little_number-reads_back 4 b.address [] lt

written-payload : (b : Uf2) → word_at (written_block b) 16 ≡ 256
unfolding written_block word_bytes
written-payload b = refl

written-number : (b : Uf2) → b.number < 2 ^ 32 → word_at (written_block b) 20 ≡ b.number
unfolding written_block word_bytes
written-number b lt = little_number-reads_back 4 b.number [] lt

written-count : (b : Uf2) → b.count < 2 ^ 32 → word_at (written_block b) 24 ≡ b.count
unfolding written_block word_bytes
written-count b lt = little_number-reads_back 4 b.count [] lt

written-family : (b : Uf2) → b.family < 2 ^ 32 → word_at (written_block b) 28 ≡ b.family
unfolding written_block word_bytes
written-family b lt = little_number-reads_back 4 b.family [] lt

-- behind the 32 bytes of the header stand the payload, 220 zeros and the last word
written-behind : (b : Uf2) → drop 32 (written_block b) ≡ b.page ++ (replicate 220 0 ++ word_bytes END)
unfolding written_block word_bytes
written-behind b = refl

zeros-behind : (last : List ℕ) → drop 220 (replicate 220 0 ++ last) ≡ last
zeros-behind last = refl

written-page : (b : Uf2) → length b.page ≡ 256 → slice_range (written_block b) 32 288 ≡ b.page
written-page b long = ap (take 256) (written-behind b) ∙ take-all b.page _ 256 long

written-end : (b : Uf2) → length b.page ≡ 256 → word_at (written_block b) 508 ≡ 0x0ab16f30
unfolding word_bytes
written-end b long =
    let behind : drop 508 (written_block b) ≡ word_bytes END =
    sym (drop-drop 476 32 (written_block b)) ∙ ap (drop 476) (written-behind b)
    ∙ drop-past b.page (replicate 220 0 ++ word_bytes END) 256 220 long ∙ zeros-behind (word_bytes END) in
    ap (little_number 4) behind

pub written-size : (b : Uf2) → IsUf2 b → length (written_block b) ≡ 512
unfolding written_block word_bytes
written-size b is = omega (arith, is.page, length-append b.page (replicate 220 0 ++ word_bytes END))

pub written-read : (b : Uf2) → IsUf2 b → uf2_of (written_block b) ≡ Ok b
written-read b is =
    let few = is.few in
    let low = is.number in
    let magic : has_magic (written_block b) ≡ true =
    rw (written-first b, written-second b, written-end b is.page) refl in
    let fields : uf2_fields (written_block b) ≡ b = same-fields _ _ _ _ _ _ _ _ _ _ _ _
    (written-flags b is.flags) (written-address b is.address) (written-number b (omega arith))
    (written-count b (omega arith)) (written-family b is.family) (written-page b is.page) in
    rw (
      magic,
      written-payload b,
      written-address b is.address,
      written-number b (omega arith),
      written-count b
          (omega arith),
    )
    (grind (arith, common_steps, fields, is.aligned, is.some, is.few, is.number))
  where
    same-fields : (f f' a a' n n' c c' m m' : ℕ) (p p' : List ℕ) → f ≡ f' → a ≡ a' → n ≡ n' → c ≡ c' → m ≡ m' → p ≡ p'
        → ◌≡◌ {A = Uf2} (record { flags = f; address = a; number = n; count = c; family = m; page = p })
        (record { flags = f'; address = a'; number = n'; count = c'; family = m'; page = p' })
    same-fields f f' a a' n n' c c' m m' p p' e1 e2 e3 e4 e5 e6 = rw (e1, e2, e3, e4, e5, e6) refl
