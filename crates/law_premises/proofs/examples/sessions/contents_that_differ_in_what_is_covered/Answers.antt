-- By computing.
use Rattle.std.proofs.Common.{◌≡◌, ℕ, List, Ok, [], ◌∷◌, ap, arith, false, get_or, length, refl, subst}
use Rattle.sha2.specs.Sha256.{compress, digest_bytes, first_words, hash_after, rounds, schedule, sha256}
use Rattle.pico_board.specs.declared.boot.Cpu.TheVariants.{Arm}
use Rattle.pico_board.specs.Content.{window_bytes}
use Rattle.block_codec.specs.Blocks.{frame}
use Rattle.block_codec.specs.Reading.{block_at, front_block, item_words}
use Rattle.block_codec.specs.Items.{size_of}
use Rattle.block_codec.specs.Words.{word_bytes, word_of}
use Rattle.block_loop.specs.Loop.{block_from, follow, loop_of}
use Rattle.image_def.specs.Definition.{def_of}
use Rattle.load_map.specs.Covered.{covered_digest}
use Rattle.image_check.specs.Image.{defined_in, image_in}
use Rattle.image_check.specs.Addressing.{in_flash}
use Rattle.image_check.specs.Rules.{map_answer}
use Rattle.image_check.specs.SameImage.{HoldsImage}
use Rattle.image_check.proofs.HoldLemmas.{answered-held}
use Rattle.image_check.proofs.SameLemmas.{the-image, the-loads}
use Rattle.boot_sweep.specs.Firms.{covered_by}
use Rattle.law_premises.specs.Examples.{digested_definition, digested_flash, digested_image, vector_load}
use Rattle.law_premises.proofs.examples.sessions.contents_that_differ_in_what_is_covered.Goals as goal

pub returns-clause-held : goal.returns-clause-held
unfolding first_words schedule rounds compress hash_after digest_bytes sha256 covered_digest image_in def_of loop_of
    follow block_from block_at front_block item_words frame size_of word_of word_bytes
returns-clause-held c = answered-held Arm false (digested_flash 0x20000001).otp _ digested_image refl

before : List ℕ
before = window_bytes (digested_flash 0x20000001) digested_image.window

later : List ℕ
later = window_bytes (digested_flash 0x20000005) digested_image.window

-- the definition and the loads of the image
defined : defined_in Arm before ≡ Ok digested_definition
unfolding before def_of loop_of follow block_from block_at front_block item_words frame size_of word_of word_bytes
defined = refl

loaded : map_answer in_flash (length before) digested_definition.block digested_definition.def ≡ Ok (vector_load ∷ [])
unfolding before word_of word_bytes size_of frame
loaded = refl

-- what is equal of the covered bytes by the definition and the loads that are held is equal by those
by-those : {A : Type 0} (f : List ℕ → A) (h : HoldsImage Arm before digested_image)
    → f (covered_by later h.image h.sound.loads) ≡ f (covered_by before h.image h.sound.loads)
    → f (covered_by later digested_definition (vector_load ∷ []))
    ≡ f (covered_by before digested_definition (vector_load ∷ []))
by-those f h same =
    let image = the-image Arm before digested_image h digested_definition defined in
    let loads = the-loads Arm before digested_image h digested_definition defined (vector_load ∷ []) loaded in
    subst (λ i. f (covered_by later i (vector_load ∷ [])) ≡ f (covered_by before i (vector_load ∷ []))) image
    (subst (λ ls. f (covered_by later h.image ls) ≡ f (covered_by before h.image ls)) loads same)

pub returns-clause-differ : goal.returns-clause-differ
unfolding before later word_bytes
returns-clause-differ c = λ held same.
    let e : 5 ≡ 1 = ap (λ xs. get_or xs 4 0) (by-those (λ xs. xs) held same) in
    omega (arith, e)

pub returns-clause-own : goal.returns-clause-own
unfolding before later first_words schedule rounds compress hash_after digest_bytes sha256 frame size_of word_of word_bytes
returns-clause-own c = λ held other same.
    let e : 114 ≡ 22 = ap (λ xs. get_or xs 0 0) (by-those sha256 held same) in
    omega (arith, e)
