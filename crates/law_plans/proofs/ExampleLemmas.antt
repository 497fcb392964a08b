-- Worked cuts and blocks, by computing.
use Rattle.std.proofs.Common.{◌≡◌, inl, inr, ℕ, ◌<◌, List, [], ◌∷◌, ◌++◌, drop, None, Some, refl, sym, ◌∙◌, subst, arith, pos}
use Rattle.std.specs.Prelude.{slice_index}
use Rattle.std.proofs.lemmas.Bool.{cases_lt}
use Rattle.pico_board.specs.declared.boot.BootKind.TheVariants.{Normal}
use Rattle.pico_board.specs.declared.boot.Cpu.TheVariants.{Arm}
use Rattle.pico_board.specs.declared.Step.TheVariants.{Erase, Program}
use Rattle.pico_board.specs.Content.{Content, window_bytes}
use Rattle.pico_board.specs.Steps.{after_all}
use Rattle.block_codec.specs.Blocks.{BlockAt, BlockView, frame}
use Rattle.block_codec.specs.Items.{size_of}
use Rattle.block_codec.specs.Reading.{block_at, front_block, item_words}
use Rattle.block_codec.specs.Words.{word_bytes, word_of}
use Rattle.block_codec.proofs.AtLemmas.{BlockAt-from_found, BlockAt-unique}
use Rattle.block_loop.specs.Loop.{block_from, first_block}
use Rattle.block_loop.proofs.ChainLemmas.{first_block-found, first_from-none}
use Rattle.boot_rules.specs.declared.decision.Decision.{Decision}
use Rattle.boot_rules.specs.declared.decision.Decision.TheVariants.{Bootsel, Start}
use Rattle.boot_rules.specs.Chosen.{Chosen}
use Rattle.worked_flashes.specs.Flashes.{arm_slot, bare_slot}
use Rattle.boot_rules.proofs.DecisionLemmas.{chosen-exactly}
use Rattle.worked_flashes.specs.Flashes.{beside_small, block_page, mapped_page, small_with, vector_page}
use Rattle.worked_flashes.specs.Choices.{small_slot}

-- a normal boot on a content decides in one way
pub one-decision : (c : Content) (d e : Decision) → Chosen c Arm Normal d → Chosen c Arm Normal e → d ≡ e
one-decision c d e one two =
    (chosen-exactly c Arm Normal d).0 one ∙ sym ((chosen-exactly c Arm Normal e).0 two)

abbrev pub start_of : Decision → ℕ
start_of (Start choice) = choice.image.window.start
start_of (Bootsel fall) = 0

-- the first three steps of the worked session
pub first-three : after_all (beside_small bare_slot)
    (Erase 4 ∷ Program 64 vector_page ∷ Program 65 (block_page 0x0001000a) ∷ [])
    ≡ beside_small (arm_slot 0x0001000a)
unfolding word_bytes
first-three = refl

-- the block of an Arm image of version 1.10, and that of one with a load map too
abbrev pub plain_block : ℕ → BlockView
plain_block version =
    record { at = 0x100; items = 0x10210142 ∷ 0x00000248 ∷ version ∷ []; link = pos 0 }

abbrev pub bytes_of_slot : ℕ → List ℕ
bytes_of_slot version = window_bytes (beside_small (arm_slot version)) small_slot

pub first-is : first_block (bytes_of_slot 0x0001000a) ≡ Some (plain_block 0x0001000a)
unfolding block_from block_at front_block item_words frame size_of word_of word_bytes
first-is = refl

pub none-behind : block_from 959 0x104 (drop 0x104 (bytes_of_slot 0x0001000a)) ≡ None
unfolding block_from block_at front_block item_words frame size_of word_of word_bytes
none-behind = refl

-- the one block of the first sector
pub lone-block : (x : ℕ) (b : BlockView) → x < 4096 → BlockAt (bytes_of_slot 0x0001000a) x b
    → b ≡ plain_block 0x0001000a
lone-block x b low at =
    let bytes = bytes_of_slot 0x0001000a in
    let first = first_block-found bytes (plain_block 0x0001000a) first-is in
    elim (cases_lt x 0x100) [
      | inl before ↦ absurd (first.least x b before at)
      | inr from ↦ elim (cases_lt x 0x104) [
        | inl here ↦
            let aligned = at.aligned in
            let place : x ≡ 0x100 = omega (arith, from, here, aligned) in
            BlockAt-unique bytes 0x100 b (plain_block 0x0001000a) (subst (λ y. BlockAt bytes y b) place at) first.stands
        | inr behind ↦ absurd
            (first_from-none bytes 959 0x104 refl none-behind x b behind (omega (arith, low)) at)
      ]
    ]

pub stands : BlockAt (bytes_of_slot 0x0001000a) 0x100 (plain_block 0x0001000a)
stands = (first_block-found (bytes_of_slot 0x0001000a) (plain_block 0x0001000a) first-is).stands

pub older-stands : BlockAt (bytes_of_slot 0x00010009) 0x100 (plain_block 0x00010009)
unfolding block_at front_block item_words frame size_of word_of word_bytes
older-stands = BlockAt-from_found (bytes_of_slot 0x00010009) 0x100 (plain_block 0x00010009) refl

-- the block of an image with a load map without entries
abbrev pub mapped_block : BlockView
mapped_block =
    record { at = 0x100; items = 0x10210142 ∷ 0x00000248 ∷ 0x0001000a ∷ 0x00000106 ∷ []; link = pos 0 }

abbrev pub mapped_bytes : List ℕ
mapped_bytes = window_bytes (beside_small (small_with (vector_page ++ mapped_page 0x0001000a))) small_slot

pub mapped-stands : BlockAt mapped_bytes 0x100 mapped_block
unfolding block_at front_block item_words frame size_of word_of word_bytes
mapped-stands = BlockAt-from_found mapped_bytes 0x100 mapped_block refl

pub bare-byte : slice_index (window_bytes (beside_small bare_slot) small_slot) 0x100 ≡ 255
unfolding word_bytes
bare-byte = refl
