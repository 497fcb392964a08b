-- The worked image with another block in its first sector, by computing.
use Rattle.std.proofs.Common.{◌≡◌, inl, zero, suc, [], ◌∷◌, length, Some, Ok, refl, sym, ap, subst, arith, pos}
use Rattle.std.specs.Prelude.{Contains}
use Rattle.std.proofs.Math.Dec.{lit<, lit≤}
use Rattle.pico_board.specs.declared.boot.Cpu.TheVariants.{Arm}
use Rattle.pico_board.specs.Content.{flash_base}
use Rattle.block_codec.specs.Blocks.{BlockAt, BlockView, frame}
use Rattle.block_codec.specs.Items.{size_of}
use Rattle.block_codec.specs.Reading.{block_at, front_block, item_words}
use Rattle.block_codec.specs.Words.{word_bytes, word_of}
use Rattle.block_codec.proofs.AtLemmas.{BlockAt-from_found}
use Rattle.block_loop.specs.Loop.{block_from, follow, loop_of}
use Rattle.block_loop.proofs.SameLoopLemmas.{IsLoop-from_answer, IsLoop-unique}
use Rattle.image_def.specs.Definition.{def_of}
use Rattle.load_map.specs.Covered.{covered_digest}
use Rattle.image_check.specs.declared.examining.Defined.{Defined}
use Rattle.image_check.specs.Addressing.{in_flash}
use Rattle.image_check.specs.Entering.{IsEntry}
use Rattle.image_check.specs.Rules.{map_loads}
use Rattle.image_check.specs.SameImage.{HoldsImage}
use Rattle.image_check.specs.Valid.{HasItsDigest, IsDefined}
use Rattle.boot_sweep.specs.Firms.{HasNoOtherBlock, IsFirm}
use Rattle.law_plans.specs.Examples.{crowded, crowded_items, arm_start_at}
use Rattle.law_plans.proofs.CrowdedDigestLemmas.{crowded-digest, crowded_digest}
use Rattle.law_plans.proofs.FirmExampleLemmas.{apart-late, back_block, def_with, entry, front_block_, front_load, source}

abbrev pub crowded_image : Defined
crowded_image = record { block = back_block crowded_items; def = def_with (Some 1) 8 (Some crowded_digest) }

pub crowded-loop : loop_of crowded ≡ Ok (front_block_ ∷ back_block crowded_items ∷ [])
unfolding loop_of follow block_from block_at front_block item_words frame size_of word_of word_bytes
crowded-loop = refl

pub crowded-def : def_of (back_block crowded_items) ≡ Ok crowded_image.def
unfolding def_of size_of frame word_of word_bytes
crowded-def = refl

pub crowded-map : map_loads in_flash (length crowded) (back_block crowded_items) crowded_image.def
    ≡ Ok (front_load 0x1000 ∷ [])
unfolding size_of frame word_of word_bytes
crowded-map = refl

pub crowded-entry : IsEntry flash_base crowded Arm (back_block crowded_items) crowded_image.def
    (front_load 0x1000 ∷ []) entry
unfolding word_of word_bytes
crowded-entry = record {
  source = source;
  found = record { sp = refl; pc = refl; limit = refl; from = refl };
  apart = apart-late crowded_items;
  runs = inl (lit≤ tt, lit< tt);
  is = refl;
}

pub crowded-defined : IsDefined Arm crowded (front_block_ ∷ back_block crowded_items ∷ []) crowded_image
unfolding size_of
crowded-defined = record {
  closes = IsLoop-from_answer crowded (front_block_ ∷ back_block crowded_items ∷ []) crowded-loop;
  defines = record { before = front_block_ ∷ []; behind = []; whole = refl; here = refl; later = tt };
  items = crowded-def;
}

pub crowded-covers : HasItsDigest crowded crowded_image (front_load 0x1000 ∷ [])
unfolding covered_digest
crowded-covers = sym crowded-digest

abbrev pub crowded_held : HoldsImage Arm crowded (arm_start_at 0x1000)
crowded_held = record {
  image = crowded_image;
  entry = entry;
  sound = record {
    loop = front_block_ ∷ back_block crowded_items ∷ [];
    loads = front_load 0x1000 ∷ [];
    defined = crowded-defined;
    map = crowded-map;
    enters = crowded-entry;
    digest = crowded-covers;
    delta = refl;
  };
  started = refl;
}

abbrev other_block : BlockView
other_block = record { at = 0x200; items = 0x10210142 ∷ []; link = pos 0 }

other-stands : BlockAt crowded 0x200 other_block
unfolding block_at front_block item_words frame size_of word_of word_bytes
other-stands = BlockAt-from_found crowded 0x200 other_block refl

not-among : Contains (front_block_ ∷ back_block crowded_items ∷ []) other_block → ⊥
not-among (zero, lt, is) = let same = ap (λ (b : BlockView). b.at) is in omega (arith, same)
not-among (suc zero, lt, is) = let same = ap (λ (b : BlockView). b.at) is in omega (arith, same)
not-among (suc (suc k), lt, is) = omega (arith, lt)

pub never-alone : HasNoOtherBlock crowded (front_block_ ∷ back_block crowded_items ∷ []) → ⊥
never-alone alone = not-among (alone 0x200 other_block (lit< tt) other-stands)

pub never-firm : IsFirm Arm crowded (arm_start_at 0x1000) → ⊥
never-firm f =
    let loop = crowded_held.sound.loop in
    let closes = crowded_held.sound.defined.closes in
    let same = IsLoop-unique crowded f.held.sound.loop loop f.held.sound.defined.closes closes in
    never-alone (subst (HasNoOtherBlock crowded) same f.alone)
