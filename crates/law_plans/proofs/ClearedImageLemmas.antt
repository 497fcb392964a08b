-- The worked image with a load map that begins with another entry, by computing.
use Rattle.std.proofs.Common.{◌≡◌, inl, [], ◌∷◌, length, Some, Ok, refl, sym, subst}
use Rattle.std.proofs.Math.Dec.{lit<, lit≤}
use Rattle.pico_board.specs.declared.boot.Cpu.TheVariants.{Arm}
use Rattle.pico_board.specs.Content.{flash_base}
use Rattle.block_codec.specs.Blocks.{frame}
use Rattle.block_codec.specs.Items.{size_of}
use Rattle.block_codec.specs.Reading.{block_at, front_block, item_words}
use Rattle.block_codec.specs.Words.{word_bytes, word_of}
use Rattle.block_loop.specs.Loop.{block_from, follow, loop_of}
use Rattle.block_loop.proofs.SameLoopLemmas.{IsLoop-from_answer}
use Rattle.image_def.specs.Definition.{def_of}
use Rattle.load_map.specs.Covered.{covered_digest}
use Rattle.image_check.specs.declared.examining.Defined.{Defined}
use Rattle.image_check.specs.Addressing.{in_flash}
use Rattle.image_check.specs.Entering.{IsEntry}
use Rattle.image_check.specs.Rules.{map_loads}
use Rattle.image_check.specs.SameImage.{HoldsImage}
use Rattle.image_check.specs.Valid.{HasItsDigest, IsDefined}
use Rattle.image_pack.proofs.ReadBackLemmas.{one-loads}
use Rattle.boot_sweep.specs.Firms.{HasNoOtherBlock, IsFirm, LoadsFront}
use Rattle.law_plans.specs.Examples.{cleared_blocks, cleared_items, arm_start_at}
use Rattle.law_plans.proofs.ClearedDigestLemmas.{cleared-digest, cleared_digest}
use Rattle.law_plans.proofs.FirmExampleLemmas.{apart-late, back_block, clear_load, def_with, entry, front_block_, front_load, no-other, source}

abbrev pub cleared_image : Defined
cleared_image = record { block = back_block cleared_items; def = def_with (Some 1) 11 (Some cleared_digest) }

pub cleared-loop : loop_of cleared_blocks ≡ Ok (front_block_ ∷ back_block cleared_items ∷ [])
unfolding loop_of follow block_from block_at front_block item_words frame size_of word_of word_bytes
cleared-loop = refl

pub cleared-def : def_of (back_block cleared_items) ≡ Ok cleared_image.def
unfolding def_of size_of frame word_of word_bytes
cleared-def = refl

pub cleared-map : map_loads in_flash (length cleared_blocks) (back_block cleared_items) cleared_image.def
    ≡ Ok (clear_load ∷ front_load 0x1000 ∷ [])
unfolding size_of frame word_of word_bytes
cleared-map = refl

pub cleared-entry : IsEntry flash_base cleared_blocks Arm (back_block cleared_items) cleared_image.def
    (clear_load ∷ front_load 0x1000 ∷ []) entry
unfolding word_of word_bytes
cleared-entry = record {
  source = source;
  found = record { sp = refl; pc = refl; limit = refl; from = refl };
  apart = apart-late cleared_items;
  runs = inl (lit≤ tt, lit< tt);
  is = refl;
}

pub cleared-defined : IsDefined Arm cleared_blocks (front_block_ ∷ back_block cleared_items ∷ []) cleared_image
unfolding size_of
cleared-defined = record {
  closes = IsLoop-from_answer cleared_blocks (front_block_ ∷ back_block cleared_items ∷ []) cleared-loop;
  defines = record { before = front_block_ ∷ []; behind = []; whole = refl; here = refl; later = tt };
  items = cleared-def;
}

pub cleared-covers : HasItsDigest cleared_blocks cleared_image (clear_load ∷ front_load 0x1000 ∷ [])
unfolding covered_digest
cleared-covers = sym cleared-digest

abbrev pub cleared_held : HoldsImage Arm cleared_blocks (arm_start_at 0x1000)
cleared_held = record {
  image = cleared_image;
  entry = entry;
  sound = record {
    loop = front_block_ ∷ back_block cleared_items ∷ [];
    loads = clear_load ∷ front_load 0x1000 ∷ [];
    defined = cleared-defined;
    map = cleared-map;
    enters = cleared-entry;
    digest = cleared-covers;
    delta = refl;
  };
  started = refl;
}

pub cleared-alone : HasNoOtherBlock cleared_blocks (front_block_ ∷ back_block cleared_items ∷ [])
unfolding block_from block_at front_block item_words frame size_of word_of word_bytes
cleared-alone = no-other cleared_blocks front_block_ (back_block cleared_items ∷ []) refl refl refl

pub never-cleared : IsFirm Arm cleared_blocks (arm_start_at 0x1000) → ⊥
never-cleared f =
    let h = cleared_held in
    let e = one-loads Arm cleared_blocks f.held.sound.loop h.sound.loop f.held.image h.image f.held.sound.loads h.sound.loads
    f.held.sound.defined h.sound.defined f.held.sound.map h.sound.map in
    let front : LoadsFront 0x1000 (clear_load ∷ front_load 0x1000 ∷ []) = subst (LoadsFront 0x1000) e f.front in
    let stored : clear_load.storage ≡ Some 0 = front.0 in cc
