-- The worked image with a load map that leaves a byte out, by computing.
use Rattle.std.proofs.Common.{◌≡◌, inl, [], ◌∷◌, length, Some, Ok, refl, sym, subst, arith}
use Rattle.std.proofs.Math.Dec.{lit<, lit≤}
use Rattle.pico_board.specs.declared.boot.Cpu.TheVariants.{Arm}
use Rattle.pico_board.specs.Content.{flash_base}
use Rattle.block_codec.specs.Blocks.{frame}
use Rattle.block_codec.specs.Items.{size_of}
use Rattle.block_codec.specs.Reading.{block_at, front_block, item_words}
use Rattle.block_codec.specs.Words.{word_bytes, word_of}
use Rattle.block_loop.specs.Loop.{block_from, follow, loop_of}
use Rattle.block_loop.proofs.SameLoopLemmas.{IsLoop-from_answer}
use Rattle.image_def.specs.Definition.{def_of}
use Rattle.load_map.specs.Covered.{covered_digest}
use Rattle.image_check.specs.declared.examining.Defined.{Defined}
use Rattle.image_check.specs.Addressing.{in_flash}
use Rattle.image_check.specs.Entering.{IsEntry}
use Rattle.image_check.specs.Rules.{map_loads}
use Rattle.image_check.specs.SameImage.{HoldsImage}
use Rattle.image_check.specs.Valid.{HasItsDigest, IsDefined}
use Rattle.image_pack.proofs.ReadBackLemmas.{one-loads}
use Rattle.boot_sweep.specs.Firms.{HasNoOtherBlock, IsFirm, LoadsFront}
use Rattle.law_plans.specs.Examples.{clipped, clipped_items, arm_start_at}
use Rattle.law_plans.proofs.ClippedDigestLemmas.{clipped-digest, clipped_digest}
use Rattle.law_plans.proofs.FirmExampleLemmas.{apart-late, back_block, def_with, entry, front_block_, front_load, no-other, source}

abbrev pub clipped_image : Defined
clipped_image = record { block = back_block clipped_items; def = def_with (Some 1) 8 (Some clipped_digest) }

pub clipped-loop : loop_of clipped ≡ Ok (front_block_ ∷ back_block clipped_items ∷ [])
unfolding loop_of follow block_from block_at front_block item_words frame size_of word_of word_bytes
clipped-loop = refl

pub clipped-def : def_of (back_block clipped_items) ≡ Ok clipped_image.def
unfolding def_of size_of frame word_of word_bytes
clipped-def = refl

pub clipped-map : map_loads in_flash (length clipped) (back_block clipped_items) clipped_image.def
    ≡ Ok (front_load 0xfff ∷ [])
unfolding size_of frame word_of word_bytes
clipped-map = refl

pub clipped-entry : IsEntry flash_base clipped Arm (back_block clipped_items) clipped_image.def
    (front_load 0xfff ∷ []) entry
unfolding word_of word_bytes
clipped-entry = record {
  source = source;
  found = record { sp = refl; pc = refl; limit = refl; from = refl };
  apart = apart-late clipped_items;
  runs = inl (lit≤ tt, lit< tt);
  is = refl;
}

pub clipped-defined : IsDefined Arm clipped (front_block_ ∷ back_block clipped_items ∷ []) clipped_image
unfolding size_of
clipped-defined = record {
  closes = IsLoop-from_answer clipped (front_block_ ∷ back_block clipped_items ∷ []) clipped-loop;
  defines = record { before = front_block_ ∷ []; behind = []; whole = refl; here = refl; later = tt };
  items = clipped-def;
}

pub clipped-covers : HasItsDigest clipped clipped_image (front_load 0xfff ∷ [])
unfolding covered_digest
clipped-covers = sym clipped-digest

abbrev pub clipped_held : HoldsImage Arm clipped (arm_start_at 0x1000)
clipped_held = record {
  image = clipped_image;
  entry = entry;
  sound = record {
    loop = front_block_ ∷ back_block clipped_items ∷ [];
    loads = front_load 0xfff ∷ [];
    defined = clipped-defined;
    map = clipped-map;
    enters = clipped-entry;
    digest = clipped-covers;
    delta = refl;
  };
  started = refl;
}

pub clipped-alone : HasNoOtherBlock clipped (front_block_ ∷ back_block clipped_items ∷ [])
unfolding block_from block_at front_block item_words frame size_of word_of word_bytes
clipped-alone = no-other clipped front_block_ (back_block clipped_items ∷ []) refl refl refl

pub never-clipped : IsFirm Arm clipped (arm_start_at 0x1000) → ⊥
never-clipped f =
    let h = clipped_held in
    let e = one-loads Arm clipped f.held.sound.loop h.sound.loop f.held.image h.image f.held.sound.loads h.sound.loads
    f.held.sound.defined h.sound.defined f.held.sound.map h.sound.map in
    let front : LoadsFront 0x1000 (front_load 0xfff ∷ []) = subst (LoadsFront 0x1000) e f.front in
    let size = front.1 in omega (arith, size)
