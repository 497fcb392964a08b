-- The worked firm image, by computing.
use Rattle.std.proofs.Common.{◌≡◌, inl, [], ◌∷◌, length, Some, Ok, refl, sym}
use Rattle.std.proofs.Math.Dec.{lit<, lit≤}
use Rattle.pico_board.specs.declared.boot.Cpu.TheVariants.{Arm}
use Rattle.pico_board.specs.Content.{flash_base}
use Rattle.block_codec.specs.Blocks.{frame}
use Rattle.block_codec.specs.Items.{size_of}
use Rattle.block_codec.specs.Reading.{block_at, front_block, item_words}
use Rattle.block_codec.specs.Words.{word_bytes, word_of}
use Rattle.block_loop.specs.Loop.{block_from, follow, loop_of}
use Rattle.block_loop.proofs.SameLoopLemmas.{IsLoop-from_answer}
use Rattle.image_def.specs.Definition.{def_of}
use Rattle.load_map.specs.Covered.{covered_digest}
use Rattle.image_check.specs.declared.examining.Defined.{Defined}
use Rattle.image_check.specs.Addressing.{in_flash}
use Rattle.image_check.specs.Entering.{IsEntry}
use Rattle.image_check.specs.Rules.{map_loads}
use Rattle.image_check.specs.SameImage.{HoldsImage}
use Rattle.image_check.specs.Valid.{HasItsDigest, IsDefined}
use Rattle.boot_sweep.specs.Firms.{HasNoOtherBlock, IsFirm}
use Rattle.law_plans.specs.Examples.{firm, firm_items, arm_start_at}
use Rattle.law_plans.proofs.FirmDigestLemmas.{firm-digest, firm_digest}
use Rattle.law_plans.proofs.FirmExampleLemmas.{apart-late, back_block, def_with, entry, front_block_, front_load, no-other, source}

abbrev pub firm_image : Defined
firm_image = record { block = back_block firm_items; def = def_with (Some 1) 8 (Some firm_digest) }

pub firm-loop : loop_of firm ≡ Ok (front_block_ ∷ back_block firm_items ∷ [])
unfolding loop_of follow block_from block_at front_block item_words frame size_of word_of word_bytes
firm-loop = refl

pub firm-def : def_of (back_block firm_items) ≡ Ok firm_image.def
unfolding def_of size_of frame word_of word_bytes
firm-def = refl

pub firm-map : map_loads in_flash (length firm) (back_block firm_items) firm_image.def ≡ Ok (front_load 0x1000 ∷ [])
unfolding size_of frame word_of word_bytes
firm-map = refl

pub firm-entry : IsEntry flash_base firm Arm (back_block firm_items) firm_image.def (front_load 0x1000 ∷ []) entry
unfolding word_of word_bytes
firm-entry = record {
  source = source;
  found = record { sp = refl; pc = refl; limit = refl; from = refl };
  apart = apart-late firm_items;
  runs = inl (lit≤ tt, lit< tt);
  is = refl;
}

pub firm-defined : IsDefined Arm firm (front_block_ ∷ back_block firm_items ∷ []) firm_image
unfolding size_of
firm-defined = record {
  closes = IsLoop-from_answer firm (front_block_ ∷ back_block firm_items ∷ []) firm-loop;
  defines = record { before = front_block_ ∷ []; behind = []; whole = refl; here = refl; later = tt };
  items = firm-def;
}

pub firm-covers : HasItsDigest firm firm_image (front_load 0x1000 ∷ [])
unfolding covered_digest
firm-covers = sym firm-digest

abbrev pub firm_held : HoldsImage Arm firm (arm_start_at 0x1000)
firm_held = record {
  image = firm_image;
  entry = entry;
  sound = record {
    loop = front_block_ ∷ back_block firm_items ∷ [];
    loads = front_load 0x1000 ∷ [];
    defined = firm-defined;
    map = firm-map;
    enters = firm-entry;
    digest = firm-covers;
    delta = refl;
  };
  started = refl;
}

pub firm-alone : HasNoOtherBlock firm (front_block_ ∷ back_block firm_items ∷ [])
unfolding block_from block_at front_block item_words frame size_of word_of word_bytes
firm-alone = no-other firm front_block_ (back_block firm_items ∷ []) refl refl refl

pub is-firm : IsFirm Arm firm (arm_start_at 0x1000)
is-firm = record { held = firm_held; late = lit≤ tt; hashed = refl; front = (refl, refl); alone = firm-alone }
