-- Worked images that are not firm, by computing.
use Rattle.std.proofs.Common.{◌≡◌, inl, inr, ℕ, ◌<◌, List, [], ◌∷◌, drop, length, Option, None, Some, Ok, refl, sym, subst, arith, pos, negsuc}
use Rattle.std.proofs.Math.Dec.{lit<, lit≤}
use Rattle.std.proofs.lemmas.Bool.{cases_lt}
use Rattle.std.proofs.lemmas.Option.{same_Some}
use Rattle.sha2.specs.Sha256.{compress, digest_bytes, first_words, hash_after, rounds, schedule, sha256}
use Rattle.pico_board.specs.declared.boot.Cpu.TheVariants.{Arm}
use Rattle.pico_board.specs.Content.{flash_base}
use Rattle.block_codec.specs.declared.definition.Def.{Def}
use Rattle.block_codec.specs.declared.definition.EntryPoint.{EntryPoint}
use Rattle.block_codec.specs.Blocks.{BlockAt, BlockView, frame}
use Rattle.block_codec.specs.Items.{size_of}
use Rattle.block_codec.specs.Reading.{block_at, front_block, item_words}
use Rattle.block_codec.specs.Words.{word_bytes, word_of}
use Rattle.block_codec.proofs.AtLemmas.{BlockAt-unique}
use Rattle.block_loop.specs.Loop.{block_from, first_block, follow, loop_of}
use Rattle.block_loop.proofs.ChainLemmas.{first_block-found, first_from-none}
use Rattle.block_loop.proofs.SameLoopLemmas.{IsLoop-from_answer}
use Rattle.image_def.specs.Definition.{def_of}
use Rattle.load_map.specs.Covered.{covered_digest}
use Rattle.load_map.specs.declared.load.Load.{Load}
use Rattle.image_check.specs.declared.entry.Source.{Source}
use Rattle.image_check.specs.declared.examining.Defined.{Defined}
use Rattle.image_check.specs.Addressing.{in_flash}
use Rattle.image_check.specs.Entering.{IsEntry, MeetsBlock}
use Rattle.image_check.specs.Rules.{map_loads}
use Rattle.image_check.specs.SameImage.{HoldsImage}
use Rattle.image_check.specs.Valid.{HasItsDigest, IsDefined}
use Rattle.boot_sweep.specs.Firms.{HasNoOtherBlock}
use Rattle.law_plans.specs.Examples.{early, early_items, arm_start_at, undigested, undigested_items, unmapped, unmapped_items}

-- the one block below 4096 stands at 0x100
lone : (bytes : List ℕ) (a : BlockView) → first_block bytes ≡ Some a → a.at ≡ 0x100
    → block_from 959 0x104 (drop 0x104 bytes) ≡ None → (x : ℕ) (b : BlockView) → x < 4096 → BlockAt bytes x b → b ≡ a
lone bytes a found place none x b low at =
    let first = first_block-found bytes a found in
    elim (cases_lt x 0x100) [
      | inl before ↦ absurd (first.least x b (omega (arith, before, place)) at)
      | inr from ↦ elim (cases_lt x 0x104) [
        | inl here ↦
            let aligned = at.aligned in
            let same : x ≡ a.at = omega (arith, from, here, aligned, place) in
            BlockAt-unique bytes a.at b a (subst (λ y. BlockAt bytes y b) same at) first.stands
        | inr behind ↦ absurd (first_from-none bytes 959 0x104 refl none x b behind (omega (arith, low)) at)
      ]
    ]

pub no-other : (bytes : List ℕ) (a : BlockView) (rest : List BlockView) → first_block bytes ≡ Some a → a.at ≡ 0x100
    → block_from 959 0x104 (drop 0x104 bytes) ≡ None → HasNoOtherBlock bytes (a ∷ rest)
no-other bytes a rest found place none x b low at = (0, omega arith, sym (lone bytes a found place none x b low at))

abbrev pub front_block_ : BlockView
front_block_ = record { at = 0x100; items = 0x10210142 ∷ []; link = pos 0xf00 }

abbrev pub back_block : List ℕ → BlockView
back_block items = record { at = 0x1000; items = items; link = negsuc 0xeff }

abbrev pub entry : EntryPoint
entry = record { pc = 0x10000201; sp = 0x20082000; limit = 0 }

abbrev pub source : Source
source = record { entry = entry; table = Some 0x10000000 }

-- a definition of an Arm image
abbrev pub def_with : Option ℕ → ℕ → Option (List ℕ) → Def
def_with map_item hash_words digest = record {
  flags = 0x1021;
  image_word = 1;
  vector = None;
  entry_point = None;
  delta = pos 0;
  map_item = map_item;
  hash_words = hash_words;
  digest = digest;
  version = record { major = 0; minor = 0 };
  rollback = None;
  rows = record { items = [] };
}

-- the vector table and the first code address stand apart from a block at 0x1000 of this size
pub apart-late : (items : List ℕ) → MeetsBlock flash_base (back_block items) source → ⊥
apart-late items (inl (table, address, is, in_table, in_block)) =
    let e : Some 0x10000000 ≡ Some table = is in
    let same = same_Some 0x10000000 table e in
    omega (arith, same, in_table.1, in_block.0)
apart-late items (inr code) = omega (arith, code.0)

-- the image without a digest
abbrev pub undigested_image : Defined
undigested_image = record { block = back_block undigested_items; def = def_with (Some 1) 0 None }

abbrev pub front_load : ℕ → Load
front_load size = record { storage = Some 0; runtime = 0x10000000; size = size }

-- the load that clears the first 4096 bytes of SRAM
abbrev pub clear_load : Load
clear_load = record { storage = None; runtime = 0x20000000; size = 0x1000 }

pub undigested-loop : loop_of undigested ≡ Ok (front_block_ ∷ back_block undigested_items ∷ [])
unfolding loop_of follow block_from block_at front_block item_words frame size_of word_of word_bytes
undigested-loop = refl

pub undigested-def : def_of (back_block undigested_items) ≡ Ok undigested_image.def
unfolding def_of size_of frame word_of word_bytes
undigested-def = refl

pub undigested-map : map_loads in_flash (length undigested) (back_block undigested_items) undigested_image.def
    ≡ Ok (front_load 0x1000 ∷ [])
unfolding size_of frame word_of word_bytes
undigested-map = refl

pub undigested-entry : IsEntry flash_base undigested Arm (back_block undigested_items) undigested_image.def
    (front_load 0x1000 ∷ []) entry
unfolding word_of word_bytes
undigested-entry = record {
  source = source;
  found = record { sp = refl; pc = refl; limit = refl; from = refl };
  apart = apart-late undigested_items;
  runs = inl (lit≤ tt, lit< tt);
  is = refl;
}

pub undigested-defined : IsDefined Arm undigested (front_block_ ∷ back_block undigested_items ∷ []) undigested_image
unfolding size_of
undigested-defined = record {
  closes = IsLoop-from_answer undigested (front_block_ ∷ back_block undigested_items ∷ []) undigested-loop;
  defines = record { before = front_block_ ∷ []; behind = []; whole = refl; here = refl; later = tt };
  items = undigested-def;
}

abbrev pub undigested_held : HoldsImage Arm undigested (arm_start_at 0x1000)
undigested_held = record {
  image = undigested_image;
  entry = entry;
  sound = record {
    loop = front_block_ ∷ back_block undigested_items ∷ [];
    loads = front_load 0x1000 ∷ [];
    defined = undigested-defined;
    map = undigested-map;
    enters = undigested-entry;
    digest = tt;
    delta = refl;
  };
  started = refl;
}

pub undigested-alone : HasNoOtherBlock undigested (front_block_ ∷ back_block undigested_items ∷ [])
unfolding block_from block_at front_block item_words frame size_of word_of word_bytes
undigested-alone = no-other undigested front_block_ (back_block undigested_items ∷ []) refl refl refl

-- the image without a load map
abbrev pub first_digest : List ℕ
first_digest =
    170 ∷ 73 ∷ 235 ∷ 55 ∷ 232 ∷ 67 ∷ 83 ∷ 234 ∷ 29 ∷ 88 ∷ 74 ∷ 13 ∷ 147 ∷ 122 ∷ 240 ∷ 244 ∷ 84 ∷ 69 ∷ 118 ∷ 132
    ∷ 79 ∷ 249 ∷ 106 ∷ 171 ∷ 225 ∷ 181 ∷ 11 ∷ 158 ∷ 44 ∷ 208 ∷ 1 ∷ 159 ∷ []

abbrev pub unmapped_image : Defined
unmapped_image = record { block = back_block unmapped_items; def = def_with None 4 (Some first_digest) }

pub unmapped-loop : loop_of unmapped ≡ Ok (front_block_ ∷ back_block unmapped_items ∷ [])
unfolding loop_of follow block_from block_at front_block item_words frame size_of word_of word_bytes
unmapped-loop = refl

pub unmapped-def : def_of (back_block unmapped_items) ≡ Ok unmapped_image.def
unfolding def_of size_of frame word_of word_bytes
unmapped-def = refl

pub unmapped-map : map_loads in_flash (length unmapped) (back_block unmapped_items) unmapped_image.def ≡ Ok ([])
unfolding size_of frame word_of word_bytes
unmapped-map = refl

pub unmapped-entry : IsEntry flash_base unmapped Arm (back_block unmapped_items) unmapped_image.def ([]) entry
unfolding word_of word_bytes
unmapped-entry = record {
  source = source;
  found = record { sp = refl; pc = refl; limit = refl; from = refl };
  apart = apart-late unmapped_items;
  runs = inl (lit≤ tt, lit< tt);
  is = refl;
}

pub unmapped-defined : IsDefined Arm unmapped (front_block_ ∷ back_block unmapped_items ∷ []) unmapped_image
unfolding size_of
unmapped-defined = record {
  closes = IsLoop-from_answer unmapped (front_block_ ∷ back_block unmapped_items ∷ []) unmapped-loop;
  defines = record { before = front_block_ ∷ []; behind = []; whole = refl; here = refl; later = tt };
  items = unmapped-def;
}

pub unmapped-digest : HasItsDigest unmapped unmapped_image ([])
unfolding covered_digest frame first_words schedule rounds compress hash_after digest_bytes sha256 word_bytes
unmapped-digest = refl

abbrev pub unmapped_held : HoldsImage Arm unmapped (arm_start_at 0x1000)
unmapped_held = record {
  image = unmapped_image;
  entry = entry;
  sound = record {
    loop = front_block_ ∷ back_block unmapped_items ∷ [];
    loads = [];
    defined = unmapped-defined;
    map = unmapped-map;
    enters = unmapped-entry;
    digest = unmapped-digest;
    delta = refl;
  };
  started = refl;
}

pub unmapped-alone : HasNoOtherBlock unmapped (front_block_ ∷ back_block unmapped_items ∷ [])
unfolding block_from block_at front_block item_words frame size_of word_of word_bytes
unmapped-alone = no-other unmapped front_block_ (back_block unmapped_items ∷ []) refl refl refl

-- the image with an early definition
abbrev pub early_digest : List ℕ
early_digest =
    30 ∷ 173 ∷ 117 ∷ 202 ∷ 75 ∷ 76 ∷ 47 ∷ 186 ∷ 87 ∷ 217 ∷ 146 ∷ 101 ∷ 141 ∷ 140 ∷ 124 ∷ 168 ∷ 20 ∷ 142 ∷ 228 ∷ 2
    ∷ 115 ∷ 50 ∷ 195 ∷ 246 ∷ 180 ∷ 214 ∷ 56 ∷ 145 ∷ 96 ∷ 38 ∷ 244 ∷ 176 ∷ []

abbrev pub early_block : BlockView
early_block = record { at = 0x100; items = early_items; link = pos 0 }

apart-early : MeetsBlock flash_base early_block source → ⊥
apart-early (inl (table, address, is, in_table, in_block)) =
    let e : Some 0x10000000 ≡ Some table = is in
    let same = same_Some 0x10000000 table e in
    omega (arith, same, in_table.1, in_block.0)
apart-early (inr code) = omega (arith, code.1)

abbrev pub early_image : Defined
early_image = record { block = early_block; def = def_with (Some 1) 8 (Some early_digest) }

pub early-loop : loop_of early ≡ Ok (early_block ∷ [])
unfolding loop_of follow block_from block_at front_block item_words frame size_of word_of word_bytes
early-loop = refl

pub early-def : def_of (early_block) ≡ Ok early_image.def
unfolding def_of size_of frame word_of word_bytes
early-def = refl

pub early-map : map_loads in_flash (length early) (early_block) early_image.def ≡ Ok (front_load 0x100 ∷ [])
unfolding size_of frame word_of word_bytes
early-map = refl

pub early-entry : IsEntry flash_base early Arm (early_block) early_image.def (front_load 0x100 ∷ []) entry
unfolding word_of word_bytes
early-entry = record {
  source = source;
  found = record { sp = refl; pc = refl; limit = refl; from = refl };
  apart = apart-early;
  runs = inl (lit≤ tt, lit< tt);
  is = refl;
}

pub early-defined : IsDefined Arm early (early_block ∷ []) early_image
unfolding size_of
early-defined = record {
  closes = IsLoop-from_answer early (early_block ∷ []) early-loop;
  defines = record { before = []; behind = []; whole = refl; here = refl; later = tt };
  items = early-def;
}

pub early-digest : HasItsDigest early early_image (front_load 0x100 ∷ [])
unfolding covered_digest frame first_words schedule rounds compress hash_after digest_bytes sha256 word_bytes
early-digest = refl

abbrev pub early_held : HoldsImage Arm early (arm_start_at 0x100)
early_held = record {
  image = early_image;
  entry = entry;
  sound = record {
    loop = early_block ∷ [];
    loads = front_load 0x100 ∷ [];
    defined = early-defined;
    map = early-map;
    enters = early-entry;
    digest = early-digest;
    delta = refl;
  };
  started = refl;
}

pub early-alone : HasNoOtherBlock early (early_block ∷ [])
unfolding block_from block_at front_block item_words frame size_of word_of word_bytes
early-alone = no-other early early_block ([]) refl refl refl
