-- An image whose vector table is loaded into SRAM is sealed, by computing.
use Rattle.std.proofs.Common.{◌≡◌, ℕ, ◌≤◌, List, [], ◌∷◌, length, true, false, pos, refl, sym, ap, subst, arith, None, Some, Result, Ok, ◌++◌, length-append}
use Rattle.pico_board.specs.declared.boot.Cpu.TheVariants.{Arm}
use Rattle.pico_board.specs.Content.{flash_base}
use Rattle.sha2.specs.Sha256.{compress, digest_bytes, first_words, hash_after, rounds, schedule, sha256}
use Rattle.block_codec.specs.Blocks.{frame}
use Rattle.std.proofs.lemmas.List.{length-replicate}
use Rattle.pico_board.specs.declared.window.TheConstants.{MOST_FLASH_BYTES}
use Rattle.block_codec.specs.Items.{size_of}
use Rattle.block_codec.specs.Reading.{block_at, front_block, item_words}
use Rattle.block_codec.specs.Words.{word_bytes, word_of}
use Rattle.block_loop.specs.Loop.{block_from, follow, loop_of}
use Rattle.image_def.specs.Definition.{def_of}
use Rattle.load_map.specs.declared.addresses.TheConstants.{SRAM_START}
use Rattle.load_map.specs.declared.load.Load.{Load}
use Rattle.load_map.specs.Covered.{covered_digest}
use Rattle.image_check.specs.declared.examining.Defined.{Defined}
use Rattle.image_check.specs.Addressing.{in_flash}
use Rattle.image_check.specs.Entering.{table_address}
use Rattle.load_map.specs.declared.load.MapFault.{MapFault}
use Rattle.block_codec.specs.declared.definition.Def.{Def}
use Rattle.block_codec.specs.Blocks.{BlockView}
use Rattle.image_def.specs.Definition.{no_version}
use Rattle.image_check.specs.Image.{defined_in, image_in}
use Rattle.image_check.specs.Rules.{map_loads}
use Rattle.image_check.specs.Valid.{IsValidImage}
use Rattle.image_check.proofs.AnsweredLemmas.{defined-ok}
use Rattle.image_check.proofs.LawLemmas.{answered-valid}
use Rattle.image_pack.specs.declared.parts.Parts.{Parts}
use Rattle.image_pack.specs.Examples.{eight_bytes, erased_sector, window_of_length, loaded_image, table_record}
use Rattle.image_pack.specs.Faults.{IsSealed, block_offset, whole_window, zero_otp}
use Rattle.image_pack.specs.Filling.{whole_sectors}
use Rattle.image_pack.specs.Sealing.{hashed_items, parts_in, relinked, sealed_items, sealed_text}
use Rattle.image_pack.specs.Starts.{LinkIsOutsideTable, StartsAs, TableIsStoredIn, start_of}
use Rattle.image_pack.proofs.LeastImageLemmas.{erased, halves, least_spec, no-rows, same-ok}
use Rattle.image_pack.proofs.SameStartLaws.{link-outside, loaded-starts}
use Rattle.image_pack.proofs.TableExampleLemmas.{stored-at}

-- the block of the loaded image, what it says, and what is taken over from the image
abbrev loaded_block : BlockView
loaded_block = record {
  at = 8;
  items = 0x10210142 ∷ 0x00000203 ∷ 0x20000000 ∷ 0x01000406 ∷ 0xffffffe8 ∷ 0x20000000 ∷ 8 ∷ [];
  link = pos 0;
}

abbrev loaded_def : Def
loaded_def = record {
  flags = 0x1021;
  image_word = 1;
  vector = Some 0x20000000;
  entry_point = None;
  delta = pos 0;
  map_item = Some 2;
  hash_words = 0;
  digest = None;
  version = no_version;
  rollback = None;
  rows = record { items = [] };
}

abbrev pub loaded_parts : Parts
loaded_parts = record {
  first = 8;
  last = 8;
  link_at = 0x2c;
  entry = record { items = 0x00000203 ∷ 0x20000000 ∷ [] };
  loads = record { items = eight_bytes 0 ∷ [] };
}

-- the image with an erased sector behind it
abbrev pub loaded_bytes : List ℕ
loaded_bytes = whole_sectors loaded_image ++ erased_sector

loaded_length : length (whole_sectors loaded_image) ≡ 4096
unfolding frame word_bytes
loaded_length = refl

pub loaded-few : length loaded_bytes ≤ MOST_FLASH_BYTES
loaded-few =
    let sum = length-append (whole_sectors loaded_image) erased_sector in
    let more = length-replicate {A = ℕ} 4096 255 in
    omega (arith, sum, more, loaded_length)

pub loaded-parts : parts_in Arm (whole_sectors loaded_image) ≡ Ok loaded_parts
unfolding def_of loop_of follow block_from block_at front_block item_words frame size_of word_of word_bytes
loaded-parts = refl

loaded-defined : defined_in Arm loaded_bytes ≡ Ok (record { block = loaded_block; def = loaded_def })
unfolding def_of loop_of follow block_from block_at front_block item_words frame size_of word_of word_bytes
loaded-defined = refl

pub loaded-unsealed : image_in in_flash (window_of_length 8192) Arm false zero_otp loaded_bytes
    ≡ Ok (table_record 8192 8 0 0)
unfolding zero_otp image_in def_of loop_of follow block_from block_at front_block item_words frame size_of word_of
    word_bytes
loaded-unsealed = refl

abbrev text : List ℕ
text = sealed_text loaded_image least_spec

loaded-tried : image_in in_flash (whole_window text) Arm true zero_otp (whole_sectors text)
    ≡ Ok (table_record 4096 0x34 1 9)
unfolding first_words schedule rounds compress hash_after digest_bytes sha256 covered_digest zero_otp image_in def_of
    loop_of follow block_from block_at front_block item_words frame size_of word_of word_bytes hashed_items relinked
    sealed_items sealed_text
loaded-tried = refl

long : length text ≡ 0xa0
unfolding first_words schedule rounds compress hash_after digest_bytes sha256 def_of loop_of follow block_from block_at
    front_block item_words frame size_of word_of word_bytes hashed_items relinked sealed_items sealed_text
long = refl

offset : block_offset loaded_image ≡ 0x34
unfolding frame word_bytes
offset = refl

pub loaded-is-sealed : IsSealed loaded_image least_spec
loaded-is-sealed = record {
  short = record {
    sealable = record {
      right = record { rows = no-rows; rollback = refl };
      parts = loaded_parts;
      read = loaded-parts;
    };
    image = omega (arith, long);
    block = omega (arith, long, offset);
  };
  started = table_record 4096 0x34 1 9;
  boots =
      answered-valid in_flash (whole_window text) Arm true zero_otp (whole_sectors text) (table_record 4096 0x34 1 9)
      loaded-tried;
  block = sym offset;
}

-- the image before it is sealed
pub loaded-valid : IsValidImage in_flash (window_of_length 8192) Arm false zero_otp loaded_bytes
    (table_record 8192 8 0 0)
loaded-valid =
    answered-valid in_flash (window_of_length 8192) Arm false zero_otp loaded_bytes
    (table_record 8192 8 0 0) loaded-unsealed

image-is : loaded-valid.image ≡ record { block = loaded_block; def = loaded_def }
image-is =
    same-ok (defined_in Arm loaded_bytes) _ _
    (defined-ok Arm loaded_bytes loaded-valid.sound.loop loaded-valid.image
    loaded-valid.sound.defined)
    loaded-defined

same-loads : (r : Result (List Load) MapFault) (x y : List Load) → r ≡ Ok x → r ≡ Ok y → x ≡ y
same-loads r x y one two = cc

mapped : map_loads in_flash (length loaded_bytes) loaded_block loaded_def ≡ Ok (eight_bytes 0 ∷ [])
unfolding frame word_bytes size_of
mapped = refl

loads-are : loaded-valid.sound.loads ≡ eight_bytes 0 ∷ []
loads-are =
    same-loads (map_loads in_flash (length loaded_bytes) loaded_block loaded_def) _ _
    (subst (λ (i : Defined). map_loads in_flash (length loaded_bytes) i.block i.def
    ≡ Ok loaded-valid.sound.loads) image-is loaded-valid.sound.map)
    mapped

table-is : table_address flash_base loaded-valid.image.def ≡ 0x20000000
table-is = ap (λ (i : Defined). table_address flash_base i.def) image-is

pub loaded-high : SRAM_START ≤ table_address flash_base loaded-valid.image.def
loaded-high = omega (arith, table-is)

in-binary : TableIsStoredIn (block_offset loaded_image) (eight_bytes 0 ∷ []) 0x20000000
in-binary i k lt from =
    let is = stored-at 0 i k from in
    omega (arith, is, lt, offset)

pub loaded-stored : TableIsStoredIn (block_offset loaded_image) loaded-valid.sound.loads
    (table_address flash_base loaded-valid.image.def)
loaded-stored =
    subst (λ ls. TableIsStoredIn (block_offset loaded_image) ls (table_address flash_base loaded-valid.image.def))
    (sym loads-are)
    (subst (TableIsStoredIn (block_offset loaded_image) (eight_bytes 0 ∷ [])) (sym table-is) in-binary)

pub loaded-outside : LinkIsOutsideTable loaded-valid.sound.loads (table_address flash_base loaded-valid.image.def)
    loaded_parts.link_at
loaded-outside =
    link-outside loaded_image erased_sector erased (window_of_length 8192) false zero_otp
    (table_record 8192 8 0 0) loaded-valid
    (ap (λ (i : Defined). i.def.entry_point) image-is) loaded_parts loaded-parts
    (sym (ap (λ (i : Defined). i.block.at) image-is))

-- the image, sealed, starts as it did before
pub loaded-start : StartsAs (start_of (table_record 8192 8 0 0)) loaded-is-sealed.started
loaded-start =
    let there = loaded-starts loaded_image least_spec loaded-is-sealed halves erased_sector erased
    (window_of_length 8192)
    false zero_otp (table_record 8192 8 0 0) loaded-valid loaded-few loaded_parts loaded-parts loaded-stored
    loaded-outside (window_of_length 8192) in
    record { pc = there.pc; sp = there.sp; limit = there.limit }
