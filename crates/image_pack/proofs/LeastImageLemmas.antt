-- The least image is sealed, by computing.
use Rattle.std.proofs.Common.{List, ◌≡◌, ◌<◌, [], length, true, false, refl, sym, ap, subst, ◌∙◌, arith, None, Result, Ok, ◌++◌, length-append, ◌≤◌, ℕ}
use Rattle.std.proofs.lemmas.Grind.{common_steps}
use Rattle.pico_board.specs.declared.boot.Cpu.TheVariants.{Arm}
use Rattle.pico_board.specs.declared.window.TheConstants.{MOST_FLASH_BYTES}
use Rattle.pico_board.specs.Content.{flash_base}
use Rattle.sha2.specs.Sha256.{compress, digest_bytes, first_words, hash_after, rounds, schedule, sha256}
use Rattle.block_codec.specs.Blocks.{frame}
use Rattle.block_codec.specs.Erased.{AreErased}
use Rattle.block_codec.proofs.AtLemmas.{AreErased-replicate}
use Rattle.std.proofs.lemmas.List.{length-replicate}
use Rattle.block_codec.specs.Items.{size_of}
use Rattle.block_codec.specs.Reading.{block_at, front_block, item_words}
use Rattle.block_codec.specs.Words.{word_bytes, word_of}
use Rattle.block_loop.specs.Loop.{block_from, follow, loop_of}
use Rattle.image_def.specs.Definition.{def_of}
use Rattle.load_map.specs.declared.addresses.TheConstants.{SRAM_START}
use Rattle.load_map.specs.Covered.{covered_digest}
use Rattle.otp_roll.specs.Rows.{AreRollbackRows}
use Rattle.image_check.specs.declared.examining.Defined.{Defined}
use Rattle.image_check.specs.Addressing.{in_flash}
use Rattle.image_check.specs.Entering.{table_address}
use Rattle.worked_flashes.specs.Images.{def_with_rows, small_block}
use Rattle.image_check.specs.Image.{defined_in, image_in}
use Rattle.image_check.specs.Valid.{IsValidImage}
use Rattle.image_check.proofs.AnsweredLemmas.{defined-ok}
use Rattle.image_check.proofs.LawLemmas.{answered-valid}
use Rattle.image_pack.specs.declared.parts.Parts.{Parts}
use Rattle.image_pack.specs.declared.spec.SealSpec.{SealSpec}
use Rattle.image_pack.specs.Examples.{erased_sector, window_of_length, least_image, least_sealed, parts_at, spec_of, table_record}
use Rattle.image_pack.specs.Faults.{Boots, IsSealed, block_offset, whole_window, zero_otp}
use Rattle.image_pack.specs.Filling.{whole_sectors}
use Rattle.image_pack.specs.ReadBack.{IsHalves}
use Rattle.image_pack.specs.Sealing.{hashed_items, parts_in, relinked, sealed_items, sealed_text}
use Rattle.image_pack.specs.Starts.{LinkIsOutsideTable, StartsAs, start_of}
use Rattle.image_pack.proofs.SameStartLaws.{flash-starts, link-outside}

abbrev pub least_spec : SealSpec
least_spec = spec_of Arm false None []

abbrev pub least_parts : Parts
least_parts = parts_at 0x114 0x114 0x120 []

-- the image with an erased sector behind it
abbrev pub least_bytes : List ℕ
least_bytes = whole_sectors least_image ++ erased_sector

pub erased : AreErased erased_sector
erased = AreErased-replicate 4096

least_length : length (whole_sectors least_image) ≡ 4096
unfolding frame word_bytes
least_length = refl

pub least-few : length least_bytes ≤ MOST_FLASH_BYTES
least-few =
    let sum = length-append (whole_sectors least_image) erased_sector in
    let more = length-replicate {A = ℕ} 4096 255 in
    omega (arith, sum, more, least_length)

pub least-text : sealed_text least_image least_spec ≡ least_sealed
unfolding first_words schedule rounds compress hash_after digest_bytes sha256 def_of loop_of follow block_from block_at
    front_block item_words frame size_of word_of word_bytes hashed_items relinked sealed_items sealed_text
least-text = refl

pub least-parts : parts_in Arm (whole_sectors least_image) ≡ Ok least_parts
unfolding def_of loop_of follow block_from block_at front_block item_words frame size_of word_of word_bytes
least-parts = refl

pub least-defined : defined_in Arm least_bytes
    ≡ Ok (record { block = small_block 0x114; def = def_with_rows None None [] })
unfolding def_of loop_of follow block_from block_at front_block item_words frame size_of word_of word_bytes
least-defined = refl

pub least-unsealed : image_in in_flash (window_of_length 8192) Arm false zero_otp least_bytes
    ≡ Ok (table_record 8192 0x114 0 0)
unfolding zero_otp image_in def_of loop_of follow block_from block_at front_block item_words frame size_of word_of
    word_bytes
least-unsealed = refl

pub least-answer : image_in in_flash (window_of_length 4096) Arm false zero_otp (whole_sectors least_sealed)
    ≡ Ok (table_record 4096 0x128 1 9)
unfolding first_words schedule rounds compress hash_after digest_bytes sha256 covered_digest zero_otp image_in def_of
    loop_of follow block_from block_at front_block item_words frame size_of word_of word_bytes
least-answer = refl

least-tried : image_in in_flash (whole_window least_sealed) Arm true zero_otp (whole_sectors least_sealed)
    ≡ Ok (table_record 4096 0x128 1 9)
unfolding first_words schedule rounds compress hash_after digest_bytes sha256 covered_digest zero_otp image_in def_of
    loop_of follow block_from block_at front_block item_words frame size_of word_of word_bytes
least-tried = refl

long : length least_sealed ≡ 0x180
unfolding frame word_bytes
long = refl

offset : block_offset least_image ≡ 0x128
unfolding frame word_bytes
offset = refl

pub no-rows : AreRollbackRows []
no-rows = grind (arith, common_steps)

pub least-is-sealed : IsSealed least_image least_spec
least-is-sealed = record {
  short = record {
    sealable = record {
      right = record { rows = no-rows; rollback = refl };
      parts = least_parts;
      read = least-parts;
    };
    image = (let same = ap length least-text ∙ long in omega (arith, same));
    block = (let same = ap length least-text ∙ long in omega (arith, same, offset));
  };
  started = table_record 4096 0x128 1 9;
  boots = subst (λ t. Boots Arm t (table_record 4096 0x128 1 9)) (sym least-text)
      (answered-valid in_flash (whole_window least_sealed) Arm true zero_otp (whole_sectors least_sealed)
      (table_record 4096 0x128 1 9) least-tried);
  block = sym offset;
}

pub same-ok : {F : Type 0} (r : Result Defined F) (x y : Defined) → r ≡ Ok x → r ≡ Ok y → x ≡ y
same-ok r x y one two = cc

-- the image before it is sealed
pub least-valid : IsValidImage in_flash (window_of_length 8192) Arm false zero_otp least_bytes
    (table_record 8192 0x114 0 0)
least-valid =
    answered-valid in_flash (window_of_length 8192) Arm false zero_otp least_bytes
    (table_record 8192 0x114 0 0) least-unsealed

image-is : least-valid.image ≡ record { block = small_block 0x114; def = def_with_rows None None [] }
image-is =
    same-ok (defined_in Arm least_bytes) _ _
    (defined-ok Arm least_bytes least-valid.sound.loop least-valid.image least-valid.sound.defined)
    least-defined

pub least-no_entry : least-valid.image.def.entry_point ≡ None
least-no_entry = ap (λ (i : Defined). i.def.entry_point) image-is

pub least-last : least_parts.last ≡ least-valid.image.block.at
least-last = sym (ap (λ (i : Defined). i.block.at) image-is)

pub least-low : table_address flash_base least-valid.image.def < SRAM_START
least-low =
    let there = ap (λ (i : Defined). table_address flash_base i.def) image-is in
    omega (arith, there)

pub least-outside : LinkIsOutsideTable least-valid.sound.loads (table_address flash_base least-valid.image.def)
    least_parts.link_at
least-outside =
    link-outside least_image erased_sector erased (window_of_length 8192) false zero_otp
    (table_record 8192 0x114 0 0) least-valid
    least-no_entry least_parts least-parts least-last

pub halves : IsHalves least_spec.version
halves = record { major = omega arith; minor = omega arith }

-- the image, sealed, starts as it did before
pub least-starts : StartsAs (start_of (table_record 8192 0x114 0 0)) least-is-sealed.started
least-starts =
    let there = flash-starts least_image least_spec least-is-sealed halves erased_sector erased (window_of_length 8192)
    false zero_otp (table_record 8192 0x114 0 0) least-valid least-few least_parts least-parts least-low
    least-outside (window_of_length 8192) in
    record { pc = there.pc; sp = there.sp; limit = there.limit }
