-- The worked update: its premises, and its steps. By computing.
use Rattle.std.proofs.Common.{◌≡◌, ℕ, ◌*◌, ◌/◌, ◌<◌, ◌≤◌, ◌+◌, true, length, Some, refl, sym, ap, ◌∙◌, subst, arith}
use Rattle.std.proofs.Math.Dec.{lit<}
use Rattle.pico_board.specs.declared.boot.BootKind.TheVariants.{Normal}
use Rattle.pico_board.specs.declared.boot.Cpu.TheVariants.{Arm}
use Rattle.pico_board.specs.Content.{Content, IsContent}
use Rattle.pico_board.specs.Sessions.{Unfinished}
use Rattle.pico_board.specs.Steps.{CutOf, after_all}
use Rattle.block_codec.specs.Blocks.{frame}
use Rattle.block_codec.specs.Items.{size_of}
use Rattle.block_codec.specs.Reading.{block_at, front_block, item_words}
use Rattle.block_codec.specs.Words.{word_bytes, word_of}
use Rattle.block_loop.specs.Loop.{block_from, follow, loop_of}
use Rattle.image_def.specs.Definition.{def_of}
use Rattle.image_check.specs.Image.{image_in}
use Rattle.part_table.specs.declared.table.Right.TheVariants.{BootWrite}
use Rattle.part_table.specs.Rights.{allowed_by}
use Rattle.slot_choice.specs.declared.unit.Member.TheVariants.{B}
use Rattle.worked_flashes.specs.Tables.{the_pair}
use Rattle.slot_choice.specs.Examples.{window_at}
use Rattle.uf2_place.specs.Files.{file_blocks}
use Rattle.uf2_place.specs.Placement.{download_steps, programs_in}
use Rattle.boot_rules.specs.declared.decision.Decision.TheVariants.{Start}
use Rattle.boot_rules.specs.Chosen.{Chosen, IsBootMember}
use Rattle.worked_flashes.specs.Flashes.{bare}
use Rattle.boot_rules.specs.Examples.{found_in_slot}
use Rattle.boot_rules.specs.Starts.{table_of_content}
use Rattle.boot_rules.specs.Tables.{table_in}
use Rattle.boot_rules.specs.Targets.{target_of}
use Rattle.worked_flashes.proofs.ContentLemmas.{all_below, below-all, content-by}
use Rattle.boot_rules.specs.AccidentalImages.{HasNoAccidentalImage}
use Rattle.worked_flashes.specs.Flashes.{begins_with, beside_former, vector_page}
use Rattle.worked_flashes.specs.Choices.{former_start}
use Rattle.worked_flashes.specs.Writes.{plain_steps, slot}
use Rattle.boot_session.specs.CutSessions.{CutSession}
use Rattle.boot_session.proofs.PlanSlotLemmas.{part-right}
use Rattle.boot_rules.specs.declared.tables.Found.{Found}
use Rattle.boot_rules.proofs.TableLemmas.{found-sound}
use Rattle.worked_flashes.specs.Tables.{pair_version}
use Rattle.std.specs.Prelude.{option_map}
use Rattle.law_downloads.specs.Copied.{IsDownload, IsLostUpdate, copied_session}
use Rattle.law_downloads.specs.Examples.{second_slot, two_page_image}
use Rattle.law_downloads.proofs.DownloadLemmas.{session-placed}

abbrev before : Content
before = beside_former bare

abbrev halfway : Content
halfway = beside_former (begins_with vector_page)

right : IsContent before
unfolding all_below word_bytes
right = content-by before 0x40000 refl refl refl refl refl refl refl

boot_member : IsBootMember before slot Arm
unfolding table_in loop_of follow block_from block_at front_block item_words frame size_of word_of word_bytes
boot_member = record {
  place = 0;
  unit = the_pair;
  member = B;
  other = window_at 0x2000 0x1e000;
  tried = refl;
  stands = refl;
  pair = refl;
}

aimed : target_of before (table_of_content before) Arm 0xe48bff59 ≡ Some second_slot
unfolding table_in image_in def_of loop_of follow block_from block_at front_block item_words frame size_of word_of
    word_bytes
aimed = refl

small : all_below 256 two_page_image ≡ true
unfolding all_below frame word_bytes
small = refl

table-is : table_in before ≡ Some (found_in_slot 0 (pair_version 0 0))
unfolding table_in loop_of follow block_from block_at front_block item_words frame size_of word_of word_bytes
table-is = refl

rights : (s : ℕ) → slot.start ≤ 4096 * s → 4096 * s < slot.start + slot.len
    → allowed_by (table_of_content before) s BootWrite ≡ true
rights s low high =
    let same : 4096 * s / 4096 ≡ s = omega arith in
    ap (λ o. allowed_by (option_map (λ (f : Found). f.table) o) s BootWrite) table-is
    ∙ ap (λ k. allowed_by (Some (pair_version 0 0)) k BootWrite) (sym same)
    ∙ part-right (pair_version 0 0) (length before.flash / 4096) 1
    (found-sound before (found_in_slot 0 (pair_version 0 0)) table-is) (lit< tt) (4096 * s) low high

long : length two_page_image ≡ 512
unfolding frame word_bytes
long = refl

long-some : 0 < length two_page_image
long-some = omega (arith, long)

long-room : length two_page_image ≤ slot.len
long-room = omega (arith, long)

pub example-download : IsDownload before Arm 0xe48bff59 second_slot two_page_image
example-download = record {
  right = right;
  executable = refl;
  aimed = aimed;
  gated = refl;
  rights = rights;
  bytes = below-all 256 two_page_image small;
  some = long-some;
  room = long-room;
}

placed-is : download_steps second_slot (file_blocks two_page_image 0xe48bff59) ≡ plain_steps
unfolding programs_in frame word_bytes
placed-is = refl

pub example-steps : copied_session before Arm 0xe48bff59 two_page_image ≡ plain_steps
example-steps = session-placed before Arm 0xe48bff59 second_slot two_page_image example-download ∙ placed-is

pub example-lost : CutSession before slot Arm plain_steps halfway (Start former_start)
    → Chosen halfway Arm Normal (Start former_start)
    → IsLostUpdate before Arm 0xe48bff59 second_slot two_page_image former_start halfway
unfolding boot_member
example-lost session same = record {
  lost = record {
    download = example-download;
    boot_member = boot_member;
    cut = subst (λ xs. CutOf before xs halfway) (sym example-steps) session.cut;
    table = subst (λ xs. table_in (after_all before xs) ≡ table_in before) (sym example-steps) session.table;
    no_accident = subst (λ xs. Unfinished before xs slot halfway
        → HasNoAccidentalImage before (after_all before xs) halfway slot Arm)
        (sym example-steps) session.no_accident;
  };
  former = session.former;
  beside = refl;
  same = same;
}
