-- By computing.
use Rattle.std.proofs.Common.{◌≡◌, ◌≢◌, ℕ, false, Some, None, refl, sym, ap, ◌∙◌, subst, arith, inl, inr, lit<}
use Rattle.std.specs.Prelude.{slice_index, slice_set}
use Rattle.std.specs.Int.{bit_at}
use Rattle.std.proofs.lemmas.List.{get_or-set_other}
use Rattle.std.proofs.lemmas.Nat.Bits.{bit_at-zero, bit_at-pow_other}
use Rattle.std.proofs.lemmas.Bool.{cases_eq}
use Rattle.sha2.specs.Sha256.{compress, digest_bytes, first_words, hash_after, rounds, schedule, sha256}
use Rattle.std.specs.Int.Count.{ones, ones_in}
use Rattle.trial_buy.specs.Buying.{page_programs}
use Rattle.boot_rules.specs.Tables.{table_in}
use Rattle.boot_rules.specs.Choosing.{decision_in}
use Rattle.image_check.specs.Image.{image_in}
use Rattle.image_def.specs.Definition.{def_of}
use Rattle.block_loop.specs.Loop.{loop_of, follow, block_from}
use Rattle.block_codec.specs.Blocks.{frame}
use Rattle.block_codec.specs.Reading.{block_at, front_block, item_words}
use Rattle.block_codec.specs.Items.{size_of}
use Rattle.block_codec.specs.Words.{word_of, word_bytes}
use Rattle.otp_roll.specs.Raises.{lowest_clear}
use Rattle.pico_board.specs.declared.boot.Cpu.TheVariants.{Arm}
use Rattle.pico_board.specs.Steps.{IsBetween}
use Rattle.slot_choice.specs.declared.unit.Member.TheVariants.{A}
use Rattle.slot_choice.specs.declared.unit.SlotUnit.{SlotUnit}
use Rattle.slot_choice.specs.Examples.{window_at}
use Rattle.boot_rules.proofs.DecisionLemmas.{found-valid}
use Rattle.law_boot_cuts.specs.Examples.{rows_image, three_images, triple_rows}
use Rattle.worked_flashes.proofs.ContentLemmas.{all_below, content-by}
use Rattle.law_boot_cuts.proofs.examples.other_rows_matter.Goals as goal

pub returns-clause-before : goal.returns-clause-before
unfolding all_below first_words schedule rounds compress hash_after digest_bytes sha256 page_programs ones ones_in
    lowest_clear table_in decision_in image_in def_of loop_of follow block_from block_at front_block item_words frame
    size_of word_of word_bytes
returns-clause-before c = refl

pub returns-clause-started : goal.returns-clause-started
unfolding all_below first_words schedule rounds compress hash_after digest_bytes sha256 page_programs ones ones_in
    lowest_clear table_in decision_in image_in def_of loop_of follow block_from block_at front_block item_words frame
    size_of word_of word_bytes
returns-clause-started c = refl

pub returns-clause-steps : goal.returns-clause-steps
unfolding all_below first_words schedule rounds compress hash_after digest_bytes sha256 page_programs ones ones_in
    lowest_clear table_in decision_in image_in def_of loop_of follow block_from block_at front_block item_words frame
    size_of word_of word_bytes
returns-clause-steps c = refl

pub returns-clause-done : goal.returns-clause-done
unfolding all_below first_words schedule rounds compress hash_after digest_bytes sha256 page_programs ones ones_in
    lowest_clear table_in decision_in image_in def_of loop_of follow block_from block_at front_block item_words frame
    size_of word_of word_bytes
returns-clause-done c = refl

pub returns-clause-after : goal.returns-clause-after
unfolding all_below first_words schedule rounds compress hash_after digest_bytes sha256 page_programs ones ones_in
    lowest_clear table_in decision_in image_in def_of loop_of follow block_from block_at front_block item_words frame
    size_of word_of word_bytes
returns-clause-after c = refl

pub returns-clause-torn : goal.returns-clause-torn
unfolding all_below first_words schedule rounds compress hash_after digest_bytes sha256 page_programs ones ones_in
    lowest_clear table_in decision_in image_in def_of loop_of follow block_from block_at front_block item_words frame
    size_of word_of word_bytes
returns-clause-torn c = refl

pub returns-clause-content : goal.returns-clause-content
unfolding all_below first_words schedule rounds compress hash_after digest_bytes sha256 page_programs ones ones_in
    lowest_clear table_in decision_in image_in def_of loop_of follow block_from block_at front_block item_words frame
    size_of word_of word_bytes
returns-clause-content c = content-by (three_images 0x0c0 0 0 0) 0x5000 refl refl refl refl refl refl refl

-- the lowest bit alone is raised of two
one-of-two : IsBetween 0 3 1
one-of-two k = elim (cases_eq k 0) [
  | inl lowest ↦ inr (subst (λ j. bit_at 1 j ≡ bit_at 3 j) (sym lowest) refl)
  | inr other ↦ inl (bit_at-pow_other 0 k other ∙ sym (bit_at-zero k))
]

-- one row is another
row-set : triple_rows 3 1 0 ≡ slice_set (triple_rows 3 0 0) 0x0c1 1
row-set = refl

row-other : (i : ℕ) → i ≢ 0x0c1 → slice_index (triple_rows 3 1 0) i ≡ slice_index (triple_rows 3 0 0) i
row-other i other =
    ap (λ otp. slice_index otp i) row-set ∙ get_or-set_other (triple_rows 3 0 0) 0x0c1 i 1 0 other

pub returns-clause-cut : goal.returns-clause-cut
returns-clause-cut c = record {
  stands = refl;
  torn = record {
    outside = record {
      long = refl;
      below = λ i lt. row-other i (λ e. omega (arith, e, lt));
      above = λ i le. row-other i (λ e. omega (arith, e, le));
    };
    between = one-of-two;
    bytes = refl;
  };
}

abbrev first_unit : SlotUnit
first_unit = record { a = window_at 0x2000 0x1000; b = None; a_part = Some 0; b_part = None }

pub returns-clause-premise : goal.returns-clause-premise
unfolding all_below first_words schedule rounds compress hash_after digest_bytes sha256 page_programs ones ones_in
    lowest_clear table_in decision_in image_in def_of loop_of follow block_from block_at front_block item_words frame
    size_of word_of word_bytes
returns-clause-premise c = λ keeps.
    elim (keeps.apart 0 first_unit A (window_at 0x2000 0x1000) (rows_image (window_at 0x2000 0x1000) 0 0x0c0) 0x0c0
    0x0c0 3 refl
    (λ e. let starts : 0x2000 ≡ 0x4000 = ap (λ (u : SlotUnit). u.a.start) e in absurd (omega arith)) refl
    (found-valid (three_images 0x0c0 0 0 0) Arm (window_at 0x2000 0x1000) false
    (rows_image (window_at 0x2000 0x1000) 0 0x0c0) refl)
    (0, lit< tt, refl) (0, lit< tt, refl)) [
      | inl below ↦ omega (arith, below)
      | inr above ↦ omega (arith, above)
    ]

pub returns-clause-own : goal.returns-clause-own
unfolding all_below first_words schedule rounds compress hash_after digest_bytes sha256 page_programs ones ones_in
    lowest_clear table_in decision_in image_in def_of loop_of follow block_from block_at front_block item_words frame
    size_of word_of word_bytes
returns-clause-own c = inl (refl, refl)

pub returns-clause-triples : goal.returns-clause-triples
unfolding all_below first_words schedule rounds compress hash_after digest_bytes sha256 page_programs ones ones_in
    lowest_clear table_in decision_in image_in def_of loop_of follow block_from block_at front_block item_words frame
    size_of word_of word_bytes
returns-clause-triples c = λ keeps.
    elim (keeps.apart 0 first_unit A (window_at 0x2000 0x1000) (rows_image (window_at 0x2000 0x1000) 0 0x0c0) 0x0c0
    0x0c0 0x0c0 3 refl
    (λ e. let starts : 0x2000 ≡ 0x4000 = ap (λ (u : SlotUnit). u.a.start) e in absurd (omega arith)) refl
    (found-valid (three_images 0x0c0 0 0 0) Arm (window_at 0x2000 0x1000) false
    (rows_image (window_at 0x2000 0x1000) 0 0x0c0) refl)
    (0, lit< tt, refl) (0, lit< tt, refl) (0, lit< tt, refl)
    (λ is. elim is [ inl below ↦ omega (arith, below) | inr above ↦ omega (arith, above) ])) [
      | inl below ↦ omega (arith, below)
      | inr above ↦ omega (arith, above)
    ]
