-- By computing.
use Rattle.std.proofs.Common.{◌≡◌, ◌≢◌, ◌∙◌, ℕ, [], ◌∷◌, refl, sym, ap, subst, arith, inl, inr, lit<}
use Rattle.std.specs.Prelude.{Contains, slice_index, slice_set}
use Rattle.std.specs.Int.{bit_at}
use Rattle.std.proofs.lemmas.List.{get_or-set_other}
use Rattle.std.proofs.lemmas.List.Elements.{All-from_recursion}
use Rattle.std.proofs.lemmas.Nat.Bits.{bit_at-zero, bit_at-pow_other}
use Rattle.std.proofs.lemmas.Bool.{cases_eq}
use Rattle.sha2.specs.Sha256.{compress, digest_bytes, first_words, hash_after, rounds, schedule, sha256}
use Rattle.std.specs.Int.Count.{ones, ones_in}
use Rattle.trial_buy.specs.Buying.{page_programs}
use Rattle.boot_rules.specs.Tables.{table_in}
use Rattle.boot_rules.specs.Choosing.{decision_in}
use Rattle.image_check.specs.Image.{image_in}
use Rattle.image_def.specs.Definition.{def_of}
use Rattle.block_loop.specs.Loop.{loop_of, follow, block_from}
use Rattle.block_codec.specs.Blocks.{frame}
use Rattle.block_codec.specs.Reading.{block_at, front_block, item_words}
use Rattle.block_codec.specs.Items.{size_of}
use Rattle.block_codec.specs.Words.{word_of, word_bytes}
use Rattle.otp_roll.specs.Raises.{lowest_clear}
use Rattle.pico_board.specs.declared.boot.Cpu.TheVariants.{Arm}
use Rattle.pico_board.specs.Steps.{IsBetween}
use Rattle.boot_script.specs.Events.{PowerOn}
use Rattle.boot_machine.specs.Plays.{moved_machine, powerless}
use Rattle.worked_flashes.proofs.ContentLemmas.{all_below, content-by}
use Rattle.law_boot_cuts.specs.Examples.{triple_rows}
use Rattle.check_laws.specs.OwnLaws.{BootMade, IsBootKept, IsLawOf, boots_in}
use Rattle.check_laws.proofs.WriteLawLemmas.{any-here}
use Rattle.check_require.specs.declared.report.LawOfWrites.TheVariants.{Kept}
use Rattle.law_updates.specs.Rising.{a_rise, rising_images}
use Rattle.law_updates.proofs.examples.own.premises_of_the_law_of_boots.Goals as goal

boots-are : boots_in (powerless (rising_images 0 0 0) Arm) (PowerOn ∷ []) ≡ a_rise ∷ []
unfolding moved_machine first_words schedule rounds compress hash_after digest_bytes sha256 page_programs ones ones_in
    lowest_clear table_in decision_in image_in def_of loop_of follow block_from block_at front_block item_words frame
    size_of word_of word_bytes
boots-are = refl

pub returns-clause-on : goal.returns-clause-on
unfolding all_below moved_machine first_words schedule rounds compress hash_after digest_bytes sha256 page_programs ones ones_in
    lowest_clear table_in decision_in image_in def_of loop_of follow block_from block_at front_block item_words frame
    size_of word_of word_bytes
returns-clause-on c = record {
  content = content-by (rising_images 0 0 0) 0x5000 refl refl refl refl refl refl refl;
  bytes = (tt, tt);
  inside = ((lit< tt, lit< tt), ((lit< tt, lit< tt), ((lit< tt, lit< tt), tt)));
}

pub returns-clause-law : goal.returns-clause-law
returns-clause-law c =
    subst (λ bs. IsLawOf (λ (b : BootMade). b.done) (IsBootKept Arm) bs Kept) (sym boots-are) (
      any-here (λ (b : BootMade). b.done ≢ []) a_rise [] (λ none. cc),
      All-from_recursion (λ (b : BootMade). b.done ≢ [] → IsBootKept Arm b) (a_rise ∷ [])
          (λ does. inl c.a_boot_that_raises_a_row.ensures.same, tt),
    )

pub returns-clause-among : goal.returns-clause-among
returns-clause-among c = subst (λ bs. Contains bs a_rise) (sym boots-are) (0, lit< tt, refl)

pub returns-clause-chosen : goal.returns-clause-chosen
returns-clause-chosen c = c.a_boot_that_raises_a_row.ensures.whole.chosen

pub returns-clause-former : goal.returns-clause-former
returns-clause-former c = c.a_boot_that_raises_a_row.ensures.whole.chosen

-- the lowest bit alone is raised of two
one-of-two : IsBetween 0 3 1
one-of-two k = elim (cases_eq k 0) [
  | inl lowest ↦ inr (subst (λ j. bit_at 1 j ≡ bit_at 3 j) (sym lowest) refl)
  | inr other ↦ inl (bit_at-pow_other 0 k other ∙ sym (bit_at-zero k))
]

-- one row is another
row-set : triple_rows 3 1 0 ≡ slice_set (triple_rows 3 0 0) 0x0c1 1
row-set = refl

row-other : (i : ℕ) → i ≢ 0x0c1 → slice_index (triple_rows 3 1 0) i ≡ slice_index (triple_rows 3 0 0) i
row-other i other =
    ap (λ otp. slice_index otp i) row-set ∙ get_or-set_other (triple_rows 3 0 0) 0x0c1 i 1 0 other

pub returns-clause-cut : goal.returns-clause-cut
returns-clause-cut c = record {
  stands = refl;
  torn = record {
    outside = record {
      long = refl;
      below = λ i lt. row-other i (λ e. omega (arith, e, lt));
      above = λ i le. row-other i (λ e. omega (arith, e, le));
    };
    between = one-of-two;
    bytes = refl;
  };
}

pub returns-clause-no_accident : goal.returns-clause-no_accident
returns-clause-no_accident c = λ v is confined. absurd confined
