-- By computing.
use Rattle.std.proofs.Common.{◌≡◌, ◌≢◌, ℕ, zero, suc, false, [], ◌∷◌, Some, None, refl, sym, ap, ◌∙◌, subst, slice_get}
use Rattle.std.proofs.lemmas.Option.{same_Some}
use Rattle.sha2.specs.Sha256.{compress, digest_bytes, first_words, hash_after, rounds, schedule, sha256}
use Rattle.std.specs.Int.Count.{ones, ones_in}
use Rattle.trial_buy.specs.Buying.{page_programs}
use Rattle.boot_rules.specs.Tables.{table_in}
use Rattle.boot_rules.specs.Choosing.{decision_in}
use Rattle.image_check.specs.Image.{image_in}
use Rattle.image_def.specs.Definition.{def_of}
use Rattle.block_loop.specs.Loop.{loop_of, follow, block_from}
use Rattle.block_codec.specs.Blocks.{frame}
use Rattle.block_codec.specs.Reading.{block_at, front_block, item_words}
use Rattle.block_codec.specs.Items.{size_of}
use Rattle.block_codec.specs.Words.{word_of, word_bytes}
use Rattle.otp_roll.specs.Raises.{lowest_clear}
use Rattle.pico_board.specs.declared.boot.Cpu.TheVariants.{Arm}
use Rattle.pico_board.specs.declared.window.Window.{Window}
use Rattle.image_def.specs.declared.started.Started.{Started}
use Rattle.image_check.specs.Valid.{Valid}
use Rattle.slot_choice.specs.declared.unit.Member.{Member}
use Rattle.slot_choice.specs.declared.unit.SlotUnit.{SlotUnit}
use Rattle.slot_choice.specs.Examples.{window_at}
use Rattle.slot_choice.specs.Units.{member_window}
use Rattle.boot_rules.specs.Choosing.{boot_units_in, images_in}
use Rattle.boot_rules.proofs.DecisionLemmas.{valid-found}
use Rattle.law_boot_cuts.specs.Examples.{last_unit, two_trials}
use Rattle.law_boot_cuts.proofs.ExampleLemmas.{member-is, unit_at}
use Rattle.law_boot_cuts.proofs.examples.rows_of_other_trials_may_rise.Goals as goal

pub returns-clause-trials : goal.returns-clause-trials
unfolding first_words schedule rounds compress hash_after digest_bytes sha256 page_programs ones ones_in
    lowest_clear table_in decision_in image_in def_of loop_of follow block_from block_at front_block item_words frame
    size_of word_of word_bytes
returns-clause-trials c = refl

pub returns-clause-steps : goal.returns-clause-steps
unfolding first_words schedule rounds compress hash_after digest_bytes sha256 page_programs ones ones_in
    lowest_clear table_in decision_in image_in def_of loop_of follow block_from block_at front_block item_words frame
    size_of word_of word_bytes
returns-clause-steps c = refl

units-are : boot_units_in two_trials Arm ≡ unit_at 0x2000 0 ∷ unit_at 0x3000 1 ∷ last_unit ∷ []
unfolding first_words schedule rounds compress hash_after digest_bytes sha256 page_programs ones ones_in
    lowest_clear table_in decision_in image_in def_of loop_of follow block_from block_at front_block item_words frame
    size_of word_of word_bytes
units-are = refl

first-none : images_in two_trials Arm (window_at 0x2000 0x1000) false ≡ None
unfolding first_words schedule rounds compress hash_after digest_bytes sha256 page_programs ones ones_in
    lowest_clear table_in decision_in image_in def_of loop_of follow block_from block_at front_block item_words frame
    size_of word_of word_bytes
first-none = refl

second-none : images_in two_trials Arm (window_at 0x3000 0x1000) false ≡ None
unfolding first_words schedule rounds compress hash_after digest_bytes sha256 page_programs ones ones_in
    lowest_clear table_in decision_in image_in def_of loop_of follow block_from block_at front_block item_words frame
    size_of word_of word_bytes
second-none = refl

no-image : (w : Window) (s : Started) → images_in two_trials Arm w false ≡ None → Valid two_trials w Arm false s → ⊥
no-image w s none valid = let h : None ≡ Some s = sym none ∙ valid-found two_trials Arm w false s valid in cc

-- no other unit has an image that is valid in a normal boot
none-there : (i : ℕ) (v : SlotUnit) (m : Member) (w : Window) (s : Started)
    → slice_get (boot_units_in two_trials Arm) i ≡ Some v → v ≢ last_unit → member_window m v ≡ Some w
    → Valid two_trials w Arm false s → ⊥
none-there i v m w s at ne stands valid = go i v m w s (sym (ap (λ us. slice_get us i) units-are) ∙ at) ne stands valid
  where
    go : (i : ℕ) (v : SlotUnit) (m : Member) (w : Window) (s : Started)
        → slice_get (unit_at 0x2000 0 ∷ unit_at 0x3000 1 ∷ last_unit ∷ []) i ≡ Some v → v ≢ last_unit
        → member_window m v ≡ Some w → Valid two_trials w Arm false s → ⊥
    go zero v m w s at ne stands valid =
        let there = member-is 0x2000 0 v m w (same_Some (unit_at 0x2000 0) v at) stands in
        no-image (window_at 0x2000 0x1000) s first-none (subst (λ x. Valid two_trials x Arm false s) (sym there) valid)
    go (suc zero) v m w s at ne stands valid =
        let there = member-is 0x3000 1 v m w (same_Some (unit_at 0x3000 1) v at) stands in
        no-image (window_at 0x3000 0x1000) s second-none (subst (λ x. Valid two_trials x Arm false s) (sym there) valid)
    go (suc (suc zero)) v m w s at ne stands valid = absurd (ne (sym (same_Some last_unit v at)))
    go (suc (suc (suc i))) v m w s at ne stands valid = cc

pub returns-clause-rows : goal.returns-clause-rows
returns-clause-rows c = record {
  apart = λ i v m w s r row bits at ne stands valid among raised. absurd (none-there i v m w s at ne stands valid);
}

pub returns-clause-triples : goal.returns-clause-triples
returns-clause-triples c = record {
  apart = λ i v m w s r q row bits at ne stands valid among listed raised is.
      absurd (none-there i v m w s at ne stands valid);
}
