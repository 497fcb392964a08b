-- By computing.
use Rattle.std.proofs.Common.{◌≡◌, ◌≢◌, ℕ, zero, suc, ◌<◌, false, [], ◌∷◌, Some, refl, sym, ap, ◌∙◌, subst, arith, inl, inr, slice_get}
use Rattle.std.specs.Prelude.{Contains, slice_index_or}
use Rattle.std.proofs.lemmas.Option.{same_Some}
use Rattle.sha2.specs.Sha256.{compress, digest_bytes, first_words, hash_after, rounds, schedule, sha256}
use Rattle.std.specs.Int.Count.{ones, ones_in}
use Rattle.trial_buy.specs.Buying.{page_programs}
use Rattle.boot_rules.specs.Tables.{table_in}
use Rattle.boot_rules.specs.Choosing.{decision_in}
use Rattle.image_check.specs.Image.{image_in}
use Rattle.image_def.specs.Definition.{def_of}
use Rattle.block_loop.specs.Loop.{loop_of, follow, block_from}
use Rattle.block_codec.specs.Blocks.{frame}
use Rattle.block_codec.specs.Reading.{block_at, front_block, item_words}
use Rattle.block_codec.specs.Items.{size_of}
use Rattle.block_codec.specs.Words.{word_of, word_bytes}
use Rattle.otp_roll.specs.Raises.{lowest_clear}
use Rattle.pico_board.specs.declared.boot.Cpu.TheVariants.{Arm}
use Rattle.pico_board.specs.declared.Step.TheVariants.{Raise}
use Rattle.pico_board.specs.declared.window.Window.{Window}
use Rattle.pico_board.specs.Content.{Content}
use Rattle.otp_roll.specs.Rows.{IsOutside}
use Rattle.image_def.specs.declared.started.Started.{Started}
use Rattle.image_check.specs.Valid.{Valid}
use Rattle.slot_choice.specs.declared.unit.Member.{Member}
use Rattle.slot_choice.specs.declared.unit.SlotUnit.{SlotUnit}
use Rattle.slot_choice.specs.Examples.{window_at}
use Rattle.slot_choice.specs.Units.{member_window}
use Rattle.boot_rules.specs.Choosing.{boot_units_in, images_in}
use Rattle.boot_rules.proofs.DecisionLemmas.{valid-found}
use Rattle.law_boot_cuts.specs.Examples.{last_unit, rows_image, three_images, three_raises}
use Rattle.law_boot_cuts.proofs.ExampleLemmas.{member-is, raised-low, unit_at}
use Rattle.law_boot_cuts.proofs.examples.other_rows_stand_apart.Goals as goal

pub returns-clause-before : goal.returns-clause-before
unfolding first_words schedule rounds compress hash_after digest_bytes sha256 page_programs ones ones_in
    lowest_clear table_in decision_in image_in def_of loop_of follow block_from block_at front_block item_words frame
    size_of word_of word_bytes
returns-clause-before c = refl

pub returns-clause-steps : goal.returns-clause-steps
unfolding first_words schedule rounds compress hash_after digest_bytes sha256 page_programs ones ones_in
    lowest_clear table_in decision_in image_in def_of loop_of follow block_from block_at front_block item_words frame
    size_of word_of word_bytes
returns-clause-steps c = refl

pub returns-clause-after : goal.returns-clause-after
unfolding first_words schedule rounds compress hash_after digest_bytes sha256 page_programs ones ones_in
    lowest_clear table_in decision_in image_in def_of loop_of follow block_from block_at front_block item_words frame
    size_of word_of word_bytes
returns-clause-after c = refl

pub returns-clause-torn : goal.returns-clause-torn
unfolding first_words schedule rounds compress hash_after digest_bytes sha256 page_programs ones ones_in
    lowest_clear table_in decision_in image_in def_of loop_of follow block_from block_at front_block item_words frame
    size_of word_of word_bytes
returns-clause-torn c = refl

abbrev content : Content
content = three_images 0x0c3 0 0 0

units-are : boot_units_in content Arm ≡ unit_at 0x2000 0 ∷ unit_at 0x3000 1 ∷ last_unit ∷ []
unfolding first_words schedule rounds compress hash_after digest_bytes sha256 page_programs ones ones_in
    lowest_clear table_in decision_in image_in def_of loop_of follow block_from block_at front_block item_words frame
    size_of word_of word_bytes
units-are = refl

first-image : images_in content Arm (window_at 0x2000 0x1000) false
    ≡ Some (rows_image (window_at 0x2000 0x1000) 0 0x0c3)
unfolding first_words schedule rounds compress hash_after digest_bytes sha256 page_programs ones ones_in
    lowest_clear table_in decision_in image_in def_of loop_of follow block_from block_at front_block item_words frame
    size_of word_of word_bytes
first-image = refl

second-image : images_in content Arm (window_at 0x3000 0x1000) false
    ≡ Some (rows_image (window_at 0x3000 0x1000) 1 0x0c3)
unfolding first_words schedule rounds compress hash_after digest_bytes sha256 page_programs ones ones_in
    lowest_clear table_in decision_in image_in def_of loop_of follow block_from block_at front_block item_words frame
    size_of word_of word_bytes
second-image = refl

-- each of the two lists one row
one-row : (r : ℕ) → Contains (0x0c3 ∷ []) r → r ≡ 0x0c3
one-row r (k, lt, is) = go k lt is
  where
    go : (k : ℕ) → k < 1 → slice_index_or (0x0c3 ∷ []) k r ≡ r → r ≡ 0x0c3
    go zero lt is = sym is
    go (suc k) lt is = absurd (omega arith)

listed-row : (w : Window) (s t : Started) → images_in content Arm w false ≡ Some t → t.rows.items ≡ 0x0c3 ∷ []
    → Valid content w Arm false s → (r : ℕ) → Contains s.rows.items r → r ≡ 0x0c3
listed-row w s t image rows valid r among =
    let same : t ≡ s = same_Some t s (sym image ∙ valid-found content Arm w false s valid) in
    one-row r (subst (λ xs. Contains xs r) (ap (λ (x : Started). x.rows.items) (sym same) ∙ rows) among)

outside : (row bits r : ℕ) → Contains three_raises (Raise row bits) → r ≡ 0x0c3 → IsOutside row r
outside row bits r raised is = let low = raised-low row bits raised in inl (omega (arith, low, is))

-- each row of an image of another unit is 0x0c3
others-row : (i : ℕ) (v : SlotUnit) (m : Member) (w : Window) (s : Started) (r : ℕ)
    → slice_get (boot_units_in content Arm) i ≡ Some v → v ≢ last_unit → member_window m v ≡ Some w
    → Valid content w Arm false s → Contains s.rows.items r → r ≡ 0x0c3
others-row i v m w s r at ne stands valid among =
    go i v m w s r (sym (ap (λ us. slice_get us i) units-are) ∙ at) ne stands valid among
  where
    go : (i : ℕ) (v : SlotUnit) (m : Member) (w : Window) (s : Started) (r : ℕ)
        → slice_get (unit_at 0x2000 0 ∷ unit_at 0x3000 1 ∷ last_unit ∷ []) i ≡ Some v → v ≢ last_unit
        → member_window m v ≡ Some w → Valid content w Arm false s → Contains s.rows.items r → r ≡ 0x0c3
    go zero v m w s r at ne stands valid among =
        let there = member-is 0x2000 0 v m w (same_Some (unit_at 0x2000 0) v at) stands in
        let image = subst (λ x. Valid content x Arm false s) (sym there) valid in
        listed-row (window_at 0x2000 0x1000) s (rows_image (window_at 0x2000 0x1000) 0 0x0c3) first-image refl image r
        among
    go (suc zero) v m w s r at ne stands valid among =
        let there = member-is 0x3000 1 v m w (same_Some (unit_at 0x3000 1) v at) stands in
        let image = subst (λ x. Valid content x Arm false s) (sym there) valid in
        listed-row (window_at 0x3000 0x1000) s (rows_image (window_at 0x3000 0x1000) 1 0x0c3) second-image refl image r
        among
    go (suc (suc zero)) v m w s r at ne stands valid among = absurd (ne (sym (same_Some last_unit v at)))
    go (suc (suc (suc i))) v m w s r at ne stands valid among = cc

pub returns-clause-premise : goal.returns-clause-premise
returns-clause-premise c = record {
  apart = λ i v m w s r row bits at ne stands valid among raised.
      outside row bits r raised (others-row i v m w s r at ne stands valid among);
}

-- the last image lists row 0x0c0 alone
last-row : (q : ℕ) → Contains (0x0c0 ∷ []) q → q ≡ 0x0c0
last-row q (k, lt, is) = go k lt is
  where
    go : (k : ℕ) → k < 1 → slice_index_or (0x0c0 ∷ []) k q ≡ q → q ≡ 0x0c0
    go zero lt is = sym is
    go (suc k) lt is = absurd (omega arith)

pub returns-clause-triples : goal.returns-clause-triples
returns-clause-triples c = record {
  apart = λ i v m w s r q row bits at ne stands valid among listed raised is.
      (let one = others-row i v m w s r at ne stands valid among in
      let two = last-row q listed in
      inr (omega (arith, one, two)));
}
