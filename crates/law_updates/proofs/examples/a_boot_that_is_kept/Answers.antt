-- By computing.
use Rattle.std.proofs.Common.{◌≡◌, ◌∙◌, ℕ, true, List, [], Option, Some, None, slice_get, refl, sym, ap, subst, inl, inr}
use Rattle.std.specs.Prelude.{Contains, is_some}
use Rattle.std.proofs.lemmas.Option.{slice_get-get_or}
use Rattle.sha2.specs.Sha256.{compress, digest_bytes, first_words, hash_after, rounds, schedule, sha256}
use Rattle.std.specs.Int.Count.{ones, ones_in}
use Rattle.trial_buy.specs.Buying.{page_programs}
use Rattle.boot_rules.specs.declared.decision.Decision.TheVariants.{Start}
use Rattle.boot_rules.specs.declared.tables.Found.{Found}
use Rattle.boot_rules.specs.Tables.{table_in}
use Rattle.boot_rules.specs.Choosing.{boot_units_in, decision_in}
use Rattle.boot_rules.specs.Chosen.{Chosen}
use Rattle.boot_rules.proofs.DecisionLemmas.{chosen-exactly}
use Rattle.image_check.specs.Image.{image_in}
use Rattle.image_def.specs.Definition.{def_of}
use Rattle.block_loop.specs.Loop.{loop_of, follow, block_from}
use Rattle.block_codec.specs.Blocks.{frame}
use Rattle.block_codec.specs.Reading.{block_at, front_block, item_words}
use Rattle.block_codec.specs.Items.{size_of}
use Rattle.block_codec.specs.Words.{word_of, word_bytes}
use Rattle.otp_roll.specs.Raises.{lowest_clear}
use Rattle.pico_board.specs.declared.boot.BootKind.TheVariants.{Update}
use Rattle.pico_board.specs.declared.boot.Cpu.TheVariants.{Arm}
use Rattle.slot_choice.specs.declared.unit.SlotUnit.{SlotUnit}
use Rattle.slot_choice.specs.Examples.{window_at}
use Rattle.slot_choice.specs.Units.{IsMember}
use Rattle.law_boot_cuts.specs.Crashes.{KeepsOtherTriples}
use Rattle.law_boot_cuts.specs.Examples.{last_unit, three_images, three_raises}
use Rattle.check_laws.specs.Triples.{AreTriplesApart}
use Rattle.law_updates.specs.Examples.{last_choice}
use Rattle.law_updates.proofs.examples.a_boot_that_is_kept.Goals as goal

starts : Start last_choice ≡ decision_in (three_images 0x0c3 0 0 0) Arm (Update 0x10004000)
unfolding first_words schedule rounds compress hash_after digest_bytes sha256 page_programs ones ones_in
    lowest_clear table_in decision_in image_in def_of loop_of follow block_from block_at front_block item_words frame
    size_of word_of word_bytes
starts = refl

a-table : is_some (table_in (three_images 0x0c3 0 0 0)) ≡ true
unfolding first_words schedule rounds compress hash_after digest_bytes sha256 page_programs ones ones_in
    lowest_clear table_in decision_in image_in def_of loop_of follow block_from block_at front_block item_words frame
    size_of word_of word_bytes
a-table = refl

some-table : (o : Option Found) → is_some o ≡ true → o ≡ None → ⊥
some-table o is none = not-none (ap is_some (sym none) ∙ is)
  where
    not-none : is_some {T = Found} None ≡ true → ⊥
    not-none e = cc

chosen : Chosen (three_images 0x0c3 0 0 0) Arm (Update 0x10004000) (Start last_choice)
chosen = (chosen-exactly (three_images 0x0c3 0 0 0) Arm (Update 0x10004000) (Start last_choice)).1 starts

at-place : (us : List SlotUnit) (v : SlotUnit) → Contains us v → (k : ℕ) × (slice_get us k ≡ Some v)
at-place us v (k, lt, is) = (k, slice_get-get_or us k v lt ∙ ap Some is)

triples : KeepsOtherTriples (three_images 0x0c3 0 0 0) Arm last_choice last_unit three_raises
    → AreTriplesApart (three_images 0x0c3 0 0 0) Arm last_choice.image three_raises
triples keeps v m w s r q among other stands valid listed row raised =
    let at = at-place (boot_units_in (three_images 0x0c3 0 0 0) Arm) v among in
    keeps.apart at.0 v m w s r q raised.0 raised.1 at.1
    (λ same. other (subst (λ x. IsMember x (window_at 0x4000 0x1000)) (sym same) (inl refl)))
    stands valid listed row raised.2 raised.3

pub returns-clause-begins : goal.returns-clause-begins
returns-clause-begins c =
    record { chosen = chosen; rest = []; begins = c.other_rows_stand_apart.ensures.steps }

pub returns-clause-kept : goal.returns-clause-kept
returns-clause-kept c = inr (record {
  choice = last_choice;
  chosen = chosen;
  table = some-table (table_in (three_images 0x0c3 0 0 0)) a-table;
  apart = triples c.other_rows_stand_apart.ensures.triples;
})
