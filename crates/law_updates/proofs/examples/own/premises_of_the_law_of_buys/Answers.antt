-- By computing.
use Rattle.std.proofs.Common.{◌≡◌, ◌≢◌, ℕ, ◌+◌, ◌*◌, ◌^◌, Bool, List, [], ◌∷◌, length, false, true, refl, sym, subst, arith, lit<}
use Rattle.std.specs.Prelude.{◌&&◌, Contains, nat_le}
use Rattle.std.specs.List.{AllByRecursion, list_all}
use Rattle.std.proofs.lemmas.Bool.{leb-true}
use Rattle.std.proofs.lemmas.List.Elements.{All-from_recursion}
use Rattle.sha2.specs.Sha256.{compress, digest_bytes, first_words, hash_after, rounds, schedule, sha256}
use Rattle.std.specs.Int.Count.{ones, ones_in}
use Rattle.trial_buy.specs.Buying.{page_programs}
use Rattle.boot_rules.specs.Tables.{table_in}
use Rattle.boot_rules.specs.Choosing.{decision_in}
use Rattle.image_check.specs.Image.{image_in}
use Rattle.image_def.specs.Definition.{def_of}
use Rattle.block_loop.specs.Loop.{loop_of, follow, block_from}
use Rattle.block_codec.specs.Blocks.{frame}
use Rattle.block_codec.specs.Reading.{block_at, front_block, item_words}
use Rattle.block_codec.specs.Items.{size_of}
use Rattle.block_codec.specs.Words.{word_of, word_bytes}
use Rattle.otp_roll.specs.Raises.{lowest_clear}
use Rattle.pico_board.specs.declared.Step.TheVariants.{Erase, Program, Raise}
use Rattle.pico_board.specs.declared.boot.BootKind.TheVariants.{Normal}
use Rattle.pico_board.specs.declared.boot.Cpu.TheVariants.{Arm}
use Rattle.pico_board.specs.Content.{IsContent}
use Rattle.pico_board.specs.Steps.{after_all}
use Rattle.pico_board.proofs.ContentLemmas.{byte_at}
use Rattle.pico_board.proofs.TornStepLemmas.{SameOutside-refl}
use Rattle.boot_rules.specs.declared.decision.Decision.TheVariants.{Start}
use Rattle.boot_rules.proofs.AccidentalImageLemmas.{former-free}
use Rattle.boot_rules.proofs.DecisionLemmas.{chosen-exactly}
use Rattle.boot_machine.specs.Plays.{moved_machine, powerless}
use Rattle.boot_tape.specs.Moving.{IsMoveIn, MoveView, Done, Torn}
use Rattle.boot_tape.specs.Traces.{moves_in}
use Rattle.slot_choice.specs.Examples.{window_at}
use Rattle.slot_choice.specs.declared.choice.Choice.{Choice}
use Rattle.worked_flashes.specs.Choices.{starts_alone}
use Rattle.worked_flashes.proofs.ContentLemmas.{all_below, content-by}
use Rattle.law_boot_cuts.specs.Examples.{rows_image}
use Rattle.check_laws.specs.OwnLaws.{BuyMade, IsBuyKept, IsLawOf, buys_in}
use Rattle.check_laws.proofs.WriteLawLemmas.{any-here}
use Rattle.check_require.specs.declared.report.LawOfWrites.TheVariants.{Kept}
use Rattle.law_updates.specs.Rising.{a_rising_buy, buying_events, rising_trial}
use Rattle.law_updates.proofs.examples.own.premises_of_the_law_of_buys.Goals as goal

abbrev former : Choice
former = starts_alone false (rows_image (window_at 0x3000 0x1000) 0 0x0c3)

starts : Start former ≡ decision_in rising_trial Arm Normal
unfolding first_words schedule rounds compress hash_after digest_bytes sha256 page_programs ones ones_in
    lowest_clear table_in decision_in image_in def_of loop_of follow block_from block_at front_block item_words frame
    size_of word_of word_bytes
starts = refl

buys-are : buys_in (powerless rising_trial Arm) buying_events ≡ a_rising_buy ∷ []
unfolding moved_machine first_words schedule rounds compress hash_after digest_bytes sha256 page_programs ones ones_in
    lowest_clear table_in decision_in image_in def_of loop_of follow block_from block_at front_block item_words frame
    size_of word_of word_bytes
buys-are = refl

right : IsContent rising_trial
unfolding all_below first_words schedule rounds compress hash_after digest_bytes sha256 page_programs ones ones_in
    lowest_clear table_in decision_in image_in def_of loop_of follow block_from block_at front_block item_words frame
    size_of word_of word_bytes
right = content-by rising_trial 0x5000 refl refl refl refl refl refl refl

pub returns-clause-law : goal.returns-clause-law
returns-clause-law c =
    subst (λ bs. IsLawOf (λ (b : BuyMade). b.done) (IsBuyKept Arm) bs Kept) (sym buys-are) (
      any-here (λ (b : BuyMade). b.done ≢ []) a_rising_buy [] (λ none. cc),
      All-from_recursion (λ (b : BuyMade). b.done ≢ [] → IsBuyKept Arm b) (a_rising_buy ∷ [])
          (λ does. c.a_buy_that_raises_rows.ensures.kept, tt),
    )

pub returns-clause-among : goal.returns-clause-among
returns-clause-among c = subst (λ bs. Contains bs a_rising_buy) (sym buys-are) (0, lit< tt, refl)

pub returns-clause-former : goal.returns-clause-former
returns-clause-former c = (chosen-exactly rising_trial Arm Normal (Start former)).1 starts

pub returns-clause-cut : goal.returns-clause-cut
returns-clause-cut c = record {
  stands = refl;
  torn = record {
    outside = SameOutside-refl 0x2000 4096 rising_trial.flash;
    bytes = λ i lt. byte_at rising_trial.flash right.flash_bytes (0x2000 + i);
    rows = refl;
  };
}

pub returns-clause-no_accident : goal.returns-clause-no_accident
returns-clause-no_accident c = λ v is confined.
    former-free rising_trial (after_all rising_trial a_rising_buy.done) rising_trial v Arm refl refl refl

-- whether the step of a move lies in a flash of n bytes, where it completes
abbrev in_flash : ℕ → MoveView → Bool
in_flash n (Done (Erase s)) = nat_le (4096 * s + 4096) n
in_flash n (Done (Program p d)) = nat_le (256 * p + 256) n
in_flash n (Done (Raise r b)) = nat_le (r + 1) 4096 && nat_le (b + 1) (2 ^ 24)
in_flash n (Torn step within pattern) = false

both : (a b : Bool) → (a && b) ≡ true → (a ≡ true) × (b ≡ true)
both true b e = (refl, e)
both false b e = cc

move-in : (n : ℕ) (moved : MoveView) → in_flash n moved ≡ true → IsMoveIn n moved
move-in n (Done (Erase s)) e = leb-true (4096 * s + 4096) n e
move-in n (Done (Program p d)) e = leb-true (256 * p + 256) n e
move-in n (Done (Raise r b)) e =
    let parts = both (nat_le (r + 1) 4096) (nat_le (b + 1) (2 ^ 24)) e in
    let row = leb-true (r + 1) 4096 parts.0 in
    let bits = leb-true (b + 1) (2 ^ 24) parts.1 in (omega (arith, row), omega (arith, bits))
move-in n (Torn step within pattern) e = cc

all-in : (n : ℕ) (moves : List MoveView) → list_all (in_flash n) moves ≡ true → AllByRecursion (IsMoveIn n) moves
all-in n [] e = tt
all-in n (moved ∷ moves) e =
    let parts = both (in_flash n moved) (list_all (in_flash n) moves) e in
    (move-in n moved parts.0, all-in n moves parts.1)

in-flash : list_all (in_flash 0x5000) (moves_in (powerless rising_trial Arm) buying_events) ≡ true
unfolding moved_machine first_words schedule rounds compress hash_after digest_bytes sha256 page_programs ones ones_in
    lowest_clear table_in decision_in image_in def_of loop_of follow block_from block_at front_block item_words frame
    size_of word_of word_bytes
in-flash = refl

long : 0x5000 ≡ length rising_trial.flash
unfolding first_words schedule rounds compress hash_after digest_bytes sha256 page_programs ones ones_in
    lowest_clear table_in decision_in image_in def_of loop_of follow block_from block_at front_block item_words frame
    size_of word_of word_bytes
long = refl

pub returns-clause-on : goal.returns-clause-on
returns-clause-on c = record {
  content = right;
  bytes = (tt, (tt, (tt, tt)));
  inside = subst (λ n. AllByRecursion (IsMoveIn n) (moves_in (powerless rising_trial Arm) buying_events)) long
      (all-in 0x5000 (moves_in (powerless rising_trial Arm) buying_events) in-flash);
}
