-- A script that erases a sector, writes a page and a row, on a board of two sectors.
use Rattle.std.proofs.Common.{◌≡◌, ◌∙◌, ℕ, ◌≤◌, List, [], ◌∷◌, ◌++◌, Option, None, Some, inl, inr, refl, sym, ap, subst, arith}
use Rattle.std.specs.Prelude.{Contains}
use Rattle.std.specs.List.{AllByRecursion}
use Rattle.std.specs.Int.Count.{ones, ones_in}
use Rattle.std.proofs.lemmas.List.Elements.{All-contains, All-from_recursion}
use Rattle.sha2.specs.Sha256.{compress, digest_bytes, first_words, hash_after, rounds, schedule, sha256}
use Rattle.pico_board.specs.declared.Step.{Step}
use Rattle.pico_board.specs.declared.step.Step.TheVariants.{Raise}
use Rattle.pico_board.specs.declared.boot.BootKind.TheVariants.{Normal}
use Rattle.pico_board.specs.declared.boot.Cpu.TheVariants.{Arm}
use Rattle.pico_board.specs.Content.{Content}
use Rattle.pico_board.specs.Steps.{CutOf, Torn, after_all}
use Rattle.block_codec.specs.Blocks.{frame}
use Rattle.block_codec.specs.Items.{size_of}
use Rattle.block_codec.specs.Reading.{block_at, front_block, item_words}
use Rattle.block_codec.specs.Words.{word_bytes, word_of}
use Rattle.block_loop.specs.Loop.{block_from, follow, loop_of}
use Rattle.otp_roll.specs.Raises.{lowest_clear}
use Rattle.image_def.specs.Definition.{def_of}
use Rattle.image_check.specs.Image.{image_in}
use Rattle.image_def.specs.declared.started.Started.{Started}
use Rattle.picoboot_cmd.specs.Pages.{padded_page}
use Rattle.boot_rules.specs.Choosing.{decision_in}
use Rattle.boot_rules.specs.Tables.{table_in}
use Rattle.boot_machine.specs.Boots.{booted}
use Rattle.boot_session.specs.Sessions.{entered_host, session}
use Rattle.check_records.specs.Unerased.{first_unerased}
use Rattle.law_updates.specs.Again.{NamesRow, NamesRowsOnce}
use Rattle.law_updates.specs.Examples.{boot_raises, page_steps, page_written, row_raised, row_write, small_update, two_sectors, written_again}
use Rattle.law_updates.specs.Often.{IsLeftBy}
use Rattle.law_updates.specs.Raised.{AreLeftByBoots, IsRaiseOf, IsRaisedBy, IsUntouched, MayRise, ram_started}
use Rattle.law_updates.proofs.TargetLemmas.{commands-same}

abbrev small_steps : List Step
small_steps = page_steps ++ Raise 0x0c0 1 ∷ []

pub first-session : session two_sectors Arm small_update ≡ small_steps
unfolding padded_page word_of word_bytes table_in loop_of follow block_from block_at front_block item_words frame size_of
first-session = refl

pub raised-session : session row_raised Arm small_update ≡ small_steps
unfolding padded_page word_of word_bytes table_in loop_of follow block_from block_at front_block item_words frame size_of
raised-session = refl

torn-before : (c : Content) → Torn c (Raise 0x0c0 1) c
torn-before c = record {
  outside = record { long = refl; below = λ i low. refl; above = λ i high. refl };
  between = λ k. inl refl;
  bytes = refl;
}

-- power is lost in the raise
lost-in-raise : (x : Content) → session x Arm small_update ≡ small_steps
    → CutOf x (session x Arm small_update) (after_all x page_steps)
lost-in-raise x is =
    subst (λ (steps : List Step). CutOf x steps (after_all x page_steps)) (sym is)
    (inr (inr (inl (torn-before (after_all x page_steps)))))

pub first-unerased : first_unerased (session two_sectors Arm small_update) ≡ None
first-unerased = subst (λ (steps : List Step). first_unerased steps ≡ None) (sym first-session) refl

-- no table stands in them
first-table : table_in two_sectors ≡ None
unfolding table_in loop_of follow block_from block_at front_block item_words frame size_of word_of word_bytes
first-table = refl

pub written-table : table_in page_written ≡ None
unfolding table_in loop_of follow block_from block_at front_block item_words frame size_of word_of word_bytes
written-table = refl

pub raised-table : table_in row_raised ≡ None
unfolding table_in loop_of follow block_from block_at front_block item_words frame size_of word_of word_bytes
raised-table = refl

pub again-table : table_in written_again ≡ None
unfolding table_in loop_of follow block_from block_at front_block item_words frame size_of word_of word_bytes
again-table = refl

not-erase : {P : Type 0} → (let id : ℕ = 3 in id ≡ 13) → P
not-erase e = absurd (omega (arith, e))

not-write : {P : Type 0} → (let id : ℕ = 5 in id ≡ 13) → P
not-write e = absurd (omega (arith, e))

pub small-once : NamesRowsOnce small_update
small-once = (
  λ row never. absurd never,
  (λ row named. not-erase named.0, (λ row named. not-write named.0, (λ row named. tt, tt))),
)

row-beside : {P : Type 0} (row : ℕ) → 0x0c3 ≤ row → NamesRow (row_write 0x0c0 1 (1 ∷ 0 ∷ 0 ∷ 0 ∷ [])) row → P
row-beside row from named = let high = named.2 in absurd (omega (arith, from, high))

no-image : ram_started two_sectors Arm (entered_host two_sectors) small_update ≡ None
unfolding padded_page word_of word_bytes table_in loop_of follow block_from block_at front_block item_words frame size_of
no-image = refl

none-some : {P : Type 0} (o : Option Started) (image : Started) → o ≡ None → o ≡ Some image → P
none-some o image e f = cc

-- the script leaves the rows from 0x0c3 on alone
pub beside : (row : ℕ) → 0x0c3 ≤ row → IsUntouched two_sectors Arm small_update row
beside row from = record {
  unnamed = (λ never. never, (λ named. not-erase named.0, (λ named. not-write named.0, (row-beside row from, tt))));
  apart = λ image r is among. none-some _ image no-image is;
}

may-rise : (row : ℕ) → 0x0c3 ≤ row → MayRise two_sectors Arm small_update row
may-rise row from = record { listed = omega (arith, from); untouched = beside row from }

pub boot-rises : AllByRecursion (IsRaiseOf (MayRise two_sectors Arm small_update)) boot_raises
boot-rises = (may-rise 0x0c3 (omega arith), (may-rise 0x0c4 (omega arith), (may-rise 0x0c5 (omega arith), tt)))

-- what a boot does once the page is written
pub boot-steps : boot_raises ≡ (booted page_written Arm Normal None).steps
unfolding first_words schedule rounds compress hash_after digest_bytes sha256 ones ones_in
    lowest_clear table_in decision_in image_in def_of loop_of follow block_from block_at front_block item_words frame
    size_of word_of word_bytes
boot-steps = refl

abbrev IsLate : Step → Type 0
IsLate = IsRaiseOf (λ row. 0x0c3 ≤ row)

late : (row bits : ℕ) → Contains boot_raises (Raise row bits) → 0x0c3 ≤ row
late row bits among =
    All-contains IsLate boot_raises (Raise row bits)
    (All-from_recursion IsLate boot_raises (omega arith, (omega arith, (omega arith, tt)))) among

boot-late : (row : ℕ) → IsRaisedBy page_written Arm row → 0x0c3 ≤ row
boot-late row (bits, among) =
    late row bits (subst (λ (steps : List Step). Contains steps (Raise row bits)) (sym boot-steps) among)

pub boot-raised : IsRaisedBy page_written Arm 0x0c3
boot-raised =
    (1, subst (λ (steps : List Step). Contains steps (Raise 0x0c3 1)) boot-steps (0, omega arith, refl))

pub boot-may : (row : ℕ) → IsRaisedBy page_written Arm row → MayRise two_sectors Arm small_update row
boot-may row raised = may-rise row (boot-late row raised)

pub boot-left : AreLeftByBoots (IsUntouched two_sectors Arm small_update) 1 page_written Arm row_raised
boot-left =
    (page_written, refl, λ row raised. beside row (boot-late row raised), inl (ap (after_all page_written) boot-steps))

-- what a loss leaves, and boots behind it
pub left-by : (x : Content) (raises : List Step) (d : Content) → session x Arm small_update ≡ small_steps
    → AllByRecursion (IsRaiseOf (MayRise two_sectors Arm small_update)) raises
    → d ≡ after_all (after_all x page_steps) raises → table_in d ≡ None
    → IsLeftBy two_sectors Arm small_update x raises d
left-by x raises d is raised left table = record {
  cut = after_all x page_steps;
  lost = lost-in-raise x is;
  raised = raised;
  left = left;
  table = table ∙ sym first-table;
  targets =
      commands-same two_sectors d Arm (entered_host two_sectors) small_update (tt, (tt, (tt, (tt, tt))));
}
