-- The worked script, by computing.
use Rattle.std.proofs.Common.{◌≡◌, inr, ℕ, true, [], ◌∷◌, Option, None, Some, refl, sym, ap, ◌∙◌, arith}
use Rattle.std.specs.Prelude.{is_some, nat_eq}
use Rattle.std.specs.List.{IsDistinct}
use Rattle.std.proofs.Math.Dec.{lit≤}
use Rattle.pico_board.specs.declared.boot.BootKind.TheVariants.{Normal}
use Rattle.pico_board.specs.declared.boot.Cpu.TheVariants.{Arm}
use Rattle.pico_board.specs.declared.Step.TheVariants.{Erase, Program}
use Rattle.pico_board.specs.declared.window.Window.{Window}
use Rattle.pico_board.specs.Content.{Content, IsContent}
use Rattle.pico_board.specs.Sessions.{Confined, Gated}
use Rattle.pico_board.specs.Steps.{after_all}
use Rattle.pico_board.proofs.GateLemmas.{IsDistinct-more, IsDistinct-none}
use Rattle.block_codec.specs.Blocks.{frame}
use Rattle.block_codec.specs.Items.{size_of}
use Rattle.block_codec.specs.Reading.{block_at, front_block, item_words}
use Rattle.block_codec.specs.Words.{word_bytes, word_of}
use Rattle.block_loop.specs.Loop.{block_from, follow, loop_of}
use Rattle.image_def.specs.Definition.{def_of}
use Rattle.image_check.specs.Image.{image_in}
use Rattle.boot_rules.specs.declared.decision.Decision.{Decision}
use Rattle.boot_rules.specs.declared.decision.Decision.TheVariants.{Start, Bootsel}
use Rattle.boot_rules.specs.declared.tables.Found.{Found}
use Rattle.boot_rules.specs.Choosing.{decision_in}
use Rattle.boot_rules.specs.Chosen.{Chosen, IsBootMember}
use Rattle.boot_rules.specs.Tables.{table_in}
use Rattle.boot_rules.proofs.DecisionLemmas.{chosen-decision}
use Rattle.picoboot_cmd.specs.Pages.{padded_page}
use Rattle.script_plan.specs.Commands.{sent}
use Rattle.boot_session.specs.Recordings.{kept_steps, step_limit}
use Rattle.boot_session.specs.Sessions.{session}
use Rattle.boot_session.specs.Slots.{IsSlot}
use Rattle.boot_session.proofs.GatedLaws.{gated-table}
use Rattle.boot_sweep.specs.declared.error.SweepError.{SweepError}
use Rattle.boot_sweep.specs.Refusals.{IsRefusedSession, StartsIn, sweep_refusal}
use Rattle.boot_sweep.proofs.RefusalCaseLemmas.{refused-exactly}
use Rattle.law_cuts.specs.Sessions.{is_one_session}
use Rattle.worked_flashes.specs.Choices.{small_finished, small_former, small_slot}
use Rattle.worked_flashes.specs.Flashes.{arm_slot, bare_slot, beside_small, block_page, vector_page}
use Rattle.worked_flashes.specs.Writes.{longer_steps}
use Rattle.law_cuts.specs.Examples.{small_script}

abbrev pub small : Content
small = beside_small bare_slot

abbrev pub short : Content
short = beside_small (arm_slot 0x0001000a)

pub one : is_one_session small Arm small_script ≡ true
unfolding sent padded_page table_in decision_in image_in def_of loop_of follow block_from block_at front_block item_words
    frame size_of word_of word_bytes
one = refl

pub session-is : session small Arm small_script ≡ longer_steps
unfolding sent padded_page table_in image_in def_of loop_of follow block_from block_at front_block item_words frame size_of
    word_of word_bytes
session-is = refl

pub no-refusal : sweep_refusal small Arm longer_steps ≡ None
unfolding sweep_refusal kept_steps step_limit table_in decision_in image_in def_of loop_of follow block_from block_at
    front_block item_words frame size_of word_of word_bytes
no-refusal = refl

pub has-table : is_some (table_in small) ≡ true
unfolding table_in loop_of follow block_from block_at front_block item_words frame size_of word_of word_bytes
has-table = refl

-- the steps but the last
pub first-three : after_all small (Erase 4 ∷ Program 64 vector_page ∷ Program 65 (block_page 0x0001000a) ∷ []) ≡ short
unfolding word_bytes
first-three = refl

none-some : (o : Option SweepError) (why : SweepError) → o ≡ None → o ≡ Some why → ⊥
none-some o why none some = let e : None ≡ Some why = sym none ∙ some in cc

pub not-refused : IsContent small → (why : SweepError) → IsRefusedSession small Arm longer_steps why → ⊥
not-refused right why refused =
    none-some (sweep_refusal small Arm longer_steps) why no-refusal
    ((refused-exactly small Arm longer_steps right why).1 refused)

-- a normal boot on a content decides in one way
pub one-decision : (c : Content) (d e : Decision) → Chosen c Arm Normal d → Chosen c Arm Normal e → d ≡ e
one-decision c d e first second = chosen-decision c Arm Normal d first ∙ sym (chosen-decision c Arm Normal e second)

abbrev pub window_of : Decision → ℕ
window_of (Start choice) = choice.image.window.start
window_of (Bootsel fall) = 0

pub elsewhere : Chosen small Arm Normal (Start small_former) → StartsIn small Arm small_slot → ⊥
elsewhere former starts =
    let same = ap window_of (one-decision small (Start starts.0) (Start small_former) starts.1 former) in
    let there : 0x4000 ≡ starts.0.image.window.start = sym (ap (λ (w : Window). w.start) starts.2) in
    let e : 0x4000 ≡ 0x2000 = there ∙ same in absurd (omega (arith, e))

pub confined : Confined longer_steps small_slot
confined = ((lit≤ tt, lit≤ tt), ((lit≤ tt, lit≤ tt), ((lit≤ tt, lit≤ tt), ((lit≤ tt, lit≤ tt), tt))))

three-pages : IsDistinct nat_eq (64 ∷ 65 ∷ 66 ∷ [])
three-pages =
    IsDistinct-more 64 (65 ∷ 66 ∷ []) (refl, (refl, tt))
    (IsDistinct-more 65 (66 ∷ []) (refl, tt) (IsDistinct-more 66 [] tt IsDistinct-none))

pub gated : Gated longer_steps small_slot
gated = inr (
  4,
  [],
  _,
  record {
    whole = refl;
    first = refl;
    confined = confined;
    apart = tt;
    final = ((lit≤ tt, lit≤ tt), ((lit≤ tt, lit≤ tt), ((lit≤ tt, lit≤ tt), tt)));
    distinct = three-pages;
  },
)

pub slot : IsBootMember small small_slot Arm → IsSlot small Arm longer_steps small_slot
slot boot_member = record {
  boot_member = boot_member;
  first = Erase 4;
  others = _;
  whole = refl;
  holds = (lit≤ tt, lit≤ tt);
}

pub same-table : IsContent small → IsBootMember small small_slot Arm
    → table_in (after_all small longer_steps) ≡ table_in small
same-table right boot_member = go (table_in small) refl has-table
  where
    go : (o : Option Found) → table_in small ≡ o → is_some o ≡ true
        → table_in (after_all small longer_steps) ≡ table_in small
    go None is has = cc
    go (Some found) is has = gated-table small small_slot Arm longer_steps found right boot_member gated is

-- a boot on the content that lacks the last page does not decide as before
pub never-former : Chosen small Arm Normal (Start small_former) → Chosen short Arm Normal (Start small_finished)
    → (e : Decision) → Chosen small Arm Normal e → Chosen short Arm Normal e → ⊥
never-former former next e first second =
    let same : Start small_former ≡ Start small_finished =
    one-decision small (Start small_former) e former first ∙ one-decision short e (Start small_finished) second next in
    let starts : 0x2000 ≡ 0x4000 = ap window_of same in absurd (omega (arith, starts))
