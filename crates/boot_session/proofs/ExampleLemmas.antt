-- The worked sessions: what each leaves, and what a normal boot decides on it. By computing.
use Rattle.std.proofs.Common.{◌≡◌, ◌≢◌, ◌*◌, inr, ℕ, [], ◌∷◌, Option, None, Some, refl, sym, ap, ◌∙◌, arith, List}
use Rattle.std.specs.Prelude.{nat_eq, slice_index}
use Rattle.std.specs.List.{AllByRecursion, IsDistinct}
use Rattle.pico_board.specs.declared.Step.{Step}
use Rattle.pico_board.specs.declared.Step.TheVariants.{Erase}
use Rattle.pico_board.specs.declared.boot.BootKind.TheVariants.{Normal}
use Rattle.pico_board.specs.declared.boot.Cpu.TheVariants.{Arm}
use Rattle.pico_board.specs.declared.window.Window.{Window}
use Rattle.pico_board.specs.Content.{Content, IsContent}
use Rattle.pico_board.specs.Sessions.{Confined, Gated, IsProgramIn, pages_of}
use Rattle.pico_board.proofs.GateLemmas.{IsDistinct-more, IsDistinct-none}
use Rattle.block_codec.specs.Blocks.{frame}
use Rattle.block_codec.specs.Items.{size_of}
use Rattle.block_codec.specs.Reading.{block_at, front_block, item_words}
use Rattle.block_codec.specs.Words.{word_bytes, word_of}
use Rattle.block_loop.specs.Loop.{block_from, follow, loop_of}
use Rattle.image_def.specs.Definition.{def_of}
use Rattle.image_check.specs.Image.{image_in}
use Rattle.slot_choice.specs.declared.unit.Member.TheVariants.{B}
use Rattle.worked_flashes.specs.Tables.{pair_unit, the_pair}
use Rattle.slot_choice.specs.Examples.{window_at}
use Rattle.boot_rules.specs.declared.decision.Decision.{Decision}
use Rattle.boot_rules.specs.declared.decision.Decision.TheVariants.{Bootsel, Start}
use Rattle.boot_rules.specs.Choosing.{decision_in}
use Rattle.boot_rules.specs.Chosen.{Chosen, IsBootMember}
use Rattle.worked_flashes.specs.Flashes.{bare, bare_slot}
use Rattle.boot_rules.specs.Tables.{table_in}
use Rattle.boot_rules.proofs.DecisionLemmas.{chosen-exactly}
use Rattle.worked_flashes.proofs.ContentLemmas.{all_below, content-by}
use Rattle.worked_flashes.specs.Flashes.{beside_former, beside_small}
use Rattle.worked_flashes.specs.Choices.{finished_start, former_start, small_finished, small_first, small_former, small_slot}
use Rattle.worked_flashes.specs.Writes.{slot}

pub chosen-by : (c : Content) (e : Decision) → decision_in c Arm Normal ≡ e → Chosen c Arm Normal e
chosen-by c e is = (chosen-exactly c Arm Normal e).1 (sym is)

pub decided : (c : Content) (e : Decision) → Chosen c Arm Normal e → e ≡ decision_in c Arm Normal
decided c e chosen = (chosen-exactly c Arm Normal e).0 chosen

-- a decision is not that of before and that after the session
abbrev start_of : Decision → ℕ
start_of (Start choice) = choice.image.window.start
start_of (Bootsel fall) = 0

pub starts-apart : (d : Decision) → d ≡ Start former_start → d ≡ Start finished_start → ⊥
starts-apart d one two = let e : 0x2000 ≡ 0x20000 = ap start_of (sym one ∙ two) in absurd (omega (arith, e))

pub none-some : {X : Type 0} (o : Option X) (x : X) → o ≡ None → o ≡ Some x → ⊥
none-some o x none some = let e : None ≡ Some x = sym none ∙ some in cc

-- contents with another byte somewhere
pub differ : (a b : Content) (i x y : ℕ) → slice_index a.flash i ≡ x → slice_index b.flash i ≡ y → x ≢ y → a ≢ b
differ a b i x y one two ne same = ne (sym one ∙ ap (λ (c : Content). slice_index c.flash i) same ∙ two)

-- the content before each session, and what the laws ask of it
abbrev pub before : Content
before = beside_former bare

pub right : IsContent before
unfolding all_below word_bytes
right = content-by before 0x40000 refl refl refl refl refl refl refl

pub boot_member : IsBootMember before slot Arm
unfolding table_in loop_of follow block_from block_at front_block item_words frame size_of word_of word_bytes
boot_member = record {
  place = 0;
  unit = the_pair;
  member = B;
  other = window_at 0x2000 0x1e000;
  tried = refl;
  stands = refl;
  pair = refl;
}

pub former-before : decision_in before Arm Normal ≡ Start former_start
unfolding table_in decision_in image_in def_of loop_of follow block_from block_at front_block item_words frame size_of
    word_of word_bytes
former-before = refl

pub elsewhere : former_start.image.window ≢ slot
elsewhere e = let starts : 0x2000 ≡ 0x20000 = ap (λ (w : Window). w.start) e in absurd (omega (arith, starts))

-- the content before each session on the small pair, and what the laws ask of it
abbrev pub small_before : Content
small_before = beside_small bare_slot

pub small-right : IsContent small_before
unfolding all_below word_bytes
small-right = content-by small_before 0x6000 refl refl refl refl refl refl refl

pub small-home : IsBootMember small_before small_slot Arm
unfolding table_in loop_of follow block_from block_at front_block item_words frame size_of word_of word_bytes
small-home = record {
  place = 0;
  unit = pair_unit small_first 0 small_slot 1;
  member = B;
  other = small_first;
  tried = refl;
  stands = refl;
  pair = refl;
}

pub small-former-before : decision_in small_before Arm Normal ≡ Start small_former
unfolding table_in decision_in image_in def_of loop_of follow block_from block_at front_block item_words frame size_of
    word_of word_bytes
small-former-before = refl

pub small-elsewhere : small_former.image.window ≢ small_slot
small-elsewhere e = let starts : 0x2000 ≡ 0x4000 = ap (λ (w : Window). w.start) e in absurd (omega (arith, starts))

pub small-starts-apart : (d : Decision) → d ≡ Start small_former → d ≡ Start small_finished → ⊥
small-starts-apart d one two = let e : 0x2000 ≡ 0x4000 = ap start_of (sym one ∙ two) in absurd (omega (arith, e))

-- the erase of a window's first sector, and programs of its pages
pub gated : (s : ℕ) (w : Window) (programs : List Step) → 4096 * s ≡ w.start → Confined (Erase s ∷ programs) w
    → AllByRecursion (IsProgramIn s) programs → IsDistinct nat_eq (pages_of programs)
    → Gated (Erase s ∷ programs) w
gated s w programs first confined last distinct = inr (
  s,
  [],
  programs,
  record { whole = refl; first = first; confined = confined; apart = tt; final = last; distinct = distinct },
)

pub two-pages : IsDistinct nat_eq (512 ∷ 513 ∷ [])
two-pages = IsDistinct-more 512 (513 ∷ []) (refl, tt) (IsDistinct-more 513 [] tt IsDistinct-none)

pub three-pages : IsDistinct nat_eq (64 ∷ 65 ∷ 66 ∷ [])
three-pages =
    IsDistinct-more 64 (65 ∷ 66 ∷ []) (refl, (refl, tt))
    (IsDistinct-more 65 (66 ∷ []) (refl, tt) (IsDistinct-more 66 [] tt IsDistinct-none))
