use Rattle.std.proofs.Common.{◌≡◌, ◌≢◌, ℕ, zero, suc, List, [], ◌∷◌, Some, inl, inr, refl, sym, ap, subst, ◌∙◌, arith, slice_get}
use Rattle.std.proofs.lemmas.Option.{none-some, same_Some}
use Rattle.pico_board.specs.declared.boot.Cpu.TheVariants.{Arm}
use Rattle.pico_board.specs.declared.window.Window.{Window}
use Rattle.block_codec.specs.Blocks.{frame}
use Rattle.block_codec.specs.Items.{size_of}
use Rattle.block_codec.specs.Reading.{block_at, front_block, item_words}
use Rattle.block_codec.specs.Words.{word_bytes, word_of}
use Rattle.block_loop.specs.Loop.{block_from, follow, loop_of}
use Rattle.slot_choice.specs.declared.unit.SlotUnit.{SlotUnit}
use Rattle.slot_choice.specs.Examples.{pair_unit, the_pair, window_at}
use Rattle.slot_choice.specs.Units.{IsMember}
use Rattle.boot_rules.specs.Choosing.{boot_units_in}
use Rattle.boot_rules.specs.Tables.{table_in}
use Rattle.worked_flashes.specs.Flashes.{bare, bare_owner, beside_former, owned_content}
use Rattle.worked_flashes.specs.Writes.{slot}
use Rattle.law_premises.specs.Examples.{owned_second}
use Rattle.law_premises.proofs.examples.sessions.a_partition_in_no_unit.Goals as goal

-- the one unit: the pair of images
abbrev owner : SlotUnit
owner = pair_unit (window_at 0x2000 0x8000) 0 (window_at 0xa000 0x8000) 1

units : boot_units_in (owned_content bare_owner bare_owner) Arm ≡ owner ∷ []
unfolding table_in loop_of follow block_from block_at front_block item_words frame size_of word_of word_bytes
units = refl

abbrev start : Window → ℕ
start w = w.start

apart : (x : Window) → IsMember owner x → x ≢ owned_second
apart x (inl is) same = let e : 0x2000 ≡ 0x1a000 = ap start (sym is ∙ same) in absurd (omega (arith, e))
apart x (inr is) same =
    let e : 0xa000 ≡ 0x1a000 = ap start (same_Some (window_at 0xa000 0x8000) x is ∙ same) in absurd (omega (arith, e))

members : (k : ℕ) (u : SlotUnit) (x : Window) → slice_get (owner ∷ []) k ≡ Some u → IsMember u x → x ≢ owned_second
members zero u x at =
    subst (λ (v : SlotUnit). IsMember v x → x ≢ owned_second) (same_Some owner u at) (apart x)
members (suc k) u x at = absurd (none-some u at)

pub returns-clause-data : goal.returns-clause-data
returns-clause-data c = λ k u x at.
    members k u x (subst (λ (us : List SlotUnit). slice_get us k ≡ Some u) units at)

first-unit : slice_get (boot_units_in (beside_former bare) Arm) 0 ≡ Some the_pair
unfolding table_in loop_of follow block_from block_at front_block item_words frame size_of word_of word_bytes
first-unit = refl

pub returns-clause-image : goal.returns-clause-image
returns-clause-image c = λ outside. outside 0 the_pair slot first-unit (inr refl) refl
