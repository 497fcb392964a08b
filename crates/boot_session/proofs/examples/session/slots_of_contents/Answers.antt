-- By computing.
use Rattle.std.proofs.Common.{◌≡◌, ◌<◌, inl, inr, ℕ, zero, suc, [], ◌∷◌, subst, length, None, Some, refl, sym, ap, ◌∙◌, arith}
use Rattle.std.proofs.Math.Dec.{lit<}
use Rattle.std.specs.Prelude.{slice_get}
use Rattle.std.proofs.lemmas.Option.{same_Some}
use Rattle.pico_board.specs.declared.boot.Cpu.TheVariants.{Arm}
use Rattle.pico_board.specs.declared.window.Window.{Window}
use Rattle.pico_board.specs.Content.{Content}
use Rattle.worked_flashes.specs.Tables.{pair_version}
use Rattle.part_table.specs.Windows.{partition_window}
use Rattle.block_codec.specs.Blocks.{frame}
use Rattle.block_codec.specs.Items.{size_of}
use Rattle.block_codec.specs.Reading.{block_at, front_block, item_words}
use Rattle.block_codec.specs.Words.{word_bytes, word_of}
use Rattle.block_loop.specs.Loop.{block_from, follow, loop_of}
use Rattle.slot_choice.specs.declared.unit.Member.{Member}
use Rattle.slot_choice.specs.declared.unit.Member.TheVariants.{A, B}
use Rattle.slot_choice.specs.declared.unit.SlotUnit.{SlotUnit}
use Rattle.slot_choice.specs.Examples.{window_at}
use Rattle.slot_choice.specs.Units.{member_window}
use Rattle.boot_rules.specs.declared.tables.Found.{Found}
use Rattle.boot_rules.specs.Choosing.{boot_units_in}
use Rattle.worked_flashes.specs.Flashes.{arm_slot, bare, bare_slot, tables_content}
use Rattle.boot_rules.specs.Examples.{found_in_slot}
use Rattle.boot_rules.specs.Tables.{table_in}
use Rattle.worked_flashes.specs.Flashes.{beside_former}
use Rattle.boot_session.proofs.ExampleLemmas.{none-some}
use Rattle.boot_session.proofs.examples.session.slots_of_contents.Goals as goal

abbrev tabled : Content
tabled = beside_former bare

table-is : table_in tabled ≡ Some (found_in_slot 0 (pair_version 0 0))
unfolding table_in loop_of follow block_from block_at front_block item_words frame size_of word_of word_bytes
table-is = refl

pub returns-clause-first : goal.returns-clause-first
returns-clause-first c = inl (found_in_slot 0 (pair_version 0 0), 0, table-is, lit< tt, refl)

pub returns-clause-second : goal.returns-clause-second
returns-clause-second c = inl (found_in_slot 0 (pair_version 0 0), 1, table-is, lit< tt, refl)

-- no partition begins at 0
no-partition : (found : Found) (i : ℕ) → found_in_slot 0 (pair_version 0 0) ≡ found → i < length found.table.parts.items
    → window_at 0 0x40000 ≡ partition_window found.table i → ⊥
no-partition found i is lt same = go i (subst (λ (f : Found). i < length f.table.parts.items) (sym is) lt)
    (same ∙ ap (λ (f : Found). partition_window f.table i) (sym is))
  where
    go : (i : ℕ) → i < 2 → window_at 0 0x40000 ≡ partition_window (pair_version 0 0) i → ⊥
    go zero lt same = let e : 0 ≡ 0x2000 = ap (λ (w : Window). w.start) same in absurd (omega (arith, e))
    go (suc zero) lt same = let e : 0 ≡ 0x20000 = ap (λ (w : Window). w.start) same in absurd (omega (arith, e))
    go (suc (suc i)) lt same = absurd (omega (arith, lt))

pub returns-clause-whole : goal.returns-clause-whole
returns-clause-whole c = λ is. elim is [
  | inl part ↦ no-partition part.0 part.1
      (same_Some (found_in_slot 0 (pair_version 0 0)) part.0 (sym table-is ∙ part.2)) part.3 part.4
  | inr at ↦ none-some _ _ at.0 table-is
]

abbrev tableless : Content
tableless = tables_content 1 (arm_slot 0x10009) bare_slot

no-table : table_in tableless ≡ None
unfolding table_in loop_of follow block_from block_at front_block item_words frame size_of word_of word_bytes
no-table = refl

-- the pair of slots
abbrev both : SlotUnit
both = record { a = window_at 0 0x2000; b = Some (window_at 0x2000 0x2000); a_part = None; b_part = None }

units-are : boot_units_in tableless Arm ≡ both ∷ []
unfolding table_in loop_of follow block_from block_at front_block item_words frame size_of word_of word_bytes
units-are = refl

pub returns-clause-tableless : goal.returns-clause-tableless
returns-clause-tableless c = inr (
  no-table,
  record {
    place = 0;
    unit = both;
    member = B;
    other = window_at 0 0x2000;
    tried = ap (λ us. slice_get us 0) units-are;
    stands = refl;
    pair = refl;
  },
)

pub returns-clause-tableless_first : goal.returns-clause-tableless_first
returns-clause-tableless_first c = inr (
  no-table,
  record {
    place = 0;
    unit = both;
    member = A;
    other = window_at 0x2000 0x2000;
    tried = ap (λ us. slice_get us 0) units-are;
    stands = refl;
    pair = refl;
  },
)

-- the whole is no member
no-member : (i : ℕ) (u : SlotUnit) (m : Member) → slice_get (both ∷ []) i ≡ Some u
    → member_window m u ≡ Some (window_at 0 0x6000) → ⊥
no-member zero u m at stands = go m (ap (member_window m) (same_Some both u at) ∙ stands)
  where
    go : (m : Member) → member_window m both ≡ Some (window_at 0 0x6000) → ⊥
    go A e =
        let len : 0x2000 ≡ 0x6000 =
        ap (λ (w : Window). w.len) (same_Some (window_at 0 0x2000) (window_at 0 0x6000) e) in
        absurd (omega (arith, len))
    go B e =
        let len : 0x2000 ≡ 0x6000 =
        ap (λ (w : Window). w.len) (same_Some (window_at 0x2000 0x2000) (window_at 0 0x6000) e) in
        absurd (omega (arith, len))
no-member (suc i) u m at stands = cc

pub returns-clause-tableless_whole : goal.returns-clause-tableless_whole
returns-clause-tableless_whole c = λ is. elim is [
  | inl part ↦ none-some _ _ no-table part.2
  | inr at ↦ no-member at.1.place at.1.unit at.1.member
      (sym (ap (λ us. slice_get us at.1.place) units-are) ∙ at.1.tried) at.1.stands
]
