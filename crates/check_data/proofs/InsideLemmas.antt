-- The windows of data, and the loose bytes, lie inside the flash.
use Rattle.std.proofs.Common.{◌≡◌, ℕ, zero, suc, ◌+◌, ◌/◌, ◌%◌, ◌<◌, ◌≤◌, Bool, true, false, List, [], ◌∷◌, length, Option, Some, None, Result, Ok, Err, refl, arith}
use Rattle.std.specs.Prelude.{All, filter, if◌then◌else◌, map, not}
use Rattle.std.proofs.lemmas.List.Elements.{All-append, All-filter, All-from_recursion, All-map, recursion_from_All}
use Rattle.std.specs.List.{AllByRecursion}
use Rattle.pico_board.specs.declared.Step.{Step}
use Rattle.pico_board.specs.declared.window.Window.{Window}
use Rattle.part_table.specs.declared.table.Table.{Table}
use Rattle.part_table.specs.Sound.{IsSoundTable}
use Rattle.part_table.specs.Windows.{partition_window}
use Rattle.part_table.proofs.TableLemmas.{sound_placed}
use Rattle.owner_data.specs.Owners.{data_parts}
use Rattle.owner_data.proofs.DataLemmas.{data_within}
use Rattle.block_codec.specs.Blocks.{BlockView}
use Rattle.block_loop.specs.declared.fault.LoopFault.{LoopFault}
use Rattle.load_map.specs.declared.load.Load.{Load}
use Rattle.load_map.specs.declared.load.MapFault.{MapFault}
use Rattle.slot_choice.specs.declared.choice.Choice.{Choice}
use Rattle.boot_rules.specs.Data.{data_of, is_second_member, owner_windows, started_part}
use Rattle.boot_rules.proofs.PlaceLemmas.{placed-inside}
use Rattle.boot_sweep.specs.Moving.{MoveView}
use Rattle.check_require.specs.declared.report.DataOwner.TheVariants.{End}
use Rattle.check_data.specs.Ends.{AreInside, AreWithin, IsWithin}
use Rattle.image_check.specs.declared.examining.Defined.{Defined}
use Rattle.image_check.specs.declared.why.Why.{Why}
use Rattle.image_check.specs.Addressing.{in_flash}
use Rattle.image_check.specs.Rules.{map_loads}
use Rattle.block_loop.specs.Loop.{loop_of}
use Rattle.check_data.specs.Loose.{is_loose, loose_by, loose_of, offsets_where}
use Rattle.check_data.specs.Windows.{former_window, is_listed, told_window, windows_by}

-- the window lies inside a flash of n bytes
abbrev Lies : ℕ → Window → Type 0
Lies n w = w.start + w.len ≤ n

parts-inside : (n : ℕ) → n % 4096 ≡ 0 → (t : Table) → IsSoundTable t (n / 4096) → (parts : List ℕ)
    → AllByRecursion (λ i. i < length t.parts.items) parts → AllByRecursion (Lies n) (map (partition_window t) parts)
parts-inside n whole t sound [] all = tt
parts-inside n whole t sound (i ∷ parts) all = (
  placed-inside n (partition_window t i) whole (sound_placed t (n / 4096) sound i all.0),
  parts-inside n whole t sound parts all.1,
)

owner-inside : (n : ℕ) → n % 4096 ≡ 0 → (t : Table) → IsSoundTable t (n / 4096) → (second : Bool) (owner : Option ℕ)
    → AllByRecursion (Lies n) (owner_windows t second owner)
owner-inside n whole t sound second None = tt
owner-inside n whole t sound second (Some owner) =
    parts-inside n whole t sound (data_parts t.parts.items owner second)
    (recursion_from_All (λ i. i < length t.parts.items) (data_parts t.parts.items owner second)
    (data_within t.parts.items owner second (data_parts t.parts.items owner second) refl))

-- the data of a start, by a table that is sound for the flash
pub data-inside : (n : ℕ) → n % 4096 ≡ 0 → (t : Table) → IsSoundTable t (n / 4096) → (choice : Choice)
    → All (Lies n) (data_of (Some t) choice)
data-inside n whole t sound choice =
    All-from_recursion (Lies n) (data_of (Some t) choice)
    (owner-inside n whole t sound (is_second_member choice.member) (started_part t choice))

pub none-inside : (n : ℕ) → (let ws : List Window = [] in All (Lies n) ws)
none-inside n = All-from_recursion (Lies n) [] tt

pub told-inside : (n : ℕ) (moves : List MoveView) (cs zs : List Window) → All (Lies n) cs → All (Lies n) zs
    → AreWithin n (windows_by moves cs zs)
told-inside n moves cs zs first last =
    All-append (IsWithin n) (map (former_window moves zs) cs)
    (map (told_window moves End) (filter (λ w. not (is_listed cs w)) zs))
    (All-map (IsWithin n) (former_window moves zs) cs first)
    (All-map (IsWithin n) (told_window moves End) (filter (λ w. not (is_listed cs w)) zs)
    (All-filter (λ w. not (is_listed cs w)) (Lies n) zs last))

-- offsets that pass lie below their end
pub offsets-below : (p : ℕ → Bool) (at n end : ℕ) → at + n ≤ end
    → AllByRecursion (λ x. x < end) (offsets_where p at n)
unfolding offsets_where
offsets-below p at zero end le = tt
offsets-below p at (suc n) end le = go (p at) (offsets-below p (at + 1) n end (omega (arith, le)))
  where
    go : (b : Bool) → AllByRecursion (λ x. x < end) (offsets_where p (at + 1) n)
        → AllByRecursion (λ x. x < end) (if b then at ∷ offsets_where p (at + 1) n else offsets_where p (at + 1) n)
    go true rest = (omega (arith, le), rest)
    go false rest = rest

by-inside : (flash : List ℕ) (steps : List Step) (w : Window) (n : ℕ) → w.start + w.len ≤ n → (o : Option ℕ)
    (loop : Result (List BlockView) LoopFault) (loads : Result (List Load) MapFault)
    → AllByRecursion (λ x. x < n) (loose_by flash steps w o loop loads)
by-inside flash steps w n le None loop loads = tt
by-inside flash steps w n le (Some item) (Err fault) loads = tt
by-inside flash steps w n le (Some item) (Ok loop) (Err fault) = tt
by-inside flash steps w n le (Some item) (Ok loop) (Ok loads) =
    offsets-below (is_loose flash steps w.start loop loads) w.start w.len n le

-- the loose bytes of a window inside the flash
pub loose-inside : (flash : List ℕ) (steps : List Step) (w : Window) (bytes : List ℕ) (n : ℕ) → w.start + w.len ≤ n
    → (r : Result Defined Why) → AreInside n (loose_of flash steps w bytes r)
loose-inside flash steps w bytes n le r = All-from_recursion (λ x. x < n) (loose_of flash steps w bytes r) (go r)
  where
    go : (q : Result Defined Why) → AllByRecursion (λ x. x < n) (loose_of flash steps w bytes q)
    go (Err why) = tt
    go (Ok image) =
        by-inside flash steps w n le image.def.map_item (loop_of bytes) (map_loads in_flash
        (length bytes) image.block image.def)
