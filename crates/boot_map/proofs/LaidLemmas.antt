-- Where the slots and partitions of a flash stand.
use Rattle.std.proofs.Common.{◌≡◌, ◌≢◌, ◌⊎◌, inl, inr, ℕ, zero, suc, ◌+◌, ◌-◌, ◌*◌, ◌/◌, ◌%◌, ◌<◌, ◌≤◌, List, length, Option, Some, None, refl, arith}
use Rattle.pico_board.specs.declared.window.Window.{Window}
use Rattle.pico_board.specs.Content.{AreApart}
use Rattle.part_table.specs.declared.partition.Partition.{Partition}
use Rattle.part_table.specs.declared.table.Table.{Table}
use Rattle.part_table.specs.Partitions.{no_partition, part_at}
use Rattle.part_table.specs.Windows.{IsPlacedWindow, part_window}
use Rattle.part_table.proofs.TableLemmas.{partitions_apart, sound_placed}
use Rattle.boot_map.specs.Windows.{parts_of}
use Rattle.boot_map.specs.WindowRules.{WindowHasSector, IsMappable}

-- slots of z bytes, and the partitions behind them, in a flash of so many sectors
pub record AreLaid (parts : List Partition) (z sectors : ℕ) : Type 0 where
  pub slots : z % 4096 ≡ 0
  pub least : 4096 ≤ z
  pub fits : 2 * z ≤ 4096 * sectors
  pub placed : (i : ℕ) → i < length parts → IsPlacedWindow (part_window (part_at parts i)) sectors 0
  pub behind : (i : ℕ) → i < length parts → 2 * z ≤ (part_window (part_at parts i)).start
  pub apart : (i j : ℕ) → i < length parts → j < length parts → i ≢ j
      → AreApart (part_window (part_at parts i)) (part_window (part_at parts j))

pub sectors-of : (n : ℕ) → n % 4096 ≡ 0 → 4096 * (n / 4096) ≡ n
sectors-of n whole = omega arith

pub laid : (t : Option Table) (n z : ℕ) → IsMappable t n z → AreLaid (parts_of t) z (n / 4096)
laid None n z able =
    let long = sectors-of n able.whole in
    let fits = able.fits in
    record {
      slots = able.slots;
      least = able.least;
      fits = omega (arith, long, fits);
      placed = λ i lt. absurd (omega (arith, lt));
      behind = λ i lt. absurd (omega (arith, lt));
      apart = λ i j lt. absurd (omega (arith, lt));
    }
laid (Some t) n z able =
    let long = sectors-of n able.whole in
    let fits = able.fits in
    record {
      slots = able.slots;
      least = able.least;
      fits = omega (arith, long, fits);
      placed = sound_placed t (n / 4096) able.sound;
      behind = λ i lt. able.behind i no_partition lt;
      apart = partitions_apart t (n / 4096) able.sound;
    }

-- a window of whole sectors has its first sector and its last
pub first-in : (start len : ℕ) → start % 4096 ≡ 0 → 4096 ≤ len
    → (start ≤ 4096 * (start / 4096)) × (4096 * (start / 4096) < start + len)
first-in start len whole some = (omega arith, omega arith)

pub last-in : (start len : ℕ) → start % 4096 ≡ 0 → len % 4096 ≡ 0 → 4096 ≤ len
    → (start ≤ 4096 * ((start + len) / 4096 - 1)) × (4096 * ((start + len) / 4096 - 1) < start + len)
last-in start len whole more some = (omega arith, omega arith)

pub end-whole : (start len : ℕ) → start % 4096 ≡ 0 → len % 4096 ≡ 0 → (start + len) % 4096 ≡ 0
end-whole start len whole more = omega arith

-- the windows of the slots
pub slot-start : (z number : ℕ) → number < 2
    → ((number ≡ 0) × (number * z ≡ 0)) ⊎ ((number ≡ 1) × (number * z ≡ z))
slot-start z zero lt = inl (refl, omega arith)
slot-start z (suc zero) lt = inr (refl, omega arith)
slot-start z (suc (suc k)) lt = absurd (omega arith)

-- a window without a sector in common with any that lies apart
pub no-common : (v w : Window) (s : ℕ) → AreApart v w → WindowHasSector v s → WindowHasSector w s → ⊥
no-common v w s (inl before) one two =
    let a = one.1 in let b = two.0 in omega arith
no-common v w s (inr behind) one two =
    let a = one.0 in let b = two.1 in omega arith

pub same-window : (a b c d : ℕ) → a ≡ c → b ≡ d
    → (let v : Window = record { start = a; len = b } in let w : Window = record { start = c; len = d } in v ≡ w)
same-window a b c d one two = cc
