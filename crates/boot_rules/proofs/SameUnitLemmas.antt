-- Contents of the same table slots have the same table, and the same boot units.
use Rattle.std.proofs.Common.{◌≡◌, ℕ, ◌*◌, ◌/◌, length, Option, refl, sym, ap, ◌∙◌, option_map}
use Rattle.pico_board.specs.declared.boot.Cpu.{Cpu}
use Rattle.pico_board.specs.Content.{Content, window_bytes}
use Rattle.otp_roll.specs.Flags.{slot_size}
use Rattle.slot_choice.specs.Units.{units}
use Rattle.boot_rules.specs.declared.tables.Found.{Found}
use Rattle.boot_rules.specs.Choosing.{boot_units_in}
use Rattle.boot_rules.specs.Tables.{found_of, slot_window, table_in}
use Rattle.boot_rules.proofs.TableLemmas.{slot_table}

-- the table of a content by what it reads
abbrev table_with : Content → ℕ → ℕ → Option Found
table_with e n z =
    found_of (slot_table (n / 4096) (2 * z / 4096) (window_bytes e (slot_window z 0)))
    (slot_table (n / 4096) (2 * z / 4096) (window_bytes e (slot_window z 1)))

table-is : (e : Content) → table_in e ≡ table_with e (length e.flash) (slot_size e.otp (length e.flash))
unfolding table_in
table-is e = refl

pub table-same : (c d : Content) → length d.flash ≡ length c.flash
    → slot_size d.otp (length c.flash) ≡ slot_size c.otp (length c.flash)
    → window_bytes d (slot_window (slot_size c.otp (length c.flash)) 0)
    ≡ window_bytes c (slot_window (slot_size c.otp (length c.flash)) 0)
    → window_bytes d (slot_window (slot_size c.otp (length c.flash)) 1)
    ≡ window_bytes c (slot_window (slot_size c.otp (length c.flash)) 1)
    → table_in d ≡ table_in c
table-same c d long slot one two =
    let n = length c.flash in
    let z = slot_size c.otp (length c.flash) in
    table-is d ∙ ap (λ k. table_with d k (slot_size d.otp k)) long ∙ ap (table_with d n) slot
    ∙ ap (λ x. found_of (slot_table (n / 4096) (2 * z / 4096) x)
    (slot_table (n / 4096) (2 * z / 4096) (window_bytes d (slot_window z 1)))) one
    ∙ ap (λ y. found_of (slot_table (n / 4096) (2 * z / 4096) (window_bytes c (slot_window z 0)))
    (slot_table (n / 4096) (2 * z / 4096) y)) two
    ∙ sym (table-is c)

-- the boot units of a content by the same
pub units-same : (c d : Content) (cpu : Cpu) → table_in d ≡ table_in c → length d.flash ≡ length c.flash
    → slot_size d.otp (length c.flash) ≡ slot_size c.otp (length c.flash)
    → boot_units_in d cpu ≡ boot_units_in c cpu
units-same c d cpu table long slot =
    ap (λ o. units (option_map (λ (found : Found). found.table) o) (length d.flash)
    (slot_size d.otp (length d.flash)) cpu) table
    ∙ ap (λ n. units (option_map (λ (found : Found). found.table) (table_in c)) n (slot_size d.otp n) cpu) long
    ∙ ap (λ z. units (option_map (λ (found : Found). found.table) (table_in c)) (length c.flash) z cpu) slot
