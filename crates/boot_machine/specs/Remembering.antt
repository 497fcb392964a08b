-- What a board's digests and the lookup of its table remember of a content. This project's own.
use Rattle.std.specs.Prelude.{◌≡◌, ⊤, Bool, if◌then◌else◌, Option, None, option_map}
use Rattle.pico_board.specs.Content.{Content}
use Rattle.part_table.specs.declared.table.Table.{Table}
use Rattle.image_check.specs.declared.digests.Digests.{Digests}
use Rattle.image_check.specs.Digests.{Knows}
use Rattle.boot_rules.specs.declared.tables.Found.{Found}
use Rattle.boot_rules.specs.Tables.{table_in}
use Rattle.boot_machine.specs.declared.lookup.Lookup.{Lookup}
use Rattle.boot_machine.specs.declared.lookup.Lookup.TheVariants.{Due, Done}

-- what was found is the table of the content, where it was looked up
abbrev pub IsLookup : Content → Lookup → Type 0
IsLookup c Due = ⊤
IsLookup c (Done found) = found ≡ table_in c

-- the table that was found
abbrev pub looked_up : Lookup → Option Table
looked_up Due = None
looked_up (Done found) = option_map (λ (f : Found). f.table) found

-- a lookup is kept over a change that leaves both table slots
abbrev pub kept_lookup : Bool → Lookup → Lookup
kept_lookup leaves lookup = if leaves then lookup else Due

-- all that is remembered is true of the content
pub record Remembers (c : Content) (d : Digests) (l : Lookup) : Type 0 where
  pub digests : Knows d c
  pub table : IsLookup c l
