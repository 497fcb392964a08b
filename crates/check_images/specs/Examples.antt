-- Worked examples of tables.
use Rattle.std.specs.Prelude.{ℕ, false, []}
use Rattle.boot_rules.specs.declared.tables.Found.{Found}

-- a table without partitions, with this unpartitioned word, in this slot
abbrev pub found_at : ℕ → ℕ → Found
found_at slot word = record {
  slot = slot;
  table = record {
    version = record { major = 0; minor = 0 };
    singleton = false;
    unpartitioned = word;
    parts = record { items = [] };
  };
}
