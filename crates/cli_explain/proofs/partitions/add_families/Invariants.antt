use Rattle.std.proofs.Common.{◌≡◌, drop, string_bytes}
use Rattle.cli_explain.specs.Partitions.{with_families}
use Rattle.cli_explain.proofs.partitions.add_families.Given as goal

abbrev pub invariant-loop-family : goal.invariant-loop-family
invariant-loop-family l = with_families (string_bytes l.text) (drop l.family-index l.families)
    ≡ with_families (string_bytes l.fn.text) l.families
