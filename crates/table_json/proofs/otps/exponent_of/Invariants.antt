use Rattle.std.proofs.Common.{◌≡◌, ◌-◌}
use Rattle.std.specs.List.{find, range_with_len}
use Rattle.table_json.specs.declared.otps.TheConstants.{SLOT_EXPONENTS}
use Rattle.table_json.specs.Otps.{exponent_of, is_size_of}
use Rattle.table_json.proofs.otps.exponent_of.Given as goal

abbrev pub invariant-loop-exponent : goal.invariant-loop-exponent
invariant-loop-exponent l =
    exponent_of l.size
    ≡ find (is_size_of l.size) (range_with_len l.exponent (SLOT_EXPONENTS - l.exponent))
