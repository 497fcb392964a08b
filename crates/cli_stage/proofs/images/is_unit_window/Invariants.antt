use Rattle.std.proofs.Common.{◌≡◌, drop}
use Rattle.cli_stage.specs.Images.{is_unit_window}
use Rattle.cli_stage.proofs.images.is_unit_window.Given as goal

-- the rest decides
abbrev pub invariant-loop-unit : goal.invariant-loop-unit
invariant-loop-unit l = is_unit_window l.window (drop l.unit-index l.units) ≡ is_unit_window l.window l.units
