use Rattle.std.proofs.Common.{◌≡◌, take}
use Rattle.std.specs.List.{flat_map}
use Rattle.check_images.specs.Members.{unit_windows}
use Rattle.check_images.proofs.members.members_in.Given as goal

-- the windows so far are those of the units so far
abbrev pub invariant-loop-unit : goal.invariant-loop-unit
invariant-loop-unit l = l.windows.items ≡ flat_map unit_windows (take l.unit-index l.unit-items)
