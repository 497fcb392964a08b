use Rattle.std.proofs.Common.{◌≡◌, drop}
use Rattle.check_images.specs.Losing.{member_at}
use Rattle.check_images.proofs.losing.member_at.Given as goal

-- the rest decides
abbrev pub invariant-loop-member : goal.invariant-loop-member
invariant-loop-member l = member_at (drop l.member-index l.members) l.start ≡ member_at l.members l.start
