-- The order of versions, and the better member of a unit.
use Rattle.std.specs.Prelude.{Bool, ◌==◌, ◌&&◌, ◌||◌, nat_lt, if◌then◌else◌}
use Rattle.std.specs.Prelude.{Option, None, Some}
use Rattle.block_codec.specs.declared.versions.Version.{Version}
use Rattle.slot_choice.specs.declared.unit.Member.{Member}
use Rattle.slot_choice.specs.declared.unit.Member.TheVariants.{A, B}

-- versions are ordered by major, then minor
abbrev pub is_below : Version → Version → Bool
is_below v w = nat_lt v.major w.major || (v.major == w.major && nat_lt v.minor w.minor)

-- of two versions the better: the first is A's, the second is B's. The greater is better, and A's
-- where they are equal
abbrev pub better_of : Version → Version → Member
better_of v w = if is_below v w then B else A

-- one of two versions is below the other
abbrev pub are_different : Version → Version → Bool
are_different v w = is_below v w || is_below w v

-- of the versions of a unit's two members, the member with the better one; a member without a valid
-- image has no version
abbrev pub better : Option Version → Option Version → Option Member
better None None = None
better None (Some w) = Some B
better (Some v) None = Some A
better (Some v) (Some w) = Some (better_of v w)
