use Rattle.std.proofs.Common.{◌≡◌}
use Rattle.serde_json.specs.View.{members_view}
use Rattle.check_require.specs.Members.{has_unknown}
use Rattle.check_require.proofs.members.has_unknown.Given as goal

abbrev pub invariant-loop-name : goal.invariant-loop-name
invariant-loop-name l =
    has_unknown (members_view l.members.entries) ≡ has_unknown (members_view l.name-iterator)
