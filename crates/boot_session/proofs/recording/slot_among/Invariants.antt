use Rattle.std.proofs.Common.{◌≡◌, drop}
use Rattle.boot_session.specs.Slots.{slot_among}
use Rattle.boot_session.proofs.recording.slot_among.Given as goal

-- the slot of the rest is that of all
abbrev pub invariant-loop-unit : goal.invariant-loop-unit
invariant-loop-unit l = slot_among (drop l.unit-index l.units) l.step ≡ slot_among l.units l.step
