use Rattle.std.specs.Prelude.{string_bytes}
use Rattle.boot_script.specs.Scripts.{script_events}
use Rattle.script_text.proofs.ListLemmas.{IsListed}
use Rattle.script_text.proofs.listing.list_text.Given as goal

abbrev pub invariant-loop-event : goal.invariant-loop-event
invariant-loop-event l =
    IsListed (script_events l.script.bytes.now) l.event-iterator l.number l.next (string_bytes l.text)
