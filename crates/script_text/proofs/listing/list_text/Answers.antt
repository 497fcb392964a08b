use Rattle.std.proofs.Common.{sym, ◌∙◌, arith, subst}
use Rattle.std.specs.Prelude.{string_bytes}
use Rattle.boot_script.specs.Events.{event_from}
use Rattle.boot_script.specs.Scripts.{script_events}
use Rattle.boot_script.proofs.JudgingLemmas.{script-formed}
use Rattle.boot_script.proofs.WalkLemmas.{few-records}
use Rattle.script_text.proofs.ListLemmas.{IsListed, listed-first, listed-more, listed-end}
use Rattle.script_text.proofs.listing.list_text.Goals as goal

pub loop-event-init : goal.loop-event-init
loop-event-init c =
    let bytes = c.args.script.now.bytes.now in
    subst (λ left. IsListed (script_events bytes) left 0 1 (string_bytes c.new-text.result))
    (sym (c.into_iter-event-iterator.ensures.into_iter_gives ∙ c.events-event-items.ensures))
    (listed-first (script_events bytes) (string_bytes c.new-text.result)
    (few-records bytes (script-formed bytes c.args.script.now.whole)) c.new-text.ensures.bytes)

pub overflow_add-number : goal.overflow_add-number
overflow_add-number c = let few = c.loop-event.invariant.few in omega (arith, few)

pub loop-event-preserved : goal.loop-event-preserved
loop-event-preserved c =
    listed-more (script_events c.args.script.now.bytes.now) c.loop-event.event-iterator c.next.new.self
    (event_from c.in-Some.event) c.loop-event.number c.loop-event.next c.token_behind-next.result
    (string_bytes c.loop-event.text)
    (string_bytes c.push_event.new.text) c.in-Some.ensures.steps.0 c.in_ok-push_event.ensures
    c.token_behind-next.ensures c.loop-event.invariant

pub returns : goal.returns
returns c =
    listed-end (script_events c.args.script.now.bytes.now) c.loop-event.event-iterator c.loop-event.number
    c.loop-event.next (string_bytes c.loop-event.text) (string_bytes c.push_str.new.self)
    c.in-None.ensures.steps.0 c.in_ok-push_str.ensures.bytes c.loop-event.invariant
