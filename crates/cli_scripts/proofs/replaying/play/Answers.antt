use Rattle.std.proofs.Common.{List, length, ap, sym, ◌∙◌, subst, arith}
use Rattle.std.specs.Prelude.{string_bytes}
use Rattle.boot_script.specs.Events.{EventView, event_from}
use Rattle.boot_script.specs.Scripts.{script_events}
use Rattle.boot_script.proofs.JudgingLemmas.{script-formed}
use Rattle.boot_script.proofs.WalkLemmas.{few-records}
use Rattle.cli_scripts.proofs.ReplayLemmas.{PlaysOn, plays-first, plays-more, plays-end}
use Rattle.cli_scripts.proofs.replaying.play.Goals as goal

pub loop-event-init : goal.loop-event-init
loop-event-init c =
    let bytes = c.args.script.now.bytes.now in
    let all = sym (c.into_iter-event-iterator.ensures.into_iter_gives ∙ c.events-event-items.ensures) in
    let few = few-records bytes (script-formed bytes c.args.script.now.whole) in
    let size = ap (λ (es : List EventView). length es) all in record {
      few = omega (arith, few, size);
      plays = λ m stands.
          subst (λ left. PlaysOn c.args.machine.now m (script_events bytes) left 0 (string_bytes c.new-text.result)) all
          (subst (PlaysOn c.args.machine.now m (script_events bytes) (script_events bytes) 0)
          (sym c.new-text.ensures.bytes) (plays-first c.args.machine.now m (script_events bytes) stands));
    }

pub overflow_add-number : goal.overflow_add-number
overflow_add-number c = let few = c.loop-event.invariant.few in omega (arith, few)

pub step-requires : goal.step-requires
step-requires c = record { writable = c.in-Some.ensures.steps.1 }

pub loop-event-preserved : goal.loop-event-preserved
loop-event-preserved c =
    let first = c.in-Some.ensures.steps.0 in
    let size = ap (λ (es : List EventView). length es) first in
    let few = c.loop-event.invariant.few in record {
      few = omega (arith, few, size);
      plays = λ m stands. plays-more c.loop-event.machine c.step.new.machine m
          (script_events c.args.script.now.bytes.now) c.loop-event.event-iterator c.next.new.self
          (event_from c.in-Some.event) c.loop-event.number (string_bytes c.loop-event.text) c.step.new.line.bytes
          (string_bytes c.push_event.new.text) first c.step.ensures c.in_ok-push_event.ensures
          (c.loop-event.invariant.plays m stands);
    }

pub returns : goal.returns
returns c = λ m stands.
    let p = plays-end c.loop-event.machine m (script_events c.args.script.now.bytes.now) c.loop-event.event-iterator
    c.loop-event.number (string_bytes c.loop-event.text) c.in-None.ensures.steps.0
    (c.loop-event.invariant.plays m stands) in (p.stands, p.lines)
