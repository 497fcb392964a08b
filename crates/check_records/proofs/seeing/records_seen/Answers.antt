use Rattle.std.proofs.Common.{◌+◌, List, length, drop, ap, sym, ◌∙◌, arith}
use Rattle.boot_script.specs.Events.{EventView, event_from}
use Rattle.boot_script.specs.Scripts.{script_events}
use Rattle.boot_script.proofs.JudgingLemmas.{script-formed}
use Rattle.boot_script.proofs.WalkLemmas.{few-records}
use Rattle.check_records.specs.Noting.{count_in}
use Rattle.check_records.specs.Seeing.{came_in}
use Rattle.check_records.proofs.NotedLemmas.{note-gone, note-here, noted-end, noted-first, noted-more, noted-short}
use Rattle.check_records.proofs.RefusalLemmas.{count-more}
use Rattle.check_records.proofs.seeing.records_seen.Goals as goal

pub loop-event-init : goal.loop-event-init
loop-event-init c =
    let bytes = c.args.script.now.bytes.now in
    let all = sym (c.into_iter-event-iterator.ensures.into_iter_gives ∙ c.events-event-items.ensures) in
    let few = few-records bytes (script-formed bytes c.args.script.now.whole) in
    let size = ap (λ (es : List EventView). length es) all in
    let none = ap count_in c.begin-refusals.ensures.found in record {
      few = omega (arith, few, size);
      counted = omega (arith, none);
      noted = noted-first c.begin-refusals.result c.begin-downloads.result _ c.args.notes.now (script_events bytes) (sym all)
          c.begin-refusals.ensures.found c.begin-refusals.ensures.lost c.begin-downloads.ensures.current
          c.begin-downloads.ensures.begun c.begin-downloads.ensures.waiting;
    }

pub overflow_add-number : goal.overflow_add-number
overflow_add-number c = let few = c.loop-event.invariant.few in omega (arith, few)

pub note-requires-in-loop-event : goal.note-requires-in-loop-event
note-requires-in-loop-event c =
    let few = c.loop-event.invariant.few in
    let counted = c.loop-event.invariant.counted in record { few = omega (arith, few, counted) }

pub loop-event-preserved : goal.loop-event-preserved
loop-event-preserved c =
    let first = c.in-Some.ensures.steps.0 in
    let size = ap (λ (es : List EventView). length es) first in
    let few = c.loop-event.invariant.few in
    let note = c.in-Some-get.note in record {
      few = omega (arith, few, size);
      counted = count-more c.loop-event.refusals.found c.note-in-loop-event.new.self.found c.loop-event.refusals.lost c.loop-event.number
          (came_in note.now) c.note-in-loop-event.ensures.found c.loop-event.invariant.counted;
      noted = noted-more c.loop-event.refusals c.note-in-loop-event.new.self c.loop-event.downloads c.note.new.self c.loop-event.number
          c.loop-event.event-iterator (drop c.loop-event.number c.args.notes.now) (script_events c.args.script.now.bytes.now)
          c.args.notes.now (event_from c.in-Some.event) c.next.new.self note.now (drop (c.loop-event.number + 1) c.args.notes.now)
          c.share_seen-share.result first
          (note-here c.args.notes.now c.loop-event.number c.get.result note c.get.ensures.lookup.3 c.in-Some-get.is)
          c.note-in-loop-event.ensures c.share_seen-share.ensures c.in_ok-note.ensures c.loop-event.invariant.noted;
    }

pub returns-in_default : goal.returns-in_default
returns-in_default c =
    c.found_of.ensures
    ∙ noted-short c.loop-event.refusals c.loop-event.downloads c.loop-event.number c.loop-event.event-iterator
    (drop c.loop-event.number c.args.notes.now) (script_events c.args.script.now.bytes.now) c.args.notes.now
    (note-gone c.args.notes.now c.loop-event.number c.get.result c.get.ensures.lookup.3 c.in_default.is)
    c.loop-event.invariant.noted

pub returns : goal.returns
returns c =
    c.found_of-2.ensures
    ∙ noted-end c.loop-event.refusals c.loop-event.downloads c.loop-event.number c.loop-event.event-iterator
    (drop c.loop-event.number c.args.notes.now) (script_events c.args.script.now.bytes.now) c.args.notes.now
    c.in-None.ensures.steps.0 c.loop-event.invariant.noted
