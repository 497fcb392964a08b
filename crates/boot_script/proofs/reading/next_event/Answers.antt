use Rattle.std.proofs.Common.{◌≡◌, ℕ, ◌+◌, ◌-◌, ◌≤◌, List, length, take, drop, arith, sym, ap, ◌∙◌}
use Rattle.std.specs.Prelude.{Result, Ok}
use Rattle.std.proofs.lemmas.List.{take_rest, length-drop}
use Rattle.boot_script.specs.declared.event.ScriptFault.{ScriptFault}
use Rattle.boot_script.specs.Events.{EventView, event_from}
use Rattle.boot_script.specs.Written.{written_event}
use Rattle.boot_script.specs.Reading.{event_in}
use Rattle.boot_script.proofs.NumberLemmas.{AreBytes, bytes-drop}
use Rattle.boot_script.proofs.SpelledLemmas.{IsSpelled, spelled-inside, event-spelled, spelled-writable}
use Rattle.boot_script.proofs.reading.next_event.Goals as goal

-- the event that was read stands at the offset
stands : (bytes : List ℕ) (at : ℕ) (e : EventView) → AreBytes bytes
    → ◌≡◌ {A = Result EventView ScriptFault} (Ok e) (event_in at (take (length bytes - at) (drop at bytes)))
    → IsSpelled (drop at bytes) e
stands bytes at e are read =
    event-spelled at (drop at bytes) e (bytes-drop at bytes are)
    (ap (λ bs. event_in at bs) (sym (take_rest bytes at)) ∙ sym read)

ends : (bytes : List ℕ) (at n : ℕ) (e : EventView) → at ≤ length bytes → n ≡ length (written_event e)
    → IsSpelled (drop at bytes) e → at + n ≤ length bytes
ends bytes at n e inside size spelled =
    omega (arith, size, spelled-inside (drop at bytes) e spelled, length-drop at bytes)

pub overflow_cast-result : goal.overflow_cast-result
overflow_cast-result c =
    let spelled = stands c.args.bytes.now c.args.at (event_from c.in_ok-event.event)
    (λ i. omega (arith, c.type_inv.bytes i)) c.in_ok-event.ensures.exact in
    omega (
      arith,
      ends c.args.bytes.now c.args.at c.size.result _ c.requires.inside c.size.ensures spelled,
      c.requires.few,
    )

pub overflow_add-result : goal.overflow_add-result
overflow_add-result c =
    let spelled = stands c.args.bytes.now c.args.at (event_from c.in_ok-event.event)
    (λ i. omega (arith, c.type_inv.bytes i)) c.in_ok-event.ensures.exact in
    omega (
      arith,
      ends c.args.bytes.now c.args.at c.size.result _ c.requires.inside c.size.ensures spelled,
      c.requires.few,
    )

pub returns-clause-inside : goal.returns-clause-inside
returns-clause-inside c =
    let spelled = stands c.args.bytes.now c.args.at (event_from c.in_ok-event.event)
    (λ i. omega (arith, c.type_inv.bytes i)) c.in_ok-event.ensures.exact in
    ends c.args.bytes.now c.args.at c.size.result _ c.requires.inside c.size.ensures spelled

pub returns-clause-writable : goal.returns-clause-writable
returns-clause-writable c = λ few.
    let spelled = stands c.args.bytes.now c.args.at (event_from c.in_ok-event.event)
    (λ i. omega (arith, c.type_inv.bytes i)) c.in_ok-event.ensures.exact in
    spelled-writable (drop c.args.at c.args.bytes.now) _
    (omega (arith, few, length-drop c.args.at c.args.bytes.now)) spelled
