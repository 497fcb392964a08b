use Rattle.std.proofs.Common.{◌∙◌, List, ap, length, subst, sym, arith}
use Rattle.pico_board.specs.MemBoard.{state_of}
use Rattle.boot_script.specs.Events.{EventView}
use Rattle.boot_script.specs.Scripts.{script_events}
use Rattle.boot_script.proofs.JudgingLemmas.{script-formed}
use Rattle.boot_script.proofs.WalkLemmas.{few-records}
use Rattle.boot_machine.specs.Plays.{powerless}
use Rattle.boot_tape.specs.Playing.{IsPlay}
use Rattle.boot_tape.proofs.PlayLemmas.{begins-in, play-first, traced-end}
use Rattle.boot_tape.proofs.playing.trace_on.Goals as goal

pub loop-event-init : goal.loop-event-init
loop-event-init c =
    let content = (state_of c.args.board.now).content in
    let events = script_events c.args.script.now.bytes.now in
    let tape = c.begin-tape.result in
    let begun = c.begin-tape.ensures in
    let none = begun.done in
    let bytes = c.args.script.now.bytes.now in
    let all = sym (c.into_iter-event-iterator.ensures.into_iter_gives ∙ c.events-event-items.ensures) in
    let few = few-records bytes (script-formed bytes c.args.script.now.whole) in
    let size = ap (λ (es : List EventView). length es) all in record {
      few = omega (arith, few, size);
      ready = begins-in (length content.flash) tape begun.none begun.unarmed;
      short = omega (arith, none);
      kept = tt;
      play = subst (λ es. IsPlay c.in_ok-machine_of.field-0 tape (powerless content c.args.cpu) events es 0) all
          (play-first c.in_ok-machine_of.field-0 tape content c.args.cpu events
          begun.none begun.numbers begun.done begun.unarmed begun.notes c.in_ok-machine_of.ensures.stands
          c.in_ok-machine_of.ensures.none);
    }

pub overflow_add-number : goal.overflow_add-number
overflow_add-number c = let few = c.loop-event.invariant.few in omega (arith, few)

pub follow-requires-clause-writable : goal.follow-requires-clause-writable
follow-requires-clause-writable c = c.in-Some.ensures.steps.1

pub loop-event-preserved : goal.loop-event-preserved
loop-event-preserved c =
    let events = script_events c.args.script.now.bytes.now in
    let m = powerless (state_of c.args.board.now).content c.args.cpu in
    let size = ap (λ (es : List EventView). length es) c.in-Some.ensures.steps.0 in
    let few = c.loop-event.invariant.few in record {
      few = omega (arith, few, size);
      ready = c.in_ok-player.ensures.ready;
      kept = c.in_ok-player.ensures.kept;
      short = c.if-tape-gt-STEP_LIMIT.false;
      play = (c.in_ok-player.ensures.played events c.next.new.self
          (subst (λ es. IsPlay c.loop-event.player.machine c.loop-event.tape m events es c.loop-event.number)
          c.in-Some.ensures.steps.0
          c.loop-event.invariant.play)).1 c.if-tape-gt-STEP_LIMIT.false;
    }

pub returns-then-tape-gt-STEP_LIMIT : goal.returns-then-tape-gt-STEP_LIMIT
returns-then-tape-gt-STEP_LIMIT c =
    let events = script_events c.args.script.now.bytes.now in
    let m = powerless (state_of c.args.board.now).content c.args.cpu in
    (c.in_ok-player.ensures.played events c.next.new.self
    (subst (λ es. IsPlay c.loop-event.player.machine c.loop-event.tape m events es c.loop-event.number)
    c.in-Some.ensures.steps.0
    c.loop-event.invariant.play)).0 c.if-tape-gt-STEP_LIMIT.true

pub returns : goal.returns
returns c =
    let content = (state_of c.args.board.now).content in
    let events = script_events c.args.script.now.bytes.now in
    let ended = c.into_trace.ensures in
    traced-end c.loop-event.player.machine c.loop-event.tape c.board_of.result c.into_trace.result content c.args.cpu events
    c.loop-event.event-iterator c.loop-event.number c.in-None.ensures.steps.0 c.loop-event.invariant.ready
    c.loop-event.invariant.short c.loop-event.invariant.play c.board_of.ensures
    (record { board_ = ended.board; moves = ended.moves; numbers = ended.numbers; notes = ended.notes })
