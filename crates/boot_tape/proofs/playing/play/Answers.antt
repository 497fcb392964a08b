use Rattle.std.proofs.Common.{◌∙◌, ◌≡◌, ◌-◌, List, ap, length, drop, take, arith}
use Rattle.std.proofs.lemmas.List.{take_rest}
use Rattle.pico_board.specs.declared.Step.{Step}
use Rattle.boot_script.specs.Events.{event_from}
use Rattle.boot_machine.specs.Moves.{effect}
use Rattle.boot_sweep.specs.declared.moves.Move.{Move}
use Rattle.boot_tape.specs.declared.trace.Tape.{Tape}
use Rattle.boot_tape.specs.CutMoves.{cut_moves}
use Rattle.boot_tape.specs.Moving.{moves_from}
use Rattle.boot_tape.specs.Playing.{told_of}
use Rattle.boot_tape.proofs.PlayLemmas.{done-by, former-within, fresh-in, long-as, play-on}
use Rattle.boot_tape.proofs.playing.play.Goals as goal

pub slice_bounds-take_steps-count : goal.slice_bounds-take_steps-count
slice_bounds-take_steps-count c =
    let play = c.requires.play.3 in
    let done = done-by c.args.machine.now c.step.new.machine c.args.tape.now play.mid (event_from c.args.event.now)
    c.in_ok-came.came
    c.requires.uncut play.followed c.requires.short c.in_ok-came.ensures in
    let within = former-within c.args.machine.now c.step.new.machine play.mid
    (effect play.mid (event_from c.args.event.now))
    c.args.tape.now play.followed c.requires.short done in
    let long = ap (λ (xs : List Step). length xs)
    (c.deref.ensures.value ∙ ap (λ t. t.steps.items) c.board-2.ensures) in
    let former : length c.as_slice-former.result.now ≡ length c.args.machine.now.board.steps.items =
    ap (λ (xs : List Step). length xs) c.as_slice-former.ensures.value
    ∙ ap (λ t. length t.steps.items) c.board.ensures in omega (arith, within, long, former)

pub slice_bounds-take_steps-start : goal.slice_bounds-take_steps-start
slice_bounds-take_steps-start c =
    let play = c.requires.play.3 in
    let done = done-by c.args.machine.now c.step.new.machine c.args.tape.now play.mid (event_from c.args.event.now)
    c.in_ok-came.came
    c.requires.uncut play.followed c.requires.short c.in_ok-came.ensures in
    let within = former-within c.args.machine.now c.step.new.machine play.mid
    (effect play.mid (event_from c.args.event.now))
    c.args.tape.now play.followed c.requires.short done in
    let long = ap (λ (xs : List Step). length xs)
    (c.deref.ensures.value ∙ ap (λ t. t.steps.items) c.board-2.ensures) in
    let former : length c.as_slice-former.result.now ≡ length c.args.machine.now.board.steps.items =
    ap (λ (xs : List Step). length xs) c.as_slice-former.ensures.value
    ∙ ap (λ t. length t.steps.items) c.board.ensures in omega (arith, within, long, former)

pub returns-clause-ready : goal.returns-clause-ready
returns-clause-ready c = λ m all left play is.
    let n = length m.content.flash in
    let e = effect play.mid (event_from c.args.event.now) in
    let done = done-by c.args.machine.now c.step.new.machine c.args.tape.now play.mid (event_from c.args.event.now)
    c.in_ok-came.came
    c.requires.uncut play.followed c.requires.short c.in_ok-came.ensures in
    c.in_ok-note.ensures.ready n (c.in_ok-whole.ensures.ready n is
    (fresh-in c.args.machine.now c.step.new.machine play.mid e n (length c.as_slice-former.result.now)
    c.deref.result.now done
    (c.deref.ensures.value ∙ ap (λ t. t.steps.items) c.board-2.ensures)
    (long-as c.args.tape.now m play.mid all left c.args.number play.to)))

pub returns-clause-played : goal.returns-clause-played
returns-clause-played c =
    let former = length c.as_slice-former.result.now in
    let read = c.deref.result.now in
    let fresh : List Step = take (length read - former) (drop former read) in λ m all left play.
    play-on c.args.machine.now c.step.new.machine c.args.tape.now c.take_steps.new.self c.note.new.self m all left
    (event_from c.args.event.now) c.args.number c.in_ok-whole.whole fresh c.in_ok-came.came
    (length c.as_slice-moved.result.now) play c.requires.uncut c.in_ok-came.ensures
    (take_rest read former ∙ (ap (λ k. drop k read) (ap (λ (xs : List Step). length xs) c.as_slice-former.ensures.value
    ∙ ap (λ t. length t.steps.items) c.board.ensures)
    ∙ ap (drop (length c.args.machine.now.board.steps.items))
    (c.deref.ensures.value ∙ ap (λ t. t.steps.items) c.board-2.ensures))) c.in_ok-whole.ensures.taken c.requires.short
    (ap (λ (xs : List Move). length xs) c.as_slice-moved.ensures.value) c.in_ok-note.ensures.same
    c.in_ok-note.ensures.noted

pub returns-clause-grown : goal.returns-clause-grown
returns-clause-grown c =
    let fresh = cut_moves (told_of c.args.tape.now) (take (length c.deref.result.now - length c.as_slice-former.result.now)
    (drop (length c.as_slice-former.result.now) c.deref.result.now)) in
    (fresh.moves, ap (λ (t : Tape). moves_from t.moves.items) c.in_ok-note.ensures.same ∙ c.in_ok-whole.ensures.taken.moves)
