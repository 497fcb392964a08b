use Rattle.std.proofs.Common.{◌+◌, ◌∙◌, ap, arith, length, subst, sym}
use Rattle.pico_board.specs.MemBoard.{state_of}
use Rattle.boot_script.specs.Events.{event_from}
use Rattle.boot_machine.specs.Plays.{powerless}
use Rattle.boot_tape.specs.declared.trace.Tape.{Tape}
use Rattle.boot_tape.specs.Checkpoints.{IsCheckpoint}
use Rattle.boot_tape.specs.Moving.{AreMovesIn, moves_from}
use Rattle.boot_tape.proofs.CheckpointLemmas.{kept-grows}
use Rattle.boot_tape.proofs.PlayLemmas.{follow-anew, follow-whole, play-armed}
use Rattle.boot_tape.proofs.playing.follow.Goals as goal

pub returns-in-Some-clause-played : goal.returns-in-Some-clause-played
returns-in-Some-clause-played c = λ all left play.
    let m = powerless (state_of c.args.start.now).content c.args.cpu in (
      λ many.
          let short = c.requires.short in
          let same = ap (λ (t : Tape). t.done) c.in_ok-arm.ensures.same in absurd (omega (arith, many, short, same)),
      λ few. play-armed c.args.player.machine c.args.tape.now c.arm.new.self m all left (event_from c.args.event.now)
          c.args.number c.in-Some.cut (sym c.in-Some.ensures) c.in_ok-arm.ensures.same c.in_ok-arm.ensures.noted play,
    )

pub anew-requires-clause-range : goal.anew-requires-clause-range
anew-requires-clause-range c =
    let m = powerless (state_of c.args.start.now).content c.args.cpu in
    let n = length (state_of c.args.start.now).content.flash in
    let play = c.requires.play in
    let ready = c.in_ok-play.ensures.ready m play.0 play.1 play.2 c.requires.ready in
    subst (λ ms. AreMovesIn n ms) (sym c.deref.ensures.value) ready.inside

pub returns-then-branch-clause-ready : goal.returns-then-branch-clause-ready
returns-then-branch-clause-ready c =
    let m = powerless (state_of c.args.start.now).content c.args.cpu in
    let play = c.requires.play in c.in_ok-play.ensures.ready m play.0 play.1 play.2 c.requires.ready

pub returns-then-branch-clause-played : goal.returns-then-branch-clause-played
returns-then-branch-clause-played c = λ all left play.
    let m = powerless (state_of c.args.start.now).content c.args.cpu in
    let played = c.in_ok-play.ensures.played m all left play in (
      played.0,
      λ few. follow-whole c.play.new.machine c.play.new.tape m all left (c.args.number + 1)
          c.in_ok-play.field-0 c.if-branch.true (played.1 few),
    )

pub returns-clause-ready : goal.returns-clause-ready
returns-clause-ready c =
    let m = powerless (state_of c.args.start.now).content c.args.cpu in
    let play = c.requires.play in c.in_ok-play.ensures.ready m play.0 play.1 play.2 c.requires.ready

pub returns-clause-played : goal.returns-clause-played
returns-clause-played c = λ all left play.
    let m = powerless (state_of c.args.start.now).content c.args.cpu in
    let played = c.in_ok-play.ensures.played m all left play in (
      played.0,
      λ few. follow-anew c.play.new.machine c.in_ok-next.next.machine c.play.new.tape c.deref.result.now m all left
          (c.args.number + 1) c.in_ok-play.field-0 c.if-branch.false c.deref.ensures.value (played.1 few)
          c.in_ok-next.ensures.stands c.in_ok-next.ensures.none,
    )

pub returns-then-branch-clause-kept : goal.returns-then-branch-clause-kept
returns-then-branch-clause-kept c =
    let content = (state_of c.args.start.now).content in
    let grown = c.in_ok-play.ensures.grown in
    subst (λ ms. IsCheckpoint content ms c.args.player.kept) (sym grown.1)
    (kept-grows content (moves_from c.args.tape.now.moves.items) grown.0 c.args.player.kept c.requires.kept)

pub anew-requires-clause-kept : goal.anew-requires-clause-kept
anew-requires-clause-kept c =
    let content = (state_of c.args.start.now).content in
    let grown = c.in_ok-play.ensures.grown in
    subst (λ ms. IsCheckpoint content ms c.args.player.kept)
    (sym (ap moves_from c.deref.ensures.value ∙ grown.1))
    (kept-grows content (moves_from c.args.tape.now.moves.items) grown.0 c.args.player.kept c.requires.kept)
