use Rattle.std.proofs.Common.{◌∙◌, ap}
use Rattle.pico_board.specs.MemBoard.{state_of}
use Rattle.boot_tape.specs.Moving.{moves_from}
use Rattle.check_laws.proofs.MadeLemmas.{boot-law, buy-law, laws-told}
use Rattle.check_laws.proofs.made.write_laws.Goals as goal

pub returns-clause-boot : goal.returns-clause-boot
returns-clause-boot c = λ events is.
    let content = (state_of c.args.board.now).content in
    boot-law content c.args.cpu events c.in_ok-laws.laws
    (laws-told content (state_of c.in_ok-copy.copy).content c.args.cpu events c.deref.result.now
    (moves_from c.deref-2.result.now) c.in_ok-laws.laws c.in_ok-copy.ensures.same (c.deref.ensures.value ∙ is.notes)
    (ap moves_from c.deref-2.ensures.value ∙ is.moves) c.in_ok-laws.ensures)

pub returns-clause-buy : goal.returns-clause-buy
returns-clause-buy c = λ events is.
    let content = (state_of c.args.board.now).content in
    buy-law content c.args.cpu events c.in_ok-laws.laws
    (laws-told content (state_of c.in_ok-copy.copy).content c.args.cpu events c.deref.result.now
    (moves_from c.deref-2.result.now) c.in_ok-laws.laws c.in_ok-copy.ensures.same (c.deref.ensures.value ∙ is.notes)
    (ap moves_from c.deref-2.ensures.value ∙ is.moves) c.in_ok-laws.ensures)
