use Rattle.std.proofs.Common.{◌∙◌, refl, sym}
use Rattle.pico_board.specs.MemBoard.{state_of}
use Rattle.check_images.proofs.ImageLemmas.{facts-are, no-fault}
use Rattle.check_images.proofs.judging.facts_of.Goals as goal

pub unreachable-requires : goal.unreachable-requires
unreachable-requires c =
    no-fault (state_of c.args.board.now).content c.args.image.now.window c.args.cpu c.requires.valid.0 c.args.image.now
    c.requires.valid.1 c.in-Err.field-0 (sym c.in-Err.is ∙ c.defined_in.ensures.exact)

pub returns : goal.returns
returns c = λ trial valid.
    facts-are (state_of c.args.board.now).content c.args.image.now.window c.args.cpu trial c.args.image.now valid
    c.in-Ok.defined (sym c.in-Ok.is ∙ c.defined_in.ensures.exact) _ refl refl refl c.hash_of.ensures c.firm.ensures
