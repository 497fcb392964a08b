use Rattle.std.proofs.Common.{◌≡◌, ◌∙◌, Some, arith, ap, sym}
use Rattle.block_codec.specs.Reading.{front_block}
use Rattle.block_codec.proofs.WordLemmas.{AreBytes}
use Rattle.block_codec.proofs.BlockLemmas.{front_block-stands}
use Rattle.block_codec.proofs.ExactLemmas.{front_block-framed, front_block-none, no_block_in_front}
use Rattle.block_codec.proofs.reading.read_block.Goals as goal
use Rattle.block_codec.proofs.reading.read_block.Goals.{After-framed_block}

found : (c : After-framed_block) → Some c.framed_block.result ≡ front_block c.args.at c.args.piece.now
found c =
    let bytes : AreBytes c.args.piece.now = λ i. omega (arith, c.type_inv.piece i) in
    ap Some c.framed_block.ensures.value
    ∙ front_block-framed c.args.at c.in-Some.count c.args.piece.now c.as_slice-words.result.now bytes
    (c.as_slice-words.ensures.value ∙ c.front_words-front.ensures) c.in-Some.ensures.value

pub returns-in-Some-clause-exact : goal.returns-in-Some-clause-exact
returns-in-Some-clause-exact c = found c

pub returns-in-Some-clause-found : goal.returns-in-Some-clause-found
returns-in-Some-clause-found c = front_block-stands c.args.at c.args.piece.now c.framed_block.result (sym (found c))

pub returns-in-None-clause-exact : goal.returns-in-None-clause-exact
returns-in-None-clause-exact c =
    front_block-none c.args.at c.args.piece.now c.as_slice-words.result.now
    (c.as_slice-words.ensures.value ∙ c.front_words-front.ensures)
    c.in-None.ensures.value

pub returns-in-None-clause-none : goal.returns-in-None-clause-none
returns-in-None-clause-none c =
    no_block_in_front c.args.piece.now c.as_slice-words.result.now
    (c.as_slice-words.ensures.value ∙ c.front_words-front.ensures)
    c.in-None.ensures.value
