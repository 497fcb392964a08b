use Rattle.std.proofs.Common.{arith}
use Rattle.uf2_place.proofs.judging.ruling.Goals as goal

pub continued-requires-clause-near : goal.continued-requires-clause-near
continued-requires-clause-near c =
    omega (arith, (c.requires.target c.in-Some.current c.in-Some.is).inside, c.ranges.flash_len.fits)

pub begun-requires-clause-near : goal.begun-requires-clause-near
begun-requires-clause-near c = λ t is. omega (arith, (c.requires.given t is).inside, c.ranges.flash_len.fits)
