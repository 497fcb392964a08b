use Rattle.std.proofs.Common.{◌+◌, length, ap, ◌∙◌, slice_range}
use Rattle.image_check.proofs.SameLemmas.{pieces-agree}
use Rattle.boot_cuts.proofs.tails.same_piece.Goals as goal

pub returns : goal.returns
returns g c =
    let one = g.V.View.bytes c.args.one.now in
    let two = g.W.View.bytes c.args.two.now in
    let second = c.read-2.ensures ∙ ap (λ n. slice_range two c.args.at (c.args.at + n)) c.requires.long in
    pieces-agree one two c.read.new.into c.read-2.new.into c.args.at
    (length c.args.first.now) c.read.ensures second c.requires.in_one
    c.requires.in_two c.eq.result c.eq.ensures
