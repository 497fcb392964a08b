use Rattle.std.proofs.Common.{sym, ap, ◌∙◌, Some}
use Rattle.std.proofs.lemmas.Option.{same_Some}
use Rattle.block_loop.proofs.PlaceLemmas.{at-place, stands-at}
use Rattle.block_loop.proofs.walking.block_of.Goals as goal

pub unreachable-requires : goal.unreachable-requires
unreachable-requires g c =
    let found = stands-at (g.V.View.bytes c.args.view.now) c.args.found.now c.args.i c.at.result c.requires.loop_
    c.at.ensures in
    cc

pub returns-clause-exact : goal.returns-clause-exact
returns-clause-exact g c = λ loop is.
    let found = at-place (g.V.View.bytes c.args.view.now) c.args.found.now c.args.i c.at.result c.requires.loop_
    c.at.ensures loop is in
    found.1 ∙ ap Some (same_Some found.0 c.in-Some.block (sym found.2 ∙ sym c.block_at.ensures.exact ∙ c.in-Some.is))
