use Rattle.std.proofs.Common.{◌+◌, ◌/◌, ap, arith, sym}
use Rattle.check_laws.proofs.StagingLemmas.{first-low, first-place}
use Rattle.check_laws.proofs.staging.first_page.Goals as goal

pub overflow_add-result : goal.overflow_add-result
overflow_add-result g c =
    let low = first-low (g.V.View.bytes c.args.view.now) c.args.found.now c.at.result c.requires.loop_ c.at.ensures in
    let near = c.requires.near in
    omega (arith, low, near)

pub returns : goal.returns
returns g c = λ first is.
    ap (λ x. (c.args.window.start + x) / 256)
    (sym (first-place (g.V.View.bytes c.args.view.now) c.args.found.now c.at.result first c.requires.loop_ c.at.ensures is))
