use Rattle.std.proofs.Common.{refl}
use Rattle.uf2_place.proofs.HeldPageLemmas.{page-held}
use Rattle.uf2_place.proofs.holding.hold.Goals as goal

pub returns : goal.returns
returns c =
    page-held c.args.place c.args.page.now c.args.held.now c.args.pool.now c.bytes_mut.result.now c.copy_page.new.sector
    _
    c.requires.inside c.bytes_mut.ensures.value c.bytes_mut.ensures.len c.copy_page.ensures.size refl
    c.copy_page.ensures.value
