use Rattle.std.proofs.Common.{arith, subst, sym}
use Rattle.boot_sweep.specs.Gating.{ArePages}
use Rattle.boot_sweep.proofs.PageLemmas.{fresh-page, pages-more}
use Rattle.boot_sweep.proofs.PageRoomLemmas.{pages_room}
use Rattle.boot_sweep.proofs.gating.add_page.Goals as goal

pub push-requires : goal.push-requires
push-requires c = (
  omega arith,
  pages_room c.args.sector c.args.pages.now.items c.in-Program.page c.requires.pages c.if-page-sector.true
      (fresh-page c.args.sector c.args.pages.now.items c.args.step.now c.in-Program.page c.in-Program.field-1
      c.in-Program.is c.if-page-sector.true c.requires.follows),
)

pub returns-then-page-sector-clause-kept : goal.returns-then-page-sector-clause-kept
returns-then-page-sector-clause-kept c =
    subst (ArePages c.args.sector) (sym c.push.ensures.items)
    (pages-more c.args.sector c.args.pages.now.items c.in-Program.page c.requires.pages c.if-page-sector.true
    (fresh-page c.args.sector c.args.pages.now.items c.args.step.now c.in-Program.page c.in-Program.field-1
    c.in-Program.is c.if-page-sector.true c.requires.follows))
