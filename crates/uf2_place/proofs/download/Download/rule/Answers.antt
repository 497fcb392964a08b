use Rattle.std.proofs.Common.{sym, ap, subst, ◌∙◌}
use Rattle.uf2_place.specs.Accepting.{DownloadView}
use Rattle.uf2_place.specs.Downloads.{IsTargetIn}
use Rattle.uf2_place.proofs.download.Download.rule.Goals as goal

pub ruling-requires-clause-given : goal.ruling-requires-clause-given
ruling-requires-clause-given g c = λ t is.
    subst (λ n. IsTargetIn n t) (sym c.flash_len-flash_len.ensures) (c.requires.target t is)

pub ruling-requires-clause-target : goal.ruling-requires-clause-target
ruling-requires-clause-target g c = λ d is.
    subst (λ n. IsTargetIn n d.target) (sym c.flash_len-flash_len.ensures)
    (c.requires.current d (sym (ap (λ (k : DownloadView). k.current) c.self.view_is) ∙ is))
