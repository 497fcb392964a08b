-- By computing.
use Rattle.std.proofs.Common.{refl, sym, ap, ◌∙◌, subst}
use Rattle.std.proofs.Math.Dec.{lit≤}
use Rattle.pico_board.specs.declared.boot.Cpu.TheVariants.{Arm}
use Rattle.pico_board.specs.Content.{Content}
use Rattle.boot_rules.specs.declared.decision.Decision.TheVariants.{Start}
use Rattle.boot_rules.specs.Tables.{table_in}
use Rattle.boot_rules.specs.AccidentalImages.{HasNoAccidentalImage}
use Rattle.worked_flashes.specs.Choices.{small_finished, small_former, small_slot}
use Rattle.boot_session.specs.CutSessions.{StartsFinished}
use Rattle.boot_session.proofs.ExampleLemmas.{small_before, chosen-by, decided, small-elsewhere, small-former-before, gated, small-home, small-right, small-starts-apart, three-pages}
use Rattle.boot_session.proofs.CutBehindLemmas.{cut_short, finished, done, cut, starts-short, starts-finished, table-after, same-image, accident_free, unfinished}
use Rattle.boot_session.proofs.examples.session.a_cut_behind_the_image.Goals as goal

pub returns-clause-unfinished : goal.returns-clause-unfinished
returns-clause-unfinished c = unfinished

pub returns-clause-session : goal.returns-clause-session
returns-clause-session c = record {
  right = small-right;
  boot_member = small-home;
  gated =
      gated 4 small_slot _ refl
      ((lit≤ tt, lit≤ tt), ((lit≤ tt, lit≤ tt), ((lit≤ tt, lit≤ tt), ((lit≤ tt, lit≤ tt), tt))))
      ((lit≤ tt, lit≤ tt), ((lit≤ tt, lit≤ tt), ((lit≤ tt, lit≤ tt), tt))) three-pages;
  cut = cut;
  former = chosen-by small_before (Start small_former) small-former-before;
  elsewhere = small-elsewhere;
  table = ap table_in done ∙ table-after;
  no_accident = λ is. subst (λ (z : Content). HasNoAccidentalImage small_before z cut_short small_slot Arm)
      (sym done) accident_free;
}

pub returns-clause-finished : goal.returns-clause-finished
returns-clause-finished c = subst (λ (z : Content). StartsFinished z cut_short Arm) (sym done) (record {
  choice = small_finished;
  here = chosen-by cut_short (Start small_finished) starts-short;
  after = chosen-by finished (Start small_finished) starts-finished;
  same = same-image;
})

pub returns-clause-not_former : goal.returns-clause-not_former
returns-clause-not_former c = λ former.
    small-starts-apart (Start small_former) refl (decided cut_short (Start small_former) former ∙ starts-short)
