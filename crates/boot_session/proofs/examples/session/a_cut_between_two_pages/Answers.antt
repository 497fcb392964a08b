-- By computing.
use Rattle.std.proofs.Common.{refl, sym, ap, ◌∙◌, subst}
use Rattle.std.proofs.Math.Dec.{lit≤}
use Rattle.pico_board.specs.declared.boot.Cpu.TheVariants.{Arm}
use Rattle.pico_board.specs.Content.{Content}
use Rattle.boot_rules.specs.declared.decision.Decision.TheVariants.{Start}
use Rattle.boot_rules.specs.Tables.{table_in}
use Rattle.boot_rules.specs.AccidentalImages.{HasNoAccidentalImage}
use Rattle.worked_flashes.specs.Choices.{former_start}
use Rattle.worked_flashes.specs.Writes.{slot}
use Rattle.boot_session.proofs.ExampleLemmas.{before, chosen-by, decided, elsewhere, former-before, gated, boot_member, right, starts-apart, two-pages}
use Rattle.boot_session.proofs.CutBetweenLemmas.{halfway, finished, cut, former-halfway, finished-start, table-after, accident_free, done, unfinished}
use Rattle.boot_session.proofs.examples.session.a_cut_between_two_pages.Goals as goal

pub returns-clause-done : goal.returns-clause-done
returns-clause-done c = done

pub returns-clause-unfinished : goal.returns-clause-unfinished
returns-clause-unfinished c = unfinished

pub returns-clause-accident_free : goal.returns-clause-accident_free
returns-clause-accident_free c = accident_free

pub returns-clause-former : goal.returns-clause-former
returns-clause-former c = chosen-by halfway (Start former_start) former-halfway

pub returns-clause-session : goal.returns-clause-session
returns-clause-session c = record {
  right = right;
  boot_member = boot_member;
  gated =
      gated 32 slot _ refl
      ((lit≤ tt, lit≤ tt), ((lit≤ tt, lit≤ tt), ((lit≤ tt, lit≤ tt), tt)))
      ((lit≤ tt, lit≤ tt), ((lit≤ tt, lit≤ tt), tt)) two-pages;
  cut = cut;
  former = chosen-by before (Start former_start) former-before;
  elsewhere = elsewhere;
  table = ap table_in done ∙ table-after;
  no_accident = λ is. subst (λ (z : Content). HasNoAccidentalImage before z halfway slot Arm) (sym done) accident_free;
}

pub returns-clause-not_finished : goal.returns-clause-not_finished
returns-clause-not_finished c = λ starts.
    starts-apart (Start starts.choice) (decided halfway (Start starts.choice) starts.here ∙ former-halfway)
    (decided finished (Start starts.choice) starts.after ∙ finished-start)
