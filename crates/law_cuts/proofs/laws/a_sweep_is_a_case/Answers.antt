use Rattle.std.proofs.Common.{◌∙◌, ap, length, slice_get, subst, sym}
use Rattle.pico_board.specs.Content.{Content}
use Rattle.pico_board.specs.Steps.{after_all}
use Rattle.boot_session.specs.Sessions.{session}
use Rattle.boot_sweep.specs.Comparing.{result_of}
use Rattle.boot_cuts.specs.Contents.{cut_contents}
use Rattle.boot_cuts.specs.Classes.{IsClass}
use Rattle.boot_tape.specs.Traces.{trace}
use Rattle.law_cuts.proofs.CaseLemmas.{KeepsFormer, class-of-result, last-keeps, line-case, not-refused, two-cuts}
use Rattle.law_cuts.proofs.SessionTraceLemmas.{all-mended, last-is, trace-is}
use Rattle.law_cuts.proofs.laws.a_sweep_is_a_case.Goals as goal

pub returns-clause-lines : goal.returns-clause-lines
returns-clause-lines c = λ content cpu events pattern n line is at.
    let steps = session content cpu events in
    let moves = (trace content cpu events).moves in
    let here = line-case content cpu moves pattern steps n line is.right (all-mended content cpu events is.one)
    (not-refused content cpu events is) at in
    record {
      content = here.content;
      stands =
          ap (λ ts. slice_get (cut_contents pattern ts) n) (trace-is content cpu events is.one) ∙ here.stands;
      class = here.found.class;
      class_is =
          subst (λ (z : Content). IsClass content z moves here.content cpu here.found.class)
          (sym (last-is content cpu events is.one)) here.found.class_is;
      told = here.found.told;
    }

pub returns-clause-count : goal.returns-clause-count
returns-clause-count c = λ content cpu events pattern is.
    let steps = session content cpu events in
    ap (λ ts. length (cut_contents pattern ts)) (trace-is content cpu events is.one)
    ∙ two-cuts (λ d. result_of content (after_all content steps) d cpu) pattern 0 content steps

pub returns-clause-last : goal.returns-clause-last
returns-clause-last c = λ content cpu events result is says.
    let steps = session content cpu events in
    let moves = (trace content cpu events).moves in
    let z = last-is content cpu events is.one in
    let found = class-of-result content _ moves _ cpu result
    (subst (λ (d : Content). KeepsFormer content d cpu) (sym z)
    (last-keeps content cpu steps is.right (not-refused content cpu events is)))
    (all-mended content cpu events is.one) says in
    record { class = found.class; class_is = found.class_is; told = found.told }
