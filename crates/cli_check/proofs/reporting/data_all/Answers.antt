use Rattle.std.proofs.Common.{rules, sym, ◌∙◌, ap, ◌++◌, List}
use Rattle.std.proofs.lemmas.List.{append-nil}
use Rattle.std.proofs.lemmas.Slice.Zip.{zip_end}
use Rattle.check_require.specs.declared.report.DataFound.{DataFound}
use Rattle.cli_check.proofs.PairLemmas.{found-end}
use Rattle.cli_check.proofs.reporting.data_all.Goals as goal

-- after the last pair there are no windows to come
pub returns : goal.returns
returns c =
    let end = zip_end c.args.windows.now c.args.torn.now c.loop-window.yielded _ _ c.next.new.self _
    (search rules) (search rules) c.loop-window.yielded_by c.in-None.is c.next.ensures.steps in
    sym (append-nil c.loop-window.found.items)
    ∙ ap (λ (rest : List DataFound). c.loop-window.found.items ++ rest)
    (sym (found-end c.args.windows.now c.args.torn.now _ end))
    ∙ c.loop-window.invariant
