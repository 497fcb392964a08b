use Rattle.std.proofs.Common.{rules, sym, ◌∙◌, ap, ◌++◌, List, ℕ, string_bytes}
use Rattle.std.proofs.lemmas.List.{append-nil}
use Rattle.std.proofs.lemmas.Slice.Zip.{zip_end}
use Rattle.cli_check.proofs.PairLemmas.{lines-end}
use Rattle.cli_check.proofs.lines.data_lines.Goals as goal

-- after the last pair there are no lines to come
pub returns : goal.returns
returns c =
    let end = zip_end c.args.windows.now c.args.torn.now c.loop-window.yielded _ _ c.next.new.self _
    (search rules) (search rules) c.loop-window.yielded_by c.in-None.is c.next.ensures.steps in
    sym (append-nil (string_bytes c.loop-window.text))
    ∙ ap (λ (rest : List ℕ). string_bytes c.loop-window.text ++ rest)
    (sym (lines-end c.args.windows.now c.args.torn.now _ end))
    ∙ c.loop-window.invariant
