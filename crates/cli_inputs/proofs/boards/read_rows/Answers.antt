use Rattle.std.proofs.Common.{◌∙◌, ap, option_map, subst, sym}
use Rattle.std.specs.Prelude.{string_bytes}
use Rattle.cli_inputs.proofs.FormLemmas.{IsNarrow, otp-formed}
use Rattle.cli_inputs.proofs.boards.read_rows.Goals as goal

pub padded-requires-clause-narrow : goal.padded-requires-clause-narrow
padded-requires-clause-narrow c =
    subst IsNarrow (sym c.in_ok-rows-in-None.ensures.rows)
    (otp-formed c.args.file.now (sym c.in_ok-found.ensures ∙ ap (option_map string_bytes) c.in-None.is)).1
