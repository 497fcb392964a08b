use Rattle.std.proofs.Common.{◌∙◌, drop, arith, length-drop}
use Rattle.std.proofs.lemmas.List.{take_all}
use Rattle.picoboot_cmd.proofs.cmd.args_in.Goals as goal

pub returns : goal.returns
returns c =
    c.copy_from_slice.ensures.after
    ∙ take_all 16 (drop 16 c.args.bytes.now)
    (let long = length-drop 16 c.args.bytes.now in omega (arith, long, c.told-bytes))
