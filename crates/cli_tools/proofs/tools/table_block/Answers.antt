use Rattle.std.proofs.Common.{ℕ, ◌<◌, ◌≤◌, ◌∙◌, Err, ap, arith}
use Rattle.part_table.specs.Written.{written_size}
use Rattle.cli_tools.proofs.tools.table_block.Goals as goal

short-long : (n m : ℕ) → n ≤ m → m < n → ⊥
short-long n m short long = omega (arith, short, long)

pub unreachable-requires : goal.unreachable-requires
unreachable-requires c =
    short-long (written_size c.args.json.now.table) 640 c.args.json.now.fits
    ((c.write_table.ensures.too_long c.in-Err-TooLong.field-0-0).0
    (c.in-Err-TooLong.is ∙ ap (λ e. Err e) c.in-Err-TooLong.field-0-is)).0
