use Rattle.std.proofs.Common.{◌≡◌, ◌∙◌, sym, subst, arith, true}
use Rattle.part_table.specs.Partitions.{no_partition}
use Rattle.part_table.proofs.TestLemmas.{first_position, no_position}
use Rattle.part_table.proofs.FaultLemmas.{index_at}
use Rattle.boot_rules.specs.Data.{has_window}
use Rattle.boot_rules.proofs.data.part_with.Goals as goal

pub returns-then-has_window-clause-value : goal.returns-then-has_window-clause-value
returns-then-has_window-clause-value c =
    sym (first_position (has_window c.args.window) c.args.parts.now c.loop-i.i no_partition
    (omega (arith, c.loop-i-test.true, c.requires.few))
    (subst (λ p. has_window c.args.window p ≡ true)
    (index_at c.args.parts.now c.loop-i.i c.index-parts-i.result
    (omega (arith, c.loop-i-test.true, c.requires.few)) c.index-parts-i.is)
    (sym c.has_window.ensures ∙ c.if-has_window.true)) c.loop-i.invariant).1

pub returns-clause-value : goal.returns-clause-value
returns-clause-value c =
    sym (no_position (has_window c.args.window) c.args.parts.now no_partition
    (λ j lt. c.loop-i.invariant j (omega (arith, lt, c.loop-i-test.false, c.requires.few))))
