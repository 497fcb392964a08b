use Rattle.std.proofs.Common.{◌≡◌, ◌∙◌, sym, ap, arith, position}
use Rattle.std.proofs.lemmas.Bool.{eq-eqb}
use Rattle.pico_board.specs.declared.window.Window.{Window}
use Rattle.part_table.specs.declared.partition.Partition.{Partition}
use Rattle.part_table.specs.Partitions.{no_partition, part_at}
use Rattle.part_table.specs.Windows.{part_window}
use Rattle.part_table.proofs.TestLemmas.{first_position, no_position}
use Rattle.part_table.proofs.FaultLemmas.{index_at}
use Rattle.boot_map.specs.Windows.{starts_at}
use Rattle.boot_map.proofs.windows.next_part.Goals as goal

pub returns-then-window-next-clause-value : goal.returns-then-window-next-clause-value
returns-then-window-next-clause-value c =
    let parts = c.args.parts.now in
    let next = c.next_start-next.result in
    let at : c.index-parts-i.result ≡ part_at c.args.parts.now c.loop-i.i =
    index_at c.args.parts.now c.loop-i.i c.index-parts-i.result
    (omega (arith, c.loop-i-test.true, c.requires.few)) c.index-parts-i.is in
    let same : (part_window (part_at c.args.parts.now c.loop-i.i)).start ≡ c.next_start-next.result =
    ap (λ (p : Partition). (part_window p).start) (sym at)
    ∙ (ap (λ (w : Window). w.start) (sym c.window.ensures.value) ∙ c.if-window-next.true) in
    sym (ap (λ k. position (starts_at k) parts) (sym c.next_start-next.ensures)
    ∙ (first_position (starts_at next) parts c.loop-i.i no_partition
    (omega (arith, c.loop-i-test.true, c.requires.few)) (eq-eqb _ _ same) c.loop-i.invariant).1)

pub returns-clause-value : goal.returns-clause-value
returns-clause-value c =
    let parts = c.args.parts.now in
    let next = c.next_start-next.result in
    sym (ap (λ k. position (starts_at k) parts) (sym c.next_start-next.ensures)
    ∙ no_position (starts_at next) parts no_partition
    (λ j lt. c.loop-i.invariant j (omega (arith, lt, c.loop-i-test.false, c.requires.few))))
