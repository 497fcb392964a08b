use Rattle.std.proofs.Common.{◌≡◌, drop}
use Rattle.std.specs.List.{position_from}
use Rattle.block_loop.specs.Spans.{spans_share}
use Rattle.block_loop.proofs.spans.first_shared.Given as goal

abbrev pub invariant-loop-i : goal.invariant-loop-i
invariant-loop-i l = position_from (λ s. spans_share s l.new) 0 l.spans
    ≡ position_from (λ s. spans_share s l.new) l.i (drop l.i l.spans)
