-- Where a block lies, as a walk keeps it.
use Rattle.std.specs.Prelude.{ℕ, ◌+◌, ◌&&◌, nat_lt, Bool, List, map}
use Rattle.block_codec.specs.Blocks.{BlockView, block_size}
use Rattle.block_loop.specs.declared.spans.Span.{Span}

-- where a block lies
abbrev pub span_of : BlockView → Span
span_of b = record { at = b.at; size = block_size b }

-- the two ranges share a byte
abbrev pub spans_share : Span → Span → Bool
spans_share a b = nat_lt a.at (b.at + b.size) && nat_lt b.at (a.at + a.size)

-- the offsets of the ranges
abbrev pub places_of : List Span → List ℕ
places_of spans = map (λ (s : Span). s.at) spans
