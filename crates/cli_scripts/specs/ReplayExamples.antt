-- A content of the worked examples.
use Rattle.std.specs.Prelude.{[], ◌∷◌}
use Rattle.pico_board.specs.Content.{Content}

-- a content of two bytes and one row
abbrev pub example_content : Content
example_content = record { flash = 1 ∷ 255 ∷ []; otp = 0 ∷ [] }
