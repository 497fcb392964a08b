-- Windows of the flash, compared.
use Rattle.std.specs.Prelude.{◌==◌, ◌&&◌, Bool}
use Rattle.pico_board.specs.declared.window.Window.{Window}

-- the two are one window: they begin and end at the same bytes
abbrev pub is_same_window : Window → Window → Bool
is_same_window v w = v.start == w.start && v.len == w.len
