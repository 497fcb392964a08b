-- The work of `map`, as a function.
use Rattle.std.specs.Prelude.{ℕ, false, List, length}
use Rattle.pico_board.specs.declared.boot.Cpu.{Cpu}
use Rattle.pico_board.specs.Content.{Content}
use Rattle.boot_map.specs.declared.maps.FlashMap.{FlashMap}
use Rattle.boot_map.specs.Maps.{map_in}
use Rattle.svg_map.specs.Maps.{map_picture, map_words}
use Rattle.cli_course.specs.Outcomes.{Work, Answers, line, one_file}
use Rattle.text_lines.specs.Texts.{decision_text}
use Rattle.svg_marks.specs.Marks.{picture_text}
use Rattle.cli_map.specs.Texts.{bars_of}

-- the line of a map
abbrev pub map_line : FlashMap → List ℕ
map_line m = line (map_words (length m.rows.items))

-- the bytes of the picture of a flash of n bytes with this map; the picture shows the decision of
-- a normal boot by its line
abbrev pub map_file : ℕ → FlashMap → List ℕ
map_file n m = picture_text (map_picture n (bars_of m) (decision_text m.decision))

-- the map of a flash of n bytes is printed and drawn
abbrev pub drawn_work : ℕ → FlashMap → List ℕ → Work
drawn_work n m out = Answers false (map_line m) (one_file out (map_file n m))

abbrev pub map_work : Content → Cpu → List ℕ → Work
map_work c cpu out = drawn_work (length c.flash) (map_in c cpu) out
