-- The marks of the file of a map.
use Rattle.std.proofs.Common.{◌≡◌, ℕ, length, map, ◌∙◌}
use Rattle.std.proofs.lemmas.List.{length-map}
use Rattle.boot_map.specs.declared.maps.FlashMap.{FlashMap}
use Rattle.text_lines.specs.Texts.{decision_text}
use Rattle.svg_marks.specs.declared.class.Class.TheVariants.{Window, Row, Join}
use Rattle.svg_marks.specs.Marks.{class_text, escaped}
use Rattle.svg_marks.specs.Reading.{marks_in, times}
use Rattle.svg_map.specs.Maps.{row_words}
use Rattle.svg_map.proofs.MapLemmas.{long-joins, long-windows, map-reads, map-times}
use Rattle.cli_map.specs.Texts.{bar_of, bars_of}
use Rattle.cli_map.specs.Works.{map_file}

module _ (n : ℕ) (m : FlashMap) where
  bars-long : length (bars_of m) ≡ length m.rows.items
  bars-long = length-map m.rows.items (bar_of m)

  pub window-times : times (class_text Window) (map_file n m) ≡ length m.rows.items
  window-times = map-times Window n (bars_of m) (decision_text m.decision) ∙ (long-windows (bars_of m) ∙ bars-long)

  pub row-times : times (class_text Row) (map_file n m) ≡ length m.rows.items
  row-times = map-times Row n (bars_of m) (decision_text m.decision) ∙ (long-windows (bars_of m) ∙ bars-long)

  pub join-times : times (class_text Join) (map_file n m) ≡ length m.rows.items
  join-times = map-times Join n (bars_of m) (decision_text m.decision) ∙ (long-joins (bars_of m) ∙ bars-long)

  pub row-texts : marks_in Row (map_file n m) ≡ map escaped (map row_words (bars_of m))
  row-texts = map-reads Row n (bars_of m) (decision_text m.decision)
