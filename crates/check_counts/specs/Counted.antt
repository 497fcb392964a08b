-- What is counted over the cuts of a script.
use Rattle.std.specs.Prelude.{◌≡◌, ℕ, List, count_by, map}
use Rattle.std.specs.List.{list_any}
use Rattle.pico_board.specs.declared.boot.Cpu.{Cpu}
use Rattle.pico_board.specs.declared.boot.BootKind.TheVariants.{Normal}
use Rattle.pico_board.specs.Content.{Content}
use Rattle.boot_rules.specs.Choosing.{decision_in}
use Rattle.boot_script.specs.Events.{EventView}
use Rattle.boot_tape.specs.Traces.{trace}
use Rattle.cut_class.specs.declared.class.Class.TheVariants.{Former, Finished, Whole, Tail, Mixed, Bootsel}
use Rattle.boot_cuts.specs.Classing.{class_of}
use Rattle.boot_cuts.specs.Contents.{cut_contents}
use Rattle.boot_cuts.specs.Tears.{left_torn}
use Rattle.check_data.specs.declared.found.DataWindow.{DataWindow}
use Rattle.check_counts.specs.declared.counting.Counted.{Counted}
use Rattle.check_counts.specs.CaveatsSeen.{caveats_seen}
use Rattle.check_counts.specs.Tallies.{Tally, tally_of}
use Rattle.check_counts.specs.Facts.{Sides, falls_on, has_other_table, is_early, is_of_class, is_on_other_data, is_other_class, is_raising}

-- the counts over cuts that leave these contents
pub record AreCounts (s : Sides) (contents : List Content) (t : Tally) : Type 0 where
  pub former : t.former ≡ count_by (is_of_class s Former) contents
  pub finished : t.finished ≡ count_by (is_of_class s Finished) contents
  pub whole : t.whole ≡ count_by (is_of_class s Whole) contents
  pub tail : t.tail ≡ count_by (is_of_class s Tail) contents
  pub mixed : t.mixed ≡ count_by (is_of_class s Mixed) contents
  pub bootsel : t.bootsel ≡ count_by (is_of_class s Bootsel) contents
  pub falls : t.falls ≡ count_by (falls_on s.cpu) contents
  pub early : t.early ≡ count_by (is_early s) contents
  pub other_data : t.other_data
      ≡ map (λ w. count_by (is_on_other_data s w) contents) s.windows
  pub by_mixed : t.by_mixed ≡ count_by (is_raising s) contents
  pub other_table : t.other_table ≡ list_any (has_other_table s.first) contents
  pub other_class : t.other_class ≡ list_any (is_other_class s) contents
  pub caveats : t.caveats ≡ caveats_seen s contents

-- what the cuts of a script on the content c are judged beside
abbrev pub sides_of : Content → Cpu → List EventView → List DataWindow → List ℕ → Sides
sides_of c cpu events windows loose = record {
  first = c;
  last = (trace c cpu events).last;
  torn = left_torn (trace c cpu events).moves;
  cpu = cpu;
  windows = windows;
  loose = loose;
}

-- the contents that the cuts of a script leave, in their order
abbrev pub script_cuts : Content → Cpu → List EventView → List ℕ → List Content
script_cuts c cpu events pattern = cut_contents pattern (trace c cpu events).done

-- the decisions before the script and after it, the class of what it leaves, and the counts over
-- its cuts
pub record AreCounted (c : Content) (cpu : Cpu) (events : List EventView) (pattern : List ℕ)
    (windows : List DataWindow) (loose : List ℕ) (found : Counted) : Type 0 where
  pub former : found.former ≡ decision_in c cpu Normal
  pub finished : found.finished ≡ decision_in (trace c cpu events).last cpu Normal
  pub end_class : found.end_class ≡ class_of c (trace c cpu events).last
      (left_torn (trace c cpu events).moves) cpu (trace c cpu events).last
  pub counts : AreCounts (sides_of c cpu events windows loose)
      (script_cuts c cpu events pattern) (tally_of found.counts)
