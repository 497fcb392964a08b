-- The text of `check`.
use Rattle.std.specs.Prelude.{ℕ, List, [], ◌∷◌, ◌++◌, Option, Some, None, codes}
use Rattle.std.specs.List.{flat_map}
use Rattle.boot_rules.specs.declared.decision.Decision.{Decision}
use Rattle.text_lines.specs.Texts.{decision_line}
use Rattle.check_data.specs.declared.found.DataWindow.{DataWindow}
use Rattle.check_data.specs.Texts.{data_line}
use Rattle.check_laws.specs.declared.found.SessionFound.{SessionFound}
use Rattle.check_records.specs.declared.found.Again.{Again}
use Rattle.check_records.specs.declared.found.Records.{Records}
use Rattle.check_records.specs.declared.found.ScriptCaveats.{ScriptCaveats}
use Rattle.check_records.specs.Texts.{again_line, records_lines}
use Rattle.check_require.specs.declared.members.Member.{Member}
use Rattle.check_require.specs.declared.report.LawOfWrites.{LawOfWrites}
use Rattle.check_lines.specs.Texts.{effect_line, fallback_line, lost_line, starts_line, written_line}
use Rattle.check_lines.specs.Counting.{boot_line, buy_line, caveat_seen, cuts_line, held_line, rows_line, session_line, skipped_line, unmet_line}
use Rattle.cli_check.specs.Findings.{FindingsView, ImagesView}

-- what normal boots decide before the script and after it
unfoldable pub boot_lines : Decision → Decision → List ℕ
boot_lines former finished =
    codes "former " ++ (decision_line former ++ (codes "end " ++ decision_line finished))

-- the images, where the one that starts does so at so many cuts before its loose bytes are there
unfoldable pub image_lines : ImagesView → ℕ → List ℕ
image_lines f early =
    effect_line f.effect f.table f.flash
    ++ (flat_map written_line f.written
    ++ (starts_line f.starts early
    ++ (fallback_line f.fallback ++ flat_map lost_line f.lost)))

-- the windows with data, each with the cuts at which an image runs on other data
abbrev pub data_lines : List DataWindow → List ℕ → List ℕ
data_lines (w ∷ windows) (n ∷ torn) = data_line w n ++ data_lines windows torn
data_lines _ _ = []

-- the records, and whether the script comes to the same end again
unfoldable pub record_lines : Records → Again → List ℕ
record_lines records again = records_lines records ++ again_line again

unfoldable pub law_lines : SessionFound → LawOfWrites → LawOfWrites → List ℕ
law_lines session boot buy = session_line session ++ (boot_line boot ++ buy_line buy)

-- raised rows, laws and cuts
unfoldable pub count_lines : FindingsView → List ℕ
count_lines f =
    rows_line f.raised f.images.next f.tally.by_mixed
    ++ (law_lines f.session f.boot f.buy ++ cuts_line f.tally)

abbrev pub held_lines : Option ℕ → List ℕ
held_lines None = []
held_lines (Some event) = held_line event

abbrev pub skipped_lines : Option ℕ → List ℕ
skipped_lines None = []
skipped_lines (Some event) = skipped_line event

-- the caveats that speak of the script itself
unfoldable pub event_lines : ScriptCaveats → List ℕ
event_lines s = held_lines s.held ++ skipped_lines s.skipped

-- the lines of what is found
unfoldable pub findings_text : FindingsView → List ℕ
findings_text f =
    boot_lines f.former f.finished
    ++ (image_lines f.images f.tally.early
    ++ (data_lines f.windows f.tally.other_data
    ++ (record_lines f.records f.again
    ++ (count_lines f
    ++ (flat_map caveat_seen f.tally.caveats ++ event_lines f.script)))))

-- and those of the members that are not met
unfoldable pub check_text : FindingsView → List Member → List ℕ
check_text f unmet = findings_text f ++ flat_map unmet_line unmet
