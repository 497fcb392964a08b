-- The lines of what is counted over cuts, of raised rows, of laws, of caveats and of what is not
-- met.
use Rattle.std.specs.Prelude.{ℕ, List, ◌++◌, codes, decimal}
use Rattle.text_words.specs.Writing.{line, yes_or_no}
use Rattle.text_lines.specs.Texts.{window_text}
use Rattle.cli_caveats.specs.Texts.{caveat_text}
use Rattle.check_require.specs.declared.members.Member.{Member}
use Rattle.check_require.specs.declared.report.LawOfWrites.{LawOfWrites}
use Rattle.check_require.specs.declared.report.LawOfWrites.TheVariants as writes
use Rattle.check_require.specs.Members.{member_name}
use Rattle.check_laws.specs.declared.found.Reason.{Reason}
use Rattle.check_laws.specs.declared.found.Reason.TheVariants as reasons
use Rattle.check_laws.specs.declared.found.SessionFound.{SessionFound}
use Rattle.check_laws.specs.declared.found.SessionFound.TheVariants as sessions
use Rattle.check_counts.specs.declared.seen.CaveatSeen.{CaveatSeen}
use Rattle.check_counts.specs.Tallies.{Tally}

-- so many raises in the trace, by a normal boot at the end, and so many cuts at which a
-- half-written image raises a row
unfoldable pub rows_line : ℕ → ℕ → ℕ → List ℕ
rows_line raised next by_mixed =
    codes "rows raised="
    ++ (decimal raised ++ (codes " next=" ++ (decimal next
    ++ (codes " by-mixed=" ++ line (decimal by_mixed)))))

abbrev pub reason_word : Reason → List ℕ
reason_word reasons.Script = codes "script"
reason_word reasons.Windows = codes "windows"
reason_word reasons.Running = codes "running"
reason_word reasons.Table = codes "table"
reason_word reasons.Order = codes "order"

-- the law of the session, or why there is none
unfoldable pub session_text : SessionFound → List ℕ
session_text sessions.Silent = codes "none"
session_text (sessions.Staged w) = codes "staged " ++ window_text w
session_text (sessions.Gated w) = codes "gated " ++ window_text w
session_text (sessions.Confined w) = codes "confined " ++ window_text w
session_text (sessions.Open reason) = codes "open because=" ++ reason_word reason

unfoldable pub session_line : SessionFound → List ℕ
session_line law = codes "law session=" ++ line (session_text law)

abbrev pub law_word : LawOfWrites → List ℕ
law_word writes.Silent = codes "none"
law_word writes.Kept = codes "kept"
law_word writes.Open = codes "open"

unfoldable pub boot_line : LawOfWrites → List ℕ
boot_line law = codes "law boot=" ++ line (law_word law)

unfoldable pub buy_line : LawOfWrites → List ℕ
buy_line law = codes "law buy=" ++ line (law_word law)

-- how many cuts have each class that may come where nothing is asked
unfoldable pub well_counts : Tally → List ℕ
well_counts n =
    codes "former="
    ++ (decimal n.former ++ (codes " finished=" ++ (decimal n.finished
    ++ (codes " whole=" ++ decimal n.whole))))

-- and how many have each of the others
unfoldable pub other_counts : Tally → List ℕ
other_counts n =
    codes "tail="
    ++ (decimal n.tail ++ (codes " mixed=" ++ (decimal n.mixed
    ++ (codes " bootsel=" ++ decimal n.bootsel))))

-- how many cuts have each class, and how many fall
unfoldable pub cuts_line : Tally → List ℕ
cuts_line n =
    codes "cuts "
    ++ (well_counts n ++ (codes " " ++ (other_counts n
    ++ (codes " falls=" ++ line (decimal n.falls)))))

-- a caveat: whether it holds before the script and after it, and at how many cuts
unfoldable pub caveat_seen : CaveatSeen → List ℕ
caveat_seen s =
    caveat_text s.caveat
    ++ (codes " former=" ++ (yes_or_no s.former ++ (codes " end=" ++ (yes_or_no s.end
    ++ (codes " cuts=" ++ line (decimal s.cuts))))))

-- the first block of a gated download that was taken
unfoldable pub held_line : ℕ → List ℕ
held_line event = codes "caveat held-sector event=" ++ line (decimal event)

-- the first block of the absolute family that was skipped outside the flash
unfoldable pub skipped_line : ℕ → List ℕ
skipped_line event = codes "caveat skipped-block event=" ++ line (decimal event)

-- a member of what is asked that is not met
unfoldable pub unmet_line : Member → List ℕ
unmet_line member = codes "unmet " ++ line (member_name member)
