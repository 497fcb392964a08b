-- Who does each move of a script.
use Rattle.std.specs.Prelude.{ℕ, ◌-◌, nat_lt, ◌||◌, Bool, true, false, List, [], ◌∷◌, ◌++◌, replicate}
use Rattle.boot_tape.specs.declared.notes.Behind.{Behind}
use Rattle.boot_tape.specs.declared.notes.Behind.TheVariants as behinds
use Rattle.boot_tape.specs.declared.notes.Doer.{Doer}
use Rattle.boot_tape.specs.declared.notes.Doer.TheVariants.{Host, Boot, Buy}
use Rattle.boot_tape.specs.declared.notes.Note.{Note}

-- who does so many moves that are not a host's own; where nothing is behind these, there are none
abbrev pub doers_behind : Behind → ℕ → List Doer
doers_behind behinds.Nothing count = []
doers_behind (behinds.Boot kind) count = replicate count Boot
doers_behind (behinds.Buy image) count = replicate count Buy

-- who does each move of an event: first a host its own, and then the boot or the buy the others
abbrev pub note_doers : Note → List Doer
note_doers note = replicate note.own Host ++ doers_behind note.behind (note.moves - note.own)

-- who does each move of events, one after another
abbrev pub doers : List Note → List Doer
doers [] = []
doers (note ∷ notes) = note_doers note ++ doers notes

-- a boot makes the moves that are not a host's own
abbrev pub is_boot : Behind → Bool
is_boot (behinds.Boot kind) = true
is_boot behinds.Nothing = false
is_boot (behinds.Buy image) = false

-- a host's event did all steps of its own: power was lost in none, or in the boot behind them
abbrev pub is_own_whole : Note → Bool
is_own_whole note = note.whole || nat_lt note.own note.moves
