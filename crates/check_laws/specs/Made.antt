-- What boots and buys of a script complete, by what is noted of its events and by its moves, and which
-- law they have, as a function.
use Rattle.std.specs.Prelude.{Bool, true, false, if◌then◌else◌, List, [], ◌∷◌, drop, take}
use Rattle.pico_board.specs.declared.Step.{Step}
use Rattle.pico_board.specs.declared.boot.Cpu.{Cpu}
use Rattle.pico_board.specs.Content.{Content}
use Rattle.boot_tape.specs.declared.notes.Behind.{Behind}
use Rattle.boot_tape.specs.declared.notes.Behind.TheVariants as behinds
use Rattle.boot_tape.specs.declared.notes.Note.{Note}
use Rattle.boot_tape.specs.Moving.{MoveView, after_moves, done_steps}
use Rattle.check_require.specs.declared.report.LawOfWrites.{LawOfWrites}
use Rattle.check_require.specs.declared.report.LawOfWrites.TheVariants as laws
use Rattle.check_laws.specs.declared.made.WriteLaws.{WriteLaws}
use Rattle.check_laws.specs.OwnLaws.{boot_kept, raises_own}

-- what is behind an event's own moves: the content before it, what makes it, and the steps that it
-- completes
pub record Made : Type 0 where
  pub before : Content
  pub by : Behind
  pub done : List Step

-- what is behind the own moves of a noted event, which does these moves
abbrev pub made_of : Content → Note → List MoveView → Made
made_of c note moves = record {
  before = after_moves c (take note.own moves);
  by = note.behind;
  done = done_steps (drop note.own moves);
}

-- the same of noted events, one after another
abbrev pub made_by : Content → List Note → List MoveView → List Made
made_by c [] moves = []
made_by c (note ∷ notes) moves =
    made_of c note (take note.moves moves)
    ∷ made_by (after_moves c (take note.moves moves)) notes (drop note.moves moves)

abbrev pub does_step : List Step → Bool
does_step [] = false
does_step (step ∷ steps) = true

-- the law with one more that does a step
abbrev pub law_with : LawOfWrites → Bool → LawOfWrites
law_with laws.Silent kept = if kept then laws.Kept else laws.Open
law_with laws.Kept kept = if kept then laws.Kept else laws.Open
law_with laws.Open kept = laws.Open

-- the laws of boots and of buys, with one more that does a step
abbrev pub laws_by : Cpu → WriteLaws → Behind → Content → List Step → WriteLaws
laws_by cpu found behinds.Nothing before done = found
laws_by cpu found (behinds.Boot kind) before done =
    record { boot = law_with found.boot (boot_kept before cpu kind done); buy = found.buy }
laws_by cpu found (behinds.Buy image) before done =
    record { boot = found.boot; buy = law_with found.buy (raises_own before cpu image done) }

-- the same, where it may do none
abbrev pub laws_with : Cpu → WriteLaws → Made → WriteLaws
laws_with cpu found made =
    if does_step made.done then laws_by cpu found made.by made.before made.done else found

abbrev pub laws_over : Cpu → WriteLaws → List Made → WriteLaws
laws_over cpu found [] = found
laws_over cpu found (made ∷ others) = laws_over cpu (laws_with cpu found made) others

-- nothing wrote yet
abbrev pub no_writes : WriteLaws
no_writes = record { boot = laws.Silent; buy = laws.Silent }
