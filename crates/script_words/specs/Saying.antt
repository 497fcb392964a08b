-- What the words of a line may say, and the events that a script may have.
use Rattle.std.specs.Prelude.{ℕ, ◌≡◌, ◌+◌, ◌^◌, ◌<◌, ◌≤◌, true, List, [], ◌∷◌, Option, Some, None, length}
use Rattle.hex.specs.Hex.{IsBytes}
use Rattle.boot_script.specs.Events.{EventView, Command, Uf2, Cut, IsWellFormed}
use Rattle.script_words.specs.declared.forms.Form.{Form}
use Rattle.script_words.specs.declared.forms.Form.TheVariants as forms
use Rattle.script_words.specs.declared.rows.Row.{Row}
use Rattle.script_words.specs.Rows.{first_word, form_at, has_words, is_command}
use Rattle.script_words.specs.Values.{LineView, ValueView, Plain, Number, Span, Bytes}
use Rattle.script_words.specs.Spelling.{further_words}

-- a word of a form may say this; ranges of an image are left out, since `list` writes none
abbrev pub MaySay : Form → ValueView → Type 0
MaySay (forms.Is text) Plain = Unit {0}
MaySay (forms.Number most) (Number n) = (n ≤ most) × (n < 2 ^ 32)
MaySay (forms.NumberBehind front) (Number n) = n < 2 ^ 32
MaySay forms.Hex (Number n) = n < 2 ^ 32
MaySay (forms.HexBehind front) (Number n) = n < 2 ^ 32
MaySay forms.OtpRow (Number n) = n < 4096
MaySay forms.Span (Span start size) = (start < 2 ^ 32) × (size < 2 ^ 32)
MaySay (forms.SpanBehind front) (Span start size) = (start < 2 ^ 32) × (size < 2 ^ 32)
MaySay (forms.Bytes least most) (Bytes bytes) =
    IsBytes bytes × (least ≤ length bytes) × (length bytes ≤ most)
MaySay forms.Family (Number n) = n < 2 ^ 32
MaySay form value = ⊥

-- the words of a row from this place behind the first on may say these values
abbrev pub MaySayAll : Row → ℕ → List ValueView → Type 0
MaySayAll row place [] = Unit {0}
MaySayAll row place (value ∷ values) =
    MaySay (form_at row place) value × MaySayAll row (place + 1) values

abbrev pub HasToken : Row → Option ℕ → Type 0
HasToken row None = Unit {0}
HasToken row (Some token) = (is_command row ≡ true) × (token < 2 ^ 32)

-- a line that takes no bytes of an image may say this
pub record IsLine (line : LineView) : Type 0 where
  pub count : has_words line.row (length line.values) ≡ true
  pub values : MaySayAll line.row 0 line.values
  pub token : HasToken line.row line.token

-- the words of what a line says, as `list` spells them
abbrev pub line_words : LineView → List (List ℕ)
line_words line = first_word line.row ∷ further_words line

-- the bytes of an event are bytes
abbrev pub HasEventBytes : EventView → Type 0
HasEventBytes (Command command payload) = IsBytes command × IsBytes payload
HasEventBytes (Uf2 block) = IsBytes block
HasEventBytes (Cut left within pattern) = IsBytes pattern
HasEventBytes _ = Unit {0}

-- an event that a script may have
pub record IsEvent (e : EventView) : Type 0 where
  pub well : IsWellFormed e
  pub bytes : HasEventBytes e
