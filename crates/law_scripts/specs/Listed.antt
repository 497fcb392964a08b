-- The lines that a text of `list` has.
use Rattle.std.specs.Prelude.{Bool, true, false}
use Rattle.script_words.specs.declared.rows.Row.{Row}
use Rattle.script_words.specs.declared.rows.Row.TheVariants as rows

-- a line of the row takes no bytes of an image, as `list` writes them
abbrev pub is_listed : Row → Bool
is_listed rows.WriteRange = false
is_listed rows.WriteRest = false
is_listed rows.ImageBlock = false
is_listed row = true

-- a line of the row is in words: it does not give its record by all of its bytes, and takes no
-- bytes of an image
abbrev pub is_in_words : Row → Bool
is_in_words rows.WriteRange = false
is_in_words rows.WriteRest = false
is_in_words rows.ImageBlock = false
is_in_words rows.RawCommand = false
is_in_words rows.RawPayload = false
is_in_words rows.RawBlock = false
is_in_words row = true
