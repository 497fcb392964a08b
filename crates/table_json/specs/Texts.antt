-- Texts and their values. This project's own; JSON is RFC 8259's, as `serde_json` reads it.
use Rattle.std.specs.Prelude.{◌≡◌, ℕ, List, Some, IsUtf8}
use Rattle.serde_json.specs.Data.{Data}
use Rattle.serde_json.specs.Read.{read}

-- bytes are the text of a value where they are UTF-8 and the reader reads them as this value; the
-- reader reads what nests at most 127 deep
pub record IsJsonText (bytes : List ℕ) (d : Data) : Type 0 where
  pub utf8 : IsUtf8 bytes
  pub reads : read bytes ≡ Some d
