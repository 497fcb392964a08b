-- The words that stand as they are, and what stands in front of a value.
use Rattle.std.specs.Prelude.{ℕ, List, codes}
use Rattle.script_words.specs.declared.forms.Keyword.{Keyword}
use Rattle.script_words.specs.declared.forms.Keyword.TheVariants.{Normal, Bootsel, Update, Ram, Before, Within, Table, Target, Device, Partition, Of, At, Image, Family, Token}

-- the text of a keyword
abbrev pub keyword_text : Keyword → List ℕ
keyword_text Normal = codes "normal"
keyword_text Bootsel = codes "bootsel"
keyword_text Update = codes "update="
keyword_text Ram = codes "ram="
keyword_text Before = codes "before"
keyword_text Within = codes "within"
keyword_text Table = codes "table"
keyword_text Target = codes "target="
keyword_text Device = codes "device"
keyword_text Partition = codes "partition="
keyword_text Of = codes "of"
keyword_text At = codes "at"
keyword_text Image = codes "image"
keyword_text Family = codes "family="
keyword_text Token = codes "token="
