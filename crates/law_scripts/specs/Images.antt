-- What the words behind the first say in lines of a write and of a UF2 block, with bytes or with
-- words that take bytes of an image.
use Rattle.std.specs.Prelude.{ℕ, List, [], ◌∷◌}
use Rattle.script_words.specs.Values.{ValueView, Plain, Number, Span, Bytes}

-- `write H X`
abbrev pub write_line : ℕ → List ℕ → List ValueView
write_line address bytes = Number address ∷ Bytes bytes ∷ []

-- `write H image H+H`
abbrev pub range_line : (address start size : ℕ) → List ValueView
range_line address start size = Number address ∷ Plain ∷ Span start size ∷ []

-- `write H image H+`
abbrev pub rest_line : (address start : ℕ) → List ValueView
rest_line address start = Number address ∷ Plain ∷ Number start ∷ []

-- `uf2 N of N at H family=F X`
abbrev pub block_line : (number count address family : ℕ) → List ℕ → List ValueView
block_line number count address family page =
    Number number ∷ Plain ∷ Number count ∷ Plain ∷ Number address ∷ Number family ∷ Bytes page ∷ []

-- `uf2 N of N at H family=F image H`
abbrev pub page_line : (number count address family start : ℕ) → List ValueView
page_line number count address family start =
    Number number ∷ Plain ∷ Number count ∷ Plain ∷ Number address ∷ Number family ∷ Plain
    ∷ Number start ∷ []
