-- By computing.
use Rattle.std.proofs.Common.{◌≡◌, ℕ, List, slice_index, refl, ap}
use Rattle.uf2_place.specs.Blocks.{word_bytes}
use Rattle.uf2_place.proofs.examples.bytes_that_differ_in_the_family.Goals as goal

pub returns-clause-family : goal.returns-clause-family
unfolding word_bytes
returns-clause-family c = record { front = refl; page = refl; end = refl }

pub returns-clause-not_read : goal.returns-clause-not_read
unfolding word_bytes
returns-clause-not_read c = record { front = refl; page = refl; end = refl }

pub returns-clause-longer : goal.returns-clause-longer
unfolding word_bytes
returns-clause-longer c = record { front = refl; page = refl; end = refl }

pub returns-clause-before : goal.returns-clause-before
unfolding word_bytes
returns-clause-before c = λ is.
    let no : 0 ≡ 7 = ap (λ (bytes : List ℕ). slice_index bytes 27) is.front in cc no

pub returns-clause-behind : goal.returns-clause-behind
unfolding word_bytes
returns-clause-behind c = λ is.
    let no : 0 ≡ 7 = ap (λ (bytes : List ℕ). slice_index bytes 0) is.page in cc no

pub returns-clause-page_end : goal.returns-clause-page_end
unfolding word_bytes
returns-clause-page_end c = λ is.
    let no : 0 ≡ 7 = ap (λ (bytes : List ℕ). slice_index bytes 255) is.page in cc no

pub returns-clause-last_word : goal.returns-clause-last_word
unfolding word_bytes
returns-clause-last_word c = λ is.
    let no : 0x30 ≡ 7 = ap (λ (bytes : List ℕ). slice_index bytes 0) is.end in cc no

pub returns-clause-last_byte : goal.returns-clause-last_byte
unfolding word_bytes
returns-clause-last_byte c = λ is.
    let no : 10 ≡ 7 = ap (λ (bytes : List ℕ). slice_index bytes 3) is.end in cc no
