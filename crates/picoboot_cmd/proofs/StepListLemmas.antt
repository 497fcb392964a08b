-- The steps of a command one after another.
use Rattle.std.proofs.Common.{◌≡◌, ℕ, suc, ◌+◌, ◌-◌, ◌*◌, ◌<◌, ◌≤◌, List, [], ◌∷◌, length, take, drop, get_or, ◌∙◌, ap, ap₂, arith}
use Rattle.std.proofs.lemmas.List.{drop-drop, drop_more, drop_all}
use Rattle.pico_board.specs.declared.Step.TheVariants.{Erase, Program, Raise}
use Rattle.picoboot_cmd.specs.Sectors.{erases}
use Rattle.picoboot_cmd.specs.Pages.{padded_page, programs_of}
use Rattle.picoboot_cmd.specs.Rows.{word_raises}

-- the erases from a sector on are that of the sector and those behind it
pub erases-first : (sector end : ℕ) → sector < end
    → erases sector (end - sector) ≡ Erase sector ∷ erases (sector + 1) (end - (sector + 1))
erases-first sector end lt =
    let more : end - sector ≡ suc (end - (sector + 1)) = omega arith in ap (λ n. erases sector n) more

pub erases-end : (sector end : ℕ) → end ≤ sector → erases sector (end - sector) ≡ []
erases-end sector end past = let none : end - sector ≡ 0 = omega arith in ap (λ n. erases sector n) none

-- the programs from a page on are that of the page and those behind it
pub programs-first : (bytes : List ℕ) (first n i : ℕ) → i < n
    → programs_of (n - i) (first + i) (drop (256 * i) bytes)
    ≡ Program (first + i) (padded_page (take 256 (drop (256 * i) bytes)))
    ∷ programs_of (n - (i + 1)) (first + (i + 1)) (drop (256 * (i + 1)) bytes)
programs-first bytes first n i lt =
    let more : n - i ≡ suc (n - (i + 1)) = omega arith in
    let page : first + i + 1 ≡ first + (i + 1) = omega arith in
    let rest : drop 256 (drop (256 * i) bytes) ≡ drop (256 * (i + 1)) bytes =
    drop-drop 256 (256 * i) bytes ∙ ap (λ k. drop k bytes) (omega arith) in
    ap (λ k. programs_of k (first + i) (drop (256 * i) bytes)) more
    ∙ ap₂
    (λ p bs. Program (first + i) (padded_page (take 256 (drop (256 * i) bytes)))
    ∷ programs_of (n - (i + 1)) p bs) page rest

pub programs-end : (bytes : List ℕ) (first n i : ℕ) → n ≤ i
    → programs_of (n - i) (first + i) (drop (256 * i) bytes) ≡ []
programs-end bytes first n i past =
    let none : n - i ≡ 0 = omega arith in ap (λ k. programs_of k (first + i) (drop (256 * i) bytes)) none

-- the raises from a row on are that of the row and those behind it
pub raises-first : (words : List ℕ) (first k : ℕ) → k < length words
    → word_raises (first + k) (drop k words)
    ≡ Raise (first + k) (get_or words k 0) ∷ word_raises (first + (k + 1)) (drop (k + 1) words)
raises-first words first k lt =
    ap (word_raises (first + k)) (drop_more words k 0 lt)
    ∙ ap (λ r. Raise (first + k) (get_or words k 0) ∷ word_raises r (drop (k + 1) words)) (omega arith)

pub raises-end : (words : List ℕ) (first k : ℕ) → length words ≤ k → word_raises (first + k) (drop k words) ≡ []
raises-end words first k past = ap (word_raises (first + k)) (drop_all k words past)
