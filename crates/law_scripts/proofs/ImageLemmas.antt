-- A line that takes bytes of an image gives what the line with these bytes gives.
use Rattle.std.proofs.Common.{◌≡◌, ℕ, zero, suc, ◌+◌, ◌-◌, ◌<◌, ◌≤◌, List, [], ◌∷◌, ◌++◌, length, take, drop, replicate, get_or, Some, None, refl, sym, ap, ◌∙◌, arith, length-append, length-take}
use Rattle.std.specs.Prelude.{option_map, slice_range}
use Rattle.std.proofs.lemmas.Bool.{le-leb, le-ltb, lt-leb, lt-ltb}
use Rattle.std.proofs.lemmas.List.{length-replicate}
use Rattle.uf2_place.specs.Blocks.{written_block}
use Rattle.boot_script.specs.Events.{Uf2}
use Rattle.script_words.specs.declared.rows.Row.TheVariants as rows
use Rattle.script_words.specs.Made.{block_of, image_range, image_rest, made, made_of_image, page_of}
use Rattle.law_scripts.specs.Images.{block_line, range_line, rest_line, write_line, page_line}
use Rattle.law_scripts.proofs.LineOfLemmas.{page-whole}

-- ---- bytes of an image

range-inside : (image : List ℕ) (start size : ℕ) → start + size ≤ length image
    → image_range image start size ≡ Some (slice_range image start (start + size))
range-inside image start size inside = rw (le-leb (start + size) (length image) inside) refl

range-past : (image : List ℕ) (start size : ℕ) → length image < start + size → image_range image start size ≡ None
range-past image start size past = rw (lt-leb (start + size) (length image) past) refl

rest-inside : (image : List ℕ) (start : ℕ) → start < length image → image_rest image start ≡ Some (drop start image)
rest-inside image start inside = rw (lt-ltb start (length image) inside) refl

rest-past : (image : List ℕ) (start : ℕ) → length image ≤ start → image_rest image start ≡ None
rest-past image start past = rw (le-ltb start (length image) past) refl

-- ---- writes

pub range-line : (address start size token : ℕ) (image : List ℕ) → start + size ≤ length image
    → made rows.WriteRange (range_line address start size) token image
    ≡ made rows.Write (write_line address (slice_range image start (start + size))) token []
range-line address start size token image inside =
    ap (option_map (made_of_image rows.WriteRange (range_line address start size) token))
    (range-inside image start size inside)

pub past-range : (address start size token : ℕ) (image : List ℕ) → length image < start + size
    → made rows.WriteRange (range_line address start size) token image ≡ None
past-range address start size token image past =
    ap (option_map (made_of_image rows.WriteRange (range_line address start size) token))
    (range-past image start size past)

pub rest-line : (address start token : ℕ) (image : List ℕ) → start < length image
    → made rows.WriteRest (rest_line address start) token image
    ≡ made rows.Write (write_line address (drop start image)) token []
rest-line address start token image inside =
    ap (option_map (made_of_image rows.WriteRest (rest_line address start) token)) (rest-inside image start inside)

pub past-rest : (address start token : ℕ) (image : List ℕ) → length image ≤ start
    → made rows.WriteRest (rest_line address start) token image ≡ None
past-rest address start token image past =
    ap (option_map (made_of_image rows.WriteRest (rest_line address start) token)) (rest-past image start past)

-- ---- pages

filled : (n i : ℕ) → i < n → ◌≡◌ {A = ℕ} (get_or (replicate n 255) i 0) 255
filled zero i few = absurd (omega (arith, few))
filled (suc n) zero few = refl
filled (suc n) (suc i) few = filled n i (omega (arith, few))

page-from : (n : ℕ) (bytes : List ℕ) (i : ℕ) → i < n
    → get_or (take n bytes ++ replicate (n - length bytes) 255) i 0 ≡ get_or bytes i 255
page-from zero bytes i few = absurd (omega (arith, few))
page-from (suc n) [] i few =
    let e : suc n - length {A = ℕ} [] ≡ suc n = omega arith in
    ap (λ k. get_or (replicate k 255) i 0) e ∙ filled (suc n) i few
page-from (suc n) (b ∷ bytes) zero few = refl
page-from (suc n) (b ∷ bytes) (suc i) few =
    let e : suc n - length (b ∷ bytes) ≡ n - length bytes = omega arith in
    ap (λ k. get_or (take n bytes ++ replicate k 255) i 0) e ∙ page-from n bytes i (omega (arith, few))

-- a page has the bytes from its first on, and 0xff where there are no more
pub page-bytes : (bytes : List ℕ) (i : ℕ) → i < 256 → get_or (page_of bytes) i 0 ≡ get_or bytes i 255
page-bytes bytes i few = page-from 256 bytes i few

pub page-size : (bytes : List ℕ) → length (page_of bytes) ≡ 256
page-size bytes =
    let parts = length-append (take 256 bytes) (replicate (256 - length bytes) 255) in
    let front = length-take 256 bytes in
    let rest = length-replicate {A = ℕ} (256 - length bytes) 255 in omega (arith, parts, front, rest)

pub page-line : (number count address family start token : ℕ) (image : List ℕ) → start < length image
    → made rows.ImageBlock (page_line number count address family start) token image
    ≡ made rows.Block (block_line number count address family (page_of (drop start image))) token []
page-line number count address family start token image inside =
    ap (option_map (made_of_image rows.ImageBlock (page_line number count address family start) token))
    (rest-inside image start inside)
    ∙ ap (λ page. Some (Uf2 (written_block (block_of (page_line number count address family start) page))))
    (sym (page-whole (page_of (drop start image)) (page-size (drop start image))))

pub past-page : (number count address family start token : ℕ) (image : List ℕ) → length image ≤ start
    → made rows.ImageBlock (page_line number count address family start) token image ≡ None
past-page number count address family start token image past =
    ap (option_map (made_of_image rows.ImageBlock (page_line number count address family start) token))
    (rest-past image start past)
