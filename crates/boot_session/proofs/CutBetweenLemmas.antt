-- The session that is cut between two pages, by computing. A step of the whole flash computes 262144
-- bytes: so the steps are proved on pieces of the flash, and only their pages are computed.
use Rattle.std.proofs.Common.{◌≡◌, ◌≤◌, ℕ, ◌+◌, ◌-◌, ◌*◌, List, [], ◌∷◌, ◌++◌, length, replicate, inl, inr, refl, sym, ap, ◌∙◌, arith, false, None}
use Rattle.std.specs.Prelude.{bit_and, slice_index}
use Rattle.std.proofs.Math.Dec.{lit<, lit≤}
use Rattle.std.proofs.lemmas.List.{append_assoc, get_or-append_right, length-append, length-replicate, replicate-append-replicate}
use Rattle.pico_board.specs.Content.{Content}
use Rattle.pico_board.specs.Sessions.{Unfinished}
use Rattle.pico_board.specs.declared.Step.TheVariants.{Erase, Program}
use Rattle.pico_board.specs.Steps.{CutOf, after, after_all, changed, changed_from}
use Rattle.pico_board.specs.declared.boot.BootKind.TheVariants.{Normal}
use Rattle.pico_board.specs.declared.boot.Cpu.TheVariants.{Arm}
use Rattle.block_codec.specs.Words.{bytes_of, word_bytes, word_of}
use Rattle.block_codec.proofs.WordLemmas.{length-bytes_of}
use Rattle.block_codec.specs.Blocks.{frame}
use Rattle.block_codec.specs.Items.{size_of}
use Rattle.block_codec.specs.Reading.{block_at, front_block, item_words}
use Rattle.block_loop.specs.Loop.{block_from, follow, loop_of}
use Rattle.image_def.specs.Definition.{def_of}
use Rattle.image_check.specs.Image.{image_in}
use Rattle.worked_flashes.specs.Tables.{pair_items}
use Rattle.worked_flashes.specs.Flashes.{arm_member, bare, framed, region, rows_with}
use Rattle.boot_rules.specs.declared.decision.Decision.TheVariants.{Start}
use Rattle.boot_rules.specs.Choosing.{decision_in, images_in}
use Rattle.boot_rules.specs.Tables.{table_in}
use Rattle.boot_rules.proofs.DecisionLemmas.{valid-found}
use Rattle.worked_flashes.proofs.ContentLemmas.{torn-before}
use Rattle.boot_rules.specs.AccidentalImages.{HasNoAccidentalImage}
use Rattle.worked_flashes.specs.Flashes.{begins_with, beside_former, block_page, vector_page}
use Rattle.worked_flashes.specs.Writes.{plain_steps, slot}
use Rattle.worked_flashes.specs.Choices.{finished_start, former_start}
use Rattle.boot_session.proofs.ChangedPieceLemmas.{changed-behind, changed-piece, changed_from-erased}
use Rattle.boot_session.proofs.ExampleLemmas.{before, differ, none-some}

abbrev pub halfway : Content
halfway = beside_former (begins_with vector_page)

abbrev pub finished : Content
finished = beside_former (arm_member 0x0001000a)

-- n bytes of an erased flash
abbrev erased : ℕ → List ℕ
erased n = replicate n 255

-- two erased pieces, one behind the other
erased-append : (m n k : ℕ) → m + n ≡ k → erased m ++ erased n ≡ erased k
erased-append m n k is =
    let x : ℕ = 255 in replicate-append-replicate m n x ∙ ap (λ (j : ℕ). replicate j x) is

-- lengths of pieces
long-append : (xs ys : List ℕ) (m n : ℕ) → length xs ≡ m → length ys ≡ n → length (xs ++ ys) ≡ m + n
long-append xs ys m n one two = omega (arith, length-append xs ys)

long-region : (n : ℕ) (words : List ℕ) → 4 * length words ≤ n → length (region n words) ≡ n
long-region n words fits =
    let x : ℕ = 255 in
    omega (
      arith,
      length-append (bytes_of words) (replicate (n - 4 * length words) x),
      length-bytes_of words,
      length-replicate (n - 4 * length words) x,
    )

-- a region that is longer by n bytes
region-append : (m n k : ℕ) (words : List ℕ) → 4 * length words ≤ m → m + n ≡ k
    → region m words ++ erased n ≡ region k words
region-append m n k words fits is =
    append_assoc (bytes_of words) (erased (m - 4 * length words)) (erased n)
    ∙ ap (λ (xs : List ℕ). bytes_of words ++ xs)
    (erased-append (m - 4 * length words) n (k - 4 * length words) (omega (arith, fits, is)))

-- the flash before the slot
abbrev front : List ℕ
front = region 0x2000 (framed pair_items 0) ++ arm_member 0x00010009

front-long : length front ≡ 0x20000
front-long =
    long-append _ _ 0x2000 0x1e000 (long-region 0x2000 (framed pair_items 0) (lit≤ tt))
    (long-append _ _ 0x100 0x1df00 (long-region 0x100 (0x20082000 ∷ 0x10000201 ∷ []) (lit≤ tt))
    (long-region 0x1df00 (framed (0x10210142 ∷ 0x00000248 ∷ 0x00010009 ∷ []) 0) (lit≤ tt)))

abbrev content_of : List ℕ → Content
content_of flash = record { flash = flash; otp = rows_with 0 0 }

-- what stands in the slot, behind the front
in-slot : (b : List ℕ) → content_of (front ++ (b ++ erased 0x2000)) ≡ beside_former b
in-slot b =
    ap content_of
    (append_assoc (region 0x2000 (framed pair_items 0)) (arm_member 0x00010009) (b ++ erased 0x2000))

before-pieces : content_of (front ++ erased 0x20000) ≡ before
before-pieces =
    ap (λ (xs : List ℕ). content_of (front ++ xs)) (sym (erased-append 0x1e000 0x2000 0x20000 refl)) ∙ in-slot bare

vector-long : length vector_page ≡ 0x100
vector-long = long-region 0x100 (0x20082000 ∷ 0x10000201 ∷ []) (lit≤ tt)

halfway-pieces : content_of (front ++ (vector_page ++ erased 0x1ff00)) ≡ halfway
halfway-pieces =
    let more = 0x1e000 - length vector_page in
    ap (λ (xs : List ℕ). content_of (front ++ xs))
    (ap (λ (xs : List ℕ). vector_page ++ xs)
    (sym (erased-append more 0x2000 0x1ff00 (ap (λ (n : ℕ). 0x1e000 - n + 0x2000) vector-long)))
    ∙ sym (append_assoc vector_page (erased more) (erased 0x2000)))
    ∙ in-slot (begins_with vector_page)

finished-pieces : content_of ((front ++ vector_page) ++ (block_page 0x0001000a ++ erased 0x1fe00)) ≡ finished
finished-pieces =
    let words = framed (0x10210142 ∷ 0x00000248 ∷ 0x0001000a ∷ []) 0 in
    ap content_of
    (append_assoc front vector_page (block_page 0x0001000a ++ erased 0x1fe00)
    ∙ ap (λ (xs : List ℕ). front ++ xs)
    (ap (λ (xs : List ℕ). vector_page ++ xs)
    (region-append 0x100 0x1fe00 0x1ff00 words (lit≤ tt) refl
    ∙ sym (region-append 0x1df00 0x2000 0x1ff00 words (lit≤ tt) refl))
    ∙ sym (append_assoc vector_page (region 0x1df00 words) (erased 0x2000))))
    ∙ in-slot (arm_member 0x0001000a)

-- an erased flash is erased again
erase-again : after before (Erase 32) ≡ before
erase-again =
    ap (λ (c : Content). after c (Erase 32)) (sym before-pieces)
    ∙ ap content_of
    (changed-behind (λ i b. 255) 0x20000 0x1000 front (erased 0x20000) front-long
    ∙ ap (λ (xs : List ℕ). front ++ xs)
    (changed_from-erased 0x20000 (λ i b. 255) 0x20000 0x1000 0x20000 (λ i. refl)))
    ∙ before-pieces

-- the program of an erased page, where it leaves these bytes on that page
program-erased : (p m k : ℕ) (bytes first : List ℕ) → length first ≡ 256 * p → 256 + m ≡ k
    → changed_from (256 * p) (λ i b. bit_and b (slice_index bytes i)) (256 * p) 256 (erased 256) ≡ bytes
    → after (content_of (first ++ erased k)) (Program p bytes) ≡ content_of (first ++ (bytes ++ erased m))
program-erased p m k bytes first long is page =
    ap content_of
    (ap (λ (xs : List ℕ). changed (λ i b. bit_and b (slice_index bytes i)) (256 * p) 256 (first ++ xs))
    (sym (erased-append 256 m k is))
    ∙ changed-piece (λ i b. bit_and b (slice_index bytes i)) (256 * p) 256 first (erased 256) (erased m) bytes long
    refl page)

vector-there : after before (Program 512 vector_page) ≡ halfway
unfolding word_bytes
vector-there =
    ap (λ (c : Content). after c (Program 512 vector_page)) (sym before-pieces)
    ∙ program-erased 512 0x1ff00 0x20000 vector_page front front-long refl refl
    ∙ halfway-pieces

block-there : after halfway (Program 513 (block_page 0x0001000a)) ≡ finished
unfolding word_bytes
block-there =
    ap (λ (c : Content). after c (Program 513 (block_page 0x0001000a)))
    (sym (ap content_of (append_assoc front vector_page (erased 0x1ff00)) ∙ halfway-pieces))
    ∙ program-erased 513 0x1fe00 0x1ff00 (block_page 0x0001000a) (front ++ vector_page)
    (long-append front vector_page 0x20000 0x100 front-long vector-long) refl refl
    ∙ finished-pieces

first-two : after (after before (Erase 32)) (Program 512 vector_page) ≡ halfway
first-two = ap (λ (c : Content). after c (Program 512 vector_page)) erase-again ∙ vector-there

pub cut : CutOf before plain_steps halfway
cut = inr (inr (inl (torn-before _ halfway 513 (block_page 0x0001000a) first-two)))

pub done : after_all before plain_steps ≡ finished
done = ap (λ (c : Content). after c (Program 513 (block_page 0x0001000a))) first-two ∙ block-there

-- a byte behind the front
byte-at : (b : List ℕ) (i x : ℕ) → 0x20000 ≤ i → slice_index (b ++ erased 0x2000) (i - 0x20000) ≡ x
    → slice_index (beside_former b).flash i ≡ x
byte-at b i x le is =
    ap (λ (c : Content). slice_index c.flash i) (sym (in-slot b))
    ∙ get_or-append_right front (b ++ erased 0x2000) 0x20000 i 0 front-long le
    ∙ is

-- the slot's first byte, and the first byte of its second page
vector-first : slice_index halfway.flash 0x20000 ≡ 0
unfolding word_bytes
vector-first = byte-at (begins_with vector_page) 0x20000 0 (lit≤ tt) refl

block-missing : slice_index halfway.flash 0x20100 ≡ 255
unfolding word_bytes
block-missing = byte-at (begins_with vector_page) 0x20100 255 (lit≤ tt) refl

block-first : slice_index finished.flash 0x20100 ≡ 0xd3
unfolding word_bytes
block-first = byte-at (arm_member 0x0001000a) 0x20100 0xd3 (lit≤ tt) refl

pub unfinished : Unfinished before plain_steps slot halfway
unfinished = record {
  moved =
      differ halfway before 0x20000 0 255 vector-first (byte-at bare 0x20000 255 (lit≤ tt) refl)
      (λ e. omega (arith, e));
  short = λ same.
      differ halfway finished 0x20100 255 0xd3 block-missing block-first (λ e. omega (arith, e)) (same ∙ done);
  touched = (0, lit< tt, λ e. let z : 0 ≡ 255 = sym vector-first ∙ e in absurd (omega (arith, z)));
}

-- what a boot decides
pub former-halfway : decision_in halfway Arm Normal ≡ Start former_start
unfolding table_in decision_in image_in def_of loop_of follow block_from block_at front_block item_words frame size_of
    word_of word_bytes
former-halfway = refl

pub finished-start : decision_in finished Arm Normal ≡ Start finished_start
unfolding table_in decision_in image_in def_of loop_of follow block_from block_at front_block item_words frame size_of
    word_of word_bytes
finished-start = refl

-- the tables before and after the cut, and that it leaves no accidental image
pub same-table : table_in halfway ≡ table_in before
unfolding table_in loop_of follow block_from block_at front_block item_words frame size_of word_of word_bytes
same-table = refl

pub table-after : table_in finished ≡ table_in before
unfolding table_in loop_of follow block_from block_at front_block item_words frame size_of word_of word_bytes
table-after = refl

pub no-image : images_in halfway Arm slot false ≡ None
unfolding image_in def_of loop_of follow block_from block_at front_block item_words frame size_of word_of word_bytes
no-image = refl

pub accident_free : HasNoAccidentalImage before finished halfway slot Arm
accident_free = record {
  table = same-table;
  image = inl (λ s valid. none-some _ s no-image (valid-found halfway Arm slot false s valid));
}
