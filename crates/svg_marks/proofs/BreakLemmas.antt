-- Words in lines: the lines are the words, each fits and ends where it must; and what each byte adds
-- to them.
use Rattle.std.proofs.Common.{◌≡◌, drop, get_or, ℕ, suc, ◌+◌, ◌<◌, ◌≤◌, ◌==◌, Bool, true, false, List, [], ◌∷◌, ◌++◌, length, refl, sym, ap, ◌∙◌, subst, arith, append_assoc, append-nil, inl, inr}
use Rattle.std.specs.Prelude.{if◌then◌else◌, ◌||◌, codes}
use Rattle.std.specs.List.{flat_map}
use Rattle.std.proofs.lemmas.Bool.{cases_lt, ltb-true, ltb-false, true≢false, false≢true}
use Rattle.std.proofs.lemmas.List.{drop_more}
use Rattle.svg_marks.specs.Breaks.{AreLines, Between, Ends, EndsBefore, Fits, Hanging, Whole, Within, broken_by, is_broken, joined, last_blank, line_length, broken_lines_from, broken_lines, needed, next_column, put, word_length}
use Rattle.svg_marks.specs.Marks.{escaped, escaped_byte, further_text, next_line_text, lines_text, text_if}
use Rattle.svg_marks.specs.Reading.{one_more}

-- a byte before the first line is one before the lines joined
joined-put : (b : ℕ) (lines : List (List ℕ)) → joined (put b lines) ≡ b ∷ joined lines
joined-put b [] = refl
joined-put b (line ∷ lines) = refl

joined-broken : (t : Bool) (lines : List (List ℕ)) → joined (broken_by t lines) ≡ joined lines
joined-broken true lines = refl
joined-broken false lines = refl

pub joined-from : (column : ℕ) (blank : Bool) (bytes : List ℕ) → joined (broken_lines_from column blank bytes) ≡ bytes
joined-from column blank [] = refl
joined-from column blank (b ∷ bytes) =
    let broken : Bool = is_broken column blank (b ∷ bytes) in
    let rest : List (List ℕ) = broken_lines_from (next_column broken column) (b == 32) bytes in
    joined-broken broken (put b rest)
    ∙ (joined-put b rest ∙ ap (λ z. b ∷ z) (joined-from (next_column broken column) (b == 32) bytes))

-- bytes that stand in the first line before the others
abbrev onto : List ℕ → List (List ℕ) → List (List ℕ)
onto front [] = front ∷ []
onto front (line ∷ lines) = (front ++ line) ∷ lines

onto-put : (front : List ℕ) (b : ℕ) (lines : List (List ℕ)) → onto front (put b lines) ≡ onto (front ++ b ∷ []) lines
onto-put front b [] = refl
onto-put front b (line ∷ lines) = ap (λ z. z ∷ lines) (sym (append_assoc front (b ∷ []) line))

put-onto : (b : ℕ) (lines : List (List ℕ)) → put b lines ≡ onto (b ∷ []) lines
put-onto b [] = refl
put-onto b (line ∷ lines) = refl

-- what is known of the bytes that stand in a line: no word has ended, the last is a blank, or the
-- word that has begun finds room
pub data Stands (front : List ℕ) (column : ℕ) (blank : Bool) (bytes : List ℕ) : Type 0 where
  Alone : blank ≡ false → column ≤ line_length → word_length front ≡ column → Stands front column blank bytes
  Behind : blank ≡ true → column ≤ line_length + 1 → Stands front column blank bytes
  Amid : blank ≡ false → column + word_length bytes ≤ line_length → Stands front column blank bytes

snoc-length : (front : List ℕ) (b : ℕ) → length (front ++ b ∷ []) ≡ length front + 1
snoc-length [] b = refl
snoc-length (a ∷ front) b =
    let before : length (front ++ b ∷ []) ≡ length front + 1 = snoc-length front b in omega (arith, before)

snoc-blank : (blank : Bool) (front : List ℕ) (b : ℕ) → last_blank blank (front ++ b ∷ []) ≡ (b == 32)
snoc-blank blank [] b = refl
snoc-blank blank (a ∷ front) b = snoc-blank (a == 32) front b

snoc-word : (front : List ℕ) (b : ℕ) → word_length front ≡ length front → (b == 32) ≡ false
    → word_length (front ++ b ∷ []) ≡ length front + 1
snoc-word [] b whole other = rw other refl
snoc-word (a ∷ front) b whole other = go (a == 32) whole (λ before. snoc-word front b before other)
  where
    go : (t : Bool) → (if t then 0 else word_length front + 1) ≡ suc (length front)
        → (word_length front ≡ length front → word_length (front ++ b ∷ []) ≡ length front + 1)
        → (if t then 0 else word_length (front ++ b ∷ []) + 1) ≡ suc (length front) + 1
    go true h more = absurd (omega (arith, h))
    go false h more =
        let before : word_length front ≡ length front = omega (arith, h) in
        let after : word_length (front ++ b ∷ []) ≡ length front + 1 = more before in
        omega (arith, after)

fits : (front : List ℕ) (column : ℕ) (blank : Bool) (bytes : List ℕ) → length front ≡ column
    → last_blank false front ≡ blank → Stands front column blank bytes → Fits front
fits front column blank bytes long last (Alone plain few word) = Whole (omega (arith, long, few))
fits front column blank bytes long last (Behind after few) = elim (cases_lt 80 column) [
  | inl lt ↦ Hanging (omega (arith, long, few, lt)) (last ∙ after)
  | inr le ↦ Whole (omega (arith, long, le))
]
fits front column blank bytes long last (Amid plain few) = Whole (omega (arith, long, few))

passed : (column : ℕ) (blank : Bool) (bytes : List ℕ) → is_broken column blank bytes ≡ true
    → 80 < column + needed blank bytes
unfolding is_broken
passed column blank bytes is = ltb-true 80 (column + needed blank bytes) is

held : (column : ℕ) (blank : Bool) (bytes : List ℕ) → is_broken column blank bytes ≡ false
    → column + needed blank bytes ≤ 80
unfolding is_broken
held column blank bytes is = ltb-false 80 (column + needed blank bytes) is

-- a line that is broken ends where it must
ends : (front : List ℕ) (column : ℕ) (blank : Bool) (b : ℕ) (bytes : List ℕ) → length front ≡ column
    → last_blank false front ≡ blank → Stands front column blank (b ∷ bytes)
    → is_broken column blank (b ∷ bytes) ≡ true → Ends front (b ∷ bytes)
ends front column true b bytes long last (Alone plain few word) is = absurd (true≢false plain)
ends front column false b bytes long last (Alone plain few word) is =
    go (b == 32) refl (passed column false (b ∷ bytes) is)
  where
    go : (t : Bool) → (b == 32) ≡ t → 80 < column + (if t then 0 else 1) → Ends front (b ∷ bytes)
    go true same h = absurd (omega (arith, few, h))
    go false other h =
        let full : column ≡ 80 = omega (arith, few, h) in
        let goes_on : 0 < word_length (b ∷ bytes) = rw other (omega arith) in
        Within (long ∙ full) (word ∙ full) goes_on
ends front column true b bytes long last (Behind after few) is =
    let more : 80 < column + word_length (b ∷ bytes) = passed column true (b ∷ bytes) is in
    Between last (subst (λ n. 80 < n + word_length (b ∷ bytes)) (sym long) more)
ends front column false b bytes long last (Behind after few) is = absurd (false≢true after)
ends front column true b bytes long last (Amid plain few) is = absurd (true≢false plain)
ends front column false b bytes long last (Amid plain few) is =
    absurd (go (b == 32) (passed column false (b ∷ bytes) is) few)
  where
    go : (t : Bool) → 80 < column + (if t then 0 else 1) → column + (if t then 0 else word_length bytes + 1) ≤ 80 → ⊥
    go true h k = omega (arith, h, k)
    go false h k = omega (arith, h, k)

-- a byte that does not break the line stands in it
stands-more : (front : List ℕ) (column : ℕ) (blank : Bool) (b : ℕ) (bytes : List ℕ) → length front ≡ column
    → Stands front column blank (b ∷ bytes) → is_broken column blank (b ∷ bytes) ≡ false
    → Stands (front ++ b ∷ []) (column + 1) (b == 32) bytes
stands-more front column true b bytes long (Alone plain few word) is = absurd (true≢false plain)
stands-more front column false b bytes long (Alone plain few word) is =
    go (b == 32) refl (held column false (b ∷ bytes) is)
  where
    go : (t : Bool) → (b == 32) ≡ t → column + (if t then 0 else 1) ≤ 80 → Stands (front ++ b ∷ []) (column + 1) t bytes
    go true same h = Behind refl (omega (arith, h))
    go false other h =
        Alone refl (omega (arith, h)) (snoc-word front b (word ∙ sym long) other ∙ ap (λ n. n + 1) long)
stands-more front column true b bytes long (Behind after few) is = go (b == 32) (held column true (b ∷ bytes) is)
  where
    go : (t : Bool) → column + (if t then 0 else word_length bytes + 1) ≤ 80
        → Stands (front ++ b ∷ []) (column + 1) t bytes
    go true h = Behind refl (omega (arith, h))
    go false h = Amid refl (omega (arith, h))
stands-more front column false b bytes long (Behind after few) is = absurd (false≢true after)
stands-more front column true b bytes long (Amid plain few) is = absurd (true≢false plain)
stands-more front column false b bytes long (Amid plain few) is = go (b == 32) few
  where
    go : (t : Bool) → column + (if t then 0 else word_length bytes + 1) ≤ 80
        → Stands (front ++ b ∷ []) (column + 1) t bytes
    go true h = Behind refl (omega (arith, h))
    go false h = Amid refl (omega (arith, h))

-- the first byte of a line
stands-first : (b : ℕ) (bytes : List ℕ) → Stands (b ∷ []) 1 (b == 32) bytes
stands-first b bytes = go (b == 32) refl
  where
    go : (t : Bool) → (b == 32) ≡ t → Stands (b ∷ []) 1 t bytes
    go true same = Behind refl (omega arith)
    go false other = Alone refl (omega arith) (rw other refl)

ends-before : (line : List ℕ) (b : ℕ) (lines : List (List ℕ)) → Ends line (b ∷ joined lines)
    → EndsBefore line (put b lines)
ends-before line b [] is = is
ends-before line b (next ∷ lines) is = is

are-from : (front : List ℕ) (column : ℕ) (blank : Bool) (bytes : List ℕ) → length front ≡ column
    → last_blank false front ≡ blank → Stands front column blank bytes
    → AreLines (onto front (broken_lines_from column blank bytes))
are-from front column blank [] long last stands =
    let whole : Fits (front ++ []) = rw (append-nil front) (fits front column blank [] long last stands) in
    (whole, tt, tt)
are-from front column blank (b ∷ bytes) long last stands =
    go (is_broken column blank (b ∷ bytes)) refl
    (are-from (b ∷ []) 1 (b == 32) bytes refl refl (stands-first b bytes))
    (λ is. are-from (front ++ b ∷ []) (column + 1) (b == 32) bytes (snoc-length front b ∙ ap (λ n. n + 1) long)
    (snoc-blank false front b) (stands-more front column blank b bytes long stands is))
  where
    go : (t : Bool) → is_broken column blank (b ∷ bytes) ≡ t
        → AreLines (onto (b ∷ []) (broken_lines_from 1 (b == 32) bytes))
        → (is_broken column blank (b ∷ bytes) ≡ false
        → AreLines (onto (front ++ b ∷ []) (broken_lines_from (column + 1) (b == 32) bytes)))
        → AreLines (onto front (broken_by t (put b (broken_lines_from (next_column t column) (b == 32) bytes))))
    go true is fresh same =
        let rest : List (List ℕ) = broken_lines_from 1 (b == 32) bytes in
        let here : Ends front (b ∷ joined rest) =
        subst (λ z. Ends front (b ∷ z)) (sym (joined-from 1 (b == 32) bytes))
        (ends front column blank b bytes long last stands is) in
        subst (λ z. AreLines (z ∷ put b rest)) (sym (append-nil front)) (
          fits front column blank (b ∷ bytes) long last stands,
          ends-before front b rest here,
          subst AreLines (sym (put-onto b rest)) fresh,
        )
    go false is fresh same =
        subst AreLines (sym (onto-put front b (broken_lines_from (column + 1) (b == 32) bytes))) (same is)

onto-none : (lines : List (List ℕ)) → 0 < length lines → onto [] lines ≡ lines
onto-none [] some = absurd (omega (arith, some))
onto-none (line ∷ lines) some = refl

some-put : (b : ℕ) (lines : List (List ℕ)) → 0 < length (put b lines)
some-put b [] = omega arith
some-put b (line ∷ lines) = omega arith

pub some-lines : (column : ℕ) (blank : Bool) (bytes : List ℕ) → 0 < length (broken_lines_from column blank bytes)
some-lines column blank [] = omega arith
some-lines column blank (b ∷ bytes) = go (is_broken column blank (b ∷ bytes))
  where
    go : (t : Bool) → 0 < length (broken_by t (put b (broken_lines_from (next_column t column) (b == 32) bytes)))
    go true = omega arith
    go false = some-put b _

pub are-lines : (words : List ℕ) → AreLines (broken_lines words)
are-lines words =
    subst AreLines (onto-none (broken_lines words) (some-lines 0 false words))
    (are-from [] 0 false words refl refl (Alone refl (omega arith) refl))

-- the next byte finds its place in the line or begins one
pub next-few : (column : ℕ) (blank : Bool) (bytes : List ℕ) → next_column (is_broken column blank bytes) column ≤ 81
next-few column blank bytes = go (is_broken column blank bytes) refl
  where
    go : (t : Bool) → is_broken column blank bytes ≡ t → next_column t column ≤ 81
    go true is = omega arith
    go false is = let h = held column blank bytes is in omega (arith, h)

-- the lines from the byte of a number on
pub lines-more : (column : ℕ) (blank : Bool) (bytes : List ℕ) (n b : ℕ) → n < length bytes → b ≡ get_or bytes n 0
    → broken_lines_from column blank (drop n bytes)
    ≡ broken_by (is_broken column blank (drop n bytes))
    (put b (broken_lines_from (next_column (is_broken column blank (drop n bytes)) column) (b == 32)
    (drop (n + 1) bytes)))
lines-more column blank bytes n b lt is =
    let more : drop n bytes ≡ b ∷ drop (n + 1) bytes =
    drop_more bytes n 0 lt ∙ ap (λ z. z ∷ drop (n + 1) bytes) (sym is) in
    rw more refl

long-put : (b : ℕ) (lines : List (List ℕ)) → 0 < length lines → length (put b lines) ≡ length lines
long-put b [] some = absurd (omega (arith, some))
long-put b (line ∷ lines) some = refl

long-broken : (t : Bool) (count : ℕ) (lines : List (List ℕ))
    → count + length (broken_by t lines) ≡ one_more t count + length lines
long-broken true count lines = omega arith
long-broken false count lines = refl

pub count-more : (column : ℕ) (blank : Bool) (bytes : List ℕ) (count n b : ℕ) → n < length bytes → b ≡ get_or bytes n 0
    → one_more (is_broken column blank (drop n bytes)) count
    + length (broken_lines_from (next_column (is_broken column blank (drop n bytes)) column) (b == 32)
    (drop (n + 1) bytes))
    ≡ count + length (broken_lines_from column blank (drop n bytes))
count-more column blank bytes count n b lt is =
    let t : Bool = is_broken column blank (drop n bytes) in
    let rest : List (List ℕ) = broken_lines_from (next_column t column) (b == 32) (drop (n + 1) bytes) in
    let some : 0 < length rest = some-lines (next_column t column) (b == 32) (drop (n + 1) bytes) in
    ap (λ k. one_more t count + k) (sym (long-put b rest some))
    ∙ (sym (long-broken t count (put b rest))
    ∙ ap (λ z. count + length z) (sym (lines-more column blank bytes n b lt is)))

pub one-few : (t : Bool) (count n : ℕ) → count ≤ n + 1 → one_more t count ≤ n + 1 + 1
one-few true count n few = omega (arith, few)
one-few false count n few = omega (arith, few)

-- a step of the count
pub count-step : (column : ℕ) (blank : Bool) (bytes : List ℕ) (count n : ℕ) (t : Bool) (next more : ℕ)
    → n < length bytes → t ≡ is_broken column blank (drop n bytes) → next ≡ next_column t column
    → more ≡ one_more t count
    → more + length (broken_lines_from next (get_or bytes n 0 == 32) (drop (n + 1) bytes))
    ≡ count + length (broken_lines_from column blank (drop n bytes))
count-step column blank bytes count n t next more lt is next_is more_is =
    rw (more_is, next_is, is) (count-more column blank bytes count n (get_or bytes n 0) lt refl)

pub next-step : (column : ℕ) (blank : Bool) (bytes : List ℕ) (t : Bool) (next : ℕ) → t ≡ is_broken column blank bytes
    → next ≡ next_column t column → next ≤ 81
next-step column blank bytes t next is next_is = rw (next_is, is) (next-few column blank bytes)

-- the text of the rest of a line, the first or a further one, and of the lines behind it
abbrev pub rest_text : ℕ → Bool → List (List ℕ) → List ℕ
rest_text x opened [] = text_if opened (codes "</tspan>")
rest_text x opened (line ∷ lines) =
    escaped line ++ (text_if opened (codes "</tspan>") ++ flat_map (further_text x) lines)

pub rest-first : (x : ℕ) (lines : List (List ℕ)) → rest_text x false lines ≡ lines_text x lines
rest-first x [] = refl
rest-first x (line ∷ lines) = refl

put-text : (x : ℕ) (opened : Bool) (b : ℕ) (lines : List (List ℕ))
    → rest_text x opened (put b lines) ≡ escaped_byte b ++ rest_text x opened lines
put-text x opened b [] =
    append_assoc (escaped_byte b) [] (text_if opened (codes "</tspan>") ++ [])
    ∙ ap (λ z. escaped_byte b ++ z) (append-nil (text_if opened (codes "</tspan>")))
put-text x opened b (line ∷ lines) =
    append_assoc (escaped_byte b) (escaped line) (text_if opened (codes "</tspan>") ++ flat_map (further_text x) lines)

put-further : (x b : ℕ) (lines : List (List ℕ))
    → flat_map (further_text x) (put b lines) ≡ next_line_text x ++ (escaped_byte b ++ rest_text x true lines)
put-further x b [] =
    append-nil (next_line_text x ++ ((escaped_byte b ++ []) ++ codes "</tspan>"))
    ∙ ap (λ z. next_line_text x ++ (z ++ codes "</tspan>")) (append-nil (escaped_byte b))
put-further x b (line ∷ lines) =
    let behind : List ℕ = flat_map (further_text x) lines in
    append_assoc (next_line_text x) ((escaped_byte b ++ escaped line) ++ codes "</tspan>") behind
    ∙ ap (λ z. next_line_text x ++ z) (append_assoc (escaped_byte b ++ escaped line) (codes "</tspan>") behind
    ∙ append_assoc (escaped_byte b) (escaped line) (codes "</tspan>" ++ behind))

-- what stands before a byte that begins a line or not, in a further line or not
abbrev pub break_text : ℕ → Bool → Bool → List ℕ
break_text x opened broken = text_if broken (text_if opened (codes "</tspan>") ++ next_line_text x)

broken-text : (x : ℕ) (opened t : Bool) (b : ℕ) (lines : List (List ℕ))
    → rest_text x opened (broken_by t (put b lines))
    ≡ break_text x opened t ++ (escaped_byte b ++ rest_text x (opened || t) lines)
broken-text x true true b lines =
    ap (λ z. codes "</tspan>" ++ z) (put-further x b lines)
broken-text x false true b lines = put-further x b lines
broken-text x true false b lines = put-text x true b lines
broken-text x false false b lines = put-text x false b lines

pub text-more : (x column : ℕ) (blank opened : Bool) (bytes out : List ℕ) (n b : ℕ)
    → n < length bytes → b ≡ get_or bytes n 0
    → ((out ++ break_text x opened (is_broken column blank (drop n bytes))) ++ escaped_byte b)
    ++ rest_text x (opened || is_broken column blank (drop n bytes))
    (broken_lines_from (next_column (is_broken column blank (drop n bytes)) column) (b == 32) (drop (n + 1) bytes))
    ≡ out ++ rest_text x opened (broken_lines_from column blank (drop n bytes))
text-more x column blank opened bytes out n b lt is =
    let t : Bool = is_broken column blank (drop n bytes) in
    let rest : List (List ℕ) = broken_lines_from (next_column t column) (b == 32) (drop (n + 1) bytes) in
    append_assoc (out ++ break_text x opened t) (escaped_byte b) (rest_text x (opened || t) rest)
    ∙ (append_assoc out (break_text x opened t) (escaped_byte b ++ rest_text x (opened || t) rest)
    ∙ ap (λ z. out ++ z) (sym (broken-text x opened t b rest)
    ∙ ap (λ z. rest_text x opened z) (sym (lines-more column blank bytes n b lt is))))

-- a step of the text
pub text-step : (x column : ℕ) (blank opened : Bool) (bytes out : List ℕ) (n : ℕ) (t further : Bool) (next : ℕ)
    (mid end : List ℕ) → n < length bytes → t ≡ is_broken column blank (drop n bytes) → next ≡ next_column t column
    → further ≡ (opened || t) → mid ≡ out ++ break_text x opened t → end ≡ mid ++ escaped_byte (get_or bytes n 0)
    → end ++ rest_text x further (broken_lines_from next (get_or bytes n 0 == 32) (drop (n + 1) bytes))
    ≡ out ++ rest_text x opened (broken_lines_from column blank (drop n bytes))
text-step x column blank opened bytes out n t further next mid end lt is next_is further_is mid_is end_is =
    rw (end_is, mid_is, further_is, next_is, is)
    (text-more x column blank opened bytes out n (get_or bytes n 0) lt refl)
