-- What is read of lines is what they mean, and their fault is the first.
use Rattle.std.proofs.Common.{◌≡◌, ◌≢◌, ℕ, ◌+◌, ◌<◌, ◌≤◌, Bool, true, false, List, [], ◌∷◌, ◌++◌, length, Option, Some, None, refl, sym, ap, subst, ◌∙◌, arith, append-nil, inl, inr}
use Rattle.std.specs.Prelude.{Result, Ok, Err, if◌then◌else◌, nat_le, nat_lt, unwrap_or}
use Rattle.std.proofs.lemmas.Bool.{cases_lt, lt-ltb, le-leb, le-ltb, lt-leb}
use Rattle.boot_script.specs.Events.{EventView}
use Rattle.boot_script.specs.Written.{written_event}
use Rattle.boot_script.specs.Scripts.{is_end}
use Rattle.boot_script.specs.declared.limits.TheConstants.{SCRIPT_LIMIT}
use Rattle.script_words.specs.declared.fault.LineFault.{LineFault}
use Rattle.script_words.specs.Splitting.{words_in}
use Rattle.script_words.specs.Values.{LineView}
use Rattle.script_words.specs.Finding.{line_in}
use Rattle.script_words.specs.Made.{made}
use Rattle.script_text.specs.declared.script.TextError.{TextError}
use Rattle.script_text.specs.declared.script.TextError.TheVariants.{Line, Memory}
use Rattle.script_text.specs.declared.script.TextFault.{TextFault}
use Rattle.script_text.specs.declared.script.TextFault.TheVariants.{BehindEnd, Words, Image, TooMany, TooLong}
use Rattle.script_text.specs.declared.script.TheConstants.{MOST_RECORDS}
use Rattle.script_text.specs.Reading.{Before, Step, Passed, Ends, Adds_event, behind, behind_end, found, line_step, lines_of, read_lines, room_step, said_step, start, text_events, then_lines, with_events}
use Rattle.script_text.specs.Meaning.{Gives, HasRoomFor, IsLineFault, IsPassed, IsRecord, IsScriptText, IsScriptTextFault}
use Rattle.script_text.proofs.ReadLemmas.{step-behind_end, step-end, step-event, step-fault, with-more, with-none}

-- ---- a line alone

room-by : (s : Before) (e : EventView) (full past : Bool) → nat_le MOST_RECORDS s.count ≡ full
    → nat_lt SCRIPT_LIMIT (s.size + length (written_event e) + 1) ≡ past
    → room_step s e ≡ (if full then Err TooMany else if past then Err TooLong else Ok (Adds_event e))
room-by s e full past first second = rw (first, second) refl

room-fits : (s : Before) (e : EventView) → HasRoomFor s e → room_step s e ≡ Ok (Adds_event e)
room-fits s e room =
    room-by s e false false (lt-leb MOST_RECORDS s.count room.few)
    (le-ltb SCRIPT_LIMIT (s.size + length (written_event e) + 1) room.short)

room-many : (s : Before) (e : EventView) → MOST_RECORDS ≤ s.count → room_step s e ≡ Err TooMany
room-many s e full =
    room-by s e true (nat_lt SCRIPT_LIMIT (s.size + length (written_event e) + 1))
    (le-leb MOST_RECORDS s.count full) refl

room-long : (s : Before) (e : EventView) → s.count < MOST_RECORDS
    → SCRIPT_LIMIT < s.size + length (written_event e) + 1 → room_step s e ≡ Err TooLong
room-long s e few past =
    room-by s e false true (lt-leb MOST_RECORDS s.count few)
    (lt-ltb SCRIPT_LIMIT (s.size + length (written_event e) + 1) past)

-- a fault of the rules is that of the line's step
fault-step : (image : List ℕ) (s : Before) (line : List ℕ) (fault : TextFault) → IsLineFault image s line fault
    → line_step image s (words_in line) ≡ Err fault
fault-step image s line BehindEnd is = step-behind_end image s (words_in line) is.0 is.1
fault-step image s line (Words fault) is =
    step-fault image s (words_in line) (Words fault) is.0 is.1 is.2
fault-step image s line Image is = step-fault image s (words_in line) Image is.0 is.1 is.2
fault-step image s line TooMany (e, rec, more, full) =
    step-event image s (words_in line) e rec.words rec.going rec.gives more ∙ room-many s e full
fault-step image s line TooLong (e, rec, more, few, past) =
    step-event image s (words_in line) e rec.words rec.going rec.gives more ∙ room-long s e few past

-- what a line is, by its step
data LineCase (image : List ℕ) (s : Before) (line : List ℕ) (r : Result Step TextFault) : Type 0 where
  is_passed : IsPassed line → r ≡ Ok Passed → LineCase image s line r
  is_last : (e : EventView) → IsRecord image s line e → is_end e ≡ true → r ≡ Ok Ends → LineCase image s line r
  is_event : (e : EventView) → IsRecord image s line e → is_end e ≡ false → HasRoomFor s e
      → r ≡ Ok (Adds_event e) → LineCase image s line r
  is_fault : (fault : TextFault) → IsLineFault image s line fault → r ≡ Err fault → LineCase image s line r

event-case : (image : List ℕ) (s : Before) (line : List ℕ) (e : EventView) → IsRecord image s line e
    → is_end e ≡ false → LineCase image s line (line_step image s (words_in line))
event-case image s line e rec more =
    let total = s.size + length (written_event e) + 1 in
    let is = step-event image s (words_in line) e rec.words rec.going rec.gives more in
    elim (cases_lt s.count MOST_RECORDS) [
      | inl few ↦ elim (cases_lt SCRIPT_LIMIT total) [
        | inl past ↦ is_fault TooLong (e, rec, more, few, past) (is ∙ room-long s e few past)
        | inr short ↦
            let room : HasRoomFor s e = record { few = few; short = short } in
            is_event e rec more room (is ∙ room-fits s e room)
      ]
      | inr full ↦ is_fault TooMany (e, rec, more, full) (is ∙ room-many s e full)
    ]

record-case : (image : List ℕ) (s : Before) (line : List ℕ) (e : EventView) → IsRecord image s line e
    → LineCase image s line (line_step image s (words_in line))
record-case image s line e rec = by_end (is_end e) refl
  where
    by_end : (t : Bool) → is_end e ≡ t → LineCase image s line (line_step image s (words_in line))
    by_end true ends =
        is_last e rec ends (step-end image s (words_in line) e rec.words rec.going rec.gives ends)
    by_end false more = event-case image s line e rec more

some-case : (image : List ℕ) (s : Before) (line : List ℕ) → words_in line ≢ [] → s.ended ≡ false
    → LineCase image s line (line_step image s (words_in line))
some-case image s line some going = by_line (line_in (words_in line)) refl
  where
    by_made : (l : LineView) → line_in (words_in line) ≡ Ok l → (m : Option EventView)
        → made l.row l.values (unwrap_or l.token s.next) image ≡ m
        → LineCase image s line (line_step image s (words_in line))
    by_made l is None gives =
        let step = ap (said_step image s.next) is ∙ ap found gives in
        is_fault Image (some, going, step) (step-fault image s (words_in line) Image some going step)
    by_made l is (Some e) gives =
        record-case image s line e
        (record { words = some; going = going; gives = ap (said_step image s.next) is ∙ ap found gives })

    by_line : (r : Result LineView LineFault) → line_in (words_in line) ≡ r
        → LineCase image s line (line_step image s (words_in line))
    by_line (Err f) is =
        let step = ap (said_step image s.next) is in
        is_fault (Words f) (some, going, step) (step-fault image s (words_in line) (Words f) some going step)
    by_line (Ok l) is = by_made l is (made l.row l.values (unwrap_or l.token s.next) image) refl

line-case : (image : List ℕ) (s : Before) (line : List ℕ)
    → LineCase image s line (line_step image s (words_in line))
line-case image s line = by_words (words_in line) refl
  where
    by_ended : (t : Bool) → s.ended ≡ t → words_in line ≢ []
        → LineCase image s line (line_step image s (words_in line))
    by_ended true ended some =
        is_fault BehindEnd (some, ended) (step-behind_end image s (words_in line) some ended)
    by_ended false going some = some-case image s line some going

    by_words : (ws : List (List ℕ)) → words_in line ≡ ws
        → LineCase image s line (line_step image s (words_in line))
    by_words [] is = is_passed is (ap (line_step image s) is)
    by_words (w ∷ ws) is = by_ended s.ended refl (λ none. absurd (cc (sym none ∙ is)))

-- ---- lines that give events are read as these

abbrev step-read : (image : List ℕ) (n : ℕ) (s : Before) (line : List ℕ) (lines : List (List ℕ))
    (r : Result Step TextFault) → line_step image s (words_in line) ≡ r
    → read_lines image n s (line ∷ lines) ≡ then_lines n s r (λ t. read_lines image (n + 1) t lines)
step-read image n s line lines r is = ap (λ x. then_lines n s x (λ t. read_lines image (n + 1) t lines)) is

at-number : (image : List ℕ) (n m : ℕ) (s : Before) (lines : List (List ℕ)) → n ≡ m
    → read_lines image n s lines ≡ read_lines image m s lines
at-number image n m s lines same = ap (λ k. read_lines image k s lines) same

pub gives-read : (image : List ℕ) (front tail : List (List ℕ)) (n : ℕ) (s t : Before) (es : List EventView)
    → Gives image s front es t
    → read_lines image n s (front ++ tail) ≡ with_events es (read_lines image (n + length front) t tail)
gives-read image [] tail n s t es is =
    at-number image n (n + 0) s tail (omega arith)
    ∙ ap (λ u. read_lines image (n + 0) u tail) (sym is.1)
    ∙ sym (with-none (read_lines image (n + 0) t tail))
    ∙ ap (λ xs. with_events xs (read_lines image (n + 0) t tail)) (sym is.0)
gives-read image (line ∷ front) tail n s t es (inl (passed, more)) =
    step-read image n s line (front ++ tail) (Ok Passed) (ap (line_step image s) passed)
    ∙ gives-read image front tail (n + 1) s t es more
    ∙ ap (with_events es) (at-number image (n + 1 + length front) (n + length (line ∷ front)) t tail (omega arith))
gives-read image (line ∷ front) tail n s t es (inr (inl (e, rec, ends, more))) =
    step-read image n s line (front ++ tail) (Ok Ends)
    (step-end image s (words_in line) e rec.words rec.going rec.gives ends)
    ∙ gives-read image front tail (n + 1) (behind_end s) t es more
    ∙ ap (with_events es) (at-number image (n + 1 + length front) (n + length (line ∷ front)) t tail (omega arith))
gives-read image (line ∷ front) tail n s t es (inr (inr (e, others, rec, inside, room, all, more))) =
    step-read image n s line (front ++ tail) (Ok (Adds_event e))
    (step-event image s (words_in line) e rec.words rec.going rec.gives inside ∙ room-fits s e room)
    ∙ ap (with_events (e ∷ [])) (gives-read image front tail (n + 1) (behind s e) t others more)
    ∙ sym (with-more (e ∷ []) others (read_lines image (n + 1 + length front) t tail))
    ∙ ap (with_events (e ∷ others))
    (at-number image (n + 1 + length front) (n + length (line ∷ front)) t tail (omega arith))
    ∙ ap (λ xs. with_events xs (read_lines image (n + length (line ∷ front)) t tail)) (sym all)

pub text-read : (image text : List ℕ) (es : List EventView) → IsScriptText image text es
    → text_events image text ≡ Ok es
text-read image text es (t, gives) =
    ap (λ lines. read_lines image 1 start lines) (sym (append-nil (lines_of text)))
    ∙ gives-read image (lines_of text) [] 1 start t es gives
    ∙ ap Ok (append-nil es)

pub fault-comes : (image text : List ℕ) (error : TextError) → IsScriptTextFault image text error
    → text_events image text ≡ Err error
fault-comes image text Memory is = absurd is
fault-comes image text (Line n fault) is =
    let number : 1 + length is.front ≡ n = omega (arith, is.number) in
    ap (λ lines. read_lines image 1 start lines) is.lines
    ∙ gives-read image is.front (is.line ∷ is.rest) 1 start is.before is.es is.gives
    ∙ ap (with_events is.es)
    (step-read image (1 + length is.front) is.before is.line is.rest (Err fault)
    (fault-step image is.before is.line fault is.wrong))
    ∙ ap (λ k. Err (Line k fault)) number

-- ---- what is read of lines

-- events behind the first one
record Rest (e : EventView) (r : Result (List EventView) TextError) (es : List EventView) : Type 0 where
  others : List EventView
  read : r ≡ Ok others
  all : es ≡ e ∷ others

rest-of : (e : EventView) (r : Result (List EventView) TextError) (es : List EventView)
    → with_events (e ∷ []) r ≡ Ok es → Rest e r es
rest-of e (Ok others) es is = record { others = others; read = refl; all = cc }
rest-of e (Err fault) es is = absurd (cc is)

abbrev MeansOf : List ℕ → List (List ℕ) → Type 0
MeansOf image lines = (n : ℕ) (s : Before) (es : List EventView) → read_lines image n s lines ≡ Ok es
    → (t : Before) × Gives image s lines es t

case-means : (image : List ℕ) (n : ℕ) (s : Before) (line : List ℕ) (lines : List (List ℕ)) (es : List EventView)
    → MeansOf image lines → (r : Result Step TextFault)
    → then_lines n s r (λ t. read_lines image (n + 1) t lines) ≡ Ok es → LineCase image s line r
    → (t : Before) × Gives image s (line ∷ lines) es t
case-means image n s line lines es ih r is (is_passed passed step) =
    let m = ih (n + 1) s es (ap (λ x. then_lines n s x (λ t. read_lines image (n + 1) t lines)) (sym step) ∙ is) in
    (m.0, inl (passed, m.1))
case-means image n s line lines es ih r is (is_last e rec ends step) =
    let m = ih (n + 1) (behind_end s) es
    (ap (λ x. then_lines n s x (λ t. read_lines image (n + 1) t lines)) (sym step) ∙ is) in
    (m.0, inr (inl (e, rec, ends, m.1)))
case-means image n s line lines es ih r is (is_event e rec more room step) =
    let rest = rest-of e (read_lines image (n + 1) (behind s e) lines) es
    (ap (λ x. then_lines n s x (λ t. read_lines image (n + 1) t lines)) (sym step) ∙ is) in
    let m = ih (n + 1) (behind s e) rest.others rest.read in
    (m.0, inr (inr (e, rest.others, rec, more, room, rest.all, m.1)))
case-means image n s line lines es ih r is (is_fault fault wrong step) =
    absurd (cc (ap (λ x. then_lines n s x (λ t. read_lines image (n + 1) t lines)) (sym step) ∙ is))

lines-mean : (image : List ℕ) (lines : List (List ℕ)) → MeansOf image lines
lines-mean image [] n s es is = let none : es ≡ [] = cc is in (s, (none, refl))
lines-mean image (line ∷ lines) n s es is =
    case-means image n s line lines es (lines-mean image lines) (line_step image s (words_in line)) is
    (line-case image s line)

pub text-means : (image text : List ℕ) (es : List EventView) → text_events image text ≡ Ok es
    → IsScriptText image text es
text-means image text es is = lines-mean image (lines_of text) 1 start es is

-- ---- the first fault

record Fails (image : List ℕ) (n : ℕ) (s : Before) (lines : List (List ℕ)) (error : TextError) : Type 0 where
  front : List (List ℕ)
  line : List ℕ
  rest : List (List ℕ)
  all : lines ≡ front ++ (line ∷ rest)
  es : List EventView
  before : Before
  gives : Gives image s front es before
  fault : TextFault
  told : error ≡ Line (n + length front) fault
  wrong : IsLineFault image before line fault

err-of : (e : EventView) (r : Result (List EventView) TextError) (error : TextError)
    → with_events (e ∷ []) r ≡ Err error → r ≡ Err error
err-of e (Ok others) error is = absurd (cc is)
err-of e (Err wrong_is) error is = is

-- a line before those that fail
fails-more : (image : List ℕ) (n : ℕ) (s t : Before) (line : List ℕ) (lines : List (List ℕ)) (error : TextError)
    (join : List EventView → List EventView)
    → ((front : List (List ℕ)) (es : List EventView) (u : Before) → Gives image t front es u
    → Gives image s (line ∷ front) (join es) u)
    → Fails image (n + 1) t lines error → Fails image n s (line ∷ lines) error
fails-more image n s t line lines error join step f = record {
  front = line ∷ f.front;
  line = f.line;
  rest = f.rest;
  all = ap (λ ls. line ∷ ls) f.all;
  es = join f.es;
  before = f.before;
  gives = step f.front f.es f.before f.gives;
  fault = f.fault;
  told = f.told ∙ ap (λ k. Line k f.fault) (omega arith);
  wrong = f.wrong;
}

abbrev FailsOf : List ℕ → List (List ℕ) → Type 0
FailsOf image lines = (n : ℕ) (s : Before) (error : TextError) → read_lines image n s lines ≡ Err error
    → Fails image n s lines error

case-fails : (image : List ℕ) (n : ℕ) (s : Before) (line : List ℕ) (lines : List (List ℕ)) (error : TextError)
    → FailsOf image lines → (r : Result Step TextFault)
    → then_lines n s r (λ t. read_lines image (n + 1) t lines) ≡ Err error → LineCase image s line r
    → Fails image n s (line ∷ lines) error
case-fails image n s line lines error ih r is (is_passed passed step) =
    fails-more image n s s line lines error (λ es. es) (λ front es u gives. inl (passed, gives))
    (ih (n + 1) s error (ap (λ x. then_lines n s x (λ t. read_lines image (n + 1) t lines)) (sym step) ∙ is))
case-fails image n s line lines error ih r is (is_last e rec ends step) =
    fails-more image n s (behind_end s) line lines error (λ es. es)
    (λ front es u gives. inr (inl (e, rec, ends, gives)))
    (ih (n + 1) (behind_end s) error
    (ap (λ x. then_lines n s x (λ t. read_lines image (n + 1) t lines)) (sym step) ∙ is))
case-fails image n s line lines error ih r is (is_event e rec more room step) =
    fails-more image n s (behind s e) line lines error (λ es. e ∷ es)
    (λ front es u gives. inr (inr (e, es, rec, more, room, refl, gives)))
    (ih (n + 1) (behind s e) error (err-of e (read_lines image (n + 1) (behind s e) lines) error
    (ap (λ x. then_lines n s x (λ t. read_lines image (n + 1) t lines)) (sym step) ∙ is)))
case-fails image n s line lines error ih r is (is_fault fault wrong step) =
    let same : Err (Line n fault) ≡ Err error =
    ap (λ x. then_lines n s x (λ t. read_lines image (n + 1) t lines)) (sym step) ∙ is in
    let told : error ≡ Line n fault = cc in record {
      front = [];
      line = line;
      rest = lines;
      all = refl;
      es = [];
      before = s;
      gives = (refl, refl);
      fault = fault;
      told = told ∙ ap (λ k. Line k fault) (omega arith);
      wrong = wrong;
    }

lines-fail : (image : List ℕ) (lines : List (List ℕ)) → FailsOf image lines
lines-fail image [] n s error is = absurd (cc is)
lines-fail image (line ∷ lines) n s error is =
    case-fails image n s line lines error (lines-fail image lines) (line_step image s (words_in line)) is
    (line-case image s line)

pub text-fails : (image text : List ℕ) (error : TextError) → text_events image text ≡ Err error
    → IsScriptTextFault image text error
text-fails image text error is =
    let f = lines-fail image (lines_of text) 1 start error is in
    subst (λ (e : TextError). IsScriptTextFault image text e) (sym f.told) (record {
      front = f.front;
      line = f.line;
      rest = f.rest;
      lines = f.all;
      number = omega arith;
      es = f.es;
      before = f.before;
      gives = f.gives;
      wrong = f.wrong;
    })
