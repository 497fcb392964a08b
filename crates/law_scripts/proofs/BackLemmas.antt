-- The text of events gives these events.
use Rattle.std.proofs.Common.{◌≡◌, ◌≢◌, ℕ, ◌+◌, ◌≤◌, Bool, true, false, List, [], ◌∷◌, ◌++◌, length, Some, refl, sym, ap, subst, ◌∙◌, arith, append_assoc, length-append, decimal, inl, inr}
use Rattle.std.specs.Prelude.{Ok, Result, codes, unwrap_or}
use Rattle.std.specs.List.{AllByRecursion, flat_map}
use Rattle.std.proofs.lemmas.Bool.{and_parts}
use Rattle.text_words.specs.Writing.{line}
use Rattle.boot_script.specs.Events.{EventView, End}
use Rattle.boot_script.specs.Written.{written_event}
use Rattle.boot_script.specs.Scripts.{IsBeforeEnd, is_end}
use Rattle.boot_script.specs.declared.limits.TheConstants.{SCRIPT_LIMIT}
use Rattle.script_words.specs.Finding.{line_in}
use Rattle.script_words.specs.Made.{made}
use Rattle.script_words.specs.Naming.{line_of}
use Rattle.script_words.specs.Rows.{is_hex}
use Rattle.script_words.specs.Saying.{HasEventBytes, IsEvent, line_words}
use Rattle.script_words.specs.Spelling.{line_text}
use Rattle.script_words.specs.Splitting.{words_in}
use Rattle.script_words.specs.Values.{LineView}
use Rattle.law_scripts.proofs.LineOfLemmas.{line-says}
use Rattle.law_scripts.proofs.LineTextLemmas.{free-text, line-read, line-words, noted-words}
use Rattle.script_words.proofs.MarkLemmas.{free-append, is_free, is_other, other-ne}
use Rattle.law_scripts.proofs.TokenBackLemmas.{line-back}
use Rattle.script_text.specs.declared.script.TheConstants.{MOST_RECORDS}
use Rattle.script_text.specs.Comments.{note_of}
use Rattle.script_text.specs.Listing.{comment_text, listed, listed_event, listed_from, numbered}
use Rattle.script_text.specs.Meaning.{Gives, HasRoomFor, IsRecord, IsWithinLimits}
use Rattle.script_text.specs.Reading.{Before, behind, behind_end, found, lines_of, said_step, text_events, token_behind, words_step}
use Rattle.script_text.proofs.MeaningLemmas.{text-read}
use Rattle.law_scripts.proofs.NoteLemmas.{free-comment, free-decimal, free-note}

-- a line without a line feed is the first of a text that begins with it
lines-line : (first rest : List ℕ) → is_free 10 first ≡ true → lines_of (line first ++ rest) ≡ first ∷ lines_of rest
lines-line [] rest free = refl
lines-line (b ∷ first) rest free =
    let parts = and_parts (is_other 10 b) (is_free 10 first) free in
    rw (other-ne 10 b parts.0, lines-line first rest parts.1) refl

record IsInner (e : EventView) : Type 0 where
  event : IsEvent e
  inside : is_end e ≡ false

-- there is room for the events and the end
record Fits (count size : ℕ) (es : List EventView) : Type 0 where
  few : count + length es ≤ MOST_RECORDS
  short : size + length (flat_map written_event es) + 1 ≤ SCRIPT_LIMIT

-- a text gives events behind what was read before
abbrev GivesAll : List ℕ → Before → List ℕ → List EventView → Type 0
GivesAll image s text es = (t : Before) × Gives image s (lines_of text) es t

abbrev going : ℕ → ℕ → ℕ → Before
going next count size = record { next = next; ended = false; count = count; size = size }

-- the words of an event's line give the event
words-give : (image : List ℕ) (next : ℕ) (e : EventView) → IsEvent e
    → words_step image next (line_words (line_of next e)) ≡ Ok e
words-give image next e event =
    let says = line-says next e event in
    ap (said_step image next) (line-back (line_of next e) says.listed says.is) ∙ ap found (says.gives image)

not-none : (words : List (List ℕ)) (line_is : LineView) → words ≡ line_words line_is → words ≢ []
not-none words line_is is none = absurd (cc (sym is ∙ none))

record-is : (image : List ℕ) (next count size : ℕ) (e : EventView) (first : List ℕ) → IsEvent e
    → words_in first ≡ line_words (line_of next e) → IsRecord image (going next count size) first e
record-is image next count size e first event words = record {
  words = not-none (words_in first) (line_of next e) words;
  going = refl;
  gives = ap (words_step image next) words ∙ words-give image next e event;
}

comment-gives : (image : List ℕ) (s : Before) (n : ℕ) (note text : List ℕ) (es : List EventView)
    → is_free 10 note ≡ true → GivesAll image s text es
    → GivesAll image s (line (comment_text n note) ++ text) es
comment-gives image s n note text es free all = (
  all.0,
  subst (λ (ls : List (List ℕ)). Gives image s ls es all.0)
      (sym (lines-line (comment_text n note) text (free-comment n note free))) (inl (refl, all.1)),
)

event-gives : (image : List ℕ) (next count size : ℕ) (e : EventView) (first text : List ℕ) (es : List EventView)
    → IsInner e → words_in first ≡ line_words (line_of next e) → is_free 10 first ≡ true
    → HasRoomFor (going next count size) e → GivesAll image (behind (going next count size) e) text es
    → GivesAll image (going next count size) (line first ++ text) (e ∷ es)
event-gives image next count size e first text es inner words free room all = (
  all.0,
  subst (λ (ls : List (List ℕ)). Gives image (going next count size) ls (e ∷ es) all.0)
      (sym (lines-line first text free))
      (inr (inr (e, es, record-is image next count size e first inner.event words, inner.inside, room, refl, all.1))),
)

ten : ◌≢◌ {A = ℕ} 32 10
ten is = absurd (omega (arith, is))

listed-gives : (image : List ℕ) (n next count size : ℕ) (e : EventView) (text : List ℕ) (es : List EventView)
    → IsInner e → HasRoomFor (going next count size) e → GivesAll image (behind (going next count size) e) text es
    → GivesAll image (going next count size) (listed_event n next e ++ text) (e ∷ es)
listed-gives image n next count size e text es inner room all = by_hex (is_hex (line_of next e).row)
  where
    by_hex : (t : Bool)
        → GivesAll image (going next count size) (numbered t n (note_of e) (line_text (line_of next e)) ++ text) (e ∷ es)
    by_hex true =
        let is = (line-says next e inner.event).is in
        subst (λ (bs : List ℕ). GivesAll image (going next count size) bs (e ∷ es))
        (sym (append_assoc (line (comment_text n (note_of e))) (line (line_text (line_of next e))) text))
        (comment-gives image (going next count size) n (note_of e) (line (line_text (line_of next e)) ++ text) (e ∷ es)
        (free-note e)
        (event-gives image next count size e (line_text (line_of next e)) text es inner
        (line-words (line_of next e) is) (free-text 10 (line_of next e) (omega arith) ten is) room all))
    by_hex false =
        let is = (line-says next e inner.event).is in
        event-gives image next count size e (line_text (line_of next e) ++ (codes " # " ++ decimal n)) text es inner
        (noted-words (line_of next e) (decimal n) is)
        (free-append 10 (line_text (line_of next e)) (codes " # " ++ decimal n)
        (free-text 10 (line_of next e) (omega arith) ten is) (free-decimal n)) room all

end-gives : (image : List ℕ) (next count size : ℕ)
    → GivesAll image (going next count size) (line (codes "end")) []
end-gives image next count size = (
  behind_end (going next count size),
  inr (inl (
    End,
    record-is image next count size End (codes "end") (record { well = tt; bytes = tt }) refl,
    refl,
    inl (refl, (refl, refl)),
  )),
)

all-give : (image : List ℕ) (es : List EventView) → AllByRecursion IsInner es → (n next count size : ℕ)
    → Fits count size es → GivesAll image (going next count size) (listed_from n next es) es
all-give image [] all n next count size fits = end-gives image next count size
all-give image (e ∷ es) all n next count size fits =
    let long = length-append (written_event e) (flat_map written_event es) in
    let rest : Fits (count + 1) (size + length (written_event e)) es =
    record { few = omega (arith, fits.few); short = omega (arith, fits.short, long) } in
    listed-gives image n next count size e (listed_from (n + 1) (token_behind next e) es) es all.0
    (record { few = omega (arith, fits.few); short = omega (arith, fits.short, long) })
    (all-give image es all.1 (n + 1) (token_behind next e) (count + 1) (size + length (written_event e)) rest)

inner-all : (es : List EventView) → AllByRecursion IsBeforeEnd es → AllByRecursion HasEventBytes es
    → AllByRecursion IsInner es
inner-all [] inside bytes = tt
inner-all (e ∷ es) inside bytes = (
  record {
    event = record { well = inside.0.well; bytes = bytes.0 };
    inside = inside.0.more;
  },
  inner-all es inside.1 bytes.1,
)

within-fits : (es : List EventView) → IsWithinLimits es → Fits 0 0 es
within-fits es within =
    let long = length-append (flat_map written_event es) (written_event End) in
    record { few = omega (arith, within.few); short = omega (arith, within.short, long) }

-- the text of events is read as these events
pub read-back : (image : List ℕ) (es : List EventView) → AllByRecursion IsBeforeEnd es
    → AllByRecursion HasEventBytes es → IsWithinLimits es → text_events image (listed es) ≡ Ok es
read-back image es inside bytes within =
    text-read image (listed es) es (all-give image es (inner-all es inside bytes) 0 1 0 0 (within-fits es within))

pub same-ok : {E : Type 0} (es fs : List EventView) → ◌≡◌ {A = Result (List EventView) E} (Ok es) (Ok fs) → es ≡ fs
same-ok es fs same = cc same

pub same-line : {E : Type 0} (one other : LineView) → ◌≡◌ {A = Result LineView E} (Ok one) (Ok other) → one ≡ other
same-line one other same = cc same

pub same-some : (e f : EventView) → Some e ≡ Some f → e ≡ f
same-some e f same = cc same

-- events with one line are the same
pub one-line : (next : ℕ) (e f : EventView) → IsEvent e → IsEvent f
    → line_text (line_of next e) ≡ line_text (line_of next f) → e ≡ f
one-line next e f first second same =
    let says = line-says next e first in
    let other = line-says next f second in
    let lines : line_of next e ≡ line_of next f =
    same-line (line_of next e) (line_of next f)
    (sym (line-read (line_of next e) says.listed says.is)
    ∙ ap (λ t. line_in (words_in t)) same
    ∙ line-read (line_of next f) other.listed other.is) in
    same-some e f (sym (says.gives []) ∙ ap (λ (l : LineView). made l.row l.values (unwrap_or l.token next) []) lines
    ∙ other.gives [])
