-- What is read of lines, line by line.
use Rattle.std.proofs.Common.{◌≡◌, ◌≢◌, ℕ, true, false, List, [], ◌∷◌, ◌++◌, take, Option, Some, None, refl, sym, ap, ◌∙◌, append_assoc, arith, inl, inr}
use Rattle.std.specs.Prelude.{Result, Ok, Err, if◌then◌else◌}
use Rattle.std.proofs.lemmas.Bool.{cases_eq, eq-eqb, ne_eqb}
use Rattle.boot_script.specs.Events.{EventView}
use Rattle.boot_script.specs.Scripts.{is_end}
use Rattle.script_words.specs.Splitting.{before_mark, behind_mark, first_words, words_in}
use Rattle.script_words.specs.declared.splitting.TheConstants.{MOST_WORDS}
use Rattle.script_words.specs.Finding.{line_in}
use Rattle.script_words.proofs.LookLemmas.{enough-words, none-first}
use Rattle.script_text.specs.declared.script.TextError.{TextError}
use Rattle.script_text.specs.declared.script.TextFault.{TextFault}
use Rattle.script_text.specs.declared.script.TextFault.TheVariants.{BehindEnd}
use Rattle.script_text.specs.Reading.{Before, Step, Ends, line_step, limit_step, lines_of, room_step, said_step, then_lines, told, with_events, words_step}

pub with-none : (r : Result (List EventView) TextError) → with_events [] r ≡ r
with-none (Ok es) = refl
with-none (Err fault) = refl

pub with-more : (es fs : List EventView) (r : Result (List EventView) TextError)
    → with_events (es ++ fs) r ≡ with_events es (with_events fs r)
with-more es fs (Ok others) = ap Ok (append_assoc es fs others)
with-more es fs (Err fault) = refl

-- the lines behind a line feed, where there is one
abbrev pub lines_in : Option (List ℕ) → List (List ℕ)
lines_in None = []
lines_in (Some rest) = lines_of rest

pub lines-next : (text : List ℕ) → lines_of text ≡ before_mark 10 text ∷ lines_in (behind_mark 10 text)
lines-next [] = refl
lines-next (b ∷ text) = elim (cases_eq b 10) [
  | inl e ↦ rw (eq-eqb b 10 e) refl
  | inr ne ↦ rw (ne_eqb b 10 ne, lines-next text) refl
]

-- ---- a line with words

pub step-behind_end : (image : List ℕ) (s : Before) (ws : List (List ℕ)) → ws ≢ [] → s.ended ≡ true
    → line_step image s ws ≡ Err BehindEnd
step-behind_end image s [] some ended = absurd (some refl)
step-behind_end image s (w ∷ ws) some ended = rw ended refl

pub step-going : (image : List ℕ) (s : Before) (ws : List (List ℕ)) → ws ≢ [] → s.ended ≡ false
    → line_step image s ws ≡ limit_step s (words_step image s.next ws)
step-going image s [] some ended = absurd (some refl)
step-going image s (w ∷ ws) some ended = rw ended refl

pub step-fault : (image : List ℕ) (s : Before) (ws : List (List ℕ)) (fault : TextFault) → ws ≢ []
    → s.ended ≡ false → words_step image s.next ws ≡ Err fault → line_step image s ws ≡ Err fault
step-fault image s ws fault some ended is = step-going image s ws some ended ∙ ap (limit_step s) is

pub step-end : (image : List ℕ) (s : Before) (ws : List (List ℕ)) (e : EventView) → ws ≢ [] → s.ended ≡ false
    → words_step image s.next ws ≡ Ok e → is_end e ≡ true → line_step image s ws ≡ Ok Ends
step-end image s ws e some ended is ends = step-going image s ws some ended ∙ ap (limit_step s) is ∙ rw ends refl

pub step-event : (image : List ℕ) (s : Before) (ws : List (List ℕ)) (e : EventView) → ws ≢ [] → s.ended ≡ false
    → words_step image s.next ws ≡ Ok e → is_end e ≡ false → line_step image s ws ≡ room_step s e
step-event image s ws e some ended is more = step-going image s ws some ended ∙ ap (limit_step s) is ∙ rw more refl

-- ---- the words of a line that are looked at

step-some : (image : List ℕ) (s : Before) (ws : List (List ℕ)) → ws ≢ []
    → line_step image s ws
    ≡ (if s.ended then Err BehindEnd else limit_step s (said_step image s.next (line_in ws)))
step-some image s [] some = absurd (some refl)
step-some image s (w ∷ ws) some = refl

-- the first words of a line add what all of them add
pub step-looked : (image : List ℕ) (s : Before) (line : List ℕ)
    → line_step image s (first_words line) ≡ line_step image s (words_in line)
step-looked image s line = by_words (words_in line) refl
  where
    by_words : (ws : List (List ℕ)) → words_in line ≡ ws
        → line_step image s (first_words line) ≡ line_step image s (words_in line)
    by_words [] is =
        ap (line_step image s) (ap (take MOST_WORDS) is) ∙ sym (ap (line_step image s) is)
    by_words (w ∷ ws) is =
        let some : words_in line ≢ [] = λ none. absurd (cc (sym none ∙ is)) in
        step-some image s (first_words line)
        (λ none. some (none-first MOST_WORDS (words_in line) (omega arith) none))
        ∙ ap (λ r. if s.ended then Err BehindEnd else limit_step s (said_step image s.next r))
        (enough-words MOST_WORDS (words_in line) (omega arith))
        ∙ sym (step-some image s (words_in line) some)

-- ---- what is read from a line on, by its step

pub told-fault : (n : ℕ) (step : Result Step TextFault) (error : TextError)
    (others : Before → Result (List EventView) TextError) (s : Before) → told n step ≡ Some error
    → then_lines n s step others ≡ Err error
told-fault n (Ok step) error others s is = absurd (cc is)
told-fault n (Err fault) error others s is = ap Err (cc is)
