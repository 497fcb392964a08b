-- What a line adds, by the words that were split and the record that was read.
use Rattle.std.proofs.Common.{◌≡◌, ◌≢◌, ℕ, suc, ◌≤◌, ◌==◌, true, false, List, [], ◌∷◌, length, map, take, Option, Some, None, refl, sym, ap, ◌∙◌, arith, length-take}
use Rattle.std.specs.Prelude.{Result, Ok, Err, unwrap_or}
use Rattle.std.proofs.lemmas.Bool.{eqb-true}
use Rattle.std.proofs.lemmas.List.{length-map}
use Rattle.boot_script.specs.Events.{EventView}
use Rattle.boot_script.specs.Scripts.{is_end}
use Rattle.script_words.specs.declared.fault.LineFault.{LineFault}
use Rattle.script_words.specs.declared.splitting.TheConstants.{MOST_WORDS}
use Rattle.script_words.specs.declared.splitting.Word.{Word}
use Rattle.script_words.specs.Splitting.{first_words, word_bytes, words_in}
use Rattle.script_words.specs.Values.{LineView}
use Rattle.script_words.specs.Finding.{line_in}
use Rattle.script_words.specs.Made.{HasPattern, made}
use Rattle.script_words.proofs.PatternLemmas.{line-pattern}
use Rattle.script_text.specs.declared.script.TextError.TheVariants.{Line}
use Rattle.script_text.specs.declared.script.TextFault.{TextFault}
use Rattle.script_text.specs.declared.script.TextFault.TheVariants.{BehindEnd}
use Rattle.script_text.specs.Reading.{Before, found, line_step, room_step, said_step, told, words_step}
use Rattle.script_text.proofs.ReadLemmas.{step-behind_end, step-event, step-fault}

-- ---- the record of words

-- a cut that words give has a pattern of its size
pub words-pattern : (image : List ℕ) (next : ℕ) (words : List (List ℕ)) (e : EventView)
    → words_step image next words ≡ Ok e → HasPattern e
words-pattern image next words e is = by_line (line_in words) refl is
  where
    by_made : (l : LineView) → line_in words ≡ Ok l → (m : Option EventView)
        → made l.row l.values (unwrap_or l.token next) image ≡ m → found m ≡ Ok e → HasPattern e
    by_made l reads None gives same = absurd (cc same)
    by_made l reads (Some x) gives same =
        let eq : x ≡ e = cc same in
        line-pattern words l (unwrap_or l.token next) image e reads (gives ∙ ap Some eq)

    by_line : (r : Result LineView LineFault) → line_in words ≡ r → said_step image next r ≡ Ok e → HasPattern e
    by_line (Err f) reads same = absurd (cc same)
    by_line (Ok l) reads same = by_made l reads (made l.row l.values (unwrap_or l.token next) image) refl same

-- ---- the words of a line

few-taken : (n : ℕ) (xs : List (List ℕ)) → length (take n xs) ≤ n
few-taken n xs = omega (arith, length-take n xs)

pub few-words : (words : List Word) (line : List ℕ) → map word_bytes words ≡ first_words line
    → length words ≤ MOST_WORDS
few-words words line is =
    omega (arith, ap (λ (ws : List (List ℕ)). length ws) is, length-map words word_bytes, few-taken MOST_WORDS (words_in line))

pub none-words : (words : List Word) (line : List ℕ) → map word_bytes words ≡ first_words line
    → (length words == 0) ≡ true → first_words line ≡ []
none-words [] line is none = sym is
none-words (w ∷ words) line is none = absurd (omega (arith, eqb-true (suc (length words)) 0 none))

pub some-words : (words : List Word) (line : List ℕ) → map word_bytes words ≡ first_words line
    → (length words == 0) ≡ false → first_words line ≢ []
some-words [] line is some none = absurd (cc some)
some-words (w ∷ words) line is some none = absurd (cc (is ∙ none))

-- ---- the fault of a line with words

pub told-ended : (n : ℕ) (image : List ℕ) (s : Before) (ws : List (List ℕ)) → ws ≢ [] → s.ended ≡ true
    → told n (line_step image s ws) ≡ Some (Line n BehindEnd)
told-ended n image s ws some ended = ap (told n) (step-behind_end image s ws some ended)

pub told-wrong : (n : ℕ) (image : List ℕ) (s : Before) (ws : List (List ℕ)) (fault : TextFault) → ws ≢ []
    → s.ended ≡ false → words_step image s.next ws ≡ Err fault
    → told n (line_step image s ws) ≡ Some (Line n fault)
told-wrong n image s ws fault some going is = ap (told n) (step-fault image s ws fault some going is)

pub told-room : (n : ℕ) (image : List ℕ) (s : Before) (ws : List (List ℕ)) (e : EventView) → ws ≢ []
    → s.ended ≡ false → words_step image s.next ws ≡ Ok e → is_end e ≡ false
    → told n (line_step image s ws) ≡ told n (room_step s e)
told-room n image s ws e some going is more = ap (told n) (step-event image s ws e some going is more)
