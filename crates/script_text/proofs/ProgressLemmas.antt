-- Events that were added to a script line by line.
use Rattle.std.proofs.Common.{◌≡◌, ℕ, ◌+◌, List, [], ◌∷◌, ◌++◌, Some, None, sym, ap, subst, ◌∙◌, arith, append_assoc, append-nil, length-append}
use Rattle.std.specs.Prelude.{Result, Ok, Err, OnOk}
use Rattle.std.specs.List.{AllByRecursion, flat_map}
use Rattle.std.proofs.lemmas.Grind.{flat_map-append}
use Rattle.boot_script.specs.Events.{EventView}
use Rattle.boot_script.specs.Scripts.{IsBeforeEnd}
use Rattle.boot_script.specs.Written.{written_event}
use Rattle.script_words.specs.Splitting.{before_mark, behind_mark, first_words, words_in}
use Rattle.script_text.specs.declared.reading.Begun.{Begun}
use Rattle.script_text.specs.declared.script.TextError.{TextError}
use Rattle.script_text.specs.declared.script.TextScript.{TextScript}
use Rattle.script_text.specs.Reading.{Adds, Before, IsRead, Reads, Ends, Adds_event, behind, behind_end, line_step, lines_of, read_lines, state_from, room_step, then_lines, told, with_events}
use Rattle.script_text.proofs.ReadLemmas.{lines-next, lines_in, step-looked, told-fault, with-more, with-none}

pub adds-none : (s : TextScript) → Adds s s []
adds-none s = record { bytes = sym (append-nil s.bytes.items); records = omega arith }

pub adds-more : (a b c : TextScript) (es fs : List EventView) → Adds a b es → Adds b c fs → Adds a c (es ++ fs)
adds-more a b c es fs first second = record {
  bytes = second.bytes ∙ ap (λ bs. bs ++ flat_map written_event fs) first.bytes
      ∙ append_assoc a.bytes.items (flat_map written_event es) (flat_map written_event fs)
      ∙ ap (λ bs. a.bytes.items ++ bs) (sym (flat_map-append written_event es fs));
  records = omega (arith, first.records, second.records, length-append es fs);
}

all-more : (es fs : List EventView) → AllByRecursion IsBeforeEnd es → AllByRecursion IsBeforeEnd fs
    → AllByRecursion IsBeforeEnd (es ++ fs)
all-more [] fs first second = second
all-more (e ∷ es) fs first second = (first.0, all-more es fs first.1 second)

-- ---- one line

-- a line without words
pub reads-passed : (image : List ℕ) (n : ℕ) (old : Begun) (line : List ℕ) (new : Begun)
    → first_words line ≡ [] → new ≡ old → Reads image n old line new
reads-passed image n old line new none same =
    subst (λ (b : Begun). Reads image n old line b) (sym same) (record {
      es = [];
      adds = adds-none old.script;
      inside = tt;
      others = λ lines.
          ap (λ r. then_lines n (state_from old) r (λ t. read_lines image (n + 1) t lines))
          (sym (step-looked image (state_from old) line) ∙ ap (line_step image (state_from old)) none)
          ∙ sym (with-none (read_lines image (n + 1) (state_from old) lines));
    })

-- an `end` line
pub reads-end : (image : List ℕ) (n : ℕ) (old : Begun) (line : List ℕ) (new : Begun)
    → line_step image (state_from old) (first_words line) ≡ Ok Ends
    → new.script ≡ old.script → state_from new ≡ behind_end (state_from old) → Reads image n old line new
reads-end image n old line new step same state = record {
  es = [];
  adds = subst (λ (s : TextScript). Adds old.script s []) (sym same) (adds-none old.script);
  inside = tt;
  others = λ lines.
      ap (λ r. then_lines n (state_from old) r (λ t. read_lines image (n + 1) t lines))
      (sym (step-looked image (state_from old) line) ∙ step)
      ∙ ap (λ t. read_lines image (n + 1) t lines) (sym state)
      ∙ sym (with-none (read_lines image (n + 1) (state_from new) lines));
}

-- a line with a record
pub reads-event : (image : List ℕ) (n : ℕ) (old : Begun) (line : List ℕ) (new : Begun) (e : EventView)
    → line_step image (state_from old) (first_words line) ≡ Ok (Adds_event e)
    → Adds old.script new.script (e ∷ []) → IsBeforeEnd e → state_from new ≡ behind (state_from old) e
    → Reads image n old line new
reads-event image n old line new e step adds well state = record {
  es = e ∷ [];
  adds = adds;
  inside = (well, tt);
  others = λ lines.
      ap (λ r. then_lines n (state_from old) r (λ t. read_lines image (n + 1) t lines))
      (sym (step-looked image (state_from old) line) ∙ step)
      ∙ ap (λ t. with_events (e ∷ []) (read_lines image (n + 1) t lines)) (sym state);
}

-- a line with a record that was added, where that did not fail
pub reads-added : (r : Result (Unit {0}) TextError) (image : List ℕ) (n : ℕ) (old : Begun) (line : List ℕ)
    (new : Begun) (e : EventView)
    → line_step image (state_from old) (first_words line) ≡ room_step (state_from old) e
    → OnOk r (room_step (state_from old) e ≡ Ok (Adds_event e))
    → OnOk r (Adds old.script new.script (e ∷ [])) → OnOk r (IsBeforeEnd e)
    → OnOk r (state_from new ≡ behind (state_from old) e) → OnOk r (Reads image n old line new)
reads-added (Ok u) image n old line new e step fits adds well state =
    reads-event image n old line new e (step ∙ fits) adds well state
reads-added (Err error) image n old line new e step fits adds well state = tt

-- ---- all lines so far

-- the events of a text so far, and what is read of the lines that are left
pub record IsSoFar (image : List ℕ) (start : Begun) (text : List ℕ) (n : ℕ) (s : Begun) (rest : List ℕ)
    : Type 0 where
  pub es : List EventView
  pub adds : Adds start.script s.script es
  pub inside : AllByRecursion IsBeforeEnd es
  pub others : read_lines image 1 (state_from start) (lines_of text)
      ≡ with_events es (read_lines image n (state_from s) (lines_of rest))

line-ends : (image : List ℕ) (n : ℕ) (s : Before) (text line : List ℕ) → line ≡ before_mark 10 text
    → read_lines image n s (lines_of text) ≡ read_lines image n s (line ∷ lines_in (behind_mark 10 text))
line-ends image n s text line is =
    ap (λ lines. read_lines image n s lines)
    (lines-next text ∙ ap (λ l. l ∷ lines_in (behind_mark 10 text)) (sym is))

pub so_far-first : (image : List ℕ) (start : Begun) (text : List ℕ) → IsSoFar image start text 1 start text
so_far-first image start text = record {
  es = [];
  adds = adds-none start.script;
  inside = tt;
  others = sym (with-none (read_lines image 1 (state_from start) (lines_of text)));
}

pub so_far-fault : (image : List ℕ) (start : Begun) (text : List ℕ) (n : ℕ) (s : Begun) (rest line : List ℕ)
    (error : TextError) → line ≡ before_mark 10 rest → IsSoFar image start text n s rest
    → told n (line_step image (state_from s) (first_words line)) ≡ Some error
    → read_lines image 1 (state_from start) (lines_of text) ≡ Err error
so_far-fault image start text n s rest line error is so_far wrong =
    so_far.others
    ∙ ap (with_events so_far.es) (line-ends image n (state_from s) rest line is
    ∙ told-fault n (line_step image (state_from s) (words_in line)) error
    (λ t. read_lines image (n + 1) t (lines_in (behind_mark 10 rest))) (state_from s)
    (ap (told n) (sym (step-looked image (state_from s) line)) ∙ wrong))

pub so_far-more : (image : List ℕ) (start : Begun) (text : List ℕ) (n : ℕ) (s new : Begun)
    (rest line more : List ℕ) → line ≡ before_mark 10 rest → Some more ≡ behind_mark 10 rest
    → IsSoFar image start text n s rest → Reads image n s line new
    → IsSoFar image start text (n + 1) new more
so_far-more image start text n s new rest line more is behind so_far added = record {
  es = so_far.es ++ added.es;
  adds = adds-more start.script s.script new.script so_far.es added.es so_far.adds added.adds;
  inside = all-more so_far.es added.es so_far.inside added.inside;
  others = so_far.others
      ∙ ap (with_events so_far.es) (line-ends image n (state_from s) rest line is
      ∙ added.others (lines_in (behind_mark 10 rest)))
      ∙ sym (with-more so_far.es added.es (read_lines image (n + 1) (state_from new) (lines_in (behind_mark 10 rest))))
      ∙ ap (λ lines. with_events (so_far.es ++ added.es) (read_lines image (n + 1) (state_from new) lines))
      (ap lines_in (sym behind));
}

pub so_far-last : (image : List ℕ) (start : Begun) (text : List ℕ) (n : ℕ) (s new : Begun)
    (rest line : List ℕ) → line ≡ before_mark 10 rest → None ≡ behind_mark 10 rest
    → IsSoFar image start text n s rest → Reads image n s line new
    → IsRead image start text new
so_far-last image start text n s new rest line is behind so_far added = record {
  es = so_far.es ++ added.es;
  adds = adds-more start.script s.script new.script so_far.es added.es so_far.adds added.adds;
  inside = all-more so_far.es added.es so_far.inside added.inside;
  reads = so_far.others
      ∙ ap (with_events so_far.es) (line-ends image n (state_from s) rest line is
      ∙ added.others (lines_in (behind_mark 10 rest)))
      ∙ sym (with-more so_far.es added.es (read_lines image (n + 1) (state_from new) (lines_in (behind_mark 10 rest))))
      ∙ ap (λ lines. with_events (so_far.es ++ added.es) (read_lines image (n + 1) (state_from new) lines))
      (ap lines_in (sym behind))
      ∙ ap Ok (append-nil (so_far.es ++ added.es));
}
