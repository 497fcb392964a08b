-- Classes of the same word are the same.
use Rattle.std.proofs.Common.{◌≡◌, ℕ, ◌==◌, true, List, [], ◌∷◌, refl, sym, ap, ◌∙◌}
use Rattle.std.specs.Prelude.{if◌then◌else◌}
use Rattle.std.proofs.lemmas.Bool.{and_parts, eqb-true}
use Rattle.svg_marks.specs.declared.class.Class.{Class}
use Rattle.svg_marks.specs.declared.class.Class.TheVariants.{Former, Finished, Chance, Span, Erase, Program, Raise, Legend, Window, Row, Join, Starts}
use Rattle.svg_marks.specs.Marks.{class_word}
use Rattle.svg_marks.specs.Reading.{is_class, same_words}

same-lists : (xs ys : List ℕ) → same_words xs ys ≡ true → xs ≡ ys
same-lists [] [] is = refl
same-lists [] (y ∷ ys) is = cc
same-lists (x ∷ xs) [] is = cc
same-lists (x ∷ xs) (y ∷ ys) is =
    let parts = and_parts (x == y) (same_words xs ys) is in
    ap (λ z. z ∷ xs) (eqb-true x y parts.0) ∙ ap (λ zs. y ∷ zs) (same-lists xs ys parts.1)

-- the class of a word
class_at : List ℕ → Class
class_at word =
    if same_words word (class_word Former) then Former else
    if same_words word (class_word Finished) then Finished else
    if same_words word (class_word Chance) then Chance else
    if same_words word (class_word Span) then Span else
    if same_words word (class_word Erase) then Erase else
    if same_words word (class_word Program) then Program else
    if same_words word (class_word Raise) then Raise else
    if same_words word (class_word Legend) then Legend else
    if same_words word (class_word Window) then Window else
    if same_words word (class_word Row) then Row else
    if same_words word (class_word Join) then Join else Starts

at-word : (class : Class) → class_at (class_word class) ≡ class
unfolding class_at
at-word Former = refl
at-word Finished = refl
at-word Chance = refl
at-word Span = refl
at-word Erase = refl
at-word Program = refl
at-word Raise = refl
at-word Legend = refl
at-word Window = refl
at-word Row = refl
at-word Join = refl
at-word Starts = refl

pub is-same : (class other : Class) → is_class class other ≡ true → class ≡ other
is-same class other is =
    sym (at-word class)
    ∙ (ap class_at (same-lists (class_word class) (class_word other) is) ∙ at-word other)

pub same-class : (class : Class) → is_class class class ≡ true
same-class Former = refl
same-class Finished = refl
same-class Chance = refl
same-class Span = refl
same-class Erase = refl
same-class Program = refl
same-class Raise = refl
same-class Legend = refl
same-class Window = refl
same-class Row = refl
same-class Join = refl
same-class Starts = refl
