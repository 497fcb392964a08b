-- The status of lines is that of their verdict.
use Rattle.std.proofs.Common.{◌≡◌, ℕ, zero, suc, ◌<◌, Bool, true, false, List, [], ◌∷◌, length, get_or, refl, sym, ap, ◌∙◌, inl, inr, arith}
use Rattle.std.specs.Prelude.{◌||◌, Contains, if◌then◌else◌}
use Rattle.cli_course.specs.declared.status.Status.{Status}
use Rattle.cli_course.specs.declared.status.Status.TheVariants.{Input}
use Rattle.cli_course.specs.Outcomes.{Verdict, Passes, IsUnbootable, IsMixed, HasNoEffect, IsRefused, IsUnmet, verdict_status}
use Rattle.boot_cuts.specs.declared.answers.Answer.{Answer}
use Rattle.cut_class.specs.declared.class.Class.{Class}
use Rattle.cut_class.specs.declared.class.Class.TheVariants.{Mixed, Bootsel}
use Rattle.boot_cuts.specs.Counts.{has_class}
use Rattle.cut_class.specs.Classes.{is_same_class}
use Rattle.cut_class.proofs.ClassLemmas.{class-self, same-class}
use Rattle.cli_check.specs.CutsRules.{IsStatusOf, Says}
use Rattle.cli_check.specs.CutsWorks.{has_any, verdict_of}

-- a line is the first one or one of the others
contains-there : (a : Answer) (lines : List Answer) (line : Answer) → Contains lines line → Contains (a ∷ lines) line
contains-there a lines line there = let lt = there.1 in (suc (there.0), omega (arith, lt), there.2)

any-is : (class : Class) (lines : List Answer) → has_any class lines ≡ true
    → (line : Answer) × Contains lines line × (has_class class line ≡ true)
any-is class [] is = cc
any-is class (a ∷ lines) is = go (has_class class a) refl is (λ h. any-is class lines h)
  where
    go : (b : Bool) → has_class class a ≡ b → (b || has_any class lines) ≡ true
        → (has_any class lines ≡ true → (line : Answer) × Contains lines line × (has_class class line ≡ true))
        → (line : Answer) × Contains (a ∷ lines) line × (has_class class line ≡ true)
    go true here is more = (a, (0, omega arith, refl), here)
    go false here is more = let rest = more is in (rest.0, contains-there a lines (rest.0) rest.1, rest.2)

is-any : (class : Class) (lines : List Answer) (k : ℕ) (line : Answer) → k < length lines
    → get_or lines k line ≡ line → has_class class line ≡ true → has_any class lines ≡ true
is-any class [] k line lt at is = absurd (omega (arith, lt))
is-any class (a ∷ lines) zero line lt at is = ap (λ b. b || has_any class lines) (ap (has_class class) at ∙ is)
is-any class (a ∷ lines) (suc k) line lt at is =
    go (has_class class a) (is-any class lines k line (omega (arith, lt)) at is)
  where
    go : (b : Bool) → has_any class lines ≡ true → (b || has_any class lines) ≡ true
    go true rest = refl
    go false rest = rest

false-true : (b : Bool) → b ≡ false → b ≡ true → ⊥
false-true b e f = let g : false ≡ true = sym e ∙ f in cc

-- some line has the class exactly where one is found
says-is : (class : Class) (lines : List Answer) → has_any class lines ≡ true → Says class lines
says-is class lines is =
    let some = any-is class lines is in
    (some.0, some.1, sym (same-class class (some.0).class some.2))

none-says : (class : Class) (lines : List Answer) → has_any class lines ≡ false → Says class lines → ⊥
none-says class lines none (line, there, is) =
    false-true (has_any class lines) none
    (is-any class lines there.0 line there.1 there.2
    (ap (λ k. is_same_class class k) is ∙ class-self class))

-- the status by which classes there are
abbrev status_by : Bool → Bool → Status
status_by mixed falls = verdict_status (if mixed then IsMixed else if falls then IsUnbootable else Passes)

pub status-is : (lines : List Answer) → IsStatusOf lines (verdict_status (verdict_of lines))
status-is lines = go (has_any Mixed lines) (has_any Bootsel lines) refl refl
  where
    go : (m f : Bool) → has_any Mixed lines ≡ m → has_any Bootsel lines ≡ f → IsStatusOf lines (status_by m f)
    go true f mixed falls = inl (refl, says-is Mixed lines mixed)
    go false true mixed falls = inr (inl (refl, none-says Mixed lines mixed, says-is Bootsel lines falls))
    go false false mixed falls = inr (inr (refl, none-says Mixed lines mixed, none-says Bootsel lines falls))

pub status-only : (lines : List Answer) (status : Status) → IsStatusOf lines status
    → status ≡ verdict_status (verdict_of lines)
status-only lines status is = go (has_any Mixed lines) (has_any Bootsel lines) refl refl is
  where
    go : (m f : Bool) → has_any Mixed lines ≡ m → has_any Bootsel lines ≡ f → IsStatusOf lines status
        → status ≡ status_by m f
    go true f mixed falls (inl some) = some.0
    go true f mixed falls (inr (inl some)) = absurd (some.1 (says-is Mixed lines mixed))
    go true f mixed falls (inr (inr none)) = absurd (none.1 (says-is Mixed lines mixed))
    go false f mixed falls (inl some) = absurd (none-says Mixed lines mixed some.1)
    go false true mixed falls (inr (inl some)) = some.0
    go false true mixed falls (inr (inr none)) = absurd (none.2 (says-is Bootsel lines falls))
    go false false mixed falls (inr (inl some)) = absurd (none-says Bootsel lines falls some.2)
    go false false mixed falls (inr (inr none)) = none.0

pub not-input : (v : Verdict) → verdict_status v ≡ Input → ⊥
not-input Passes is = cc
not-input IsUnbootable is = cc
not-input IsMixed is = cc
not-input HasNoEffect is = cc
not-input IsRefused is = cc
not-input IsUnmet is = cc
