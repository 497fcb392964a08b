-- The sectors that steps have erased, as a set, and the first step that programs what none before it erases.
use Rattle.std.proofs.Common.{◌≡◌, ℕ, ◌+◌, ◌<◌, ◌==◌, Bool, true, false, cond, List, [], ◌∷◌, ◌++◌, length, get_or, take, drop, Some, refl, sym, ap, ◌∙◌, arith, inl, inr}
use Rattle.std.specs.Prelude.{◌||◌}
use Rattle.std.specs.BTreeSet.{BTreeSet, contains}
use Rattle.std.specs.List.{list_any}
use Rattle.std.specs.Ordering.{is_eq, nat_cmp}
use Rattle.std.specs.declared.cmp.Ordering.TheVariants.{Equal, Greater, Less}
use Rattle.std.proofs.lemmas.Bool.{cases_order, eq-eqb, le-ltb, lt-ltb, ne_eqb}
use Rattle.std.proofs.lemmas.List.{drop_more, take_more}
use Rattle.std.proofs.lemmas.List.Folds.{list_any-append}
use Rattle.pico_board.specs.declared.Step.{Step}
use Rattle.pico_board.specs.declared.Step.TheVariants.{Erase}
use Rattle.check_records.specs.Erased.{HasErased}
use Rattle.check_records.specs.Unerased.{erases, is_unerased, unerased_from}

-- numbers compare as equal where they are
same-at : (k q : ℕ) → is_eq (nat_cmp k q) ≡ (k == q)
same-at k q = elim (cases_order k q) [
  | inl here ↦ ap (λ b. is_eq (cond b Less (cond (k == q) Equal Greater))) (le-ltb k q (omega (arith, here)))
      ∙ (ap (λ b. is_eq (cond b Equal Greater)) (eq-eqb k q here) ∙ sym (eq-eqb k q here))
  | inr (inl below) ↦ ap (λ b. is_eq (cond b Less (cond (k == q) Equal Greater))) (lt-ltb k q below)
      ∙ sym (ne_eqb k q (λ same. absurd (omega (arith, same, below))))
  | inr (inr above) ↦ ap (λ b. is_eq (cond b Less (cond (k == q) Equal Greater))) (le-ltb k q (omega (arith, above)))
      ∙ (ap (λ b. is_eq (cond b Equal Greater)) (ne_eqb k q (λ same. absurd (omega (arith, same, above))))
      ∙ sym (ne_eqb k q (λ same. absurd (omega (arith, same, above)))))
]

pub none-erased : (kept : BTreeSet ℕ) → kept.keys ≡ [] → HasErased kept []
none-erased kept none s = ap (λ (ks : List ℕ). list_any (λ k. is_eq (nat_cmp s k)) ks) none

or-none : (b : Bool) → (b || false) ≡ b
or-none true = refl
or-none false = refl

or-last : (a b : Bool) → cond b true a ≡ (a || (b || false))
or-last true true = refl
or-last true false = refl
or-last false true = refl
or-last false false = refl

-- a step that erases a sector
pub erased-more : (old new : BTreeSet ℕ) (sector : ℕ) (before : List Step)
    → ((q : ℕ) → contains nat_cmp new q ≡ cond (is_eq (nat_cmp sector q)) true (contains nat_cmp old q))
    → HasErased old before → HasErased new (before ++ Erase sector ∷ [])
erased-more old new sector before updates has s =
    updates s
    ∙ (ap (λ b. cond b true (contains nat_cmp old s)) (same-at sector s)
    ∙ (ap (λ a. cond (sector == s) true a) (has s)
    ∙ (or-last (list_any (erases s) before) (sector == s) ∙ sym (list_any-append (erases s) before (Erase sector ∷ [])))))

-- a step that erases none
pub erased-as : (kept : BTreeSet ℕ) (step : Step) (before : List Step) → ((s : ℕ) → erases s step ≡ false)
    → HasErased kept before → HasErased kept (before ++ step ∷ [])
erased-as kept step before none has s =
    has s
    ∙ (sym (or-none (list_any (erases s) before))
    ∙ (ap (λ b. list_any (erases s) before || b) (sym (or-none (erases s step) ∙ none s))
    ∙ sym (list_any-append (erases s) before (step ∷ []))))

-- the rest decides
pub unerased-here : (steps : List Step) (k : ℕ) (step : Step) (d : Step) → k < length steps → get_or steps k d ≡ step
    → is_unerased (take k steps) step ≡ true → unerased_from (take k steps) k (drop k steps) ≡ Some k
unerased-here steps k step d lt at is =
    ap (λ (xs : List Step). unerased_from (take k steps) k xs) (drop_more steps k d lt)
    ∙ (ap (λ (s : Step). unerased_from (take k steps) k (s ∷ drop (k + 1) steps)) at
    ∙ ap (λ b. cond b (Some k) (unerased_from (take k steps ++ step ∷ []) (k + 1) (drop (k + 1) steps))) is)

pub unerased-more : (steps : List Step) (k : ℕ) (step : Step) (d : Step) → k < length steps → get_or steps k d ≡ step
    → is_unerased (take k steps) step ≡ false
    → unerased_from (take (k + 1) steps) (k + 1) (drop (k + 1) steps) ≡ unerased_from (take k steps) k (drop k steps)
unerased-more steps k step d lt at is =
    ap (λ (xs : List Step). unerased_from xs (k + 1) (drop (k + 1) steps))
    (take_more steps k d lt ∙ ap (λ (s : Step). take k steps ++ s ∷ []) at)
    ∙ sym (ap (λ (xs : List Step). unerased_from (take k steps) k xs) (drop_more steps k d lt)
    ∙ (ap (λ (s : Step). unerased_from (take k steps) k (s ∷ drop (k + 1) steps)) at
    ∙ ap (λ b. cond b (Some k) (unerased_from (take k steps ++ step ∷ []) (k + 1) (drop (k + 1) steps))) is))
