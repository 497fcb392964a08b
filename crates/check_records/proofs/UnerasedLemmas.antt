-- The first step that programs a page whose sector no step before it erases.
use Rattle.std.proofs.Common.{◌≡◌, inl, inr, ℕ, ◌+◌, ◌/◌, ◌<◌, Bool, true, false, cond, List, [], ◌∷◌, ◌++◌, length, Option, Some, None, refl, sym, ap, ◌∙◌, arith, append_assoc, append-nil}
use Rattle.std.specs.Prelude.{◌↔◌, not}
use Rattle.std.specs.List.{AllByRecursion, list_any}
use Rattle.std.proofs.lemmas.Bool.{cases_order, eq-eqb, ne_eqb, or_from, or_parts}
use Rattle.pico_board.specs.declared.Step.{Step}
use Rattle.pico_board.specs.declared.Step.TheVariants.{Erase, Program, Raise}
use Rattle.check_records.specs.Unerased.{IsFirstUnerased, IsUnerased, erases, first_unerased, is_unerased, unerased_from}

abbrev IsBare : ℕ → List Step → Type 0
IsBare sector before = AllByRecursion (λ (step : Step). step ≡ Erase sector → ⊥) before

erases-not : (sector : ℕ) (step : Step) → (step ≡ Erase sector → ⊥) → erases sector step ≡ false
erases-not sector (Erase s) other = ne_eqb s sector (λ same. other (ap Erase same))
erases-not sector (Program p d) other = refl
erases-not sector (Raise r b) other = refl

not-erases : (sector : ℕ) (step : Step) → erases sector step ≡ false → step ≡ Erase sector → ⊥
not-erases sector step none is =
    let holds : erases sector step ≡ true = ap (erases sector) is ∙ eq-eqb sector sector refl in
    let wrong : true ≡ false = sym holds ∙ none in cc

bare-none : (sector : ℕ) (before : List Step) → IsBare sector before → list_any (erases sector) before ≡ false
bare-none sector [] bare = refl
bare-none sector (step ∷ before) bare =
    or_from (erases sector step) (list_any (erases sector) before) (erases-not sector step bare.0)
    (bare-none sector before bare.1)

none-bare : (sector : ℕ) (before : List Step) → list_any (erases sector) before ≡ false → IsBare sector before
none-bare sector [] none = tt
none-bare sector (step ∷ before) none =
    let parts = or_parts (erases sector step) (list_any (erases sector) before) none in
    (not-erases sector step parts.0, none-bare sector before parts.1)

-- a program that none of the steps before it frees
bare-is : (before : List Step) (page : ℕ) (bytes : List ℕ) → IsBare (page / 16) before
    → is_unerased before (Program page bytes) ≡ true
bare-is before page bytes bare = ap not (bare-none (page / 16) before bare)

is-bare : (before : List Step) (page : ℕ) (bytes : List ℕ) → is_unerased before (Program page bytes) ≡ true
    → IsBare (page / 16) before
is-bare before page bytes is = none-bare (page / 16) before (go (list_any (erases (page / 16)) before) is)
  where
    go : (b : Bool) → not b ≡ true → b ≡ false
    go true e = cc
    go false e = refl

head-is : (x y : Step) (xs ys : List Step) → (x ∷ xs) ≡ (y ∷ ys) → x ≡ y
head-is x y xs ys same = cc

tail-is : (x y : Step) (xs ys : List Step) → (x ∷ xs) ≡ (y ∷ ys) → xs ≡ ys
tail-is x y xs ys same = cc

next : (before front : List Step) (step : Step) → (before ++ step ∷ []) ++ front ≡ before ++ (step ∷ front)
next before front step = append_assoc before (step ∷ []) front

some-here : (b : Bool) (k : ℕ) (rest : Option ℕ) → cond b (Some k) rest ≡ None → (b ≡ false) × (rest ≡ None)
some-here true k rest e = cc
some-here false k rest e = (refl, e)

-- where none is found there is none
none-from : (steps before : List Step) (k : ℕ) → unerased_from before k steps ≡ None
    → (front behind : List Step) (page : ℕ) (bytes : List ℕ) → steps ≡ front ++ Program page bytes ∷ behind
    → is_unerased (before ++ front) (Program page bytes) ≡ true → ⊥
none-from [] before k none [] behind page bytes whole is = cc
none-from [] before k none (x ∷ front) behind page bytes whole is = cc
none-from (step ∷ steps) before k none [] behind page bytes whole is =
    let here = some-here (is_unerased before step) k _ none in
    let same : step ≡ Program page bytes = head-is step (Program page bytes) steps behind whole in
    let holds : is_unerased before step ≡ true =
    ap (is_unerased before) same
    ∙ (sym (ap (λ (xs : List Step). is_unerased xs (Program page bytes)) (append-nil before)) ∙ is) in
    let wrong : true ≡ false = sym holds ∙ here.0 in cc
none-from (step ∷ steps) before k none (x ∷ front) behind page bytes whole is =
    let here = some-here (is_unerased before step) k _ none in
    let same : step ≡ x = head-is step x steps (front ++ Program page bytes ∷ behind) whole in
    none-from steps (before ++ step ∷ []) (k + 1) here.1 front behind page bytes
    (tail-is step x steps (front ++ Program page bytes ∷ behind) whole)
    (ap (λ (xs : List Step). is_unerased xs (Program page bytes))
    (next before front step ∙ ap (λ (s : Step). before ++ (s ∷ front)) same) ∙ is)

-- what is found
record IsFound (before steps : List Step) (k j : ℕ) : Type 0 where
  pub front : List Step
  pub page : ℕ
  pub bytes : List ℕ
  pub behind : List Step
  pub whole : steps ≡ front ++ Program page bytes ∷ behind
  pub number : k + length front ≡ j
  pub is : is_unerased (before ++ front) (Program page bytes) ≡ true
  pub first : (other others : List Step) (p : ℕ) (d : List ℕ) → steps ≡ other ++ Program p d ∷ others
      → length other < length front → is_unerased (before ++ other) (Program p d) ≡ true → ⊥

program-only : (before : List Step) (step : Step) → is_unerased before step ≡ true
    → (page : ℕ) × (bytes : List ℕ) × (step ≡ Program page bytes)
program-only before (Erase s) is = cc
program-only before (Program p d) is = (p, d, refl)
program-only before (Raise r b) is = cc

some-is : (a b : ℕ) → Some a ≡ Some b → a ≡ b
some-is a b same = cc

found-from : (steps before : List Step) (k j : ℕ) → unerased_from before k steps ≡ Some j → IsFound before steps k j
found-from [] before k j found = cc
found-from (step ∷ steps) before k j found =
    go (is_unerased before step) refl (found-from steps (before ++ step ∷ []) (k + 1) j) found
  where
    here : is_unerased before step ≡ true → k ≡ j → IsFound before (step ∷ steps) k j
    here is same =
        let program = program-only before step is in record {
          front = [];
          page = program.0;
          bytes = program.1;
          behind = steps;
          whole = ap (λ (s : Step). s ∷ steps) program.2;
          number = omega (arith, same);
          is = ap (λ (xs : List Step). is_unerased xs (Program program.0 program.1)) (append-nil before)
              ∙ (sym (ap (is_unerased before) program.2) ∙ is);
          first = λ other others p d whole less. absurd (omega (arith, less));
        }

    later : is_unerased before step ≡ false → IsFound (before ++ step ∷ []) steps (k + 1) j
        → IsFound before (step ∷ steps) k j
    later none more =
        let number = more.number in record {
          front = step ∷ more.front;
          page = more.page;
          bytes = more.bytes;
          behind = more.behind;
          whole = ap (λ xs. step ∷ xs) more.whole;
          number = omega (arith, number);
          is = sym (ap (λ (xs : List Step). is_unerased xs (Program more.page more.bytes)) (next before more.front step))
              ∙ more.is;
          first = λ other others p d whole less is. earlier none more other others p d whole less is;
        }
      where
        earlier : is_unerased before step ≡ false → (more : IsFound (before ++ step ∷ []) steps (k + 1) j)
            → (other others : List Step) (p : ℕ) (d : List ℕ) → (step ∷ steps) ≡ other ++ Program p d ∷ others
            → length other < length (step ∷ more.front) → is_unerased (before ++ other) (Program p d) ≡ true → ⊥
        earlier none more [] others p d whole less is =
            let same : step ≡ Program p d = head-is step (Program p d) steps others whole in
            let holds : is_unerased before step ≡ true =
            ap (is_unerased before) same
            ∙ (sym (ap (λ (xs : List Step). is_unerased xs (Program p d)) (append-nil before)) ∙ is) in
            let wrong : true ≡ false = sym holds ∙ none in cc
        earlier none more (x ∷ other) others p d whole less is =
            let same : step ≡ x = head-is step x steps (other ++ Program p d ∷ others) whole in
            more.first other others p d (tail-is step x steps (other ++ Program p d ∷ others) whole) (omega (arith, less))
            (ap (λ (xs : List Step). is_unerased xs (Program p d))
            (next before other step ∙ ap (λ (s : Step). before ++ (s ∷ other)) same) ∙ is)

    go : (b : Bool) → is_unerased before step ≡ b
        → (unerased_from (before ++ step ∷ []) (k + 1) steps ≡ Some j → IsFound (before ++ step ∷ []) steps (k + 1) j)
        → cond b (Some k) (unerased_from (before ++ step ∷ []) (k + 1) steps) ≡ Some j → IsFound before (step ∷ steps) k j
    go true is more found = here is (some-is k j found)
    go false is more found = later is (more found)

pub none-is : (steps : List Step) → first_unerased steps ≡ None → (k : ℕ) → IsUnerased steps k → ⊥
none-is steps none k u =
    none-from steps [] 0 none u.before u.behind u.page u.bytes u.whole (bare-is u.before u.page u.bytes u.bare)

pub some-first : (steps : List Step) (k : ℕ) → first_unerased steps ≡ Some k → IsFirstUnerased steps k
some-first steps k found =
    let f = found-from steps [] 0 k found in
    let number = f.number in record {
      here = record {
        before = f.front;
        page = f.page;
        bytes = f.bytes;
        behind = f.behind;
        whole = f.whole;
        number = omega (arith, number);
        bare = is-bare f.front f.page f.bytes f.is;
      };
      first = λ j less u.
          let at = u.number in
          f.first u.before u.behind u.page u.bytes u.whole (omega (arith, number, at, less))
          (bare-is u.before u.page u.bytes u.bare);
    }

first-some : (steps : List Step) (k : ℕ) → IsFirstUnerased steps k → first_unerased steps ≡ Some k
first-some steps k f = go (first_unerased steps) refl
  where
    go : (o : Option ℕ) → first_unerased steps ≡ o → o ≡ Some k
    go None none = absurd (none-is steps none k f.here)
    go (Some j) found =
        let g = some-first steps j found in elim (cases_order j k) [
          | inl same ↦ ap Some same
          | inr (inl below) ↦ absurd (f.first j below g.here)
          | inr (inr above) ↦ absurd (g.first k above f.here)
        ]

pub first-exactly : (steps : List Step) (k : ℕ) → (first_unerased steps ≡ Some k) ↔ IsFirstUnerased steps k
first-exactly steps k = (some-first steps k, first-some steps k)

pub none-exactly : (steps : List Step) → (first_unerased steps ≡ None) ↔ ((k : ℕ) → IsUnerased steps k → ⊥)
none-exactly steps = (none-is steps, from)
  where
    from : ((k : ℕ) → IsUnerased steps k → ⊥) → first_unerased steps ≡ None
    from lacks = go (first_unerased steps) refl
      where
        go : (o : Option ℕ) → first_unerased steps ≡ o → o ≡ None
        go None is = refl
        go (Some j) is = absurd (lacks j (some-first steps j is).here)
