-- Which law writes have: the one that the function finds, and no other.
use Rattle.std.proofs.Common.{◌≡◌, ◌≢◌, suc, Bool, true, false, List, [], ◌∷◌, ◌++◌, refl, sym, ◌∙◌, subst, arith}
use Rattle.std.specs.Prelude.{◌↔◌, if◌then◌else◌}
use Rattle.std.specs.List.{All, AllByRecursion, Any}
use Rattle.std.proofs.lemmas.List.Elements.{All-from_recursion}
use Rattle.pico_board.specs.declared.Step.{Step}
use Rattle.check_require.specs.declared.report.LawOfWrites.{LawOfWrites}
use Rattle.check_require.specs.declared.report.LawOfWrites.TheVariants as laws
use Rattle.check_laws.specs.Made.{does_step, law_with}
use Rattle.check_laws.specs.OwnLaws.{IsLawOf}

pub any-here : {A : Type 0} (P : A → Type 0) (x : A) (xs : List A) → P x → Any P (x ∷ xs)
any-here P x xs p = (0, x, omega arith, refl, p)

pub any-there : {A : Type 0} (P : A → Type 0) (x : A) (xs : List A) → Any P xs → Any P (x ∷ xs)
any-there P x xs (k, y, lt, at, p) = (suc k, y, omega (arith, lt), at, p)

steps-none : (steps : List Step) → does_step steps ≡ false → steps ≡ []
steps-none [] none = refl
steps-none (step ∷ steps) none = cc

steps-some : (steps : List Step) → does_step steps ≡ true → steps ≢ []
steps-some [] some = cc
steps-some (step ∷ steps) some = λ none. cc

module _ {A : Type 0} (done : A → List Step) (test : A → Bool) (kept : A → Type 0) where
  -- the law with writes, one after another
  abbrev pub law_over : LawOfWrites → List A → LawOfWrites
  law_over law [] = law
  law_over law (w ∷ ws) = law_over (if does_step (done w) then law_with law (test w) else law) ws

  pub over-append : (law : LawOfWrites) (xs ys : List A) → law_over law (xs ++ ys) ≡ law_over (law_over law xs) ys
  over-append law [] ys = refl
  over-append law (x ∷ xs) ys = over-append (if does_step (done x) then law_with law (test x) else law) xs ys

  -- a write that does a step is kept, by recursion; and one that is not
  abbrev AreKept : List A → Type 0
  AreKept ws = AllByRecursion (λ w. done w ≢ [] → kept w) ws

  abbrev SomeOpen : List A → Type 0
  SomeOpen ws = Any (λ w. (done w ≢ []) × (kept w → ⊥)) ws

  open-stays : (ws : List A) → law_over laws.Open ws ≡ laws.Open
  open-stays [] = refl
  open-stays (w ∷ ws) = go (does_step (done w)) (open-stays ws)
    where
      go : (b : Bool) → law_over laws.Open ws ≡ laws.Open
          → law_over (if b then law_with laws.Open (test w) else laws.Open) ws ≡ laws.Open
      go true later = later
      go false later = later

  -- what is known of writes behind one that is kept
  abbrev IsGoingOn : LawOfWrites → List A → Type 0
  IsGoingOn laws.Silent ws = ⊥
  IsGoingOn laws.Kept ws = AreKept ws
  IsGoingOn laws.Open ws = SomeOpen ws

  -- and of all of them
  abbrev IsLaw : LawOfWrites → List A → Type 0
  IsLaw laws.Silent ws = AllByRecursion (λ w. done w ≡ []) ws
  IsLaw laws.Kept ws = Any (λ w. done w ≢ []) ws × AreKept ws
  IsLaw laws.Open ws = SomeOpen ws

  module _ (exactly : (w : A) → (test w ≡ true) ↔ kept w) where
    not-kept : (w : A) → test w ≡ false → kept w → ⊥
    not-kept w lacks is = let f : true ≡ false = sym ((exactly w).1 is) ∙ lacks in cc

    goes-silent : (law : LawOfWrites) (w : A) (ws : List A) → done w ≡ [] → IsGoingOn law ws → IsGoingOn law (w ∷ ws)
    goes-silent laws.Silent w ws none is = is
    goes-silent laws.Kept w ws none is = (λ some. absurd (some none), is)
    goes-silent laws.Open w ws none is = any-there (λ x. (done x ≢ []) × (kept x → ⊥)) w ws is

    goes-kept : (law : LawOfWrites) (w : A) (ws : List A) → kept w → IsGoingOn law ws → IsGoingOn law (w ∷ ws)
    goes-kept laws.Silent w ws one is = is
    goes-kept laws.Kept w ws one is = (λ some. one, is)
    goes-kept laws.Open w ws one is = any-there (λ x. (done x ≢ []) × (kept x → ⊥)) w ws is

    going-on : (ws : List A) → IsGoingOn (law_over laws.Kept ws) ws
    going-on [] = tt
    going-on (w ∷ ws) = by (does_step (done w)) refl (going-on ws)
      where
        kept-or : (k : Bool) → test w ≡ k → done w ≢ [] → IsGoingOn (law_over laws.Kept ws) ws
            → IsGoingOn (law_over (if k then laws.Kept else laws.Open) ws) (w ∷ ws)
        kept-or true is some later = goes-kept (law_over laws.Kept ws) w ws ((exactly w).0 is) later
        kept-or false is some later = subst (λ law. IsGoingOn law (w ∷ ws)) (sym (open-stays ws))
            (any-here (λ x. (done x ≢ []) × (kept x → ⊥)) w ws (some, not-kept w is))

        by : (b : Bool) → does_step (done w) ≡ b → IsGoingOn (law_over laws.Kept ws) ws
            → IsGoingOn (law_over (if b then law_with laws.Kept (test w) else laws.Kept) ws) (w ∷ ws)
        by true is later = kept-or (test w) refl (steps-some (done w) is) later
        by false is later = goes-silent (law_over laws.Kept ws) w ws (steps-none (done w) is) later

    law-silent : (law : LawOfWrites) (w : A) (ws : List A) → done w ≡ [] → IsLaw law ws → IsLaw law (w ∷ ws)
    law-silent laws.Silent w ws none is = (none, is)
    law-silent laws.Kept w ws none is = (any-there (λ x. done x ≢ []) w ws is.0, (λ some. absurd (some none), is.1))
    law-silent laws.Open w ws none is = any-there (λ x. (done x ≢ []) × (kept x → ⊥)) w ws is

    law-kept : (law : LawOfWrites) (w : A) (ws : List A) → done w ≢ [] → kept w → IsGoingOn law ws → IsLaw law (w ∷ ws)
    law-kept laws.Silent w ws some one is = absurd is
    law-kept laws.Kept w ws some one is = (any-here (λ x. done x ≢ []) w ws some, (λ does. one, is))
    law-kept laws.Open w ws some one is = any-there (λ x. (done x ≢ []) × (kept x → ⊥)) w ws is

    law-by : (ws : List A) → IsLaw (law_over laws.Silent ws) ws
    law-by [] = tt
    law-by (w ∷ ws) = by (does_step (done w)) refl (law-by ws)
      where
        kept-or : (k : Bool) → test w ≡ k → done w ≢ []
            → IsLaw (law_over (if k then laws.Kept else laws.Open) ws) (w ∷ ws)
        kept-or true is some = law-kept (law_over laws.Kept ws) w ws some ((exactly w).0 is) (going-on ws)
        kept-or false is some = subst (λ law. IsLaw law (w ∷ ws)) (sym (open-stays ws))
            (any-here (λ x. (done x ≢ []) × (kept x → ⊥)) w ws (some, not-kept w is))

        by : (b : Bool) → does_step (done w) ≡ b → IsLaw (law_over laws.Silent ws) ws
            → IsLaw (law_over (if b then law_with laws.Silent (test w) else laws.Silent) ws) (w ∷ ws)
        by true is later = kept-or (test w) refl (steps-some (done w) is)
        by false is later = law-silent (law_over laws.Silent ws) w ws (steps-none (done w) is) later

    in-words : (law : LawOfWrites) (ws : List A) → IsLaw law ws → IsLawOf done kept ws law
    in-words laws.Silent ws is = All-from_recursion (λ w. done w ≡ []) ws is
    in-words laws.Kept ws is = (is.0, All-from_recursion (λ w. done w ≢ [] → kept w) ws is.1)
    in-words laws.Open ws is = is

    -- the law that the function finds
    pub law-is : (ws : List A) → IsLawOf done kept ws (law_over laws.Silent ws)
    law-is ws = in-words (law_over laws.Silent ws) ws (law-by ws)

  -- one of all, and one of some
  met : (P Q : A → Type 0) (ws : List A) → All P ws → Any Q ws → (w : A) × P w × Q w
  met P Q ws all (k, w, lt, at, q) = (w, subst P at (all k w lt), q)

  -- what the words say of each write, and of some
  abbrev Idle : A → Type 0
  Idle w = done w ≡ []

  abbrev Does : A → Type 0
  Does w = done w ≢ []

  abbrev KeptIf : A → Type 0
  KeptIf w = done w ≢ [] → kept w

  abbrev Opens : A → Type 0
  Opens w = (done w ≢ []) × (kept w → ⊥)

  -- no other law is that of the writes
  pub one-law : (ws : List A) (a b : LawOfWrites) → IsLawOf done kept ws a → IsLawOf done kept ws b → a ≡ b
  one-law ws laws.Silent laws.Silent one two = refl
  one-law ws laws.Silent laws.Kept one two = let w = met Idle Does ws one two.0 in absurd (w.2 w.1)
  one-law ws laws.Silent laws.Open one two = let w = met Idle Opens ws one two in absurd (w.2.0 w.1)
  one-law ws laws.Kept laws.Silent one two = let w = met Idle Does ws two one.0 in absurd (w.2 w.1)
  one-law ws laws.Kept laws.Kept one two = refl
  one-law ws laws.Kept laws.Open one two = let w = met KeptIf Opens ws one.1 two in absurd (w.2.1 (w.1 w.2.0))
  one-law ws laws.Open laws.Silent one two = let w = met Idle Opens ws two one in absurd (w.2.0 w.1)
  one-law ws laws.Open laws.Kept one two = let w = met KeptIf Opens ws two.1 one in absurd (w.2.1 (w.1 w.2.0))
  one-law ws laws.Open laws.Open one two = refl
