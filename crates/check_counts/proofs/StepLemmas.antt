-- Lists that are changed one element after another.
use Rattle.std.proofs.Common.{◌≡◌, ℕ, zero, suc, ◌+◌, ◌<◌, ◌≤◌, Bool, List, [], ◌∷◌, ◌++◌, length, take, drop, get_or, set, refl, sym, ap, ◌∙◌, arith}
use Rattle.std.specs.Prelude.{map}
use Rattle.std.proofs.lemmas.List.{drop-set-lt, get_or-drop, length-take-le, map-append, take-append-drop, take_all, take_more, take_more_set}
use Rattle.check_counts.specs.Tallies.{counted, counted_each}

-- ---- what is left of two lists

abbrev rest : {X : Type 0} → List X → List X
rest [] = []
rest (x ∷ xs) = xs

drop-rest : {X : Type 0} (i : ℕ) (xs : List X) → drop (suc i) xs ≡ rest (drop i xs)
drop-rest zero [] = refl
drop-rest zero (x ∷ xs) = refl
drop-rest (suc i) [] = refl
drop-rest (suc i) (x ∷ xs) = drop-rest i xs

more : (i : ℕ) → i + 1 ≡ suc i
more i = omega arith

same : (i : ℕ) → i ≡ i + 0
same i = omega arith

-- where two lists are the same from a place on, so they are behind it, also where the first is changed there
pub left-next : {X : Type 0} (xs ys : List X) (i : ℕ) (v : X) → drop i xs ≡ drop i ys
    → drop (i + 1) (set xs i v) ≡ drop (i + 1) ys
left-next xs ys i v left =
    drop-set-lt (i + 1) xs i v (omega arith)
    ∙ (ap (λ k. drop k xs) (more i) ∙ (drop-rest i xs ∙ (ap rest left
    ∙ (sym (drop-rest i ys) ∙ ap (λ k. drop k ys) (sym (more i))))))

pub left-same : {X : Type 0} (xs ys : List X) (i : ℕ) → drop i xs ≡ drop i ys → drop (i + 1) xs ≡ drop (i + 1) ys
left-same xs ys i left =
    ap (λ k. drop k xs) (more i) ∙ (drop-rest i xs ∙ (ap rest left
    ∙ (sym (drop-rest i ys) ∙ ap (λ k. drop k ys) (sym (more i)))))

at-same : {X : Type 0} (xs ys : List X) (i : ℕ) (d : X) → drop i xs ≡ drop i ys → get_or xs i d ≡ get_or ys i d
at-same xs ys i d left =
    ap (λ k. get_or xs k d) (same i)
    ∙ (sym (get_or-drop i xs 0 d) ∙ (ap (λ l. get_or l 0 d) left
    ∙ (get_or-drop i ys 0 d ∙ ap (λ k. get_or ys k d) (sym (same i)))))

-- ---- each element by a function

pub map-next : {X : Type 0} (f : X → X) (xs ys : List X) (i : ℕ) (d v : X) → i < length xs → length xs ≡ length ys
    → take i xs ≡ map f (take i ys) → drop i xs ≡ drop i ys → v ≡ f (get_or xs i d)
    → take (i + 1) (set xs i v) ≡ map f (take (i + 1) ys)
map-next f xs ys i d v lt long done left is =
    take_more_set xs i v lt
    ∙ (ap (λ l. l ++ v ∷ []) done
    ∙ (ap (λ w. map f (take i ys) ++ w ∷ []) (is ∙ ap f (at-same xs ys i d left))
    ∙ (sym (map-append f (take i ys) (get_or ys i d ∷ []))
    ∙ ap (map f) (sym (take_more ys i d (omega (arith, lt, long)))))))

-- ---- each count after one thing more

ends : (us : List ℕ) (bs : List Bool) (a : ℕ) (b : Bool) → length us ≡ length bs
    → counted_each (us ++ a ∷ []) (bs ++ b ∷ []) ≡ counted_each us bs ++ counted a b ∷ []
ends [] [] a b e = refl
ends [] (y ∷ bs) a b e = absurd (omega (arith, e))
ends (x ∷ us) [] a b e = absurd (omega (arith, e))
ends (x ∷ us) (y ∷ bs) a b e = ap (λ l. counted x y ∷ l) (ends us bs a b (omega (arith, e)))

beyond : (us : List ℕ) (bs : List Bool) (b : Bool) → length us ≤ length bs
    → counted_each us (bs ++ b ∷ []) ≡ counted_each us bs
beyond [] bs b few = refl
beyond (x ∷ us) [] b few = absurd (omega (arith, few))
beyond (x ∷ us) (y ∷ bs) b few = ap (λ l. counted x y ∷ l) (beyond us bs b (omega (arith, few)))

pub each-next : (xs ys : List ℕ) (bs : List Bool) (i v : ℕ) (b : Bool) → i < length xs → i < length bs
    → length xs ≡ length ys → take i xs ≡ counted_each (take i ys) (take i bs) → drop i xs ≡ drop i ys
    → v ≡ counted (get_or xs i 0) (get_or bs i b)
    → take (i + 1) (set xs i v) ≡ counted_each (take (i + 1) ys) (take (i + 1) bs)
each-next xs ys bs i v b lt within long done left is =
    take_more_set xs i v lt
    ∙ (ap (λ l. l ++ v ∷ []) done
    ∙ (ap (λ w. counted_each (take i ys) (take i bs) ++ w ∷ [])
    (is ∙ ap (λ n. counted n (get_or bs i b)) (at-same xs ys i 0 left))
    ∙ (sym (ends (take i ys) (take i bs) (get_or ys i 0) (get_or bs i b)
    (length-take-le i ys (omega (arith, lt, long)) ∙ sym (length-take-le i bs (omega (arith, within)))))
    ∙ (ap (λ l. counted_each l (take i bs ++ get_or bs i b ∷ [])) (sym (take_more ys i 0 (omega (arith, lt, long))))
    ∙ ap (counted_each (take (i + 1) ys)) (sym (take_more bs i b within))))))

-- behind the last count nothing is counted
pub each-beyond : (xs ys : List ℕ) (bs : List Bool) (i : ℕ) (b : Bool) → length xs ≤ i → i < length bs
    → length xs ≡ length ys → take i xs ≡ counted_each (take i ys) (take i bs)
    → take (i + 1) xs ≡ counted_each (take (i + 1) ys) (take (i + 1) bs)
each-beyond xs ys bs i b out within long done =
    take_all (i + 1) xs (omega (arith, out))
    ∙ (sym (take_all i xs out)
    ∙ (done
    ∙ (ap (λ l. counted_each l (take i bs)) (take_all i ys (omega (arith, out, long)))
    ∙ (sym (beyond ys (take i bs) (get_or bs i b)
    (let taken = length-take-le i bs (omega (arith, within)) in omega (arith, out, long, taken)))
    ∙ (ap (counted_each ys) (sym (take_more bs i b within))
    ∙ ap (λ l. counted_each l (take (i + 1) bs)) (sym (take_all (i + 1) ys (omega (arith, out, long)))))))))

whole : (ys : List ℕ) (bs : List Bool) (i : ℕ) → length bs ≤ i
    → counted_each (take i ys) bs ++ drop i ys ≡ counted_each ys bs
whole [] bs zero few = refl
whole [] bs (suc i) few = refl
whole (y ∷ ys) [] zero few = refl
whole (y ∷ ys) (b ∷ bs) zero few = absurd (omega (arith, few))
whole (y ∷ ys) [] (suc i) few = ap (λ l. y ∷ l) (take-append-drop i ys)
whole (y ∷ ys) (b ∷ bs) (suc i) few = ap (λ l. counted y b ∷ l) (whole ys bs i (omega (arith, few)))

-- all are counted
pub each-all : (xs ys : List ℕ) (bs : List Bool) (i : ℕ) → length bs ≤ i
    → take i xs ≡ counted_each (take i ys) (take i bs) → drop i xs ≡ drop i ys → xs ≡ counted_each ys bs
each-all xs ys bs i few done left =
    sym (take-append-drop i xs)
    ∙ (ap (λ l. l ++ drop i xs) (done ∙ ap (counted_each (take i ys)) (take_all i bs few))
    ∙ (ap (λ l. counted_each (take i ys) bs ++ l) left ∙ whole ys bs i few))
