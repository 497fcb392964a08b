-- What stays open of the downloads of events, as they are noted one after another.
use Rattle.std.proofs.Common.{◌≡◌, ℕ, ◌+◌, ◌==◌, Bool, true, false, cond, List, [], ◌∷◌, ◌++◌, Option, None, refl, sym, ap, ◌∙◌, append_assoc}
use Rattle.std.specs.Prelude.{◌&&◌, ◌||◌, not, filter}
use Rattle.std.proofs.lemmas.Bool.{eq-eqb}
use Rattle.std.proofs.lemmas.List.Elements.{filter-append, filter_agree}
use Rattle.check_records.specs.declared.downloads.Kind.{Kind}
use Rattle.check_records.specs.declared.downloads.Beginning.{Beginning}
use Rattle.check_records.specs.declared.downloads.Stage.TheVariants.{Taken, Done, Lost}
use Rattle.check_records.specs.declared.downloads.Share.{Share}
use Rattle.check_records.specs.declared.downloads.Share.TheVariants.{Begins, Continues, Keeps, Drops}
use Rattle.check_records.specs.declared.noting.Open.{Open}
use Rattle.check_records.specs.Noting.{current_after, ended_by, ends_kind, opened, still_open}
use Rattle.check_records.specs.Shares.{counts, is_like}
use Rattle.check_records.specs.Unfinished.{is_done, is_done_in, is_made_good, open_from, open_here}

-- what is open behind the events, the first of which has the number n
abbrev pub open_after : Option Beginning → List Open → ℕ → List Share → List Open
open_after current waiting n [] = waiting
open_after current waiting n (share ∷ shares) =
    open_after (current_after current share) (still_open (ended_by current share) (waiting ++ opened n share)) (n + 1) shares

-- a download of this kind is done in the events, the current one or a later one
abbrev closes : Option Beginning → List Share → Kind → Bool
closes current shares k = (ends_kind current k && is_done_in shares) || is_made_good k shares

abbrev stays : Option Beginning → List Share → Open → Bool
stays current shares o = not (closes current shares o.kind)

abbrev stays_on : Option Beginning → Share → List Share → Open → Bool
stays_on current share shares o =
    not (ends_kind (ended_by current share) o.kind) && stays (current_after current share) shares o

dropped : (e m : Bool) → (true && not (false || m)) ≡ not ((e && false) || m)
dropped true m = refl
dropped false m = refl

ended : (e m : Bool) → (not e && not (false || m)) ≡ not ((e && true) || m)
ended true m = refl
ended false m = refl

begun-on : (e c l d m : Bool) → (true && not (((c && l) && d) || m)) ≡ not ((e && false) || ((c && (l && d)) || m))
begun-on true true l d m = refl
begun-on true false l d m = refl
begun-on false true l d m = refl
begun-on false false l d m = refl

begun-ended : (e c l m : Bool) → (not (c && l) && not (false || m)) ≡ not ((e && false) || ((c && (l && true)) || m))
begun-ended true true true m = refl
begun-ended true true false m = refl
begun-ended true false l m = refl
begun-ended false true true m = refl
begun-ended false true false m = refl
begun-ended false false l m = refl

begun-lost : (e c l m : Bool) → (true && not (false || m)) ≡ not ((e && false) || ((c && (l && false)) || m))
begun-lost true true true m = refl
begun-lost true true false m = refl
begun-lost true false l m = refl
begun-lost false true true m = refl
begun-lost false true false m = refl
begun-lost false false l m = refl

-- one event more
stays-more : (current : Option Beginning) (share : Share) (shares : List Share) (o : Open)
    → stays_on current share shares o ≡ stays current (share ∷ shares) o
stays-more current Keeps shares o = refl
stays-more current Drops shares o = dropped (ends_kind current o.kind) (is_made_good o.kind shares)
stays-more current (Continues Taken) shares o = refl
stays-more current (Continues Done) shares o = ended (ends_kind current o.kind) (is_made_good o.kind shares)
stays-more current (Continues Lost) shares o = dropped (ends_kind current o.kind) (is_made_good o.kind shares)
stays-more current (Begins b Taken) shares o =
    begun-on (ends_kind current o.kind) (counts b) (is_like b.kind o.kind) (is_done_in shares) (is_made_good o.kind shares)
stays-more current (Begins b Done) shares o =
    begun-ended (ends_kind current o.kind) (counts b) (is_like b.kind o.kind) (is_made_good o.kind shares)
stays-more current (Begins b Lost) shares o =
    begun-lost (ends_kind current o.kind) (counts b) (is_like b.kind o.kind) (is_made_good o.kind shares)

filter-both : (p q : Open → Bool) (xs : List Open) → filter q (filter p xs) ≡ filter (λ o. p o && q o) xs
filter-both p q [] = refl
filter-both p q (x ∷ xs) = go (p x) refl (filter-both p q xs)
  where
    go : (b : Bool) → p x ≡ b → filter q (filter p xs) ≡ filter (λ o. p o && q o) xs
        → filter q (cond b (x ∷ filter p xs) (filter p xs))
        ≡ cond (b && q x) (x ∷ filter (λ o. p o && q o) xs) (filter (λ o. p o && q o) xs)
    go true is same = ap (λ (rest : List Open). cond (q x) (x ∷ rest) rest) same
    go false is same = same

filter-all : (xs : List Open) → filter (stays None []) xs ≡ xs
filter-all [] = refl
filter-all (x ∷ xs) = ap (λ rest. x ∷ rest) (filter-all xs)

none-left : (e m : Bool) → not ((e && false) || false) ≡ true
none-left true m = refl
none-left false m = refl

like-self : (k : Kind) → is_like k k ≡ true
like-self k =
    ap (λ b. b && (k.count == k.count)) (eq-eqb k.family k.family refl) ∙ eq-eqb k.count k.count refl

-- the download that the event begins
abbrev here : (Open → Bool) → Bool → Open → List Open
here p c o = filter p (cond c (o ∷ []) [])

here-is : (p : Open → Bool) (o : Open) (c : Bool) (x : Bool) → (c ≡ true → p o ≡ x)
    → here p c o ≡ cond (c && x) (o ∷ []) []
here-is p o true x is = ap (λ b. cond b (o ∷ []) []) (is refl)
here-is p o false x is = refl

kept-on : (d m c l : Bool) → c ≡ true → l ≡ true → (true && not (((c && l) && d) || m)) ≡ (not d && not m)
kept-on true m true true a b = refl
kept-on false m true true a b = refl
kept-on d m true false a b = cc
kept-on d m false l a b = cc

kept-ended : (m c l : Bool) → c ≡ true → l ≡ true → (not (c && l) && not (false || m)) ≡ (not true && not m)
kept-ended m true true a b = refl
kept-ended m true false a b = cc
kept-ended m false l a b = cc

opened-is : (current : Option Beginning) (n : ℕ) (share : Share) (shares : List Share)
    → filter (stays_on current share shares) (opened n share) ≡ open_here n share shares
opened-is current n Keeps shares = refl
opened-is current n Drops shares = refl
opened-is current n (Continues stage) shares = refl
opened-is current n (Begins b Taken) shares =
    here-is (stays_on current (Begins b Taken) shares) (record { number = n; kind = b.kind }) (counts b)
    (not (is_done Taken shares) && not (is_made_good b.kind shares))
    (λ holds. kept-on (is_done_in shares) (is_made_good b.kind shares) (counts b) (is_like b.kind b.kind) holds (like-self b.kind))
opened-is current n (Begins b Done) shares =
    here-is (stays_on current (Begins b Done) shares) (record { number = n; kind = b.kind }) (counts b)
    (not (is_done Done shares) && not (is_made_good b.kind shares))
    (λ holds. kept-ended (is_made_good b.kind shares) (counts b) (is_like b.kind b.kind) holds (like-self b.kind))
opened-is current n (Begins b Lost) shares =
    here-is (stays_on current (Begins b Lost) shares) (record { number = n; kind = b.kind }) (counts b)
    (not (is_done Lost shares) && not (is_made_good b.kind shares)) (λ holds. refl)

stays-none : (current : Option Beginning) (xs : List Open) → filter (stays current []) xs ≡ xs
stays-none current xs =
    filter_agree (stays current []) (stays None []) (λ o. none-left (ends_kind current o.kind) false) xs ∙ filter-all xs

-- what is open behind the events: what was open before and stays so, and what they begin and leave open
pub open-all : (shares : List Share) (current : Option Beginning) (waiting : List Open) (n : ℕ)
    → open_after current waiting n shares ≡ filter (stays current shares) waiting ++ open_from n shares
open-all [] current waiting n = sym (append-none (filter (stays current []) waiting) ∙ stays-none current waiting)
  where
    append-none : (xs : List Open) → xs ++ [] ≡ xs
    append-none [] = refl
    append-none (x ∷ xs) = ap (λ rest. x ∷ rest) (append-none xs)
open-all (share ∷ shares) current waiting n =
    let next = current_after current share in
    let over = ended_by current share in
    let p = stays_on current share shares in
    open-all shares next (still_open over (waiting ++ opened n share)) (n + 1)
    ∙ (ap (λ (xs : List Open). xs ++ open_from (n + 1) shares)
    (filter-both (λ (o : Open). not (ends_kind over o.kind)) (stays next shares) (waiting ++ opened n share)
    ∙ (filter-append p waiting (opened n share)
    ∙ (ap (λ (xs : List Open). xs ++ filter p (opened n share))
    (filter_agree p (stays current (share ∷ shares)) (stays-more current share shares) waiting)
    ∙ ap (λ (xs : List Open). filter (stays current (share ∷ shares)) waiting ++ xs) (opened-is current n share shares))))
    ∙ append_assoc (filter (stays current (share ∷ shares)) waiting) (open_here n share shares) (open_from (n + 1) shares))

-- from the first event on
pub open-first : (shares : List Share) → open_after None [] 0 shares ≡ open_from 0 shares
open-first shares = open-all shares None [] 0

-- whether one of the events begins a download
pub begun-more : (begun first rest : Bool) → ((begun || first) || rest) ≡ (begun || (first || rest))
begun-more true first rest = refl
begun-more false first rest = refl
