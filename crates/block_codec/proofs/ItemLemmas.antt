-- How the counters of the item grammar step over whole items.
use Rattle.std.proofs.Common.{◌≡◌, ◌≢◌, ◌↔◌, ℕ, zero, suc, ◌+◌, ◌-◌, ◌<◌, ◌≤◌, List, [], ◌∷◌, ◌++◌, length, take, drop, get_or, Option, Some, None, refl, sym, ap, subst, ◌∙◌, inl, inr, arith, length-drop}
use Rattle.std.proofs.lemmas.List.{drop-drop, drop_all, drop_more}
use Rattle.std.proofs.lemmas.Bool.{cases_eq, cases_lt, eq-eqb, ne_eqb}
use Rattle.std.proofs.lemmas.Option.{none-some, same_Some, slice_get-get_or}
use Rattle.std.specs.List.{slice_get, Contains}
use Rattle.std.specs.Option.{option_map}
use Rattle.block_codec.specs.Items.{type_byte, size_of, AreItemsAfter, AreItems, item_at, items_from, items_of, IsItemOf}
use Rattle.block_codec.specs.Reading.{words_before}
use Rattle.block_codec.specs.declared.items.Item.{Item}

-- the place, where there is one, is counted from n words further in front
abbrev pub later : ℕ → Option ℕ → Option ℕ
later n o = option_map (λ m. n + m) o

later-zero : (o : Option ℕ) → later 0 o ≡ o
later-zero None = refl
later-zero (Some m) = ap Some (omega arith)

suc-later : (n : ℕ) (o : Option ℕ) → option_map suc (later n o) ≡ later (suc n) o
suc-later n None = refl
suc-later n (Some m) = ap Some (omega arith)

pub later-later : (a b : ℕ) (o : Option ℕ) → later a (later b o) ≡ later (a + b) o
later-later a b None = refl
later-later a b (Some m) = ap Some (omega arith)

-- what follows a begun item is counted as if it began there
pub words_before-skip : (k : ℕ) (ws : List ℕ) → words_before k ws ≡ later k (words_before 0 (drop k ws))
words_before-skip zero ws = sym (later-zero (words_before 0 ws))
words_before-skip (suc k) [] = refl
words_before-skip (suc k) (w ∷ ws) = ap (option_map suc) (words_before-skip k ws) ∙ suc-later k _

words_before-item : (h : ℕ) (ws : List ℕ) → type_byte h ≢ 255 → size_of h ≢ 0
    → words_before 0 (h ∷ ws) ≡ option_map suc (words_before (size_of h - 1) ws)
words_before-item h ws kind size =
    let e = ne_eqb (type_byte h) 255 kind in
    let f = ne_eqb (size_of h) 0 size in
    rw (e, f) refl

-- what follows an item of n + 1 words, in front of the words from a place on, is counted as if it began there
step_from : (ws : List ℕ) (at size n h : ℕ) → size_of h ≡ size → size ≡ suc n → type_byte h ≢ 255 →
    words_before 0 (h ∷ drop (at + 1) ws) ≡ later size (words_before 0 (drop (at + size) ws))
step_from ws at size n h is_size is_suc kind =
    let rest : size_of h - 1 ≡ n = omega arith in
    let place : (at + 1) + n ≡ at + size = omega arith in
    words_before-item h (drop (at + 1) ws) kind (λ e. omega arith)
    ∙ ap (λ k. option_map suc (words_before k (drop (at + 1) ws))) rest
    ∙ ap (option_map suc) (words_before-skip n (drop (at + 1) ws))
    ∙ suc-later n (words_before 0 (drop n (drop (at + 1) ws)))
    ∙ ap (λ xs. later (suc n) (words_before 0 xs)) (drop-drop n (at + 1) ws ∙ ap (λ k. drop k ws) place)
    ∙ ap (λ k. later k (words_before 0 (drop (at + size) ws))) (sym is_suc)

-- a whole item in front is stepped over
pub words_before-step : (ws : List ℕ) (at : ℕ) → at < length ws → type_byte (get_or ws at 0) ≢ 255
    → size_of (get_or ws at 0) ≢ 0 →
    words_before 0 (drop at ws) ≡ later (size_of (get_or ws at 0))
    (words_before 0 (drop (at + size_of (get_or ws at 0)) ws))
words_before-step ws at h kind size =
    ap (words_before 0) (drop_more ws at 0 h)
    ∙ step_from ws at (size_of (get_or ws at 0)) (size_of (get_or ws at 0) - 1) (get_or ws at 0) refl (omega arith) kind

-- the first header with type byte 0xff stands after n words, and whole items before it
pub record Ends (k : ℕ) (ws : List ℕ) (n : ℕ) : Type 0 where
  pub inside : n < length ws
  pub last : type_byte (get_or ws n 0) ≡ 255
  pub items : AreItemsAfter k (take n ws)

some_suc : (o : Option ℕ) (n : ℕ) → option_map suc o ≡ Some n → (m : ℕ) × (o ≡ Some m) × (n ≡ suc m)
some_suc None n e = cc
some_suc (Some m) n e = (m, refl, cc)

Ends-item : (h : ℕ) (ws : List ℕ) (m : ℕ) → type_byte h ≢ 255 → size_of h ≢ 0 → Ends (size_of h - 1) ws m
    → Ends 0 (h ∷ ws) (suc m)
Ends-item h ws m kind size e =
    record { inside = let f = e.inside in omega (arith, f); last = e.last; items = (kind, omega arith, e.items) }

Ends-zero : (h : ℕ) (ws : List ℕ) (n : ℕ)
    → ((m : ℕ) → words_before (size_of h - 1) ws ≡ Some m → Ends (size_of h - 1) ws m)
    → words_before 0 (h ∷ ws) ≡ Some n → Ends 0 (h ∷ ws) n
Ends-zero h ws n ih e =
    elim (cases_eq (type_byte h) 255) [
      | inl last ↦
          let test = eq-eqb (type_byte h) 255 last in
          let found : ◌≡◌ {A = Option ℕ} (Some 0) (Some n) = rw test at e in
          let is : 0 ≡ n = cc in
          subst (λ m. Ends 0 (h ∷ ws) m) is (record { inside = omega arith; last = last; items = tt })
      | inr kind ↦ elim (cases_eq (size_of h) 0) [
        | inl none ↦
            let test = ne_eqb (type_byte h) 255 kind in
            let test2 = eq-eqb (size_of h) 0 none in
            let found : ◌≡◌ {A = Option ℕ} None (Some n) = rw (test, test2) at e in cc
        | inr size ↦
            let (m, found, is) = some_suc _ n (sym (words_before-item h ws kind size) ∙ e) in
            subst (λ m. Ends 0 (h ∷ ws) m) (sym is) (Ends-item h ws m kind size (ih m found))
      ]
    ]

-- a place that was found is the place of the last item
pub Ends-from_found : (k : ℕ) (ws : List ℕ) (n : ℕ) → words_before k ws ≡ Some n → Ends k ws n
Ends-from_found k [] n e = cc
Ends-from_found zero (h ∷ ws) n e = Ends-zero h ws n (λ m. Ends-from_found (size_of h - 1) ws m) e
Ends-from_found (suc k) (w ∷ ws) n e =
    let (m, found, is) = some_suc _ n e in
    let ends = Ends-from_found k ws m found in
    subst (λ m. Ends (suc k) (w ∷ ws) m) (sym is)
    (record { inside = omega arith; last = ends.last; items = ends.items })

-- after whole items the last item is found
pub words_before-items : (k : ℕ) (ws : List ℕ) (h : ℕ) (rest : List ℕ) → AreItemsAfter k ws → type_byte h ≡ 255
    → words_before k (ws ++ h ∷ rest) ≡ Some (length ws)
words_before-items zero [] h rest items last = rw (eq-eqb (type_byte h) 255 last) refl
words_before-items (suc k) [] h rest items last = absurd items
words_before-items zero (x ∷ ws) h rest items last =
    let size : size_of x ≢ 0 = λ e. omega (arith, items.1, e) in
    words_before-item x (ws ++ h ∷ rest) items.0 size
    ∙ ap (option_map suc) (words_before-items (size_of x - 1) ws h rest items.2 last)
words_before-items (suc k) (x ∷ ws) h rest items last = ap (option_map suc) (words_before-items k ws h rest items last)

-- words that follow whole items
pub AreItemsAfter-append : (k : ℕ) (xs ys : List ℕ) → AreItemsAfter k xs → AreItems ys → AreItemsAfter k (xs ++ ys)
AreItemsAfter-append zero [] ys x y = y
AreItemsAfter-append (suc k) [] ys x y = absurd x
AreItemsAfter-append zero (h ∷ xs) ys x y = (x.0, x.1, AreItemsAfter-append (size_of h - 1) xs ys x.2 y)
AreItemsAfter-append (suc k) (w ∷ xs) ys x y = AreItemsAfter-append k xs ys x y

-- a begun item has room
pub room_for : (k : ℕ) (ws : List ℕ) → AreItemsAfter k ws → k ≤ length ws
room_for zero ws h = omega arith
room_for (suc k) [] h = absurd h
room_for (suc k) (w ∷ ws) h = let ih = room_for k ws h in omega (arith, ih)

pub AreItemsAfter-skip : (k : ℕ) (ws : List ℕ) → AreItemsAfter k ws → AreItems (drop k ws)
AreItemsAfter-skip zero ws h = h
AreItemsAfter-skip (suc k) [] h = absurd h
AreItemsAfter-skip (suc k) (w ∷ ws) h = AreItemsAfter-skip k ws h

pub AreItemsAfter-back : (k : ℕ) (ws : List ℕ) → k ≤ length ws → AreItems (drop k ws) → AreItemsAfter k ws
AreItemsAfter-back zero ws l h = h
AreItemsAfter-back (suc k) [] l h = absurd (omega arith)
AreItemsAfter-back (suc k) (w ∷ ws) l h = AreItemsAfter-back k ws (omega arith) h

pub items_from-skip : (place k : ℕ) (ws : List ℕ) → items_from place k ws ≡ items_from (place + k) 0 (drop k ws)
items_from-skip place zero ws = ap (λ p. items_from p 0 ws) (omega arith)
items_from-skip place (suc k) [] = refl
items_from-skip place (suc k) (w ∷ ws) =
    items_from-skip (place + 1) k ws ∙ ap (λ p. items_from p 0 (drop k ws)) (omega arith)

-- what the item at place `at` of the words takes
pub record StepsOver (ws : List ℕ) (at size : ℕ) : Type 0 where
  pub kind : type_byte (get_or ws at 0) ≢ 255
  pub some : 1 ≤ size
  pub inside : at + size ≤ length ws
  pub rest : AreItems (drop (at + size) ws)
  pub items : (place : ℕ) → items_from place 0 (drop at ws) ≡ item_at place (get_or ws at 0)
      ∷ items_from (place + size) 0 (drop (at + size) ws)

step_over : (ws tail : List ℕ) (at size n h : ℕ) → at < length ws → h ≡ get_or ws at 0 → tail ≡ drop (at + 1) ws
    → size_of h ≡ size → size ≡ suc n → AreItems (h ∷ tail) →
    drop at ws ≡ h ∷ tail → StepsOver ws at size
step_over ws tail at size n h lt is_h is_tail is_size is_suc items front =
    let rest : size_of h - 1 ≡ n = omega arith in
    let place : (at + 1) + n ≡ at + size = omega arith in
    let after : AreItemsAfter n tail = subst (λ k. AreItemsAfter k tail) rest items.2 in
    let long = room_for n tail after in
    let tail_long = ap length is_tail ∙ length-drop (at + 1) ws in
    let dropped : drop n tail ≡ drop (at + size) ws = ap (drop n) is_tail ∙ drop-drop n (at + 1) ws
    ∙ ap (λ k. drop k ws) place in
    record {
      kind = subst (λ w. type_byte w ≢ 255) is_h items.0;
      some = omega arith;
      inside = omega arith;
      rest = subst AreItems dropped (AreItemsAfter-skip n tail after);
      items = λ p.
          ap (items_from p 0) front
          ∙ ap (λ i. i ∷ items_from (p + 1) (size_of h - 1) tail) (ap (item_at p) is_h)
          ∙ ap (λ is. item_at p (get_or ws at 0) ∷ is)
          (ap (λ k. items_from (p + 1) k tail) rest ∙ items_from-skip (p + 1) n tail
          ∙ ap (items_from (p + 1 + n) 0) dropped
          ∙ ap (λ k. items_from k 0 (drop (at + size) ws)) (omega arith));
    }

-- one item of whole items is stepped over
pub StepsOver-at : (ws : List ℕ) (at size : ℕ) → at < length ws → AreItems (drop at ws)
    → size ≡ size_of (get_or ws at 0) → StepsOver ws at size
StepsOver-at ws at size lt items is =
    let front = drop_more ws at 0 lt in
    let whole : AreItems (get_or ws at 0 ∷ drop (at + 1) ws) = subst AreItems front items in
    let some = whole.1 in
    step_over ws (drop (at + 1) ws) at size (size - 1) (get_or ws at 0) lt refl refl (sym is)
    (omega (arith, some, is)) whole front

-- the items among words that stand at a place, each with its bounds and its header
pub record IsItemFrom (place : ℕ) (ws : List ℕ) (item : Item) : Type 0 where
  pub first : place ≤ item.first
  pub some : 1 ≤ item.words
  pub inside : item.first + item.words ≤ place + length ws
  pub kind : item.kind ≢ 255
  pub is : item ≡ item_at item.first (get_or ws (item.first - place) 0)

IsItemFrom-tail : (place w : ℕ) (ws : List ℕ) (item : Item) → IsItemFrom (place + 1) ws item
    → IsItemFrom place (w ∷ ws) item
IsItemFrom-tail place w ws item i =
    let first = i.first in
    let inside = i.inside in
    let e : item.first - place ≡ suc (item.first - (place + 1)) = omega arith in
    record {
      first = omega arith;
      some = i.some;
      inside = omega arith;
      kind = i.kind;
      is = i.is ∙ ap (λ k. item_at item.first (get_or (w ∷ ws) k 0)) (sym e);
    }

IsItemFrom-head : (place h : ℕ) (ws : List ℕ) (item : Item) → AreItems (h ∷ ws) → Some (item_at place h) ≡ Some item
    → IsItemFrom place (h ∷ ws) item
IsItemFrom-head place h ws item items e =
    let room = room_for (size_of h - 1) ws items.2 in
    let some = items.1 in
    let zero : 0 ≡ place - place = omega arith in
    subst (IsItemFrom place (h ∷ ws)) (same_Some (item_at place h) item e)
    (record {
      first = omega arith;
      some = some;
      inside = omega arith;
      kind = items.0;
      is = ap (λ k. item_at place (get_or (h ∷ ws) k 0)) zero;
    })

pub items_from-get : (place k : ℕ) (ws : List ℕ) (j : ℕ) (item : Item) → AreItemsAfter k ws
    → slice_get (items_from place k ws) j ≡ Some item → IsItemFrom place ws item
items_from-get place k [] j item items e = absurd (none-some item e)
items_from-get place zero (h ∷ ws) zero item items e = IsItemFrom-head place h ws item items e
items_from-get place zero (h ∷ ws) (suc j) item items e =
    IsItemFrom-tail place h ws item (items_from-get (place + 1) (size_of h - 1) ws j item items.2 e)
items_from-get place (suc k) (w ∷ ws) j item items e =
    IsItemFrom-tail place w ws item (items_from-get (place + 1) k ws j item items e)

-- each of a block's items lies in it and is what its header says
pub IsItemOf-from_get : (ws : List ℕ) (j : ℕ) (item : Item) → AreItems ws → slice_get (items_of ws) j ≡ Some item
    → IsItemOf ws item
IsItemOf-from_get ws j item items e =
    let i = items_from-get 1 0 ws j item items e in
    record { first = i.first; some = i.some; inside = i.inside; kind = i.kind; is = i.is }

pub IsItemOf-from_contains : (ws : List ℕ) (item : Item) → AreItems ws → Contains (items_of ws) item → IsItemOf ws item
IsItemOf-from_contains ws item items (k, lt, is) =
    IsItemOf-from_get ws k item items (slice_get-get_or (items_of ws) k item lt ∙ ap Some is)

-- the items of whole items, read with `drop`
pub items_by_drop : (h : ℕ) (ws : List ℕ) →
    AreItems (h ∷ ws) ↔ ((type_byte h ≢ 255) × (1 ≤ size_of h) × (size_of h ≤ length (h ∷ ws))
    × AreItems (drop (size_of h) (h ∷ ws)))
items_by_drop h ws = (
  (λ items.
      let some = items.1 in
      let e : size_of h ≡ suc (size_of h - 1) = omega arith in
      let room = room_for (size_of h - 1) ws items.2 in (
        items.0,
        some,
        omega arith,
        subst (λ k. AreItems (drop k (h ∷ ws))) (sym e)
            (AreItemsAfter-skip (size_of h - 1) ws items.2),
      )),
  (λ p.
      let some = p.1 in
      let room = p.2 in
      let e : size_of h ≡ suc (size_of h - 1) = omega arith in
      (p.0, some, AreItemsAfter-back (size_of h - 1) ws (omega arith) (subst (λ k. AreItems (drop k (h ∷ ws))) e p.3))),
)

pub get_at_drop : {X : Type 0} (xs : List X) (i : ℕ) (y : X) (ys : List X) → drop i xs ≡ y ∷ ys
    → slice_get xs i ≡ Some y
get_at_drop [] zero y ys e = cc
get_at_drop [] (suc i) y ys e = cc
get_at_drop (x ∷ xs) zero y ys e = cc
get_at_drop (x ∷ xs) (suc i) y ys e = get_at_drop xs i y ys e

-- one item more was counted
pub counted-more : (ws : List ℕ) (at size count total : ℕ) → StepsOver ws at size →
    total ≡ count + length (items_from (1 + at) 0 (drop at ws))
    → total ≡ (count + 1) + length (items_from (1 + (at + size)) 0 (drop (at + size) ws))
counted-more ws at size count total step counted =
    let e : length (items_from (1 + at) 0 (drop at ws))
    ≡ suc (length (items_from ((1 + at) + size) 0 (drop (at + size) ws))) =
    ap length (step.items (1 + at)) in
    let f : length (items_from ((1 + at) + size) 0 (drop (at + size) ws))
    ≡ length (items_from (1 + (at + size)) 0 (drop (at + size) ws)) =
    ap (λ p. length (items_from p 0 (drop (at + size) ws))) (omega arith) in
    omega arith

-- where items are left, words are
pub words_left : (place : ℕ) (ws : List ℕ) (at n : ℕ) (items : List Item)
    → drop n items ≡ items_from place 0 (drop at ws) → n < length items → at < length ws
words_left place ws at n items e lt =
    elim (cases_lt at (length ws)) [
      | inl less ↦ less
      | inr past ↦
          let none : drop n items ≡ [] = e ∙ ap (items_from place 0) (drop_all at ws past) in
          let long = length-drop n items in
          let zero : length (drop n items) ≡ 0 = ap length none in
          absurd (omega arith)
    ]

-- behind one item come the others
pub rest-more : (ws : List ℕ) (at size n : ℕ) (items : List Item) → StepsOver ws at size →
    drop n items ≡ items_from (1 + at) 0 (drop at ws)
    → drop (n + 1) items ≡ items_from (1 + (at + size)) 0 (drop (at + size) ws)
rest-more ws at size n items step e =
    sym (drop-drop 1 n items) ∙ ap (drop 1) (e ∙ step.items (1 + at))
    ∙ ap (λ p. items_from p 0 (drop (at + size) ws)) (omega arith)

-- the item in front of the others
pub item_here : (ws : List ℕ) (at size n first : ℕ) (items : List Item) → StepsOver ws at size → first ≡ at + 1 →
    drop n items ≡ items_from (1 + at) 0 (drop at ws) → slice_get items n ≡ Some (item_at first (get_or ws at 0))
item_here ws at size n first items step is e =
    let same : first ≡ 1 + at = omega arith in
    get_at_drop items n (item_at first (get_or ws at 0)) _
    (e ∙ step.items (1 + at) ∙ ap
    (λ p. item_at p (get_or ws at 0) ∷ items_from ((1 + at) + size) 0 (drop (at + size) ws)) (sym same))
