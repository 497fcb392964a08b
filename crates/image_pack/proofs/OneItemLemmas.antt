-- Item words one item after another, whatever their headers are.
use Rattle.std.proofs.Common.{◌≡◌, ◌≢◌, ◌⊎◌, ℕ, suc, ◌+◌, ◌-◌, ◌==◌, true, false, List, [], ◌∷◌, ◌++◌, length, refl, sym, ap, subst, ◌∙◌, inl, inr, arith, Some, length-append}
use Rattle.std.proofs.lemmas.List.{drop_at, append-nil}
use Rattle.block_codec.specs.declared.items.Item.{Item}
use Rattle.block_codec.specs.Items.{AreItems, AreItemsAfter, item_at, items_from, size_of, type_byte}
use Rattle.block_codec.specs.Kinds.{first_spelling, is_of_kind, item_of_kind}
use Rattle.block_codec.specs.Words.{AreWords}
use Rattle.block_codec.proofs.ItemLemmas.{AreItemsAfter-back, items_from-skip}

-- a header and the rest of its item are whole
pub record IsOneItem (h : ℕ) (body : List ℕ) : Type 0 where
  pub kind : type_byte h ≢ 255
  pub size : size_of h ≡ 1 + length body

-- a whole item in front of whole items
pub item_then : (h : ℕ) (body rest : List ℕ) → IsOneItem h body → AreItems rest → AreItems (h ∷ body ++ rest)
item_then h body rest one items =
    let left : size_of h - 1 ≡ length body = omega (arith, one.size) in
    let all : length (body ++ rest) ≡ length body + length rest = length-append body rest in (
      one.kind,
      omega (arith, one.size),
      subst (λ k. AreItemsAfter k (body ++ rest)) (sym left)
          (AreItemsAfter-back (length body) (body ++ rest) (omega (arith, all))
          (subst AreItems (sym (drop_at body rest (length body) refl)) items)),
    )

pub item_alone : (h : ℕ) (body : List ℕ) → IsOneItem h body → AreItems (h ∷ body)
item_alone h body one = subst (λ ws. AreItems (h ∷ ws)) (append-nil body) (item_then h body [] one tt)

-- the items of such words
pub items_then : (place h : ℕ) (body rest : List ℕ) → size_of h ≡ 1 + length body
    → items_from place 0 (h ∷ body ++ rest) ≡ item_at place h ∷ items_from (place + (1 + length body)) 0 rest
items_then place h body rest size =
    let left : size_of h - 1 ≡ length body = omega (arith, size) in
    let places : place + 1 + length body ≡ place + (1 + length body) = omega arith in
    ap (λ n. item_at place h ∷ items_from (place + 1) n (body ++ rest)) left
    ∙ ap (λ xs. item_at place h ∷ xs) (items_from-skip (place + 1) (length body) (body ++ rest))
    ∙ ap (λ xs. item_at place h ∷ items_from (place + 1 + length body) 0 xs) (drop_at body rest (length body) refl)
    ∙ ap (λ n. item_at place h ∷ items_from n 0 rest) places

pub items_alone : (place h : ℕ) (body : List ℕ) → size_of h ≡ 1 + length body
    → items_from place 0 (h ∷ body) ≡ item_at place h ∷ []
items_alone place h body size =
    ap (λ ws. items_from place 0 (h ∷ ws)) (sym (append-nil body)) ∙ items_then place h body [] size

-- a copied item: none, or a whole one of either kind that is copied
abbrev pub IsCopied : List ℕ → Type 0
IsCopied [] = Unit {0}
IsCopied (h ∷ body) =
    ((type_byte h ≡ 0x44) ⊎ (type_byte h ≡ 0x03)) × (size_of h ≡ 1 + length body) × AreWords (h ∷ body)

-- the item that such words are, at a place
abbrev pub copied_items : ℕ → List ℕ → List Item
copied_items place [] = []
copied_items place (h ∷ body) = item_at place h ∷ []

pub copied_then : (entry rest : List ℕ) → IsCopied entry → AreItems rest → AreItems (entry ++ rest)
copied_then [] rest is items = items
copied_then (h ∷ body) rest is items =
    item_then h body rest (record {
      kind = λ last. elim is.0 [
        | inl one ↦ omega (arith, one, last)
        | inr two ↦ omega (arith, two, last)
      ];
      size = is.1;
    }) items

pub copied_list : (place : ℕ) (entry rest : List ℕ) → IsCopied entry
    → items_from place 0 (entry ++ rest) ≡ copied_items place entry ++ items_from (place + length entry) 0 rest
copied_list place [] rest is = let same : place ≡ place + 0 = omega arith in ap (λ n. items_from n 0 rest) same
copied_list place (h ∷ body) rest is =
    let places : place + (1 + length body) ≡ place + suc (length body) = omega arith in
    items_then place h body rest is.1 ∙ ap (λ n. item_at place h ∷ items_from n 0 rest) places

-- whether an item is of a kind, by its own
pub of_kind : (k kind : ℕ) (item : Item) → item.kind ≡ k → is_of_kind kind item ≡ (first_spelling k == kind)
of_kind k kind item is = ap (λ n. first_spelling n == kind) is

-- a kind is sought behind items of other kinds
pub find_next : (kind : ℕ) (x : Item) (xs : List Item) → is_of_kind kind x ≡ false
    → item_of_kind kind (x ∷ xs) ≡ item_of_kind kind xs
find_next kind x xs no_ = rw no_ refl

pub find_first : (kind : ℕ) (x : Item) (xs : List Item) → is_of_kind kind x ≡ true
    → item_of_kind kind (x ∷ xs) ≡ Some x
find_first kind x xs here = rw here refl

-- a kind is sought behind a copied item of another kind
pub find_copied : (kind place : ℕ) (entry : List ℕ) (xs : List Item) → IsCopied entry
    → (first_spelling 0x44 == kind) ≡ false → (first_spelling 0x03 == kind) ≡ false
    → item_of_kind kind (copied_items place entry ++ xs) ≡ item_of_kind kind xs
find_copied kind place [] xs is a b = refl
find_copied kind place (h ∷ body) xs is a b = find_next kind (item_at place h) xs (elim is.0 [
  | inl one ↦ of_kind 0x44 kind (item_at place h) one ∙ a
  | inr two ↦ of_kind 0x03 kind (item_at place h) two ∙ b
])
