-- What the definition of a new block says, and its first load.
use Rattle.std.proofs.Common.{◌≡◌, ℕ, suc, ◌+◌, ◌*◌, ◌/◌, ◌%◌, ◌==◌, if◌then◌else◌, true, false, List, [], ◌∷◌, ◌++◌, length, take, drop, refl, sym, ap, subst, ◌∙◌, arith, Option, Some, None, Ok}
use Rattle.std.specs.List.{slice_index}
use Rattle.std.proofs.lemmas.Bool.{eq-eqb, ne_eqb}
use Rattle.block_codec.specs.declared.definition.Def.{Def}
use Rattle.block_codec.specs.declared.versions.Version.{Version}
use Rattle.block_codec.specs.Blocks.{BlockView, block_words}
use Rattle.block_codec.specs.FirstFault.{ok_unless}
use Rattle.block_codec.specs.Items.{high_byte, item_at, items_of, size_of}
use Rattle.block_codec.specs.Kinds.{version_of, version_words}
use Rattle.image_def.specs.declared.fault.DefFault.{DefFault}
use Rattle.image_def.specs.Definition.{def_of, def_record}
use Rattle.image_def.specs.Faults.{def_fault}
use Rattle.image_def.specs.Rows.{halves_of, rollback_in, rows_in}
use Rattle.image_pack.specs.Faults.{IsRightRollback}
use Rattle.image_pack.specs.ReadBack.{IsHalves}
use Rattle.image_pack.specs.Sealing.{packed, row_halves}
use Rattle.image_pack.proofs.SealedPartLemmas.{AreHalves}

-- the half words that were packed are read again, whatever follows them
pub halves_back : (hs rest : List ℕ) → AreHalves hs → take (length hs) (halves_of (packed hs ++ rest)) ≡ hs
halves_back [] rest are = refl
halves_back (low ∷ []) rest are = let same : low % 65536 ≡ low = omega (arith, are.0) in ap (λ h. h ∷ []) same
halves_back (low ∷ high ∷ hs) rest are =
    let one : (low + 65536 * high) % 65536 ≡ low = omega (arith, are.0) in
    let two : (low + 65536 * high) / 65536 ≡ high = omega (arith, are.0) in
    ap (λ h. h ∷ (low + 65536 * high) / 65536 ∷ take (length hs) (halves_of (packed hs ++ rest))) one
    ∙ ap (λ h. low ∷ h ∷ take (length hs) (halves_of (packed hs ++ rest))) two
    ∙ ap (λ xs. low ∷ high ∷ xs) (halves_back hs rest are.1.1)

head_is : (n y : ℕ) (xs ys : List ℕ) → take (suc n) xs ≡ y ∷ ys → (slice_index xs 0 ≡ y) × (take n (drop 1 xs) ≡ ys)
head_is n y [] ys is = cc
head_is n y (x ∷ xs) ys is =
    let one : x ≡ y = cc in let two : take n xs ≡ ys = cc in (one, two)

-- the rollback version and the rows that such half words say
rows_say : (high : ℕ) (rollback : Option ℕ) (rows tail : List ℕ) → high ≡ length rows → IsRightRollback rollback rows
    → take (length (row_halves rollback rows)) tail ≡ row_halves rollback rows
    → ((if high == 0 then None else Some (slice_index tail 0)) ≡ rollback) × (take high (drop 1 tail) ≡ rows)
rows_say high None [] tail is right says =
    subst (λ h. ((if h == 0 then None else Some (slice_index tail 0)) ≡ None) × (take h (drop 1 tail) ≡ [])) (sym is)
    (refl, refl)
rows_say high (Some v) [] tail is right says = absurd (right.0 refl)
rows_say high None (row ∷ rows) tail is right says = cc
rows_say high (Some v) (row ∷ rows) tail is right says =
    let parts = head_is (suc (length rows)) v tail (row ∷ rows) says in
    let some : (high == 0) ≡ false = ne_eqb high 0 (omega (arith, is)) in
    (rw some (ap Some parts.0), ap (λ n. take n (drop 1 tail)) is ∙ parts.1)

version_is : (a b : ℕ) (v : Version) → a ≡ v.major → b ≡ v.minor → record { major = a; minor = b } ≡ v
version_is a b v one two =
    ap (λ x. record { major = x; minor = b }) one ∙ ap (λ x. record { major = v.major; minor = x }) two

module _ (words : List ℕ) (vh : ℕ) (v : Version) (rollback : Option ℕ) (rows : List ℕ)
    (size : size_of vh ≡ version_words (length rows)) (high : high_byte vh ≡ length rows) where
  pub version_says : IsHalves v → slice_index words 3 ≡ v.minor + 65536 * v.major
      → version_of words (item_at 2 vh) ≡ Some v
  version_says halves there =
      let right : (size_of vh == version_words (high_byte vh)) ≡ true =
      eq-eqb (size_of vh) (version_words (high_byte vh)) (size ∙ ap version_words (sym high)) in
      let one : slice_index words 3 / 65536 ≡ v.major = omega (arith, there, halves.minor) in
      let two : slice_index words 3 % 65536 ≡ v.minor = omega (arith, there, halves.minor) in
      rw right (ap Some (version_is (slice_index words 3 / 65536) (slice_index words 3 % 65536) v one two))

  pub rollback_says : (rest : List ℕ) → IsRightRollback rollback rows → AreHalves (row_halves rollback rows)
      → drop 4 words ≡ packed (row_halves rollback rows) ++ rest
      → (rollback_in words (item_at 2 vh) ≡ rollback) × (rows_in words (item_at 2 vh) ≡ rows)
  rollback_says rest right halves behind =
      rows_say (high_byte vh) rollback rows (halves_of (drop 4 words)) high right
      (ap (λ ws. take (length (row_halves rollback rows)) (halves_of ws)) behind
      ∙ halves_back (row_halves rollback rows) rest halves)

-- the definition by the items of its kinds
pub def_is : (b : BlockView) (def : Def) → def_of b ≡ Ok def → def_record (block_words b) (items_of b.items) ≡ def
unfolding def_of
def_is b def is = go (def_fault (block_words b) (items_of b.items)) is
  where
    go : (fault : Option DefFault) → ok_unless fault (def_record (block_words b) (items_of b.items)) ≡ Ok def
        → def_record (block_words b) (items_of b.items) ≡ def
    go None same = cc
    go (Some fault) same = cc
