-- For worked contents: tests that compute, and steps that power is lost before.
use Rattle.std.proofs.Common.{◌≡◌, ℕ, zero, suc, ◌%◌, ◌*◌, ◌^◌, ◌<◌, Bool, true, false, ◌&&◌, List, [], ◌∷◌, length, refl, sym, subst, ap, ◌∙◌, Some, None, arith, inl}
use Rattle.std.specs.Prelude.{All, Contains, nat_lt, nat_le, slice_index_or}
use Rattle.std.specs.List.{AllByRecursion}
use Rattle.std.proofs.lemmas.Bool.{ltb-true, leb-true}
use Rattle.std.proofs.lemmas.List.Elements.{All-from_recursion}
use Rattle.pico_board.specs.declared.Step.TheVariants.{Program, Raise}
use Rattle.pico_board.specs.Content.{Content, IsContent, IsFlashLength}
use Rattle.pico_board.specs.Steps.{Torn}
use Rattle.pico_board.proofs.TornStepLemmas.{SameOutside-refl}
use Rattle.std.proofs.lemmas.Option.{same_Some}

-- each number is below n, by computing
unfoldable pub all_below : ℕ → List ℕ → Bool
all_below n [] = true
all_below n (x ∷ xs) = nat_lt x n && all_below n xs

both-true : (a b : Bool) → (a && b) ≡ true → (a ≡ true) × (b ≡ true)
both-true true b e = (refl, e)
both-true false b e = cc

below-each : (n : ℕ) (xs : List ℕ) → all_below n xs ≡ true → AllByRecursion (λ x. x < n) xs
unfolding all_below
below-each n [] e = tt
below-each n (x ∷ xs) e =
    let two = both-true (nat_lt x n) (all_below n xs) e in (ltb-true x n two.0, below-each n xs two.1)

pub below-all : (n : ℕ) (xs : List ℕ) → all_below n xs ≡ true → All (λ x. x < n) xs
below-all n xs e = All-from_recursion (λ x. x < n) xs (below-each n xs e)

-- a flash and rows are a content, by computing
pub content-by : (c : Content) (n : ℕ) → length c.flash ≡ n → n % 4096 ≡ 0 → nat_le 8192 n ≡ true
    → nat_le n 16777216 ≡ true → all_below 256 c.flash ≡ true → length c.otp ≡ 4096
    → all_below (2 ^ 24) c.otp ≡ true → IsContent c
content-by c n long whole least most bytes rows small = record {
  flash_length = subst IsFlashLength (sym long)
      (record { whole = whole; least = leb-true 8192 n least; most = leb-true n 16777216 most });
  flash_bytes = below-all 256 c.flash bytes;
  otp_length = rows;
  otp_rows = below-all (2 ^ 24) c.otp small;
}

-- power is lost before a program
pub torn-before : (x d : Content) (p : ℕ) (bytes : List ℕ) → x ≡ d → Torn x (Program p bytes) d
torn-before x d p bytes same =
    subst (λ (e : Content). Torn x (Program p bytes) e) same
    (record { outside = SameOutside-refl (256 * p) 256 x.flash; between = λ i lt k. inl refl; rows = refl })
