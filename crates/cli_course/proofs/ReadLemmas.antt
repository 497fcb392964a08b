-- What is read of told files.
use Rattle.std.proofs.Common.{ℕ, ◌≡◌, suc, ◌+◌, List, [], ◌∷◌, length, take, Option, Some, None, refl, sym, ◌∙◌, ap, inl, inr}
use Rattle.std.specs.Prelude.{IsSomeAnd}
use Rattle.pico_board.specs.Files.{File, file_of}
use Rattle.cli_course.specs.Outcomes.{LimitedInputView, AreOfBytes, found, found_next}
use Rattle.cli_course.specs.Ends.{AreRead, LacksOne, cut}

-- what is read of told files is the front of each
pub record AreFound (files : List File) (inputs : List LimitedInputView) (read : List (List ℕ)) : Type 0 where
  pub whole : List (List ℕ)
  pub are : found files inputs ≡ Some whole
  pub is : read ≡ cut inputs whole
  pub long : length whole ≡ length inputs

are-found-more : (files : List File) (input : LimitedInputView) (inputs : List LimitedInputView) (bytes : List ℕ)
    (read : List (List ℕ))
    (here : Option (List ℕ))
    → file_of files input.name ≡ here → IsSomeAnd here (λ b. bytes ≡ take (input.limit + 1) b)
    → AreFound files inputs read
    → AreFound files (input ∷ inputs) (bytes ∷ read)
are-found-more files input inputs bytes read None is reads rest = absurd reads
are-found-more files input inputs bytes read (Some b) is reads rest = record {
  whole = b ∷ rest.whole;
  are = ap (λ h. found_next h (found files inputs)) is ∙ ap (found_next (Some b)) rest.are;
  is = ap (λ x. x ∷ read) reads ∙ ap (λ xs. take (input.limit + 1) b ∷ xs) rest.is;
  long = ap suc rest.long;
}

pub are-found : (files : List File) (inputs : List LimitedInputView) (read : List (List ℕ))
    → AreRead (Some files) inputs read
    → AreFound files inputs read
are-found files [] [] are = record { whole = []; are = refl; is = refl; long = refl }
are-found files [] (bytes ∷ read) are = absurd are
are-found files (input ∷ inputs) [] are = absurd are
are-found files (input ∷ inputs) (bytes ∷ read) are =
    are-found-more files input inputs bytes read (file_of files input.name) refl are.1
    (are-found files inputs read are.2)

-- inputs that were read are not lacking
pub not-lacking : (files : List File) (inputs : List LimitedInputView) (read : List (List ℕ))
    → AreRead (Some files) inputs read
    → LacksOne (Some files) inputs → ⊥
not-lacking files [] read are lacks = lacks
not-lacking files (input ∷ inputs) [] are lacks = are
not-lacking files (input ∷ inputs) (bytes ∷ read) are (inl none) = go (file_of files input.name) none are.1
  where
    go : (here : Option (List ℕ)) → here ≡ None → IsSomeAnd here (λ b. bytes ≡ take (input.limit + 1) b) → ⊥
    go None e reads = reads
    go (Some b) e reads = cc
not-lacking files (input ∷ inputs) (bytes ∷ read) are (inr lacks) = not-lacking files inputs read are.2 lacks

-- what was read is of bytes
pub read-bytes : (files : Option (List File)) (inputs : List LimitedInputView) (read : List (List ℕ))
    → AreRead files inputs read
    → AreOfBytes read
read-bytes files [] [] are = tt
read-bytes files [] (bytes ∷ read) are = absurd are
read-bytes files (input ∷ inputs) [] are = absurd are
read-bytes files (input ∷ inputs) (bytes ∷ read) are = (are.0, read-bytes files inputs read are.2)

found-more : (inputs : List LimitedInputView) (here : Option (List ℕ)) (rest : Option (List (List ℕ)))
    (read : List (List ℕ))
    → ((r : List (List ℕ)) → rest ≡ Some r → length r ≡ length inputs) → found_next here rest ≡ Some read
    → length read ≡ suc (length inputs)
found-more inputs None rest read long h = cc
found-more inputs (Some bytes) None read long h = cc
found-more inputs (Some bytes) (Some r) read long h =
    let e : read ≡ bytes ∷ r = cc in ap (λ xs. length xs) e ∙ ap suc (long r refl)

-- as many files are found as there are inputs
pub found-long : (files : List File) (inputs : List LimitedInputView) (read : List (List ℕ))
    → found files inputs ≡ Some read
    → length read ≡ length inputs
found-long files [] read h = let e : [] ≡ read = cc in sym (ap (λ xs. length xs) e)
found-long files (input ∷ inputs) read h =
    found-more inputs (file_of files input.name) (found files inputs) read (λ r is. found-long files inputs r is) h
