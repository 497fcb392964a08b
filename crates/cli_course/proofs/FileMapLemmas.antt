-- Files as finite maps: what stands under each name after writes.
use Rattle.std.proofs.Common.{ℕ, ◌≡◌, ◌≢◌, Bool, true, false, cond, Option, Some, None, List, [], ◌∷◌, refl, sym, ◌∙◌, ap, subst, inl, inr}
use Rattle.std.specs.Str.{bytes_eq}
use Rattle.std.proofs.lemmas.Slice.Eq.{bytes_eq-Decides}
use Rattle.pico_board.specs.Files.{File, file_of, HasWritten, IsWritten}
use Rattle.pico_board.proofs.FileListLemmas.{bytes_eq-same}
use Rattle.cli_course.specs.Ends.{saved, IsSaved, LeftAt}

-- the files have the same bytes under each name
abbrev pub HaveSame : List File → List File → Type 0
HaveSame a b = (name : List ℕ) → file_of a name ≡ file_of b name

same-more : (file : File) (a b : List File) → HaveSame a b → HaveSame (file ∷ a) (file ∷ b)
same-more file a b same name =
    ap (λ (rest : Option (List ℕ)). cond (bytes_eq file.name name) (Some file.bytes) rest) (same name)

-- a file that was written stands in front of the others
pub written-same : (old new : List File) (file : File) → HasWritten old file.name file.bytes new
    → HaveSame new (file ∷ old)
written-same old new file is name = go (bytes_eq file.name name) refl
  where
    go : (b : Bool) → bytes_eq file.name name ≡ b
        → file_of new name ≡ cond (bytes_eq file.name name) (Some file.bytes) (file_of old name)
    go true e =
        let here : file.name ≡ name = (bytes_eq-Decides file.name name).0 e in
        subst (λ n. file_of new n ≡ Some file.bytes) here is.here ∙ sym
        (ap (λ (t : Bool). cond t (Some file.bytes) (file_of old name)) e)
    go false e =
        let other : name ≢ file.name =
        λ h. (let t : true ≡ false = sym (bytes_eq-same file.name name (sym h)) ∙ e in cc) in
        is.others name other ∙ sym (ap (λ (t : Bool). cond t (Some file.bytes) (file_of old name)) e)

pub saved-same : (files a b : List File) → HaveSame a b → HaveSame (saved files a) (saved files b)
saved-same [] a b same = same
saved-same (file ∷ files) a b same = saved-same files (file ∷ a) (file ∷ b) (same-more file a b same)

pub left-same : (files a b : List File) (new : Option (List File)) → HaveSame a b → LeftAt (Some a) files new
    → LeftAt (Some b) files new
left-same [] a b new same left = left
left-same (file ∷ files) a b None same (inl kept) = absurd kept
left-same (file ∷ files) a b (Some new) same (inl kept) = inl (λ other ne. kept other ne ∙ same other)
left-same (file ∷ files) a b new same (inr left) =
    inr (left-same files (file ∷ a) (file ∷ b) new (same-more file a b same) left)

-- a file was written, and then others
pub saved-more : (file : File) (files : List File) (old mid new : Option (List File))
    → IsWritten old file.name file.bytes mid → IsSaved files mid new → IsSaved (file ∷ files) old new
saved-more file files None mid new is rest = subst (λ m. IsSaved files m new) is rest
saved-more file files (Some old) None new is rest = absurd is
saved-more file files (Some old) (Some mid) None is rest = rest
saved-more file files (Some old) (Some mid) (Some new) is rest =
    λ name. rest name ∙ saved-same files mid (file ∷ old) (written-same old mid file is) name

pub left-more : (file : File) (files : List File) (old mid new : Option (List File))
    → IsWritten old file.name file.bytes mid → LeftAt mid files new → LeftAt old (file ∷ files) new
left-more file files None mid new is left = inr (subst (λ m. LeftAt m files new) is left)
left-more file files (Some old) None new is left = absurd is
left-more file files (Some old) (Some mid) new is left =
    inr (left-same files mid (file ∷ old) new (written-same old mid file is) left)

-- without writes all is as it was
pub saved-none : (old new : Option (List File)) → new ≡ old → IsSaved [] old new
saved-none None new is = is
saved-none (Some old) None is = cc
saved-none (Some old) (Some new) is = λ name. ap (λ files. file_of files name) (let e : new ≡ old = cc in e)
