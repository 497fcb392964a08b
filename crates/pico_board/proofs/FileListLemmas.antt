-- What a list of files has under each name, found, changed at a place and longer by one.
use Rattle.std.proofs.Common.{◌≡◌, ℕ, zero, suc, ◌+◌, ◌<◌, Bool, true, false, cond, Option, None, Some, List, [], ◌∷◌, ◌++◌, length, take, get_or, set, refl, sym, ◌∙◌, ap, subst, arith}
use Rattle.std.specs.Prelude.{String, Vec, string_bytes}
use Rattle.std.specs.declared.alloc.Global.{Global}
use Rattle.std.specs.Str.{bytes_eq}
use Rattle.std.proofs.lemmas.Slice.Eq.{bytes_eq-Decides}
use Rattle.pico_board.specs.Files.{HasWritten, file_of}
use Rattle.pico_board.specs.MemFiles.{IsFirstOf, files_from}

-- a name and its bytes, as a store in memory keeps them
abbrev pub Entry : Type 0
Entry = String Global × Vec ℕ Global

-- a name is equal to itself, and to no other
pub bytes_eq-same : (xs ys : List ℕ) → xs ≡ ys → bytes_eq xs ys ≡ true
bytes_eq-same xs ys e = (bytes_eq-Decides xs ys).1 e

pub bytes_eq-other : (xs ys : List ℕ) → (xs ≡ ys → ⊥) → bytes_eq xs ys ≡ false
bytes_eq-other xs ys ne = choose (bytes_eq xs ys) refl
  where
    choose : (b : Bool) → bytes_eq xs ys ≡ b → bytes_eq xs ys ≡ false
    choose true e = absurd (ne ((bytes_eq-Decides xs ys).0 e))
    choose false e = e

-- a name that a list lacks is not that of its first file
lacks : (b : Bool) (x : List ℕ) (rest : Option (List ℕ)) → cond b (Some x) rest ≡ None → (b ≡ false) × (rest ≡ None)
lacks true x rest e = cc
lacks false x rest e = (refl, e)

first_other : (b : Bool) (x : List ℕ) (rest : Option (List ℕ)) → b ≡ false → cond b (Some x) rest ≡ rest
first_other b x rest e = ap (λ (t : Bool). cond t (Some x) rest) e

first_here : (b : Bool) (x : List ℕ) (rest : Option (List ℕ)) → b ≡ true → cond b (Some x) rest ≡ Some x
first_here b x rest e = ap (λ (t : Bool). cond t (Some x) rest) e

-- one more file that has another name
pub lacks-more : (es : List Entry) (name : List ℕ) (i : ℕ) (d : Entry) → i < length es
    → file_of (files_from (take i es)) name ≡ None
    → bytes_eq (string_bytes (get_or es i d).0) name ≡ false → file_of (files_from (take (i + 1) es)) name ≡ None
lacks-more [] name i d lt before other = absurd (omega arith)
lacks-more (e ∷ es) name zero d lt before other = first_other (bytes_eq (string_bytes e.0) name) e.1.items None other
lacks-more (e ∷ es) name (suc i) d lt before other =
    let both = lacks (bytes_eq (string_bytes e.0) name) e.1.items (file_of (files_from (take i es)) name) before in
    let next : suc i + 1 ≡ suc (i + 1) = omega arith in
    subst (λ (k : ℕ). file_of (files_from (take k (e ∷ es))) name ≡ None) (sym next)
    (first_other (bytes_eq (string_bytes e.0) name) e.1.items (file_of (files_from (take (i + 1) es)) name) both.0
    ∙ lacks-more es name i d (omega arith) both.1 other)

-- the first file of a name has its bytes
pub found : (es : List Entry) (name : List ℕ) (i : ℕ) (d : Entry) → i < length es
    → file_of (files_from (take i es)) name ≡ None
    → string_bytes (get_or es i d).0 ≡ name → file_of (files_from es) name ≡ Some (get_or es i d).1.items
found [] name i d lt before here = absurd (omega arith)
found (e ∷ es) name zero d lt before here =
    first_here (bytes_eq (string_bytes e.0) name) e.1.items (file_of (files_from es) name)
    (bytes_eq-same (string_bytes e.0) name here)
found (e ∷ es) name (suc i) d lt before here =
    let both = lacks (bytes_eq (string_bytes e.0) name) e.1.items (file_of (files_from (take i es)) name) before in
    first_other (bytes_eq (string_bytes e.0) name) e.1.items (file_of (files_from es) name) both.0
    ∙ found es name i d (omega arith) both.1 here

-- the first file of a name is changed
set_here : (es : List Entry) (name : List ℕ) (i : ℕ) (x : Entry) → i < length es
    → file_of (files_from (take i es)) name ≡ None
    → string_bytes x.0 ≡ name → file_of (files_from (set es i x)) name ≡ Some x.1.items
set_here [] name i x lt before here = absurd (omega arith)
set_here (e ∷ es) name zero x lt before here =
    first_here (bytes_eq (string_bytes x.0) name) x.1.items (file_of (files_from es) name)
    (bytes_eq-same (string_bytes x.0) name here)
set_here (e ∷ es) name (suc i) x lt before here =
    let both = lacks (bytes_eq (string_bytes e.0) name) e.1.items (file_of (files_from (take i es)) name) before in
    first_other (bytes_eq (string_bytes e.0) name) e.1.items (file_of (files_from (set es i x)) name) both.0
    ∙ set_here es name i x (omega arith) both.1 here

set_other : (es : List Entry) (other : List ℕ) (i : ℕ) (x d : Entry) → i < length es
    → string_bytes (get_or es i d).0 ≡ string_bytes x.0
    → (string_bytes x.0 ≡ other → ⊥) → file_of (files_from (set es i x)) other ≡ file_of (files_from es) other
set_other [] other i x d lt same ne = absurd (omega arith)
set_other (e ∷ es) other zero x d lt same ne =
    first_other (bytes_eq (string_bytes x.0) other) x.1.items (file_of (files_from es) other)
    (bytes_eq-other (string_bytes x.0) other ne)
    ∙ sym (first_other (bytes_eq (string_bytes e.0) other) e.1.items (file_of (files_from es) other)
    (bytes_eq-other (string_bytes e.0) other (λ h. ne (sym same ∙ h))))
set_other (e ∷ es) other (suc i) x d lt same ne =
    ap (λ (rest : Option (List ℕ)). cond (bytes_eq (string_bytes e.0) other) (Some e.1.items) rest)
    (set_other es other i x d (omega arith) same ne)

-- a file of a new name stands at the end
push_here : (es : List Entry) (name : List ℕ) (x : Entry) → file_of (files_from es) name ≡ None
    → string_bytes x.0 ≡ name
    → file_of (files_from (es ++ x ∷ [])) name ≡ Some x.1.items
push_here [] name x before here =
    first_here (bytes_eq (string_bytes x.0) name) x.1.items None (bytes_eq-same (string_bytes x.0) name here)
push_here (e ∷ es) name x before here =
    let both = lacks (bytes_eq (string_bytes e.0) name) e.1.items (file_of (files_from es) name) before in
    first_other (bytes_eq (string_bytes e.0) name) e.1.items (file_of (files_from (es ++ x ∷ [])) name) both.0
    ∙ push_here es name x both.1 here

push_other : (es : List Entry) (other : List ℕ) (x : Entry) → (string_bytes x.0 ≡ other → ⊥)
    → file_of (files_from (es ++ x ∷ [])) other ≡ file_of (files_from es) other
push_other [] other x ne = first_other (bytes_eq (string_bytes x.0) other) x.1.items None
    (bytes_eq-other (string_bytes x.0) other ne)
push_other (e ∷ es) other x ne =
    ap (λ (rest : Option (List ℕ)). cond (bytes_eq (string_bytes e.0) other) (Some e.1.items) rest)
    (push_other es other x ne)

-- the bytes of the first file of a name are replaced
pub HasWritten-set : (es : List Entry) (name bytes : List ℕ) (i : ℕ) (x : Entry) → IsFirstOf es name i
    → string_bytes x.0 ≡ name → x.1.items ≡ bytes
    → HasWritten (files_from es) name bytes (files_from (set es i x))
HasWritten-set es name bytes i x is named same = record {
  here = set_here es name i x is.inside is.before named ∙ ap (λ (b : List ℕ). Some b) same;
  others = λ other ne. set_other es other i x x is.inside (is.here x ∙ sym named) (λ h. ne (sym h ∙ named));
}

-- a file of a new name is added
pub HasWritten-push : (es : List Entry) (name bytes : List ℕ) (x : Entry) → file_of (files_from es) name ≡ None
    → string_bytes x.0 ≡ name → x.1.items ≡ bytes
    → HasWritten (files_from es) name bytes (files_from (es ++ x ∷ []))
HasWritten-push es name bytes x none named same = record {
  here = push_here es name x none named ∙ ap (λ (b : List ℕ). Some b) same;
  others = λ other ne. push_other es other x (λ h. ne (sym h ∙ named));
}
