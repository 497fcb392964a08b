-- What pieces make together.
use Rattle.std.proofs.Common.{◌≡◌, ◌⊎◌, ◌≤◌, ℕ, Option, None, Some, IfSome, List, [], ◌++◌, ◌+◌, ◌-◌, length, take, drop, sym, subst, length-append, arith, ◌∙◌, ap, inl, inr, append_assoc, append-nil}
use Rattle.std.proofs.lemmas.List.{take_all, take_rest, take-append-drop}
use Rattle.std.proofs.Math.Seq.{take-append_seam}
use Rattle.std.specs.Io.KnownBytes.{Appends, IsAtEnd}
use Rattle.std.proofs.KnownBytes.{Appends-trans, Consumes-nil, Consumes-trans}
use Rattle.boot_cli.specs.Pieces.{TakesFrom, AppendsInPart}

-- before the first piece
pub takes-none : (known : Option (List ℕ)) (read : List ℕ) → TakesFrom known read known read
takes-none known read = record { bytes = []; grows = sym (append-nil read); taken = Consumes-nil known }

-- a piece more
pub takes-more : (a b c : Option (List ℕ)) (old mid new : List ℕ) → TakesFrom a old b mid → TakesFrom b mid c new
    → TakesFrom a old c new
takes-more a b c old mid new first next = record {
  bytes = first.bytes ++ next.bytes;
  grows = next.grows ∙ (ap (λ x. x ++ next.bytes) first.grows ∙ append_assoc old first.bytes next.bytes);
  taken = Consumes-trans a b c first.bytes next.bytes first.taken next.taken;
}

-- what was read is the front of what the reader had, where so many bytes are read or the reader has no more
pub takes-front : (a b : Option (List ℕ)) (most : ℕ) (read : List ℕ) → TakesFrom a [] b read → length read ≤ most
    → (length read ≡ most) ⊎ IsAtEnd b → IfSome a (λ bytes. read ≡ take most bytes)
takes-front None b most read takes room end = tt
takes-front (Some xs) None most read takes room end = absurd takes.taken
takes-front (Some xs) (Some ys) most read takes room (inl full) =
    let all : xs ≡ read ++ ys = takes.taken ∙ ap (λ z. z ++ ys) (sym takes.grows) in
    sym (ap (take most) all ∙ (ap (λ n. take n (read ++ ys)) (sym full) ∙ take-append_seam read ys))
takes-front (Some xs) (Some ys) most read takes room (inr end) =
    let all : xs ≡ read = takes.taken ∙ (ap (λ z. takes.bytes ++ z) end ∙ (append-nil takes.bytes ∙ sym takes.grows)) in
    sym (ap (take most) all ∙ take_all most read room)

-- what a writer took of the rest goes behind the front
pub front-more : (bytes front rest : List ℕ) (count : ℕ) → bytes ≡ front ++ rest
    → bytes ≡ (front ++ take count rest) ++ take (length rest - count) (drop count rest)
front-more bytes front rest count whole =
    whole ∙ (ap (λ x. front ++ x) (sym (take-append-drop count rest))
    ∙ (sym (append_assoc front (take count rest) (drop count rest))
    ∙ ap (λ x. (front ++ take count rest) ++ x) (sym (take_rest rest count))))

-- a writer that took the front, and then no byte more, has a prefix of the bytes
pub in-part : (a b c : Option (List ℕ)) (bytes front rest : List ℕ) (count : ℕ) → bytes ≡ front ++ rest
    → Appends a b front → count ≡ 0
    → Appends b c (take count rest) → AppendsInPart a c bytes
in-part a b c bytes front rest count whole took none more =
    let long : length bytes ≡ length front + length rest = ap (λ x. length x) whole ∙ length-append front rest in
    let seam : take (length front) bytes ≡ front = ap (take (length front)) whole ∙ take-append_seam front rest in
    let same : front ++ take count rest ≡ take (length front) bytes = ap (λ n. front ++ take n rest) none
    ∙ (append-nil front ∙ sym seam) in (
      length front,
      omega (arith, long),
      subst (Appends a c) same
          (Appends-trans a b c front (take count rest) took more),
    )
