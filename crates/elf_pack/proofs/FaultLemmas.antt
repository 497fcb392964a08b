-- The function that finds the first fault of a file finds the one whose condition holds.
use Rattle.std.proofs.Common.{◌≡◌, ◌≢◌, ℕ, ◌+◌, ◌*◌, ◌<◌, ◌≤◌, ◌&&◌, ◌||◌, ◌==◌, not, nat_le, nat_lt, Bool, true, false, List, [], ◌∷◌, length, take, refl, sym, ap, subst, ◌∙◌, inl, inr, arith, Option, None, Some, find, if◌then◌else◌}
use Rattle.std.specs.Prelude.{bytes_eq}
use Rattle.std.specs.List.{AllByRecursion}
use Rattle.std.specs.Option.{option_map, option_or}
use Rattle.std.proofs.lemmas.Bool.{eq-eqb, le-leb, lt-ltb, ne_eqb, true≢false}
use Rattle.std.proofs.lemmas.Bool.Decides.{nat_tests}
use Rattle.std.proofs.lemmas.Option.{none-some, same_Some}
use Rattle.std.proofs.lemmas.Slice.Eq.{bytes_eq-Decides}
use Rattle.pico_board.specs.declared.boot.Cpu.{Cpu}
use Rattle.elf_pack.specs.declared.fault.ElfFault.{ElfFault}
use Rattle.elf_pack.specs.declared.fault.ElfFault.TheVariants.{NotElf, FileType, Processor, Headers, Segment, Empty, TooMany, Mixed, Overlap, Seal, Memory}
use Rattle.elf_pack.specs.declared.segment.Segment.{Segment as OneSegment}
use Rattle.elf_pack.specs.Faults.{AreAllTogether, AreSegmentsApart, AreHeadersInside, AreTogether, HasBinary, IsElf, IsElfFault, IsFirstMixed, IsFirstNot, IsFirstOverlap, IsLaidOut, IsPlacedSegment, IsRightHead, IsTogether, Share}
use Rattle.elf_pack.specs.Fields.{file_type, header_count, header_size, headers_at, identification, machine, machine_of}
use Rattle.elf_pack.specs.Judging.{are_headers_inside, are_mixed, count_fault, do_overlap, elf_fault, head_fault, is_elf, is_misplaced_segment, misplaced_fault, mixed_fault, segment_overlap_fault, segments_fault}
use Rattle.elf_pack.specs.Segments.{segments}
use Rattle.elf_pack.proofs.ListLemmas.{all-map, find-first, find-none, first-found, none-found}
use Rattle.elf_pack.proofs.SegmentLemmas.{HasBytes, IsSomewhere, all-have-bytes, apart-right, apart-wrong, placed-right, placed-wrong, together-right, together-wrong}

and-true : (a b : Bool) → (a && b) ≡ true → (a ≡ true) × (b ≡ true)
and-true true true is = (refl, refl)
and-true true false is = absurd (true≢false (sym is))
and-true false b is = absurd (true≢false (sym is))

le-true : (a b : ℕ) → nat_le a b ≡ true → a ≤ b
le-true a b is = grind (arith, nat_tests)

eqb-same : (a b : ℕ) → (a == b) ≡ true → a ≡ b
eqb-same a b is = grind (arith, nat_tests)

eqb-other : (a b : ℕ) → (a == b) ≡ false → a ≢ b
eqb-other a b is = λ e. true≢false (sym (eq-eqb a b e) ∙ is)

mapped-none : {X Y : Type 0} (f : X → Y) (o : Option X) → option_map f o ≡ None → o ≡ None
mapped-none f None is = refl
mapped-none f (Some x) is = absurd (none-some (f x) (sym is))

mapped-some : {X Y : Type 0} (f : X → Y) (o : Option X) (y : Y) → option_map f o ≡ Some y
    → (x : X) × (o ≡ Some x) × (f x ≡ y)
mapped-some f None y is = absurd (none-some y is)
mapped-some f (Some x) y is = (x, refl, same_Some (f x) y is)

length-none : {X : Type 0} (xs : List X) → length xs ≡ 0 → xs ≡ []
length-none [] is = refl
length-none (x ∷ xs) is = absurd (omega (arith, is))

-- the header
module _ (elf : List ℕ) where
  elf-true : is_elf elf ≡ true → IsElf elf
  elf-true is =
      let both = and-true (nat_le 52 (length elf)) (bytes_eq (take 7 elf) identification) is in
      let same = (bytes_eq-Decides (take 7 elf) identification).0 both.1 in
      record { long = le-true 52 (length elf) both.0; identified = same }

  elf-is : IsElf elf → is_elf elf ≡ true
  elf-is is = rw (le-leb 52 (length elf) is.long) ((bytes_eq-Decides (take 7 elf) identification).1 is.identified)

  elf-no : (t : Bool) → is_elf elf ≡ t → (IsElf elf → ⊥) → is_elf elf ≡ false
  elf-no true e no_elf = absurd (no_elf (elf-true e))
  elf-no false e no_elf = e

  headers-by : (a b c : Bool) → (header_count elf == 0) ≡ a → (header_size elf == 32) ≡ b
      → nat_le (headers_at elf + 32 * header_count elf) (length elf) ≡ c → (a || (b && c)) ≡ true → AreHeadersInside elf
  headers-by true b c one two three is = inl (eqb-same (header_count elf) 0 one)
  headers-by false true true one two three is =
      inr (eqb-same (header_size elf) 32 two, le-true (headers_at elf + 32 * header_count elf) (length elf) three)
  headers-by false true false one two three is = absurd (true≢false (sym is))
  headers-by false false c one two three is = absurd (true≢false (sym is))

  headers-true : are_headers_inside elf ≡ true → AreHeadersInside elf
  headers-true is =
      headers-by (header_count elf == 0) (header_size elf == 32)
      (nat_le (headers_at elf + 32 * header_count elf) (length elf)) refl refl refl is

  or-right : (a : Bool) → (a || true) ≡ true
  or-right true = refl
  or-right false = refl

  headers-is : AreHeadersInside elf → are_headers_inside elf ≡ true
  headers-is (inl none) = rw (eq-eqb (header_count elf) 0 none) refl
  headers-is (inr both) =
      rw (eq-eqb (header_size elf) 32 both.0, le-leb (headers_at elf + 32 * header_count elf) (length elf) both.1)
      (or-right (header_count elf == 0))

  headers-no : (t : Bool) → are_headers_inside elf ≡ t → (AreHeadersInside elf → ⊥) → are_headers_inside elf ≡ false
  headers-no true e outside = absurd (outside (headers-true e))
  headers-no false e outside = e

abbrev chain : Bool → Bool → Bool → Bool → Option ElfFault
chain a b c d =
    if not a then Some NotElf
    else (if not b then Some FileType
    else (if not c then Some Processor else (if not d then Some Headers else None)))

module _ (cpu : Cpu) (elf : List ℕ) where
  -- what an answer says of the header, and of the whole file
  abbrev pub HeadSays : Option ElfFault → Type 0
  HeadSays None = IsRightHead cpu elf
  HeadSays (Some e) = IsElfFault cpu elf e

  abbrev pub ElfSays : Option ElfFault → Type 0
  ElfSays None = HasBinary cpu elf
  ElfSays (Some e) = IsElfFault cpu elf e

  head-by : (a b c d : Bool) → is_elf elf ≡ a → (file_type elf == 2) ≡ b → (machine elf == machine_of cpu) ≡ c
      → are_headers_inside elf ≡ d → HeadSays (chain a b c d)
  head-by false b c d one two three four = λ is. true≢false (sym (elf-is elf is) ∙ one)
  head-by true false c d one two three four = (elf-true elf one, eqb-other (file_type elf) 2 two)
  head-by true true false d one two three four =
      (elf-true elf one, eqb-same (file_type elf) 2 two, eqb-other (machine elf) (machine_of cpu) three)
  head-by true true true false one two three four = (
    elf-true elf one,
    eqb-same (file_type elf) 2 two,
    eqb-same (machine elf) (machine_of cpu) three,
    λ is. true≢false (sym (headers-is elf is) ∙ four),
  )
  head-by true true true true one two three four = record {
    begins = elf-true elf one;
    executable = eqb-same (file_type elf) 2 two;
    processor = eqb-same (machine elf) (machine_of cpu) three;
    headers = headers-true elf four;
  }

  pub head-says : HeadSays (head_fault cpu elf)
  unfolding head_fault
  head-says =
      head-by (is_elf elf) (file_type elf == 2) (machine elf == machine_of cpu) (are_headers_inside elf) refl refl refl
      refl

  head-is : (a b c d : Bool) → is_elf elf ≡ a → (file_type elf == 2) ≡ b → (machine elf == machine_of cpu) ≡ c
      → are_headers_inside elf ≡ d → head_fault cpu elf ≡ chain a b c d
  unfolding head_fault
  head-is a b c d one two three four =
      ap (λ t. chain t (file_type elf == 2) (machine elf == machine_of cpu) (are_headers_inside elf)) one
      ∙ ap (λ t. chain a t (machine elf == machine_of cpu) (are_headers_inside elf)) two
      ∙ ap (λ t. chain a b t (are_headers_inside elf)) three ∙ ap (λ t. chain a b c t) four

  pub head-none : IsRightHead cpu elf → head_fault cpu elf ≡ None
  head-none h =
      head-is true true true true (elf-is elf h.begins) (eq-eqb (file_type elf) 2 h.executable)
      (eq-eqb (machine elf) (machine_of cpu) h.processor) (headers-is elf h.headers)

  head-is-not_elf : (IsElf elf → ⊥) → head_fault cpu elf ≡ Some NotElf
  head-is-not_elf no_elf =
      head-is false (file_type elf == 2) (machine elf == machine_of cpu) (are_headers_inside elf)
      (elf-no elf (is_elf elf) refl no_elf) refl refl refl

  head-is-type : IsElf elf → file_type elf ≢ 2 → head_fault cpu elf ≡ Some FileType
  head-is-type is other =
      head-is true false (machine elf == machine_of cpu) (are_headers_inside elf) (elf-is elf is)
      (ne_eqb (file_type elf) 2 other) refl refl

  head-is-processor : IsElf elf → file_type elf ≡ 2 → machine elf ≢ machine_of cpu
      → head_fault cpu elf ≡ Some Processor
  head-is-processor is kind other =
      head-is true true false (are_headers_inside elf) (elf-is elf is) (eq-eqb (file_type elf) 2 kind)
      (ne_eqb (machine elf) (machine_of cpu) other) refl

  head-is-headers : IsElf elf → file_type elf ≡ 2 → machine elf ≡ machine_of cpu → (AreHeadersInside elf → ⊥)
      → head_fault cpu elf ≡ Some Headers
  head-is-headers is kind same outside =
      head-is true true true false (elf-is elf is) (eq-eqb (file_type elf) 2 kind)
      (eq-eqb (machine elf) (machine_of cpu) same) (headers-no elf (are_headers_inside elf) refl outside)

-- segments that overlap
abbrev named : OneSegment → OneSegment → ElfFault
named s t = Overlap s.number t.number

abbrev KeepsOff : OneSegment → OneSegment → Type 0
KeepsOff s t = Share s t → ⊥

or-none : {X : Type 0} (a b : Option X) → option_or a b ≡ None → (a ≡ None) × (b ≡ None)
or-none None b is = (refl, is)
or-none (Some x) b is = absurd (none-some x (sym is))

pub overlap-none : (xs : List OneSegment) → AllByRecursion HasBytes xs → segment_overlap_fault xs ≡ None
    → AreSegmentsApart xs
unfolding segment_overlap_fault
overlap-none [] some is = tt
overlap-none (s ∷ xs) some is =
    let both = or-none (option_map (named s) (find (do_overlap s) xs)) (segment_overlap_fault xs) is in (
      none-found (do_overlap s) (KeepsOff s) HasBytes (apart-right s some.0) (apart-wrong s some.0) xs some.1
          (mapped-none (named s) (find (do_overlap s) xs) both.0),
      overlap-none xs some.1 both.1,
    )

abbrev OverlapSays : List OneSegment → ElfFault → Type 0
OverlapSays xs e = (s : OneSegment) × (t : OneSegment) × IsFirstOverlap xs s t × (named s t ≡ e)

overlap-step : (s : OneSegment) (xs : List OneSegment) (e : ElfFault) → HasBytes s → AllByRecursion HasBytes xs
    → (segment_overlap_fault xs ≡ Some e → OverlapSays xs e) → (o : Option OneSegment) → find (do_overlap s) xs ≡ o
    → option_or (option_map (named s) o) (segment_overlap_fault xs) ≡ Some e → OverlapSays (s ∷ xs) e
overlap-step s xs e one some rest (Some t) found is = (
  s,
  t,
  inl (refl, first-found (do_overlap s) (KeepsOff s) HasBytes (apart-right s one) (apart-wrong s one) xs t some found),
  same_Some (named s t) e is,
)
overlap-step s xs e one some rest None found is =
    let r = rest is in (
      r.0,
      r.1,
      inr (none-found (do_overlap s) (KeepsOff s) HasBytes (apart-right s one) (apart-wrong s one) xs some found, r.2),
      r.3,
    )

pub overlap-some : (xs : List OneSegment) (e : ElfFault) → AllByRecursion HasBytes xs
    → segment_overlap_fault xs ≡ Some e
    → OverlapSays xs e
unfolding segment_overlap_fault
overlap-some [] e some is = absurd (none-some e is)
overlap-some (s ∷ xs) e some is =
    overlap-step s xs e some.0 some.1 (overlap-some xs e some.1) (find (do_overlap s) xs) refl is

pub overlap-first : (xs : List OneSegment) (s t : OneSegment) → AllByRecursion HasBytes xs → IsFirstOverlap xs s t
    → segment_overlap_fault xs ≡ Some (named s t)
unfolding segment_overlap_fault
overlap-first [] s t some is = absurd is
overlap-first (x ∷ xs) s t some (inl both) =
    ap (λ o. option_or (option_map (named x) o) (segment_overlap_fault xs))
    (find-first (do_overlap x) (KeepsOff x) HasBytes (apart-right x some.0) (apart-wrong x some.0) xs t some.1 both.1)
    ∙ ap (λ y. Some (named y t)) both.0
overlap-first (x ∷ xs) s t some (inr both) =
    ap (λ o. option_or (option_map (named x) o) (segment_overlap_fault xs))
    (find-none (do_overlap x) (KeepsOff x) HasBytes (apart-right x some.0) (apart-wrong x some.0) xs some.1 both.0)
    ∙ overlap-first xs s t some.1 both.1

pub apart-none : (xs : List OneSegment) → AllByRecursion HasBytes xs → AreSegmentsApart xs
    → segment_overlap_fault xs ≡ None
unfolding segment_overlap_fault
apart-none [] some is = refl
apart-none (x ∷ xs) some is =
    ap (λ o. option_or (option_map (named x) o) (segment_overlap_fault xs))
    (find-none (do_overlap x) (KeepsOff x) HasBytes (apart-right x some.0) (apart-wrong x some.0) xs some.1 is.0)
    ∙ apart-none xs some.1 is.1

-- segments in another memory than the first one
abbrev elsewhere : OneSegment → ElfFault
elsewhere s = Mixed s.number

pub mixed-none : (xs : List OneSegment) → AllByRecursion IsSomewhere xs → mixed_fault xs ≡ None → AreAllTogether xs
unfolding mixed_fault
mixed-none [] all is = tt
mixed-none (s ∷ xs) all is =
    none-found (are_mixed s) (AreTogether s) IsSomewhere (together-right s all.0) (together-wrong s all.0) xs all.1
    (mapped-none elsewhere (find (are_mixed s) xs) is)

pub mixed-some : (xs : List OneSegment) (e : ElfFault) → AllByRecursion IsSomewhere xs → mixed_fault xs ≡ Some e
    → (t : OneSegment) × IsFirstMixed xs t × (elsewhere t ≡ e)
unfolding mixed_fault
mixed-some [] e all is = absurd (none-some e is)
mixed-some (s ∷ xs) e all is =
    let found = mapped-some elsewhere (find (are_mixed s) xs) e is in (
      found.0,
      first-found (are_mixed s) (AreTogether s) IsSomewhere (together-right s all.0) (together-wrong s all.0) xs
          found.0 all.1 found.1,
      found.2,
    )

pub mixed-first : (xs : List OneSegment) (t : OneSegment) → AllByRecursion IsSomewhere xs → IsFirstMixed xs t
    → mixed_fault xs ≡ Some (elsewhere t)
unfolding mixed_fault
mixed-first [] t all is = absurd is
mixed-first (s ∷ xs) t all is =
    ap (option_map elsewhere)
    (find-first (are_mixed s) (AreTogether s) IsSomewhere (together-right s all.0) (together-wrong s all.0) xs t all.1
    is)

pub together-none : (xs : List OneSegment) → AllByRecursion IsSomewhere xs → AreAllTogether xs → mixed_fault xs ≡ None
unfolding mixed_fault
together-none [] all is = refl
together-none (s ∷ xs) all is =
    ap (option_map elsewhere)
    (find-none (are_mixed s) (AreTogether s) IsSomewhere (together-right s all.0) (together-wrong s all.0) xs all.1 is)

-- misplaced segments
abbrev outside : OneSegment → ElfFault
outside s = Segment s.number

abbrev Anything : OneSegment → Type 0
Anything s = Unit {0}

anything : (xs : List OneSegment) → AllByRecursion Anything xs
anything [] = tt
anything (x ∷ xs) = (tt, anything xs)

module _ (n : ℕ) (xs : List OneSegment) where
  placed-none : misplaced_fault n xs ≡ None → AllByRecursion (IsPlacedSegment n) xs
  unfolding misplaced_fault
  placed-none is =
      none-found (is_misplaced_segment n) (IsPlacedSegment n) Anything (λ s q. placed-right n s)
      (λ s q. placed-wrong n s) xs
      (anything xs) (mapped-none outside (find (is_misplaced_segment n) xs) is)

  placed-some : (e : ElfFault) → misplaced_fault n xs ≡ Some e
      → (s : OneSegment) × IsFirstNot (IsPlacedSegment n) xs s × (outside s ≡ e)
  unfolding misplaced_fault
  placed-some e is =
      let found = mapped-some outside (find (is_misplaced_segment n) xs) e is in (
        found.0,
        first-found (is_misplaced_segment n) (IsPlacedSegment n) Anything (λ s q. placed-right n s)
            (λ s q. placed-wrong n s) xs
            found.0 (anything xs) found.1,
        found.2,
      )

  placed-first : (s : OneSegment) → IsFirstNot (IsPlacedSegment n) xs s → misplaced_fault n xs ≡ Some (outside s)
  unfolding misplaced_fault
  placed-first s is =
      ap (option_map outside)
      (find-first (is_misplaced_segment n) (IsPlacedSegment n) Anything (λ s q. placed-right n s)
      (λ s q. placed-wrong n s) xs s
      (anything xs) is)

  all-placed : AllByRecursion (IsPlacedSegment n) xs → misplaced_fault n xs ≡ None
  unfolding misplaced_fault
  all-placed is =
      ap (option_map outside)
      (find-none (is_misplaced_segment n) (IsPlacedSegment n) Anything (λ s q. placed-right n s)
      (λ s q. placed-wrong n s) xs
      (anything xs) is)

-- the rule on the number of segments
abbrev count_chain : Bool → Bool → ℕ → Option ElfFault
count_chain a b n = if a then Some Empty else (if b then Some (TooMany n) else None)

count-is : (xs : List OneSegment) (a b : Bool) → (length xs == 0) ≡ a → nat_lt 29 (length xs) ≡ b
    → count_fault xs ≡ count_chain a b (length xs)
unfolding count_fault
count-is xs a b one two =
    ap (λ t. count_chain t (nat_lt 29 (length xs)) (length xs)) one ∙ ap (λ t. count_chain a t (length xs)) two

few-test : (n : ℕ) → n ≤ 29 → nat_lt 29 n ≡ false
few-test n few = grind (arith, nat_tests)

few-true : (n : ℕ) → nat_lt 29 n ≡ false → n ≤ 29
few-true n is = grind (arith, nat_tests)

many-true : (n : ℕ) → nat_lt 29 n ≡ true → 29 < n
many-true n is = grind (arith, nat_tests)

some-length : (xs : List OneSegment) → xs ≢ [] → length xs ≢ 0
some-length xs some = λ none. some (length-none xs none)

count-none : (xs : List OneSegment) → xs ≢ [] → length xs ≤ 29 → count_fault xs ≡ None
count-none xs some few =
    count-is xs false false (ne_eqb (length xs) 0 (some-length xs some)) (few-test (length xs) few)

-- the whole file
module _ (cpu : Cpu) (elf : List ℕ) where
  abbrev xs : List OneSegment
  xs = segments elf

  abbrev size : ℕ
  size = length elf

  or-says : (a b : Option ElfFault) → (a ≡ None → ElfSays cpu elf b)
      → ((e : ElfFault) → a ≡ Some e → IsElfFault cpu elf e) → ElfSays cpu elf (option_or a b)
  or-says None b none some = none refl
  or-says (Some e) b none some = some e refl

  somewhere : AllByRecursion (IsPlacedSegment size) xs → AllByRecursion IsSomewhere xs
  somewhere placed = all-map (IsPlacedSegment size) IsSomewhere (λ s is. is.1) xs placed

  overlap-says : IsTogether cpu elf → (o : Option ElfFault) → segment_overlap_fault xs ≡ o → ElfSays cpu elf o
  overlap-says together None is =
      record { all = together; apart = overlap-none xs (all-have-bytes elf) is }
  overlap-says together (Some e) is =
      let r = overlap-some xs e (all-have-bytes elf) is in
      subst (IsElfFault cpu elf) r.3 (together, (r.0, r.1, r.2, refl, refl))

  mixed-says : IsLaidOut cpu elf → length xs ≤ 29 → xs ≢ []
      → ElfSays cpu elf (option_or (mixed_fault xs) (segment_overlap_fault xs))
  mixed-says laid few some =
      or-says (mixed_fault xs) (segment_overlap_fault xs)
      (λ none. overlap-says
      (record { laid = laid; some = some; few = few; together = mixed-none xs (somewhere laid.placed) none })
      (segment_overlap_fault xs) refl)
      (λ e is. let r = mixed-some xs e (somewhere laid.placed) is in
      subst (IsElfFault cpu elf) r.2 (laid, few, (r.0, r.1, refl)))

  count-by : IsLaidOut cpu elf → (a b : Bool) → (length xs == 0) ≡ a → nat_lt 29 (length xs) ≡ b
      → ElfSays cpu elf (option_or (count_chain a b (length xs))
      (option_or (mixed_fault xs) (segment_overlap_fault xs)))
  count-by laid true b one two = (laid, length-none xs (eqb-same (length xs) 0 one))
  count-by laid false true one two = (laid, many-true (length xs) two, refl)
  count-by laid false false one two =
      mixed-says laid (few-true (length xs) two)
      (λ none. eqb-other (length xs) 0 one (ap (λ (ys : List OneSegment). length ys) none))

  count-says : IsLaidOut cpu elf
      → ElfSays cpu elf (option_or (count_fault xs) (option_or (mixed_fault xs) (segment_overlap_fault xs)))
  count-says laid =
      subst (λ o. ElfSays cpu elf (option_or o (option_or (mixed_fault xs) (segment_overlap_fault xs))))
      (sym (count-is xs (length xs == 0) (nat_lt 29 (length xs)) refl refl))
      (count-by laid (length xs == 0) (nat_lt 29 (length xs)) refl refl)

  segments-say : IsRightHead cpu elf → ElfSays cpu elf (segments_fault size xs)
  unfolding segments_fault
  segments-say head =
      or-says (misplaced_fault size xs)
      (option_or (count_fault xs) (option_or (mixed_fault xs) (segment_overlap_fault xs)))
      (λ none. count-says (record { head = head; placed = placed-none size xs none }))
      (λ e is. let r = placed-some size xs e is in
      subst (IsElfFault cpu elf) r.2 (head, (r.0, r.1, refl)))

  -- the function's answer has its condition
  pub elf-says : ElfSays cpu elf (elf_fault cpu elf)
  elf-says =
      or-says (head_fault cpu elf) (segments_fault size xs)
      (λ none. segments-say (subst (HeadSays cpu elf) none (head-says cpu elf)))
      (λ e is. subst (HeadSays cpu elf) is (head-says cpu elf))

  -- a fault whose condition holds is found
  behind-head : IsRightHead cpu elf → (o : Option ElfFault)
      → option_or (misplaced_fault size xs)
      (option_or (count_fault xs) (option_or (mixed_fault xs) (segment_overlap_fault xs))) ≡ o → elf_fault cpu elf ≡ o
  unfolding segments_fault
  behind-head head o is = ap (λ h. option_or h (segments_fault size xs)) (head-none cpu elf head) ∙ is

  behind-placed : IsLaidOut cpu elf → (o : Option ElfFault)
      → option_or (count_fault xs) (option_or (mixed_fault xs) (segment_overlap_fault xs)) ≡ o → elf_fault cpu elf ≡ o
  behind-placed laid o is =
      behind-head laid.head o
      (ap (λ h. option_or h (option_or (count_fault xs) (option_or (mixed_fault xs) (segment_overlap_fault xs))))
      (all-placed size xs laid.placed)
      ∙ is)

  behind-count : IsLaidOut cpu elf → xs ≢ [] → length xs ≤ 29 → (o : Option ElfFault)
      → option_or (mixed_fault xs) (segment_overlap_fault xs) ≡ o → elf_fault cpu elf ≡ o
  behind-count laid some few o is =
      behind-placed laid o
      (ap (λ h. option_or h (option_or (mixed_fault xs) (segment_overlap_fault xs))) (count-none xs some few) ∙ is)

  behind-mixed : IsTogether cpu elf → (o : Option ElfFault) → segment_overlap_fault xs ≡ o → elf_fault cpu elf ≡ o
  behind-mixed t o is =
      behind-count t.laid t.some t.few o
      (ap (λ h. option_or h (segment_overlap_fault xs)) (together-none xs (somewhere t.laid.placed) t.together) ∙ is)

  mixed-some_there : (s : OneSegment) → (ys : List OneSegment) → IsFirstMixed ys s → ys ≢ []
  mixed-some_there s [] is = absurd is
  mixed-some_there s (y ∷ ys) is =
      λ none. let long = ap (λ (zs : List OneSegment). length zs) none in omega (arith, long)

  pub elf-fault-is : (e : ElfFault) → IsElfFault cpu elf e → elf_fault cpu elf ≡ Some e
  elf-fault-is NotElf is =
      ap (λ h. option_or h (segments_fault size xs)) (head-is-not_elf cpu elf is)
  elf-fault-is FileType is =
      ap (λ h. option_or h (segments_fault size xs)) (head-is-type cpu elf is.0 is.1)
  elf-fault-is Processor is =
      ap (λ h. option_or h (segments_fault size xs)) (head-is-processor cpu elf is.0 is.1 is.2)
  elf-fault-is Headers is =
      ap (λ h. option_or h (segments_fault size xs)) (head-is-headers cpu elf is.0 is.1 is.2 is.3)
  elf-fault-is (Segment i) is =
      behind-head is.0 (Some (Segment i))
      (ap (λ h. option_or h (option_or (count_fault xs) (option_or (mixed_fault xs) (segment_overlap_fault xs))))
      (placed-first size xs is.1.0 is.1.1)
      ∙ ap (λ k. Some (Segment k)) (sym is.1.2))
  elf-fault-is Empty is =
      behind-placed is.0 (Some Empty)
      (ap (λ h. option_or h (option_or (mixed_fault xs) (segment_overlap_fault xs)))
      (count-is xs true (nat_lt 29 (length xs))
      (eq-eqb (length xs) 0 (ap (λ (ys : List OneSegment). length ys) is.1)) refl))
  elf-fault-is (TooMany n) is =
      behind-placed is.0 (Some (TooMany n))
      (ap (λ h. option_or h (option_or (mixed_fault xs) (segment_overlap_fault xs)))
      (count-is xs false true
      (ne_eqb (length xs) 0 (λ none. omega (arith, none, is.1, is.2)))
      (lt-ltb 29 (length xs) (omega (arith, is.1, is.2))))
      ∙ ap (λ k. Some (TooMany k)) (sym is.2))
  elf-fault-is (Mixed i) is =
      behind-count is.0 (mixed-some_there is.2.0 xs is.2.1) is.1 (Some (Mixed i))
      (ap (λ h. option_or h (segment_overlap_fault xs)) (mixed-first xs is.2.0 (somewhere is.0.placed) is.2.1)
      ∙ ap (λ k. Some (Mixed k)) (sym is.2.2))
  elf-fault-is (Overlap i j) is =
      behind-mixed is.0 (Some (Overlap i j))
      (overlap-first xs is.1.0 is.1.1 (all-have-bytes elf) is.1.2
      ∙ ap (λ k. Some (Overlap k is.1.1.number)) (sym is.1.3)
      ∙ ap (λ k. Some (Overlap i k)) (sym is.1.4))
  elf-fault-is (Seal e) is = absurd is
  elf-fault-is Memory is = absurd is

  -- a file that has a binary has no fault
  pub elf-fault-none : HasBinary cpu elf → elf_fault cpu elf ≡ None
  elf-fault-none is = behind-mixed is.all None (apart-none xs (all-have-bytes elf) is.apart)
