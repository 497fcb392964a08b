-- A block of a download that comes again.
use Rattle.std.proofs.Common.{◌≡◌, ℕ, zero, suc, ◌<◌, ◌==◌, ◌&&◌, ◌||◌, Bool, true, false, nat_eq, if◌then◌else◌, Ok, Option, Some, List, [], ◌∷◌, Contains, length, slice_index_or, arith, refl, sym, ap, ◌∙◌}
use Rattle.std.specs.Set.{is_member}
use Rattle.std.proofs.lemmas.Bool.{eq-eqb}
use Rattle.std.proofs.lemmas.List.Elements.{All-contains, All-from_recursion}
use Rattle.sector_pool.specs.Pool.{Pool}
use Rattle.part_table.specs.declared.Table.{Table}
use Rattle.part_table.specs.declared.Target.{Target}
use Rattle.uf2_place.specs.declared.answer.Accepted.TheVariants.{Again, Skipped}
use Rattle.uf2_place.specs.declared.answer.Ruling.TheVariants.{Answered}
use Rattle.uf2_place.specs.declared.block.Uf2.{Uf2}
use Rattle.uf2_place.specs.declared.current.Current.{Current}
use Rattle.uf2_place.specs.Accepting.{DownloadView, StandsFor}
use Rattle.uf2_place.specs.Marks.{is_marked}
use Rattle.uf2_place.specs.Placement.{IsBlockOf, numbers_of}
use Rattle.uf2_place.specs.Rulings.{is_of, is_skipped, ruled, ruling}

either : (x y : Bool) → y ≡ true → (x || y) ≡ true
either true y e = refl
either false y e = e

both : (x y : Bool) → x ≡ true → y ≡ true → (x && y) ≡ true
both x y a b = rw (a, b) refl

-- the number of a block is one of those of the list
number-there : (blocks : List Uf2) (a : Uf2) (k : ℕ) → k < length blocks → slice_index_or blocks k a ≡ a
    → is_member nat_eq (numbers_of blocks) a.number ≡ true
number-there [] a k lt e = absurd (omega (arith, lt))
number-there (b ∷ bs) a zero lt e =
    ap (λ x. x || is_member nat_eq (numbers_of bs) a.number)
    (eq-eqb a.number b.number (ap (λ (x : Uf2). x.number) (sym e)))
number-there (b ∷ bs) a (suc k) lt e =
    either (nat_eq a.number b.number) (is_member nat_eq (numbers_of bs) a.number)
    (number-there bs a k (omega (arith, lt)) e)

repeats : (table : Option Table) (given : Option Target) (taken : List ℕ) (a : Uf2) (c : Current) → is_of c a ≡ true
    → is_marked taken a.number ≡ true → ruled table given taken a (Some c) ≡ Answered (Ok Again)
repeats table given taken a c same mark = rw (same, mark) refl

pub repeated-is : (n : ℕ) (table : Option Table) (given : Option Target) (d : DownloadView) (pool : Pool) (t : Target)
    (blocks : List Uf2) (a : Uf2) → StandsFor d pool t blocks → Contains blocks a → is_skipped n a ≡ false
    → ruling n table given d.marks.numbers d.current a ≡ Answered (Ok Again)
repeated-is n table given d pool t blocks a stands there kept =
    let c : Current = stands.current in
    let of : IsBlockOf c.family c.count a =
    All-contains (IsBlockOf c.family c.count) blocks a
    (All-from_recursion (IsBlockOf c.family c.count) blocks stands.follows.are.each) there in
    let same : is_of c a ≡ true =
    both (c.family == a.family) (c.count == a.count) (eq-eqb c.family a.family (sym of.same_family))
    (eq-eqb c.count a.count (sym of.same_count)) in
    let mark : is_marked d.marks.numbers a.number ≡ true =
    stands.follows.numbers a.number ∙ number-there blocks a there.0 there.1 there.2 in
    ap (λ x. if x then Answered (Ok Skipped) else ruled table given d.marks.numbers a d.current) kept
    ∙ ap (ruled table given d.marks.numbers a) stands.is ∙ repeats table given d.marks.numbers a c same mark
