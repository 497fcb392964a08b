-- What a ruling says of the block's page, its target and the current download.
use Rattle.std.proofs.Common.{◌≡◌, ◌≢◌, ℕ, Bool, true, false, Result, Ok, Err, Option, None, Some, List, [], length, arith, refl, sym, ap, subst, ◌∙◌}
use Rattle.std.proofs.lemmas.Bool.Decides.{nat_tests}
use Rattle.std.proofs.lemmas.Grind.{common_steps}
use Rattle.pico_board.specs.declared.Window.{Window}
use Rattle.part_table.specs.declared.Right.TheVariants.{BootWrite}
use Rattle.part_table.specs.declared.Table.{Table}
use Rattle.part_table.specs.declared.Target.{Target}
use Rattle.part_table.specs.Rights.{allowed_by}
use Rattle.uf2_place.specs.declared.answer.Accepted.{Accepted}
use Rattle.uf2_place.specs.declared.answer.Accepted.TheVariants.{Again, Skipped}
use Rattle.uf2_place.specs.declared.answer.PlaceFault.{PlaceFault}
use Rattle.uf2_place.specs.declared.answer.PlaceFault.TheVariants.{NotPermitted, Outside}
use Rattle.uf2_place.specs.declared.answer.Ruling.{Ruling}
use Rattle.uf2_place.specs.declared.answer.Ruling.TheVariants.{Answered, Begins, Continues}
use Rattle.uf2_place.specs.declared.block.Uf2.{Uf2}
use Rattle.uf2_place.specs.declared.current.Current.{Current}
use Rattle.uf2_place.specs.Marks.{MarksView, is_marked}
use Rattle.sector_pool.specs.Pool.{Pool}
use Rattle.pico_board.specs.Board.{State}
use Rattle.uf2_place.specs.Accepting.{DownloadView, rules}
use Rattle.uf2_place.specs.Downloads.{Follows}
use Rattle.uf2_place.specs.Progress.{MayComeNext}
use Rattle.uf2_place.specs.Placement.{IsPageInside, sector_in}
use Rattle.uf2_place.specs.Rulings.{aimed, begun, continued, continues, is_of, is_skipped, is_page_within, ruled, ruling}

pub inside-is : (w : Window) (b : Uf2) → is_page_within w.len b ≡ true → IsPageInside w b
inside-is w b within = record {
  above = grind (arith, nat_tests, common_steps, within);
  below = grind (arith, nat_tests, common_steps, within);
}

-- a ruling that lets the steps come
abbrev pub Goes : Ruling → Type 0
Goes r = (answer : Result Accepted PlaceFault) → r ≢ Answered answer

begins-goes : (t : Target) → Goes (Begins t)
begins-goes t answer same = cc same

continues-goes : (t : Target) → Goes (Continues t)
continues-goes t answer same = cc same

-- a page that goes into a target lies in its window and may be written
pub record IsAimed (table : Option Table) (b : Uf2) (t : Target) : Type 0 where
  pub inside : IsPageInside t.window b
  pub allowed : allowed_by table (sector_in t.window b) BootWrite ≡ true

aimed-is : (table : Option Table) (b : Uf2) (t : Target) (go r : Ruling) → Goes r → aimed table b t go ≡ r
    → IsAimed table b t × (go ≡ r)
aimed-is table b t go r goes = by (is_page_within t.window.len b) refl (allowed_by table
    (sector_in t.window b) BootWrite) refl
  where
    by : (x : Bool) → is_page_within t.window.len b ≡ x → (y : Bool)
        → allowed_by table (sector_in t.window b) BootWrite ≡ y
        → aimed table b t go ≡ r → IsAimed table b t × (go ≡ r)
    by true within true may is =
        (record { inside = inside-is t.window b within; allowed = may }, sym (rw (within, may) refl) ∙ is)
    by true within false may is = absurd (goes (Err NotPermitted) (sym is ∙ rw (within, may) refl))
    by false within y may is = absurd (goes (Err Outside) (sym is ∙ rw within refl))

-- what is said of a block that begins a download into t
pub record IsBegun (table : Option Table) (given : Option Target) (current : Option Current) (b : Uf2)
    (t : Target) : Type 0 where
  pub given_is : given ≡ Some t
  pub aimed : IsAimed table b t
  pub new : continues current b ≡ false

-- what is said of a block that continues the download c into t
pub record IsContinued (table : Option Table) (numbers : List ℕ) (c : Current) (b : Uf2) (t : Target) : Type 0 where
  pub target : c.target ≡ t
  pub aimed : IsAimed table b t
  pub same : is_of c b ≡ true
  pub fresh : is_marked numbers b.number ≡ false

begun-is : (table : Option Table) (b : Uf2) (given : Option Target) (t : Target) → begun table b given ≡ Begins t
    → IsAimed table b t × (given ≡ Some t)
begun-is table b None t is = cc is
begun-is table b (Some u) t is =
    let found = aimed-is table b u (Begins u) (Begins t) (begins-goes t) is in
    let same : u ≡ t = cc found.1 in
    (subst (λ v. IsAimed table b v) same found.0, ap Some same)

begun-not : (table : Option Table) (b : Uf2) (given : Option Target) (t : Target) → begun table b given ≡ Continues t
    → ⊥
begun-not table b None t is = cc is
begun-not table b (Some u) t is =
    let found = aimed-is table b u (Begins u) (Continues t) (continues-goes t) is in cc found.1

continued-is : (table : Option Table) (numbers : List ℕ) (b : Uf2) (u t : Target)
    → continued table numbers b u ≡ Continues t
    → IsAimed table b u × (u ≡ t) × (is_marked numbers b.number ≡ false)
continued-is table numbers b u t = by (is_marked numbers b.number) refl
  where
    by : (x : Bool) → is_marked numbers b.number ≡ x → continued table numbers b u ≡ Continues t
        → IsAimed table b u × (u ≡ t) × (is_marked numbers b.number ≡ false)
    by true marked is = absurd (continues-goes t (Ok Again) (sym is ∙ rw marked refl))
    by false marked is =
        let found = aimed-is table b u (Continues u) (Continues t) (continues-goes t) (sym (rw marked refl) ∙ is) in
        (found.0, cc found.1, marked)

continued-not : (table : Option Table) (numbers : List ℕ) (b : Uf2) (u t : Target)
    → continued table numbers b u ≡ Begins t → ⊥
continued-not table numbers b u t = by (is_marked numbers b.number) refl
  where
    by : (x : Bool) → is_marked numbers b.number ≡ x → continued table numbers b u ≡ Begins t → ⊥
    by true marked is = begins-goes t (Ok Again) (sym is ∙ rw marked refl)
    by false marked is =
        let found = aimed-is table b u (Continues u) (Begins t) (begins-goes t) (sym (rw marked refl)
        ∙ is) in cc found.1

-- the ruling on a block that is not skipped
ruled-is : (n : ℕ) (table : Option Table) (given : Option Target) (numbers : List ℕ) (current : Option Current)
    (b : Uf2)
    (r : Ruling) → Goes r → ruling n table given numbers current b ≡ r → ruled table given numbers b current ≡ r
ruled-is n table given numbers current b r goes = by (is_skipped n b) refl
  where
    by : (x : Bool) → is_skipped n b ≡ x → ruling n table given numbers current b ≡ r
        → ruled table given numbers b current ≡ r
    by true skipped is = absurd (goes (Ok Skipped) (sym is ∙ rw skipped refl))
    by false skipped is = sym (rw skipped refl) ∙ is

pub ruling-begins : (n : ℕ) (table : Option Table) (given : Option Target) (numbers : List ℕ) (current : Option Current)
    (b : Uf2)
    (t : Target) → ruling n table given numbers current b ≡ Begins t → IsBegun table given current b t
ruling-begins n table given numbers current b t is =
    by current (ruled-is n table given numbers current b (Begins t) (begins-goes t) is)
  where
    by : (former : Option Current) → ruled table given numbers b former ≡ Begins t → IsBegun table given former b t
    by None is = let found = begun-is table b given t is in record { given_is = found.1; aimed = found.0; new = refl }
    by (Some c) is = of (is_of c b) refl is
      where
        of : (x : Bool) → is_of c b ≡ x → ruled table given numbers b (Some c) ≡ Begins t
            → IsBegun table given (Some c) b t
        of true same is = absurd (continued-not table numbers b c.target t (sym (rw same refl) ∙ is))
        of false same is =
            let found = begun-is table b given t (sym (rw same refl) ∙ is) in
            record { given_is = found.1; aimed = found.0; new = same }

pub ruling-continues : (n : ℕ) (table : Option Table) (given : Option Target) (numbers : List ℕ)
    (current : Option Current)
    (b : Uf2) (t : Target) (c : Current) → current ≡ Some c → ruling n table given numbers current b ≡ Continues t
    → IsContinued table numbers c b t
ruling-continues n table given numbers current b t c here is =
    of (is_of c b) refl (subst (λ former. ruled table given numbers b former ≡ Continues t) here
    (ruled-is n table given numbers current b (Continues t) (continues-goes t) is))
  where
    of : (x : Bool) → is_of c b ≡ x → ruled table given numbers b (Some c) ≡ Continues t
        → IsContinued table numbers c b t
    of true same is =
        let found = continued-is table numbers b c.target t (sym (rw same refl) ∙ is) in
        record {
          target = found.1;
          aimed = subst (λ u. IsAimed table b u) found.1 found.0;
          same = same;
          fresh = found.2;
        }
    of false same is = absurd (begun-not table b given t (sym (rw same refl) ∙ is))

-- the first block of a download
pub next-first : (c : Current) (b : Uf2) → c.family ≡ b.family → c.count ≡ b.count → MayComeNext c [] b
next-first c b family count = record { family = sym family; count = sym count; fresh = refl }

-- a block that continues a download comes next
pub next-after : (pool : Pool) (marks : MarksView) (table : Option Table) (c : Current) (blocks : List Uf2) (b : Uf2)
    (t : Target)
    → Follows pool marks c blocks → IsContinued table marks.numbers c b t → MayComeNext c blocks b
next-after pool marks table c blocks b t f is = record {
  family = let same = is.same in grind (arith, nat_tests, common_steps, same);
  count = let same = is.same in grind (arith, nat_tests, common_steps, same);
  fresh = sym (f.numbers b.number) ∙ is.fresh;
}

-- where the rules say that a block begins or continues a download, it meets the conditions for that
pub rules-begins : (s : State) (table : Option Table) (given : Option Target) (d : DownloadView) (b : Uf2) (t : Target)
    → rules s table given d b ≡ Begins t → IsBegun table given d.current b t
rules-begins s table given d b t is =
    ruling-begins (length s.content.flash) table given d.marks.numbers d.current b t is

pub rules-continues : (s : State) (table : Option Table) (given : Option Target) (d : DownloadView) (b : Uf2)
    (t : Target)
    (c : Current)
    → d.current ≡ Some c → rules s table given d b ≡ Continues t → IsContinued table d.marks.numbers c b t
rules-continues s table given d b t c here is =
    ruling-continues (length s.content.flash) table given d.marks.numbers d.current b t c here is
