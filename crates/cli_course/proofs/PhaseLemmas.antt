-- How the reads and the writes of a run end.
use Rattle.std.proofs.Common.{ℕ, ◌≡◌, ◌≢◌, ◌⊎◌, suc, ◌≤◌, IsTrue, Result, Ok, Err, Option, Some, None, List, [], ◌∷◌, ◌++◌, length, refl, sym, ◌∙◌, ap, subst, inl, inr, arith, append_assoc}
use Rattle.std.proofs.lemmas.Bool.{OnTrue_at}
use Rattle.std.proofs.lemmas.List.{append-nil}
use Rattle.pico_board.specs.Board.{Rose}
use Rattle.pico_board.specs.declared.store.StoreFail.TheVariants.{Fault as StoreFault, Memory as StoreMemory}
use Rattle.pico_board.specs.Files.{File, StoreState, Access, GoesOn, ServesAll}
use Rattle.cli_course.specs.declared.status.Status.{Status}
use Rattle.cli_course.specs.declared.status.Status.TheVariants.{ReadFault, WriteFault, Memory}
use Rattle.cli_course.specs.Outcomes.{LimitedInputView}
use Rattle.cli_course.specs.Courses.{ReadsIn, WritesOut}
use Rattle.cli_course.specs.Ends.{AreRead, LacksOne, read_calls, write_calls, IsSaved, LeftAt}
use Rattle.cli_course.proofs.FileMapLemmas.{saved-more, left-more, saved-none}

-- the counts did not fall, and a steady store is steady
pub record Goes (s t : StoreState) : Type 0 where
  pub reads : s.read_faults ≤ t.read_faults
  pub writes : s.write_faults ≤ t.write_faults
  pub steady : IsTrue s.steady → IsTrue t.steady

goes-one : (s t : StoreState) → GoesOn s t → Goes s t
goes-one s t on = record { reads = on.reads; writes = on.writes; steady = λ h. OnTrue_at h on.steady }

goes-none : (s t : StoreState) → t ≡ s → Goes s t
goes-none s t same = subst (Goes s) (sym same) (record { reads = omega arith; writes = omega arith; steady = λ h. h })

pub goes-more : (s m t : StoreState) → Goes s m → Goes m t → Goes s t
goes-more s m t first rest =
    let a = first.reads in let b = rest.reads in let c = first.writes in let d = rest.writes in
    record { reads = omega arith; writes = omega arith; steady = λ h. rest.steady (first.steady h) }

rose-later : (a b c : ℕ) → a ≤ b → Rose b c → Rose a c
rose-later a b c h rose = omega arith

abbrev pub Reading : Type 0
Reading = Result (List (List ℕ)) Status

-- a reading ends in one way
not-both : (r : Reading) (read : List (List ℕ)) (status : Status) → r ≡ Ok read → r ≡ Err status → ⊥
not-both r read status e f = cc

read-of : (r : Reading) (a b : List (List ℕ)) → r ≡ Ok a → r ≡ Ok b → a ≡ b
read-of r a b e f = cc

status-of : (r : Reading) (a b : Status) → r ≡ Err a → r ≡ Err b → a ≡ b
status-of r a b e f = cc

module _ {S : Type 0} (state : S → StoreState) (history : S → List Access → Type 0) where
  -- all inputs were read
  pub record AllRead (inputs : List LimitedInputView) (acc read : List (List ℕ)) (old new : S) : Type 0 where
    pub more : List (List ℕ)
    pub is : read ≡ acc ++ more
    pub long : length more ≡ length inputs
    pub are : AreRead (state old).files inputs more
    pub files : (state new).files ≡ (state old).files
    pub goes : Goes (state old) (state new)
    pub calls : ServesAll state history old (read_calls inputs more) new

  pub all-read : (inputs : List LimitedInputView) (acc read : List (List ℕ)) (old new : S)
      (end : Result (List (List ℕ)) Status)
      → end ≡ Ok read
      → ReadsIn state history inputs acc old end new → AllRead inputs acc read old new
  all-read [] acc read old new end is (inl stops) = absurd (not-both end read Memory is stops.ends)
  all-read [] acc read old new end is (inr (same, all)) =
      record {
        more = [];
        is = read-of end read acc is all ∙ sym (append-nil acc);
        long = refl;
        are = tt;
        files = ap (λ x. (state x).files) same;
        goes = goes-none (state old) (state new) (ap state same);
        calls = same;
      }
  all-read (input ∷ inputs) acc read old new end is (inl stops) = absurd (not-both end read Memory is stops.ends)
  all-read (input ∷ inputs) acc read old new end is (inr (inl (StoreFault, serves, fails))) =
      absurd (not-both end read ReadFault is fails)
  all-read (input ∷ inputs) acc read old new end is (inr (inl (StoreMemory, serves, fails))) =
      absurd (not-both end read Memory is fails)
  all-read (input ∷ inputs) acc read old new end is (inr (inr (bytes, mid, small, serves, rest))) =
      let r = all-read inputs (acc ++ bytes ∷ []) read mid new end is rest in record {
        more = bytes ∷ r.more;
        is = r.is ∙ append_assoc acc (bytes ∷ []) r.more;
        long = ap suc r.long;
        are = (small, serves.shows.bytes, subst (λ files. AreRead files inputs r.more) serves.shows.files r.are);
        files = r.files ∙ serves.shows.files;
        goes = goes-more (state old) (state mid) (state new) (goes-one (state old) (state mid) serves.counts) r.goes;
        calls = (mid, serves, r.calls);
      }

  -- a read failed, or there was no memory
  pub data NotRead (inputs : List LimitedInputView) (old new : S) (status : Status) : Type 0 where
    no_memory : status ≡ Memory → NotRead inputs old new status
    at_fault : status ≡ ReadFault → inputs ≢ [] → Rose (state old).read_faults (state new).read_faults
        → (IsTrue (state old).steady → LacksOne (state old).files inputs)
        → NotRead inputs old new status

  not-read-more : (input : LimitedInputView) (inputs : List LimitedInputView) (old mid new : S) (status : Status)
      → (state mid).files ≡ (state old).files
      → Goes (state old) (state mid) → NotRead inputs mid new status → NotRead (input ∷ inputs) old new status
  not-read-more input inputs old mid new status same goes (no_memory is) = no_memory is
  not-read-more input inputs old mid new status same goes (at_fault is some rose lacks) =
      at_fault is (λ (e : (input ∷ inputs) ≡ []). cc)
      (rose-later (state old).read_faults (state mid).read_faults (state new).read_faults goes.reads rose)
      (λ steady. inr (subst (λ files. LacksOne files inputs) same (lacks (goes.steady steady))))

  pub not-read : (inputs : List LimitedInputView) (acc : List (List ℕ)) (old new : S)
      (end : Result (List (List ℕ)) Status)
      (status : Status) → end ≡ Err status
      → ReadsIn state history inputs acc old end new → NotRead inputs old new status
      × ((state new).files ≡ (state old).files)
  not-read [] acc old new end status is (inl stops) =
      (no_memory (status-of end status Memory is stops.ends), ap (λ x. (state x).files) stops.same)
  not-read [] acc old new end status is (inr (same, all)) = absurd (not-both end acc status all is)
  not-read (input ∷ inputs) acc old new end status is (inl stops) =
      (no_memory (status-of end status Memory is stops.ends), ap (λ x. (state x).files) stops.same)
  not-read (input ∷ inputs) acc old new end status is (inr (inl (StoreFault, serves, fails))) = (
    at_fault (status-of end status ReadFault is fails) (λ (e : (input ∷ inputs) ≡ []). cc) (serves.shows.fault refl)
        (λ steady. inl (serves.shows.steady steady refl)),
    serves.shows.files,
  )
  not-read (input ∷ inputs) acc old new end status is (inr (inl (StoreMemory, serves, fails))) =
      (no_memory (status-of end status Memory is fails), serves.shows.files)
  not-read (input ∷ inputs) acc old new end status is (inr (inr (bytes, mid, small, serves, rest))) =
      let r = not-read inputs (acc ++ bytes ∷ []) mid new end status is rest in (
        not-read-more input inputs old mid new status serves.shows.files
            (goes-one (state old) (state mid) serves.counts) r.0,
        r.1 ∙ serves.shows.files,
      )

  -- all files were written
  pub record AllWritten (files : List File) (old new : S) : Type 0 where
    pub is : IsSaved files (state old).files (state new).files
    pub calls : ServesAll state history old (write_calls files) new

  pub all-written : (files : List File) (old new : S) (end : Option Status) → end ≡ None
      → WritesOut state history files old end new → AllWritten files old new
  all-written [] old new end is (same, none) =
      record { is = saved-none (state old).files (state new).files (ap (λ x. (state x).files) same); calls = same }
  all-written (file ∷ files) old new end is (inl (fail, serves, ends)) = let e : None ≡ _ = sym is ∙ ends in cc
  all-written (file ∷ files) old new end is (inr (mid, serves, rest)) =
      let r = all-written files mid new end is rest in record {
        is = saved-more file files (state old).files (state mid).files (state new).files serves.shows.ok r.is;
        calls = (mid, serves, r.calls);
      }

  -- a write failed
  abbrev pub FailsAs : S → S → Status → Type 0
  FailsAs old new status =
      ((status ≡ WriteFault) × Rose (state old).write_faults (state new).write_faults × (IsTrue (state old).steady → ⊥))
      ⊎ (status ≡ Memory)

  pub record NotWritten (files : List File) (old new : S) (status : Status) : Type 0 where
    pub left : LeftAt (state old).files files (state new).files
    pub fails : FailsAs old new status

  pub fails-more : (old mid new : S) (status : Status) → Goes (state old) (state mid) → FailsAs mid new status
      → FailsAs old new status
  fails-more old mid new status goes (inl (is, rose, not)) =
      inl (
        is,
        rose-later (state old).write_faults (state mid).write_faults
            (state new).write_faults goes.writes rose,
        λ steady. not (goes.steady steady),
      )
  fails-more old mid new status goes (inr is) = inr is

  some-status : (a b : Status) → Some a ≡ Some b → a ≡ b
  some-status a b e = cc

  pub not-written : (files : List File) (old new : S) (end : Option Status) (status : Status) → end ≡ Some status
      → WritesOut state history files old end new
      → NotWritten files old new status
  not-written [] old new end status is (same, none) = let e : Some status ≡ None = sym is ∙ none in cc
  not-written (file ∷ files) old new end status is (inl (StoreFault, serves, ends)) = record {
    left = inl serves.shows.err;
    fails = inl (
      some-status status WriteFault
          (sym is ∙ ends),
      serves.shows.fault refl,
      λ steady. serves.shows.steady steady refl,
    );
  }
  not-written (file ∷ files) old new end status is (inl (StoreMemory, serves, ends)) = record {
    left = inl serves.shows.err;
    fails = inr (some-status status Memory (sym is ∙ ends));
  }
  not-written (file ∷ files) old new end status is (inr (mid, serves, rest)) =
      let r = not-written files mid new end status is rest in record {
        left = left-more file files (state old).files (state mid).files (state new).files serves.shows.ok r.left;
        fails = fails-more old mid new status (goes-one (state old) (state mid) serves.counts) r.fails;
      }

  -- calls and then others are one list of calls
  pub serves-append : (xs ys : List Access) (old mid new : S) → ServesAll state history old xs mid
      → ServesAll state history mid ys new → ServesAll state history old (xs ++ ys) new
  serves-append [] ys old mid new same rest = subst (λ x. ServesAll state history x ys new) same rest
  serves-append (x ∷ xs) ys old mid new (m, first, more) rest = (m, first, serves-append xs ys m mid new more rest)
