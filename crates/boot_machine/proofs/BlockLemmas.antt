-- What a block does to the download that the machine carries, by the blocks that came before it.
use Rattle.std.proofs.Common.{◌≡◌, ◌≢◌, ℕ, Bool, true, false, Result, Ok, Err, Option, None, Some, List, [], ◌∷◌, ◌++◌, length, refl, sym, ap, ◌∙◌, subst, nat_eq}
use Rattle.std.specs.Prelude.{⊤, IfOk, ◌||◌, if◌then◌else◌}
use Rattle.std.specs.List.{AllByRecursion}
use Rattle.std.specs.Option.{ForSome}
use Rattle.std.specs.Prelude.{◌≤◌, ◌<◌, ◌^◌}
use Rattle.std.proofs.Common.{arith}
use Rattle.std.specs.Set.{is_member}
use Rattle.pico_board.specs.declared.window.TheConstants.{MOST_FLASH_BYTES}
use Rattle.pico_board.specs.declared.Step.{Step}
use Rattle.pico_board.specs.declared.boot.Cpu.{Cpu}
use Rattle.pico_board.specs.declared.board.PowerLost.{PowerLost}
use Rattle.pico_board.specs.Content.{Content}
use Rattle.pico_board.specs.Board.{State, DoesAll}
use Rattle.pico_board.proofs.StepLemmas.{DoesAll-none}
use Rattle.sector_pool.specs.Pool.{Pool}
use Rattle.part_table.specs.declared.Right.TheVariants.{BootWrite}
use Rattle.part_table.specs.declared.Table.{Table}
use Rattle.part_table.specs.declared.Target.{Target}
use Rattle.part_table.specs.Rights.{allowed_by}
use Rattle.uf2_place.specs.declared.answer.Accepted.{Accepted}
use Rattle.uf2_place.specs.declared.answer.Accepted.TheVariants.{Skipped, Again, Taken, Done}
use Rattle.uf2_place.specs.declared.answer.PlaceFault.{PlaceFault}
use Rattle.uf2_place.specs.declared.answer.PlaceFault.TheVariants.{NoTarget, Outside, NotPermitted, PowerLost as Lost}
use Rattle.uf2_place.specs.declared.answer.Ruling.{Ruling}
use Rattle.uf2_place.specs.declared.answer.Ruling.TheVariants.{Answered, Begins, Continues}
use Rattle.uf2_place.specs.declared.block.Uf2.{Uf2}
use Rattle.uf2_place.specs.declared.current.Current.{Current}
use Rattle.uf2_place.specs.Accepting.{AnswersAtOnce, rules, DownloadView, Places, StandsFor, answer_after, has_power}
use Rattle.uf2_place.specs.Marks.{is_marked}
use Rattle.uf2_place.specs.Placement.{IsBlockOf, grown, is_whole_download, numbers_of, sector_in}
use Rattle.uf2_place.specs.Rulings.{aimed, begun, continued, continues, is_of, is_skipped, is_page_within, ruled, ruling, wanted}
use Rattle.uf2_place.specs.Downloads.{IsTargetIn}
use Rattle.uf2_place.proofs.RuledLemmas.{rules-begins}
use Rattle.boot_rules.specs.Targets.{target_of}
use Rattle.boot_machine.specs.Machines.{Host, Placing}
use Rattle.boot_machine.specs.declared.served.Served.{Served}
use Rattle.boot_machine.specs.Serving.{ServedEvent, block_answer, block_outcome, block_served, blocks_of, carried_on, is_like, ruled_on, ruling_on, taken_in, only_told, wanted_in}
use Rattle.boot_machine.specs.Standing.{Carries, IsDoneIn, IsServedBlock}

-- the blocks that a download stands for are of its family and its count
like-of : (c : Current) (blocks : List Uf2) (b : Uf2) → blocks ≢ []
    → AllByRecursion (IsBlockOf c.family c.count) blocks → is_like blocks b ≡ is_of c b
like-of c [] b some each = absurd (some refl)
like-of c (x ∷ xs) b some each = rw (each.0.same_family, each.0.same_count) refl

continued-alike : (table : Option Table) (numbers : List ℕ) (b : Uf2) (t : Target) (p : Placing) → t ≡ p.target
    → is_marked numbers b.number ≡ is_member nat_eq (numbers_of p.blocks) b.number
    → continued table numbers b t ≡ carried_on table p b
continued-alike table numbers b t p same marked = rw (same, marked) refl

kept-alike : (table : Option Table) (given wanted : Option Target) (numbers : List ℕ) (p : Placing) (b : Uf2)
    (current : Current) → is_of current b ≡ is_like p.blocks b → current.target ≡ p.target
    → ((i : ℕ) → is_marked numbers i ≡ is_member nat_eq (numbers_of p.blocks) i)
    → (is_of current b ≡ false → given ≡ wanted)
    → ruled table given numbers b (Some current) ≡ ruled_on table wanted (Some p) b
kept-alike table given wanted numbers p b current alike same marked new = by (is_of current b) refl
  where
    by : (x : Bool) → is_of current b ≡ x
        → ruled table given numbers b (Some current) ≡ ruled_on table wanted (Some p) b
    by true is =
        ap (λ x. if x then continued table numbers b current.target else begun table b given) is
        ∙ continued-alike table numbers b current.target p same (marked b.number)
        ∙ sym (ap (λ x. if x then carried_on table p b else begun table b wanted) (sym alike ∙ is))
    by false is =
        ap (λ x. if x then continued table numbers b current.target else begun table b given) is
        ∙ ap (begun table b) (new is)
        ∙ sym (ap (λ x. if x then carried_on table p b else begun table b wanted) (sym alike ∙ is))

-- a block that is not skipped and begins a download wants its family's target
wants-new : (n : ℕ) (table : Option Table) (c : Content) (cpu : Cpu) (current : Option Current) (b : Uf2)
    → is_skipped n b ≡ false → continues current b ≡ false
    → wanted_in c table cpu (wanted n current b) ≡ target_of c table cpu b.family
wants-new n table c cpu current b kept new =
    ap (λ x. wanted_in c table cpu (if x || continues current b then None else Some b.family)) kept
    ∙ ap (λ x. wanted_in c table cpu (if x then None else Some b.family)) new

-- the ruling on a block is that by the blocks that the download stands for
pub ruling-alike : (n : ℕ) (table : Option Table) (c : Content) (cpu : Cpu) (d : DownloadView) (pool : Pool)
    (placing : Option Placing) (b : Uf2) → Carries d pool placing
    → ruling n table (wanted_in c table cpu (wanted n d.current b)) d.marks.numbers d.current b
    ≡ ruling_on n table (target_of c table cpu b.family) placing b
ruling-alike n table c cpu d pool placing b carries = by (is_skipped n b) refl placing carries
  where
    given : Option Current → Option Target
    given current = wanted_in c table cpu (wanted n current b)

    same : (placing : Option Placing) → is_skipped n b ≡ false → Carries d pool placing
        → ruled table (given d.current) d.marks.numbers b d.current
        ≡ ruled_on table (target_of c table cpu b.family) placing b
    same None kept none =
        ap (λ current. ruled table (given current) d.marks.numbers b current) none
        ∙ ap (begun table b) (wants-new n table c cpu None b kept refl)
    same (Some p) kept stands =
        ap (λ current. ruled table (given current) d.marks.numbers b current) stands.is
        ∙ kept-alike table (given (Some stands.current)) (target_of c table cpu b.family) d.marks.numbers p b
        stands.current (sym (like-of stands.current p.blocks b stands.some stands.follows.are.each)) stands.target
        stands.follows.numbers (λ new. wants-new n table c cpu (Some stands.current) b kept new)

    by : (x : Bool) → is_skipped n b ≡ x → (placing : Option Placing) → Carries d pool placing
        → ruling n table (given d.current) d.marks.numbers d.current b
        ≡ ruling_on n table (target_of c table cpu b.family) placing b
    by true skipped placing carries =
        ap (λ x. if x then Answered (Ok Skipped) else ruled table (given d.current) d.marks.numbers b d.current) skipped
        ∙ sym (ap (λ x. if x then Answered (Ok Skipped)
        else ruled_on table (target_of c table cpu b.family) placing b) skipped)
    by false kept placing carries =
        ap (λ x. if x then Answered (Ok Skipped) else ruled table (given d.current) d.marks.numbers b d.current) kept
        ∙ same placing kept carries
        ∙ sym (ap (λ x. if x then Answered (Ok Skipped)
        else ruled_on table (target_of c table cpu b.family) placing b) kept)

-- an answer that is given at once: nothing is taken, and no power is lost
abbrev IsQuiet : Result Accepted PlaceFault → Type 0
IsQuiet (Ok Skipped) = ⊤
IsQuiet (Ok Again) = ⊤
IsQuiet (Ok Taken) = ⊥
IsQuiet (Ok (Done target)) = ⊥
IsQuiet (Err NoTarget) = ⊤
IsQuiet (Err Outside) = ⊤
IsQuiet (Err NotPermitted) = ⊤
IsQuiet (Err Lost) = ⊥

-- what is said of a ruling in the rules' words
abbrev IsMeant : Option Placing → Ruling → Type 0
IsMeant placing (Answered answer) = IsQuiet answer
IsMeant placing (Begins t) = ⊤
IsMeant placing (Continues t) = (p : Placing) × (placing ≡ Some p) × (p.target ≡ t)

aimed-meant : (placing : Option Placing) (table : Option Table) (b : Uf2) (t : Target) (go : Ruling)
    → IsMeant placing go → IsMeant placing (aimed table b t go)
aimed-meant placing table b t go meant = by (is_page_within t.window.len b) refl (allowed_by table
    (sector_in t.window b) BootWrite) refl
  where
    by : (x : Bool) → is_page_within t.window.len b ≡ x → (y : Bool)
        → allowed_by table (sector_in t.window b) BootWrite ≡ y
        → IsMeant placing (aimed table b t go)
    by true within true may = rw (within, may) meant
    by true within false may = rw (within, may) tt
    by false within y may = rw within tt

begun-meant : (placing : Option Placing) (table : Option Table) (b : Uf2) (given : Option Target)
    → IsMeant placing (begun table b given)
begun-meant placing table b None = tt
begun-meant placing table b (Some t) = aimed-meant placing table b t (Begins t) tt

carried-meant : (table : Option Table) (p : Placing) (b : Uf2) → IsMeant (Some p) (carried_on table p b)
carried-meant table p b = by (is_member nat_eq (numbers_of p.blocks) b.number) refl
  where
    by : (x : Bool) → is_member nat_eq (numbers_of p.blocks) b.number ≡ x → IsMeant (Some p) (carried_on table p b)
    by true is = rw is tt
    by false is = rw is (aimed-meant (Some p) table b p.target (Continues p.target) (p, refl, refl))

ruled-meant : (table : Option Table) (given : Option Target) (placing : Option Placing) (b : Uf2)
    → IsMeant placing (ruled_on table given placing b)
ruled-meant table given None b = begun-meant None table b given
ruled-meant table given (Some p) b = by (is_like p.blocks b) refl
  where
    by : (x : Bool) → is_like p.blocks b ≡ x → IsMeant (Some p) (ruled_on table given (Some p) b)
    by true is = rw is (carried-meant table p b)
    by false is = rw is (begun-meant (Some p) table b given)

pub each-meant : (n : ℕ) (table : Option Table) (given : Option Target) (placing : Option Placing) (b : Uf2)
    → IsMeant placing (ruling_on n table given placing b)
each-meant n table given placing b = by (is_skipped n b) refl
  where
    by : (x : Bool) → is_skipped n b ≡ x → IsMeant placing (ruling_on n table given placing b)
    by true is = rw is tt
    by false is = rw is (ruled-meant table given placing b)

module _ {B : Type 0} (state : B → State) (history : B → List Step → Type 0) (old new : B) (host : Host) (b : Uf2)
    (d e : DownloadView) (pool after : Pool) (answer : Result Accepted PlaceFault) where
  -- the block was served as s says
  abbrev IsThus : ServedEvent → Result Accepted PlaceFault → Type 0
  IsThus s a = IsServedBlock state history s old (block_answer b.number b.family a) new e after

  placed-lost : (s : ServedEvent) → DoesAll state history old s.steps false new → e.current ≡ None → IsThus s (Err Lost)
  placed-lost s steps none = record { steps = steps; boot = tt; told = tt; carries = tt; lost = none }

  -- a block that is taken
  came-placed : (t : Target) (former : List Uf2) → Places state history t former b old answer new e after
      → IsThus (taken_in host t (former ++ b ∷ []) b (grown t former (former ++ b ∷ []))) answer
  came-placed t former places = by (has_power answer) refl (is_whole_download (former ++ b ∷ [])) refl
    where
      -- the steps, where it is known whether power was lost
      done : {x : Bool} → has_power answer ≡ x
          → DoesAll state history old (grown t former (former ++ b ∷ [])) (has_power answer) new
          → DoesAll state history old (grown t former (former ++ b ∷ [])) x new
      done is steps = subst (λ x. DoesAll state history old (grown t former (former ++ b ∷ [])) x new) is steps

      by : (x : Bool) → has_power answer ≡ x → (w : Bool) → is_whole_download (former ++ b ∷ []) ≡ w
          → IsThus (taken_in host t (former ++ b ∷ []) b (grown t former (former ++ b ∷ []))) answer
      by true power true whole =
          let is : answer ≡ Ok (Done t) = places.answered ∙ rw (power, whole) refl in
          let steps = done power places.steps in
          let ended = places.ended (λ taken. let no : Ok (Done t) ≡ Ok Taken = sym is ∙ taken in cc no) in
          subst (λ a. IsThus (taken_in host t (former ++ b ∷ []) b (grown t former (former ++ b ∷ []))) a) (sym is)
          (rw whole (record { steps = steps; boot = refl; told = refl; carries = ended; lost = tt }))
      by true power false whole =
          let is : answer ≡ Ok Taken = places.answered ∙ rw (power, whole) refl in
          let steps = done power places.steps in
          subst (λ a. IsThus (taken_in host t (former ++ b ∷ []) b (grown t former (former ++ b ∷ []))) a) (sym is)
          (rw whole (record { steps = steps; boot = refl; told = refl; carries = places.taken is; lost = tt }))
      by false power true whole =
          let is : answer ≡ Err Lost = places.answered ∙ rw power refl in
          let steps = done power places.steps in
          let ended = places.ended (λ taken. let no : Err Lost ≡ Ok Taken = sym is ∙ taken in cc no) in
          subst (λ a. IsThus (taken_in host t (former ++ b ∷ []) b (grown t former (former ++ b ∷ []))) a) (sym is)
          (rw whole (placed-lost _ steps ended))
      by false power false whole =
          let is : answer ≡ Err Lost = places.answered ∙ rw power refl in
          let steps = done power places.steps in
          let ended = places.ended (λ taken. let no : Err Lost ≡ Ok Taken = sym is ∙ taken in cc no) in
          subst (λ a. IsThus (taken_in host t (former ++ b ∷ []) b (grown t former (former ++ b ∷ []))) a) (sym is)
          (rw whole (placed-lost _ steps ended))

  -- a block that is answered at once
  came-answered : (a : Result Accepted PlaceFault) → IsQuiet a → (state old).powered ≡ true
      → Carries d pool host.placing → e ≡ d → after ≡ pool → new ≡ old
      → IsThus (only_told host (block_outcome b.number a)) a
  came-answered a quiet power carries same_download same_pool same = by a quiet
    where
      steps : DoesAll state history old [] true new
      steps = subst (λ x. DoesAll state history old [] true x) (sym same) (DoesAll-none old power)

      kept : Carries e after host.placing
      kept = subst (λ x. Carries x after host.placing) (sym same_download)
          (subst (λ x. Carries d x host.placing) (sym same_pool) carries)

      by : (a : Result Accepted PlaceFault) → IsQuiet a → IsThus (only_told host (block_outcome b.number a)) a
      by (Ok Skipped) quiet = record { steps = steps; boot = refl; told = refl; carries = kept; lost = tt }
      by (Ok Again) quiet = record { steps = steps; boot = refl; told = refl; carries = kept; lost = tt }
      by (Ok Taken) quiet = absurd quiet
      by (Ok (Done t)) quiet = absurd quiet
      by (Err NoTarget) quiet = record { steps = steps; boot = refl; told = refl; carries = kept; lost = tt }
      by (Err Outside) quiet = record { steps = steps; boot = refl; told = refl; carries = kept; lost = tt }
      by (Err NotPermitted) quiet = record { steps = steps; boot = refl; told = refl; carries = kept; lost = tt }
      by (Err Lost) quiet = absurd quiet

  -- what the call promises of a ruling
  abbrev IsPromised : Ruling → Type 0
  IsPromised r =
      AnswersAtOnce r answer ((e ≡ d) × (after ≡ pool) × (new ≡ old))
      × ((t : Target) → r ≡ Begins t → Places state history t [] b old answer new e after)
      × ((t : Target) (blocks : List Uf2) → r ≡ Continues t → StandsFor d pool t blocks
      → Places state history t blocks b old answer new e after)

  pub came : (r : Ruling) → IsMeant host.placing r → IsPromised r → (state old).powered ≡ true
      → Carries d pool host.placing → IsThus (block_served host b r) answer
  came (Answered a) quiet promised power carries =
      let at = promised.0 a refl in
      subst (λ x. IsThus (only_told host (block_outcome b.number a)) x) (sym (at.0))
      (came-answered a quiet power carries (at.1.0) (at.1.1) (at.1.2))
  came (Begins t) meant promised power carries = came-placed t [] (promised.1 t refl)
  came (Continues t) meant promised power carries = by meant
    where
      by : (p : Placing) × (host.placing ≡ Some p) × (p.target ≡ t) → IsThus (block_served host b (Continues t)) answer
      by m =
          let p = m.0 in
          let is = m.1 in
          let stands = subst (λ (x : Target). StandsFor d pool x p.blocks) (m.2)
          (subst (Carries d pool) is carries) in
          let done = came-placed t p.blocks (promised.2 t p.blocks refl stands) in
          subst (λ (blocks : List Uf2).
          IsThus (taken_in host t (blocks ++ b ∷ []) b (grown t blocks (blocks ++ b ∷ []))) answer)
          (sym (ap blocks_of is)) done

  -- a block is served as the machine says, with what is answered
  pub came-told : (r : Ruling) (result : Result Served PowerLost)
      → IsMeant host.placing r → IsPromised r → (state old).powered ≡ true → Carries d pool host.placing
      → result ≡ block_answer b.number b.family answer
      → IsServedBlock state history (block_served host b r) old result new e after
  came-told r result meant promised power carries is =
      subst (λ x. IsServedBlock state history (block_served host b r) old x new e after) (sym is)
      (came r meant promised power carries)

-- the ruling of the call is that of the machine, and its promises are of that one
pub promised-of : {B : Type 0} (state : B → State) (history : B → List Step → Type 0) (old new : B) (host : Host)
    (b : Uf2) (d e : DownloadView) (pool mid after : Pool) (answer : Result Accepted PlaceFault) (r q : Ruling) → r ≡ q
    → AnswersAtOnce r answer ((e ≡ d) × (after ≡ mid) × (new ≡ old))
    → ((t : Target) → r ≡ Begins t → Places state history t [] b old answer new e after)
    → ((t : Target) (blocks : List Uf2) → r ≡ Continues t → StandsFor d mid t blocks
    → Places state history t blocks b old answer new e after)
    → IsPromised state history old new host b d e mid after answer q
promised-of state history old new host b d e pool mid after answer r q same at_once begins continues =
    (λ early is. at_once early (same ∙ is), λ t is. begins t (same ∙ is), λ t blocks is. continues t blocks (same ∙ is))

-- the ruling of the call is that of the machine
pub same-ruling : (s : State) (table found : Option Table) (given : Option Target) (cpu : Cpu) (d : DownloadView)
    (pool : Pool)
    (placing : Option Placing) (b : Uf2) → table ≡ found
    → given ≡ wanted_in s.content table cpu (wanted (length s.content.flash) d.current b) → Carries d pool placing
    → rules s table given d b
    ≡ ruling_on (length s.content.flash) found (target_of s.content found cpu b.family) placing b
same-ruling s table found given cpu d pool placing b same is carries =
    ap (λ g. rules s table g d b) is
    ∙ ruling-alike (length s.content.flash) table s.content cpu d pool placing b carries
    ∙ ap (λ t. ruling_on (length s.content.flash) t (target_of s.content t cpu b.family) placing b) same

-- a target in a flash starts within it
starts-in : (n : ℕ) (t : Target) → n ≤ MOST_FLASH_BYTES → IsTargetIn n t → t.window.start < 2 ^ 24
starts-in n t most at = let some = at.whole.some in let inside = at.inside in omega (arith, some, inside, most)

done-answer : (t : Target) (blocks : List Uf2) (answer : Result Accepted PlaceFault) (x : Bool)
    → answer ≡ answer_after x t blocks → t.window.start < 2 ^ 24 → IfOk answer IsDoneIn
done-answer t blocks answer x is start = subst (λ a. IfOk a IsDoneIn) (sym is) (by x (is_whole_download blocks) refl)
  where
    by : (x w : Bool) → is_whole_download blocks ≡ w → IfOk (answer_after x t blocks) IsDoneIn
    by true true whole = rw whole start
    by true false whole = rw whole tt
    by false w whole = tt

quiet-answer : (a : Result Accepted PlaceFault) → IsQuiet a → IfOk a IsDoneIn
quiet-answer (Ok Skipped) quiet = tt
quiet-answer (Ok Again) quiet = tt
quiet-answer (Ok Taken) quiet = absurd quiet
quiet-answer (Ok (Done t)) quiet = absurd quiet
quiet-answer (Err fault) quiet = tt

-- a download that is done went into a target in the flash
pub done-in : {B : Type 0} (state : B → State) (history : B → List Step → Type 0) (old new : B) (s : State)
    (table : Option Table) (given : Option Target) (placing : Option Placing) (b : Uf2) (d e : DownloadView)
    (pool after : Pool) (Unchanged : Type 0) (answer : Result Accepted PlaceFault) (r q : Ruling)
    → rules s table given d b ≡ r → r ≡ q → IsMeant placing q
    → length s.content.flash ≤ MOST_FLASH_BYTES
    → ForSome given (IsTargetIn (length s.content.flash))
    → ForSome d.current (λ c. IsTargetIn (length s.content.flash) c.target)
    → Carries d pool placing
    → AnswersAtOnce r answer Unchanged
    → ((t : Target) → r ≡ Begins t → Places state history t [] b old answer new e after)
    → ((t : Target) (blocks : List Uf2) → r ≡ Continues t → StandsFor d pool t blocks
    → Places state history t blocks b old answer new e after)
    → IfOk answer IsDoneIn
done-in state history old new s table given placing b d e pool after Unchanged answer r (Answered a) is same quiet most
    placed kept carries at_once begins continues =
    subst (λ x. IfOk x IsDoneIn) (sym (at_once a same).0) (quiet-answer a quiet)
done-in state history old new s table given placing b d e pool after Unchanged answer r (Begins t) is same meant most
    placed kept carries at_once begins continues =
    let begun = rules-begins s table given d b t (is ∙ same) in
    let p = begins t same in
    done-answer t (b ∷ []) answer (has_power answer) p.answered
    (starts-in (length s.content.flash) t most (placed t begun.given_is))
done-in state history old new s table given placing b d e pool after Unchanged answer r (Continues t) is same meant most
    placed kept carries at_once begins continues =
    let p = meant.0 in
    let stands : StandsFor d pool t p.blocks = subst (λ (x : Target). StandsFor d pool x p.blocks) (meant.2)
    (subst (Carries d pool) (meant.1) carries) in
    let places = continues t p.blocks same stands in
    let at : IsTargetIn (length s.content.flash) t = subst (IsTargetIn (length s.content.flash)) stands.target
    (kept stands.current stands.is) in
    done-answer t (p.blocks ++ b ∷ []) answer (has_power answer) places.answered
    (starts-in (length s.content.flash) t most at)
