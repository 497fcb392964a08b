-- The counts, cut after cut.
use Rattle.std.proofs.Common.{◌≡◌, ℕ, ◌+◌, ◌*◌, ◌<◌, ◌≤◌, Bool, ◌||◌, List, [], ◌∷◌, ◌++◌, length, refl, sym, ap, ◌∙◌, subst, arith, append_assoc, append-nil}
use Rattle.std.specs.Prelude.{count_by, map}
use Rattle.std.proofs.lemmas.List.{length-append}
use Rattle.pico_board.specs.declared.boot.Cpu.{Cpu}
use Rattle.pico_board.specs.Content.{Content}
use Rattle.pico_board.specs.Cuts.{cut_by, cut_with}
use Rattle.pico_board.specs.MemBoard.{state_of}
use Rattle.pico_board.specs.Steps.{after}
use Rattle.pico_board.specs.declared.Step.{Step}
use Rattle.boot_script.specs.Events.{EventView}
use Rattle.boot_sweep.specs.EachCut.{AreTaken}
use Rattle.boot_sweep.specs.declared.moves.Move.{Move}
use Rattle.boot_tape.specs.declared.trace.Trace.{Trace}
use Rattle.boot_tape.specs.Moving.{MoveView, Done, Torn, moves_from, traced_by}
use Rattle.boot_tape.specs.Playing.{IsTraceOf}
use Rattle.boot_tape.specs.Traces.{Traced, trace}
use Rattle.cut_class.specs.declared.class.Class.TheVariants.{Former, Finished, Whole, Tail, Mixed, Bootsel}
use Rattle.boot_cuts.specs.Contents.{cut_contents}
use Rattle.boot_cuts.specs.Tears.{left_torn}
use Rattle.check_data.specs.declared.found.DataWindow.{DataWindow}
use Rattle.check_counts.specs.declared.counts.Counts.{Counts}
use Rattle.check_counts.specs.Counted.{AreCounts, script_cuts, sides_of}
use Rattle.check_counts.specs.Facts.{Facts, Sides, caveats_on, facts_of, falls_on, has_other_table, is_early, is_of_class, is_on_other_data, is_other_class, is_raising}
use Rattle.check_counts.specs.Tallies.{Tally, counted, counted_each, seen_with, tally_before, tally_of, with_all, with_facts}
use Rattle.check_counts.proofs.CountLemmas.{any-more, count-more, each-more, each-none}
use Rattle.check_counts.proofs.SeenLemmas.{seen-more, seen-none}

-- a count after one cut more
more : (n : ℕ) (p : Content → Bool) (cs : List Content) (d : Content) → length cs < 0xffff_ffff
    → n ≡ count_by p cs → counted n (p d) ≡ count_by p (cs ++ d ∷ [])
more n p cs d few is = ap (λ m. counted m (p d)) is ∙ count-more p cs d few

-- the counts after one cut more
pub counts-more : (s : Sides) (cs : List Content) (d : Content) (t : Tally) → length cs < 0xffff_ffff
    → AreCounts s cs t → AreCounts s (cs ++ d ∷ []) (with_facts t (facts_of s d))
counts-more s cs d t few are = record {
  former = more t.former (is_of_class s Former) cs d few are.former;
  finished = more t.finished (is_of_class s Finished) cs d few are.finished;
  whole = more t.whole (is_of_class s Whole) cs d few are.whole;
  tail = more t.tail (is_of_class s Tail) cs d few are.tail;
  mixed = more t.mixed (is_of_class s Mixed) cs d few are.mixed;
  bootsel = more t.bootsel (is_of_class s Bootsel) cs d few are.bootsel;
  falls = more t.falls (falls_on s.cpu) cs d few are.falls;
  early = more t.early (is_early s) cs d few are.early;
  other_data = ap (λ ns. counted_each ns (map (λ w. is_on_other_data s w d) s.windows)) are.other_data
      ∙ each-more (λ w e. is_on_other_data s w e) s.windows cs d few;
  by_mixed = more t.by_mixed (is_raising s) cs d few are.by_mixed;
  other_table = ap (λ b. b || has_other_table s.first d) are.other_table ∙ any-more (has_other_table s.first) cs d;
  other_class = ap (λ b. b || is_other_class s d) are.other_class ∙ any-more (is_other_class s) cs d;
  caveats = ap (λ l. seen_with l (caveats_on s.cpu d)) are.caveats ∙ seen-more s cs d few;
}

-- the counts over no cut
pub counts-none : (s : Sides) → AreCounts s [] (tally_before s)
counts-none s = record {
  former = refl;
  finished = refl;
  whole = refl;
  tail = refl;
  mixed = refl;
  bootsel = refl;
  falls = refl;
  early = refl;
  other_data = each-none (λ w e. is_on_other_data s w e) s.windows;
  by_mixed = refl;
  other_table = refl;
  other_class = refl;
  caveats = seen-none s;
}

-- the counts after further cuts
pub counts-all : (s : Sides) (cs ds : List Content) (t : Tally) → length cs + length ds ≤ 0xffff_ffff
    → AreCounts s cs t → AreCounts s (cs ++ ds) (with_all t (map (facts_of s) ds))
counts-all s cs [] t few are = subst (λ l. AreCounts s l t) (sym (append-nil cs)) are
counts-all s cs (d ∷ ds) t few are =
    subst (λ l. AreCounts s l (with_all (with_facts t (facts_of s d)) (map (facts_of s) ds)))
    (append_assoc cs (d ∷ []) ds)
    (counts-all s (cs ++ d ∷ []) ds (with_facts t (facts_of s d))
    (let long = length-append cs (d ∷ []) in omega (arith, few, long))
    (counts-more s cs d t (omega (arith, few)) are))

-- the facts of each cut were taken
pub facts-taken : (tell : Content → Facts) (pattern : List ℕ) (old : Counts) (c : Content) (moves : List MoveView)
    (new : Counts)
    → AreTaken (λ (f : Counts) before within (g : Counts). tally_of g
    ≡ with_facts (with_facts (tally_of f) before) within) tell pattern old c moves new
    → tally_of new ≡ with_all (tally_of old) (map tell (cut_contents pattern (traced_by c moves)))
facts-taken tell pattern old c [] new taken = ap tally_of taken
facts-taken tell pattern old c (Done step ∷ moves) new taken =
    facts-taken tell pattern taken.0 (after c step) moves new taken.2
    ∙ ap (λ t. with_all t (map tell (cut_contents pattern (traced_by (after c step) moves)))) taken.1
facts-taken tell pattern old c (Torn step within own ∷ moves) new taken =
    facts-taken tell pattern old (cut_by (cut_with 0 within own) c step) moves new taken

-- two cuts a step
cuts-long : (pattern : List ℕ) (done : List Traced) → length (cut_contents pattern done) ≡ 2 * length done
cuts-long pattern [] = refl
cuts-long pattern (t ∷ done) = let rest = cuts-long pattern done in omega (arith, rest)

-- the counts over the cuts of a script
pub counts-found : (s : Sides) (pattern : List ℕ) (done : List Traced) (t : Tally) → length done ≤ 262144
    → t ≡ with_all (tally_before s) (map (facts_of s) (cut_contents pattern done))
    → AreCounts s (cut_contents pattern done) t
counts-found s pattern done t few is =
    subst (AreCounts s (cut_contents pattern done)) (sym is)
    (counts-all s [] (cut_contents pattern done) (tally_before s)
    (let long = cuts-long pattern done in omega (arith, few, long)) (counts-none s))

-- the counts over the cuts of what a trace has
pub counts-of-trace : (c : Content) (cpu : Cpu) (events : List EventView) (pattern : List ℕ)
    (windows : List DataWindow) (loose : List ℕ) (t : Trace) (z : Content) (torn : List Step) (moves : List Move)
    (tally : Tally) → IsTraceOf c cpu events t → moves ≡ t.moves.items → z ≡ (state_of t.board).content
    → torn ≡ left_torn (trace c cpu events).moves
    → tally ≡ with_all
    (tally_before (record { first = c; last = z; torn = torn; cpu = cpu; windows = windows; loose = loose }))
    (map (facts_of (record { first = c; last = z; torn = torn; cpu = cpu; windows = windows; loose = loose }))
    (cut_contents pattern (traced_by c (moves_from moves))))
    → AreCounts (sides_of c cpu events windows loose) (script_cuts c cpu events pattern) tally
counts-of-trace c cpu events pattern windows loose t z torn moves tally is same end torn_is told =
    subst (λ (ts : List Step). AreCounts (record {
      first = c;
      last = (trace c cpu events).last;
      torn = ts;
      cpu = cpu;
      windows = windows;
      loose = loose;
    }) (cut_contents pattern (trace c cpu events).done) tally) torn_is
    (subst (λ (x : Content). AreCounts (record {
      first = c;
      last = x;
      torn = torn;
      cpu = cpu;
      windows = windows;
      loose = loose;
    }) (cut_contents pattern (trace c cpu events).done) tally) (end ∙ is.content)
    (subst (λ (ts : List Traced). AreCounts (record {
      first = c;
      last = z;
      torn = torn;
      cpu = cpu;
      windows = windows;
      loose = loose;
    }) (cut_contents pattern ts) tally) done_is
    (counts-found (record { first = c; last = z; torn = torn; cpu = cpu; windows = windows; loose = loose }) pattern
    (traced_by c (moves_from moves)) tally few told)))
  where
    done_is : traced_by c (moves_from moves) ≡ (trace c cpu events).done
    done_is = ap (λ ms. traced_by c (moves_from ms)) same ∙ is.steps

    few : length (traced_by c (moves_from moves)) ≤ 262144
    few =
        let long = ap (λ (ts : List Traced). length ts) done_is in
        let short = is.short in omega (arith, long, short)
