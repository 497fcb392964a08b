-- The events that are left at an offset of a script.
use Rattle.std.proofs.Common.{ℕ, ◌≡◌, suc, ◌<◌, ◌≤◌, Bool, true, false, Result, Ok, Err, List, [], ◌∷◌, length, refl, sym, ◌∙◌, ap, subst, arith}
use Rattle.boot_script.specs.declared.event.ScriptFault.{ScriptFault}
use Rattle.boot_script.specs.declared.limits.TheConstants.{RECORD_LIMIT, SCRIPT_LIMIT}
use Rattle.boot_script.specs.Events.{EventView, End}
use Rattle.boot_script.specs.Reading.{event_at}
use Rattle.boot_script.specs.Scripts.{events_behind, events_from, events, events_read, script_events, is_end}
use Rattle.boot_script.specs.Judging.{AreRecords, IsEnded, IsScript}
use Rattle.boot_script.specs.Walking.{IsWalk, events_left}
use Rattle.boot_script.proofs.SpelledLemmas.{read-at, fault-at}
use Rattle.boot_script.proofs.FollowingLemmas.{end-is, next-events, end-events, fault-events}

events-more : (bytes : List ℕ) (at : ℕ) (e : EventView) (next : ℕ) → event_at bytes at ≡ Ok (e, next)
    → is_end e ≡ false → events_from bytes at ≡ events_behind (e ∷ []) (events_from bytes next)
events-more bytes at e next read more =
    let one = read-at bytes at e next read in
    next-events bytes at e one.0 more ∙ ap (λ n. events_behind (e ∷ []) (events_from bytes n)) (sym one.1)

events-end : (bytes : List ℕ) (at next : ℕ) → event_at bytes at ≡ Ok (End, next) → events_from bytes at ≡ Ok []
events-end bytes at next read = end-events bytes at End (read-at bytes at End next read).0 refl

events-ended : (bytes : List ℕ) (at : ℕ) (es : List EventView) (last next : ℕ) → AreRecords bytes at es last
    → event_at bytes last ≡ Ok (End, next) → events_from bytes at ≡ Ok es
events-ended bytes at [] last next same ends = ap (events_from bytes) (sym same) ∙ events-end bytes last next ends
events-ended bytes at (e ∷ es) last next (mid, reads, inside, before) ends =
    events-more bytes at e mid reads inside
    ∙ ap (λ r. events_behind (e ∷ []) r) (events-ended bytes mid es last next before ends)

-- the events of a script are read, and are few
pub script-read : (bytes : List ℕ) (is : IsScript bytes) → events bytes ≡ Ok is.ended.happened
script-read bytes is =
    let s = is.ended in events-ended bytes 0 s.happened s.last s.next s.before s.ends

pub script-events : (bytes : List ℕ) (is : IsScript bytes) → script_events bytes ≡ is.ended.happened
script-events bytes is = ap events_read (script-read bytes is)

pub events-read : (bytes : List ℕ) → IsScript bytes → events bytes ≡ Ok (script_events bytes)
events-read bytes is = script-read bytes is ∙ ap (λ es. Ok es) (sym (script-events bytes is))

pub few-records : (bytes : List ℕ) → IsScript bytes → length (script_events bytes) < RECORD_LIMIT
few-records bytes is =
    let same = ap (λ (es : List EventView). length es) (script-events bytes is) in
    let few = is.ended.few in omega (arith, same, few)

-- what was read at an offset is the first record from there on
same-first : (r : Result (EventView × ℕ) ScriptFault) (e f : EventView) (next mid : ℕ) → r ≡ Ok (e, next)
    → r ≡ Ok (f, mid) → (e ≡ f) × (next ≡ mid)
same-first r e f next mid a b =
    let c : ◌≡◌ {A = Result (EventView × ℕ) ScriptFault} (Ok (e, next)) (Ok (f, mid)) = sym a ∙ b in
    let p : ◌≡◌ {A = EventView × ℕ} (e, next) (f, mid) = cc in (ap (λ x. x.0) p, ap (λ x. x.1) p)

no-fault : (r : Result (EventView × ℕ) ScriptFault) (e : EventView) (next : ℕ) (fault : ScriptFault) → r ≡ Ok (e, next)
    → r ≡ Err fault → ⊥
no-fault r e next fault a b =
    let c : ◌≡◌ {A = Result (EventView × ℕ) ScriptFault} (Ok (e, next)) (Err fault) = sym a ∙ b in cc

-- before an end no fault stands
pub ended-no_fault : (most : ℕ) (bytes : List ℕ) (at : ℕ) (fault : ScriptFault) → IsEnded most bytes at
    → event_at bytes at ≡ Err fault → ⊥
ended-no_fault most bytes at fault s wrong = go s.happened s.before
  where
    go : (es : List EventView) → AreRecords bytes at es s.last → ⊥
    go [] same =
        no-fault (event_at bytes at) End s.next fault (ap (event_at bytes) (sym same) ∙ s.ends) wrong
    go (e ∷ es) (mid, reads, inside, before) = no-fault (event_at bytes at) e mid fault reads wrong

-- behind a record that is no end, an end still comes
ended-more : (bytes : List ℕ) (at : ℕ) (e : EventView) (next : ℕ) (es : List EventView) (last end_ : ℕ)
    → event_at bytes at ≡ Ok (e, next) → is_end e ≡ false → AreRecords bytes at es last
    → event_at bytes last ≡ Ok (End, end_) → (fs : List EventView) × (es ≡ e ∷ fs) × AreRecords bytes next fs last
ended-more bytes at e next [] last end_ is more same ends =
    let one = same-first (event_at bytes at) e End next end_ is (ap (event_at bytes) (sym same) ∙ ends) in
    let no : true ≡ false = sym (ap is_end one.0) ∙ more in cc
ended-more bytes at e next (f ∷ fs) last end_ is more (mid, reads, inside, before) ends =
    let one = same-first (event_at bytes at) e f next mid is reads in
    (fs, ap (λ x. x ∷ fs) (sym one.0), subst (λ n. AreRecords bytes n fs last) (sym one.1) before)

pub walk-more : (bytes : List ℕ) (at : ℕ) (e : EventView) (next : ℕ) → event_at bytes at ≡ Ok (e, next)
    → is_end e ≡ false → next ≤ length bytes → IsWalk bytes at → IsWalk bytes next
walk-more bytes at e next is more inside walk =
    let s = walk.ended in
    let rest = ended-more bytes at e next s.happened s.last s.next is more s.before s.ends in record {
      short = walk.short;
      inside = inside;
      most = suc (length rest.0);
      ended = record {
        happened = rest.0;
        last = s.last;
        next = s.next;
        few = omega arith;
        before = rest.2;
        ends = s.ends;
      };
    }

pub walk-first : (bytes : List ℕ) → IsScript bytes → IsWalk bytes 0
walk-first bytes is = record { short = is.short; inside = omega arith; most = RECORD_LIMIT; ended = is.ended }

pub left-first : (bytes : List ℕ) (at : ℕ) (e : EventView) (next : ℕ) → event_at bytes at ≡ Ok (e, next)
    → is_end e ≡ false → IsWalk bytes next → events_left bytes at ≡ e ∷ events_left bytes next
left-first bytes at e next is more walk =
    let s = walk.ended in
    let rest = events-ended bytes next s.happened s.last s.next s.before s.ends in
    ap events_read (events-more bytes at e next is more ∙ ap (λ r. events_behind (e ∷ []) r) rest)
    ∙ ap (λ r. e ∷ events_read r) (sym rest)

pub left-end : (bytes : List ℕ) (at : ℕ) (e : EventView) (next : ℕ) → event_at bytes at ≡ Ok (e, next)
    → is_end e ≡ true → events_left bytes at ≡ []
left-end bytes at e next is last =
    ap events_read (events-end bytes at next (is ∙ ap (λ x. Ok (x, next)) (end-is e last)))

-- a walk goes on behind an event that is no end
pub record GoesOn (bytes : List ℕ) (at : ℕ) (e : EventView) (next : ℕ) : Type 0 where
  pub walk : IsWalk bytes next
  pub first : events_left bytes at ≡ e ∷ events_left bytes next
  pub fewer : length (events_left bytes next) < length (events_left bytes at)

pub goes-on : (bytes : List ℕ) (at : ℕ) (e : EventView) (next : ℕ) → event_at bytes at ≡ Ok (e, next)
    → is_end e ≡ false → next ≤ length bytes → IsWalk bytes at → GoesOn bytes at e next
goes-on bytes at e next is more inside walk =
    let rest = walk-more bytes at e next is more inside walk in
    let first = left-first bytes at e next is more rest in
    let long = ap (λ (es : List EventView). length es) first in
    record { walk = rest; first = first; fewer = omega (arith, long) }

ok-only : (r : Result (List EventView) ScriptFault) (es fs : List EventView) → r ≡ Ok es → r ≡ Ok fs → es ≡ fs
ok-only r es fs a b = cc

behind-ok : (e : EventView) (r : Result (List EventView) ScriptFault) (es : List EventView)
    → events_behind (e ∷ []) r ≡ Ok es → (fs : List EventView) × (r ≡ Ok fs) × (es ≡ e ∷ fs)
behind-ok e (Ok fs) es is = (fs, refl, ok-only (Ok es) es (e ∷ fs) refl (sym is))
behind-ok e (Err f) es is = absurd (cc)

-- events that are read are those of records before an end
record IsReached (bytes : List ℕ) (at : ℕ) (es : List EventView) : Type 0 where
  last : ℕ
  next : ℕ
  before : AreRecords bytes at es last
  ends : event_at bytes last ≡ Ok (End, next)

reached-end : (bytes : List ℕ) (at : ℕ) (es : List EventView) (e : EventView) (next : ℕ)
    → events_from bytes at ≡ Ok es → event_at bytes at ≡ Ok (e, next) → is_end e ≡ true → IsReached bytes at es
reached-end bytes at es e next read is last =
    let ends = is ∙ ap (λ x. Ok (x, next)) (end-is e last) in
    let none : es ≡ [] = ok-only (events_from bytes at) es [] read (events-end bytes at next ends) in record {
      last = at;
      next = next;
      before = subst (λ fs. AreRecords bytes at fs at) (sym none) refl;
      ends = ends;
    }

reached-more : (bytes : List ℕ) (at : ℕ) (es fs : List EventView) (e : EventView) (next : ℕ) → es ≡ e ∷ fs
    → event_at bytes at ≡ Ok (e, next) → is_end e ≡ false → IsReached bytes next fs → IsReached bytes at es
reached-more bytes at es fs e next same is more rest = record {
  last = rest.last;
  next = rest.next;
  before = subst (λ gs. AreRecords bytes at gs rest.last) (sym same) (next, is, more, rest.before);
  ends = rest.ends;
}

by-record : (bytes : List ℕ) (at : ℕ) (es : List EventView) → events_from bytes at ≡ Ok es
    → ((next : ℕ) (fs : List EventView) (e : EventView) → es ≡ e ∷ fs → events_from bytes next ≡ Ok fs
    → IsReached bytes next fs)
    → (r : Result (EventView × ℕ) ScriptFault) → event_at bytes at ≡ r → IsReached bytes at es
by-record bytes at es read rest (Err f) wrong =
    let none = fault-events bytes at f (fault-at bytes at f wrong) in
    let no : ◌≡◌ {A = Result (List EventView) ScriptFault} (Ok es) (Err f) = sym read ∙ none in cc
by-record bytes at es read rest (Ok p) is = by_end (is_end p.0) refl
  where
    by_end : (b : Bool) → is_end p.0 ≡ b → IsReached bytes at es
    by_end true last = reached-end bytes at es p.0 p.1 read is last
    by_end false more =
        let b = behind-ok p.0 (events_from bytes p.1) es (sym (events-more bytes at p.0 p.1 is more) ∙ read) in
        reached-more bytes at es b.0 p.0 p.1 b.2 is more (rest p.1 b.0 p.0 b.2 b.1)

reached : (bytes : List ℕ) (at : ℕ) (es : List EventView) → events_from bytes at ≡ Ok es → IsReached bytes at es
reached bytes at [] read =
    by-record bytes at [] read (λ next fs e same others. absurd (cc)) (event_at bytes at) refl
reached bytes at (x ∷ xs) read =
    by-record bytes at (x ∷ xs) read
    (λ next fs e same others.
    let tail : xs ≡ fs = cc in
    subst (λ gs. IsReached bytes next gs) tail
    (reached bytes next xs (others ∙ ap (λ gs. Ok gs) (sym tail))))
    (event_at bytes at) refl

-- bytes that are read without a fault, within the limits, are a script
pub few-events : (bytes : List ℕ) (es : List EventView) → length bytes ≤ SCRIPT_LIMIT → events bytes ≡ Ok es
    → length es < RECORD_LIMIT → IsScript bytes
few-events bytes es short read few =
    let r = reached bytes 0 es read in record {
      short = short;
      ended = record { happened = es; last = r.last; next = r.next; few = few; before = r.before; ends = r.ends };
    }
