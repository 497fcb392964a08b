use Rattle.std.proofs.Common.{◌≡◌, ◌+◌, Some, None, arith, ap, subst, sym, ◌∙◌}
use Rattle.std.proofs.lemmas.Result.{err_from_is_err_and}
use Rattle.block_codec.specs.Blocks.{block_words}
use Rattle.load_map.specs.Loads.{entries_of, entry_count, is_absolute}
use Rattle.load_map.specs.Reading.{load_of, load_fault}
use Rattle.load_map.proofs.SoundLoadLemmas.{length-entries}
use Rattle.load_map.proofs.EntryLemmas.{sound-next, loads-next, loads-all, loads-fault}
use Rattle.load_map.proofs.reading.read_entries.Goals as goal

pub returns-in_err-load : goal.returns-in_err-load
returns-in_err-load c =
    let s = c.args.setting.now in
    let b = c.args.block.now in
    let absolute = is_absolute c.args.item.now in
    let entries = entries_of (block_words b) c.args.item.now in
    let entry = c.entry_in-entry.result in
    let given : c.load_of.result ≡ load_of s absolute entry = c.load_of.ensures
    ∙ ap (λ a. load_of s a entry) c.is_absolute-absolute.ensures in
    let p = err_from_is_err_and c.from_residual.result c.from_residual.ensures.1 in
    let fault : load_fault s b c.loop-i.i (load_of s absolute entry) ≡ Some (p.0) =
    subst (λ o. load_fault s b c.loop-i.i o ≡ Some (p.0)) given (c.in_err-load.ensures.err
    ∙ ap (λ f. Some f) (sym (p.2))) in
    rw (p.1) (loads-fault s b absolute entries c.loop-i.i entry (p.0) c.loop-i.invariant.sound
    c.entry_in-entry.ensures fault)

pub loop-i-preserved : goal.loop-i-preserved
loop-i-preserved c =
    let s = c.args.setting.now in
    let b = c.args.block.now in
    let absolute = is_absolute c.args.item.now in
    let entries = entries_of (block_words b) c.args.item.now in
    let entry = c.entry_in-entry.result in
    let given : c.load_of.result ≡ load_of s absolute entry = c.load_of.ensures
    ∙ ap (λ a. load_of s a entry) c.is_absolute-absolute.ensures in
    let none : load_fault s b c.loop-i.i (load_of s absolute entry) ≡ None =
    subst (λ o. load_fault s b c.loop-i.i o ≡ None) given c.in_ok-load.ensures.sound in
    record {
      sound = sound-next s b absolute entries c.loop-i.i entry c.loop-i.invariant.sound c.entry_in-entry.ensures none;
      so_far = rw c.push.ensures.items (loads-next s b absolute entries c.loop-i.i entry c.in_ok-load.load
          c.loop-i.loads.items
          c.loop-i.invariant.so_far c.entry_in-entry.ensures (sym given ∙ c.in_ok-load.ensures.ok));
      few = let long = c.push.ensures.len in omega (arith, long, c.loop-i.invariant.few);
    }

pub returns : goal.returns
returns c =
    let s = c.args.setting.now in
    let b = c.args.block.now in
    let absolute = is_absolute c.args.item.now in
    let entries = entries_of (block_words b) c.args.item.now in
    let long = length-entries (block_words b) (c.args.item.now.first + 1) (entry_count c.args.item.now) in
    let end = c.loop-i-test.false in
    loads-all s b absolute entries c.loop-i.i c.loop-i.loads.items (omega (arith, long, end)) c.loop-i.invariant.sound
    c.loop-i.invariant.so_far
