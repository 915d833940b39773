use Rattle.std.proofs.Common.{◌≡◌, List, ◌++◌, length, vec_capacity, take, drop}
use Rattle.std.specs.List.{zip}
use Rattle.ckeys.specs.Calls.{PrintedCall}
use Rattle.ckeys.specs.Entries.{EntryInvariant, EntryPremises}
use Rattle.ckeys.specs.HashCalls.{AreKeyed, AreOwnKeys, KeyRun, asking_among, call_view, printed_all}
use Rattle.ckeys.proofs.call_list.hash_keys.Given as goal

-- what is said of all calls holds of those so far, and those to come are as they were
abbrev pub invariant-loop-call : goal.invariant-loop-call
invariant-loop-call g l =
    let view = call_view g.I.CCompilerImpl g.F.Files g.T.Preprocessor in
    let digest_of = g.H.HashState.digest_of in
    let settings = l.config in
    let printed = take l.call-index (printed_all view settings l.fn.calls) in
    let held = (g.E.Store.shelf l.fn.entries).held in
    record {
      count : length l.answers.items ≡ l.call-index;
      room : vec_capacity l.answers ≡ length l.fn.calls;
      rest : drop l.call-index l.calls ≡ drop l.call-index l.fn.calls;
      keyed : AreKeyed digest_of view settings (take l.call-index l.fn.calls) (take l.call-index l.calls) l.answers.items;
      run : KeyRun digest_of view settings (g.E.Store.shelf l.fn.entries) (zip (zip (take l.call-index l.fn.calls) (take l.call-index l.calls)) l.answers.items) (g.E.Store.shelf l.entries);
      records : (earlier : List PrintedCall) → EntryInvariant digest_of settings earlier held → EntryInvariant digest_of settings (earlier ++ asking_among printed) (g.E.Store.shelf l.entries).held;
      own : (earlier : List PrintedCall) → EntryInvariant digest_of settings earlier held → EntryPremises digest_of (earlier ++ asking_among printed) → AreOwnKeys digest_of printed l.answers.items;
    }
