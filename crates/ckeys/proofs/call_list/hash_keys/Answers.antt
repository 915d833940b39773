use Rattle.std.proofs.Common.{◌≡◌, ◌<◌, ◌+◌, List, ◌∷◌, [], ◌++◌, rules, refl, sym, ap, subst, ◌∙◌, arith, length, get_or, take, append-nil}
use Rattle.std.proofs.lemmas.List.{length-map, take_all}
use Rattle.std.specs.Prelude.{IfOk, IfErr, OnOk, filter, false, string_bytes}
use Rattle.std.specs.List.{AllByRecursion, zip}
use Rattle.base_files.specs.Views.{FilesFail}
use Rattle.ckeys.specs.Calls.{PrintedCall, key_fault_by, printed_call, record_by}
use Rattle.ckeys_records.specs.Faults.{KeyCause}
use Rattle.ckeys.specs.Entries.{EntryInvariant, EntryPremises, asking, has_entry_key}
use Rattle.ckeys.specs.EntryTurns.{EntryTurn, KeyFine, KeyFrom, KeyRecorded}
use Rattle.ckeys_records.specs.Folders.{Settings}
use Rattle.ckeys.specs.HashCalls.{AreOwnKeys, AsksOver, IsKeyed, IsOwnKey, KeyAnswer, KeyRun, asking_among, call_view, printed_all, printed_at}
use Rattle.ckeys.specs.Hashers.{call_by}
use Rattle.ckeys_records.specs.Keys.{record_shape}
use Rattle.ckeys_records.specs.Views.{ToolFails}
use Rattle.ckeys_records.specs.Params.{is_cached}
use Rattle.ckeys_records.specs.Records.{FitsLength}
use Rattle.ckeys.specs.declared.call_list.HashCall.{HashCall}
use Rattle.ckeys.proofs.HashSteps.{all_more, asked_more, call_at_place, front_premises, map_more, mapped_more, no_records, rest_more, run_more, text_key, zipped_more}
use Rattle.ckeys.proofs.call_list.hash_keys.Goals as goal

pub loop-call-init : goal.loop-call-init
loop-call-init g c = record {
  count = search rules;
  room = search rules;
  rest = refl;
  keyed = tt;
  run = refl;
  records = λ earlier inv. subst (λ l. EntryInvariant g.H.HashState.digest_of c.args.config.now l (g.E.Store.shelf c.args.entries.now).held) (sym (append-nil earlier)) inv;
  own = λ earlier inv premises. tt;
}

pub loop-call-preserved : goal.loop-call-preserved
loop-call-preserved g c =
    let view = call_view g.I.CCompilerImpl g.F.Files g.T.Preprocessor in
    let digest_of = g.H.HashState.digest_of in
    let settings = c.args.config.now in
    let first = c.args.calls.now in
    let now = c.loop-call.calls in
    let i = c.loop-call.call-index in
    let rs = c.loop-call.answers.items in
    let inv = c.loop-call.invariant in
    let lt : i < length now = omega arith in
    let answer = c.generate_hash_key-answer.result in
    let e = c.generate_hash_key-answer.ensures in
    let new = c.generate_hash_key-answer.new in
    let pushed : c.push_reserved.new.self.items ≡ rs ++ answer ∷ [] = search rules in
    let d = c.call-item.result in
    let called : HashCall g.row.I.Denot g.row.F.Denot g.row.T.Denot = get_or now i d in
    let ended : HashCall g.row.I.Denot g.row.F.Denot g.row.T.Denot = record { hasher = called.hasher; dir = called.dir; env = called.env; moment = called.moment; files = new.files; tool = new.tool } in
    let place = c.place-place.result in
    let at_place = c.place-place.ensures in
    let p : PrintedCall = printed_at view settings called in
    let is : printed_call (view.tool.meaning called.tool) (call_by view.compiler.kind_of view.compiler.traits called.hasher place (view.files.tree called.files)) ≡ p =
    ap (printed_call (view.tool.meaning called.tool)) (call_at_place view.compiler.kind_of view.compiler.traits called.hasher place called.dir.now called.env.now called.moment settings (view.files.tree called.files) at_place.dir at_place.env at_place.moment at_place.config) in
    let old = (g.E.Store.shelf c.loop-call.entries).held in
    let kept = (g.E.Store.shelf new.entries).held in
    let from : IfOk answer (λ made. KeyFrom digest_of p old made.2 (string_bytes made.0)) = subst (λ q. IfOk answer (λ made. KeyFrom digest_of q old made.2 (string_bytes made.0))) is e.key in
    let on_file = FilesFail view.files called.files ended.files in
    let in_step = ToolFails view.tool called.tool ended.tool in
    let one : IsKeyed digest_of view settings called ended answer = record {
      shape = subst (λ q. IfOk answer (λ made. made.1 ≡ record_shape digest_of (record_by q))) is e.shape;
      of_text = text_key digest_of p old answer from;
      fine = subst (λ q. IfOk answer (λ made. KeyFine q made.2)) is e.fine;
      cause = subst (λ q. IfErr answer (KeyCause (key_fault_by q) on_file in_step)) is e.cause;
      runs = e.runs;
      until = e.until;
      idle = λ h. (e.idle h).0;
      plain = subst (λ q. has_entry_key q.call ≡ false → IfOk answer (λ made. made.2 ≡ false)) is e.plain;
      fit = subst (λ env. OnOk answer (AllByRecursion FitsLength (filter is_cached env))) at_place.env e.fit;
      untouched = e.untouched;
      compiles = e.compiles;
      hasher = refl;
      dir = refl;
      env = refl;
      moment = refl;
    } in
    let asked = printed_call (view.tool.meaning called.tool) (call_by view.compiler.kind_of view.compiler.traits called.hasher place (view.files.tree called.files)) in
    let Recorded : PrintedCall → Settings → Type 0 = λ q by. (earlier : List PrintedCall) → EntryInvariant digest_of by earlier old → EntryInvariant digest_of by (earlier ++ asking q) kept in
    let recorded : Recorded p settings = subst (λ q. Recorded q settings) is (subst (Recorded asked) at_place.config e.records) in
    let Owned : PrintedCall → Settings → Type 0 = λ q by. (earlier : List PrintedCall) → EntryInvariant digest_of by earlier old → EntryPremises digest_of (earlier ++ asking q) → IsOwnKey digest_of q answer in
    let owned : Owned p settings = subst (λ q. Owned q settings) is (subst (Owned asked) at_place.config e.own) in
    let before = take i (printed_all view settings first) in
    let after = take (i + 1) (printed_all view settings first) in
    let grown : (earlier : List PrintedCall) → earlier ++ asking_among after ≡ (earlier ++ asking_among before) ++ asking p =
    λ earlier. ap (λ l. earlier ++ asking_among l) (map_more first now rs i inv.rest lt inv.count (printed_at view settings) d) ∙ asked_more earlier before p in
    let begins = g.E.Store.shelf c.args.entries.now in
    let ends = g.E.Store.shelf new.entries in
    let over : AsksOver digest_of view settings (g.E.Store.shelf c.loop-call.entries) ends called ended answer = record {
      from = from;
      entries = subst (λ q. EntryTurn digest_of q (g.E.Store.shelf c.loop-call.entries) ends (view.tool.preprocessed called.tool) (view.tool.preprocessed ended.tool)) is e.entries;
      recorded = subst (λ q. IfOk answer (λ made. KeyRecorded digest_of q (g.E.Store.shelf c.loop-call.entries) ends made.2 (string_bytes made.0))) is e.recorded;
      unput = e.unput;
    } in
    let Keyed : (HashCall g.row.I.Denot g.row.F.Denot g.row.T.Denot × HashCall g.row.I.Denot g.row.F.Denot g.row.T.Denot) × KeyAnswer → Type 0 = λ x. IsKeyed digest_of view settings x.0.0 x.0.1 x.1 in
    let zipped = zipped_more first now rs i inv.rest lt inv.count d ended answer in
    record {
      count = search rules;
      room = search rules;
      rest = rest_more first now rs i inv.rest lt inv.count ended;
      keyed = rw pushed (subst (AllByRecursion Keyed) (sym zipped) (all_more Keyed (zip (zip (take i first) (take i now)) rs) ((called, ended), answer) inv.keyed one));
      run = rw pushed (subst (λ l. KeyRun digest_of view settings begins l ends) (sym zipped) (run_more digest_of view settings begins (g.E.Store.shelf c.loop-call.entries) ends (zip (zip (take i first) (take i now)) rs) called ended answer inv.run over));
      records = λ earlier meets. subst (λ l. EntryInvariant digest_of settings l kept) (sym (grown earlier)) (recorded (earlier ++ asking_among before) (inv.records earlier meets));
      own = λ earlier meets premises.
          let all = subst (EntryPremises digest_of) (grown earlier) premises in
          let front = front_premises digest_of (earlier ++ asking_among before) (asking p) all in
          rw pushed (mapped_more first now rs i inv.rest lt inv.count (printed_at view settings) (λ x. IsOwnKey digest_of x.0 x.1) d answer (inv.own earlier meets front) (owned (earlier ++ asking_among before) (inv.records earlier meets) all));
    }

pub returns-clause-records : goal.returns-clause-records
returns-clause-records g c earlier inv =
    let view = call_view g.I.CCompilerImpl g.F.Files g.T.Preprocessor in
    let whole = take_all c.loop-call.call-index (printed_all view c.args.config.now c.args.calls.now) (omega (arith, length-map c.args.calls.now (printed_at view c.args.config.now))) in
    subst (λ l. EntryInvariant g.H.HashState.digest_of c.args.config.now (earlier ++ asking_among l) (g.E.Store.shelf c.loop-call.entries).held) whole (c.loop-call.invariant.records earlier inv)

pub returns-clause-own : goal.returns-clause-own
returns-clause-own g c earlier inv premises =
    let view = call_view g.I.CCompilerImpl g.F.Files g.T.Preprocessor in
    let whole = take_all c.loop-call.call-index (printed_all view c.args.config.now c.args.calls.now) (omega (arith, length-map c.args.calls.now (printed_at view c.args.config.now))) in
    let own = c.loop-call.invariant.own earlier inv (subst (λ l. EntryPremises g.H.HashState.digest_of (earlier ++ asking_among l)) (sym whole) premises) in
    subst (λ l. AreOwnKeys g.H.HashState.digest_of l c.loop-call.answers.items) whole own

pub returns-clause-from_empty : goal.returns-clause-from_empty
returns-clause-from_empty g c empty premises = returns-clause-own g c [] (no_records g.H.HashState.digest_of c.args.config.now (g.E.Store.shelf c.args.entries.now) empty) premises
