-- Runs, call by call.
use Rattle.std.proofs.Common.{◌≡◌, ℕ, zero, suc, ℤ, pos, Bool, true, false, ◌&&◌, if◌then◌else◌, ◌⊎◌, List, [], ◌∷◌, ◌++◌, length, Option, None, Some, IsSome, Result, Ok, Err, IfOk, inl, inr, refl, sym, ap, subst, ◌∙◌, map, append_assoc, append-nil, arith, take, drop, get_or, ◌<◌, ◌+◌, add-zero}
use Rattle.std.proofs.Math.ListN.{set}
use Rattle.std.proofs.Math.Seq.{drop-drop}
use Rattle.std.proofs.lemmas.List.{take_more, take_more_set, take-map, map-append, get_or-drop, get_or-map, drop-set-lt, length-drop, length-map, length-take-le}
use Rattle.std.proofs.lemmas.List.Elements.{Contains-append_left}
use Rattle.base_files.specs.Tree.{Tree, contents_at}
use Rattle.std.specs.Prelude.{is_none}
use Rattle.std.specs.List.{AllByRecursion, Contains}
use Rattle.std.specs.Option.{option_map}
use Rattle.std.specs.Ordering.{int_eq}
use Rattle.base_files.specs.Bytes.{Bytes, ticked}
use Rattle.ckeys_base.specs.Shelf.{IsEmpty, Shelf}
use Rattle.ckeys.specs.Calls.{KeyCall, PrintedCall, printed_call, extra_paths, input_path, key_fault_by, missing_input, needs_preprocessing, text_fault_by}
use Rattle.ckeys_records.specs.Faults.{first_missing, or_else, preprocess_fault_of, read_fault_of}
use Rattle.ckeys.specs.Entries.{AreTrue, EntryInvariant, EntryPremises, Held, IsHashedAmong, asking, has_entry_key, is_told}
use Rattle.ckeys.specs.EntryTurns.{EntryTurn}
use Rattle.ckeys_records.specs.Folders.{Settings}
use Rattle.wrap_keys.specs.CallRecords.{key_of}
use Rattle.ckeys_records.specs.Meaning.{Meaning, names_of}
use Rattle.ckeys_include_records.specs.declared.entry_key.EntryKey.{EntryKey}
use Rattle.ckeys_include_records.specs.Records.{Record}
use Rattle.ckeys_records.specs.declared.fault.Fault.TheVariants.{PreprocessFailed, Read}
use Rattle.ckeys_records.specs.declared.fault.Fault.{Fault}
use Rattle.rustc_compiler.specs.Compiler.{Rustc}
use Rattle.wrap_base.specs.Commands.{CFound, NamedBy, by_c, by_rustc, named_by, words_at}
use Rattle.wrap_keys.specs.RustVerdicts as rust
use Rattle.wrap_keys.specs.RustVerdicts.{RustJudgement, rust_verdict_of}
use Rattle.wrap_keys.specs.Verdicts.{Judgement, Why, asks, passes, verdict_of}
use Rattle.wrap_base.specs.declared.request.Request.{Request}
use Rattle.wrap_keys.specs.Account.{Account, passed, worked, Work, Pairs, account_at, account_by, account_named, asked_by, call_at, rust_account_by, work_at, collected, all, direct_calls, direct_of, placed, why_passed}
use Rattle.wrap_keys.specs.Answers.{Answers, SaysPassed}
use Rattle.wrap_keys.specs.Asking.{EntriesBy, EntriesTurn, IsOfCall, IsOfOneCall, RecordsAreTrue, Shelves}
use Rattle.wrap_keys.specs.Sizes.{is_within, size_in, size_of}
use Rattle.wrap_keys.specs.StoreKeys.{store_key_of, IsHashedDirect, IsHashedIn, Premises, Invariant}
use Rattle.wrap_keys.specs.Turn.{StoreTurn}
use Rattle.base_files.specs.Views.{FilesFail, FilesView}
use Rattle.ckeys_records.specs.Views.{ToolFails, ToolView}
use Rattle.wrap_keys.specs.Whole.{Ticks, CallTurn, BothRun, SessionRun, Served, Loses, Run, accounts_of, AllAnswer, IsFresh, IsFreshWithin, HaveOneRecord, OneFresh, TellsDependencies, outputs_in, Agree, SameOutputs, served, Each, IsAnswered, SaysOwn, begin_of, end_of, served_at, accounts_at}
use Rattle.wrap_base.specs.declared.answer.Answer.{Answer}
use Rattle.wrap_base.specs.declared.answer.Answer.TheVariants.{Pass, Outputs}
use Rattle.wrap_base.specs.declared.answer.How.TheVariants.{Direct, Stored, Fresh}
use Rattle.wrap_base.specs.declared.call.Call.{Call}
use Rattle.wrap_base.specs.declared.store_key.StoreKey.{StoreKey}
use Rattle.wrap_keys.proofs.SizeLemmas.{size_placed}
use Rattle.wrap.specs.Serving.{KeepsHistories, RecordsAreOf}
use Rattle.wrap.proofs.CallSteps.{Tells, invariant_step, answers_step, one_key, says_own}

loses_nothing : {K V : Type 0} (s : Shelf K V) → Loses s s
loses_nothing s = record { within = λ q v h. h; kept = λ h. (h, λ q i. i) }

-- a run goes on by one call
pub run_more : (digest_of : Bytes → Bytes) (max_kept : Option ℕ) (settings : Settings) (old mid new : Shelves) (run : List Served) (s : Served) → SessionRun digest_of max_kept settings old run mid → CallTurn digest_of max_kept settings s.account mid new s.before s.after s.result → SessionRun digest_of max_kept settings old (run ++ s ∷ []) new
run_more digest_of max_kept settings old mid new [] s r turn = (new, subst (λ (begin : Shelves). CallTurn digest_of max_kept settings s.account begin new s.before s.after s.result) r turn, refl)
run_more digest_of max_kept settings old mid new (x ∷ run) s r turn = (r.0, r.1, run_more digest_of max_kept settings r.0 mid new run s r.2 turn)

-- a session's calls are a run in which nothing is lost between them
both_run : (digest_of : Bytes → Bytes) (max_kept : Option ℕ) (settings : Settings) (old new : Shelves) (run : List Served) → SessionRun digest_of max_kept settings old run new → BothRun digest_of max_kept settings old run new
both_run digest_of max_kept settings old new [] r = subst (λ (end : Shelves). Loses old.entries end.entries × Loses old.objects end.objects) (sym r) (loses_nothing old.entries, loses_nothing old.objects)
both_run digest_of max_kept settings old new (s ∷ run) r = (old, r.0, loses_nothing old.entries, loses_nothing old.objects, r.1, both_run digest_of max_kept settings r.0 new run r.2)

-- three lists that grow together
served_more : (bs : List (Account × Ticks)) (es : List Ticks) (rs : List (Result Answer Fault)) (b : Account × Ticks) (e : Ticks) (r : Result Answer Fault) → length bs ≡ length rs → length es ≡ length rs
    → served (bs ++ b ∷ []) (es ++ e ∷ []) (rs ++ r ∷ []) ≡ served bs es rs ++ record { account = b.0; before = b.1; after = e; result = r } ∷ []
served_more [] [] [] b e r h k = refl
served_more [] [] (q ∷ rs) b e r h k = absurd (omega arith)
served_more [] (f ∷ es) [] b e r h k = absurd (omega arith)
served_more [] (f ∷ es) (q ∷ rs) b e r h k = absurd (omega arith)
served_more (c ∷ bs) [] [] b e r h k = absurd (omega arith)
served_more (c ∷ bs) [] (q ∷ rs) b e r h k = absurd (omega arith)
served_more (c ∷ bs) (f ∷ es) [] b e r h k = absurd (omega arith)
served_more (c ∷ bs) (f ∷ es) (q ∷ rs) b e r h k = ap (λ l. record { account = c.0; before = c.1; after = f; result = q } ∷ l) (served_more bs es rs b e r (omega arith) (omega arith))

-- the accounts of calls that were all answered
accounts_of-served : (bs : List (Account × Ticks)) (es : List Ticks) (rs : List (Result Answer Fault)) → length es ≡ length bs → length rs ≡ length bs → accounts_of (served bs es rs) ≡ map (λ b. b.0) bs
accounts_of-served [] es rs h k = refl
accounts_of-served (b ∷ bs) [] rs h k = absurd (omega arith)
accounts_of-served (b ∷ bs) (e ∷ es) [] h k = absurd (omega arith)
accounts_of-served (b ∷ bs) (e ∷ es) (r ∷ rs) h k = ap (λ l. b.0 ∷ l) (accounts_of-served bs es rs (omega arith) (omega arith))

cons_cases : {X : Type 0} (y : X) (xs : List X) (x : X) → Contains (y ∷ xs) x → (y ≡ x) ⊎ Contains xs x
cons_cases y xs x c = at c.0 c.1 c.2
  where
    at : (k : ℕ) → k < length (y ∷ xs) → get_or (y ∷ xs) k x ≡ x → (y ≡ x) ⊎ Contains xs x
    at zero p e = inl e
    at (suc k) p e = inr (k, omega arith, e)

contained_after : {X : Type 0} (y : X) (xs : List X) (x : X) → Contains xs x → Contains (y ∷ xs) x
contained_after y xs x c = (suc c.0, omega (arith, c.1), c.2)

append_cases : {X : Type 0} (xs ys : List X) (x : X) → Contains (xs ++ ys) x → Contains xs x ⊎ Contains ys x
append_cases [] ys x c = inr c
append_cases (y ∷ xs) ys x c = elim (cons_cases y (xs ++ ys) x c) [
  | inl same ↦ inl (0, omega arith, same)
  | inr later ↦ elim (append_cases xs ys x later) [
    | inl mine ↦ inl (contained_after y xs x mine)
    | inr other ↦ inr other
  ]
]

-- from nothing
empty_invariant : (digest_of : Bytes → Bytes) (s : Shelf StoreKey Pairs) → IsEmpty s → Invariant digest_of [] s.held
empty_invariant digest_of s empty k v h = let e = empty k in cc

-- the calls of a run that have entry keys
direct_append : (xs ys : List Account) → direct_calls (xs ++ ys) ≡ direct_calls xs ++ direct_calls ys
direct_append [] ys = refl
direct_append (x ∷ xs) ys = ap (λ l. asked_by (direct_of x) ++ l) (direct_append xs ys) ∙ sym (append_assoc (asked_by (direct_of x)) (direct_calls xs) (direct_calls ys))

direct_front : (xs ys : List Account) (p : PrintedCall) → Contains (direct_calls xs) p → Contains (direct_calls (xs ++ ys)) p
direct_front xs ys p h = subst (λ (l : List PrintedCall). Contains l p) (sym (direct_append xs ys)) (Contains-append_left (direct_calls xs) (direct_calls ys) p h)

-- a front of a run is assumed no more of
premises_front : (digest_of : Bytes → Bytes) (run more : List Account) → Premises digest_of (run ++ more) → Premises digest_of run
premises_front digest_of run more p = record {
  distinct = λ x y hx hy e. p.distinct x y
      (record { call = hx.call; among = Contains-append_left run more (worked hx.call) hx.among; is = hx.is })
      (record { call = hy.call; among = Contains-append_left run more (worked hy.call) hy.among; is = hy.is }) e;
  settled = λ a b ca cb fine fine_too same. p.settled a b (Contains-append_left run more (worked a) ca) (Contains-append_left run more (worked b) cb) fine fine_too same;
  reprinted = λ earlier now text names in_b in_p. p.reprinted earlier now text names (direct_front run more earlier in_b) (direct_front run more now in_p);
}

entry_front : (digest_of : Bytes → Bytes) (run more : List Account) → EntryPremises digest_of (direct_calls (run ++ more)) → EntryPremises digest_of (direct_calls run)
entry_front digest_of run more p = record {
  distinct = λ x y hx hy e. p.distinct x y
      (record { by = hx.by; among = direct_front run more hx.by hx.among; is = hx.is })
      (record { by = hy.by; among = direct_front run more hy.by hy.among; is = hy.is }) e;
  reprinted = λ earlier now text names in_b in_p. p.reprinted earlier now text names (direct_front run more earlier in_b) (direct_front run more now in_p);
}

-- what is assumed of a run is assumed of its calls that have entry keys
asked_in : (o : Option PrintedCall) (p : PrintedCall) → Contains (asked_by o) p → o ≡ Some p
asked_in None p h = absurd (omega (arith, h.1))
asked_in (Some q) p h = by (has_entry_key q.call) h
  where
    by : (b : Bool) → Contains (if b then q ∷ [] else []) p → Some q ≡ Some p
    by true h = elim (one_of h) [
      | inl same ↦ ap Some same
      | inr none ↦ absurd (omega (arith, none.1))
    ]
      where
        one_of : Contains (q ∷ []) p → (q ≡ p) ⊎ Contains [] p
        one_of c = cons_cases q [] p c
    by false h = absurd (omega (arith, h.1))

direct_in : (run : List Account) (p : PrintedCall) → Contains (direct_calls run) p → (w : Work) × Contains run (worked w) × (w.direct ≡ Some p)
direct_in [] p h = absurd (omega (arith, h.1))
direct_in (passed why ∷ run) p h = let it = direct_in run p h in (it.0, contained_after (passed why) run (worked it.0) it.1, it.2)
direct_in (worked w ∷ run) p h = elim (append_cases (asked_by w.direct) (direct_calls run) p h) [
  | inl mine ↦ (w, (0, omega (arith), refl), asked_in w.direct p mine)
  | inr later ↦ let it = direct_in run p later in (it.0, contained_after (worked w) run (worked it.0) it.1, it.2)
]

pub entry_premises : (digest_of : Bytes → Bytes) (run : List Account) → Premises digest_of run → EntryPremises digest_of (direct_calls run)
entry_premises digest_of run p = record { distinct = λ x y hx hy e. p.distinct x y (hashed x hx) (hashed y hy) e; reprinted = p.reprinted }
  where
    hashed : (bytes : Bytes) → IsHashedAmong digest_of (direct_calls run) bytes → IsHashedIn digest_of run bytes
    hashed bytes h =
        let it = direct_in run h.by h.among in
        record { call = it.0; among = it.1; is = inr (subst (λ (o : Option PrintedCall). IsHashedDirect digest_of o bytes) (sym it.2) h.is) }

loses_invariant : (digest_of : Bytes → Bytes) (earlier : List Account) (old new : Shelf StoreKey Pairs) → Loses old new → Invariant digest_of earlier old.held → Invariant digest_of earlier new.held
loses_invariant digest_of earlier old new l inv k v h = inv k v (l.within k v h)

-- all outputs that are answered in a run are the fresh ones
run_answers : (digest_of : Bytes → Bytes) (max_kept : Option ℕ) → Tells digest_of → (earlier : List Account) (old new : Shelf StoreKey Pairs) (run : List Served) → Run digest_of max_kept old run new → Invariant digest_of earlier old.held → Premises digest_of (earlier ++ accounts_of run) → AllAnswer run
run_answers digest_of max_kept tells earlier old new [] r inv p = tt
run_answers digest_of max_kept tells earlier old new (s ∷ run) r inv p =
    let begins = loses_invariant digest_of earlier old r.0 r.2 inv in
    let regrouped : earlier ++ accounts_of (s ∷ run) ≡ (earlier ++ s.account ∷ []) ++ accounts_of run = sym (append_assoc earlier (s.account ∷ []) (accounts_of run)) in
    let all = subst (Premises digest_of) regrouped p in (
      answers_step digest_of max_kept tells s.account r.0 r.1 s.before.compiled s.after.compiled s.result r.3.store r.3.fine earlier begins (premises_front digest_of (earlier ++ s.account ∷ []) (accounts_of run) all),
      run_answers digest_of max_kept tells (earlier ++ s.account ∷ []) r.1 new run r.4 (invariant_step digest_of max_kept s.account r.0 r.1 s.before.compiled s.after.compiled s.result r.3.store r.3.fine earlier begins) all,
    )

-- what is kept at the end was kept before
run_kept : (digest_of : Bytes → Bytes) (max_kept : Option ℕ) (old new : Shelf StoreKey Pairs) (run : List Served) → Run digest_of max_kept old run new → new.kept ≡ true → old.kept ≡ true
run_kept digest_of max_kept old new [] r h = (r.kept h).0
run_kept digest_of max_kept old new (s ∷ run) r h = (r.2.kept ((r.3.store.kept (run_kept digest_of max_kept r.1 new run r.4 h)).was)).0

never_ticks : (n : ℕ) → n ≡ ticked n → ⊥
never_ticks n e = omega arith

-- a fresh answer comes only where the key was lacked
lacked_before : (digest_of : Bytes → Bytes) (max_kept : Option ℕ) (w : Work) (old new : Shelf StoreKey Pairs) (before after : ℕ) (result : Result Answer Fault) → StoreTurn digest_of max_kept (worked w) old new before after result → new.kept ≡ true → IsFresh result → IsSome (old.held (store_key_of digest_of w)) → ⊥
lacked_before digest_of max_kept w old new before after (Ok (Pass reason)) turn kept fresh key = fresh
lacked_before digest_of max_kept w old new before after (Ok (Outputs map Direct dep_info)) turn kept fresh key = fresh
lacked_before digest_of max_kept w old new before after (Ok (Outputs map Stored dep_info)) turn kept fresh key = fresh
lacked_before digest_of max_kept w old new before after (Err fault) turn kept fresh key = fresh
lacked_before digest_of max_kept w old new before after (Ok (Outputs map Fresh dep_info)) turn kept fresh key =
    elim turn.told.2.miss.lacked [
      | inl none ↦ let some = rw none at key in cc
      | inr moved ↦ never_ticks old.forgets (sym (turn.kept kept).steady ∙ moved)
    ]

-- after a fresh answer whose size is within the limit the key is there
held_after : (digest_of : Bytes → Bytes) (max_kept : Option ℕ) (w : Work) (old new : Shelf StoreKey Pairs) (before after : ℕ) (result : Result Answer Fault) → StoreTurn digest_of max_kept (worked w) old new before after result → new.kept ≡ true → IsFreshWithin max_kept result → IsSome (new.held (store_key_of digest_of w))
held_after digest_of max_kept w old new before after (Ok (Pass reason)) turn kept fresh = absurd fresh
held_after digest_of max_kept w old new before after (Ok (Outputs map Direct dep_info)) turn kept fresh = absurd fresh
held_after digest_of max_kept w old new before after (Ok (Outputs map Stored dep_info)) turn kept fresh = absurd fresh
held_after digest_of max_kept w old new before after (Err fault) turn kept fresh = absurd fresh
held_after digest_of max_kept w old new before after (Ok (Outputs map Fresh dep_info)) turn kept fresh =
    let size : size_of turn.told.0 ≡ size_in map = sym (ap size_in turn.told.1 ∙ size_placed w.outputs turn.told.0) in
    rw (turn.told.2.holds kept (ap (is_within max_kept) size ∙ fresh)) refl

-- while the key is there, no call of that record is answered afresh
none_fresh : (digest_of : Bytes → Bytes) (max_kept : Option ℕ) (w : Work) (old new : Shelf StoreKey Pairs) (run : List Served) → Run digest_of max_kept old run new → new.kept ≡ true → IsSome (old.held (store_key_of digest_of w))
    → AllByRecursion (λ t. IsFresh t.result → HaveOneRecord (worked w) t.account → ⊥) run
none_fresh digest_of max_kept w old new [] r h key = tt
none_fresh digest_of max_kept w old new (s ∷ run) r h key =
    let mid_kept = run_kept digest_of max_kept r.1 new run r.4 h in
    let still = r.3.store.kept mid_kept in
    let begin : IsSome (r.0.held (store_key_of digest_of w)) = (r.2.kept still.was).1 _ key in
    let mid : IsSome (r.1.held (store_key_of digest_of w)) = still.keys _ begin in (
      λ fresh both. later s.account r.3.store mid_kept fresh both begin,
      none_fresh digest_of max_kept w r.1 new run r.4 h mid,
    )
  where
    later : (a : Account) {old new : Shelf StoreKey Pairs} {before after : ℕ} {result : Result Answer Fault} → StoreTurn digest_of max_kept a old new before after result → new.kept ≡ true → IsFresh result → HaveOneRecord (worked w) a → IsSome (old.held (store_key_of digest_of w)) → ⊥
    later (passed why) turn kept fresh both key = both
    later (worked v) {old} {new} {before} {after} {result} turn kept fresh both key = lacked_before digest_of max_kept v old new before after result turn kept fresh (subst (λ k. IsSome (old.held k)) (one_key digest_of w v both) key)

-- of the answers whose records are equal, and whose size is within the limit, at most one is fresh
pub run_once : (digest_of : Bytes → Bytes) (max_kept : Option ℕ) (old new : Shelf StoreKey Pairs) (run : List Served) → Run digest_of max_kept old run new → new.kept ≡ true → OneFresh max_kept run
run_once digest_of max_kept old new [] r h = tt
run_once digest_of max_kept old new (s ∷ run) r h =
    let mid_kept = run_kept digest_of max_kept r.1 new run r.4 h in
    (λ fresh. first s.account r.3.store mid_kept fresh, run_once digest_of max_kept r.1 new run r.4 h)
  where
    none_of : (why : Why) (rest : List Served) → AllByRecursion (λ t. IsFresh t.result → HaveOneRecord (passed why) t.account → ⊥) rest
    none_of why [] = tt
    none_of why (t ∷ rest) = (λ fresh both. both, none_of why rest)

    first : (a : Account) {begin : Shelf StoreKey Pairs} {before after : ℕ} {result : Result Answer Fault} → StoreTurn digest_of max_kept a begin r.1 before after result → r.1.kept ≡ true → IsFreshWithin max_kept result → AllByRecursion (λ t. IsFresh t.result → HaveOneRecord a t.account → ⊥) run
    first (passed why) turn kept fresh = none_of why run
    first (worked w) {begin} {before} {after} {result} turn kept fresh = none_fresh digest_of max_kept w r.1 new run r.4 h (held_after digest_of max_kept w begin r.1 before after result turn kept fresh)

-- a front of a mapped list, one more
front_more : {C A : Type 0} (f : C → A) (first now : List C) (i : ℕ) (d : C) → drop i now ≡ drop i first → i < length now → take (i + 1) (map f first) ≡ take i (map f first) ++ f (get_or now i d) ∷ []
front_more f first now i d rest lt =
    let long : length (drop i now) ≡ length (drop i first) = ap length rest in
    let lt' : i < length first = omega (arith, length-drop i now, length-drop i first) in
    let here = rw add-zero at (get_or-drop i now 0 d) in
    let there = rw add-zero at (get_or-drop i first 0 d) in
    let same : get_or now i d ≡ get_or first i d = sym here ∙ ap (λ l. get_or l 0 d) rest ∙ there in
    let item : get_or (map f first) i (f d) ≡ f (get_or now i d) = get_or-map f first i d (f d) lt' ∙ ap f (sym same) in
    take_more (map f first) i (f d) (omega (arith, length-map first f)) ∙ ap (λ x. take i (map f first) ++ x ∷ []) item

set_more : {C A : Type 0} (f : C → A) (now : List C) (i : ℕ) (c : C) → i < length now → take (i + 1) (map f (set now i c)) ≡ take i (map f now) ++ f c ∷ []
set_more f now i c lt = take-map f (i + 1) (set now i c) ∙ ap (map f) (take_more_set now i c lt) ∙ map-append f (take i now) (c ∷ []) ∙ ap (λ l. l ++ f c ∷ []) (sym (take-map f i now))

-- the calls that were served, one more
pub one_more : {C : Type 0} (f : C → Account × Ticks) (h : C → Ticks) (first now : List C) (rs : List (Result Answer Fault)) (i : ℕ) (d c : C) (r : Result Answer Fault) → drop i now ≡ drop i first → i < length now → length rs ≡ i
    → served (take (i + 1) (map f first)) (take (i + 1) (map h (set now i c))) (rs ++ r ∷ []) ≡ served (take i (map f first)) (take i (map h now)) rs ++ record { account = (f (get_or now i d)).0; before = (f (get_or now i d)).1; after = h c; result = r } ∷ []
one_more f h first now rs i d c r rest lt len =
    let long : length (drop i now) ≡ length (drop i first) = ap length rest in
    let lt' : i < length first = omega (arith, length-drop i now, length-drop i first) in
    let level : length (take i (map f first)) ≡ length rs = length-take-le i (map f first) (omega (arith, length-map first f)) ∙ sym len in
    let level' : length (take i (map h now)) ≡ length rs = length-take-le i (map h now) (omega (arith, length-map now h)) ∙ sym len in
    rw (front_more f first now i d rest lt, set_more h now i c lt) (served_more (take i (map f first)) (take i (map h now)) rs (f (get_or now i d)) (h c) r level level')

module _ {A B : Type 0} (P : A → A → B → Type 0) where
  -- what holds of each holds of one more
  each_more : (bs es : List A) (rs : List B) (b e : A) (r : B) → length bs ≡ length rs → length es ≡ length rs → Each P bs es rs → P b e r → Each P (bs ++ b ∷ []) (es ++ e ∷ []) (rs ++ r ∷ [])
  each_more [] [] [] b e r h k held one = (one, tt)
  each_more [] [] (q ∷ rs) b e r h k held one = absurd (omega arith)
  each_more [] (f ∷ es) [] b e r h k held one = absurd (omega arith)
  each_more [] (f ∷ es) (q ∷ rs) b e r h k held one = absurd (omega arith)
  each_more (c ∷ bs) [] [] b e r h k held one = absurd (omega arith)
  each_more (c ∷ bs) [] (q ∷ rs) b e r h k held one = absurd (omega arith)
  each_more (c ∷ bs) (f ∷ es) [] b e r h k held one = absurd (omega arith)
  each_more (c ∷ bs) (f ∷ es) (q ∷ rs) b e r h k held one = (held.0, each_more bs es rs b e r (omega arith) (omega arith) held.1 one)

  -- likewise of a list whose items are replaced one by one
  pub each_set : (first now : List A) (rs : List B) (i : ℕ) (d c : A) (r : B) → drop i now ≡ drop i first → i < length now → length rs ≡ i
      → Each P (take i first) (take i now) rs → P (get_or now i d) c r → Each P (take (i + 1) first) (take (i + 1) (set now i c)) (rs ++ r ∷ [])
  each_set first now rs i d c r rest lt len held one =
      let long : length (drop i now) ≡ length (drop i first) = ap length rest in
      let lt' : i < length first = omega (arith, length-drop i now, length-drop i first) in
      let here = rw add-zero at (get_or-drop i now 0 d) in
      let there = rw add-zero at (get_or-drop i first 0 d) in
      let same : get_or now i d ≡ get_or first i d = sym here ∙ ap (λ l. get_or l 0 d) rest ∙ there in
      let level : length (take i first) ≡ length rs = length-take-le i first (omega arith) ∙ sym len in
      let level' : length (take i now) ≡ length rs = length-take-le i now (omega arith) ∙ sym len in
      rw (take_more first i d lt', take_more_set now i c lt) (each_more (take i first) (take i now) rs (get_or first i d) c r level level' held (subst (λ x. P x c r) same one))

-- what is left after one more
pub rest_more : {C : Type 0} (first now : List C) (i : ℕ) (c : C) → drop i now ≡ drop i first → drop (i + 1) (set now i c) ≡ drop (i + 1) first
rest_more first now i c rest = drop-set-lt (i + 1) now i c (omega arith) ∙ sym (drop-drop 1 i now) ∙ ap (drop 1) rest ∙ drop-drop 1 i first

pub ok_both : {A E : Type 0} (r : Result A E) (P Q R : A → Type 0) → ((x : A) → P x → Q x → R x) → IfOk r P → IfOk r Q → IfOk r R
ok_both (Ok x) P Q R f p q = f x p q
ok_both (Err e) P Q R f p q = tt

accounts_begin : {F T : Type 0} (settings : Settings) (files : FilesView F) (tool : ToolView T) (calls : List (Call F T)) → map (λ b. b.0) (map (begin_of settings files tool) calls) ≡ accounts_at settings files tool calls
accounts_begin settings files tool [] = refl
accounts_begin settings files tool (c ∷ calls) = ap (λ l. account_at (tool.meaning c.tool) (files.tree c.files) settings c.request ∷ l) (accounts_begin settings files tool calls)

-- the accounts of calls that were served
served_accounts : {F T : Type 0} (settings : Settings) (files : FilesView F) (tool : ToolView T) (old new : List (Call F T)) (results : List (Result Answer Fault)) → length results ≡ length old → length new ≡ length old → accounts_of (served_at settings files tool old new results) ≡ accounts_at settings files tool old
served_accounts settings files tool old new results len same = accounts_of-served (map (begin_of settings files tool) old) (map (end_of settings files tool) new) results (omega (arith, length-map old (begin_of settings files tool), length-map new (end_of settings files tool))) (omega (arith, length-map old (begin_of settings files tool))) ∙ accounts_begin settings files tool old

-- from an empty store all outputs that are answered in a run are the fresh ones
pub served_outputs : (digest_of : Bytes → Bytes) (max_kept : Option ℕ) → Tells digest_of → {F T : Type 0} (settings : Settings) (files : FilesView F) (tool : ToolView T) (shelf_old shelf_new : Shelf StoreKey Pairs) (old new : List (Call F T)) (results : List (Result Answer Fault)) → length results ≡ length old → length new ≡ length old
    → Run digest_of max_kept shelf_old (served_at settings files tool old new results) shelf_new → IsEmpty shelf_old → Premises digest_of (accounts_at settings files tool old) → AllAnswer (served_at settings files tool old new results)
served_outputs digest_of max_kept tells settings files tool shelf_old shelf_new old new results len same run empty premises =
    let accounts = served_accounts settings files tool old new results len same in
    run_answers digest_of max_kept tells [] shelf_old shelf_new (served_at settings files tool old new results) run (empty_invariant digest_of shelf_old empty) (subst (Premises digest_of) (sym accounts) premises)

-- what the records of earlier calls say
abbrev pub Agree_on : (Bytes → Bytes) → Type 0
Agree_on digest_of = (settings : Settings) (earlier : List PrintedCall) (p : PrintedCall) (held : Held) → p.call.settings ≡ settings → EntryInvariant digest_of settings earlier held → EntryPremises digest_of (earlier ++ asking p) → AreTrue digest_of p held

abbrev pub Stay_on : (Bytes → Bytes) → Type 0
Stay_on digest_of = (settings : Settings) (earlier : List PrintedCall) (p : PrintedCall) (old new : Shelf EntryKey Record) (before after : ℕ) → p.call.settings ≡ settings → EntryTurn digest_of p old new before after → EntryInvariant digest_of settings earlier old.held → EntryInvariant digest_of settings (earlier ++ asking p) new.held

direct_last : (earlier : List Account) (a : Account) → direct_calls (earlier ++ a ∷ []) ≡ direct_calls earlier ++ asked_by (direct_of a)
direct_last earlier a = direct_append earlier (a ∷ []) ∙ ap (λ l. direct_calls earlier ++ l) (append-nil (asked_by (direct_of a)))

configured : {settings : Settings} (a : Account) → IsOfOneCall settings a → (p : PrintedCall) → direct_of a ≡ Some p → p.call.settings ≡ settings
configured (passed why) own p h = cc
configured (worked w) own p h = (own p h).settled

-- the invariant of the records after a call
pub records_step : (digest_of : Bytes → Bytes) → Stay_on digest_of → (settings : Settings) (earlier : List Account) (a : Account) (old new : Shelf EntryKey Record) (before after : ℕ) → IsOfOneCall settings a → EntriesTurn digest_of a old new before after
    → EntryInvariant digest_of settings (direct_calls earlier) old.held → EntryInvariant digest_of settings (direct_calls (earlier ++ a ∷ [])) new.held
records_step digest_of stay settings earlier a old new before after own turn inv = subst (λ (l : List PrintedCall). EntryInvariant digest_of settings l new.held) (sym (direct_last earlier a)) (by (direct_of a) (configured a own) turn)
  where
    by : (o : Option PrintedCall) → ((p : PrintedCall) → o ≡ Some p → p.call.settings ≡ settings) → EntriesBy digest_of o old new before after → EntryInvariant digest_of settings (direct_calls earlier ++ asked_by o) new.held
    by None configured same = subst (λ (l : List PrintedCall). EntryInvariant digest_of settings l new.held) (sym (append-nil (direct_calls earlier))) (subst (λ (s : Shelf EntryKey Record). EntryInvariant digest_of settings (direct_calls earlier) s.held) (sym same) inv)
    by (Some p) configured turn = stay settings (direct_calls earlier) p old new before after (configured p refl) turn inv

or_else_none : (first second : Option Fault) (f : Fault) → ((g : Fault) → first ≡ Some g → g ≡ f → ⊥) → ((g : Fault) → second ≡ Some g → g ≡ f → ⊥) → or_else first second ≡ Some f → ⊥
or_else_none None second f one two h = two f h refl
or_else_none (Some g) second f one two h = one g refl (let same : g ≡ f = cc in same)

read_never : (o : Option Bytes) (status : ℤ) (g : Fault) → option_map Read o ≡ Some g → g ≡ PreprocessFailed status → ⊥
read_never None status g h k = cc
read_never (Some path) status g h k = let same : Read path ≡ PreprocessFailed status = let is : Read path ≡ g = cc in is ∙ k in cc

text_never : (p : PrintedCall) → p.printed.status ≡ pos 0 → (status : ℤ) (g : Fault) → text_fault_by p ≡ Some g → g ≡ PreprocessFailed status → ⊥
text_never p ok status g h k = by (needs_preprocessing p.call.parsed.language) h
  where
    good : (b : Bool) → int_eq p.printed.status (pos 0) ≡ b → (if b then None else Some (PreprocessFailed p.printed.status)) ≡ Some g → ⊥
    good true e h = cc
    good false e h = let t = ap (λ s. int_eq s (pos 0)) ok in cc

    by : (b : Bool) → (if b then preprocess_fault_of p.printed else read_fault_of p.call.scene.files (input_path p.call ∷ [])) ≡ Some g → ⊥
    by true h = good (int_eq p.printed.status (pos 0)) refl h
    by false h = read_never (first_missing p.call.scene.files (input_path p.call ∷ [])) status g h k

never_fails : (p : PrintedCall) → p.printed.status ≡ pos 0 → (status : ℤ) → key_fault_by p ≡ Some (PreprocessFailed status) → ⊥
never_fails p ok status h = or_else_none (read_fault_of p.call.scene.files (extra_paths p.call)) (or_else (option_map Read (missing_input p.call)) (text_fault_by p)) (PreprocessFailed status)
    (λ g e k. read_never (first_missing p.call.scene.files (extra_paths p.call)) status g e k)
    (λ g e k. or_else_none (option_map Read (missing_input p.call)) (text_fault_by p) (PreprocessFailed status) (λ g' e' k'. read_never (missing_input p.call) status g' e' k') (λ g' e' k'. text_never p ok status g' e' k') (e ∙ ap Some k))
    h

-- the records are true of a call
pub true_step : (digest_of : Bytes → Bytes) → Agree_on digest_of → (settings : Settings) (earlier : List Account) (a : Account) (held : Held) → IsOfOneCall settings a
    → EntryInvariant digest_of settings (direct_calls earlier) held → EntryPremises digest_of (direct_calls (earlier ++ a ∷ [])) → RecordsAreTrue digest_of a held
true_step digest_of agree settings earlier (passed why) held own inv premises = tt
true_step digest_of agree settings earlier (worked w) held own inv premises = λ text_key m.
    let list : direct_calls (earlier ++ worked w ∷ []) ≡ direct_calls earlier ++ asking m.p = direct_last earlier (worked w) ∙ ap (λ o. direct_calls earlier ++ asked_by o) m.has in
    let are = agree settings (direct_calls earlier) m.p held (own m.p m.has).settled inv (subst (EntryPremises digest_of) list premises) m.framed text_key m.match in
    let is = own m.p m.has in
    record {
      is_key = are.is_key ∙ ap (key_of digest_of) (sym is.rec);
      succeeds = λ status h. never_fails m.p are.succeeds status (sym is.fault ∙ h);
    }

-- where no records are kept there is nothing to be said
pub plain_step : (digest_of : Bytes → Bytes) (a : Account) (held : Held) → direct_of a ≡ None → RecordsAreTrue digest_of a held
plain_step digest_of (passed why) held none = tt
plain_step digest_of (worked w) held none = λ text_key m. absurd (let h : None ≡ Some m.p = sym none ∙ m.has in cc)

-- A run over both stores is one over the store of outputs alone, where the records are true of each of its calls: they are where no call has an entry key,
pub plain_run : (digest_of : Bytes → Bytes) (max_kept : Option ℕ) (settings : Settings) (old new : Shelves) (run : List Served) → BothRun digest_of max_kept settings old run new → AllByRecursion (λ s. direct_of s.account ≡ None) run → Run digest_of max_kept old.objects run new.objects
plain_run digest_of max_kept settings old new [] r none = r.1
plain_run digest_of max_kept settings old new (s ∷ run) r none = (r.0.objects, r.1.objects, r.3, r.4.own (plain_step digest_of s.account r.0.entries.held none.0), plain_run digest_of max_kept settings r.1 new run r.5 none.1)

loses_records : (digest_of : Bytes → Bytes) (settings : Settings) (calls : List PrintedCall) (old new : Shelf EntryKey Record) → Loses old new → EntryInvariant digest_of settings calls old.held → EntryInvariant digest_of settings calls new.held
loses_records digest_of settings calls old new l inv k e h r among = inv k e (l.within k e h) r among

-- or from records of earlier calls
pub true_run : (digest_of : Bytes → Bytes) (max_kept : Option ℕ) → Agree_on digest_of → Stay_on digest_of → (settings : Settings) (earlier : List Account) (old new : Shelves) (run : List Served) → BothRun digest_of max_kept settings old run new → EntryInvariant digest_of settings (direct_calls earlier) old.entries.held → EntryPremises digest_of (direct_calls (earlier ++ accounts_of run)) → Run digest_of max_kept old.objects run new.objects
true_run digest_of max_kept agree stay settings earlier old new [] r inv p = r.1
true_run digest_of max_kept agree stay settings earlier old new (s ∷ run) r inv p =
    let begins = loses_records digest_of settings (direct_calls earlier) old.entries r.0.entries r.2 inv in
    let regrouped : earlier ++ accounts_of (s ∷ run) ≡ (earlier ++ s.account ∷ []) ++ accounts_of run = sym (append_assoc earlier (s.account ∷ []) (accounts_of run)) in
    let all = subst (λ (l : List Account). EntryPremises digest_of (direct_calls l)) regrouped p in
    let are_true = true_step digest_of agree settings earlier s.account r.0.entries.held r.4.configured begins (entry_front digest_of (earlier ++ s.account ∷ []) (accounts_of run) all) in
    (r.0.objects, r.1.objects, r.3, r.4.own are_true, true_run digest_of max_kept agree stay settings (earlier ++ s.account ∷ []) r.1 new run r.5 (records_step digest_of stay settings earlier s.account r.0.entries r.1.entries s.before.preprocessed s.after.preprocessed r.4.configured r.4.entries begins) all)

no_records : (digest_of : Bytes → Bytes) (settings : Settings) (s : Shelf EntryKey Record) → IsEmpty s → EntryInvariant digest_of settings [] s.held
no_records digest_of settings s empty k e h = let none = empty k in cc

pub empty_run : (digest_of : Bytes → Bytes) (max_kept : Option ℕ) → Agree_on digest_of → Stay_on digest_of → (settings : Settings) (old new : Shelves) (run : List Served) → BothRun digest_of max_kept settings old run new → IsEmpty old.entries → EntryPremises digest_of (direct_calls (accounts_of run)) → Run digest_of max_kept old.objects run new.objects
empty_run digest_of max_kept agree stay settings old new run r empty p = true_run digest_of max_kept agree stay settings [] old new run r (no_records digest_of settings old.entries empty) p

both_all : (p q : Pairs) → all p ≡ all q → p ≡ q
both_all p q e = cc

-- two right answers of one account agree
agree : (a b : Account) (x y : Result Answer Fault) (on_file : Bytes → Type 0) → a ≡ b → ((why : Why) → why_passed a ≡ Some why → SaysPassed why on_file x) → Answers a x → Answers b y → TellsDependencies a x → TellsDependencies b y → Agree (outputs_in x) (outputs_in y)
agree a b (Ok (Pass reason)) y on_file e n h k d f = tt
agree a b (Err fault) y on_file e n h k d f = tt
agree a b (Ok (Outputs x how dep)) (Ok (Pass reason)) on_file e n h k d f = tt
agree a b (Ok (Outputs x how dep)) (Err fault) on_file e n h k d f = tt
agree (passed why) b (Ok (Outputs x how dep)) (Ok (Outputs y way more)) on_file e n h k d f = absurd (n why refl)
agree (worked w) (passed why) (Ok (Outputs x how dep)) (Ok (Outputs y way more)) on_file e n h k d f = cc
agree (worked w) (worked v) (Ok (Outputs x how dep)) (Ok (Outputs y way more)) on_file e n h k d f =
    let same : w ≡ v = cc in
    let both = both_all h.0 k.0 (sym h.2.made ∙ ap (λ (u : Work). collected (names_of u.outputs) u.fresh.contents) same ∙ k.2.made) in
    let outputs : x ≡ y = h.1 ∙ ap (λ (u : Work). placed u.outputs h.0) same ∙ ap (placed v.outputs) both ∙ sym k.1 in
    let text : dep ≡ more = d ∙ ap (λ (u : Work). u.dep_info) same ∙ sym f in
    λ i. (outputs i, text i)

-- what the verdict passes through is passed through, in each call of a run
abbrev AllPass : List Served → Type 0
AllPass run = AllByRecursion (λ s. (why : Why) → why_passed s.account ≡ Some why → SaysPassed why (λ name. s.after.files_failed ≡ ticked s.before.files_failed) s.result) run

run_passes : (digest_of : Bytes → Bytes) (max_kept : Option ℕ) (old new : Shelf StoreKey Pairs) (run : List Served) → Run digest_of max_kept old run new → AllPass run
run_passes digest_of max_kept old new [] r = tt
run_passes digest_of max_kept old new (s ∷ run) r = (r.3.passes, run_passes digest_of max_kept r.1 new run r.4)

-- outputs come with the call's own text on dependencies, in each call of a run
abbrev AllTell : List Served → Type 0
AllTell run = AllByRecursion (λ s. TellsDependencies s.account s.result) run

run_tells : (digest_of : Bytes → Bytes) (max_kept : Option ℕ) (old new : Shelf StoreKey Pairs) (run : List Served) → Run digest_of max_kept old run new → AllTell run
run_tells digest_of max_kept old new [] r = tt
run_tells digest_of max_kept old new (s ∷ run) r = (r.3.dep_info, run_tells digest_of max_kept r.1 new run r.4)

all_agree : (one two : List Served) → accounts_of one ≡ accounts_of two → AllPass one → AllAnswer one → AllAnswer two → AllTell one → AllTell two → SameOutputs one two
all_agree [] two e n h k d f = tt
all_agree (s ∷ one) [] e n h k d f = tt
all_agree (s ∷ one) (t ∷ two) e n h k d f =
    let head : s.account ≡ t.account = cc in
    let tail : accounts_of one ≡ accounts_of two = cc in
    (agree s.account t.account s.result t.result (λ name. s.after.files_failed ≡ ticked s.before.files_failed) head n.0 h.0 k.0 d.0 f.0, all_agree one two tail n.1 h.1 k.1 d.1 f.1)

pub two_runs_agree : (digest_of : Bytes → Bytes) (max_kept other : Option ℕ) → Tells digest_of → (one two : List Served) (one_old one_new two_old two_new : Shelf StoreKey Pairs)
    → Run digest_of max_kept one_old one one_new → Run digest_of other two_old two two_new → IsEmpty one_old → IsEmpty two_old
    → accounts_of one ≡ accounts_of two → Premises digest_of (accounts_of one) → SameOutputs one two
two_runs_agree digest_of max_kept other tells one two one_old one_new two_old two_new r q e f same p =
    all_agree one two same (run_passes digest_of max_kept one_old one_new one r)
    (run_answers digest_of max_kept tells [] one_old one_new one r (empty_invariant digest_of one_old e) p)
    (run_answers digest_of other tells [] two_old two_new two q (empty_invariant digest_of two_old f) (subst (Premises digest_of) same p))
    (run_tells digest_of max_kept one_old one_new one r)
    (run_tells digest_of other two_old two_new two q)

pub not_both : (b : Bool) → b ≡ true → b ≡ false → ⊥
not_both b p q = let h = sym p ∙ q in cc

-- what a work says of include records is of its own call
pub one_call : (meaning : Meaning) (tree : Tree) (settings : Settings) (request : Request) → IsOfOneCall settings (account_at meaning tree settings request)
one_call meaning tree settings request = by_named (named_by request.compiler)
  where
    printed : (call : KeyCall) (b : Bool) (p : PrintedCall) → (if b then Some (printed_call meaning call) else None) ≡ Some p → printed_call meaning call ≡ p
    printed call true p h = cc
    printed call false p h = cc

    by : (found : CFound) (d : Judgement) → IsOfOneCall settings (account_by meaning tree settings found request d)
    by found (passes why) = tt
    by found (asks parsed) = λ p h.
        let call = call_at found request tree settings parsed in
        let same : printed_call meaning call ≡ p = printed call (has_entry_key call) p h in
        subst (IsOfCall settings (work_at meaning call)) same (record { settled = refl; rec = refl; fault = refl })

    rust_by : (rustc : Rustc) (d : RustJudgement) → IsOfOneCall settings (rust_account_by meaning tree rustc request d)
    rust_by rustc (rust.passes why) = tt
    rust_by rustc (rust.asks asked) = λ p h. cc

    by_named : (n : NamedBy) → IsOfOneCall settings (account_named meaning tree settings request n)
    by_named (by_c found) = by found (verdict_of found.kind (words_at found request tree))
    by_named (by_rustc rustc) = rust_by rustc (rust_verdict_of request tree)

-- where no records are kept no call asks for any
pub none_asked : (meaning : Meaning) (tree : Tree) (settings : Settings) (request : Request) → settings.direct ≡ false → direct_of (account_at meaning tree settings request) ≡ None
none_asked meaning tree settings request off = by_named (named_by request.compiler)
  where
    by : (found : CFound) (d : Judgement) → direct_of (account_by meaning tree settings found request d) ≡ None
    by found (passes why) = refl
    by found (asks parsed) =
        let call = call_at found request tree settings parsed in
        let no : has_entry_key call ≡ false = ap (λ b. (b && (needs_preprocessing call.parsed.language && is_none call.parsed.too_hard_for_preprocessor_cache_mode)) && is_told call (contents_at call.scene.files (input_path call))) off in
        ap (λ b. if b then Some (printed_call meaning call) else None) no

    rust_by : (rustc : Rustc) (d : RustJudgement) → direct_of (rust_account_by meaning tree rustc request d) ≡ None
    rust_by rustc (rust.passes why) = refl
    rust_by rustc (rust.asks asked) = refl

    by_named : (n : NamedBy) → direct_of (account_named meaning tree settings request n) ≡ None
    by_named (by_c found) = by found (verdict_of found.kind (words_at found request tree))
    by_named (by_rustc rustc) = rust_by rustc (rust_verdict_of request tree)

-- where no records are kept, those that are held are true of each call
pub plain_true : (digest_of : Bytes → Bytes) (meaning : Meaning) (tree : Tree) (settings : Settings) (request : Request) (held : Held) → settings.direct ≡ false → RecordsAreTrue digest_of (account_at meaning tree settings request) held
plain_true digest_of meaning tree settings request held off = plain_step digest_of (account_at meaning tree settings request) held (none_asked meaning tree settings request off)

-- and they stay as they are
pub plain_kept : (digest_of : Bytes → Bytes) (meaning : Meaning) (tree : Tree) (settings : Settings) (request : Request) (old new : Shelf EntryKey Record) (printed printed_new : ℕ) → settings.direct ≡ false → EntriesTurn digest_of (account_at meaning tree settings request) old new printed printed_new → new ≡ old
plain_kept digest_of meaning tree settings request old new printed printed_new off turn = subst (λ (o : Option PrintedCall). EntriesBy digest_of o old new printed printed_new) (none_asked meaning tree settings request off) turn

pub agree_step : (digest_of : Bytes → Bytes) → Agree_on digest_of → (meaning : Meaning) (tree : Tree) (settings : Settings) (request : Request) (held : Held) (earlier : List Account) → (settings.direct ≡ true → EntryInvariant digest_of settings (direct_calls earlier) held × EntryPremises digest_of (direct_calls (earlier ++ account_at meaning tree settings request ∷ []))) → RecordsAreTrue digest_of (account_at meaning tree settings request) held
agree_step digest_of agree meaning tree settings request held earlier assumed = by settings.direct refl
  where
    by : (b : Bool) → settings.direct ≡ b → RecordsAreTrue digest_of (account_at meaning tree settings request) held
    by true on = let both = assumed on in true_step digest_of agree settings earlier (account_at meaning tree settings request) held (one_call meaning tree settings request) both.0 both.1
    by false off = plain_true digest_of meaning tree settings request held off

-- no call that was served asks for any
none_served : {F T : Type 0} (settings : Settings) (files : FilesView F) (tool : ToolView T) → settings.direct ≡ false → (calls : List (Call F T)) (ends : List Ticks) (results : List (Result Answer Fault)) → AllByRecursion (λ s. direct_of s.account ≡ None) (served (map (begin_of settings files tool) calls) ends results)
none_served settings files tool off [] ends results = tt
none_served settings files tool off (c ∷ calls) [] results = tt
none_served settings files tool off (c ∷ calls) (e ∷ ends) [] = tt
none_served settings files tool off (c ∷ calls) (e ∷ ends) (r ∷ results) = (none_asked (tool.meaning c.tool) (files.tree c.files) settings c.request off, none_served settings files tool off calls ends results)

-- a run over both stores is one over the store of outputs alone
pub served_run : (digest_of : Bytes → Bytes) (max_kept : Option ℕ) → Agree_on digest_of → Stay_on digest_of → {F T : Type 0} (settings : Settings) (files : FilesView F) (tool : ToolView T) (shelves shelves_new : Shelves) (old new : List (Call F T)) (results : List (Result Answer Fault)) → length results ≡ length old → length new ≡ length old
    → SessionRun digest_of max_kept settings shelves (served_at settings files tool old new results) shelves_new → (settings.direct ≡ true → IsEmpty shelves.entries × EntryPremises digest_of (direct_calls (accounts_at settings files tool old))) → Run digest_of max_kept shelves.objects (served_at settings files tool old new results) shelves_new.objects
served_run digest_of max_kept agree stay settings files tool shelves shelves_new old new results len same run assumed = by settings.direct refl
  where
    calls : BothRun digest_of max_kept settings shelves (served_at settings files tool old new results) shelves_new
    calls = both_run digest_of max_kept settings shelves shelves_new (served_at settings files tool old new results) run

    by : (b : Bool) → settings.direct ≡ b → Run digest_of max_kept shelves.objects (served_at settings files tool old new results) shelves_new.objects
    by true on =
        let both = assumed on in
        let accounts = served_accounts settings files tool old new results len same in
        empty_run digest_of max_kept agree stay settings shelves shelves_new (served_at settings files tool old new results) calls both.0 (subst (λ (l : List Account). EntryPremises digest_of (direct_calls l)) (sym accounts) both.1)
    by false off = plain_run digest_of max_kept settings shelves shelves_new (served_at settings files tool old new results) calls (none_served settings files tool off old (map (end_of settings files tool) new) results)

pub direct_runs_agree : (digest_of : Bytes → Bytes) (max_kept other : Option ℕ) → Tells digest_of → Agree_on digest_of → Stay_on digest_of → (settings : Settings) (one two : List Served) (one_old one_new two_old two_new : Shelves)
    → BothRun digest_of max_kept settings one_old one one_new → BothRun digest_of other settings two_old two two_new
    → IsEmpty one_old.entries → IsEmpty two_old.entries → IsEmpty one_old.objects → IsEmpty two_old.objects
    → accounts_of one ≡ accounts_of two → Premises digest_of (accounts_of one) → SameOutputs one two
direct_runs_agree digest_of max_kept other tells agree stay settings one two one_old one_new two_old two_new r q a b e f same p =
    let assumed = entry_premises digest_of (accounts_of one) p in
    two_runs_agree digest_of max_kept other tells one two one_old.objects one_new.objects two_old.objects two_new.objects
    (empty_run digest_of max_kept agree stay settings one_old one_new one r a assumed)
    (empty_run digest_of other agree stay settings two_old two_new two q b (subst (λ (l : List Account). EntryPremises digest_of (direct_calls l)) same assumed))
    e f same p

module _ (digest_of : Bytes → Bytes) (max_kept : Option ℕ) where
  -- the invariant of the outputs after a run
  run_invariant : (earlier : List Account) (old new : Shelf StoreKey Pairs) (run : List Served) → Run digest_of max_kept old run new → Invariant digest_of earlier old.held → Invariant digest_of (earlier ++ accounts_of run) new.held
  run_invariant earlier old new [] r inv = subst (λ (calls : List Account). Invariant digest_of calls new.held) (sym (append-nil earlier)) (loses_invariant digest_of earlier old new r inv)
  run_invariant earlier old new (s ∷ run) r inv =
      let begins = loses_invariant digest_of earlier old r.0 r.2 inv in
      let after = invariant_step digest_of max_kept s.account r.0 r.1 s.before.compiled s.after.compiled s.result r.3.store r.3.fine earlier begins in
      subst (λ (calls : List Account). Invariant digest_of calls new.held) (append_assoc earlier (s.account ∷ []) (accounts_of run)) (run_invariant (earlier ++ s.account ∷ []) r.1 new run r.4 after)

  -- and that of the records
  run_records : Stay_on digest_of → (settings : Settings) (earlier : List Account) (old new : Shelves) (run : List Served) → SessionRun digest_of max_kept settings old run new → EntryInvariant digest_of settings (direct_calls earlier) old.entries.held → EntryInvariant digest_of settings (direct_calls (earlier ++ accounts_of run)) new.entries.held
  run_records stay settings earlier old new [] r inv = subst (λ (calls : List Account). EntryInvariant digest_of settings (direct_calls calls) new.entries.held) (sym (append-nil earlier)) (subst (λ (end : Shelves). EntryInvariant digest_of settings (direct_calls earlier) end.entries.held) (sym r) inv)
  run_records stay settings earlier old new (s ∷ run) r inv =
      let after = records_step digest_of stay settings earlier s.account old.entries r.0.entries s.before.preprocessed s.after.preprocessed r.1.configured r.1.entries inv in
      subst (λ (calls : List Account). EntryInvariant digest_of settings (direct_calls calls) new.entries.held) (append_assoc earlier (s.account ∷ []) (accounts_of run)) (run_records stay settings (earlier ++ s.account ∷ []) r.0 new run r.2 after)

  module _ (tells : Tells digest_of) (agree : Agree_on digest_of) (stay : Stay_on digest_of) {F T : Type 0} (settings : Settings) (files : FilesView F) (tool : ToolView T) (shelves shelves_new : Shelves) (old new : List (Call F T)) (results : List (Result Answer Fault)) (len : length results ≡ length old) (same : length new ≡ length old) (run : SessionRun digest_of max_kept settings shelves (served_at settings files tool old new results) shelves_new) where
    -- after whatever calls were served before, it is a run over the store of outputs alone
    later_run : (earlier : List Account) → RecordsAreOf digest_of settings earlier (accounts_of (served_at settings files tool old new results)) shelves.entries → Run digest_of max_kept shelves.objects (served_at settings files tool old new results) shelves_new.objects
    later_run earlier assumed = by settings.direct refl
      where
        calls : BothRun digest_of max_kept settings shelves (served_at settings files tool old new results) shelves_new
        calls = both_run digest_of max_kept settings shelves shelves_new (served_at settings files tool old new results) run

        by : (b : Bool) → settings.direct ≡ b → Run digest_of max_kept shelves.objects (served_at settings files tool old new results) shelves_new.objects
        by true on = let both = assumed on in true_run digest_of max_kept agree stay settings earlier shelves shelves_new (served_at settings files tool old new results) calls both.0 both.1
        by false off = plain_run digest_of max_kept settings shelves shelves_new (served_at settings files tool old new results) calls (none_served settings files tool off old (map (end_of settings files tool) new) results)

    -- the stores hold what is of those calls and of these, and the outputs of these are fresh ones
    pub keeps_histories : KeepsHistories digest_of settings (accounts_at settings files tool old) (served_at settings files tool old new results) shelves shelves_new
    keeps_histories = subst (λ (calls : List Account). KeepsHistories digest_of settings calls (served_at settings files tool old new results) shelves shelves_new) (served_accounts settings files tool old new results len same) (record {
      records = λ earlier inv. run_records stay settings earlier shelves shelves_new (served_at settings files tool old new results) run inv;
      invariant = λ earlier assumed inv. run_invariant earlier shelves.objects shelves_new.objects (served_at settings files tool old new results) (later_run earlier assumed) inv;
      outputs = λ earlier assumed inv premises. run_answers digest_of max_kept tells earlier shelves.objects shelves_new.objects (served_at settings files tool old new results) (later_run earlier assumed) inv premises;
    })

-- what each call of a run is said to be, and that it goes on, together
pub each_says : {F T : Type 0} (digest_of : Bytes → Bytes) (max_kept : Option ℕ) (settings : Settings) (files : FilesView F) (tool : ToolView T) (old new : List (Call F T)) (results : List (Result Answer Fault)) (shelf shelf_new : Shelf StoreKey Pairs)
    → Each (IsAnswered settings files tool) old new results → Run digest_of max_kept shelf (served_at settings files tool old new results) shelf_new → Each (SaysOwn settings files tool) old new results
each_says digest_of max_kept settings files tool [] new results shelf shelf_new said run = tt
each_says digest_of max_kept settings files tool (b ∷ old) [] results shelf shelf_new said run = tt
each_says digest_of max_kept settings files tool (b ∷ old) (e ∷ new) [] shelf shelf_new said run = tt
each_says digest_of max_kept settings files tool (b ∷ old) (e ∷ new) (r ∷ results) shelf shelf_new said run = (
  says_own (account_at (tool.meaning b.tool) (files.tree b.files) settings b.request) (FilesFail files b.files e.files) (ToolFails tool b.tool e.tool) r said.0.says run.3.fine run.3.compiled,
  each_says digest_of max_kept settings files tool old new results run.1 shelf_new said.1 run.4,
)
