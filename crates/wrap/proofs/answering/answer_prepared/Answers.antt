use Rattle.std.proofs.Common.{◌≡◌, rules, Ok, None, Some, refl, ap, sym, subst, ◌∙◌, to_z, of_z, w64}
use Rattle.std.specs.Option.{option_copied}
use Rattle.ckeys_base.specs.Shelf.{Asks}
use Rattle.wrap_keys.specs.Account.{placed, worked}
use Rattle.wrap_keys.specs.Asking.{HowFrom}
use Rattle.wrap_keys.specs.Turn.{KeyedTurn}
use Rattle.wrap_base.specs.declared.answer.Answer.TheVariants.{Outputs}
use Rattle.wrap_base.specs.contracts.store_key.StoreKeyPartialEq.TheImpl as key_eq
use Rattle.wrap.proofs.StepLemmas.{makes_then}
use Rattle.wrap.proofs.TurnLemmas.{fault_finishes, how_kept, how_of_fault, memory_finishes, turn_ask_failed, turn_compile_failed, turn_copy_failed, turn_kept, turn_stored}
use Rattle.wrap.proofs.answering.answer_prepared.Goals as goal

pub returns-in_err-map-clause-turn : goal.returns-in_err-map-clause-turn
returns-in_err-map-clause-turn g c digest_of w p =
    let asks : Asks (g.O.Store.shelf c.args.objects.now) (g.O.Store.shelf c.get.follows.lender-at-none) c.args.prepared.key (option_copied c.get.result) = c.get.follows.holds-at-none in
    turn_ask_failed digest_of _ _ w _ p.is_key _ _ _ asks _ _ refl _ c.from_residual.ensures.1

pub returns-in_err-map-clause-says : goal.returns-in_err-map-clause-says
returns-in_err-map-clause-says g c digest_of w p = memory_finishes w _ _ c.from_residual.ensures.1

pub returns-in_err-map-clause-how : goal.returns-in_err-map-clause-how
returns-in_err-map-clause-how g c = how_of_fault _ _ _ c.from_residual.ensures.1

pub returns-in-Some-clause-turn : goal.returns-in-Some-clause-turn
returns-in-Some-clause-turn g c digest_of w p =
    let asks : Asks (g.O.Store.shelf c.args.objects.now) (g.O.Store.shelf c.get.follows.lender-at-none) c.args.prepared.key (option_copied c.get.result) = c.get.follows.holds-at-none in
    let held : option_copied c.get.result ≡ Some c.in-Some.pairs.now = ap option_copied c.in-Some.is in
    let map : c.in_ok-map.map ≡ placed w.outputs c.in-Some.pairs.now = c.in_ok-map.ensures ∙ (λ i. placed (p.makes.outputs i) (c.as_slice.ensures i)) in
    let turn = turn_stored digest_of _ _ w _ p.is_key _ _ _ asks c.args.prepared.dep_info c.args.prepared.from_record p.direct _ _ refl p.told c.in_ok-map.map _ held map in
    subst (λ how. KeyedTurn digest_of c.args.max_kept c.args.prepared.key.digest (worked w) (g.O.Store.shelf c.args.objects.now) (g.O.Store.shelf c.get.follows.lender-at-none) (g.T.Preprocessor.compiled c.args.tool.now) (g.T.Preprocessor.compiled c.args.tool.now) (Ok (Outputs c.in_ok-map.map how c.args.prepared.dep_info))) (sym c.kept_how.ensures) turn

pub returns-in-Some-clause-says : goal.returns-in-Some-clause-says
returns-in-Some-clause-says g c digest_of w p = p.dep_info

pub returns-in-Some-clause-how : goal.returns-in-Some-clause-how
returns-in-Some-clause-how g c = subst (λ how. HowFrom c.args.prepared.from_record (Ok (Outputs c.in_ok-map.map how c.args.prepared.dep_info))) (sym c.kept_how.ensures) (how_kept c.args.prepared.from_record c.in_ok-map.map c.args.prepared.dep_info)

pub returns-in_err-pairs-clause-turn : goal.returns-in_err-pairs-clause-turn
returns-in_err-pairs-clause-turn g c digest_of w p =
    let asks : Asks (g.O.Store.shelf c.args.objects.now) (g.O.Store.shelf c.get.follows.lender-at-none) c.args.prepared.key (option_copied c.get.result) = c.get.follows.holds-at-none in
    let none : option_copied c.get.result ≡ None = ap option_copied c.in_default.is in
    turn_compile_failed digest_of _ _ w _ p.is_key _ _ _ asks none _ _ _ refl c.in_err-pairs.field-0.0 c.in_err-pairs.ensures.runs _ c.from_residual-in_err-pairs.ensures.1

pub returns-in_err-pairs-clause-says : goal.returns-in_err-pairs-clause-says
returns-in_err-pairs-clause-says g c digest_of w p =
    let moment : to_z w64 (of_z w64 c.args.prepared.moment) ≡ c.args.prepared.moment = search rules in
    fault_finishes w _ c.in_err-pairs.field-0.0 (c.in_err-pairs.ensures.cause w (makes_then _ _ _ _ _ _ _ w moment p.makes)) _ c.from_residual-in_err-pairs.ensures.1

pub returns-in_err-pairs-clause-how : goal.returns-in_err-pairs-clause-how
returns-in_err-pairs-clause-how g c = how_of_fault _ _ _ c.from_residual-in_err-pairs.ensures.1

pub returns-in_err-map-2-clause-turn : goal.returns-in_err-map-2-clause-turn
returns-in_err-map-2-clause-turn g c digest_of w p =
    let asks : Asks (g.O.Store.shelf c.args.objects.now) (g.O.Store.shelf c.get.follows.lender-at-none) c.args.prepared.key (option_copied c.get.result) = c.get.follows.holds-at-none in
    let none : option_copied c.get.result ≡ None = ap option_copied c.in_default.is in
    turn_copy_failed digest_of _ _ w _ p.is_key _ _ _ asks none _ _ _ refl c.in_ok-pairs.ensures.runs _ c.from_residual-in_err-map-2.ensures.1

pub returns-in_err-map-2-clause-says : goal.returns-in_err-map-2-clause-says
returns-in_err-map-2-clause-says g c digest_of w p = memory_finishes w _ _ c.from_residual-in_err-map-2.ensures.1

pub returns-in_err-map-2-clause-how : goal.returns-in_err-map-2-clause-how
returns-in_err-map-2-clause-how g c = how_of_fault _ _ _ c.from_residual-in_err-map-2.ensures.1

pub returns-clause-turn : goal.returns-clause-turn
returns-clause-turn g c digest_of w p =
    let asks : Asks (g.O.Store.shelf c.args.objects.now) (g.O.Store.shelf c.get.follows.lender-at-none) c.args.prepared.key (option_copied c.get.result) = c.get.follows.holds-at-none in
    let none : option_copied c.get.result ≡ None = ap option_copied c.in_default.is in
    let moment : to_z w64 (of_z w64 c.args.prepared.moment) ≡ c.args.prepared.moment = search rules in
    let map : c.in_ok-map-2.map ≡ placed w.outputs c.in_ok-pairs.pairs = c.in_ok-map-2.ensures ∙ (λ i. placed (p.makes.outputs i) (c.as_slice-2.ensures i)) in
    turn_kept digest_of _ _ w _ p.is_key _ _ _ asks none _ _ _ refl c.args.prepared.dep_info c.in_ok-pairs.ensures.runs p.told key_eq.ghosts.eq (λ a b. (c.keys_are_their_fields.ensures.equal a b).0) _ c.in_ok-pairs.pairs c.in_ok-map-2.map c.keep.ensures (c.in_ok-pairs.ensures.made w (makes_then _ _ _ _ _ _ _ w moment p.makes)) map

pub returns-clause-says : goal.returns-clause-says
returns-clause-says g c digest_of w p = p.dep_info
