use Rattle.std.proofs.Common.{ap, subst, sym, ◌∙◌}
use Rattle.ckeys_include_records.specs.contracts.entry_key.EntryKeyPartialEq.TheImpl as entry_eq
use Rattle.wrap_base.specs.MapStores.{shelf_of}
use Rattle.wrap_base.specs.contracts.store_key.StoreKeyPartialEq.TheImpl as key_eq
use Rattle.wrap_replay.specs.Kept.{Holds}
use Rattle.wrap_replay.proofs.kept_session.session_over.Goals as goal

pub returns-clause-settings : goal.returns-clause-settings
returns-clause-settings g c = (ap (λ s. s.settings) c.new.ensures, ap (λ s. s.max_kept) c.new.ensures)

pub returns-clause-records : goal.returns-clause-records
returns-clause-records g c =
    let entries = ap (λ s. s.entries.inner) c.new.ensures ∙ c.new-entries.ensures.inner in
    subst (λ m. Holds c.args.record_kept (shelf_of entry_eq.ghosts.eq m)) (sym entries) c.records_over.ensures

pub returns-clause-outputs : goal.returns-clause-outputs
returns-clause-outputs g c =
    let store = ap (λ s. s.objects.inner) c.new.ensures ∙ c.new-objects.ensures.inner in
    subst (λ m. Holds c.args.entry (shelf_of key_eq.ghosts.eq m)) (sym store) c.store_over.ensures
