use Rattle.std.proofs.Common.{◌≡◌, true, ℤ, Option, ap, ◌∙◌}
use Rattle.std.proofs.lemmas.Int.{to_z-of_z}
use Rattle.std.proofs.lemmas.Result.{IfOk-weaker}
use Rattle.std.proofs.lemmas.Bool.{and_parts}
use Rattle.ckeys_include_records.specs.LookUps.{last_there}
use Rattle.ckeys_include_records.specs.Records.{is_small, rises}
use Rattle.ckeys_include_records.specs.Surroundings.{place_with}
use Rattle.ckeys_include_records.proofs.Greatest.{last_there-greatest}
use Rattle.ckeys_include_records.proofs.Looking.{last_there-looks_up}
use Rattle.ckeys_include_records.proofs.record.PreprocessorCacheEntry.lookup_result_digest.Goals as goal
use Rattle.ckeys_time_macros.specs.Days.{local_day}

pub returns-clause-found : goal.returns-clause-found
returns-clause-found g c =
    let digest_of = g.H.HashState.digest_of in
    let tree = g.F.Files.tree c.args.files.now in
    let moment_fits = c.ranges.moment in
    let day : c.day_of.result ≡ local_day c.args.zone.now c.args.moment = simp to_z-of_z at c.day_of.ensures in
    let last = c.last_there.ensures.last in
    IfOk-weaker c.last_there.result _ _ (λ key is. last_there-looks_up digest_of (place_with c.args.dir.now tree (local_day c.args.zone.now c.args.moment)) c.args.self.now.results key
    (is ∙ ap (λ (d : Option ℤ). last_there digest_of (place_with c.args.dir.now tree d) c.args.self.now.results) day)) last

pub returns-clause-greatest : goal.returns-clause-greatest
returns-clause-greatest g c =
    let digest_of = g.H.HashState.digest_of in
    let tree = g.F.Files.tree c.args.files.now in
    let moment_fits = c.ranges.moment in
    let day : c.day_of.result ≡ local_day c.args.zone.now c.args.moment = simp to_z-of_z at c.day_of.ensures in
    let results = c.args.self.now.results in
    let up : rises results ≡ true = (and_parts (is_small results) (rises results) c.last_there.ensures.record).1 in
    IfOk-weaker c.last_there.result _ _ (λ key is. last_there-greatest digest_of (place_with c.args.dir.now tree (local_day c.args.zone.now c.args.moment)) results up key
    (is ∙ ap (λ (d : Option ℤ). last_there digest_of (place_with c.args.dir.now tree d) results) day)) c.last_there.ensures.last
