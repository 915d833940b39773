use Rattle.std.proofs.Common.{◌≡◌, ◌++◌, drop}
use Rattle.std.specs.Option.{option_map}
use Rattle.ckeys_include_records.specs.Surroundings.{includes_of, place_with}
use Rattle.ckeys_include_records.proofs.includes.includes_on.Given as goal

abbrev pub invariant-loop-name : goal.invariant-loop-name
invariant-loop-name g l =
    let place = place_with l.fn.dir (g.F.Files.tree l.fn.files) l.fn.day in
    record {
      told : option_map (λ rest. l.list ++ rest) (includes_of place g.H.HashState.digest_of (drop l.name-index l.names)) ≡ includes_of place g.H.HashState.digest_of l.names;
      tree : g.F.Files.tree l.files ≡ g.F.Files.tree l.fn.files;
      steady : g.F.Files.failed l.files ≡ g.F.Files.failed l.fn.files;
    }
