-- Manifests: the names of their files, and of what their own file's name is the digest.
use Rattle.std.specs.Prelude.{◌++◌, List, map, Option}
use Rattle.std.specs.List.{flat_map}
use Rattle.std.specs.Option.{option_map}
use Rattle.base_files.specs.Bytes.{Bytes}
use Rattle.base_formats.specs.Spelling.{framed}
use Rattle.ckeys_include_records.specs.declared.entry_key.EntryKey.{EntryKey}
use Rattle.ckeys_include_records.specs.Records.{Record}
use Rattle.ckeys_include_records.specs.declared.entry.CachedResult.{CachedResult}
use Rattle.ckeys_include_records.specs.declared.entry.IncludeEntry.{IncludeEntry}
use Rattle.rustc_options.specs.Sets.{in_order}
use Rattle.cache_files.specs.declared.manifests.FoundManifest.{FoundManifest}

abbrev pub included : List IncludeEntry → List Bytes
included includes = map (λ include. include.path) includes

-- the names of the files that results name, each once
abbrev pub names_in : List CachedResult → List Bytes
names_in results = in_order (flat_map (λ r. included r.includes) results)

-- the time zone of dates, and the two digests of the key
abbrev pub row_of : Bytes → EntryKey → Bytes
row_of zone key = framed zone ++ framed key.identity ++ framed key.key

-- the results of a manifest that was read, and of one that was found
abbrev pub results_in : Option Record → Option (List CachedResult)
results_in read = option_map (λ (entry : Record). entry.results) read

abbrev pub results_found : Option FoundManifest → Option (List CachedResult)
results_found found = option_map (λ (f : FoundManifest). f.entry.results) found
