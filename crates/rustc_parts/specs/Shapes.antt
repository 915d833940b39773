-- What the bytes of a key don't determine.
use Rattle.std.specs.Prelude.{length, map, is_some}
use Rattle.rustc_parts.specs.declared.parts.Parts.{Parts}
use Rattle.rustc_parts.specs.declared.parts.RShape.{RShape}

-- how many digests of each kind there are, the length of each word, which of the variables that the source names are set, and how many of the call's count
abbrev pub shape_of : Parts → RShape
shape_of p = record {
  toolchain = length p.toolchain;
  words = map length p.words;
  sources = length p.sources;
  externs = length p.externs;
  archives = length p.archives;
  has_target = is_some p.target;
  has_profile = is_some p.profile;
  env_deps = map (λ dep. is_some dep.value) p.env_deps;
  variables = length p.variables;
}
