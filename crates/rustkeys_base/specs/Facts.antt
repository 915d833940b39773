-- What the items of a request's words say together.
use Rattle.std.specs.Prelude.{false, ◌||◌, List, [], ◌∷◌, ◌++◌, Option, None, filter_map}
use Rattle.std.specs.List.{list_any}
use Rattle.cmdlines_base.specs.Choices.{later, sooner}
use Rattle.rustkeys_base.specs.Saying.{Token, by_data, if_data, input_in, out_dir_said, emit_said, crate_name_said, color_said, extra_filename_said, profile_use_said, target_file_said, extern_said, static_library_said, crate_path_said, static_path_said, is_json, gives_rlib, gives_staticlib, asks_gcno}
use Rattle.rustkeys_base.specs.declared.facts.Facts.{Facts}

-- the last thing that is said, and the first
abbrev pub last_said : {X : Type 0} → (Token → Option X) → List Token → Option X
last_said said [] = None
last_said said (token ∷ tokens) = later (said token) (last_said said tokens)

abbrev pub first_said : {X : Type 0} → (Token → Option X) → List Token → Option X
first_said said [] = None
first_said said (token ∷ tokens) = sooner (said token) (first_said said tokens)

abbrev pub no_facts : Facts
no_facts = record {
  input = None;
  output_dir = None;
  emit = None;
  crate_name = None;
  color = None;
  extra_filename = None;
  profile_use = None;
  target_json = None;
  has_json = false;
  rlib = false;
  staticlib = false;
  asks_gcno = false;
  externs = [];
  crate_paths = [];
  static_paths = [];
  static_libraries = [];
}

-- What all of them say together: the first input and the first emit, the last of all other words, each item of the lists, and of the
-- rest whether any says it.
abbrev pub facts_of : List Token → Facts
facts_of tokens = record {
  input = first_said input_in tokens;
  output_dir = last_said (by_data out_dir_said) tokens;
  emit = first_said (by_data emit_said) tokens;
  crate_name = last_said (by_data crate_name_said) tokens;
  color = last_said (by_data color_said) tokens;
  extra_filename = last_said (by_data extra_filename_said) tokens;
  profile_use = last_said (by_data profile_use_said) tokens;
  target_json = last_said (by_data target_file_said) tokens;
  has_json = list_any (if_data is_json) tokens;
  rlib = list_any (if_data gives_rlib) tokens;
  staticlib = list_any (if_data gives_staticlib) tokens;
  asks_gcno = list_any (if_data asks_gcno) tokens;
  externs = filter_map (by_data extern_said) tokens;
  crate_paths = filter_map (by_data crate_path_said) tokens;
  static_paths = filter_map (by_data static_path_said) tokens;
  static_libraries = filter_map (by_data static_library_said) tokens;
}

-- what was known, and then what these say too
abbrev pub facts_with : Facts → List Token → Facts
facts_with f tokens = record {
  input = sooner f.input (first_said input_in tokens);
  output_dir = later f.output_dir (last_said (by_data out_dir_said) tokens);
  emit = sooner f.emit (first_said (by_data emit_said) tokens);
  crate_name = later f.crate_name (last_said (by_data crate_name_said) tokens);
  color = later f.color (last_said (by_data color_said) tokens);
  extra_filename = later f.extra_filename (last_said (by_data extra_filename_said) tokens);
  profile_use = later f.profile_use (last_said (by_data profile_use_said) tokens);
  target_json = later f.target_json (last_said (by_data target_file_said) tokens);
  has_json = f.has_json || list_any (if_data is_json) tokens;
  rlib = f.rlib || list_any (if_data gives_rlib) tokens;
  staticlib = f.staticlib || list_any (if_data gives_staticlib) tokens;
  asks_gcno = f.asks_gcno || list_any (if_data asks_gcno) tokens;
  externs = f.externs ++ filter_map (by_data extern_said) tokens;
  crate_paths = f.crate_paths ++ filter_map (by_data crate_path_said) tokens;
  static_paths = f.static_paths ++ filter_map (by_data static_path_said) tokens;
  static_libraries = f.static_libraries ++ filter_map (by_data static_library_said) tokens;
}
