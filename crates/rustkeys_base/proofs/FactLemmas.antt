-- Laws of what is known: one thing that is said, and then all others.
use Rattle.std.proofs.Common.{◌≡◌, Bool, true, false, ◌||◌, List, [], ◌∷◌, ◌++◌, Option, Some, None, refl, ap, sym, ◌∙◌, append_assoc, append-nil, arith}
use Rattle.std.specs.Prelude.{filter_map}
use Rattle.std.specs.List.{list_any}
use Rattle.std.proofs.lemmas.List.Elements.{filter_map-append}
use Rattle.cmdlines_base.specs.Choices.{later, sooner}
use Rattle.rustkeys_base.specs.Facts.{facts_of, facts_with, first_said, last_said, no_facts}
use Rattle.rustkeys_base.specs.Saying.{Token, by_data, if_data, input_in, out_dir_said, emit_said, crate_name_said, color_said, extra_filename_said, profile_use_said, target_file_said, extern_said, static_library_said, crate_path_said, static_path_said, is_json, gives_rlib, gives_staticlib, asks_gcno}
use Rattle.rustkeys_base.specs.declared.facts.Facts.{Facts}

any-more : (test : Token → Bool) (start : Bool) (t : Token) (ts : List Token) → ((start || list_any test (t ∷ [])) || list_any test ts) ≡ (start || list_any test (t ∷ ts))
any-more test start t ts = grind arith

any-none : (start : Bool) → (start || false) ≡ start
any-none true = refl
any-none false = refl

later-assoc : {X : Type 0} (a b c : Option X) → later (later a b) c ≡ later a (later b c)
later-assoc a b None = refl
later-assoc a b (Some v) = refl

sooner-assoc : {X : Type 0} (a b c : Option X) → sooner (sooner a b) c ≡ sooner a (sooner b c)
sooner-assoc None b c = refl
sooner-assoc (Some v) b c = refl

sooner-none : {X : Type 0} (a : Option X) → sooner a None ≡ a
sooner-none None = refl
sooner-none (Some v) = refl

last-more : {X : Type 0} (said : Token → Option X) (start : Option X) (t : Token) (ts : List Token) → later (later start (last_said said (t ∷ []))) (last_said said ts) ≡ later start (last_said said (t ∷ ts))
last-more said start t ts = later-assoc start (said t) (last_said said ts)

later-none : {X : Type 0} (a : Option X) → later None a ≡ a
later-none None = refl
later-none (Some v) = refl

first-more : {X : Type 0} (said : Token → Option X) (start : Option X) (t : Token) (ts : List Token) → sooner (sooner start (first_said said (t ∷ []))) (first_said said ts) ≡ sooner start (first_said said (t ∷ ts))
first-more said start t ts = ap (λ s. sooner (sooner start s) (first_said said ts)) (sooner-none (said t)) ∙ sooner-assoc start (said t) (first_said said ts)

all-more : {X : Type 0} (said : Token → Option X) (start : List X) (t : Token) (ts : List Token) → (start ++ filter_map said (t ∷ [])) ++ filter_map said ts ≡ start ++ filter_map said (t ∷ ts)
all-more {X} said start t ts = append_assoc start (filter_map said (t ∷ [])) (filter_map said ts) ∙ ap (λ (l : List X). start ++ l) (sym (filter_map-append said (t ∷ []) ts))

pub facts-more : (f : Facts) (t : Token) (ts : List Token) → facts_with (facts_with f (t ∷ [])) ts ≡ facts_with f (t ∷ ts)
facts-more f t ts = λ i. record {
  input = first-more input_in f.input t ts i;
  output_dir = last-more (by_data out_dir_said) f.output_dir t ts i;
  emit = first-more (by_data emit_said) f.emit t ts i;
  crate_name = last-more (by_data crate_name_said) f.crate_name t ts i;
  color = last-more (by_data color_said) f.color t ts i;
  extra_filename = last-more (by_data extra_filename_said) f.extra_filename t ts i;
  profile_use = last-more (by_data profile_use_said) f.profile_use t ts i;
  target_json = last-more (by_data target_file_said) f.target_json t ts i;
  has_json = any-more (if_data is_json) f.has_json t ts i;
  rlib = any-more (if_data gives_rlib) f.rlib t ts i;
  staticlib = any-more (if_data gives_staticlib) f.staticlib t ts i;
  asks_gcno = any-more (if_data asks_gcno) f.asks_gcno t ts i;
  externs = all-more (by_data extern_said) f.externs t ts i;
  crate_paths = all-more (by_data crate_path_said) f.crate_paths t ts i;
  static_paths = all-more (by_data static_path_said) f.static_paths t ts i;
  static_libraries = all-more (by_data static_library_said) f.static_libraries t ts i;
}

pub facts-none : (f : Facts) → facts_with f [] ≡ f
facts-none f = λ i. record {
  input = sooner-none f.input i;
  output_dir = f.output_dir;
  emit = sooner-none f.emit i;
  crate_name = f.crate_name;
  color = f.color;
  extra_filename = f.extra_filename;
  profile_use = f.profile_use;
  target_json = f.target_json;
  has_json = any-none f.has_json i;
  rlib = any-none f.rlib i;
  staticlib = any-none f.staticlib i;
  asks_gcno = any-none f.asks_gcno i;
  externs = append-nil f.externs i;
  crate_paths = append-nil f.crate_paths i;
  static_paths = append-nil f.static_paths i;
  static_libraries = append-nil f.static_libraries i;
}

-- what is said by all of them is what is known of them, from nothing
pub facts-of : (tokens : List Token) → facts_with no_facts tokens ≡ facts_of tokens
facts-of tokens = λ i. record {
  input = first_said input_in tokens;
  output_dir = later-none (last_said (by_data out_dir_said) tokens) i;
  emit = first_said (by_data emit_said) tokens;
  crate_name = later-none (last_said (by_data crate_name_said) tokens) i;
  color = later-none (last_said (by_data color_said) tokens) i;
  extra_filename = later-none (last_said (by_data extra_filename_said) tokens) i;
  profile_use = later-none (last_said (by_data profile_use_said) tokens) i;
  target_json = later-none (last_said (by_data target_file_said) tokens) i;
  has_json = list_any (if_data is_json) tokens;
  rlib = list_any (if_data gives_rlib) tokens;
  staticlib = list_any (if_data gives_staticlib) tokens;
  asks_gcno = list_any (if_data asks_gcno) tokens;
  externs = filter_map (by_data extern_said) tokens;
  crate_paths = filter_map (by_data crate_path_said) tokens;
  static_paths = filter_map (by_data static_path_said) tokens;
  static_libraries = filter_map (by_data static_library_said) tokens;
}
