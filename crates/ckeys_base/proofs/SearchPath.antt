-- Looking for a variable, and for a compiler in the folders of a search path.
use Rattle.std.proofs.Common.{◌≡◌, ℕ, ◌+◌, ◌<◌, Bool, true, false, Option, Some, List, [], ◌∷◌, length, get_or, drop, map, codes, refl, sym, ap, ◌∙◌}
use Rattle.std.specs.List.{find}
use Rattle.std.specs.Map.{lookup}
use Rattle.std.specs.Str.{bytes_eq}
use Rattle.std.specs.Borrow.{Bor}
use Rattle.std.specs.Option.{option_map_or, option_and_then}
use Rattle.std.proofs.lemmas.List.{drop_more}
use Rattle.base_files.specs.Bytes.{Bytes}
use Rattle.base_files.specs.Path.{join, file_name}
use Rattle.ckeys_base.specs.Wrapper.{Variables, value_of, folders_in, offers}

-- the first of these variables has the name
pub lookup-here : (env : Variables) (k : ℕ) (variable : Bytes × Bytes) (name : Bytes) → k < length env → variable ≡ get_or env k variable
    → bytes_eq name variable.0 ≡ true → lookup (bytes_eq name) (drop k env) ≡ Some variable.1
lookup-here env k variable name lt is same =
    let cut : drop k env ≡ variable ∷ drop (k + 1) env = drop_more env k variable lt ∙ ap (λ (x : Bytes × Bytes). x ∷ drop (k + 1) env) (sym is) in
    rw (cut, same) refl

-- or it has another name
pub lookup-next : (env : Variables) (k : ℕ) (variable : Bytes × Bytes) (name : Bytes) → k < length env → variable ≡ get_or env k variable
    → bytes_eq name variable.0 ≡ false → lookup (bytes_eq name) (drop k env) ≡ lookup (bytes_eq name) (drop (k + 1) env)
lookup-next env k variable name lt is other =
    let cut : drop k env ≡ variable ∷ drop (k + 1) env = drop_more env k variable lt ∙ ap (λ (x : Bytes × Bytes). x ∷ drop (k + 1) env) (sym is) in
    rw (cut, other) refl

-- the files of that name in these folders
abbrev pub offered : List (Bor Bytes) → Bytes → List Bytes
offered folders name = map (λ folder. join folder.now name) folders

offered-is : (folders : List (Bor Bytes)) (name : Bytes) → offered folders name ≡ map (λ folder. join folder name) (map (λ folder. folder.now) folders)
offered-is [] name = refl
offered-is (folder ∷ folders) name = ap (λ (x : List Bytes). join folder.now name ∷ x) (offered-is folders name)

-- what the search path offers, by its parts
pub offered-first : (test : Bytes → Bool) (env : Variables) (executable name path : Bytes) (folders : List (Bor Bytes)) → Some name ≡ file_name executable → Some path ≡ value_of env (codes "PATH")
    → map (λ folder. folder.now) folders ≡ folders_in path
    → find test (offered folders name) ≡ option_and_then (λ last. find test (offers env last)) (file_name executable)
offered-first test env executable name path folders named valued cut =
    ap (find test) (offered-is folders name ∙ ap (λ (x : List Bytes). map (λ folder. join folder name) x) cut)
    ∙ ap (λ (o : Option Bytes). find test (option_map_or (λ path. map (λ folder. join folder name) (folders_in path)) o [])) valued
    ∙ ap (λ (o : Option Bytes). option_and_then (λ last. find test (offers env last)) o) named
