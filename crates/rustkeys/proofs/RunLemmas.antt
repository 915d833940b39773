-- How often rustc was asked, question by question.
use Rattle.std.proofs.Common.{◌≡◌, ℕ, ℤ, List, [], ◌∷◌, None, inl, inr, ap, subst, sym, ◌∙◌}
use Rattle.base_files.specs.Bytes.{Bytes, ticked}
use Rattle.base_files.specs.Tree.{Tree}
use Rattle.ckeys_records.specs.Meaning.{AtMostOnce, Meaning, Variables, scene_with}
use Rattle.rustc_options.specs.Asks.{asks_in}
use Rattle.rustkeys.specs.Calls.{dep_info_fault_of}
use Rattle.rustkeys.specs.Hashers.{call_at, call_of, known_in, known_of}
use Rattle.rustkeys.specs.Questions.{Question, dep_info_of, question_of}
use Rattle.rustkeys.specs.Runs.{AtMostFor, AtMostTwice, ticked_for}
use Rattle.rustkeys.specs.declared.hasher.RustHasher.{RustHasher}
use Rattle.rustkeys.specs.declared.place.KnownRust.{KnownRust}
use Rattle.rustkeys.specs.declared.place.RustPlace.{RustPlace}

-- at most once is at most twice
pub once_at_most : (before after : ℕ) → AtMostOnce before after → AtMostTwice before after
once_at_most before after (inl h) = inl h
once_at_most before after (inr h) = inr (inl h)

-- and so is at most once after one
pub once_more : (before mid after : ℕ) → mid ≡ ticked before → AtMostOnce mid after → AtMostTwice before after
once_more before mid after one (inl h) = inr (inl (h ∙ one))
once_more before mid after one (inr h) = inr (inr (h ∙ ap ticked one))

-- where nothing was asked, it was asked at most once for each
pub none_for : {A : Type 0} (xs : List A) (before after : ℕ) → after ≡ before → AtMostFor xs before after
none_for [] before after h = h
none_for (x ∷ xs) before after h = inl h

-- and so it was where it was asked once for each
pub all_for : {A : Type 0} (xs : List A) (before after : ℕ) → after ≡ ticked_for xs before → AtMostFor xs before after
all_for [] before after h = h
all_for (x ∷ xs) before after h = inr (all_for xs (ticked before) after h)

-- and where it was asked at most for the first
first_for : {A : Type 0} (x : A) (xs : List A) (before after : ℕ) → AtMostOnce before after → AtMostFor (x ∷ xs) before after
first_for x xs before after (inl h) = inl h
first_for x xs before after (inr h) = inr (none_for xs (ticked before) after h)

-- of those that are left
pub stop_for : {A : Type 0} (rest : List A) (x : A) (others : List A) → rest ≡ x ∷ others → (before after : ℕ) → AtMostOnce before after → AtMostFor rest before after
stop_for {A} rest x others split before after once = subst (λ (l : List A). AtMostFor l before after) (sym split) (first_for x others before after once)

-- a place that has a call's executable, words, directory and variables asks the call's question
pub asked_at : (place : RustPlace) (hasher : RustHasher) (dir : Bytes) (env : Variables) (tree : Tree) (moment : ℤ) → place.executable.now ≡ hasher.compiler.now.executable → place.parsed.now ≡ hasher.parsed.now → place.dir.now ≡ dir → place.env.now ≡ env → question_of place tree moment ≡ (call_of hasher dir env tree moment).question
asked_at place hasher dir env tree moment executable parsed at_dir under = λ i. record { asks = asks_in (parsed i); scene = scene_with (executable i) (at_dir i) (under i) tree moment }

-- and of a rustc that is known alike it is that call
pub called_at : (known : KnownRust) (place : RustPlace) (hasher : RustHasher) (dir : Bytes) (env : Variables) (tree : Tree) (moment : ℤ) → known_in known ≡ known_of hasher.compiler.now → place.executable.now ≡ hasher.compiler.now.executable → place.parsed.now ≡ hasher.parsed.now → place.dir.now ≡ dir → place.env.now ≡ env → call_at known place tree moment ≡ call_of hasher dir env tree moment
called_at known place hasher dir env tree moment alike executable parsed at_dir under = λ i. record { known = alike i; question = asked_at place hasher dir env tree moment executable parsed at_dir under i }

-- what is said of the answer on dependencies to one question is said of that to an equal one
pub early_of : (meaning : Meaning) (asked own : Question) → asked ≡ own → (before after : ℕ) → ((dep_info_fault_of asked (dep_info_of meaning asked) ≡ None → ⊥) → AtMostOnce before after) → (dep_info_fault_of own (dep_info_of meaning own) ≡ None → ⊥) → AtMostOnce before after
early_of meaning asked own same before after early at_fault = early (λ none. at_fault (ap (λ q. dep_info_fault_of q (dep_info_of meaning q)) (sym same) ∙ none))
