-- Fingerprints that have the same in all parts are equal.
use Rattle.std.proofs.Common.{◌≡◌, ◌↔◌, inl, inr, List, [], ◌∷◌, Option, None, Some, ap, refl, subst, sym}
use Rattle.std.specs.List.{AllByRecursion}
use Rattle.std.specs.Option.{unwrap_or}
use Rattle.wrap_fingerprints.specs.Explaining.{AgreeByC, AgreeIn, IsFirst, IsFound, parts_in}
use Rattle.wrap_fingerprints.specs.declared.c_parts.CParts.{CParts}
use Rattle.wrap_fingerprints.specs.declared.fingerprint.Fingerprint.{Fingerprint}
use Rattle.wrap_fingerprints.specs.declared.fingerprint.Fingerprint.TheVariants.{C, Rustc}
use Rattle.wrap_fingerprints.specs.declared.part.Part.{Part}
use Rattle.wrap_fingerprints.specs.declared.part.Part.TheVariants.{Family, Compiler, Plusplus, Language, Words, Variables, ExtraContents, Assembler, Text, Names, Toolchain, Version, KeptWords, Sources, Externs, Archives, Target, Profile, EnvDeps, CargoPairs, Directory}

-- where there is no first part of which something doesn't hold, it holds of all
all_hold : (P : Part → Type 0) (parts : List Part) → IsFound P parts None → AllByRecursion P parts
all_hold P [] h = tt
all_hold P (part ∷ parts) (inl h) = (h.0, all_hold P parts h.1)
all_hold P (part ∷ parts) (inr h) = let e : None ≡ Some part = h.1 in cc

-- and where it holds of all, there is none
none_where_all : (P : Part → Type 0) → ((part : Part) → P part) → (parts : List Part) (found : Option Part) → IsFound P parts found → found ≡ None
none_where_all P all [] None h = refl
none_where_all P all [] (Some part) h = absurd h
none_where_all P all (part ∷ parts) found (inl h) = none_where_all P all parts found h.1
none_where_all P all (part ∷ parts) found (inr h) = absurd (h.0 (all part))

-- what a search finds is the first
pub found_first : (P : Part → Type 0) (parts : List Part) (found : Option Part) → IsFound P parts found → IsFirst P parts found
found_first P [] None h = tt
found_first P [] (Some it) h = absurd h
found_first P (part ∷ parts) None (inl h) = (h.0, found_first P parts None h.1)
found_first P (part ∷ parts) None (inr h) = let e : None ≡ Some part = h.1 in cc
found_first P (part ∷ parts) (Some it) (inl h) =
    let others = found_first P parts (Some it) h.1 in
    record {
      before = part ∷ others.before;
      after = others.after;
      listed = ap (λ (l : List Part). part ∷ l) others.listed;
      fails = others.fails;
      holds = (h.0, others.holds);
    }
found_first P (part ∷ parts) (Some it) (inr h) =
    let same : part ≡ it = ap (λ (o : Option Part). unwrap_or o part) (sym h.1) in
    record {
      before = [];
      after = parts;
      listed = ap (λ (p : Part). p ∷ parts) same;
      fails = subst (λ (p : Part). P p → ⊥) same h.0;
      holds = tt;
    }

same_c : (one : CParts) (part : Part) → AgreeByC one one part
same_c one Family = tt
same_c one Compiler = refl
same_c one Plusplus = refl
same_c one Language = refl
same_c one Words = refl
same_c one Variables = refl
same_c one ExtraContents = refl
same_c one Assembler = refl
same_c one Text = refl
same_c one Names = refl
same_c one Toolchain = tt
same_c one Version = tt
same_c one KeptWords = tt
same_c one Sources = tt
same_c one Externs = tt
same_c one Archives = tt
same_c one Target = tt
same_c one Profile = tt
same_c one EnvDeps = tt
same_c one CargoPairs = tt
same_c one Directory = tt

same : (one : Fingerprint) (part : Part) → AgreeIn one one part
same (C one) part = same_c one part
same (Rustc one names) Family = tt
same (Rustc one names) Compiler = tt
same (Rustc one names) Plusplus = tt
same (Rustc one names) Language = tt
same (Rustc one names) Words = tt
same (Rustc one names) Variables = tt
same (Rustc one names) ExtraContents = tt
same (Rustc one names) Assembler = tt
same (Rustc one names) Text = tt
same (Rustc one names) Names = refl
same (Rustc one names) Toolchain = refl
same (Rustc one names) Version = refl
same (Rustc one names) KeptWords = refl
same (Rustc one names) Sources = refl
same (Rustc one names) Externs = refl
same (Rustc one names) Archives = refl
same (Rustc one names) Target = refl
same (Rustc one names) Profile = refl
same (Rustc one names) EnvDeps = refl
same (Rustc one names) CargoPairs = refl
same (Rustc one names) Directory = refl

-- fingerprints that agree in all parts are equal
equal_where_all : (one other : Fingerprint) → AllByRecursion (AgreeIn one other) (parts_in one) → one ≡ other
equal_where_all (C one) (C other) h = λ i. C (record {
  compiler = h.1.0 i;
  plusplus = h.1.1.0 i;
  language = h.1.1.1.0 i;
  words = h.1.1.1.1.0 i;
  variables = h.1.1.1.1.1.0 i;
  extra_hashes = h.1.1.1.1.1.1.0 i;
  assembler = h.1.1.1.1.1.1.1.0 i;
  text = h.1.1.1.1.1.1.1.1.0 i;
  names = h.1.1.1.1.1.1.1.1.1.0 i;
})
equal_where_all (C one) (Rustc other names) h = absurd h.0
equal_where_all (Rustc one names) (C other) h = absurd h.0
equal_where_all (Rustc one names) (Rustc other others) h = λ i. Rustc (record {
  toolchain = h.1.0 i;
  version = h.1.1.0 i;
  words = h.1.1.1.0 i;
  sources = h.1.1.1.1.0 i;
  externs = h.1.1.1.1.1.0 i;
  archives = h.1.1.1.1.1.1.0 i;
  target = h.1.1.1.1.1.1.1.0 i;
  profile = h.1.1.1.1.1.1.1.1.0 i;
  env_deps = h.1.1.1.1.1.1.1.1.1.0 i;
  variables = h.1.1.1.1.1.1.1.1.1.1.0 i;
  dir = h.1.1.1.1.1.1.1.1.1.1.1.0 i;
}) (h.1.1.1.1.1.1.1.1.1.1.1.1.0 i)

pub none_is_equal : (one other : Fingerprint) (found : Option Part) → IsFound (AgreeIn one other) (parts_in one) found → (found ≡ None) ↔ (one ≡ other)
none_is_equal one other found first = (
  (λ none. equal_where_all one other (all_hold (AgreeIn one other) (parts_in one) (subst (IsFound (AgreeIn one other) (parts_in one)) none first))),
  (λ e. none_where_all (AgreeIn one one) (same one) (parts_in one) found (subst (λ (f : Fingerprint). IsFound (AgreeIn one f) (parts_in one) found) (sym e) first)),
)
