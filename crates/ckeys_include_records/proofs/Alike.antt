-- Parts that are equal are of equal values.
use Rattle.std.proofs.Common.{◌≡◌, ◌≢◌, ℕ, ℤ, suc, ◌<◌, ◌^◌, ◌==◌, subst, List, [], ◌∷◌, length, get_or, Bool, true, false, if◌then◌else◌, Option, Some, None, refl, sym, ap, ◌∙◌, arith}
use Rattle.std.specs.Prelude.{IfSome, pos, negsuc}
use Rattle.std.specs.Option.{option_to_list}
use Rattle.std.specs.Str.Parse.{AllDigits}
use Rattle.std.specs.Fmt.{decimal, signed_decimal}
use Rattle.std.proofs.lemmas.Fmt.{decimal_injective, decimal_is_IsNumeral}
use Rattle.std.proofs.lemmas.Str.Parse.{digit_from_value}
use Rattle.base_files.specs.Bytes.{Bytes}
use Rattle.cmdlines_tables.specs.CompilerFacts.{kind_name, kind_named}
use Rattle.cmdlines_tables.specs.Languages.{name_of}
use Rattle.cmdlines_tables.specs.declared.compiler.CCompilerKind.{CCompilerKind}
use Rattle.cmdlines_tables.specs.declared.language.Language.{Language}
use Rattle.cmdlines_tables.specs.declared.language.Language.TheVariants.{C, Cxx, CPreprocessed, CxxPreprocessed, Assembler, AssemblerToPreprocess, Rust}
use Rattle.base_formats.specs.Spelling.{FitsWord, framed_all}
use Rattle.ckeys_include_records.specs.Framing.{FitFrames, Pairs, flag, pair_parts}
use Rattle.ckeys_include_records.specs.Identity.{Identity, IdentityFits, identity_material, identity_parts}
use Rattle.ckeys_include_records.specs.Sights.{Sights, SightsFit, day_part, second_part, sight_material, sight_parts}

-- framed parts are determined by their bytes
abbrev pub Told : Type 0
Told = (parts other : List Bytes) → FitFrames parts → FitFrames other → framed_all parts ≡ framed_all other → parts ≡ other

pairs_alike : (vs ws : Pairs) → pair_parts vs ≡ pair_parts ws → vs ≡ ws
pairs_alike [] [] h = refl
pairs_alike [] (w ∷ ws) h = cc
pairs_alike (v ∷ vs) [] h = cc
pairs_alike ((n, x) ∷ vs) ((m, y) ∷ ws) h =
    let name : n ≡ m = cc in
    let value : x ≡ y = cc in
    let tail : pair_parts vs ≡ pair_parts ws = cc in
    let rest = pairs_alike vs ws tail in
    λ i. (name i, value i) ∷ rest i

option_alike : (o p : Option Bytes) → option_to_list o ≡ option_to_list p → o ≡ p
option_alike None None h = refl
option_alike None (Some y) h = cc
option_alike (Some x) None h = cc
option_alike (Some x) (Some y) h = ap (λ l. Some (get_or l 0 [])) h

flag_alike : (s t : Bool) → flag s ≡ flag t → s ≡ t
flag_alike true true h = refl
flag_alike false false h = refl
flag_alike true false h = cc
flag_alike false true h = cc

-- a name tells its kind
abbrev pub NamesTell : Type 0
NamesTell = (kind : CCompilerKind) → kind_named (kind_name kind) ≡ Some kind

kind_alike : NamesTell → (j k : CCompilerKind) → kind_name j ≡ kind_name k → j ≡ k
kind_alike tell j k h =
    let same : Some j ≡ Some k = sym (tell j) ∙ ap kind_named h ∙ tell k in
    cc

-- the names of languages have different lengths
language_at : ℕ → Language
language_at n = if n == 1 then C else (if n == 3 then Cxx else (if n == 10 then CPreprocessed else (if n == 14 then CxxPreprocessed else (if n == 9 then Assembler else (if n == 18 then AssemblerToPreprocess else Rust)))))

language_round : (l : Language) → language_at (length (name_of l)) ≡ l
unfolding language_at
language_round C = refl
language_round Cxx = refl
language_round CPreprocessed = refl
language_round CxxPreprocessed = refl
language_round Assembler = refl
language_round AssemblerToPreprocess = refl
language_round Rust = refl

language_alike : (l m : Language) → name_of l ≡ name_of m → l ≡ m
language_alike l m h = sym (language_round l) ∙ ap (λ name. language_at (length name)) h ∙ language_round m

-- a number's digits don't begin with a minus sign
digits_of : (n : ℕ) (ds : List ℕ) → n < 2 ^ 64 → decimal n ≢ 45 ∷ ds
digits_of n ds h e = omega (arith, digit_from_value 45 (subst (AllDigits 10) e (decimal_is_IsNumeral n h).0.1).0)

signed_alike : (y z : ℤ) → FitsWord y → FitsWord z → signed_decimal y ≡ signed_decimal z → y ≡ z
signed_alike (pos m) (pos n) p q e = ap pos (decimal_injective m n (omega arith) (omega arith) e)
signed_alike (pos m) (negsuc n) p q e = absurd (digits_of m (decimal (suc n)) (omega arith) e)
signed_alike (negsuc m) (pos n) p q e = absurd (digits_of n (decimal (suc m)) (omega arith) (sym e))
signed_alike (negsuc m) (negsuc n) p q e =
    let digits : decimal (suc m) ≡ decimal (suc n) = cc in
    let same : suc m ≡ suc n = decimal_injective (suc m) (suc n) (omega arith) (omega arith) digits in
    ap negsuc (omega arith)

day_alike : (o p : Option ℤ) → IfSome o FitsWord → IfSome p FitsWord → day_part o ≡ day_part p → o ≡ p
day_alike None None a b h = refl
day_alike None (Some y) a b h = cc
day_alike (Some x) None a b h = cc
day_alike (Some x) (Some y) a b h = ap Some (signed_alike x y a b cc)

second_alike : (o p : Option ℤ) → IfSome o FitsWord → IfSome p FitsWord → second_part o ≡ second_part p → o ≡ p
second_alike None None a b h = refl
second_alike None (Some y) a b h = cc
second_alike (Some x) None a b h = cc
second_alike (Some x) (Some y) a b h = ap Some (signed_alike x y a b cc)

module _ (tell : NamesTell) (told : Told) (one other : Identity) (f : IdentityFits one) (g : IdentityFits other) where
  identity_parts_alike : identity_parts one ≡ identity_parts other → one ≡ other
  identity_parts_alike e =
      let kind = kind_alike tell one.kind other.kind (ap (λ l. get_or l 0 []) e) in
      let executable : one.executable ≡ other.executable = ap (λ l. get_or l 1 []) e in
      let plusplus = flag_alike one.plusplus other.plusplus (ap (λ l. get_or l 2 []) e) in
      let version = option_alike one.version other.version (told _ _ f.version g.version (ap (λ l. get_or l 3 []) e)) in
      let compiler_digest : one.compiler_digest ≡ other.compiler_digest = ap (λ l. get_or l 4 []) e in
      let assembler_digest = option_alike one.assembler_digest other.assembler_digest (told _ _ f.assembler_digest g.assembler_digest (ap (λ l. get_or l 5 []) e)) in
      let dir : one.dir ≡ other.dir = ap (λ l. get_or l 6 []) e in
      let env = pairs_alike one.env other.env (told _ _ f.env g.env (ap (λ l. get_or l 7 []) e)) in
      let input : one.input ≡ other.input = ap (λ l. get_or l 8 []) e in
      let double_dash_input = flag_alike one.double_dash_input other.double_dash_input (ap (λ l. get_or l 9 []) e) in
      let language = language_alike one.language other.language (ap (λ l. get_or l 10 []) e) in
      let outputs = pairs_alike one.outputs other.outputs (told _ _ f.outputs g.outputs (ap (λ l. get_or l 11 []) e)) in
      let preprocessor_args = told _ _ f.preprocessor_args g.preprocessor_args (ap (λ l. get_or l 12 []) e) in
      let dependency_args = told _ _ f.dependency_args g.dependency_args (ap (λ l. get_or l 13 []) e) in
      let unhashed_args = told _ _ f.unhashed_args g.unhashed_args (ap (λ l. get_or l 14 []) e) in
      let common_args = told _ _ f.common_args g.common_args (ap (λ l. get_or l 15 []) e) in
      let arch_args = told _ _ f.arch_args g.arch_args (ap (λ l. get_or l 16 []) e) in
      let extra_hash_files = told _ _ f.extra_hash_files g.extra_hash_files (ap (λ l. get_or l 17 []) e) in
      λ i. record {
        kind = kind i;
        executable = executable i;
        plusplus = plusplus i;
        version = version i;
        compiler_digest = compiler_digest i;
        assembler_digest = assembler_digest i;
        dir = dir i;
        env = env i;
        input = input i;
        double_dash_input = double_dash_input i;
        language = language i;
        outputs = outputs i;
        preprocessor_args = preprocessor_args i;
        dependency_args = dependency_args i;
        unhashed_args = unhashed_args i;
        common_args = common_args i;
        arch_args = arch_args i;
        extra_hash_files = extra_hash_files i;
      }

  pub identities_alike : identity_material one ≡ identity_material other → one ≡ other
  identities_alike e = identity_parts_alike (told (identity_parts one) (identity_parts other) f.parts g.parts e)

module _ (told : Told) (one other : Sights) (f : SightsFit one) (g : SightsFit other) where
  sight_parts_alike : sight_parts one ≡ sight_parts other → one ≡ other
  sight_parts_alike e =
      let compiler_digest : one.compiler_digest ≡ other.compiler_digest = ap (λ l. get_or l 1 []) e in
      let plusplus = flag_alike one.plusplus other.plusplus (ap (λ l. get_or l 2 []) e) in
      let language = language_alike one.language other.language (ap (λ l. get_or l 3 []) e) in
      let words = told _ _ f.words g.words (ap (λ l. get_or l 4 []) e) in
      let extra = told _ _ f.extra g.extra (ap (λ l. get_or l 5 []) e) in
      let assembler_digest = option_alike one.assembler_digest other.assembler_digest (told _ _ f.assembler_digest g.assembler_digest (ap (λ l. get_or l 6 []) e)) in
      let env = pairs_alike one.env other.env (told _ _ f.env g.env (ap (λ l. get_or l 7 []) e)) in
      let path : one.path ≡ other.path = ap (λ l. get_or l 8 []) e in
      let input : one.input ≡ other.input = ap (λ l. get_or l 9 []) e in
      let day = day_alike one.day other.day f.day g.day (ap (λ l. get_or l 10 []) e) in
      let second = second_alike one.second other.second f.second g.second (ap (λ l. get_or l 11 []) e) in
      λ i. record {
        compiler_digest = compiler_digest i;
        plusplus = plusplus i;
        language = language i;
        words = words i;
        extra = extra i;
        assembler_digest = assembler_digest i;
        env = env i;
        path = path i;
        input = input i;
        day = day i;
        second = second i;
      }

  pub sights_alike : sight_material one ≡ sight_material other → one ≡ other
  sights_alike e = sight_parts_alike (told (sight_parts one) (sight_parts other) f.parts g.parts e)
