-- What is tested once over the whole tables, and over the names of compilers.
use Rattle.std.proofs.Common.{◌≡◌, ◌∙◌, ap, sym, refl, Bool, true, false, not, length, Contains, List, [], ◌∷◌, ◌++◌}
use Rattle.std.specs.List.{list_all, list_any}
use Rattle.std.specs.Prelude.{None, Some, codes}
use Rattle.std.specs.Str.{bytes_eq}
use Rattle.std.proofs.lemmas.List.Sums.{AllPass-from_list_all}
use Rattle.std.proofs.lemmas.List.Elements.{All-contains}
use Rattle.std.proofs.lemmas.Slice.Eq.{bytes_eq-Decides}
use Rattle.base_files.specs.Bytes.{Bytes}
use Rattle.cmdlines_base.specs.Again.{is_clear, lets_dashes}
use Rattle.cmdlines_base.specs.Reading.{Item, Start, flag, valued, first_word, whole, awaits}
use Rattle.cmdlines_base.specs.Table.{Entry}
use Rattle.cmdlines_base.specs.declared.argument.ArgDisposition.TheVariants.{CanBeConcatenated, Concatenated}
use Rattle.cmdlines_tables.specs.CompilerFacts.{kind_name, kind_named}
use Rattle.cmdlines_tables.specs.EmbeddedTables.{diab_entries, tasking_vx_entries}
use Rattle.cmdlines_tables.specs.Kinds.{gives_input}
use Rattle.cmdlines_tables.specs.Languages.{language_option}
use Rattle.cmdlines_tables.specs.MsvcTable.{msvc_dash_entries, msvc_slash_entries}
use Rattle.cmdlines_tables.specs.OwnWords.{OwnWords}
use Rattle.cmdlines_tables.specs.GnuTable.{gnu_entries, clang_entries}
use Rattle.cmdlines_tables.specs.Tables.{entries_of, ends_options}
use Rattle.cmdlines_tables.specs.declared.compiler.CCompilerKind.{CCompilerKind}
use Rattle.cmdlines_tables.specs.declared.compiler.CCompilerKind.TheVariants.{Gcc, Clang, Diab, Msvc, TaskingVX}
use Rattle.cmdlines_tables.specs.declared.kind.ArgKind.{ArgKind}
use Rattle.cmdlines_tables.specs.declared.kind.ArgKind.TheVariants.{TooHard, DoCompilation, Output, Language, LanguageC, LanguageCxx, DepArgumentPath, DepTarget, DiagnosticsColor, DiagnosticsColorFlag}
use Rattle.cmdlines_tables.proofs.OwnWordLemmas.{none_read, alone_read, option_read, named_read, flagged_read}

-- the first words of a command, by these entries
abbrev first : CCompilerKind → Bytes → Start ArgKind
first kind word = first_word (ends_options kind) (entries_of kind) word

abbrev AwaitsAs : CCompilerKind → Bytes → ArgKind → Type 0
AwaitsAs kind name k = first kind name ≡ awaits name k (CanBeConcatenated None)

abbrev IsWhole : CCompilerKind → Bytes → Item ArgKind → Type 0
IsWhole kind word item = first kind word ≡ whole item

record GnuWords (kind : CCompilerKind) : Type 0 where
  clear : is_clear (entries_of kind) ≡ true
  dashed : lets_dashes (ends_options kind) (entries_of kind) ≡ true
  language : AwaitsAs kind (codes "-x") Language
  compile : IsWhole kind (codes "-c") (flag (codes "-c") DoCompilation)
  preprocess : IsWhole kind (codes "-E") (flag (codes "-E") TooHard)
  output : AwaitsAs kind (codes "-o") Output
  dependency_path : AwaitsAs kind (codes "-MF") DepArgumentPath
  dependency_target : AwaitsAs kind (codes "-MT") DepTarget

gcc_tests : GnuWords Gcc
unfolding gnu_entries
gcc_tests = record { clear = refl; dashed = refl; language = refl; compile = refl; preprocess = refl; output = refl; dependency_path = refl; dependency_target = refl }

gcc_color : IsWhole Gcc (codes "-fdiagnostics-color=always") (valued (codes "-fdiagnostics-color") DiagnosticsColor (codes "always") (Concatenated (Some 61)))
unfolding gnu_entries
gcc_color = refl

clang_tests : GnuWords Clang
unfolding gnu_entries clang_entries
clang_tests = record { clear = refl; dashed = refl; language = refl; compile = refl; preprocess = refl; output = refl; dependency_path = refl; dependency_target = refl }

clang_color : IsWhole Clang (codes "-fcolor-diagnostics") (flag (codes "-fcolor-diagnostics") DiagnosticsColorFlag)
unfolding gnu_entries clang_entries
clang_color = refl

record SmallWords (kind : CCompilerKind) : Type 0 where
  clear : is_clear (entries_of kind) ≡ true
  dashed : lets_dashes (ends_options kind) (entries_of kind) ≡ true
  compile : IsWhole kind (codes "-c") (flag (codes "-c") DoCompilation)
  preprocess : IsWhole kind (codes "-E") (flag (codes "-E") TooHard)

diab_tests : SmallWords Diab
unfolding diab_entries
diab_tests = record { clear = refl; dashed = refl; compile = refl; preprocess = refl }

diab_output : AwaitsAs Diab (codes "-o") Output
unfolding diab_entries
diab_output = refl

tasking_vx_tests : SmallWords TaskingVX
unfolding tasking_vx_entries
tasking_vx_tests = record { clear = refl; dashed = refl; compile = refl; preprocess = refl }

tasking_vx_output : AwaitsAs TaskingVX (codes "-o") Output
unfolding tasking_vx_entries
tasking_vx_output = refl

msvc_tests : SmallWords Msvc
unfolding msvc_dash_entries msvc_slash_entries
msvc_tests = record { clear = refl; dashed = refl; compile = refl; preprocess = refl }

msvc_c : IsWhole Msvc (codes "-TC") (flag (codes "-TC") LanguageC)
unfolding msvc_dash_entries msvc_slash_entries
msvc_c = refl

msvc_cxx : IsWhole Msvc (codes "-TP") (flag (codes "-TP") LanguageCxx)
unfolding msvc_dash_entries msvc_slash_entries
msvc_cxx = refl

msvc_output : (path : Bytes) → IsWhole Msvc (codes "-Fo" ++ path) (valued (codes "-Fo") Output path (Concatenated None))
unfolding msvc_dash_entries msvc_slash_entries
msvc_output [] = refl
msvc_output (b ∷ bs) = refl

no_dependencies : {P : Type 0} → false ≡ true → P
no_dependencies h = cc

abbrev d : CCompilerKind → Bool
d kind = ends_options kind

abbrev t : CCompilerKind → List (Entry ArgKind)
t kind = entries_of kind

gcc_words : OwnWords Gcc
gcc_words = record {
  clear = gcc_tests.clear;
  dashed = gcc_tests.dashed;
  language = λ language. named_read (d Gcc) (t Gcc) gcc_tests.language (language_option language);
  compile = alone_read (d Gcc) (t Gcc) (codes "-c") (flag (codes "-c") DoCompilation) gcc_tests.compile;
  preprocess = alone_read (d Gcc) (t Gcc) (codes "-E") (flag (codes "-E") TooHard) gcc_tests.preprocess;
  output = option_read (d Gcc) (t Gcc) (codes "-o") Output gcc_tests.output;
  color = alone_read (d Gcc) (t Gcc) (codes "-fdiagnostics-color=always") (valued (codes "-fdiagnostics-color") DiagnosticsColor (codes "always") (Concatenated (Some 61))) gcc_color;
  dependency_path = λ _. option_read (d Gcc) (t Gcc) (codes "-MF") DepArgumentPath gcc_tests.dependency_path;
  dependency_target = λ _. option_read (d Gcc) (t Gcc) (codes "-MT") DepTarget gcc_tests.dependency_target;
}

clang_words : OwnWords Clang
clang_words = record {
  clear = clang_tests.clear;
  dashed = clang_tests.dashed;
  language = λ language. named_read (d Clang) (t Clang) clang_tests.language (language_option language);
  compile = alone_read (d Clang) (t Clang) (codes "-c") (flag (codes "-c") DoCompilation) clang_tests.compile;
  preprocess = alone_read (d Clang) (t Clang) (codes "-E") (flag (codes "-E") TooHard) clang_tests.preprocess;
  output = option_read (d Clang) (t Clang) (codes "-o") Output clang_tests.output;
  color = alone_read (d Clang) (t Clang) (codes "-fcolor-diagnostics") (flag (codes "-fcolor-diagnostics") DiagnosticsColorFlag) clang_color;
  dependency_path = λ _. option_read (d Clang) (t Clang) (codes "-MF") DepArgumentPath clang_tests.dependency_path;
  dependency_target = λ _. option_read (d Clang) (t Clang) (codes "-MT") DepTarget clang_tests.dependency_target;
}

diab_words : OwnWords Diab
diab_words = record {
  clear = diab_tests.clear;
  dashed = diab_tests.dashed;
  language = λ _. none_read (d Diab) (t Diab);
  compile = alone_read (d Diab) (t Diab) (codes "-c") (flag (codes "-c") DoCompilation) diab_tests.compile;
  preprocess = alone_read (d Diab) (t Diab) (codes "-E") (flag (codes "-E") TooHard) diab_tests.preprocess;
  output = option_read (d Diab) (t Diab) (codes "-o") Output diab_output;
  color = none_read (d Diab) (t Diab);
  dependency_path = λ h. no_dependencies h;
  dependency_target = λ h. no_dependencies h;
}

msvc_words : OwnWords Msvc
msvc_words = record {
  clear = msvc_tests.clear;
  dashed = msvc_tests.dashed;
  language = flagged_read (d Msvc) (t Msvc) msvc_c msvc_cxx;
  compile = alone_read (d Msvc) (t Msvc) (codes "-c") (flag (codes "-c") DoCompilation) msvc_tests.compile;
  preprocess = alone_read (d Msvc) (t Msvc) (codes "-E") (flag (codes "-E") TooHard) msvc_tests.preprocess;
  output = λ path. alone_read (d Msvc) (t Msvc) (codes "-Fo" ++ path) (valued (codes "-Fo") Output path (Concatenated None)) (msvc_output path);
  color = none_read (d Msvc) (t Msvc);
  dependency_path = λ h. no_dependencies h;
  dependency_target = λ h. no_dependencies h;
}

tasking_vx_words : OwnWords TaskingVX
tasking_vx_words = record {
  clear = tasking_vx_tests.clear;
  dashed = tasking_vx_tests.dashed;
  language = λ _. none_read (d TaskingVX) (t TaskingVX);
  compile = alone_read (d TaskingVX) (t TaskingVX) (codes "-c") (flag (codes "-c") DoCompilation) tasking_vx_tests.compile;
  preprocess = alone_read (d TaskingVX) (t TaskingVX) (codes "-E") (flag (codes "-E") TooHard) tasking_vx_tests.preprocess;
  output = option_read (d TaskingVX) (t TaskingVX) (codes "-o") Output tasking_vx_output;
  color = none_read (d TaskingVX) (t TaskingVX);
  dependency_path = λ h. no_dependencies h;
  dependency_target = λ h. no_dependencies h;
}

pub own_words : (kind : CCompilerKind) → OwnWords kind
own_words Gcc = gcc_words
own_words Clang = clang_words
own_words Diab = diab_words
own_words Msvc = msvc_words
own_words TaskingVX = tasking_vx_words

pub named_apart : (kind : CCompilerKind) → kind_named (kind_name kind) ≡ Some kind
named_apart Gcc = refl
named_apart Clang = refl
named_apart Diab = refl
named_apart Msvc = refl
named_apart TaskingVX = refl

has_other_flag : Entry ArgKind → Entry ArgKind → Bool
has_other_flag d e = not (bytes_eq d.flag e.flag)

is_in_none : List (Entry ArgKind) → Entry ArgKind → Bool
is_in_none others d = list_all (has_other_flag d) others

clang_shares_none : list_all (is_in_none clang_entries) gnu_entries ≡ true
unfolding gnu_entries clang_entries is_in_none has_other_flag
clang_shares_none = refl

msvc_shares_none : list_all (is_in_none msvc_slash_entries) msvc_dash_entries ≡ true
unfolding msvc_dash_entries msvc_slash_entries is_in_none has_other_flag
msvc_shares_none = refl

no_flag_of_both : (some others : List (Entry ArgKind)) → list_all (is_in_none others) some ≡ true → (d e : Entry ArgKind) → Contains some d → Contains others e → d.flag ≡ e.flag → ⊥
unfolding is_in_none has_other_flag
no_flag_of_both some others none d e of_some of_others same =
    let other : is_in_none others d ≡ true = All-contains (λ x. is_in_none others x ≡ true) some d (AllPass-from_list_all (is_in_none others) some none) of_some in
    let differs : not (bytes_eq d.flag e.flag) ≡ true = All-contains (λ x. has_other_flag d x ≡ true) others e (AllPass-from_list_all (has_other_flag d) others other) of_others in
    let equal : bytes_eq d.flag e.flag ≡ true = (bytes_eq-Decides d.flag e.flag).1 same in
    let bad : false ≡ true = sym (ap not equal) ∙ differs in cc

pub no_flag_shared : (d e : Entry ArgKind) → Contains gnu_entries d → Contains clang_entries e → d.flag ≡ e.flag → ⊥
no_flag_shared = no_flag_of_both gnu_entries clang_entries clang_shares_none

pub no_flag_of_both_signs : (d e : Entry ArgKind) → Contains msvc_dash_entries d → Contains msvc_slash_entries e → d.flag ≡ e.flag → ⊥
no_flag_of_both_signs = no_flag_of_both msvc_dash_entries msvc_slash_entries msvc_shares_none

-- whether an option of the compiler gives the input
abbrev gives_any : CCompilerKind → Bool
gives_any kind = list_any (λ (e : Entry ArgKind). gives_input e.kind) (entries_of kind)

gcc_gives_none : gives_any Gcc ≡ false
unfolding gnu_entries
gcc_gives_none = refl

clang_gives_none : gives_any Clang ≡ false
unfolding gnu_entries clang_entries
clang_gives_none = refl

diab_gives_none : gives_any Diab ≡ false
unfolding diab_entries
diab_gives_none = refl

tasking_vx_gives_none : gives_any TaskingVX ≡ false
unfolding tasking_vx_entries
tasking_vx_gives_none = refl

never_both : {P : Type 0} (b : Bool) → b ≡ false → b ≡ true → P
never_both b h g = cc

pub msvc_alone_gives : (kind : CCompilerKind) → gives_any kind ≡ true → kind ≡ Msvc
msvc_alone_gives Gcc h = never_both (gives_any Gcc) gcc_gives_none h
msvc_alone_gives Clang h = never_both (gives_any Clang) clang_gives_none h
msvc_alone_gives Diab h = never_both (gives_any Diab) diab_gives_none h
msvc_alone_gives Msvc h = refl
msvc_alone_gives TaskingVX h = never_both (gives_any TaskingVX) tasking_vx_gives_none h

pub gnu_count : length gnu_entries ≡ 61
unfolding gnu_entries
gnu_count = refl

pub clang_count : length clang_entries ≡ 21
unfolding clang_entries
clang_count = refl

pub diab_count : length diab_entries ≡ 20
unfolding diab_entries
diab_count = refl

pub msvc_dash_count : length msvc_dash_entries ≡ 55
unfolding msvc_dash_entries
msvc_dash_count = refl

pub msvc_slash_count : length msvc_slash_entries ≡ 55
unfolding msvc_slash_entries
msvc_slash_count = refl

pub tasking_vx_count : length tasking_vx_entries ≡ 24
unfolding tasking_vx_entries
tasking_vx_count = refl
