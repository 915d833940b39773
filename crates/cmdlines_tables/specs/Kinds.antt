-- Which list of a request the options of each kind go to.
use Rattle.std.specs.Prelude.{Bool, true, false}
use Rattle.cmdlines_tables.specs.declared.kind.ArgKind.{ArgKind}
use Rattle.cmdlines_tables.specs.declared.kind.ArgKind.TheVariants.{TooHard, DoCompilation, Output, Language, LanguageC, LanguageCxx, InputC, InputCxx, Arch, PreprocessorArgument, PreprocessorTooHard, NeedDepTarget, DepFlag, DepArgumentPath, DepTarget, PassThrough, ExtraHashFile, SerializeDiagnostics, DiagnosticsColor, DiagnosticsColorFlag, NoDiagnosticsColorFlag, XClang}
use Rattle.cmdlines_tables.specs.declared.kind.OptionList.{OptionList}
use Rattle.cmdlines_tables.specs.declared.kind.OptionList.TheVariants as lists

abbrev pub list_of : ArgKind → OptionList
list_of TooHard = lists.Nowhere
list_of DoCompilation = lists.Nowhere
list_of Output = lists.Nowhere
list_of Language = lists.Nowhere
list_of LanguageC = lists.Nowhere
list_of LanguageCxx = lists.Nowhere
list_of InputC = lists.Nowhere
list_of InputCxx = lists.Nowhere
list_of Arch = lists.Arch
list_of PreprocessorArgument = lists.Preprocessor
list_of PreprocessorTooHard = lists.Preprocessor
list_of NeedDepTarget = lists.Dependency
list_of DepFlag = lists.Dependency
list_of DepArgumentPath = lists.Dependency
list_of DepTarget = lists.Dependency
list_of PassThrough = lists.Common
list_of ExtraHashFile = lists.Common
list_of SerializeDiagnostics = lists.Unhashed
list_of DiagnosticsColor = lists.Common
list_of DiagnosticsColorFlag = lists.Common
list_of NoDiagnosticsColorFlag = lists.Common
list_of XClang = lists.Common

abbrev pub is_same_list : OptionList → OptionList → Bool
is_same_list lists.Preprocessor lists.Preprocessor = true
is_same_list lists.Dependency lists.Dependency = true
is_same_list lists.Unhashed lists.Unhashed = true
is_same_list lists.Common lists.Common = true
is_same_list lists.Arch lists.Arch = true
is_same_list lists.Nowhere lists.Nowhere = true
is_same_list _ _ = false

-- options that hand on what isn't looked at, and all that make the preprocessor write a file
abbrev pub blocks_preprocessor_cache : ArgKind → Bool
blocks_preprocessor_cache PreprocessorTooHard = true
blocks_preprocessor_cache k = is_same_list (list_of k) lists.Dependency

abbrev pub is_too_hard : ArgKind → Bool
is_too_hard TooHard = true
is_too_hard _ = false

abbrev pub is_front_end : ArgKind → Bool
is_front_end XClang = true
is_front_end _ = false

abbrev pub is_compile : ArgKind → Bool
is_compile DoCompilation = true
is_compile _ = false

abbrev pub is_output : ArgKind → Bool
is_output Output = true
is_output _ = false

abbrev pub is_arch : ArgKind → Bool
is_arch Arch = true
is_arch _ = false

abbrev pub is_diagnostics : ArgKind → Bool
is_diagnostics SerializeDiagnostics = true
is_diagnostics _ = false

abbrev pub is_extra_file : ArgKind → Bool
is_extra_file ExtraHashFile = true
is_extra_file _ = false

-- an option that asks for a dependency file, one that says where it goes, and one that names its target
abbrev pub asks_dependencies : ArgKind → Bool
asks_dependencies NeedDepTarget = true
asks_dependencies _ = false

abbrev pub is_dependency_path : ArgKind → Bool
is_dependency_path DepArgumentPath = true
is_dependency_path _ = false

abbrev pub is_dependency_target : ArgKind → Bool
is_dependency_target DepTarget = true
is_dependency_target _ = false

-- an option that gives the input
abbrev pub gives_input : ArgKind → Bool
gives_input InputC = true
gives_input InputCxx = true
gives_input _ = false
