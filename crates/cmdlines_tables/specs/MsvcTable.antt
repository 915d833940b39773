-- The two tables of Msvc: each option once after a dash and once after a slash.
use Rattle.std.specs.Prelude.{List, [], ◌∷◌, None, Some, codes}
use Rattle.cmdlines_base.specs.declared.argument.ArgDisposition.TheVariants.{CanBeSeparated, Concatenated}
use Rattle.cmdlines_base.specs.Table.{Entry}
use Rattle.cmdlines_tables.specs.declared.kind.ArgKind.{ArgKind}
use Rattle.cmdlines_tables.specs.declared.kind.ArgKind.TheVariants.{DoCompilation, InputC, InputCxx, LanguageC, LanguageCxx, Output, PassThrough, PreprocessorArgument, TooHard}

-- the options after a dash
unfoldable pub msvc_dash_entries : List (Entry ArgKind)
msvc_dash_entries =
    record { flag = codes "-D"; kind = PreprocessorArgument; takes = Some (CanBeSeparated None) }
    ∷ record { flag = codes "-E"; kind = TooHard; takes = None }
    ∷ record { flag = codes "-EH"; kind = PassThrough; takes = Some (Concatenated None) }
    ∷ record { flag = codes "-EP"; kind = TooHard; takes = None }
    ∷ record { flag = codes "-FA"; kind = TooHard; takes = Some (Concatenated None) }
    ∷ record { flag = codes "-FC"; kind = PassThrough; takes = Some (Concatenated None) }
    ∷ record { flag = codes "-FI"; kind = PreprocessorArgument; takes = Some (CanBeSeparated None) }
    ∷ record { flag = codes "-FR"; kind = TooHard; takes = Some (Concatenated None) }
    ∷ record { flag = codes "-FS"; kind = PassThrough; takes = Some (Concatenated None) }
    ∷ record { flag = codes "-Fa"; kind = TooHard; takes = Some (Concatenated None) }
    ∷ record { flag = codes "-Fd"; kind = TooHard; takes = Some (Concatenated None) }
    ∷ record { flag = codes "-Fo"; kind = Output; takes = Some (Concatenated None) }
    ∷ record { flag = codes "-Fp"; kind = TooHard; takes = Some (Concatenated None) }
    ∷ record { flag = codes "-G"; kind = PassThrough; takes = Some (Concatenated None) }
    ∷ record { flag = codes "-I"; kind = PreprocessorArgument; takes = Some (CanBeSeparated None) }
    ∷ record { flag = codes "-M"; kind = PassThrough; takes = Some (Concatenated None) }
    ∷ record { flag = codes "-MP"; kind = TooHard; takes = Some (Concatenated None) }
    ∷ record { flag = codes "-O"; kind = PassThrough; takes = Some (Concatenated None) }
    ∷ record { flag = codes "-P"; kind = TooHard; takes = None }
    ∷ record { flag = codes "-RTC"; kind = PassThrough; takes = Some (Concatenated None) }
    ∷ record { flag = codes "-TC"; kind = LanguageC; takes = None }
    ∷ record { flag = codes "-TP"; kind = LanguageCxx; takes = None }
    ∷ record { flag = codes "-Tc"; kind = InputC; takes = Some (CanBeSeparated None) }
    ∷ record { flag = codes "-Tp"; kind = InputCxx; takes = Some (CanBeSeparated None) }
    ∷ record { flag = codes "-U"; kind = PreprocessorArgument; takes = Some (CanBeSeparated None) }
    ∷ record { flag = codes "-W"; kind = PassThrough; takes = Some (Concatenated None) }
    ∷ record { flag = codes "-Yc"; kind = TooHard; takes = Some (Concatenated None) }
    ∷ record { flag = codes "-Yu"; kind = TooHard; takes = Some (Concatenated None) }
    ∷ record { flag = codes "-Z7"; kind = PassThrough; takes = Some (Concatenated None) }
    ∷ record { flag = codes "-ZI"; kind = TooHard; takes = None }
    ∷ record { flag = codes "-Zc:"; kind = PassThrough; takes = Some (Concatenated None) }
    ∷ record { flag = codes "-Zi"; kind = TooHard; takes = None }
    ∷ record { flag = codes "-arch:"; kind = PassThrough; takes = Some (Concatenated None) }
    ∷ record { flag = codes "-bigobj"; kind = PassThrough; takes = Some (Concatenated None) }
    ∷ record { flag = codes "-c"; kind = DoCompilation; takes = None }
    ∷ record { flag = codes "-clang:"; kind = TooHard; takes = Some (Concatenated None) }
    ∷ record { flag = codes "-clr"; kind = TooHard; takes = Some (Concatenated None) }
    ∷ record { flag = codes "-diagnostics:"; kind = PassThrough; takes = Some (Concatenated None) }
    ∷ record { flag = codes "-execution-charset:"; kind = PassThrough; takes = Some (Concatenated None) }
    ∷ record { flag = codes "-external:I"; kind = PreprocessorArgument; takes = Some (CanBeSeparated None) }
    ∷ record { flag = codes "-fp:"; kind = PassThrough; takes = Some (Concatenated None) }
    ∷ record { flag = codes "-guard:"; kind = PassThrough; takes = Some (Concatenated None) }
    ∷ record { flag = codes "-ifcOutput"; kind = TooHard; takes = Some (Concatenated None) }
    ∷ record { flag = codes "-interface"; kind = TooHard; takes = None }
    ∷ record { flag = codes "-link"; kind = TooHard; takes = None }
    ∷ record { flag = codes "-nologo"; kind = PassThrough; takes = Some (Concatenated None) }
    ∷ record { flag = codes "-permissive"; kind = PassThrough; takes = Some (Concatenated None) }
    ∷ record { flag = codes "-sdl"; kind = PassThrough; takes = Some (Concatenated None) }
    ∷ record { flag = codes "-showIncludes"; kind = TooHard; takes = None }
    ∷ record { flag = codes "-source-charset:"; kind = PassThrough; takes = Some (Concatenated None) }
    ∷ record { flag = codes "-sourceDependencies"; kind = TooHard; takes = Some (Concatenated None) }
    ∷ record { flag = codes "-std:"; kind = PassThrough; takes = Some (Concatenated None) }
    ∷ record { flag = codes "-utf-8"; kind = PassThrough; takes = Some (Concatenated None) }
    ∷ record { flag = codes "-wd"; kind = PassThrough; takes = Some (Concatenated None) }
    ∷ record { flag = codes "-we"; kind = PassThrough; takes = Some (Concatenated None) }
    ∷ []

-- the same after a slash
unfoldable pub msvc_slash_entries : List (Entry ArgKind)
msvc_slash_entries =
    record { flag = codes "/D"; kind = PreprocessorArgument; takes = Some (CanBeSeparated None) }
    ∷ record { flag = codes "/E"; kind = TooHard; takes = None }
    ∷ record { flag = codes "/EH"; kind = PassThrough; takes = Some (Concatenated None) }
    ∷ record { flag = codes "/EP"; kind = TooHard; takes = None }
    ∷ record { flag = codes "/FA"; kind = TooHard; takes = Some (Concatenated None) }
    ∷ record { flag = codes "/FC"; kind = PassThrough; takes = Some (Concatenated None) }
    ∷ record { flag = codes "/FI"; kind = PreprocessorArgument; takes = Some (CanBeSeparated None) }
    ∷ record { flag = codes "/FR"; kind = TooHard; takes = Some (Concatenated None) }
    ∷ record { flag = codes "/FS"; kind = PassThrough; takes = Some (Concatenated None) }
    ∷ record { flag = codes "/Fa"; kind = TooHard; takes = Some (Concatenated None) }
    ∷ record { flag = codes "/Fd"; kind = TooHard; takes = Some (Concatenated None) }
    ∷ record { flag = codes "/Fo"; kind = Output; takes = Some (Concatenated None) }
    ∷ record { flag = codes "/Fp"; kind = TooHard; takes = Some (Concatenated None) }
    ∷ record { flag = codes "/G"; kind = PassThrough; takes = Some (Concatenated None) }
    ∷ record { flag = codes "/I"; kind = PreprocessorArgument; takes = Some (CanBeSeparated None) }
    ∷ record { flag = codes "/M"; kind = PassThrough; takes = Some (Concatenated None) }
    ∷ record { flag = codes "/MP"; kind = TooHard; takes = Some (Concatenated None) }
    ∷ record { flag = codes "/O"; kind = PassThrough; takes = Some (Concatenated None) }
    ∷ record { flag = codes "/P"; kind = TooHard; takes = None }
    ∷ record { flag = codes "/RTC"; kind = PassThrough; takes = Some (Concatenated None) }
    ∷ record { flag = codes "/TC"; kind = LanguageC; takes = None }
    ∷ record { flag = codes "/TP"; kind = LanguageCxx; takes = None }
    ∷ record { flag = codes "/Tc"; kind = InputC; takes = Some (CanBeSeparated None) }
    ∷ record { flag = codes "/Tp"; kind = InputCxx; takes = Some (CanBeSeparated None) }
    ∷ record { flag = codes "/U"; kind = PreprocessorArgument; takes = Some (CanBeSeparated None) }
    ∷ record { flag = codes "/W"; kind = PassThrough; takes = Some (Concatenated None) }
    ∷ record { flag = codes "/Yc"; kind = TooHard; takes = Some (Concatenated None) }
    ∷ record { flag = codes "/Yu"; kind = TooHard; takes = Some (Concatenated None) }
    ∷ record { flag = codes "/Z7"; kind = PassThrough; takes = Some (Concatenated None) }
    ∷ record { flag = codes "/ZI"; kind = TooHard; takes = None }
    ∷ record { flag = codes "/Zc:"; kind = PassThrough; takes = Some (Concatenated None) }
    ∷ record { flag = codes "/Zi"; kind = TooHard; takes = None }
    ∷ record { flag = codes "/arch:"; kind = PassThrough; takes = Some (Concatenated None) }
    ∷ record { flag = codes "/bigobj"; kind = PassThrough; takes = Some (Concatenated None) }
    ∷ record { flag = codes "/c"; kind = DoCompilation; takes = None }
    ∷ record { flag = codes "/clang:"; kind = TooHard; takes = Some (Concatenated None) }
    ∷ record { flag = codes "/clr"; kind = TooHard; takes = Some (Concatenated None) }
    ∷ record { flag = codes "/diagnostics:"; kind = PassThrough; takes = Some (Concatenated None) }
    ∷ record { flag = codes "/execution-charset:"; kind = PassThrough; takes = Some (Concatenated None) }
    ∷ record { flag = codes "/external:I"; kind = PreprocessorArgument; takes = Some (CanBeSeparated None) }
    ∷ record { flag = codes "/fp:"; kind = PassThrough; takes = Some (Concatenated None) }
    ∷ record { flag = codes "/guard:"; kind = PassThrough; takes = Some (Concatenated None) }
    ∷ record { flag = codes "/ifcOutput"; kind = TooHard; takes = Some (Concatenated None) }
    ∷ record { flag = codes "/interface"; kind = TooHard; takes = None }
    ∷ record { flag = codes "/link"; kind = TooHard; takes = None }
    ∷ record { flag = codes "/nologo"; kind = PassThrough; takes = Some (Concatenated None) }
    ∷ record { flag = codes "/permissive"; kind = PassThrough; takes = Some (Concatenated None) }
    ∷ record { flag = codes "/sdl"; kind = PassThrough; takes = Some (Concatenated None) }
    ∷ record { flag = codes "/showIncludes"; kind = TooHard; takes = None }
    ∷ record { flag = codes "/source-charset:"; kind = PassThrough; takes = Some (Concatenated None) }
    ∷ record { flag = codes "/sourceDependencies"; kind = TooHard; takes = Some (Concatenated None) }
    ∷ record { flag = codes "/std:"; kind = PassThrough; takes = Some (Concatenated None) }
    ∷ record { flag = codes "/utf-8"; kind = PassThrough; takes = Some (Concatenated None) }
    ∷ record { flag = codes "/wd"; kind = PassThrough; takes = Some (Concatenated None) }
    ∷ record { flag = codes "/we"; kind = PassThrough; takes = Some (Concatenated None) }
    ∷ []
