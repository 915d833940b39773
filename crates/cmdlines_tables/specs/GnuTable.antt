-- The options of Gcc, and those that Clang has beside them, each with what it is for and how it takes a value.
use Rattle.std.specs.Prelude.{List, [], ◌∷◌, None, Some, codes}
use Rattle.cmdlines_base.specs.declared.argument.ArgDisposition.TheVariants.{Separated, CanBeSeparated, Concatenated}
use Rattle.cmdlines_base.specs.Table.{Entry}
use Rattle.cmdlines_tables.specs.declared.kind.ArgKind.{ArgKind}
use Rattle.cmdlines_tables.specs.declared.kind.ArgKind.TheVariants.{TooHard, DoCompilation, Output, Language, Arch, PreprocessorArgument, PreprocessorTooHard, NeedDepTarget, DepFlag, DepArgumentPath, DepTarget, PassThrough, ExtraHashFile, SerializeDiagnostics, DiagnosticsColor, DiagnosticsColorFlag, NoDiagnosticsColorFlag, XClang}

-- the options that Gcc has, and Clang with it: 61 is '=', 44 is ','
unfoldable pub gnu_entries : List (Entry ArgKind)
gnu_entries =
    record { flag = codes "-"; kind = TooHard; takes = None }
    ∷ record { flag = codes "--coverage"; kind = TooHard; takes = None }
    ∷ record { flag = codes "--param"; kind = PassThrough; takes = Some Separated }
    ∷ record { flag = codes "--save-temps"; kind = TooHard; takes = None }
    ∷ record { flag = codes "--sysroot"; kind = PassThrough; takes = Some (CanBeSeparated (Some 61)) }
    ∷ record { flag = codes "-B"; kind = PassThrough; takes = Some (CanBeSeparated None) }
    ∷ record { flag = codes "-D"; kind = PreprocessorArgument; takes = Some (CanBeSeparated None) }
    ∷ record { flag = codes "-E"; kind = TooHard; takes = None }
    ∷ record { flag = codes "-F"; kind = PreprocessorArgument; takes = Some (CanBeSeparated None) }
    ∷ record { flag = codes "-I"; kind = PreprocessorArgument; takes = Some (CanBeSeparated None) }
    ∷ record { flag = codes "-L"; kind = PassThrough; takes = Some (CanBeSeparated None) }
    ∷ record { flag = codes "-M"; kind = TooHard; takes = None }
    ∷ record { flag = codes "-MD"; kind = NeedDepTarget; takes = None }
    ∷ record { flag = codes "-MF"; kind = DepArgumentPath; takes = Some (CanBeSeparated None) }
    ∷ record { flag = codes "-MG"; kind = DepFlag; takes = None }
    ∷ record { flag = codes "-MM"; kind = TooHard; takes = None }
    ∷ record { flag = codes "-MMD"; kind = NeedDepTarget; takes = None }
    ∷ record { flag = codes "-MP"; kind = DepFlag; takes = None }
    ∷ record { flag = codes "-MQ"; kind = DepTarget; takes = Some (CanBeSeparated None) }
    ∷ record { flag = codes "-MT"; kind = DepTarget; takes = Some (CanBeSeparated None) }
    ∷ record { flag = codes "-P"; kind = TooHard; takes = None }
    ∷ record { flag = codes "-S"; kind = TooHard; takes = None }
    ∷ record { flag = codes "-T"; kind = PassThrough; takes = Some (CanBeSeparated None) }
    ∷ record { flag = codes "-U"; kind = PreprocessorArgument; takes = Some (CanBeSeparated None) }
    ∷ record { flag = codes "-Wp"; kind = PreprocessorTooHard; takes = Some (Concatenated (Some 44)) }
    ∷ record { flag = codes "-Xassembler"; kind = PassThrough; takes = Some Separated }
    ∷ record { flag = codes "-Xlinker"; kind = PassThrough; takes = Some Separated }
    ∷ record { flag = codes "-Xpreprocessor"; kind = PreprocessorTooHard; takes = Some Separated }
    ∷ record { flag = codes "-arch"; kind = Arch; takes = Some Separated }
    ∷ record { flag = codes "-c"; kind = DoCompilation; takes = None }
    ∷ record { flag = codes "-fauto-profile"; kind = TooHard; takes = Some (Concatenated (Some 61)) }
    ∷ record { flag = codes "-fdiagnostics-color"; kind = DiagnosticsColor; takes = Some (Concatenated (Some 61)) }
    ∷ record { flag = codes "-fmodules-ts"; kind = TooHard; takes = None }
    ∷ record { flag = codes "-fno-diagnostics-color"; kind = NoDiagnosticsColorFlag; takes = None }
    ∷ record { flag = codes "-fplugin"; kind = ExtraHashFile; takes = Some (Concatenated (Some 61)) }
    ∷ record { flag = codes "-fprofile-arcs"; kind = TooHard; takes = None }
    ∷ record { flag = codes "-fprofile-generate"; kind = TooHard; takes = Some (Concatenated (Some 61)) }
    ∷ record { flag = codes "-fprofile-use"; kind = TooHard; takes = Some (Concatenated (Some 61)) }
    ∷ record { flag = codes "-frepo"; kind = TooHard; takes = None }
    ∷ record { flag = codes "-fsyntax-only"; kind = TooHard; takes = None }
    ∷ record { flag = codes "-ftest-coverage"; kind = TooHard; takes = None }
    ∷ record { flag = codes "-gsplit-dwarf"; kind = TooHard; takes = None }
    ∷ record { flag = codes "-idirafter"; kind = PreprocessorArgument; takes = Some (CanBeSeparated None) }
    ∷ record { flag = codes "-imacros"; kind = PreprocessorArgument; takes = Some (CanBeSeparated None) }
    ∷ record { flag = codes "-include"; kind = PreprocessorArgument; takes = Some (CanBeSeparated None) }
    ∷ record { flag = codes "-iprefix"; kind = PreprocessorArgument; takes = Some (CanBeSeparated None) }
    ∷ record { flag = codes "-iquote"; kind = PreprocessorArgument; takes = Some (CanBeSeparated None) }
    ∷ record { flag = codes "-isysroot"; kind = PreprocessorArgument; takes = Some (CanBeSeparated None) }
    ∷ record { flag = codes "-isystem"; kind = PreprocessorArgument; takes = Some (CanBeSeparated None) }
    ∷ record { flag = codes "-iwithprefix"; kind = PreprocessorArgument; takes = Some (CanBeSeparated None) }
    ∷ record { flag = codes "-iwithprefixbefore"; kind = PreprocessorArgument; takes = Some (CanBeSeparated None) }
    ∷ record { flag = codes "-l"; kind = PassThrough; takes = Some (CanBeSeparated None) }
    ∷ record { flag = codes "-o"; kind = Output; takes = Some (CanBeSeparated None) }
    ∷ record { flag = codes "-save-temps"; kind = TooHard; takes = None }
    ∷ record { flag = codes "-specs"; kind = TooHard; takes = Some (Concatenated (Some 61)) }
    ∷ record { flag = codes "-std"; kind = PassThrough; takes = Some (Concatenated (Some 61)) }
    ∷ record { flag = codes "-stdlib"; kind = PassThrough; takes = Some (Concatenated (Some 61)) }
    ∷ record { flag = codes "-u"; kind = PassThrough; takes = Some (CanBeSeparated None) }
    ∷ record { flag = codes "-x"; kind = Language; takes = Some (CanBeSeparated None) }
    ∷ record { flag = codes "-z"; kind = PassThrough; takes = Some (CanBeSeparated None) }
    ∷ record { flag = codes "@"; kind = TooHard; takes = Some (Concatenated None) }
    ∷ []

-- those that Clang has beside them
unfoldable pub clang_entries : List (Entry ArgKind)
clang_entries =
    record { flag = codes "--config"; kind = TooHard; takes = Some (CanBeSeparated (Some 61)) }
    ∷ record { flag = codes "--precompile"; kind = TooHard; takes = None }
    ∷ record { flag = codes "--serialize-diagnostics"; kind = SerializeDiagnostics; takes = Some Separated }
    ∷ record { flag = codes "--target"; kind = PassThrough; takes = Some (Concatenated (Some 61)) }
    ∷ record { flag = codes "-Xclang"; kind = XClang; takes = Some Separated }
    ∷ record { flag = codes "-fcolor-diagnostics"; kind = DiagnosticsColorFlag; takes = None }
    ∷ record { flag = codes "-fcoverage-mapping"; kind = TooHard; takes = None }
    ∷ record { flag = codes "-fcxx-modules"; kind = TooHard; takes = None }
    ∷ record { flag = codes "-fmodule-file"; kind = TooHard; takes = Some (Concatenated (Some 61)) }
    ∷ record { flag = codes "-fmodule-output"; kind = TooHard; takes = Some (Concatenated (Some 61)) }
    ∷ record { flag = codes "-fmodules"; kind = TooHard; takes = None }
    ∷ record { flag = codes "-fno-color-diagnostics"; kind = NoDiagnosticsColorFlag; takes = None }
    ∷ record { flag = codes "-fprebuilt-implicit-modules"; kind = TooHard; takes = None }
    ∷ record { flag = codes "-fprebuilt-module-path"; kind = TooHard; takes = Some (Concatenated (Some 61)) }
    ∷ record { flag = codes "-fprofile-instr-use"; kind = TooHard; takes = Some (Concatenated (Some 61)) }
    ∷ record { flag = codes "-fprofile-sample-use"; kind = TooHard; takes = Some (Concatenated (Some 61)) }
    ∷ record { flag = codes "-fsanitize-blacklist"; kind = ExtraHashFile; takes = Some (Concatenated (Some 61)) }
    ∷ record { flag = codes "-fsanitize-ignorelist"; kind = ExtraHashFile; takes = Some (Concatenated (Some 61)) }
    ∷ record { flag = codes "-include-pch"; kind = TooHard; takes = Some Separated }
    ∷ record { flag = codes "-mllvm"; kind = PassThrough; takes = Some Separated }
    ∷ record { flag = codes "-target"; kind = PassThrough; takes = Some Separated }
    ∷ []
