-- The tables of Diab and TaskingVX.
use Rattle.std.specs.Prelude.{List, [], ◌∷◌, None, Some, codes}
use Rattle.cmdlines_base.specs.declared.argument.ArgDisposition.TheVariants.{CanBeSeparated, Concatenated}
use Rattle.cmdlines_base.specs.Table.{Entry}
use Rattle.cmdlines_tables.specs.declared.kind.ArgKind.{ArgKind}
use Rattle.cmdlines_tables.specs.declared.kind.ArgKind.TheVariants.{DoCompilation, Output, PassThrough, PreprocessorArgument, TooHard}

-- The options of Diab: 61 is '='.
unfoldable pub diab_entries : List (Entry ArgKind)
diab_entries =
    record { flag = codes "-"; kind = TooHard; takes = None }
    ∷ record { flag = codes "-###"; kind = TooHard; takes = None }
    ∷ record { flag = codes "-@"; kind = TooHard; takes = Some (Concatenated None) }
    ∷ record { flag = codes "-D"; kind = PreprocessorArgument; takes = Some (CanBeSeparated None) }
    ∷ record { flag = codes "-E"; kind = TooHard; takes = None }
    ∷ record { flag = codes "-I"; kind = PreprocessorArgument; takes = Some (CanBeSeparated None) }
    ∷ record { flag = codes "-L"; kind = PassThrough; takes = Some (CanBeSeparated None) }
    ∷ record { flag = codes "-P"; kind = TooHard; takes = None }
    ∷ record { flag = codes "-S"; kind = TooHard; takes = None }
    ∷ record { flag = codes "-U"; kind = PreprocessorArgument; takes = Some (CanBeSeparated None) }
    ∷ record { flag = codes "-V"; kind = TooHard; takes = None }
    ∷ record { flag = codes "-VV"; kind = TooHard; takes = None }
    ∷ record { flag = codes "-W"; kind = PassThrough; takes = Some (CanBeSeparated None) }
    ∷ record { flag = codes "-Xmake-dependency"; kind = TooHard; takes = None }
    ∷ record { flag = codes "-Xmake-dependency-savefile"; kind = TooHard; takes = Some (Concatenated (Some 61)) }
    ∷ record { flag = codes "-c"; kind = DoCompilation; takes = None }
    ∷ record { flag = codes "-l"; kind = PassThrough; takes = Some (CanBeSeparated None) }
    ∷ record { flag = codes "-o"; kind = Output; takes = Some (CanBeSeparated None) }
    ∷ record { flag = codes "-t"; kind = PassThrough; takes = Some (CanBeSeparated None) }
    ∷ record { flag = codes "@"; kind = TooHard; takes = Some (Concatenated None) }
    ∷ []

-- The options of TaskingVX.
unfoldable pub tasking_vx_entries : List (Entry ArgKind)
tasking_vx_entries =
    record { flag = codes "--define"; kind = PreprocessorArgument; takes = Some (CanBeSeparated (Some 61)) }
    ∷ record { flag = codes "--dep-file"; kind = TooHard; takes = Some (CanBeSeparated (Some 61)) }
    ∷ record { flag = codes "--dry-run"; kind = TooHard; takes = None }
    ∷ record { flag = codes "--include-directory"; kind = PreprocessorArgument; takes = Some (CanBeSeparated (Some 61)) }
    ∷ record { flag = codes "--include-file"; kind = PreprocessorArgument; takes = Some (CanBeSeparated (Some 61)) }
    ∷ record { flag = codes "--library-directory"; kind = PassThrough; takes = Some (CanBeSeparated (Some 61)) }
    ∷ record { flag = codes "--mil-split"; kind = TooHard; takes = Some (CanBeSeparated (Some 61)) }
    ∷ record { flag = codes "--option-file"; kind = TooHard; takes = Some (CanBeSeparated (Some 61)) }
    ∷ record { flag = codes "--output"; kind = Output; takes = Some (CanBeSeparated (Some 61)) }
    ∷ record { flag = codes "--preprocess"; kind = TooHard; takes = Some (CanBeSeparated (Some 61)) }
    ∷ record { flag = codes "--undefine"; kind = PreprocessorArgument; takes = Some (CanBeSeparated (Some 61)) }
    ∷ record { flag = codes "--version"; kind = TooHard; takes = None }
    ∷ record { flag = codes "-?"; kind = TooHard; takes = None }
    ∷ record { flag = codes "-D"; kind = PreprocessorArgument; takes = Some (CanBeSeparated None) }
    ∷ record { flag = codes "-E"; kind = TooHard; takes = None }
    ∷ record { flag = codes "-H"; kind = PreprocessorArgument; takes = Some (CanBeSeparated None) }
    ∷ record { flag = codes "-I"; kind = PreprocessorArgument; takes = Some (CanBeSeparated None) }
    ∷ record { flag = codes "-L"; kind = PassThrough; takes = Some (CanBeSeparated None) }
    ∷ record { flag = codes "-U"; kind = PreprocessorArgument; takes = Some (CanBeSeparated None) }
    ∷ record { flag = codes "-V"; kind = TooHard; takes = None }
    ∷ record { flag = codes "-c"; kind = DoCompilation; takes = None }
    ∷ record { flag = codes "-f"; kind = TooHard; takes = Some (CanBeSeparated None) }
    ∷ record { flag = codes "-n"; kind = TooHard; takes = None }
    ∷ record { flag = codes "-o"; kind = Output; takes = Some (CanBeSeparated None) }
    ∷ []
