-- rustc's table: each option with what it is for and how it takes a value; 61 is '='.
use Rattle.std.specs.Prelude.{false, List, [], ◌∷◌, None, Some, codes}
use Rattle.base_files.specs.Bytes.{Bytes}
use Rattle.cmdlines_base.specs.Reading.{Reading, reading}
use Rattle.cmdlines_base.specs.Table.{Entry}
use Rattle.cmdlines_base.specs.declared.argument.ArgDisposition.TheVariants.{CanBeSeparated}
use Rattle.rustc_options.specs.declared.kind.ArgKind.{ArgKind}
use Rattle.rustc_options.specs.declared.kind.ArgKind.TheVariants as kinds

-- a flag without a value
abbrev alone : Bytes → ArgKind → Entry ArgKind
alone flag kind = record { flag = flag; kind = kind; takes = None }

-- one whose value may be in the next word, or joined after `=`
abbrev by_equals : Bytes → ArgKind → Entry ArgKind
by_equals flag kind = record { flag = flag; kind = kind; takes = Some (CanBeSeparated (Some 61)) }

-- or joined
abbrev joined : Bytes → ArgKind → Entry ArgKind
joined flag kind = record { flag = flag; kind = kind; takes = Some (CanBeSeparated None) }

unfoldable pub rustc_entries : List (Entry ArgKind)
rustc_entries =
    alone (codes "-") kinds.TooHardFlag ∷
    by_equals (codes "--allow") kinds.PassThrough ∷
    by_equals (codes "--cap-lints") kinds.PassThrough ∷
    by_equals (codes "--cfg") kinds.PassThrough ∷
    by_equals (codes "--check-cfg") kinds.PassThrough ∷
    by_equals (codes "--codegen") kinds.CodeGen ∷
    by_equals (codes "--color") kinds.Color ∷
    by_equals (codes "--crate-name") kinds.CrateName ∷
    by_equals (codes "--crate-type") kinds.CrateType ∷
    by_equals (codes "--deny") kinds.PassThrough ∷
    by_equals (codes "--diagnostic-width") kinds.PassThrough ∷
    by_equals (codes "--emit") kinds.Emit ∷
    by_equals (codes "--error-format") kinds.PassThrough ∷
    by_equals (codes "--explain") kinds.NotCompilation ∷
    by_equals (codes "--extern") kinds.Extern ∷
    by_equals (codes "--forbid") kinds.PassThrough ∷
    alone (codes "--help") kinds.NotCompilationFlag ∷
    by_equals (codes "--json") kinds.Json ∷
    by_equals (codes "--out-dir") kinds.OutDir ∷
    by_equals (codes "--pretty") kinds.NotCompilation ∷
    by_equals (codes "--print") kinds.NotCompilation ∷
    by_equals (codes "--remap-path-prefix") kinds.PassThrough ∷
    by_equals (codes "--sysroot") kinds.TooHardPath ∷
    by_equals (codes "--target") kinds.Target ∷
    by_equals (codes "--unpretty") kinds.NotCompilation ∷
    alone (codes "--version") kinds.NotCompilationFlag ∷
    by_equals (codes "--warn") kinds.PassThrough ∷
    joined (codes "-A") kinds.PassThrough ∷
    joined (codes "-C") kinds.CodeGen ∷
    joined (codes "-D") kinds.PassThrough ∷
    joined (codes "-F") kinds.PassThrough ∷
    joined (codes "-L") kinds.LinkPath ∷
    alone (codes "-V") kinds.NotCompilationFlag ∷
    joined (codes "-W") kinds.PassThrough ∷
    joined (codes "-Z") kinds.Unstable ∷
    joined (codes "-l") kinds.LinkLibrary ∷
    joined (codes "-o") kinds.TooHardPath ∷
    []

-- how rustc reads its words: `--` is a word as any other
abbrev pub rustc_reading : List Bytes → Reading ArgKind
rustc_reading words = reading false rustc_entries words
