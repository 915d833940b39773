-- The words of a request, with those that name files which its compiler opens replaced by the words of these files.
use Rattle.std.specs.Prelude.{List, Option, None, Some}
use Rattle.base_files.specs.Bytes.{Bytes}
use Rattle.base_files.specs.Tree.{Tree}
use Rattle.cmdlines_tables.specs.CompilerFacts.{style_of}
use Rattle.cmdlines_tables.specs.declared.compiler.CCompilerKind.{CCompilerKind}
use Rattle.cmdlines_response_files.specs.Asking.{IsAskedFor}
use Rattle.cmdlines_response_files.specs.Expansion.{expanded}
use Rattle.cmdlines_response_files.specs.declared.style.Style.{Style}

-- the words, where it opens none
abbrev pub opened_by : Option Style → Bytes → Tree → List Bytes → List Bytes
opened_by None dir files words = words
opened_by (Some style) dir files words = expanded style dir files words

abbrev pub opened_words : CCompilerKind → Bytes → Tree → List Bytes → List Bytes
opened_words kind dir files words = opened_by (style_of kind) dir files words

-- opening the words in that style asks for the file; where none are opened, for none
abbrev pub IsAskedIn : Option Style → Bytes → Tree → List Bytes → Bytes → Type 0
IsAskedIn None dir files words name = ⊥
IsAskedIn (Some style) dir files words name = IsAskedFor style dir files words name

-- a compiler of that kind asks for the file while it opens the words
abbrev pub IsAskedByKind : CCompilerKind → Bytes → Tree → List Bytes → Bytes → Type 0
IsAskedByKind kind dir files words name = IsAskedIn (style_of kind) dir files words name
