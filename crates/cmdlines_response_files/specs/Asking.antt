-- Which files are asked for while words are opened.
use Rattle.std.specs.Prelude.{◌≡◌, List, Some}
use Rattle.std.specs.List.{Contains}
use Rattle.base_files.specs.Bytes.{Bytes}
use Rattle.base_files.specs.Tree.{Tree}
use Rattle.cmdlines_response_files.specs.Closed.{without}
use Rattle.cmdlines_response_files.specs.Expansion.{opened_by}
use Rattle.cmdlines_response_files.specs.Styles.{path_of}
use Rattle.cmdlines_response_files.specs.declared.opening.Opened.{Opened}
use Rattle.cmdlines_response_files.specs.declared.style.Style.{Style}

-- Opening words asks for a file: a word names it, or a file that a word opens has words that ask for it, over the other files.
pub data IsAskedFor (style : Style) (dir : Bytes) : Tree → List Bytes → Bytes → Type 0 where
  by_word : {closed : Tree} {words : List Bytes} {word name : Bytes} → Contains words word → path_of style dir word ≡ Some name → IsAskedFor style dir closed words name
  in_file : {closed : Tree} {words : List Bytes} {word name : Bytes} {opened : Opened} → Contains words word → opened_by style dir closed word ≡ Some opened → IsAskedFor style dir (without opened.name closed) opened.words name → IsAskedFor style dir closed words name
