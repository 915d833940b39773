-- What one option adds to the lists: its words to its list, and its word alone where it is an input or an architecture or names a file.
use Rattle.std.specs.Prelude.{List, ◌++◌}
use Rattle.std.specs.Option.{option_to_list}
use Rattle.base_files.specs.Bytes.{Bytes}
use Rattle.cmdlines_tables.specs.Kinds.{is_arch, is_extra_file}
use Rattle.cmdlines_tables.specs.declared.kind.ArgKind.{ArgKind}
use Rattle.cmdlines_tables.specs.declared.kind.OptionList.{OptionList}
use Rattle.cmdlines_tables.specs.declared.kind.OptionList.TheVariants as lists
use Rattle.cmdlines.specs.Wanted.{input_given}
use Rattle.cmdlines_base.specs.Choices.{when}
use Rattle.cmdlines.specs.declared.lists.Lists.{Lists}

abbrev pub with_words : Lists → OptionList → List Bytes → Lists
with_words l lists.Preprocessor words = record l { preprocessor = l.preprocessor ++ words }
with_words l lists.Dependency words = record l { dependency = l.dependency ++ words }
with_words l lists.Unhashed words = record l { unhashed = l.unhashed ++ words }
with_words l lists.Common words = record l { common = l.common ++ words }
with_words l lists.Arch words = record l { arch = l.arch ++ words }
with_words l lists.Nowhere words = l

abbrev pub with_option_word : Lists → ArgKind → Bytes → Lists
with_option_word l kind word = record l {
  inputs = l.inputs ++ input_given kind word;
  architectures = l.architectures ++ option_to_list (when (is_arch kind) word);
  extra_files = l.extra_files ++ option_to_list (when (is_extra_file kind) word);
}
