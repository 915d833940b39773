-- Words whose first one is known are read as they begin, whatever follows.
use Rattle.std.proofs.Common.{◌≡◌, Bool, true, false, List, [], ◌∷◌, refl, ap}
use Rattle.std.specs.Prelude.{Option, None, Some, codes}
use Rattle.base_files.specs.Bytes.{Bytes}
use Rattle.cmdlines_base.specs.Reading.{Item, valued, flag, first_word, whole, awaits, from_last, from_first, reading}
use Rattle.cmdlines_base.specs.Table.{Entry}
use Rattle.cmdlines_base.specs.declared.argument.ArgDisposition.{ArgDisposition}
use Rattle.cmdlines_base.specs.declared.argument.ArgDisposition.TheVariants.{CanBeConcatenated}
use Rattle.cmdlines_tables.specs.Languages.{language_option}
use Rattle.cmdlines_tables.specs.OwnWords.{AreReadAs, named_words, named_items, language_words, language_items}
use Rattle.cmdlines_tables.specs.declared.compiler.CCompilerKind.{CCompilerKind}
use Rattle.cmdlines_tables.specs.declared.compiler.CCompilerKind.TheVariants.{Msvc}
use Rattle.cmdlines_tables.specs.declared.kind.ArgKind.{ArgKind}
use Rattle.cmdlines_tables.specs.declared.kind.ArgKind.TheVariants.{Language, LanguageC, LanguageCxx}
use Rattle.cmdlines_tables.specs.declared.language.Language.TheVariants as languages

module _ (d : Bool) (t : List (Entry ArgKind)) where
  pub none_read : AreReadAs d t [] []
  none_read rest = refl

  pub alone_read : (word : Bytes) (item : Item ArgKind) → first_word d t word ≡ whole item → AreReadAs d t (word ∷ []) (item ∷ [])
  alone_read word item h [] = ap from_last h
  alone_read word item h (next ∷ rest) = ap (λ s. from_first s next rest (reading d t (next ∷ rest)) (reading d t rest)) h

  pub pair_read : (word value f : Bytes) (k : ArgKind) (e : ArgDisposition) → first_word d t word ≡ awaits f k e → AreReadAs d t (word ∷ value ∷ []) (valued f k value e ∷ [])
  pair_read word value f k e h rest = ap (λ s. from_first s value rest (reading d t (value ∷ rest)) (reading d t rest)) h

  pub option_read : (name : Bytes) (k : ArgKind) → first_word d t name ≡ awaits name k (CanBeConcatenated None) → (value : Bytes) → AreReadAs d t (name ∷ value ∷ []) (valued name k value (CanBeConcatenated None) ∷ [])
  option_read name k h value = pair_read name value name k (CanBeConcatenated None) h

  pub named_read : first_word d t (codes "-x") ≡ awaits (codes "-x") Language (CanBeConcatenated None) → (name : Option Bytes) → AreReadAs d t (named_words name) (named_items name)
  named_read h None = none_read
  named_read h (Some name) = option_read (codes "-x") Language h name

  pub flagged_read : first_word d t (codes "-TC") ≡ whole (flag (codes "-TC") LanguageC) → first_word d t (codes "-TP") ≡ whole (flag (codes "-TP") LanguageCxx) → (language : _) → AreReadAs d t (language_words Msvc language) (language_items Msvc language)
  flagged_read c cxx languages.C = alone_read (codes "-TC") (flag (codes "-TC") LanguageC) c
  flagged_read c cxx languages.Cxx = alone_read (codes "-TP") (flag (codes "-TP") LanguageCxx) cxx
  flagged_read c cxx languages.CPreprocessed = none_read
  flagged_read c cxx languages.CxxPreprocessed = none_read
  flagged_read c cxx languages.Assembler = none_read
  flagged_read c cxx languages.AssemblerToPreprocess = none_read
  flagged_read c cxx languages.Rust = none_read
