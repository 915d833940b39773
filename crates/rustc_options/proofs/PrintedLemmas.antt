-- Libraries and folders of libraries, printed.
use Rattle.std.proofs.Common.{◌≡◌, ◌++◌, Option, None, Some, codes, ap, ◌∙◌, sym}
use Rattle.base_files.specs.Bytes.{Bytes}
use Rattle.rustc_options.specs.Splitting.{before_equals, after_equals, maybe_with_equals}
use Rattle.rustc_options.specs.Data.{link_library_by, link_library_of, link_library_word, link_path_by, link_path_of, link_path_word}
use Rattle.rustc_options.specs.Printed.{both_again}
use Rattle.rustc_options.proofs.CutLemmas.{whole-before}

-- both parts, where there are two
both-cut : (word back : Bytes) → after_equals word ≡ Some back → maybe_with_equals (before_equals word) (Some back) ≡ word
both-cut word back cut = sym (ap (maybe_with_equals (before_equals word)) cut) ∙ both_again word

pub library-again : (word back : Bytes) → after_equals word ≡ Some back → link_library_word (link_library_of word) ≡ word
library-again word back cut = ap (λ (b : Option Bytes). link_library_word (link_library_by (before_equals word) b)) cut ∙ both-cut word back cut

pub library-named : (word : Bytes) → after_equals word ≡ None → link_library_word (link_library_of word) ≡ codes "dylib=" ++ word
library-named word whole = ap (λ (b : Option Bytes). link_library_word (link_library_by (before_equals word) b)) whole ∙ ap (λ (w : Bytes). codes "dylib=" ++ w) (whole-before word whole)

pub path-again : (word back : Bytes) → after_equals word ≡ Some back → link_path_word (link_path_of word) ≡ word
path-again word back cut = ap (λ (b : Option Bytes). link_path_word (link_path_by (before_equals word) b)) cut ∙ both-cut word back cut

pub path-named : (word : Bytes) → after_equals word ≡ None → link_path_word (link_path_of word) ≡ codes "all=" ++ word
path-named word whole = ap (λ (b : Option Bytes). link_path_word (link_path_by (before_equals word) b)) whole ∙ ap (λ (w : Bytes). codes "all=" ++ w) (whole-before word whole)
