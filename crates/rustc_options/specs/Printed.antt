-- What a value prints is the word that was read, where its kind says so.
use Rattle.std.specs.Prelude.{◌≡◌, ℕ, ◌==◌, Bool, true, false, [], ◌∷◌, Option, None, Some, unwrap_or, if◌then◌else◌, refl}
use Rattle.std.proofs.Common.{ap, sym, ◌∙◌}
use Rattle.std.proofs.lemmas.Bool.{eqb-true, false≢true}
use Rattle.base_files.specs.Bytes.{Bytes}
use Rattle.rustc_options.specs.Splitting.{before_equals, after_equals, with_equals, maybe_with_equals}
use Rattle.rustc_options.specs.Data.{data_of, word_of, refusal, prints_its_word, IsWordValue, target_word, without_path}
use Rattle.rustc_options.specs.declared.kind.ArgKind.{ArgKind}
use Rattle.rustc_options.specs.declared.kind.ArgKind.TheVariants as kinds
use Rattle.rustc_options.specs.declared.data.ArgData.{ArgData}
use Rattle.rustc_options.specs.declared.types.ArgTarget.TheVariants as targets

-- one more byte before the `=`
onto_both : (b : ℕ) (front : Bytes) (back : Option Bytes) → maybe_with_equals (b ∷ front) back ≡ b ∷ maybe_with_equals front back
onto_both b front None = refl
onto_both b front (Some back) = refl

both_by : (b : ℕ) (bs : Bytes) (is : Bool) → (b == 61) ≡ is → maybe_with_equals (before_equals bs) (after_equals bs) ≡ bs → maybe_with_equals (if is then [] else b ∷ before_equals bs) (if is then Some bs else after_equals bs) ≡ b ∷ bs
both_by b bs true is again = ap (λ c. c ∷ bs) (sym (eqb-true b 61 is))
both_by b bs false is again = onto_both b (before_equals bs) (after_equals bs) ∙ ap (λ cs. b ∷ cs) again

-- a word that was cut in two, put together
pub both_again : (word : Bytes) → maybe_with_equals (before_equals word) (after_equals word) ≡ word
both_again [] = refl
both_again (b ∷ bs) = both_by b bs (b == 61) refl (both_again bs)

extern_by : (front : Bytes) (back : Option Bytes) → without_path back ≡ None → with_equals front (unwrap_or back []) ≡ maybe_with_equals front back
extern_by front None accepted = cc
extern_by front (Some back) accepted = refl

target_by : (word : Bytes) (is_path : Bool) → target_word (if is_path then targets.Path word else targets.Name word) ≡ word
target_by word true = refl
target_by word false = refl

pub word_again : (kind : ArgKind) (word : Bytes) → prints_its_word kind ≡ true → refusal kind word ≡ None → word_of (data_of kind word) ≡ word
word_again kinds.TooHardFlag word prints accepted = absurd (false≢true prints)
word_again kinds.TooHardPath word prints accepted = refl
word_again kinds.NotCompilationFlag word prints accepted = absurd (false≢true prints)
word_again kinds.NotCompilation word prints accepted = refl
word_again kinds.LinkLibrary word prints accepted = absurd (false≢true prints)
word_again kinds.LinkPath word prints accepted = absurd (false≢true prints)
word_again kinds.Emit word prints accepted = refl
word_again kinds.Extern word prints accepted = extern_by (before_equals word) (after_equals word) accepted ∙ both_again word
word_again kinds.Color word prints accepted = refl
word_again kinds.Json word prints accepted = refl
word_again kinds.CrateName word prints accepted = refl
word_again kinds.CrateType word prints accepted = absurd (false≢true prints)
word_again kinds.OutDir word prints accepted = refl
word_again kinds.CodeGen word prints accepted = both_again word
word_again kinds.PassThrough word prints accepted = refl
word_again kinds.Target word prints accepted = target_by word _
word_again kinds.Unstable word prints accepted = both_again word

pub prints_what_it_read : (kind : ArgKind) (read : Bytes) (value : ArgData) → prints_its_word kind ≡ true → IsWordValue kind read value → word_of value ≡ read
prints_what_it_read kind read value prints is = ap word_of is.0 ∙ word_again kind read prints is.1
