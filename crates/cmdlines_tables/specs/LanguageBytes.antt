-- Languages as one byte each.
use Rattle.std.proofs.Common.{◌≡◌, ℕ, ◌==◌, Option, None, Some, refl, if◌then◌else◌}
use Rattle.base_formats.specs.Choices.{AnyFits, chosen, coded, coded_at, coded_format}
use Rattle.base_formats.specs.Formats.{IsFormat}
use Rattle.cmdlines_tables.specs.declared.language.Language.{Language}
use Rattle.cmdlines_tables.specs.declared.language.Language.TheVariants.{C, Cxx, CPreprocessed, CxxPreprocessed, Assembler, AssemblerToPreprocess, Rust}

abbrev pub language_code : Language → ℕ
language_code C = 0
language_code Cxx = 1
language_code CPreprocessed = 2
language_code CxxPreprocessed = 3
language_code Assembler = 4
language_code AssemblerToPreprocess = 5
language_code Rust = 6

abbrev pub language_of : ℕ → Option Language
language_of b =
    if b == 0 then Some C else (
    if b == 1 then Some Cxx else (
    if b == 2 then Some CPreprocessed else (
    if b == 3 then Some CxxPreprocessed else (
    if b == 4 then Some Assembler else (
    if b == 5 then Some AssemblerToPreprocess else (
    if b == 6 then Some Rust else None))))))

language_back : (x : Language) → language_of (language_code x) ≡ Some x
language_back C = refl
language_back Cxx = refl
language_back CPreprocessed = refl
language_back CxxPreprocessed = refl
language_back Assembler = refl
language_back AssemblerToPreprocess = refl
language_back Rust = refl

language_one_way : (b : ℕ) (x : Language) → language_of b ≡ Some x → language_code x ≡ b
language_one_way b x e = chosen language_code b 0 C x _ (λ e1. chosen language_code b 1 Cxx x _ (λ e2. chosen language_code b 2 CPreprocessed x _ (λ e3. chosen language_code b 3 CxxPreprocessed x _ (λ e4. chosen language_code b 4 Assembler x _ (λ e5. chosen language_code b 5 AssemblerToPreprocess x _ (λ e6. chosen language_code b 6 Rust x _ (λ e7. absurd cc) refl e6) refl e5) refl e4) refl e3) refl e2) refl e1) refl e

pub language_format : IsFormat (coded_at language_of) (coded language_code) AnyFits
language_format = coded_format language_of language_code language_back language_one_way
