-- What is known of files, once one more is noted.
use Rattle.std.proofs.Common.{◌≡◌, Bool, true, false, cond, List, Option, Some, refl, sym, ap, ◌∙◌}
use Rattle.std.specs.Str.{bytes_eq}
use Rattle.std.proofs.lemmas.Slice.Eq.{bytes_eq-Decides}
use Rattle.base_files.specs.Bytes.{Bytes}

-- what is noted is so, and what was known stays so
pub noted_is_true : (noted path : Bytes) (arguments found : Option (List Bytes)) (old new : Option (Option (List Bytes))) (arguments_at : Bytes → Option (List Bytes)) → new ≡ cond (bytes_eq noted path) (Some arguments) old → arguments_at noted ≡ arguments → (old ≡ Some found → found ≡ arguments_at path) → new ≡ Some found → found ≡ arguments_at path
noted_is_true noted path arguments found old new arguments_at updated is_so known e = by (bytes_eq noted path) refl updated
  where
    by : (b : Bool) → bytes_eq noted path ≡ b → new ≡ cond b (Some arguments) old → found ≡ arguments_at path
    by true same u =
        let same_path : noted ≡ path = (bytes_eq-Decides noted path).0 same in
        let given : arguments ≡ found = cc in
        sym given ∙ sym is_so ∙ ap arguments_at same_path
    by false other u = known (sym u ∙ e)
