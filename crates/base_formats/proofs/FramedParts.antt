-- Framed parts are determined by their bytes.
use Rattle.std.proofs.Common.{◌≡◌, ℕ, ◌++◌, List, [], ◌∷◌, refl, sym, ap, ◌∙◌}
use Rattle.std.specs.List.{AllByRecursion}
use Rattle.std.proofs.lemmas.List.Concat.{flat_map-cons}
use Rattle.base_formats.specs.Reading.{framed_at}
use Rattle.base_formats.specs.Spelling.{FitsFrame, framed, framed_all}
use Rattle.base_formats.specs.FieldFormats.{framed_format, some_is}

framed_all-cons : (part : List ℕ) (parts : List (List ℕ)) → framed_all (part ∷ parts) ≡ framed part ++ framed_all parts
framed_all-cons part parts = flat_map-cons framed part parts

-- no framed part is empty
not_empty : (part : List ℕ) (parts : List (List ℕ)) → framed_all (part ∷ parts) ≡ [] → [] ≡ part ∷ parts
not_empty part parts e =
    let whole : framed part ++ framed_all parts ≡ [] = sym (framed_all-cons part parts) ∙ e in
    absurd cc

pub framed_all-told : (parts other : List (List ℕ)) → AllByRecursion FitsFrame parts → AllByRecursion FitsFrame other → framed_all parts ≡ framed_all other → parts ≡ other
framed_all-told [] [] fits fit_other e = refl
framed_all-told [] (part ∷ parts) fits fit_other e = not_empty part parts (sym e)
framed_all-told (part ∷ parts) [] fits fit_other e = sym (not_empty part parts e)
framed_all-told (one ∷ ones) (two ∷ twos) fits fit_other e =
    let spelled : framed one ++ framed_all ones ≡ framed two ++ framed_all twos = sym (framed_all-cons one ones) ∙ e ∙ framed_all-cons two twos in
    let both = sym (framed_format.again one (framed_all ones) fits.0) ∙ ap framed_at spelled ∙ framed_format.again two (framed_all twos) fit_other.0 in
    let pair = some_is (one, framed_all ones) (two, framed_all twos) both in
    let first : one ≡ two = ap (λ (p : List ℕ × List ℕ). p.0) pair in
    let rest : ones ≡ twos = framed_all-told ones twos fits.1 fit_other.1 (ap (λ (p : List ℕ × List ℕ). p.1) pair) in
    ap (λ (part : List ℕ). part ∷ ones) first ∙ ap (λ (parts : List (List ℕ)). two ∷ parts) rest
